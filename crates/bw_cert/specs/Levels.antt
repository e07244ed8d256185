-- The levels and the flags of a plan's own certificate.
use Rattle.std.specs.Prelude.{◌≡◌, ℕ, ◌<◌, List, false, Option, Some, None, length, map}
use Rattle.std.specs.Prelude.{slice_index}
use Rattle.bw_model.specs.declared.mark.Mark.{Mark}
use Rattle.bw_model.specs.Groups.{Groups, children_of, is_leaf}
use Rattle.bw_model.specs.Marks.{price_of}
use Rattle.bw_model.specs.Plan.{child_weights}
use Rattle.bw_model.specs.Demand.{AreMaxTotals, is_tight}
use Rattle.bw_model.specs.Certificate.{Certified, is_flagged, level_at}
use Rattle.bw_model.specs.Split.{IsGreatestLast}

-- the greatest last mark of the children at an inner group with an amount above 0, and none
-- elsewhere
abbrev pub IsLevelAt : Groups → List ℕ → ℕ → Option Mark → Type 0
IsLevelAt groups amounts g None = is_leaf groups.rows g ≡ false → slice_index amounts g ≡ 0
IsLevelAt groups amounts g (Some mark) =
    (is_leaf groups.rows g ≡ false)
    × (0 < slice_index amounts g)
    × IsGreatestLast (child_weights groups.rows g)
    (map (slice_index amounts) (children_of groups.rows g)) (price_of mark)

-- each group has its level
abbrev pub AreLevels : Groups → List ℕ → Certified → Type 0
AreLevels groups amounts certificate =
    (g : ℕ) → g < length groups.rows → IsLevelAt groups amounts g (level_at certificate g)

-- exactly the tight groups are flagged
pub record AreTightFlags (groups : Groups) (certificate : Certified) : Type 0 where
  pub most : List ℕ
  pub mosts : AreMaxTotals groups most
  pub each : (g : ℕ) → g < length groups.rows → is_flagged certificate g ≡ is_tight groups most g
