-- Harm of limits: rounds under them serve less of the plan than rounds without.
use Rattle.std.specs.Prelude.{ℕ, ◌+◌, ◌*◌, ◌<◌, ◌==◌, min, max, if◌then◌else◌}
use Rattle.bw_owned.specs.declared.harm.TheConstants.{PARTS}
use Rattle.bw_owned.specs.declared.harm.ServedSlices.{ServedSlices}

-- the slices of the plan that were served, and 1 of a plan of nothing
abbrev pub served_part : ServedSlices → ℕ
served_part slices = if slices.planned == 0 then 1 else min slices.used slices.planned

-- the slices of the plan, and 1 of a plan of nothing
abbrev pub whole_plan : ServedSlices → ℕ
whole_plan slices = max slices.planned 1

-- Limits do harm: the part of the plan that was served under them and a twentieth are less than
-- the part that was served without them.
abbrev pub IsHarmed : ServedSlices → ServedSlices → Type 0
IsHarmed free held =
    PARTS * served_part held * whole_plan free + whole_plan held * whole_plan free
    < PARTS * served_part free * whole_plan held

-- rounds in which so many slices more were used
abbrev pub with_more : ServedSlices → ℕ → ServedSlices
with_more slices more = record { used = slices.used + more; planned = slices.planned }

-- The slices that were served too little: with so many more limits do no harm, and with fewer they
-- do.
pub record IsLost (free held : ServedSlices) (lost : ℕ) : Type 0 where
  pub enough : IsHarmed free (with_more held lost) → ⊥
  pub least : (fewer : ℕ) → fewer < lost → IsHarmed free (with_more held fewer)
