-- The greatest last mark of the children of a group is its level.
use Rattle.std.proofs.Common.{◌≡◌, ℕ, ◌<◌, ◌≤◌, List, false, Option, None, Some, length, get_or, ap}
use Rattle.std.proofs.Common.{sym, ◌∙◌, arith}
use Rattle.std.specs.Prelude.{sum, sum_by, slice_index, map, IfSome, IfNone}
use Rattle.std.proofs.lemmas.List.Sums.{sum-map, get_or-le-sum_by}
use Rattle.bw_model.specs.declared.mark.Mark.{Mark}
use Rattle.bw_model.specs.Groups.{Groups, children_of, is_leaf}
use Rattle.bw_model.specs.Marks.{price_of}
use Rattle.bw_model.specs.Split.{IsGreatestLast}
use Rattle.bw_model.specs.Plan.{child_weights}
use Rattle.bw_cert.specs.Levels.{IsLevelAt}
use Rattle.bw_model.proofs.CallerLemmas.{sum_none}

-- the greatest last mark of the children is the level
pub to_level : (groups : Groups) (amounts : List ℕ) (g : ℕ) (parts ws : List ℕ)
    → is_leaf groups.rows g ≡ false →
    get_or amounts g 0 ≡ sum_by (slice_index amounts) (children_of groups.rows g) →
    parts ≡ map (slice_index amounts) (children_of groups.rows g) → ws ≡ child_weights groups.rows g
    → (o : Option Mark) →
    IfSome o (λ mark. IsGreatestLast ws parts (price_of mark))
    → IfNone o ((k : ℕ) → k < length parts → get_or parts k 0 ≡ 0) →
    IsLevelAt groups amounts g o
to_level groups amounts g parts ws inner whole ep ew None found none =
    λ _. let zero' : sum parts ≡ 0 = sum_none parts none in
    let s : sum parts ≡ sum_by (slice_index amounts) (children_of groups.rows g) =
    ap sum ep ∙ sum-map (slice_index amounts) (children_of groups.rows g) in
    omega (arith, zero', s, whole)
to_level groups amounts g parts ws inner whole ep ew (Some mark) found none =
    let one : IsGreatestLast ws parts (price_of mark) = found in
    let s : sum parts ≡ sum_by (slice_index amounts) (children_of groups.rows g) =
    ap sum ep ∙ sum-map (slice_index amounts) (children_of groups.rows g) in
    let term : get_or parts one.of_one.0 0 ≤ sum parts =
    get_or-le-sum_by (λ n. n) parts one.of_one.0 0 one.of_one.1 in
    let here : 0 < get_or parts one.of_one.0 0 = one.of_one.2 in
    (inner, omega (arith, term, here, s, whole), rw (sym ep, sym ew) one)
