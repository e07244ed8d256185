-- What helps a group that gets less than it wants: the limit of the group to blame, and no other.
use Rattle.std.proofs.Common.{◌≡◌, ℕ, ◌<◌, ◌≤◌, List, Some, length, get_or, refl, sym, ◌∙◌}
use Rattle.std.proofs.Common.{arith, inl, inr, true}
use Rattle.std.proofs.lemmas.Option.{same_Some}
use Rattle.bw_model.specs.Groups.{Groups, IsInstance, limit_of}
use Rattle.bw_model.specs.Plan.{IsPlan}
use Rattle.bw_model.proofs.CallerLemmas.{mosts, mosts-capped, most_le_limit}
use Rattle.bw_plan.proofs.CallerLemmas.{plan-IsPlanning, at_most}
use Rattle.bw_questions.specs.changes.Cut.{NoMoreBelow, LimitGivesOrLetsGo}
use Rattle.bw_questions.specs.Laws.{OnlyTheBlamedLimitHelps, BlamedGainsOrIsClear}
use Rattle.bw_questions.proofs.Blame.{at_its_limit}
use Rattle.bw_questions.proofs.Paths.{above_le}

-- No group is given more than its limit.
within_limit : (groups : Groups) → IsInstance groups → (amounts : List ℕ) → IsPlan groups amounts
    → (g limit : ℕ) → g < length groups.rows → limit_of groups g ≡ Some limit
    → get_or amounts g 0 ≤ limit
within_limit groups valid amounts is_plan g limit below e =
    let fits : get_or amounts g 0 ≤ get_or (mosts groups valid.tree) g 0 =
    at_most groups valid (mosts groups valid.tree) (mosts-capped groups valid.tree) (λ _. true) g
    amounts
    (plan-IsPlanning groups valid (mosts groups valid.tree) (mosts-capped groups valid.tree)
    amounts is_plan) (λ p up. refl) below in
    let cut : get_or (mosts groups valid.tree) g 0 ≤ limit =
    most_le_limit groups valid.tree (mosts groups valid.tree) (mosts-capped groups valid.tree) g
    limit below e in
    omega (arith, fits, cut)

pub only_blamed_helps : NoMoreBelow → OnlyTheBlamedLimitHelps
only_blamed_helps law groups roomier demands amounts others valid more_valid more weights gathered
    is_plan is_other g blamed below lacks is_blamed same =
    let b_in : blamed < length groups.rows =
    (let up : blamed ≤ g = above_le groups.rows valid.tree blamed g is_blamed.above in
    omega (arith, up, below)) in
    let limit : (limit_of groups blamed ≡ Some (get_or amounts blamed 0))
    × (get_or amounts blamed 0 < get_or demands.want blamed 0) =
    at_its_limit groups demands amounts valid gathered is_plan g blamed below lacks is_blamed in
    law groups roomier blamed g demands.most amounts others valid more_valid more weights
    gathered.mosts is_plan is_other below is_blamed.above is_blamed.between
    (within_limit roomier more_valid others is_other blamed (get_or amounts blamed 0)
    (omega (arith, b_in, more.tree.as_many)) (same ∙ limit.0))

pub gains_or_clear : LimitGivesOrLetsGo → BlamedGainsOrIsClear
gains_or_clear law groups raised demands raised_demands amounts others g blamed limit valid
    more_valid more here there gathered more_gathered is_plan is_other below lacks is_blamed =
    let b_in : blamed < length groups.rows =
    (let up : blamed ≤ g = above_le groups.rows valid.tree blamed g is_blamed.above in
    omega (arith, up, below)) in
    let at : (limit_of groups blamed ≡ Some (get_or amounts blamed 0))
    × (get_or amounts blamed 0 < get_or demands.want blamed 0) =
    at_its_limit groups demands amounts valid gathered is_plan g blamed below lacks is_blamed in
    let full : get_or amounts blamed 0 ≡ limit =
    same_Some (get_or amounts blamed 0) limit (sym at.0 ∙ here) in
    elim (law groups raised blamed limit demands.most raised_demands.most amounts others valid
    more_valid more here there gathered.mosts more_gathered.mosts is_plan is_other b_in full
    (omega (arith, at.1, full, gathered.wants blamed b_in))) [
      | inl given ↦ inl (omega (arith, given, full))
      | inr kept ↦ inr (
        omega (arith, kept.0, full),
        λ h clear. omega (arith, clear.full, kept.0, kept.1),
      )
    ]
