-- The goals of `limit_others` that are answered by hand.
use Rattle.std.proofs.Common.{◌≡◌, ℕ, ◌+◌, ◌<◌, List, None, Some, length, get_or, ap, subst}
use Rattle.std.proofs.Common.{sym, ◌∙◌, arith, Vec}
use Rattle.std.specs.declared.alloc.Global.{Global}
use Rattle.bw_model.specs.declared.row.Row.{Row}
use Rattle.bw_model.specs.Host.{capacity_of}
use Rattle.bw_model.proofs.CallerLemmas.{get_or_within}
use Rattle.bw_questions.specs.OtherLimits.{AreCuts, CanBeMet, IsGreatestRaise, at_level}
use Rattle.bw_questions.specs.OtherLimits.{raised_limits}
use Rattle.bw_questions.proofs.InTurn.{AreLimitedBefore, at_first, at_last, met_as_is, step_full}
use Rattle.bw_questions.proofs.InTurn.{step_raised}
use Rattle.bw_questions.proofs.RaisedLimits.{from_cuts, greatest_level, lowest_cuts, met_at_first}
use Rattle.bw_questions.proofs.RaisedLimits.{none_met}
use Rattle.bw_questions.proofs.other_limits.limit_others.Goals as goal
use Rattle.bw_questions.proofs.other_limits.limit_others.Goals.{then-low-full+in_ok-top+in_ok-limits-2}
use Rattle.bw_questions.proofs.other_limits.limit_others.Goals.{else-low-full}

pub can_be_met-requires-clause-limits : goal.can_be_met-requires-clause-limits
can_be_met-requires-clause-limits c =
    subst (λ (xs : List ℕ). AreCuts c.args.instance.now c.args.goals.now xs)
    (sym (c.as_slice-start.ensures.value ∙ c.in_ok-least.ensures))
    (lowest_cuts c.args.instance.now c.args.goals.now c.args.lowest.now)

pub returns-then-not-branch : goal.returns-then-not-branch
returns-then-not-branch c =
    let start : c.as_slice-start.result.now
    ≡ at_level c.args.instance.now c.args.goals.now c.args.lowest.now 0 =
    c.as_slice-start.ensures.value ∙ c.in_ok-least.ensures in
    none_met c.args.instance.now c.args.goals.now c.args.lowest.now c.rows-count.ensures.valid
    c.there_is_one_plan.ensures c.others_room_gives_nothing.ensures c.args.may.now c.args.measure
    (λ can. c.in_ok-can_be_met.ensures.none c.if-not-branch.true
    (subst (λ (xs : List ℕ). CanBeMet c.args.measure c.args.instance.now c.args.goals.now
    c.args.may.now xs) (sym start) can))

pub greatest_raise-requires-clause-limits : goal.greatest_raise-requires-clause-limits
greatest_raise-requires-clause-limits c =
    subst (λ (xs : List ℕ). AreCuts c.args.instance.now c.args.goals.now xs)
    (sym (c.as_slice-start.ensures.value ∙ c.in_ok-least.ensures))
    (lowest_cuts c.args.instance.now c.args.goals.now c.args.lowest.now)

pub greatest_raise-requires-clause-met : goal.greatest_raise-requires-clause-met
greatest_raise-requires-clause-met c =
    let start : c.as_slice-start.result.now
    ≡ at_level c.args.instance.now c.args.goals.now c.args.lowest.now 0 =
    c.as_slice-start.ensures.value ∙ c.in_ok-least.ensures in
    subst (λ (xs : List ℕ). CanBeMet c.args.measure c.args.instance.now c.args.goals.now
    c.args.may.now (raised_limits c.args.instance.now xs None 0)) (sym start)
    (met_at_first c.args.instance.now c.args.goals.now c.args.lowest.now
    c.rows-count.ensures.valid c.there_is_one_plan.ensures c.others_room_gives_nothing.ensures
    c.args.may.now c.args.measure
    (subst (λ (xs : List ℕ). CanBeMet c.args.measure c.args.instance.now c.args.goals.now
    c.args.may.now xs) start (c.in_ok-can_be_met.ensures.some c.if-not-branch.false)))

pub raised_limits-requires : goal.raised_limits-requires
raised_limits-requires c =
    ap (length {A = ℕ}) (c.as_slice-start.ensures.value ∙ c.in_ok-least.ensures)
    ∙ (lowest_cuts c.args.instance.now c.args.goals.now c.args.lowest.now).one_each

pub loop-h-init : goal.loop-h-init
loop-h-init c =
    let start : c.as_slice-start.result.now
    ≡ at_level c.args.instance.now c.args.goals.now c.args.lowest.now 0 =
    c.as_slice-start.ensures.value ∙ c.in_ok-least.ensures in
    let raise : IsGreatestRaise c.args.measure c.args.instance.now c.args.goals.now
    c.args.may.now (at_level c.args.instance.now c.args.goals.now c.args.lowest.now 0) None 0
    c.capacity-capacity.result c.in_ok-level.level =
    subst (λ (xs : List ℕ). IsGreatestRaise c.args.measure c.args.instance.now
    c.args.goals.now c.args.may.now xs None 0 c.capacity-capacity.result c.in_ok-level.level)
    start c.in_ok-level.ensures in
    let limits : c.in_ok-limits.limits.items ≡ raised_limits c.args.instance.now
    (at_level c.args.instance.now c.args.goals.now c.args.lowest.now 0) None
    c.in_ok-level.level =
    c.in_ok-limits.ensures
    ∙ ap (λ (xs : List ℕ). raised_limits c.args.instance.now xs None c.in_ok-level.level) start in
    record {
      so_far =
          subst (λ (xs : List ℕ). AreLimitedBefore c.args.measure c.args.instance.now
          c.args.goals.now c.args.may.now c.args.lowest.now xs 0) (sym limits)
          (record {
            level = c.in_ok-level.level;
            greatest =
                greatest_level c.args.instance.now c.args.goals.now c.args.lowest.now
                c.rows-count.ensures.valid c.there_is_one_plan.ensures
                c.others_room_gives_nothing.ensures c.args.may.now c.args.measure
                c.capacity-capacity.result c.in_ok-level.level
                (c.capacity-capacity.ensures.value
                ∙ ap capacity_of c.shape.ensures) raise;
            before =
                at_first c.args.measure c.args.instance.now c.args.goals.now c.args.may.now
                c.args.lowest.now c.in_ok-level.level c.capacity-capacity.result raise;
          });
    }

pub greatest_raise-requires-then-low-full-clause-limits :
    goal.greatest_raise-requires-then-low-full-clause-limits
greatest_raise-requires-then-low-full-clause-limits c =
    let so_far = c.loop-h.invariant.so_far in
    subst (λ (xs : List ℕ). AreCuts c.args.instance.now c.args.goals.now xs)
    (sym c.as_slice-tried.ensures.value)
    (from_cuts c.args.instance.now c.args.goals.now c.args.lowest.now so_far.level
    c.loop-h.limits.items so_far.before.from_level)

pub greatest_raise-requires-then-low-full-clause-met :
    goal.greatest_raise-requires-then-low-full-clause-met
greatest_raise-requires-then-low-full-clause-met c =
    let so_far = c.loop-h.invariant.so_far in
    let below : c.loop-h.h < length c.loop-h.limits.items =
    omega (
      arith,
      c.loop-h-test.true,
      ap (length {A = Row}) c.rows-count.ensures.rows,
      so_far.before.from_level.one_each,
    ) in
    let limit : c.index-low.result.now ≡ get_or c.loop-h.limits.items c.loop-h.h 0 =
    c.index-low.ensures
    ∙ get_or_within c.loop-h.limits.items c.loop-h.h c.index-low.result.now below in
    subst (λ (xs : List ℕ). CanBeMet c.args.measure c.args.instance.now c.args.goals.now
    c.args.may.now (raised_limits c.args.instance.now xs (Some c.loop-h.h)
    c.index-low.result.now)) (sym c.as_slice-tried.ensures.value)
    (subst (λ (l : ℕ). CanBeMet c.args.measure c.args.instance.now c.args.goals.now
    c.args.may.now (raised_limits c.args.instance.now c.loop-h.limits.items (Some c.loop-h.h) l))
    (sym limit)
    (met_as_is c.args.measure c.args.instance.now c.args.goals.now c.args.may.now
    c.rows-count.ensures.valid c.there_is_one_plan.ensures c.others_room_gives_nothing.ensures
    c.loop-h.limits.items
    (from_cuts c.args.instance.now c.args.goals.now c.args.lowest.now so_far.level
    c.loop-h.limits.items so_far.before.from_level) c.loop-h.h so_far.before.met))

pub loop-h-preserved : goal.loop-h-preserved
loop-h-preserved c =
    let so_far = c.loop-h.invariant.so_far in
    let inside : c.loop-h.h < length c.args.instance.now.rows =
    omega (arith, c.loop-h-test.true, ap (length {A = Row}) c.rows-count.ensures.rows) in
    let below : c.loop-h.h < length c.loop-h.limits.items =
    omega (arith, inside, so_far.before.from_level.one_each) in
    let limit : c.index-low.result.now ≡ get_or c.loop-h.limits.items c.loop-h.h 0 =
    c.index-low.ensures
    ∙ get_or_within c.loop-h.limits.items c.loop-h.h c.index-low.result.now below in
    record {
      so_far = elim c.if-low-full.branch [
        | then-low-full+in_ok-top+in_ok-limits-2 w ↦
            let raise : IsGreatestRaise c.args.measure c.args.instance.now c.args.goals.now
            c.args.may.now c.loop-h.limits.items (Some c.loop-h.h) c.index-low.result.now
            c.full_limit-full.result w.in_ok-top.top =
            subst (λ (xs : List ℕ). IsGreatestRaise c.args.measure c.args.instance.now
            c.args.goals.now c.args.may.now xs (Some c.loop-h.h) c.index-low.result.now
            c.full_limit-full.result w.in_ok-top.top) w.as_slice-tried.ensures.value
            w.in_ok-top.ensures in
            let after : c.if-low-full.limits.items ≡ raised_limits c.args.instance.now
            c.loop-h.limits.items (Some c.loop-h.h) w.in_ok-top.top =
            ap (λ (v : Vec ℕ Global). v.items) w.limits-is
            ∙ w.in_ok-limits-2.ensures
            ∙ ap (λ (xs : List ℕ). raised_limits c.args.instance.now xs (Some c.loop-h.h)
            w.in_ok-top.top) w.as_slice.ensures.value in
            subst (λ (xs : List ℕ). AreLimitedBefore c.args.measure c.args.instance.now
            c.args.goals.now c.args.may.now c.args.lowest.now xs (c.loop-h.h + 1)) (sym after)
            (step_raised c.args.measure c.args.instance.now c.args.goals.now c.args.may.now
            c.args.lowest.now c.loop-h.limits.items c.loop-h.h c.index-low.result.now
            c.full_limit-full.result w.in_ok-top.top c.rows-count.ensures.valid
            c.there_is_one_plan.ensures c.others_room_gives_nothing.ensures inside so_far limit
            c.full_limit-full.ensures.value raise)
        | else-low-full w ↦
            subst (λ (xs : List ℕ). AreLimitedBefore c.args.measure c.args.instance.now
            c.args.goals.now c.args.may.now c.args.lowest.now xs (c.loop-h.h + 1))
            (sym (ap (λ (v : Vec ℕ Global). v.items) w.limits-is))
            (step_full c.args.measure c.args.instance.now c.args.goals.now c.args.may.now
            c.args.lowest.now c.loop-h.limits.items c.loop-h.h c.index-low.result.now
            c.full_limit-full.result so_far limit c.full_limit-full.ensures.value
            w.if-low-full.false)
      ];
    }

pub returns : goal.returns
returns c =
    let so_far = c.loop-h.invariant.so_far in
    record {
      level = so_far.level;
      greatest = so_far.greatest;
      raised =
          at_last c.args.measure c.args.instance.now c.args.goals.now c.args.may.now
          c.args.lowest.now so_far.level c.loop-h.limits.items c.loop-h.h
          (omega (
            arith,
            c.loop-h-test.false,
            ap (length {A = Row}) c.rows-count.ensures.rows,
          )) so_far.before;
    }
