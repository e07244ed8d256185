-- The goals of `least_raise` that are answered by hand.
use Rattle.std.proofs.Common.{◌<◌, None, Some, length, get_or, arith, sym, ◌∙◌, true≢false}
use Rattle.bw_split.specs.Conditions.{CanSplit}
use Rattle.bw_questions.specs.Needs.{AreRaised, IsLevelOfNeeds}
use Rattle.bw_questions.proofs.Levels.{part_le_sum}
use Rattle.bw_questions.proofs.Meetings.{can_weigh, never_met, no_value, raise-between}
use Rattle.bw_questions.proofs.Meetings.{raise-least, room_less, too_few}
use Rattle.bw_questions.proofs.from_root.meeting.least_raise.Goals as goal

pub raised-requires-clause-small : goal.raised-requires-clause-small
raised-requires-clause-small c = λ k below.
    omega (
      arith,
      part_le_sum c.args.needs.now k below,
      c.fits_in.ensures.0 c.if-not-fits_in.false,
      c.requires.can.small,
    )

pub returns-in_default-found : goal.returns-in_default-found
returns-in_default-found c =
    let level : IsLevelOfNeeds c.args.amount c.loop-child.weights.items c.args.most.now
    c.args.needs.now c.level_of_needs-level.result =
    rw c.as_slice-in-Some.ensures.value at c.level_of_needs-level.ensures in
    let none : AreRaised c.level_of_needs-level.result c.loop-child.weights.items
    c.args.tops.now c.loop-child.parts.items c.args.needs.now None =
    rw (
      no_value _ c.in_default-found.not-Some,
      c.as_slice-in-Some-2.ensures.value,
      c.as_slice-in-Some-3.ensures.value,
    ) at c.in_ok-found.ensures in
    never_met c.lighter_has_no_more.ensures c.args.amount c.args.floors.now c.args.tops.now
    c.args.most.now c.args.needs.now c.loop-child.weights.items c.loop-child.parts.items
    (can_weigh c.args.amount c.args.floors.now c.args.most.now c.requires.can c.args.tops.now
    c.args.needs.now c.requires.within c.loop-child.weights.items c.loop-child.invariant.between)
    c.requires.within c.loop-child.invariant.between c.loop-child.invariant.split
    c.loop-child.invariant.least c.level_of_needs-level.result level none

pub loop-child-smaller : goal.loop-child-smaller
loop-child-smaller c =
    let found : (c.in-Some._child < length c.loop-child.parts.items)
    × (get_or c.loop-child.parts.items c.in-Some._child 0
    < get_or c.args.needs.now c.in-Some._child 0) =
    rw (c.in-Some.is, c.as_slice-in-loop-child.ensures.value) at c.short.ensures.some in
    let some : AreRaised c.level_of_needs-level.result c.loop-child.weights.items
    c.args.tops.now c.loop-child.parts.items c.args.needs.now (Some c.in-Some-found.heavier) =
    rw (
      c.in-Some-found.is,
      c.as_slice-in-Some-2.ensures.value,
      c.as_slice-in-Some-3.ensures.value,
    ) at c.in_ok-found.ensures in
    let below : c.in-Some._child < length c.args.floors.now =
    omega (arith, found.0, c.loop-child.invariant.split.split.lengths, c.requires.can.one_each) in
    let here : c.in-Some._child < length c.loop-child.weights.items =
    omega (arith, below, c.loop-child.invariant.between.one_each) in
    room_less c.loop-child.weights.items c.in-Some-found.heavier.items c.in-Some._child some.0
    (λ k k_in. (some.1 k k_in).1.no_less) here ((some.1 c.in-Some._child here).1.more found.1)
    (omega (
      arith,
      (some.1 c.in-Some._child here).0,
      c.requires.within.greatest c.in-Some._child below,
    ))

pub loop-child-preserved : goal.loop-child-preserved
loop-child-preserved c =
    let level : IsLevelOfNeeds c.args.amount c.loop-child.weights.items c.args.most.now
    c.args.needs.now c.level_of_needs-level.result =
    rw c.as_slice-in-Some.ensures.value at c.level_of_needs-level.ensures in
    let some : AreRaised c.level_of_needs-level.result c.loop-child.weights.items
    c.args.tops.now c.loop-child.parts.items c.args.needs.now (Some c.in-Some-found.heavier) =
    rw (
      c.in-Some-found.is,
      c.as_slice-in-Some-2.ensures.value,
      c.as_slice-in-Some-3.ensures.value,
    ) at c.in_ok-found.ensures in
    let can : CanSplit c.args.amount c.loop-child.weights.items c.args.most.now =
    can_weigh c.args.amount c.args.floors.now c.args.most.now c.requires.can c.args.tops.now
    c.args.needs.now c.requires.within c.loop-child.weights.items c.loop-child.invariant.between in
    record {
      between = raise-between c.lighter_has_no_more.ensures c.args.amount c.args.floors.now
          c.args.tops.now c.args.most.now c.args.needs.now c.loop-child.weights.items
          c.loop-child.parts.items can c.requires.within c.loop-child.invariant.between
          c.loop-child.invariant.split c.loop-child.invariant.least
          c.level_of_needs-level.result c.in-Some-found.heavier some;
      split = rw c.as_slice-in-Some-4.ensures.value at c.in_ok-parts-2.ensures.best;
      least = raise-least c.lighter_has_no_more.ensures c.args.amount c.args.floors.now
          c.args.tops.now c.args.most.now c.args.needs.now c.loop-child.weights.items
          c.loop-child.parts.items can c.requires.within c.loop-child.invariant.between
          c.loop-child.invariant.split c.loop-child.invariant.least
          c.level_of_needs-level.result level c.in-Some-found.heavier some;
    }

pub returns-then-not-fits_in : goal.returns-then-not-fits_in
returns-then-not-fits_in c =
    too_few c.args.floors.now c.args.tops.now c.args.most.now c.args.needs.now c.args.amount
    c.requires.within c.requires.can.one_each
    (λ fit. true≢false (sym (c.fits_in.ensures.1 fit) ∙ c.if-not-fits_in.true))
