-- The goals of `least_from_root` that are answered by hand.
use Rattle.bw_questions.specs.Passes.{AreAllNeeds, IsBeyond}
use Rattle.bw_questions.proofs.LeastLaw.{are_weights, least_from_root, never_reached, tops_columns}
use Rattle.bw_questions.proofs.from_root.least.least_from_root.Goals as goal

pub returns-in-Beyond : goal.returns-in-Beyond
returns-in-Beyond c =
    let beyond : IsBeyond c.args.instance.now c.in_ok-tops.tops.items
    c.in_ok-gathered.gathered.most.items c.args.goals.now c.in-Beyond.group =
    rw (c.in-Beyond.is, c.as_slice.ensures.value, c.as_slice-most.ensures.value) at
    c.in_ok-group.ensures in
    never_reached c.args.instance.now c.rows-rows.ensures.valid c.in_ok-tops.tops.items
    c.in_ok-gathered.gathered.most.items c.args.goals.now c.args.may.now
    (tops_columns c.args.instance.now c.rows-rows.ensures.valid c.in_ok-tops.tops.items
    c.in_ok-gathered.gathered.most.items c.args.goals.now c.args.may.now
    c.in_ok-gathered.ensures.mosts c.in_ok-tops.ensures c.requires.goals)
    c.in_ok-tops.ensures c.in-Beyond.group beyond

pub weighed-requires : goal.weighed-requires
weighed-requires c =
    let known : AreAllNeeds c.args.instance.now c.in_ok-tops.tops.items
    c.in_ok-gathered.gathered.most.items c.args.goals.now c.in-Known.needs.items =
    rw (c.in-Known.is, c.as_slice.ensures.value, c.as_slice-most.ensures.value) at
    c.in_ok-group.ensures in
    let passed = rw (
      c.as_slice-in-Known.ensures.value,
      c.as_slice-most.ensures.value,
      c.as_slice-in-Known-2.ensures.value,
    ) at c.in_ok-passed-in-Known.ensures in
    rw c.as_slice-in-Known-3.ensures.value
    (are_weights c.args.instance.now c.rows-rows.ensures.valid c.in_ok-tops.tops.items
    c.in_ok-gathered.gathered.most.items c.args.goals.now c.args.may.now
    (tops_columns c.args.instance.now c.rows-rows.ensures.valid c.in_ok-tops.tops.items
    c.in_ok-gathered.gathered.most.items c.args.goals.now c.args.may.now
    c.in_ok-gathered.ensures.mosts c.in_ok-tops.ensures c.requires.goals)
    c.in_ok-tops.ensures c.in-Known.needs.items known c.in_ok-passed-in-Known.passed.weights.items
    c.in_ok-passed-in-Known.passed.amounts.items passed)

pub returns : goal.returns
returns c =
    let known : AreAllNeeds c.args.instance.now c.in_ok-tops.tops.items
    c.in_ok-gathered.gathered.most.items c.args.goals.now c.in-Known.needs.items =
    rw (c.in-Known.is, c.as_slice.ensures.value, c.as_slice-most.ensures.value) at
    c.in_ok-group.ensures in
    let passed = rw (
      c.as_slice-in-Known.ensures.value,
      c.as_slice-most.ensures.value,
      c.as_slice-in-Known-2.ensures.value,
    ) at c.in_ok-passed-in-Known.ensures in
    rw (c.in_ok-tuned-in-Known.ensures, c.as_slice-in-Known-3.ensures.value)
    (least_from_root c.args.instance.now c.rows-rows.ensures.valid c.in_ok-tops.tops.items
    c.in_ok-gathered.gathered.most.items c.args.goals.now c.args.may.now
    (tops_columns c.args.instance.now c.rows-rows.ensures.valid c.in_ok-tops.tops.items
    c.in_ok-gathered.gathered.most.items c.args.goals.now c.args.may.now
    c.in_ok-gathered.ensures.mosts c.in_ok-tops.ensures c.requires.goals)
    c.in_ok-tops.ensures c.in-Known.needs.items known c.in_ok-passed-in-Known.passed.weights.items
    c.in_ok-passed-in-Known.passed.amounts.items passed)
