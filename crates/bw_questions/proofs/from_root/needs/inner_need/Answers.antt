-- The goals of `inner_need` that are answered by hand.
use Rattle.std.proofs.Common.{◌∙◌, arith, IfOk}
use Rattle.bw_model.specs.Plan.{child_weights}
use Rattle.bw_questions.specs.Passes.{of_children}
use Rattle.bw_questions.specs.Needs.{IsLeastAmount}
use Rattle.std.proofs.lemmas.Result.{IfOk-weaker}
use Rattle.bw_questions.proofs.AtGroup.{can_split, children_within, least_suffices}
use Rattle.bw_questions.proofs.from_root.needs.inner_need.Goals as goal

pub least_amount-requires-clause-can : goal.least_amount-requires-clause-can
least_amount-requires-clause-can c =
    rw (c.as_slice.ensures ∙ c.in_ok-floors.ensures, c.as_slice-3.ensures ∙ c.in_ok-child_most.ensures)
    (can_split c.args.instance.now c.rows-rows.ensures.valid c.args.tops.now c.args.most.now
    c.args.goals.now c.requires.columns c.args.g _ c.requires.row c.requires.inner (omega arith)
    (omega arith))

pub least_amount-requires-clause-within : goal.least_amount-requires-clause-within
least_amount-requires-clause-within c =
    rw (
      c.as_slice.ensures ∙ c.in_ok-floors.ensures,
      c.as_slice-2.ensures ∙ c.in_ok-child_tops.ensures,
      c.as_slice-3.ensures ∙ c.in_ok-child_most.ensures,
      c.as_slice-4.ensures ∙ c.in_ok-child_needs.ensures,
    )
    (children_within c.args.instance.now c.rows-rows.ensures.valid c.args.tops.now c.args.most.now
    c.args.goals.now c.requires.columns c.args.g c.args.needs.now c.requires.needs)

pub returns : goal.returns
returns c =
    let known : IfOk c.least_amount.result
    (IsLeastAmount (child_weights c.args.instance.now.rows c.args.g)
    (of_children c.args.instance.now.rows c.args.tops.now c.args.g)
    (of_children c.args.instance.now.rows c.args.most.now c.args.g)
    (of_children c.args.instance.now.rows c.args.needs.now c.args.g) c.first_of-first.result
    c.min-limit.result) =
    rw (
      c.as_slice.ensures ∙ c.in_ok-floors.ensures,
      c.as_slice-2.ensures ∙ c.in_ok-child_tops.ensures,
      c.as_slice-3.ensures ∙ c.in_ok-child_most.ensures,
      c.as_slice-4.ensures ∙ c.in_ok-child_needs.ensures,
    ) at c.least_amount.ensures in
    IfOk-weaker c.least_amount.result
    (IsLeastAmount (child_weights c.args.instance.now.rows c.args.g)
    (of_children c.args.instance.now.rows c.args.tops.now c.args.g)
    (of_children c.args.instance.now.rows c.args.most.now c.args.g)
    (of_children c.args.instance.now.rows c.args.needs.now c.args.g) c.first_of-first.result
    c.min-limit.result) _
    (λ found h.
    least_suffices c.args.instance.now c.rows-rows.ensures.valid c.args.tops.now c.args.most.now
    c.args.goals.now c.requires.columns c.args.g c.args.needs.now c.first_of-first.result
    c.min-limit.result
    c.first_of-first.ensures c.min-limit.ensures c.requires.inner found h)
    known
