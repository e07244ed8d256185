-- The goals of `meeting_at` that are answered by hand.
use Rattle.std.proofs.Common.{◌∙◌, None, Some}
use Rattle.bw_model.specs.Plan.{child_weights}
use Rattle.bw_questions.specs.Passes.{of_children}
use Rattle.bw_questions.specs.Needs.{IsLeastMeeting}
use Rattle.bw_questions.proofs.AtGroup.{can_split, children_within, meeting_least}
use Rattle.bw_questions.proofs.from_root.pass.meeting_at.Goals as goal

pub least_raise-requires-clause-can : goal.least_raise-requires-clause-can
least_raise-requires-clause-can c =
    rw (c.as_slice.ensures ∙ c.in_ok-floors.ensures, c.as_slice-3.ensures ∙ c.in_ok-child_most.ensures)
    (can_split c.args.instance.now c.rows-rows.ensures.valid c.args.tops.now c.args.most.now
    c.args.goals.now c.requires.columns c.args.g c.args.amount c.requires.can.row
    c.requires.can.inner c.requires.can.within c.requires.can.small)

pub least_raise-requires-clause-within : goal.least_raise-requires-clause-within
least_raise-requires-clause-within c =
    rw (
      c.as_slice.ensures ∙ c.in_ok-floors.ensures,
      c.as_slice-2.ensures ∙ c.in_ok-child_tops.ensures,
      c.as_slice-3.ensures ∙ c.in_ok-child_most.ensures,
      c.as_slice-4.ensures ∙ c.in_ok-child_needs.ensures,
    )
    (children_within c.args.instance.now c.rows-rows.ensures.valid c.args.tops.now c.args.most.now
    c.args.goals.now c.requires.columns c.args.g c.args.needs.now c.requires.can.needs_below)

pub unreachable-requires : goal.unreachable-requires
unreachable-requires c =
    let none : IsLeastMeeting (child_weights c.args.instance.now.rows c.args.g)
    (of_children c.args.instance.now.rows c.args.tops.now c.args.g)
    (of_children c.args.instance.now.rows c.args.most.now c.args.g)
    (of_children c.args.instance.now.rows c.args.needs.now c.args.g) c.args.amount None =
    rw (
      c.in-None.is,
      c.as_slice.ensures ∙ c.in_ok-floors.ensures,
      c.as_slice-2.ensures ∙ c.in_ok-child_tops.ensures,
      c.as_slice-3.ensures ∙ c.in_ok-child_most.ensures,
      c.as_slice-4.ensures ∙ c.in_ok-child_needs.ensures,
    ) at c.in_ok-found.ensures in
    none _ c.requires.can.enough c.requires.can.can

pub returns : goal.returns
returns c =
    let some : IsLeastMeeting (child_weights c.args.instance.now.rows c.args.g)
    (of_children c.args.instance.now.rows c.args.tops.now c.args.g)
    (of_children c.args.instance.now.rows c.args.most.now c.args.g)
    (of_children c.args.instance.now.rows c.args.needs.now c.args.g) c.args.amount
    (Some c.in-Some.meeting) =
    rw (
      c.in-Some.is,
      c.as_slice.ensures ∙ c.in_ok-floors.ensures,
      c.as_slice-2.ensures ∙ c.in_ok-child_tops.ensures,
      c.as_slice-3.ensures ∙ c.in_ok-child_most.ensures,
      c.as_slice-4.ensures ∙ c.in_ok-child_needs.ensures,
    ) at c.in_ok-found.ensures in
    meeting_least c.args.instance.now c.rows-rows.ensures.valid c.args.tops.now c.args.most.now
    c.args.goals.now c.requires.columns c.args.needs.now c.args.g c.args.amount c.in-Some.meeting
    some
