-- The goals of `has_goal_above` that are answered by hand.
use Rattle.std.proofs.Common.{◌∙◌, ◌<◌, ap, arith, length}
use Rattle.std.specs.Prelude.{nat_lt, slice_index}
use Rattle.std.specs.List.{list_any}
use Rattle.std.proofs.lemmas.List.Elements.{All-from_get_or}
use Rattle.bw_model.specs.Groups.{path_up}
use Rattle.bw_questions.specs.Beside.{has_goal_above}
use Rattle.bw_questions.proofs.Parts.{way_within}
use Rattle.bw_questions.proofs.from_root.beside.has_goal_above.Goals as goal

pub any_goal-requires : goal.any_goal-requires
any_goal-requires c =
    let rows = c.args.instance.now.rows in
    rw (c.as_slice.ensures ∙ c.path_up-path.ensures)
    (All-from_get_or (λ a. a < length c.args.goals.now) (path_up rows c.args.h) 0
    (λ k k_in. omega (
      arith,
      way_within rows c.rows-rows.ensures.valid.tree c.args.h k c.requires.row k_in,
      c.requires.goals,
    )))

pub returns : goal.returns
unfolding has_goal_above
returns c =
    c.any_goal.ensures
    ∙ ap (list_any (λ a. nat_lt 0 (slice_index c.args.goals.now a)))
    (c.as_slice.ensures ∙ c.path_up-path.ensures)
