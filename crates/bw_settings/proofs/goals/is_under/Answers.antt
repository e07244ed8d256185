-- The goal of `is_under` that is answered by hand.
use Rattle.std.proofs.Common.{◌∙◌, ap, eqb}
use Rattle.std.specs.List.{list_any}
use Rattle.bw_model.specs.Groups.{is_under}
use Rattle.bw_settings.proofs.goals.is_under.Goals as goal

pub returns : goal.returns
unfolding is_under
returns c =
    c.has_row.ensures
    ∙ ap (list_any (λ above. eqb above c.args.group)) (c.as_slice.ensures ∙ c.path_up-path.ensures)
