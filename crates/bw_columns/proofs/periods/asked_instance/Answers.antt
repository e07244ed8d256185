-- The goals of `asked_instance` that are answered by hand.
use Rattle.std.proofs.Common.{ap, sym, ◌∙◌}
use Rattle.bw_model.specs.Groups.{Groups}
use Rattle.bw_model.specs.Refusal.{refusal}
use Rattle.bw_model.proofs.CallerLemmas.{IsInstance-accepted}
use Rattle.bw_columns.proofs.periods.asked_instance.Goals as goal

pub returns-in-Ok-clause-none : goal.returns-in-Ok-clause-none
returns-in-Ok-clause-none c =
    ap refusal (sym c.in_ok-asking.ensures ∙ ap (λ (g : Groups). g.rows) (sym c.in-Ok.ensures.groups))
    ∙ IsInstance-accepted c.in-Ok.instance c.in-Ok.ensures.valid
