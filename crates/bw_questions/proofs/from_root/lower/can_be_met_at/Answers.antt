-- The goals of `can_be_met_at` that are answered by hand.
use Rattle.std.proofs.Common.{Bool, length, ap, sym, ◌∙◌}
use Rattle.std.proofs.lemmas.List.FromFn.{length-map-range_with_len}
use Rattle.bw_model.specs.Groups.{Groups}
use Rattle.bw_questions.specs.Lowered.{is_own}
use Rattle.bw_questions.specs.declared.from_root.least.Tuned.TheVariants.{Unmet}
use Rattle.bw_questions.proofs.LoweredWeights.{level_long}
use Rattle.bw_questions.proofs.OneTuned.{cannot_at, moved}
use Rattle.bw_questions.proofs.from_root.lower.can_be_met_at.Goals as goal

pub tuned_from_root-requires-clause-goals : goal.tuned_from_root-requires-clause-goals
tuned_from_root-requires-clause-goals c =
    c.requires.goals
    ∙ sym (ap (λ (g : Groups). length g.rows) c.in_ok-low.ensures
    ∙ level_long c.args.instance.now c.args.goals.now c.args.may.now c.args.level)

pub tuned_from_root-requires-clause-may : goal.tuned_from_root-requires-clause-may
tuned_from_root-requires-clause-may c =
    ap (length {A = Bool}) c.requires.own
    ∙ length-map-range_with_len
    (is_own c.args.instance.now.rows c.args.goals.now c.args.may.now) 0
    (length c.args.instance.now.rows)
    ∙ sym (ap (λ (g : Groups). length g.rows) c.in_ok-low.ensures
    ∙ level_long c.args.instance.now c.args.goals.now c.args.may.now c.args.level)

pub returns-clause-none : goal.returns-clause-none
returns-clause-none c = λ told.
    cannot_at c.args.measure c.args.instance.now c.args.goals.now c.args.may.now c.args.level
    c.in-Unmet.field-0
    (moved c.args.measure c.args.instance.now c.args.goals.now c.args.may.now c.args.level
    c.in_ok-low.low c.args.own.now c.in_ok-tuned_from_root.field-0 (Unmet c.in-Unmet.field-0)
    c.in_ok-low.ensures c.requires.own c.in-Unmet.is c.in_ok-tuned_from_root.ensures)
