-- The goals of `tune` that are answered by hand.
use Rattle.std.proofs.Common.{length, ap, refl, subst, sym, ◌∙◌}
use Rattle.bw_model.specs.declared.limits.TheConstants.{MAX_WEIGHT}
use Rattle.bw_model.specs.Groups.{Groups}
use Rattle.bw_questions.specs.FromRoot.{IsTunedFromRoot}
use Rattle.bw_questions.specs.declared.from_root.least.Tuned.{Tuned}
use Rattle.bw_questions.specs.declared.from_root.least.Tuned.TheVariants.{Met}
use Rattle.bw_questions.proofs.LoweredWeights.{level_long}
use Rattle.bw_questions.proofs.OneTuned.{at_greatest, at_least, at_level, moved}
use Rattle.bw_questions.proofs.from_root.tune.Goals as goal

pub tuned_from_root-requires-clause-goals : goal.tuned_from_root-requires-clause-goals
tuned_from_root-requires-clause-goals c =
    c.requires.goals
    ∙ sym (ap (λ (g : Groups). length g.rows) c.in_ok-whole.ensures
    ∙ level_long c.args.instance.now c.args.goals.now c.args.may.now MAX_WEIGHT)

pub returns-in-Met : goal.returns-in-Met
returns-in-Met c =
    at_greatest c.args.measure c.args.instance.now c.args.goals.now c.args.may.now c.in-Met.tuned
    (moved c.args.measure c.args.instance.now c.args.goals.now c.args.may.now MAX_WEIGHT
    c.in_ok-whole.whole c.as_slice.result.now c.in_ok-first.first (Met c.in-Met.tuned)
    c.in_ok-whole.ensures (c.as_slice.ensures.value ∙ c.in_ok-own.ensures) c.in-Met.is
    c.in_ok-first.ensures)

pub greatest_level-requires-clause-met : goal.greatest_level-requires-clause-met
greatest_level-requires-clause-met c =
    at_least c.args.measure c.args.instance.now c.args.goals.now c.args.may.now
    c.rows-rows.ensures.valid c.there_is_one_plan.ensures c.others_weights_give_nothing.ensures
    c.in_default-any.field-0
    (subst (λ (t : Tuned). IsTunedFromRoot c.args.measure c.args.instance.now c.args.goals.now
    c.args.may.now t) c.in_default-any.is c.in_ok-any.ensures)

pub tuned_from_root-requires-3-clause-goals : goal.tuned_from_root-requires-3-clause-goals
tuned_from_root-requires-3-clause-goals c =
    c.requires.goals
    ∙ sym (ap (λ (g : Groups). length g.rows) c.in_ok-low.ensures
    ∙ level_long c.args.instance.now c.args.goals.now c.args.may.now c.in_ok-level.level)

pub returns : goal.returns
returns c =
    at_level c.args.measure c.args.instance.now c.args.goals.now c.args.may.now
    c.in_ok-level.level c.in_ok-level.ensures c.in_ok-tuned.tuned
    (moved c.args.measure c.args.instance.now c.args.goals.now c.args.may.now
    c.in_ok-level.level c.in_ok-low.low c.as_slice-3.result.now c.in_ok-tuned.tuned
    c.in_ok-tuned.tuned c.in_ok-low.ensures
    (c.as_slice-3.ensures.value ∙ c.in_ok-own.ensures) refl c.in_ok-tuned.ensures)
