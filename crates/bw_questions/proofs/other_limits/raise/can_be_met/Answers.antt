-- The goals of `can_be_met` that are answered by hand.
use Rattle.std.proofs.Common.{◌≡◌, ℕ, List, Bool, length, ap, sym, ◌∙◌, subst}
use Rattle.bw_model.specs.Groups.{Groups}
use Rattle.bw_questions.specs.FromRoot.{AreNeverMet, IsReweightedAt}
use Rattle.bw_questions.specs.OtherLimits.{CanBeMet, cut_to}
use Rattle.bw_questions.specs.declared.from_root.measure.Measure.{Measure}
use Rattle.bw_questions.proofs.CutRows.{as_many}
use Rattle.bw_questions.proofs.LowerLimits.{root_unlimited}
use Rattle.bw_questions.proofs.OneTuned.{met_under}
use Rattle.bw_questions.proofs.other_limits.raise.can_be_met.Goals as goal

not_met : (measure : Measure) (groups cut : Groups) (goals : List ℕ) (may : List Bool)
    (limits : List ℕ) (top : ℕ) → cut ≡ cut_to groups limits
    → AreNeverMet measure cut goals may top → ¬ CanBeMet measure groups goals may limits
not_met measure groups cut goals may limits top same never can =
    never.never can.others
    (subst (λ (g : Groups). IsReweightedAt g can.others may) (sym same) can.reweighted)
    (met_under measure can.others goals top can.met)

pub cut_to-requires-clause-root : goal.cut_to-requires-clause-root
cut_to-requires-clause-root c =
    root_unlimited c.args.instance.now c.rows-rows.ensures.valid c.args.goals.now
    c.args.limits.now c.requires.limits

pub tuned_from_root-requires-clause-goals : goal.tuned_from_root-requires-clause-goals
tuned_from_root-requires-clause-goals c =
    c.requires.goals
    ∙ sym (ap (λ (g : Groups). length g.rows) c.in_ok-cut.ensures
    ∙ as_many c.args.instance.now c.args.limits.now)

pub tuned_from_root-requires-clause-may : goal.tuned_from_root-requires-clause-may
tuned_from_root-requires-clause-may c =
    c.requires.may
    ∙ sym (ap (λ (g : Groups). length g.rows) c.in_ok-cut.ensures
    ∙ as_many c.args.instance.now c.args.limits.now)

pub returns-clause-none : goal.returns-clause-none
returns-clause-none c =
    let never : AreNeverMet c.args.measure c.in_ok-cut.cut c.args.goals.now c.args.may.now
    c.in-Unmet.field-0 = rw c.in-Unmet.is at c.in_ok-tuned_from_root.ensures in
    λ told can.
    not_met c.args.measure c.args.instance.now c.in_ok-cut.cut c.args.goals.now c.args.may.now
    c.args.limits.now c.in-Unmet.field-0 c.in_ok-cut.ensures never can
