-- The goals of `lightened` that are answered by hand.
use Rattle.std.proofs.Common.{subst, sym, ap, ◌∙◌}
use Rattle.std.proofs.lemmas.Result.{IfOk-weaker}
use Rattle.bw_model.specs.Groups.{Groups}
use Rattle.bw_questions.specs.FromRoot.{IsLightened, weighed}
use Rattle.bw_questions.proofs.Lightened.{are_light}
use Rattle.bw_questions.proofs.from_root.lightened.lightened.Goals as goal

pub returns : goal.returns
returns c =
    IfOk-weaker c.weighed.result _ _
    (λ i e. subst (λ (light : Groups). IsLightened c.args.instance.now c.args.may.now light)
    (sym (e ∙ ap (weighed c.args.instance.now) c.as_slice.ensures.value))
    (are_light c.args.instance.now c.rows-rows.ensures.valid c.args.may.now
    c.in_ok-floors.floors.items c.in_ok-floors.ensures))
    c.weighed.ensures
