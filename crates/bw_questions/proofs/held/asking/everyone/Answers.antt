-- The goal of `everyone` that is answered by hand.
use Rattle.std.proofs.Common.{◌≡◌, ◌∙◌, Bool, true, length, replicate, ap, rules}
use Rattle.std.proofs.lemmas.Result.{IfOk-weaker}
use Rattle.bw_model.specs.declared.row.Row.{Row}
use Rattle.bw_questions.specs.HeldRule.{everyone, round_of}
use Rattle.bw_questions.proofs.AskingRows.{all_hungry}
use Rattle.bw_questions.proofs.held.asking.everyone.Goals as goal

pub returns-clause-everyone : goal.returns-clause-everyone
returns-clause-everyone c =
    let groups = c.args.instance.now in
    let all : c.in_ok-hungry.hungry.items ≡ replicate {A = Bool} (length c.rows.result.now) true =
    search rules in
    let same : round_of groups c.in_ok-hungry.hungry.items ≡ everyone groups =
    all_hungry groups c.in_ok-hungry.hungry.items
    (all ∙ ap (λ n. replicate {A = Bool} n true) (ap (length {A = Row}) c.rows.ensures.rows)) in
    IfOk-weaker c.round_of.result _ _
    (λ i e. e ∙ ap (round_of groups) c.as_slice.ensures.value ∙ same) c.round_of.ensures.round
