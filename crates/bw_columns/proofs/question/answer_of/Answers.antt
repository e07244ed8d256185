-- The goals of `answer_of` that are answered by hand.
use Rattle.std.proofs.Common.{rules, ◌≡◌, ℕ, subst, sym, IfOk, IfErr}
use Rattle.std.specs.Prelude.{OnOk}
use Rattle.bw_model.specs.Groups.{Groups}
use Rattle.bw_columns.specs.Asked.{Answers}
use Rattle.bw_columns.specs.Numbers.{number_of_refusal}
use Rattle.bw_columns.specs.Questions.{refusal_of_question, IsAnswer}
use Rattle.bw_columns.proofs.Questions.{asked_own, asked_carried}
use Rattle.bw_columns.proofs.question.answer_of.Goals as goal

pub returns-in_err-instance-clause-err : goal.returns-in_err-instance-clause-err
returns-in_err-instance-clause-err c =
    let known : Answers
    (refusal_of_question c.args.host c.args.columns.now c.args.group c.args.question)
    (number_of_refusal c.in_err-instance.field-0.0) =
    asked_carried c.args.host c.args.columns.now c.args.group c.args.question
    c.in_err-instance.field-0.0 c.in_err-instance.ensures.err in
    search (known, rules)

pub returns-clause-answer : goal.returns-clause-answer
returns-clause-answer c =
    subst (λ (g : Groups). IfOk c.answer_in.result (IsAnswer g c.args.group c.args.question))
    c.in_ok-instance.ensures.groups c.answer_in.ensures.answer

pub returns-clause-none : goal.returns-clause-none
returns-clause-none c =
    subst (λ (n : ℕ). OnOk c.answer_in.result (n ≡ 0))
    (sym (asked_own c.args.host c.args.columns.now c.args.group c.args.question
    c.in_ok-instance.ensures.none)) c.answer_in.ensures.none

pub returns-clause-err : goal.returns-clause-err
returns-clause-err c =
    subst (λ (n : ℕ). IfErr c.answer_in.result (λ e. Answers n (number_of_refusal e)))
    (sym (asked_own c.args.host c.args.columns.now c.args.group c.args.question
    c.in_ok-instance.ensures.none)) c.answer_in.ensures.err
