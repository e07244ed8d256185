-- The goals of `instance_with` that are answered by hand.
use Rattle.std.proofs.Common.{rules, ◌<◌, ◌≤◌, length, sym, subst, inl}
use Rattle.bw_model.specs.Groups.{Groups}
use Rattle.bw_columns.specs.Asked.{groups_asked, refusal_of, Answers}
use Rattle.bw_columns.specs.Numbers.{number_of_refusal}
use Rattle.bw_columns.specs.Questions.{question_refusal_of}
use Rattle.bw_columns.proofs.Questions.{question_carried, question_none, question_past}
use Rattle.bw_columns.proofs.asked_group.instance_with.Goals as goal

pub returns-in_err-instance-clause-err : goal.returns-in_err-instance-clause-err
returns-in_err-instance-clause-err c =
    let known : Answers (question_refusal_of c.args.host c.args.columns.now c.args.group)
    (number_of_refusal c.in_err-instance.field-0.0) =
    question_carried (refusal_of c.args.host c.args.columns.now)
    (groups_asked c.args.host c.args.columns.now) c.args.group c.in_err-instance.field-0.0
    c.in_err-instance.ensures.err in
    search (known, rules)

pub returns-then-group-rows-clause-err : goal.returns-then-group-rows-clause-err
returns-then-group-rows-clause-err c =
    let past : length c.in_ok-instance.instance.rows ≤ c.args.group = search rules in
    inl (sym (question_past (refusal_of c.args.host c.args.columns.now)
    (groups_asked c.args.host c.args.columns.now) c.args.group c.in_ok-instance.ensures.none
    (subst (λ (g : Groups). length g.rows ≤ c.args.group) c.in_ok-instance.ensures.groups past)))

pub returns-clause-none : goal.returns-clause-none
returns-clause-none c =
    let within : c.args.group < length c.in_ok-instance.instance.rows = search rules in
    question_none (refusal_of c.args.host c.args.columns.now)
    (groups_asked c.args.host c.args.columns.now) c.args.group c.in_ok-instance.ensures.none
    (subst (λ (g : Groups). c.args.group < length g.rows) c.in_ok-instance.ensures.groups within)
