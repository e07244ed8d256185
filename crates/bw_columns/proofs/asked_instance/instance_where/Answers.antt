-- The goals of `instance_where` that are answered by hand.
use Rattle.std.proofs.Common.{rules, ◌≡◌, ℕ, true, false, sym, subst, inl, IfErr}
use Rattle.std.specs.Prelude.{OnOk}
use Rattle.bw_columns.specs.Asked.{shape_of, table_of, Answers}
use Rattle.bw_columns.specs.Numbers.{number_of_refusal}
use Rattle.bw_columns.proofs.Fit.{where_unfit, where_fit}
use Rattle.bw_columns.proofs.asked_instance.instance_where.Goals as goal

pub returns-then-not-fit-clause-err : goal.returns-then-not-fit-clause-err
returns-then-not-fit-clause-err c =
    let e : c.args.fit ≡ false = search rules in
    inl (sym (where_unfit c.args.fit (shape_of c.args.host) (table_of c.args.columns.now) e))

pub returns-clause-none : goal.returns-clause-none
returns-clause-none c =
    let e : c.args.fit ≡ true = search rules in
    subst (λ (n : ℕ). OnOk c.instance_of.result (n ≡ 0))
    (sym (where_fit c.args.fit (shape_of c.args.host) (table_of c.args.columns.now) e))
    c.instance_of.ensures.none

pub returns-clause-err : goal.returns-clause-err
returns-clause-err c =
    let e : c.args.fit ≡ true = search rules in
    subst (λ (n : ℕ). IfErr c.instance_of.result (λ r. Answers n (number_of_refusal r)))
    (sym (where_fit c.args.fit (shape_of c.args.host) (table_of c.args.columns.now) e))
    c.instance_of.ensures.err
