-- The goals of `verdict_of` that are answered by hand.
use Rattle.std.proofs.Common.{rules, ◌≡◌, ℕ, true, false, sym, ◌∙◌, subst, inl}
use Rattle.bw_columns.specs.Asked.{shape_of, table_of, Answers}
use Rattle.bw_columns.specs.Certificates.{claimed_of, claimed_number, are_levels_even}
use Rattle.bw_columns.specs.Numbers.{number_of_refusal}
use Rattle.bw_columns.proofs.Claimed.{claimed_uneven, claimed_even, claimed_none}
use Rattle.bw_columns.proofs.checked.verdict_of.Goals as goal

pub returns-then-not-is_even-clause-err : goal.returns-then-not-is_even-clause-err
returns-then-not-is_even-clause-err c =
    let e : are_levels_even (claimed_of c.args.claim.now) ≡ false = search rules in
    inl (sym (claimed_uneven (shape_of c.args.host) (table_of c.args.columns.now)
    (claimed_of c.args.claim.now) e))

pub returns-in_err-instance-clause-err : goal.returns-in_err-instance-clause-err
returns-in_err-instance-clause-err c =
    let e : are_levels_even (claimed_of c.args.claim.now) ≡ true = search rules in
    let known : Answers
    (claimed_number (shape_of c.args.host) (table_of c.args.columns.now)
    (claimed_of c.args.claim.now))
    (number_of_refusal c.in_err-instance.field-0.0) =
    subst (λ (n : ℕ). Answers n (number_of_refusal c.in_err-instance.field-0.0))
    (sym (claimed_even (shape_of c.args.host) (table_of c.args.columns.now)
    (claimed_of c.args.claim.now) e)) c.in_err-instance.ensures.err in
    search (known, rules)

pub returns-clause-none : goal.returns-clause-none
returns-clause-none c =
    let e : are_levels_even (claimed_of c.args.claim.now) ≡ true = search rules in
    claimed_even (shape_of c.args.host) (table_of c.args.columns.now) (claimed_of c.args.claim.now)
    e ∙ c.in_ok-instance.ensures.none

pub returns-in_err-certificate-clause-err : goal.returns-in_err-certificate-clause-err
returns-in_err-certificate-clause-err c =
    let e : are_levels_even (claimed_of c.args.claim.now) ≡ true = search rules in
    let late = claimed_none (shape_of c.args.host) (table_of c.args.columns.now)
    (claimed_of c.args.claim.now) e c.in_ok-instance.ensures.none in
    search (late, rules)

pub returns-in_err-check-clause-err : goal.returns-in_err-check-clause-err
returns-in_err-check-clause-err c =
    let e : are_levels_even (claimed_of c.args.claim.now) ≡ true = search rules in
    let late = claimed_none (shape_of c.args.host) (table_of c.args.columns.now)
    (claimed_of c.args.claim.now) e c.in_ok-instance.ensures.none in
    search (late, rules)
