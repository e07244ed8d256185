-- The goals of `greater` that are answered by hand.
use Rattle.std.proofs.Common.{◌≡◌, true, false, refl, inl, inr, sym, ◌∙◌}
use Rattle.bw_model.proofs.CallerLemmas.{is_lt-IsBelow}
use Rattle.bw_cert.proofs.certifying.greater.Goals as goal

pub returns-then-costs_less-clause-some : goal.returns-then-costs_less-clause-some
returns-then-costs_less-clause-some c =
    rw c.in-Some.is (inl (refl, inl (c.costs_less.ensures c.if-costs_less.true)))

pub returns-then-lt-clause-some : goal.returns-then-lt-clause-some
returns-then-lt-clause-some c =
    rw c.in-Some.is (inl (
      refl,
      (is_lt-IsBelow c.args.mark c.in-Some.best).0
          (sym c.lt.ensures ∙ c.if-lt.true),
    ))

pub returns-else-lt-clause-some : goal.returns-else-lt-clause-some
returns-else-lt-clause-some c =
    rw c.in-Some.is (inr (
      refl,
      λ below.
          let clash : true ≡ false = sym (c.lt.ensures
          ∙ (is_lt-IsBelow c.args.mark c.in-Some.best).1 below) ∙ c.if-lt.false in cc,
    ))
