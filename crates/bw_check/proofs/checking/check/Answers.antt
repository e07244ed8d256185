-- The goals of `check` that are answered by hand.
use Rattle.std.proofs.Common.{◌≡◌, true, false, refl, sym, ◌∙◌, arith}
use Rattle.bw_model.specs.Certificate.{certified_of, IsAccepted}
use Rattle.bw_check.proofs.Verdicts.{refused-not-accepted}
use Rattle.bw_model.proofs.CallerLemmas.{certified-IsPlan}
use Rattle.bw_check.proofs.Deciding.{wrong_length}
use Rattle.bw_check.proofs.checking.check.Goals as goal

pub returns-then-not-are_one_per_row : goal.returns-then-not-are_one_per_row
returns-then-not-are_one_per_row c =
    let groups = c.args.instance.now in
    let certificate = certified_of c.args.certificate.now in
    let tree = c.are_one_per_row.ensures.valid.tree in
    let refused = wrong_length groups c.args.amounts.now certificate tree
    (λ each. let yes : c.are_one_per_row.result ≡ true = c.are_one_per_row.ensures.each.1 each in
    let clash : true ≡ false = sym yes ∙ c.if-not-are_one_per_row.true in cc) in
    record {
      verdict = refused;
      exact = (
        λ e. cc,
        λ a.
            absurd (refused-not-accepted groups c.args.amounts.now certificate _ _ tree refused a),
      );
      plan = λ e. cc;
      visits = record { no_fewer = omega arith; most = omega arith };
      twice = λ e. cc;
    }

pub are_certified-requires-clause-valid : goal.are_certified-requires-clause-valid
are_certified-requires-clause-valid c =
    rw (c.shape-shape.ensures, c.rows-rows.ensures.rows) c.are_one_per_row.ensures.valid

pub returns-then-shown : goal.returns-then-shown
returns-then-shown c =
    let groups = c.args.instance.now in
    let certificate = certified_of c.args.certificate.now in
    let shown = c.in_ok-shown.ensures.shown c.if-shown.true in
    let accepted : IsAccepted groups c.args.amounts.now certificate =
    rw (c.shape-shape.ensures, c.rows-rows.ensures.rows) at shown in
    record {
      verdict = accepted;
      exact = (λ _. accepted, λ _. refl);
      plan = λ _. certified-IsPlan groups c.args.amounts.now certificate accepted.bounds
          c.are_one_per_row.ensures.valid accepted.certified;
      visits = record {
        no_fewer = c.are_certified.ensures.visits.no_fewer;
        most = omega (arith, c.are_certified.ensures.visits.most);
      };
      twice = λ _. omega (arith, c.in_ok-shown.ensures.twice c.if-shown.true);
    }
