-- The goals of `check_rows` that are answered by hand.
use Rattle.std.proofs.Common.{◌≡◌, true, false, refl, sym, ◌∙◌, arith}
use Rattle.bw_model.specs.Certificate.{certified_of, IsAccepted}
use Rattle.bw_model.specs.Groups.{Groups}
use Rattle.bw_check.proofs.Verdicts.{refused-not-accepted}
use Rattle.bw_model.proofs.CallerLemmas.{certified-IsPlan}
use Rattle.bw_check.proofs.Deciding.{wrong_length}
use Rattle.bw_check.proofs.checking.check_rows.Goals as goal

pub returns-then-not-has_one_of_each : goal.returns-then-not-has_one_of_each
returns-then-not-has_one_of_each c =
    let groups : Groups = record { shape = c.args.shape; rows = c.args.rows.items } in
    let certificate = certified_of c.args.certificate.now in
    let tree = c.requires.valid.tree in
    let refused = wrong_length groups c.args.amounts.now certificate tree
    (λ each. let yes : c.has_one_of_each.result ≡ true =
    c.has_one_of_each.ensures.1 (rw c.as_slice.ensures.value each) in
    let clash : true ≡ false = sym yes ∙ c.if-not-has_one_of_each.true in cc) in
    record {
      verdict = refused;
      exact = (
        λ e. cc,
        λ a.
            absurd (refused-not-accepted groups c.args.amounts.now certificate _ _ tree refused a),
      );
      plan = λ e. cc;
      visits = record { no_fewer = omega arith; most = omega arith };
    }

pub returns-then-shown-clause-plan : goal.returns-then-shown-clause-plan
returns-then-shown-clause-plan c = λ _.
    let groups : Groups = record { shape = c.args.shape; rows = c.args.rows.items } in
    let certificate = certified_of c.args.certificate.now in
    let shown = c.in_ok-shown.ensures.shown c.if-shown.true in
    let accepted : IsAccepted groups c.args.amounts.now certificate =
    rw c.as_slice-2.ensures.value at shown in
    certified-IsPlan groups c.args.amounts.now certificate accepted.bounds c.requires.valid
    accepted.certified
