-- The goals of `first_fault` that are answered by hand.
use Rattle.std.proofs.Common.{◌≡◌, ℕ, ◌+◌, ◌*◌, ◌≤◌, length, refl, arith}
use Rattle.std.proofs.Math.Nat.{mul-le-mul_right}
use Rattle.bw_model.specs.Certificate.{certified_of, IsAccepted}
use Rattle.bw_check.proofs.Verdicts.{refused-not-accepted}
use Rattle.bw_model.proofs.CallerLemmas.{certified-IsPlan}
use Rattle.bw_check.proofs.Deciding.{refused_at, one_fault_more, small_at, all_free}
use Rattle.bw_check.proofs.checking.first_fault.Goals as goal

-- no more passes than there are faults of rows
eight_at_most : (k n : ℕ) → k ≤ 8 → k * n ≤ 8 * n
eight_at_most k n fits = mul-le-mul_right n fits

pub returns-in-Some : goal.returns-in-Some
returns-in-Some c =
    let groups = c.args.instance.now in
    let certificate = certified_of c.args.certificate.now in
    let tree = c.rows-rows.ensures.valid.tree in
    let refused = refused_at groups c.args.amounts.now certificate tree
    c.in_ok-tables.tables.bounds.items c.in_ok-tables.ensures.tables.bounded
    c.loop-fault.fault-index c.loop-fault.invariant.free c.in-Some.group c.loop-fault-test.true
    c.in-Some.ensures.first in
    record {
      verdict = refused;
      exact = (
        λ e. cc,
        λ a.
            absurd (refused-not-accepted groups c.args.amounts.now certificate _ _ tree refused a),
      );
      plan = λ e. cc;
      visits = record {
        no_fewer = omega (arith, c.loop-fault.invariant.once, c.first_group.ensures.visits.no_fewer);
        most = omega (
          arith,
          c.loop-fault.invariant.most,
          c.first_group.ensures.visits.most,
          eight_at_most (c.loop-fault.fault-index + 1) (length groups.rows)
              (omega (arith, c.loop-fault-test.true)),
        );
      };
      once = omega (arith, c.loop-fault.invariant.once, c.first_group.ensures.visits.no_fewer);
    }

pub loop-fault-preserved : goal.loop-fault-preserved
loop-fault-preserved c = record {
  free =
      one_fault_more c.args.instance.now c.args.amounts.now (certified_of c.args.certificate.now)
      c.rows-rows.ensures.valid.tree
      c.in_ok-tables.tables.bounds.items c.in_ok-tables.ensures.tables.bounded c.loop-fault.fault-index
      c.loop-fault.invariant.free c.in_default.ensures.first;
  once = omega (arith, c.loop-fault.invariant.once, c.first_group.ensures.visits.no_fewer);
  most = omega (arith, c.loop-fault.invariant.most, c.first_group.ensures.visits.most);
}

pub returns : goal.returns
returns c =
    let groups = c.args.instance.now in
    let certificate = certified_of c.args.certificate.now in
    let valid = c.rows-rows.ensures.valid in
    let bounds = c.in_ok-tables.tables.bounds.items in
    let certified = all_free groups c.args.amounts.now certificate valid.tree bounds
    c.in_ok-tables.ensures.tables.bounded
    c.loop-fault.fault-index c.loop-fault.invariant.free (omega (arith, c.loop-fault-test.false)) in
    let accepted : IsAccepted groups c.args.amounts.now certificate =
    record { bounds = bounds; certified = certified } in
    record {
      verdict = accepted;
      exact = (λ _. accepted, λ _. refl);
      plan = λ _. certified-IsPlan groups c.args.amounts.now certificate bounds valid certified;
      visits = record {
        no_fewer = omega (arith, c.loop-fault.invariant.once);
        most = omega (
          arith,
          c.loop-fault.invariant.most,
          eight_at_most c.loop-fault.fault-index (length groups.rows)
              (omega (arith, c.loop-fault.auto.fault-index-end)),
        );
      };
      once = c.loop-fault.invariant.once;
    }

pub first_group-requires-clause-small : goal.first_group-requires-clause-small
first_group-requires-clause-small c =
    small_at c.args.instance.now c.args.amounts.now (certified_of c.args.certificate.now)
    c.rows-rows.ensures.valid.tree
    c.in_ok-tables.tables.bounds.items c.in_ok-tables.ensures.tables.bounded c.loop-fault.fault-index
    c.loop-fault.invariant.free
    c.rows-rows.ensures.valid c.loop-fault-test.true
