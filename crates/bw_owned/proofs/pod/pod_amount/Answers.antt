-- The goals of `pod_amount` that are answered by hand.
use Rattle.std.proofs.Common.{List, ℕ, length, arith, subst}
use Rattle.std.proofs.lemmas.List.{set_past}
use Rattle.bw_owned.specs.Pods.{IsPodAmount}
use Rattle.bw_owned.proofs.pod.pod_amount.Goals as goal

pub returns : goal.returns
returns c = record {
  amount = subst (λ (amounts : List ℕ). IsPodAmount c.args.kinds.now amounts c.amount_with.result)
      (set_past c.args.amounts.now (length c.args.amounts.now) 0 (omega arith))
      c.amount_with.ensures.amount;
}
