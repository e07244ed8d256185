-- The goals of `Instance::of_valid` that are answered by hand.
use Rattle.std.proofs.Common.{rules}
use Rattle.bw_model.proofs.instance.Instance.of_valid.Goals as goal

pub invariant_of-result : goal.invariant_of-result
invariant_of-result c = record { valid = c.requires; listed = search rules }
