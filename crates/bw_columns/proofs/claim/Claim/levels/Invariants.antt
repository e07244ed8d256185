-- What stands at each turn of the loop in `Claim::levels`.
use Rattle.bw_columns.specs.Certificates.{claimed_of, AreLevels}
use Rattle.bw_columns.proofs.claim.Claim.levels.Given as goal

abbrev pub invariant-loop-k : goal.invariant-loop-k
invariant-loop-k l = AreLevels (claimed_of l.self) l.k l.levels.items
