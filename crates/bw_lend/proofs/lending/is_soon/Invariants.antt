-- No look has found the ticket served.
use Rattle.std.proofs.Common.{◌≡◌}
use Rattle.bw_lend.proofs.lending.is_soon.Given as goal

abbrev pub invariant-loop-look : goal.invariant-loop-look
invariant-loop-look g l = g.V.Visit.state l.visit ≡ g.V.Visit.state l.fn.visit
