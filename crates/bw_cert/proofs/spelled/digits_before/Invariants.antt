-- What stands at each turn of the loop in `digits_before`.
use Rattle.std.proofs.Common.{◌<◌}
use Rattle.bw_cert.proofs.OnePass.{IsRead}
use Rattle.bw_cert.proofs.spelled.digits_before.Given as goal

abbrev pub invariant-loop-i : goal.invariant-loop-i
invariant-loop-i l = record { some : 0 < l.i; read : IsRead l.text l.i l.n }
