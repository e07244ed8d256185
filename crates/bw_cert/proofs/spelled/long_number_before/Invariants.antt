-- What stands at each turn of the loop in `long_number_before`.
use Rattle.bw_cert.proofs.OnePass.{IsRead}
use Rattle.bw_cert.proofs.spelled.long_number_before.Given as goal

abbrev pub invariant-loop-i : goal.invariant-loop-i
invariant-loop-i l = IsRead l.text l.i l.n
