-- What stands at each turn of the loop in `settle`: there are as many numbers as goals.
use Rattle.std.proofs.Common.{◌≡◌, length}
use Rattle.bw_settings.proofs.several.settle.Given as goal

abbrev pub invariant-loop : goal.invariant-loop
invariant-loop l = record { as_many : length l.numbers ≡ length l.goals.owners.now }
