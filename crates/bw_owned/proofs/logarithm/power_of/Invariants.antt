-- What stands at each turn of the loop in `power_of`.
use Rattle.std.proofs.Common.{◌+◌, ◌*◌, ◌^◌, ◌≤◌}
use Rattle.bw_owned.specs.declared.logarithm.TheConstants.{ONE}
use Rattle.bw_owned.proofs.logarithm.power_of.Given as goal

abbrev pub invariant-loop-exponent : goal.invariant-loop-exponent
invariant-loop-exponent l = record {
  least : ONE ≤ l.mantissa;
  below : l.mantissa * 2 ^ l.exponent ≤ ONE * l.x;
  above : ONE * l.x + 1 ≤ (l.mantissa + 1) * 2 ^ l.exponent;
}
