-- What stands at each turn of the loop in `logarithm_above`.
use Rattle.std.proofs.Common.{◌+◌, ◌*◌, ◌^◌, ◌≤◌}
use Rattle.bw_owned.specs.declared.logarithm.TheConstants.{ONE, TWO}
use Rattle.bw_owned.proofs.Closeness.{parts}
use Rattle.bw_owned.proofs.logarithm.logarithm_above.Given as goal

abbrev pub invariant-loop-i : goal.invariant-loop-i
invariant-loop-i l = record {
  least : ONE ≤ l.power.mantissa;
  most : l.power.mantissa ≤ TWO;
  exponent : l.power.exponent + 1 ≤ 18 * 2 ^ l.i;
  above : ONE * l.x ^ (2 ^ l.i) ≤ l.power.mantissa * 2 ^ l.power.exponent;
  close : l.power.mantissa * 2 ^ l.power.exponent * ONE
      ≤ ONE * l.x ^ (2 ^ l.i) * (ONE + parts l.i);
}
