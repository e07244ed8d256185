-- What stands at each turn of the loop in `logarithm_below`.
use Rattle.std.proofs.Common.{◌+◌, ◌*◌, ◌^◌, ◌<◌, ◌≤◌}
use Rattle.bw_owned.specs.declared.logarithm.TheConstants.{ONE, TWO}
use Rattle.bw_owned.proofs.Closeness.{parts}
use Rattle.bw_owned.proofs.logarithm.logarithm_below.Given as goal

abbrev pub invariant-loop-i : goal.invariant-loop-i
invariant-loop-i l = record {
  least : ONE ≤ l.power.mantissa;
  most : l.power.mantissa < TWO;
  exponent : l.power.exponent + 1 ≤ 18 * 2 ^ l.i;
  below : l.power.mantissa * 2 ^ l.power.exponent ≤ ONE * l.x ^ (2 ^ l.i);
  close : ONE * l.x ^ (2 ^ l.i) * ONE
      ≤ l.power.mantissa * (ONE + parts l.i) * 2 ^ l.power.exponent;
}
