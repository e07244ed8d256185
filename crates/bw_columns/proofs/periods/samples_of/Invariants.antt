-- What stands at each turn of the loop in `samples_of`.
use Rattle.std.proofs.Common.{◌≡◌, ◌<◌, ◌*◌, ℕ, length, drop}
use Rattle.bw_columns.specs.Periods.{AreSamples, sample_number}
use Rattle.bw_columns.proofs.periods.samples_of.Given as goal

abbrev pub invariant-loop-k : goal.invariant-loop-k
invariant-loop-k l = record {
  rest_is : l.rest ≡ drop (l.k * length l.groups.rows.items) l.demands;
  samples : AreSamples l.planned l.slice_us l.groups.rows.items l.groups.mosts.items l.times l.k
      l.demands l.fn.carries.items l.tallies.items l.before.items;
  tallies_long : length l.tallies.items ≡ l.k * length l.groups.rows.items;
  carries_long : length l.before.items ≡ length l.groups.rows.items;
  fine : (j : ℕ) → j < l.k → sample_number l.groups.rows.items l.demands j ≡ 0;
}
