-- What stands at each turn of the loop in `add_rows`.
use Rattle.std.proofs.Common.{◌≡◌, drop}
use Rattle.std.specs.Map.{keys_of}
use Rattle.bw_stat.specs.Books.{shares_of, booked}
use Rattle.bw_stat.proofs.books.add_rows.Given as goal

abbrev pub invariant-loop-i : goal.invariant-loop-i
invariant-loop-i l = record {
  ids : keys_of l.stats.entries ≡ keys_of l.initial.stats.entries;
  rest : booked l.stats.entries
      (shares_of l.slice_us (drop l.i l.rows) (drop l.i (keys_of l.initial.stats.entries))
      (drop l.i l.base) (drop l.i l.wants) (drop l.i l.drawn))
      ≡ booked l.initial.stats.entries
      (shares_of l.slice_us l.rows (keys_of l.initial.stats.entries) l.base l.wants l.drawn);
}
