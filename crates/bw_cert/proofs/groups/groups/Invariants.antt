-- What stands at each turn of the loop in `groups`.
use Rattle.std.proofs.Common.{◌≡◌, ◌-◌, ◌≤◌}
use Rattle.std.specs.Prelude.{vec_len, vec_capacity}
use Rattle.bw_cert.specs.Spelling.{text_lines}
use Rattle.bw_cert.specs.Reading.{groups_at}
use Rattle.bw_cert.proofs.Loop.{columns_read, with_front}
use Rattle.bw_cert.proofs.groups.groups.Given as goal

abbrev pub invariant-loop : goal.invariant-loop
invariant-loop l = record {
  read : with_front (columns_read l.rows.items l.amounts.items l.tight.items l.levels.items)
      (groups_at (l.count - l.counter) (text_lines l.rest))
      ≡ groups_at l.count (text_lines l.text);
  rows_len : vec_len l.rows ≡ l.counter;
  rows_room : l.count ≤ vec_capacity l.rows;
  amounts_len : vec_len l.amounts ≡ l.counter;
  amounts_room : l.count ≤ vec_capacity l.amounts;
  tight_len : vec_len l.tight ≡ l.counter;
  tight_room : l.count ≤ vec_capacity l.tight;
  levels_len : vec_len l.levels ≡ l.counter;
  levels_room : l.count ≤ vec_capacity l.levels;
}
