-- The berths so far, and the places that are left.
use Rattle.std.proofs.Common.{◌≡◌, ◌-◌, ◌≤◌, [], vec_len, vec_capacity}
use Rattle.std.specs.Arc.{arc_value}
use Rattle.bw_lend.specs.Parts.{IsTable}
use Rattle.bw_lend.specs.Rule.{Each, stakes_from}
use Rattle.bw_lend.proofs.seat.open_berths.Given as goal

abbrev pub invariant-loop-place : goal.invariant-loop-place
invariant-loop-place g l = record {
  table : l.rest.table_id ≡ (arc_value l.places).shared.table_id;
  sized : IsTable l.rest.table_id;
  key : (arc_value l.places).shared.key.value.lock_id ≡ l.lock.lock_id;
  parts : l.rest.me ≡ (
    stakes_from (arc_value l.places).shared.key.value.lock_id l.place
        (64 - l.place),
    [],
  );
  count : vec_len l.berths ≡ l.place;
  room : l.fn.count ≤ vec_capacity l.berths;
  berths : Each (λ b. b ≡ l.lock.lock_id) l.berths.items;
}
