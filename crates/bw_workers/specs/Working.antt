-- The work of a worker with its seat: the calls that it makes, one after another, and the seat that
-- it hands back.
use Rattle.std.specs.Prelude.{◌≡◌, ℕ, ◌+◌, ◌≤◌, List, [], ◌∷◌, ◌++◌, map}
use Rattle.std.specs.Prelude.{Bool, true, false, None, ◌⊎◌}
use Rattle.atomic_table.specs.Seated.{TableId}
use Rattle.bw_machine.specs.History.{entry, entry_of}
use Rattle.bw_model.specs.declared.row.Row.{Row}
use Rattle.bw_ticket.specs.Holder.{Holder}
use Rattle.bw_pool.specs.declared.calls.PoolCall.{PoolCall}
use Rattle.bw_pool.specs.declared.calls.PoolCall.TheVariants.{Draw, GiveBack}
use Rattle.bw_pool.specs.declared.calls.PoolReply.{PoolReply}
use Rattle.bw_pool.specs.Drained.{PoolEntry, Drains, fresh, got_one}
use Rattle.bw_workers.specs.Rounds.{leaves_in, InRounds}

-- a seat of the pool's lock
abbrev pub PoolSeat : Type 0
PoolSeat = Holder PoolCall PoolReply

-- the list has all leaves, in row order
abbrev pub IsLeaves : List Row → List ℕ → Type 0
IsLeaves rows leaves = leaves ≡ leaves_in rows

-- the calls of a seat, as the entries that they have in the history
abbrev pub calls_of : PoolSeat → List PoolEntry
calls_of seat = map (entry_of seat.number) seat.own

-- one call of the seat, with its reply
pub record Asks (old : PoolSeat) (call : PoolCall) (reply : PoolReply) (new : PoolSeat)
    : Type 0 where
  pub lock : new.lock_id ≡ old.lock_id
  pub number : new.number ≡ old.number
  pub idle : new.pending ≡ None
  pub left : new.calls_left + 1 ≡ old.calls_left
  pub calls : calls_of new ≡ calls_of old ++ entry old.number call reply ∷ []

-- the seat drew one slice of the leaf, and keeps it
pub record Keeps (uses : ℕ → Bool) (leaf : ℕ) (old new : PoolSeat) : Type 0 where
  pub reply : PoolReply
  pub used : uses leaf ≡ true
  pub got : got_one reply ≡ true
  pub lock : new.lock_id ≡ old.lock_id
  pub number : new.number ≡ old.number
  pub idle : new.pending ≡ None
  pub left : new.calls_left + 1 ≡ old.calls_left
  pub calls : calls_of new ≡ calls_of old ++ entry old.number (Draw leaf 1) reply ∷ []

-- the seat got no slice of the leaf, or gave it back at once
pub record DropsLeaf (uses : ℕ → Bool) (leaf : ℕ) (old new : PoolSeat) : Type 0 where
  pub reply : PoolReply
  pub lock : new.lock_id ≡ old.lock_id
  pub number : new.number ≡ old.number
  pub idle : new.pending ≡ None
  pub left : old.calls_left ≤ new.calls_left + 2
  pub calls : ((got_one reply ≡ false)
      × (calls_of new ≡ calls_of old ++ entry old.number (Draw leaf 1) reply ∷ []))
      ⊎ ((uses leaf ≡ false) × (got_one reply ≡ true) × (back : PoolReply)
      × (calls_of new ≡ calls_of old
      ++ entry old.number (Draw leaf 1) reply ∷ entry old.number (GiveBack leaf 1) back ∷ []))

-- the seat that a worker hands back: its idle seat of the lock, with the calls of a drained worker
-- that goes round the leaves
pub record IsDrainedSeat (uses : ℕ → Bool) (rows : List Row) (per_processor : ℕ) (lock_id : TableId)
    (seat_number : ℕ) (seat : PoolSeat) : Type 0 where
  pub lock : seat.lock_id ≡ lock_id
  pub number : seat.number ≡ seat_number
  pub idle : seat.pending ≡ None
  pub drained : Drains uses rows per_processor fresh (calls_of seat)
  pub rounds : InRounds uses None (leaves_in rows) (calls_of seat)
