-- The seats of one lock, before and after its workers ran.
use Rattle.std.specs.Prelude.{◌≡◌, ℕ, ◌<◌, ◌≤◌, List, [], length, map, Bool, None, slice_index_or}
use Rattle.std.specs.List.{All, sum_by}
use Rattle.atomic_table.specs.Seated.{TableId}
use Rattle.bw_machine.specs.declared.history.Made.{Made}
use Rattle.bw_machine.specs.History.{IsLegal, own_from}
use Rattle.bw_model.specs.declared.row.Row.{Row}
use Rattle.bw_model.specs.Groups.{Groups}
use Rattle.bw_pool.specs.declared.calls.PoolCall.{PoolCall}
use Rattle.bw_pool.specs.declared.calls.PoolReply.{PoolReply}
use Rattle.bw_pool.specs.Drained.{PoolEntry, opening}
use Rattle.bw_pool.specs.Pool.{PoolState, after, answer}
use Rattle.bw_ticket.specs.Holder.{Lock, begun}
use Rattle.bw_workers.specs.Rounds.{leaves_in, InRounds}
use Rattle.bw_workers.specs.Working.{PoolSeat, calls_of, IsDrainedSeat}

-- a seat with which no call was made, and that has so many calls left
pub record IsReady (lock_id : TableId) (calls seat_number : ℕ) (seat : PoolSeat) : Type 0 where
  pub lock : seat.lock_id ≡ lock_id
  pub number : seat.number ≡ seat_number
  pub idle : seat.pending ≡ None
  pub own : seat.own ≡ []
  pub left : calls ≤ seat.calls_left

-- seat k has number k
abbrev pub AreReady : TableId → ℕ → List PoolSeat → Type 0
AreReady lock_id calls seats =
    (k : ℕ) (d : PoolSeat) → k < length seats → IsReady lock_id calls k (slice_index_or seats k d)

-- seat k is handed back by a drained worker
abbrev pub AreBack : (ℕ → Bool) → List Row → ℕ → TableId → List PoolSeat → Type 0
AreBack uses rows per_processor lock_id seats = (k : ℕ) (d : PoolSeat) → k < length seats →
    IsDrainedSeat uses rows per_processor lock_id k (slice_index_or seats k d)

-- the calls that the seat at this place made
abbrev pub calls_by : List PoolSeat → ℕ → List (Made PoolCall PoolReply)
calls_by seats caller = slice_index_or (map (λ s. s.own) seats) caller []

-- one seat for each processor, and seat k has number k
abbrev pub AreSeatsOf : ℕ → List PoolSeat → Type 0
AreSeatsOf processors seats = (length seats ≡ processors)
    × ((k : ℕ) (d : PoolSeat) → k < length seats → (slice_index_or seats k d).number ≡ k)

-- The lock made the history with these seats. They are its seats, all that were opened. It was
-- opened round a new pool of the amounts. The history is legal from there, in ticket order, and has
-- the calls that the seats began and no other.
pub record IsMadeBy (groups : Groups) (amounts : List ℕ) (lock : Lock PoolState)
    (seats : List PoolSeat) (history : List PoolEntry) : Type 0 where
  pub one_lock : (k : ℕ) (d : PoolSeat) → k < length seats
      → (slice_index_or seats k d).lock_id ≡ lock.lock_id
  pub all : length seats ≡ lock.seats
  pub opened : lock.opening ≡ opening groups amounts
  pub legal : IsLegal after answer lock.opening history
  pub own : All (λ s. s.own ≡ own_from 0 s.number history) seats
  pub count : length history ≡ sum_by (begun lock.calls_per_seat) seats

-- each seat's calls go round the leaves that are still asked, in row order
abbrev pub AreInRounds : (ℕ → Bool) → List Row → List PoolSeat → Type 0
AreInRounds uses rows seats = (k : ℕ) (d : PoolSeat) → k < length seats →
    InRounds uses None (leaves_in rows) (calls_of (slice_index_or seats k d))
