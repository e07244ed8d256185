-- The parts that a seat of the table has between two steps.
use Rattle.std.specs.Prelude.{◌≡◌, ℕ, Bool, [], ◌∷◌, Option, None, Some}
use Rattle.atomic_table.specs.Seated.{TableId}
use Rattle.bw_lend.specs.declared.stake.Part.TheVariants.{Owns, Helps}
use Rattle.bw_lend.specs.Rule.{stake}
use Rattle.bw_lend.specs.Lent.{Brings, Content, HasTicket, IsMade}
use Rattle.bw_lend.specs.Plays.{Mine}
use Rattle.bw_ticket.specs.Holder.{Holder, fresh_seat}

-- a table of places has 64 states and 64 hints, and 64 places
abbrev pub IsTable : TableId → Type 0
IsTable id = (id.words ≡ 128) × (id.slots ≡ 64)

module _ {C R : Type 0} where
  -- the seat owns this place of the lock, has it, and has no other part
  abbrev pub IsOwner : TableId → ℕ → Mine C R → Type 0
  IsOwner lock k me = (y : Content C R)
      × (me ≡ (stake lock k Owns ∷ [], (k, y) ∷ []))

  -- the seat has this place of another seat of the lock, which lent itself with this ticket, beside
  -- what it had. The call of that seat is made or not
  abbrev pub IsHelper : TableId → ℕ → ℕ → Bool → Mine C R → Mine C R → Type 0
  IsHelper lock k ticket made old me = (lent : Holder C R) × (y : Content C R)
      × (me ≡ (stake lock k (Helps lent) ∷ old.0, (k, y) ∷ old.1)) × Brings lock lent y
      × HasTicket lent ticket × IsMade made y

  -- the seat of the lock as contracts see it. Where it is lent, in no call's contract, it is none
  abbrev pub seat_in : TableId → Option (Holder C R) → Holder C R
  seat_in id None = fresh_seat id 0 0
  seat_in id (Some seat) = seat

  -- the seat of the lock is at hand, and its place too
  abbrev pub HasSeat : ℕ → Mine C R → Option (Holder C R) → Type 0
  HasSeat k me None = ⊥
  HasSeat k me (Some seat) = IsOwner seat.lock_id k me
