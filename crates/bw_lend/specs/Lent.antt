-- A seat that was lent, and what comes back.
use Rattle.std.specs.Prelude.{◌≡◌, ℕ, ◌+◌, ◌/◌, ◌%◌, ◌==◌, ◌≤◌, Bool, true, false, [], ◌∷◌, ◌++◌}
use Rattle.std.specs.Prelude.{None, Some, IsSome, MatchOption}
use Rattle.atomic_table.specs.Seated.{TableId}
use Rattle.bw_machine.specs.History.{made}
use Rattle.bw_ticket.specs.Holder.{Holder, ticket_pending}
use Rattle.bw_ticket.specs.declared.lock.Answer.{Answer}
use Rattle.bw_lend.specs.declared.table.Place.{Place}
use Rattle.bw_lend.specs.declared.table.Place.TheVariants.{Empty, Lent, Made}

-- the content of a place, of seats with these calls and replies
abbrev pub Content : Type 0 → Type 0 → Type 0
Content C R = Place (Holder C R) (Answer R)

module _ {C R : Type 0} where
  -- the seat after its pending call was made with this answer, as `finish` of the lock promises
  abbrev pub IsFinished : Holder C R → Answer R → Holder C R → Type 0
  IsFinished lent answer seat = MatchOption lent.pending ⊥ (λ p.
      (answer.at ≡ p.0) × (lent.reached ≤ answer.at)
      × (seat ≡ record lent {
        pending = None;
        reached = p.0 + 1;
        own = lent.own ++ made p.1 answer.reply answer.at ∷ [];
      }))

  -- the content is the seat that was lent, as it was or finished
  abbrev pub Returns : Holder C R → Content C R → Type 0
  Returns lent Empty = ⊥
  Returns lent (Lent seat) = seat ≡ lent
  Returns lent (Made seat answer) = IsFinished lent answer seat

  -- the content returns what was lent, a seat of the lock with a pending call
  abbrev pub Brings : TableId → Holder C R → Content C R → Type 0
  Brings lock lent content =
      (lent.lock_id ≡ lock) × IsSome lent.pending × Returns lent content

  -- the seat has a pending call with this ticket
  abbrev pub HasTicket : Holder C R → ℕ → Type 0
  HasTicket seat ticket = ticket_pending seat.pending ≡ Some ticket

  -- the content is a seat whose call was made, or one whose call was not made
  abbrev pub IsMade : Bool → Content C R → Type 0
  IsMade true (Made seat answer) = Unit {0}
  IsMade false (Lent seat) = Unit {0}
  IsMade _ _ = ⊥

  -- the content returns what was lent, with the ticket of this state and as its code says
  abbrev pub BringsOf : TableId → ℕ → Holder C R → Content C R → Type 0
  BringsOf lock state lent content = Brings lock lent content × HasTicket lent (state / 8)
      × IsMade (state % 8 == 4) content
