-- The news that each kind of step on the table of places brings to the seat that makes it.
use Rattle.std.specs.Prelude.{◌≡◌, ◌≢◌, ℕ, ◌/◌, false, List, [], ◌∷◌, map, drop, take}
use Rattle.atomic_table.specs.Seated.{TableId}
use Rattle.atomic_table.specs.Table.{Me, Step}
use Rattle.bw_lend.specs.declared.stake.Part.{Part}
use Rattle.bw_lend.specs.declared.stake.Part.TheVariants.{Owns, Hints, Lends, Helps}
use Rattle.bw_lend.specs.declared.stake.Stake.{Stake}
use Rattle.bw_lend.specs.declared.table.Place.TheVariants.{Empty, Lent, Made}
use Rattle.bw_lend.specs.Rule.{Each, stake, hint_word, hint_for}
use Rattle.bw_lend.specs.Lent.{Brings, BringsOf, Content, HasTicket, IsMade}
use Rattle.bw_ticket.specs.Holder.{Holder}

module _ {S : Type 0} where
  -- the stake with another part
  abbrev pub with_part : Part S → Stake TableId S → Stake TableId S
  with_part part p = record p { part = part }

-- the knowledge and the contents that a seat of the table carries
abbrev pub Mine : Type 0 → Type 0 → Type 0
Mine C R = Me (Content C R) (List (Stake TableId (Holder C R)))

module _ {C R : Type 0} where
  -- step open: the owner of an unused place takes it
  abbrev pub opened : Step (Content C R) → Mine C R → ℕ → Mine C R → Type 0
  opened st m n m' = (y : Content C R)
      × (m' ≡ (map (with_part Owns) m.0, (st.word, y) ∷ m.1))

  -- the owner of a place lends the content
  abbrev pub lends : Content C R → Stake TableId (Holder C R) → Stake TableId (Holder C R)
  lends Empty p = p
  lends (Lent seat) p = with_part (Hints seat) p
  lends (Made seat answer) p = p

  abbrev pub lent_by : List (ℕ × Content C R) → Stake TableId (Holder C R)
      → Stake TableId (Holder C R)
  lent_by [] p = p
  lent_by (x ∷ xs) p = lends x.1 p

  -- step post: the place goes home with the seat
  abbrev pub posted : Step (Content C R) → Mine C R → ℕ → Mine C R → Type 0
  posted st m n m' = m' ≡ (map (lent_by m.1) m.0, drop 1 m.1)

  -- the content brings back what a stake of this lock with this part has lent, as the state says
  abbrev pub BringsBack : Content C R → TableId → ℕ → Part (Holder C R) → Type 0
  BringsBack y lock state (Lends lent) = BringsOf lock state lent y
  BringsBack y lock state _ = ⊥

  -- step take back: the owner has its place again, if its state is what was expected
  abbrev pub taken_back : Step (Content C R) → Mine C R → ℕ → Mine C R → Type 0
  taken_back st m n m' = (n ≡ st.first → (y : Content C R)
      × (m' ≡ (map (with_part Owns) m.0, (st.word, y) ∷ m.1))
      × Each (λ p. BringsBack y p.lock_id st.first p.part) m.0)
      × (n ≢ st.first → m' ≡ m)

  -- step claim: a helper has the place of another seat, if its state is what was expected. That
  -- seat has the ticket of the state, and its call is not made
  abbrev pub claimed : Step (Content C R) → Mine C R → ℕ → Mine C R → Type 0
  claimed st m n m' = (n ≡ st.first → (lock : TableId) × (lent : Holder C R)
      × (y : Content C R)
      × (m' ≡ (stake lock st.word (Helps lent) ∷ m.0, (st.word, y) ∷ m.1))
      × Brings lock lent y × HasTicket lent (st.first / 8) × IsMade false y
      × Each (λ q. q.lock_id ≡ lock) m.0)
      × (n ≢ st.first → m' ≡ m)

  -- step give back: the place of another seat goes home
  abbrev pub given_back : Step (Content C R) → Mine C R → ℕ → Mine C R → Type 0
  given_back st m n m' = m' ≡ (drop 1 m.0, drop 1 m.1)

  -- the owner of a place has stored the hint of the seat that it lent
  abbrev pub hints : Part (Holder C R) → Part (Holder C R)
  hints (Hints seat) = Lends seat
  hints p = p

  -- the store is of the hint of the ticket with which the seat was lent, and names its place
  abbrev pub IsHinted : Step (Content C R) → ℕ → Part (Holder C R) → Type 0
  IsHinted st place (Hints seat) = (ticket : ℕ) × HasTicket seat ticket
      × (st.word ≡ hint_word ticket) × (st.first ≡ hint_for ticket place)
  IsHinted st place _ = ⊥

  -- step hint, a store of a hint
  abbrev pub hinted : Step (Content C R) → Mine C R → ℕ → Mine C R → Type 0
  hinted st m n m' = (m' ≡ (map (λ p. with_part (hints p.part) p) m.0, m.1))
      × Each (λ p. IsHinted st p.place p.part) m.0

module _ {S : Type 0} where
  -- step split: the first stake goes to the new seat
  abbrev pub others : List (Stake TableId S) → List (Stake TableId S)
  others v = drop 1 v

  abbrev pub first_one : List (Stake TableId S) → List (Stake TableId S)
  first_one v = take 1 v
