-- The rule of the table of places: what each state says of its place, and which parts seats have in
-- it. A state is a ticket times 8 and a code. The states alone are under the rule: hints may have
-- any value.
use Rattle.std.specs.Prelude.{◌≡◌, ℕ, zero, suc, ◌+◌, ◌*◌, ◌%◌, ◌<◌, ◌≤◌, ◌==◌, List, []}
use Rattle.std.specs.Prelude.{◌∷◌, length, slice_index}
use mathlib.Core.Option.{some}
use lib.ListN.{get_elem?}
use Rattle.atomic_table.specs.Seated.{TableId}
use Rattle.atomic_table.specs.Table.{State}
use Rattle.bw_wake.specs.Progress.{one_if}
use Rattle.bw_lend.specs.declared.stake.Part.{Part}
use Rattle.bw_lend.specs.declared.stake.Part.TheVariants.{Fresh, Owns, Hints, Lends, Helps}
use Rattle.bw_lend.specs.declared.stake.Stake.{Stake}

-- the word with the hint of a ticket, and the hint, which names the place of the ticket's seat
abbrev pub hint_word : ℕ → ℕ
hint_word ticket = 64 + ticket % 64

abbrev pub hint_for : ℕ → ℕ → ℕ
hint_for ticket place = ticket * 64 + place

module _ {X : Type 0} where
  -- sums over the members of one list, and of all lists
  abbrev pub weigh : (X → ℕ) → List X → ℕ
  weigh g [] = 0
  weigh g (p ∷ ps) = g p + weigh g ps

  abbrev pub weigh_all : (X → ℕ) → List (List X) → ℕ
  weigh_all g [] = 0
  weigh_all g (v ∷ vs) = weigh g v + weigh_all g vs

  -- P holds of each member of one list, and of all lists
  abbrev pub Each : (X → Type 0) → List X → Type 0
  Each P [] = Unit {0}
  Each P (p ∷ ps) = P p × Each P ps

  abbrev pub EachIn : (X → Type 0) → List (List X) → Type 0
  EachIn P views = (j : ℕ) (v : List X) → get_elem? views j ≡ some v → Each P v

module _ {S : Type 0} where
  -- a part in a place
  abbrev pub stake : TableId → ℕ → Part S → Stake TableId S
  stake lock k part = record { place = k; part = part; lock_id = lock }

  -- 1 where the part is one of the owner of place k, or of a helper there
  abbrev pub owner_at : ℕ → ℕ → Part S → ℕ
  owner_at k place Fresh = one_if (place == k)
  owner_at k place Owns = one_if (place == k)
  owner_at k place (Hints seat) = one_if (place == k)
  owner_at k place (Lends seat) = one_if (place == k)
  owner_at k place (Helps seat) = 0

  abbrev pub helper_at : ℕ → ℕ → Part S → ℕ
  helper_at k place Fresh = 0
  helper_at k place Owns = 0
  helper_at k place (Hints seat) = 0
  helper_at k place (Lends seat) = 0
  helper_at k place (Helps seat) = one_if (place == k)

  abbrev pub owns : ℕ → Stake TableId S → ℕ
  owns k p = owner_at k p.place p.part

  abbrev pub helps : ℕ → Stake TableId S → ℕ
  helps k p = helper_at k p.place p.part

  -- the parts that may be had in a place in this state, of which `lent` was lent last
  abbrev pub Suits : ℕ → S → Part S → Type 0
  Suits state lent Fresh = state ≡ 0
  Suits state lent Owns = state % 8 ≡ 1
  Suits state lent (Hints seat) = (2 ≤ state % 8) × (seat ≡ lent)
  Suits state lent (Lends seat) = (2 ≤ state % 8) × (seat ≡ lent)
  Suits state lent (Helps seat) = (state % 8 ≡ 2) × (seat ≡ lent)

  -- unused places, n of them from place k on, to be owned
  abbrev pub stakes_from : TableId → ℕ → ℕ → List (Stake TableId S)
  stakes_from lock k zero = []
  stakes_from lock k (suc n) = stake lock k Fresh ∷ stakes_from lock (k + 1) n

-- The facts about one stake
pub record Fits {S : Type 0} (lock : TableId) (words : List ℕ) (lent : ℕ → S) (p : Stake TableId S)
    : Type 0
  where
    pub serves : p.lock_id ≡ lock
    pub within : p.place < 64
    pub suits : Suits (slice_index words p.place) (lent p.place) p.part

-- The rule. `Brings lock state seat content`: the content of a place in this state brings back the
-- seat that was lent.
pub record Ruled {S Y : Type 0} (Brings : TableId → ℕ → S → Y → Type 0) (lock : TableId)
    (s : State Y (List (Stake TableId S))) : Type 0 where
  pub sized : length s.words ≡ 128
  -- the seat that was lent last through each place
  pub lent : ℕ → S
  -- a place has at most one owner, and at most one helper
  pub owners : (k : ℕ) → weigh_all (owns k) s.views ≤ 1
  pub helpers : (k : ℕ) → weigh_all (helps k) s.views ≤ 1
  pub each : EachIn (Fits lock s.words lent) s.views
  -- an unused place has its content
  pub unused : (k : ℕ) → k < 64 → slice_index s.words k ≡ 0
      → (y : Y) × (get_elem? s.homes k ≡ some (some y))
  -- from the code `POSTED` on a place has its content, which brings back what was lent with the
  -- ticket of the state, and with its call made or not as the code says
  pub home : (k : ℕ) → k < 64 → 3 ≤ slice_index s.words k % 8
      → (y : Y) × (get_elem? s.homes k ≡ some (some y))
      × Brings lock (slice_index s.words k) (lent k) y
