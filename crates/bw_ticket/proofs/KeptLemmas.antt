-- The facts on words, phases and lists that the proofs of several steps share.
use Rattle.std.proofs.Common.{◌≡◌, ◌≢◌, ℕ, zero, suc, ◌+◌, ◌*◌, ◌^◌, ◌%◌, ◌<◌, ◌≤◌, ◌==◌, List}
use Rattle.std.proofs.Common.{[], ◌∷◌, ◌++◌, length, drop, set, slice_index, refl, sym}
use Rattle.std.proofs.Common.{ap, ◌∙◌, subst, arith, ⊎_elim, ◌⊎◌, inl}
use Rattle.std.proofs.lemmas.List.{length-set}
use Rattle.std.proofs.lemmas.Bool.{ltb-false, lt-ltb}
use Rattle.std.specs.Prelude.{nat_lt, false}
use Rattle.bw_ticket.specs.declared.limits.TheConstants.{MAX_SEATS}
use Rattle.std.specs.List.{All}
use Rattle.bw_ticket.specs.declared.board.SeatView.{SeatView}
use Rattle.bw_ticket.specs.declared.board.About.{About}
use Rattle.bw_ticket.specs.declared.board.Phase.{Phase}
use Rattle.bw_ticket.specs.declared.board.Phase.TheVariants.{Idle, Waiting, Marked, Looked, Inside}
use Rattle.bw_ticket.specs.declared.board.Phase.TheVariants.{Done, Served, Owes, Found, Wakes}
use Rattle.bw_wake.specs.Progress.{one_if}
use Rattle.bw_ticket.specs.Rule.{waits, is_inside}
use Rattle.bw_ticket.specs.Rule.{is_done, ticket_of, holds}
use Rattle.bw_ticket.specs.Rule.{Acts, Fits, is_seat, IsNews}
use Rattle.bw_machine.specs.declared.history.Entry.{Entry}
use Rattle.bw_machine.proofs.CallerLemmas.{equal_or_not}
use Rattle.bw_wake.proofs.CallerLemmas.{same_words}

-- the word 0 after an addition of 1
pub raised_first : (ws : List ℕ) (a b : ℕ) (cs : List ℕ) → ws ≡ a ∷ b ∷ cs → a + 1 < 2 ^ 64
    → set ws 0 ((slice_index ws 0 + 1) % 2 ^ 64) ≡ (a + 1) ∷ b ∷ cs
raised_first ws a b cs e lt = let P : List ℕ
    → Type 0 = λ z. set z 0 ((slice_index z 0 + 1) % 2 ^ 64) ≡ (a + 1) ∷ b ∷ cs in
    let small : (a + 1) % 2 ^ 64 ≡ a + 1 = grind arith in
    subst P (sym e) (ap (λ (n : ℕ). n ∷ b ∷ cs) small)

pub raised_second : (ws : List ℕ) (a b : ℕ) (cs : List ℕ) → ws ≡ a ∷ b ∷ cs → b + 1 < 2 ^ 64
    → set ws 1 ((slice_index ws 1 + 1) % 2 ^ 64) ≡ a ∷ (b + 1) ∷ cs
raised_second ws a b cs e lt =
    let P : List ℕ → Type 0 = λ z. set z 1 ((slice_index z 1 + 1) % 2 ^ 64) ≡ a ∷ (b + 1) ∷ cs in
    let small : (b + 1) % 2 ^ 64 ≡ b + 1 = grind arith in
    subst P (sym e) (ap (λ (n : ℕ). a ∷ n ∷ cs) small)

-- the words are the two and as many wake words
abbrev pub Shaped : ℕ → ℕ → ℕ → List ℕ → Type 0
Shaped a b n ws = (cs : List ℕ) × (ws ≡ a ∷ b ∷ cs) × (length cs ≡ n)

-- a store to a wake word leaves the two words
pub stored : (ws : List ℕ) (a b n i v : ℕ) → Shaped a b n ws → 2 ≤ i → Shaped a b n (set ws i v)
stored ws a b n zero v h le = absurd (omega arith)
stored ws a b n (suc zero) v h le = absurd (omega arith)
stored ws a b n (suc (suc k)) v h le = (
  set h.0 k v,
  subst (λ z. set z (suc (suc k)) v ≡ a ∷ b ∷ set h.0 k v) (sym h.1) refl,
  length-set h.0 k v ∙ h.2,
)

-- a word that is read stays
pub read : (ws : List ℕ) (a b n i : ℕ) → Shaped a b n ws
    → Shaped a b n (set ws i (slice_index ws i))
read ws a b n i h = (h.0, same_words ws i ∙ h.1, h.2)

module _ {X : Type 0} where
  pub all_snoc : (P : X → Type 0) (xs : List X) (x : X) → All P xs → P x → All P (xs ++ x ∷ [])
  all_snoc P [] x h p zero d lt = p
  all_snoc P [] x h p (suc k) d lt = absurd (omega arith)
  all_snoc P (y ∷ xs) x h p zero d lt = h 0 d (omega arith)
  all_snoc P (y ∷ xs) x h p (suc k) d lt =
      all_snoc P xs x (λ j e l. h (suc j) e (omega arith)) p k d (omega arith)

pub below : (a b : ℕ) → a ≤ b → a ≢ b → a < b
below a b le ne = omega arith

-- a load leaves the words
pub loaded : (ws : List ℕ) (a b : ℕ) (cs : List ℕ) → ws ≡ a ∷ b ∷ cs
    → set ws 1 (slice_index ws 1) ≡ a ∷ b ∷ cs
loaded ws a b cs e = let P : List ℕ → Type 0 = λ z. set z 1 (slice_index z 1) ≡ a ∷ b ∷ cs in
    subst P (sym e) refl

pub drop_front : {A : Type 0} (xs ys : List A) → drop (length xs) (xs ++ ys) ≡ ys
drop_front [] ys = refl
drop_front (x ∷ xs) ys = drop_front xs ys

-- a seat that is not inside has the same to say of another history
pub acts_on : {M C R : Type 0} (after : M → ℕ → C → M) (opening : M) (room serving : ℕ)
    (h k : List (Entry C R)) (f : Phase M C R) → is_inside f ≡ 0 →
    Acts after opening room serving h f → Acts after opening room serving k f
acts_on after opening room serving h k Idle outside a = tt
acts_on after opening room serving h k (Waiting t) outside a = tt
acts_on after opening room serving h k (Marked t) outside a = tt
acts_on after opening room serving h k (Looked t) outside a = tt
acts_on after opening room serving h k (Inside t y) outside a = absurd (omega arith)
acts_on after opening room serving h k (Done t) outside a = a
acts_on after opening room serving h k (Served t) outside a = tt
acts_on after opening room serving h k (Owes t n) outside a = tt
acts_on after opening room serving h k (Found t n) outside a = tt
acts_on after opening room serving h k (Wakes t n) outside a = tt

-- and one that is not done either the same at another ticket
pub acts_at : {M C R : Type 0} (after : M → ℕ → C → M) (opening : M) (room m n : ℕ)
    (h : List (Entry C R)) (f : Phase M C R) → is_inside f ≡ 0 →
    is_done f ≡ 0 → Acts after opening room m h f → Acts after opening room n h f
acts_at after opening room m n h Idle outside e a = tt
acts_at after opening room m n h (Waiting t) outside e a = tt
acts_at after opening room m n h (Marked t) outside e a = tt
acts_at after opening room m n h (Looked t) outside e a = tt
acts_at after opening room m n h (Inside t y) outside e a = absurd (omega arith)
acts_at after opening room m n h (Done t) outside e a = absurd (omega arith)
acts_at after opening room m n h (Served t) outside e a = tt
acts_at after opening room m n h (Owes t k) outside e a = tt
acts_at after opening room m n h (Found t k) outside e a = tt
acts_at after opening room m n h (Wakes t k) outside e a = tt

-- one that is neither has nothing to say
pub acts_free : {M C R : Type 0} (after : M → ℕ → C → M) (opening : M) (room n : ℕ)
    (h : List (Entry C R)) (f : Phase M C R) → is_inside f ≡ 0 →
    is_done f ≡ 0 → Acts after opening room n h f
acts_free after opening room n h Idle outside e = tt
acts_free after opening room n h (Waiting t) outside e = tt
acts_free after opening room n h (Marked t) outside e = tt
acts_free after opening room n h (Looked t) outside e = tt
acts_free after opening room n h (Inside t y) outside e = absurd (omega arith)
acts_free after opening room n h (Done t) outside e = absurd (omega arith)
acts_free after opening room n h (Served t) outside e = tt
acts_free after opening room n h (Owes t k) outside e = tt
acts_free after opening room n h (Found t k) outside e = tt
acts_free after opening room n h (Wakes t k) outside e = tt

pub one_is : (t x : ℕ) → one_if (t == x) ≡ 1 → t ≡ x
one_is t x h = ⊎_elim (λ (e : (t ≡ x) × (one_if (t == x) ≡ 1)). e.0)
    (λ (n : (t ≢ x) × (one_if (t == x) ≡ 0)). let z = n.1 in absurd (omega arith))
    (equal_or_not one_if t x)

pub above : (t n : ℕ) → ((n ≤ t) → ⊥) → t < n
above t n h = omega arith

pub same_if : (t u x : ℕ) → t ≡ u → one_if (u == x) ≡ one_if (t == x)
same_if t u x e = ap (λ (n : ℕ). one_if (n == x)) (sym e)

-- where a seat waits with a ticket, it waits with no other
pub waits_only : {M C R : Type 0} (f : Phase M C R) (u : ℕ) → waits u f ≡ 1 → (x : ℕ)
    → one_if (u == x) ≡ waits x f
waits_only Idle u h x = absurd (omega arith)
waits_only (Waiting t) u h x = same_if t u x (one_is t u h)
waits_only (Marked t) u h x = same_if t u x (one_is t u h)
waits_only (Looked t) u h x = same_if t u x (one_is t u h)
waits_only (Inside t y) u h x = absurd (omega arith)
waits_only (Done t) u h x = absurd (omega arith)
waits_only (Served t) u h x = absurd (omega arith)
waits_only (Owes t k) u h x = absurd (omega arith)
waits_only (Found t k) u h x = absurd (omega arith)
waits_only (Wakes t k) u h x = absurd (omega arith)

-- where a seat waits, it has that ticket, and is neither inside nor done
pub waits_is : {M C R : Type 0} (x : ℕ) (f : Phase M C R) → waits x f ≡ 1
    → (ticket_of f ≡ x) × (is_inside f ≡ 0) × (is_done f ≡ 0)
waits_is x Idle h = absurd (omega arith)
waits_is x (Waiting t) h = (one_is t x h, refl, refl)
waits_is x (Marked t) h = (one_is t x h, refl, refl)
waits_is x (Looked t) h = (one_is t x h, refl, refl)
waits_is x (Inside t y) h = absurd (omega arith)
waits_is x (Done t) h = absurd (omega arith)
waits_is x (Served t) h = absurd (omega arith)
waits_is x (Owes t k) h = absurd (omega arith)
waits_is x (Found t k) h = absurd (omega arith)
waits_is x (Wakes t k) h = absurd (omega arith)

-- a seat has the same ticket, and is inside or done as before
pub record Alike {M C R : Type 0} (f g : Phase M C R) : Type 0 where
  pub waits_as : (x : ℕ) → waits x g ≡ waits x f
  pub outside : (is_inside f ≡ 0) × (is_inside g ≡ 0)
  pub undone : (is_done f ≡ 0) × (is_done g ≡ 0)
  pub held : holds g ≡ holds f

-- the number of all calls
abbrev pub room : {M : Type 0} → About M → ℕ
room about = about.seats * about.calls

module _ {M C R : Type 0} (after : M → ℕ → C → M) (about : About M) where
  -- what is known of one seat, as the rule has it
  abbrev pub Fit : ℕ → List (Entry C R) → SeatView M C R → Type 0
  Fit serving history = Fits after about.opening.value about.seats about.calls serving history

module _ {M C R : Type 0} where
  -- a view of a seat, or of none, that is not of none
  pub a_seat : (seats : ℕ) (p : SeatView M C R) → (p.number < seats) ⊎ IsNews p → (IsNews p → ⊥)
      → p.number < seats
  a_seat seats p n busy = ⊎_elim (λ (lt : p.number < seats). lt) (λ (w : IsNews p). absurd (busy w))
      n

  -- it stays one under another phase
  pub still_seat : (seats : ℕ) (p q : SeatView M C R) → (p.number < seats) ⊎ IsNews p
      → p.number ≡ q.number → (IsNews p → ⊥) → (q.number < seats) ⊎ IsNews q
  still_seat seats p q n same busy = let lt = a_seat seats p n busy in inl (omega arith)

  -- one with a ticket is of a seat
  pub busy_seat : (p : SeatView M C R) → holds p.phase ≡ 1 → IsNews p → ⊥
  busy_seat p one w = let e = ap holds w.2 in omega arith

  -- a view whose number is of no seat is of none
  pub of_none : (seats : ℕ) (p : SeatView M C R) → seats ≤ MAX_SEATS
      → (p.number < seats) ⊎ IsNews p → nat_lt p.number MAX_SEATS ≡ false → IsNews p
  of_none seats p few n off = ⊎_elim
      (λ (lt : p.number < seats). let le = ltb-false p.number MAX_SEATS off in absurd (omega arith))
      (λ (w : IsNews p). w) n

  pub news_of_none : (seats : ℕ) (p : SeatView M C R) → seats ≤ MAX_SEATS
      → (p.number < seats) ⊎ IsNews p → is_seat p ≡ 0 → IsNews p
  news_of_none seats p few n off = ⊎_elim
      (λ (lt : p.number < seats). let e : is_seat p ≡ 1 =
      ap one_if (lt-ltb p.number MAX_SEATS (omega arith)) in absurd (omega arith))
      (λ (w : IsNews p). w) n
