-- What an event changes: of the phases its own seat's, and that of a seat that it wakes; of the words
-- one at most; and the ticket that is served by one at most.
use Rattle.std.proofs.Common.{◌≡◌, ◌≢◌, ℕ, ◌+◌, ◌%◌, ◌<◌, ◌≤◌, ◌⊎◌, ◌==◌, nat_lt, Bool, true, false}
use Rattle.std.proofs.Common.{List, length, refl, sym, ap, ◌∙◌, subst, inl, inr, ⊎_elim, arith}
use Rattle.std.proofs.Common.{slice_get, slice_set, slice_index, Some, None, Option}
use Rattle.std.proofs.Common.{if◌then◌else◌, eq-eqb}
use Rattle.std.specs.List.{list_any}
use mathlib.Core.Logic.{dite}
use native.Mathlib.Decide.{ℕ_discrete}
use Rattle.std.proofs.lemmas.List.{length-set}
use Rattle.std.proofs.lemmas.Nat.{mod_below}
use Rattle.bw_wake.specs.declared.seats.Phase.{Phase}
use Rattle.bw_wake.specs.declared.seats.Phase.TheVariants.{Idle, Waiting, Marked, Looked, Asleep}
use Rattle.bw_wake.specs.declared.seats.Phase.TheVariants.{Inside, Done, Served, Owes, Found, Wakes}
use Rattle.bw_wake.specs.declared.seats.Event.{Event}
use Rattle.bw_wake.specs.declared.seats.Event.TheVariants.{Take, Look, Mark, Park, SpuriousWake}
use Rattle.bw_wake.specs.declared.seats.Event.TheVariants.{Apply, Leave, PeekNext, PeekWord}
use Rattle.bw_wake.specs.declared.seats.Event.TheVariants.{TakeMark, Wake}
use Rattle.bw_wake.specs.Protocol.{WaitState, or_same, one_less, tickets_woken, sleeps_on, word_of}
use Rattle.bw_wake.specs.Protocol.{mark_at, after, happens, moved, take_by, look_by, mark_by}
use Rattle.bw_wake.specs.Protocol.{park_by, spurious_wake_by, apply_by, leave_by, peek_next_by}
use Rattle.bw_wake.specs.Protocol.{peek_word_by, take_mark_by, wake_by}
use Rattle.bw_wake.specs.Progress.{seat_of, one_if, count}
use Rattle.bw_machine.proofs.CallerLemmas.{get_same, get_other}
use Rattle.bw_wake.proofs.Invariant.{waits, Sound}
use Rattle.bw_wake.proofs.Counts.{count_set, count_at}
use Rattle.std.proofs.lemmas.Bool.{eqb-false}
use Rattle.bw_wake.proofs.WakeSound.{waits_once}
use Rattle.bw_wake.proofs.WakeWords.{index_here, index_else}
use Rattle.bw_wake.proofs.WordsApart.{words_apart}

-- the state after an event whose seat is in this phase, or none
abbrev pub after_at : WaitState → Event → Option Phase → Option WaitState
after_at s (Take i) o = take_by s i o
after_at s (Look i) o = look_by s i o
after_at s (Mark i) o = mark_by s i o
after_at s (Park i) o = park_by s i o
after_at s (SpuriousWake i) o = spurious_wake_by s i o
after_at s (Apply i) o = apply_by s i o
after_at s (Leave i) o = leave_by s i o
after_at s (PeekNext i) o = peek_next_by s i o
after_at s (PeekWord i) o = peek_word_by s i o
after_at s (TakeMark i) o = take_mark_by s i o
after_at s (Wake i j) o = wake_by s i o j (slice_get s.phases j)

abbrev pub now : WaitState → Event → Option Phase → WaitState
now s e o = or_same s (after_at s e o)

pub after_is : (s : WaitState) (e : Event) → after s e ≡ after_at s e (slice_get s.phases (seat_of e))
after_is s (Take i) = refl
after_is s (Look i) = refl
after_is s (Mark i) = refl
after_is s (Park i) = refl
after_is s (SpuriousWake i) = refl
after_is s (Apply i) = refl
after_is s (Leave i) = refl
after_is s (PeekNext i) = refl
after_is s (PeekWord i) = refl
after_is s (TakeMark i) = refl
after_is s (Wake i j) = refl

-- the phase of the seat b is the same in x, or b slept in s and has been woken
abbrev pub IsOther : WaitState → ℕ → WaitState → Type 0
IsOther s b x = (slice_get x.phases b ≡ slice_get s.phases b)
    ⊎ ((t : ℕ) × (slice_get s.phases b ≡ Some (Asleep t)) × (slice_get x.phases b ≡ Some (Waiting t)))

if_other : (s : WaitState) (a b : ℕ) (q : Phase) (c : Bool) → b ≢ a
    → IsOther s b (if c then moved s a q else s)
if_other s a b q true ne = inl (get_other s.phases a b q ne)
if_other s a b q false ne = inl refl

woken_other : (s : WaitState) (a k n j : ℕ) (q : Option Phase) (b : ℕ) → slice_get s.phases j ≡ q
    → b ≢ a → IsOther s b (or_same s (wake_by s a (Some (Wakes k n)) j q))
woken_other s a k n j (Some (Asleep t)) b at ne = by_word (word_of s t == word_of s k)
  where
    mid : List Phase
    mid = slice_set s.phases a (one_less k n)

    is_other : Dec (b ≡ j)
        → IsOther s b (record s { phases = slice_set (slice_set s.phases a (one_less k n)) j (Waiting t) })
    is_other (yes e) =
        let at_mid : slice_get mid j ≡ Some (Asleep t) =
        get_other s.phases a j (one_less k n) (λ f. ne (e ∙ f)) ∙ at in
        inr (
          t,
          ap (slice_get s.phases) e ∙ at,
          ap (slice_get (slice_set mid j (Waiting t))) e
              ∙ get_same mid j (Asleep t) (Waiting t) at_mid,
        )
    is_other (no f) = inl (get_other mid j b (Waiting t) f ∙ get_other s.phases a b (one_less k n) ne)

    by_word : (c : Bool) → IsOther s b (or_same s (if c then Some (record s {
      phases = slice_set (slice_set s.phases a (one_less k n)) j (Waiting t);
    }) else None))
    by_word true = is_other (ℕ_discrete b j)
    by_word false = inl refl
woken_other s a k n j _ b at ne =
    by_any (list_any (sleeps_on (length s.words) (word_of s k)) s.phases)
  where
    by_any : (c : Bool)
        → IsOther s b (or_same s (if c then None else Some (moved s a (one_less k n))))
    by_any true = inl refl
    by_any false = inl (get_other s.phases a b (one_less k n) ne)

other_at : (s : WaitState) (e : Event) (o : Option Phase) (b : ℕ) → b ≢ seat_of e
    → IsOther s b (now s e o)
other_at s (Take a) (Some Idle) b ne = inl (get_other s.phases a b (Waiting s.next) ne)
other_at s (Take a) _ b ne = inl refl
other_at s (Look a) (Some (Waiting t)) b ne = if_other s a b Inside (t == s.serving) ne
other_at s (Look a) (Some (Marked t)) b ne =
    inl (get_other s.phases a b (if t == s.serving then Inside else Looked t) ne)
other_at s (Look a) (Some (Looked t)) b ne = if_other s a b Inside (t == s.serving) ne
other_at s (Look a) _ b ne = inl refl
other_at s (Mark a) (Some (Waiting t)) b ne = inl (get_other s.phases a b (Marked t) ne)
other_at s (Mark a) (Some (Looked t)) b ne = inl (get_other s.phases a b (Marked t) ne)
other_at s (Mark a) _ b ne = inl refl
other_at s (Park a) (Some (Looked t)) b ne =
    inl (get_other s.phases a b (if mark_at s t == t + 1 then Asleep t else Waiting t) ne)
other_at s (Park a) _ b ne = inl refl
other_at s (SpuriousWake a) (Some (Asleep t)) b ne = inl (get_other s.phases a b (Waiting t) ne)
other_at s (SpuriousWake a) _ b ne = inl refl
other_at s (Apply a) (Some Inside) b ne = inl (get_other s.phases a b Done ne)
other_at s (Apply a) _ b ne = inl refl
other_at s (Leave a) (Some Done) b ne = inl (get_other s.phases a b (Served s.serving) ne)
other_at s (Leave a) _ b ne = inl refl
other_at s (PeekNext a) (Some (Served t)) b ne = inl (get_other s.phases a b
    (if nat_lt (t + 1) s.next then Owes (t + 1) tickets_woken else Idle) ne)
other_at s (PeekNext a) _ b ne = inl refl
other_at s (PeekWord a) (Some (Owes k n)) b ne =
    inl (get_other s.phases a b (if mark_at s k == k + 1 then Found k n else one_less k n) ne)
other_at s (PeekWord a) _ b ne = inl refl
other_at s (TakeMark a) (Some (Found k n)) b ne = inl (get_other s.phases a b (Wakes k n) ne)
other_at s (TakeMark a) _ b ne = inl refl
other_at s (Wake a j) (Some (Wakes k n)) b ne =
    woken_other s a k n j (slice_get s.phases j) b refl ne
other_at s (Wake a j) _ b ne = inl refl

-- an event changes another seat only if it wakes it
pub other_seat : (s : WaitState) (e : Event) (b : ℕ) → b ≢ seat_of e → IsOther s b (happens s e)
other_seat s e b ne = subst (λ o. IsOther s b (or_same s o)) (sym (after_is s e))
    (other_at s e (slice_get s.phases (seat_of e)) b ne)

-- the ticket that is served stays, or rises
abbrev pub Serves : WaitState → WaitState → Type 0
Serves s x = (x.serving ≡ s.serving) ⊎ (s.serving < x.serving)

if_serves : (s : WaitState) (a : ℕ) (q : Phase) (c : Bool) → Serves s (if c then moved s a q else s)
if_serves s a q true = inl refl
if_serves s a q false = inl refl

woken_serves : (s : WaitState) (a k n j : ℕ) (q : Option Phase)
    → Serves s (or_same s (wake_by s a (Some (Wakes k n)) j q))
woken_serves s a k n j (Some (Asleep t)) = by_word (word_of s t == word_of s k)
  where
    by_word : (c : Bool) → Serves s (or_same s (if c then Some (record s {
      phases = slice_set (slice_set s.phases a (one_less k n)) j (Waiting t);
    }) else None))
    by_word true = inl refl
    by_word false = inl refl
woken_serves s a k n j _ = by_any (list_any (sleeps_on (length s.words) (word_of s k)) s.phases)
  where
    by_any : (c : Bool) → Serves s (or_same s (if c then None else Some (moved s a (one_less k n))))
    by_any true = inl refl
    by_any false = inl refl

serves_at : (s : WaitState) (e : Event) (o : Option Phase) → Serves s (now s e o)
serves_at s (Take a) (Some Idle) = inl refl
serves_at s (Take a) _ = inl refl
serves_at s (Look a) (Some (Waiting t)) = if_serves s a Inside (t == s.serving)
serves_at s (Look a) (Some (Looked t)) = if_serves s a Inside (t == s.serving)
serves_at s (Look a) (Some (Marked t)) = inl refl
serves_at s (Look a) _ = inl refl
serves_at s (Mark a) (Some (Waiting t)) = inl refl
serves_at s (Mark a) (Some (Looked t)) = inl refl
serves_at s (Mark a) _ = inl refl
serves_at s (Park a) (Some (Looked t)) = inl refl
serves_at s (Park a) _ = inl refl
serves_at s (SpuriousWake a) (Some (Asleep t)) = inl refl
serves_at s (SpuriousWake a) _ = inl refl
serves_at s (Apply a) (Some Inside) = inl refl
serves_at s (Apply a) _ = inl refl
serves_at s (Leave a) (Some Done) = inr (omega arith)
serves_at s (Leave a) _ = inl refl
serves_at s (PeekNext a) (Some (Served t)) = inl refl
serves_at s (PeekNext a) _ = inl refl
serves_at s (PeekWord a) (Some (Owes k n)) = inl refl
serves_at s (PeekWord a) _ = inl refl
serves_at s (TakeMark a) (Some (Found k n)) = inl refl
serves_at s (TakeMark a) _ = inl refl
serves_at s (Wake a j) (Some (Wakes k n)) = woken_serves s a k n j (slice_get s.phases j)
serves_at s (Wake a j) _ = inl refl

pub serves : (s : WaitState) (e : Event) → Serves s (happens s e)
serves s e = subst (λ o. Serves s (or_same s o)) (sym (after_is s e))
    (serves_at s e (slice_get s.phases (seat_of e)))

-- no ticket that is drawn is drawn no more
abbrev pub Draws : WaitState → WaitState → Type 0
Draws s x = s.next ≤ x.next

if_draws : (s : WaitState) (a : ℕ) (q : Phase) (c : Bool) → Draws s (if c then moved s a q else s)
if_draws s a q true = omega arith
if_draws s a q false = omega arith

woken_draws : (s : WaitState) (a k n j : ℕ) (q : Option Phase)
    → Draws s (or_same s (wake_by s a (Some (Wakes k n)) j q))
woken_draws s a k n j (Some (Asleep t)) = by_word (word_of s t == word_of s k)
  where
    by_word : (c : Bool) → Draws s (or_same s (if c then Some (record s {
      phases = slice_set (slice_set s.phases a (one_less k n)) j (Waiting t);
    }) else None))
    by_word true = omega arith
    by_word false = omega arith
woken_draws s a k n j _ = by_any (list_any (sleeps_on (length s.words) (word_of s k)) s.phases)
  where
    by_any : (c : Bool) → Draws s (or_same s (if c then None else Some (moved s a (one_less k n))))
    by_any true = omega arith
    by_any false = omega arith

draws_at : (s : WaitState) (e : Event) (o : Option Phase) → Draws s (now s e o)
draws_at s (Take a) (Some Idle) = omega arith
draws_at s (Take a) _ = omega arith
draws_at s (Look a) (Some (Waiting t)) = if_draws s a Inside (t == s.serving)
draws_at s (Look a) (Some (Looked t)) = if_draws s a Inside (t == s.serving)
draws_at s (Look a) (Some (Marked t)) = omega arith
draws_at s (Look a) _ = omega arith
draws_at s (Mark a) (Some (Waiting t)) = omega arith
draws_at s (Mark a) (Some (Looked t)) = omega arith
draws_at s (Mark a) _ = omega arith
draws_at s (Park a) (Some (Looked t)) = omega arith
draws_at s (Park a) _ = omega arith
draws_at s (SpuriousWake a) (Some (Asleep t)) = omega arith
draws_at s (SpuriousWake a) _ = omega arith
draws_at s (Apply a) (Some Inside) = omega arith
draws_at s (Apply a) _ = omega arith
draws_at s (Leave a) (Some Done) = omega arith
draws_at s (Leave a) _ = omega arith
draws_at s (PeekNext a) (Some (Served t)) = omega arith
draws_at s (PeekNext a) _ = omega arith
draws_at s (PeekWord a) (Some (Owes k n)) = omega arith
draws_at s (PeekWord a) _ = omega arith
draws_at s (TakeMark a) (Some (Found k n)) = omega arith
draws_at s (TakeMark a) _ = omega arith
draws_at s (Wake a j) (Some (Wakes k n)) = woken_draws s a k n j (slice_get s.phases j)
draws_at s (Wake a j) _ = omega arith

pub draws : (s : WaitState) (e : Event) → Draws s (happens s e)
draws s e = subst (λ o. Draws s (or_same s o)) (sym (after_is s e))
    (draws_at s e (slice_get s.phases (seat_of e)))

-- the words stay, or the seat stores the mark of its ticket, or some word gets 0
abbrev Writes : WaitState → Option Phase → List ℕ → Type 0
Writes s o ws = (ws ≡ s.words)
    ⊎ (((t : ℕ) × (p : Phase) × (o ≡ Some p) × (waits t p ≡ 1)
    × (ws ≡ slice_set s.words (word_of s t) (t + 1)))
    ⊎ ((k : ℕ) × (ws ≡ slice_set s.words (word_of s k) 0)))

if_writes : (s : WaitState) (o : Option Phase) (a : ℕ) (q : Phase) (c : Bool)
    → Writes s o (if c then moved s a q else s).words
if_writes s o a q true = inl refl
if_writes s o a q false = inl refl

woken_writes : (s : WaitState) (o : Option Phase) (a k n j : ℕ) (q : Option Phase)
    → Writes s o (or_same s (wake_by s a (Some (Wakes k n)) j q)).words
woken_writes s o a k n j (Some (Asleep t)) = by_word (word_of s t == word_of s k)
  where
    by_word : (c : Bool) → Writes s o (or_same s (if c then Some (record s {
      phases = slice_set (slice_set s.phases a (one_less k n)) j (Waiting t);
    }) else None)).words
    by_word true = inl refl
    by_word false = inl refl
woken_writes s o a k n j _ = by_any (list_any (sleeps_on (length s.words) (word_of s k)) s.phases)
  where
    by_any : (c : Bool)
        → Writes s o (or_same s (if c then None else Some (moved s a (one_less k n)))).words
    by_any true = inl refl
    by_any false = inl refl

pub mine : (t : ℕ) → one_if (t == t) ≡ 1
mine t = ap one_if (eq-eqb t t refl)

take_writes : (s : WaitState) (o : Option Phase) (k : ℕ) (c : Bool)
    → Writes s o (if c then slice_set s.words (word_of s k) 0 else s.words)
take_writes s o k true = inr (inr (k, refl))
take_writes s o k false = inl refl

writes_at : (s : WaitState) (e : Event) (o : Option Phase) → Writes s o (now s e o).words
writes_at s (Take a) (Some Idle) = inl refl
writes_at s (Take a) _ = inl refl
writes_at s (Look a) (Some (Waiting t)) =
    if_writes s (Some (Waiting t)) a Inside (t == s.serving)
writes_at s (Look a) (Some (Looked t)) = if_writes s (Some (Looked t)) a Inside (t == s.serving)
writes_at s (Look a) (Some (Marked t)) = inl refl
writes_at s (Look a) _ = inl refl
writes_at s (Mark a) (Some (Waiting t)) = inr (inl (t, Waiting t, refl, mine t, refl))
writes_at s (Mark a) (Some (Looked t)) = inr (inl (t, Looked t, refl, mine t, refl))
writes_at s (Mark a) _ = inl refl
writes_at s (Park a) (Some (Looked t)) = inl refl
writes_at s (Park a) _ = inl refl
writes_at s (SpuriousWake a) (Some (Asleep t)) = inl refl
writes_at s (SpuriousWake a) _ = inl refl
writes_at s (Apply a) (Some Inside) = inl refl
writes_at s (Apply a) _ = inl refl
writes_at s (Leave a) (Some Done) = inl refl
writes_at s (Leave a) _ = inl refl
writes_at s (PeekNext a) (Some (Served t)) = inl refl
writes_at s (PeekNext a) _ = inl refl
writes_at s (PeekWord a) (Some (Owes k n)) = inl refl
writes_at s (PeekWord a) _ = inl refl
writes_at s (TakeMark a) (Some (Found k n)) =
    take_writes s (Some (Found k n)) k (mark_at s k == k + 1)
writes_at s (TakeMark a) _ = inl refl
writes_at s (Wake a j) (Some (Wakes k n)) =
    woken_writes s (Some (Wakes k n)) a k n j (slice_get s.phases j)
writes_at s (Wake a j) _ = inl refl

-- where n is at the place of the ticket x in these words
abbrev pub HasAt : ℕ → List ℕ → ℕ → Type 0
HasAt n ws x = slice_index ws (x % length ws) ≡ n

written_here : (s : WaitState) (x v : ℕ) → 0 < length s.words
    → HasAt v (slice_set s.words (word_of s x) v) x
written_here s x v some_words =
    let len = length-set s.words (word_of s x) v in
    (λ j. slice_index (slice_set s.words (word_of s x) v) (x % len j))
    ∙ index_here s.words (word_of s x) v (mod_below x (length s.words) some_words)

written_else : (s : WaitState) (x w v : ℕ) → word_of s x ≢ w
    → HasAt (mark_at s x) (slice_set s.words w v) x
written_else s x w v ne =
    let len = length-set s.words w v in
    (λ j. slice_index (slice_set s.words w v) (x % len j))
    ∙ index_else s.words w (word_of s x) v ne

-- two seats that count in g
pub two_seats : (g : Phase → ℕ) (ps : List Phase) (a b : ℕ) (p q : Phase) → g Idle ≡ 0 → b ≢ a
    → slice_get ps a ≡ Some p → slice_get ps b ≡ Some q → g p + g q ≤ count g ps
two_seats g ps a b p q zero_idle ne at_a at_b =
    let one = count_set g ps a p Idle at_a in
    let other = count_at g (slice_set ps a Idle) b q (get_other ps a b Idle ne ∙ at_b) in
    omega arith

-- where the mark of a waiting seat does not stand, no event of another seat stores it
pub mark_stays_gone : (s : WaitState) (e : Event) (j x : ℕ) (p : Phase) → Sound s
    → slice_get s.phases j ≡ Some p → waits x p ≡ 1 → j ≢ seat_of e → mark_at s x ≢ x + 1
    → 0 < length s.words → mark_at (happens s e) x ≢ x + 1
mark_stays_gone s e j x p r at w ne gone some_words =
    subst (λ o. mark_at (or_same s o) x ≢ x + 1) (sym (after_is s e))
    (⊎_elim
    (λ (same : (now s e (slice_get s.phases (seat_of e))).words ≡ s.words).
    λ stands. gone (sym (ap (λ ws. slice_index ws (x % length ws)) same) ∙ stands))
    (λ z. ⊎_elim (λ m. marked m) (λ k. cleared k) z)
    (writes_at s e (slice_get s.phases (seat_of e))))
  where
    marked : ((t : ℕ) × (q : Phase) × (slice_get s.phases (seat_of e) ≡ Some q) × (waits t q ≡ 1)
        × ((now s e (slice_get s.phases (seat_of e))).words
        ≡ slice_set s.words (word_of s t) (t + 1)))
        → mark_at (now s e (slice_get s.phases (seat_of e))) x ≢ x + 1
    marked m = dite (ℕ_discrete (word_of s x) (word_of s m.0))
        (λ (same : word_of s x ≡ word_of s m.0). λ stands.
        let here = count_at (waits x) s.phases j p at in
        let there = count_at (waits m.0) s.phases (seat_of e) m.1 m.2 in
        let one = m.3 in
        let t_is : x ≡ m.0 = words_apart s r x m.0 (omega arith) (omega arith) same in
        let also : waits x m.1 ≡ 1 = ap (λ y. waits y m.1) t_is ∙ m.3 in
        let both = two_seats (waits x) s.phases (seat_of e) j m.1 p refl ne m.2 at in
        let once = waits_once s r x in absurd (omega arith))
        (λ other. λ stands. gone
        (sym (ap (λ ws. slice_index ws (x % length ws)) m.4
        ∙ written_else s x (word_of s m.0) (m.0 + 1) other) ∙ stands))

    cleared : ((k : ℕ) × ((now s e (slice_get s.phases (seat_of e))).words
        ≡ slice_set s.words (word_of s k) 0))
        → mark_at (now s e (slice_get s.phases (seat_of e))) x ≢ x + 1
    cleared k = dite (ℕ_discrete (word_of s x) (word_of s k.0))
        (λ (same : word_of s x ≡ word_of s k.0). λ stands.
        let here : HasAt 0 (slice_set s.words (word_of s k.0) 0) x =
        subst (λ w. HasAt 0 (slice_set s.words w 0) x) same (written_here s x 0 some_words) in
        let z : 0 ≡ x + 1 = sym (ap (λ ws. slice_index ws (x % length ws)) k.1 ∙ here) ∙ stands in
        absurd (omega arith))
        (λ other. λ stands. gone
        (sym (ap (λ ws. slice_index ws (x % length ws)) k.1
        ∙ written_else s x (word_of s k.0) 0 other) ∙ stands))

-- the mark is gone once it is taken
pub taken_is_gone : (s : WaitState) (x : ℕ) (ps : List Phase) → 0 < length s.words
    → mark_at record s {
      words = if mark_at s x == x + 1 then slice_set s.words (word_of s x) 0 else s.words;
      phases = ps;
    } x ≢ x + 1
taken_is_gone s x ps some_words = by_mark (mark_at s x == x + 1) refl
  where
    by_mark : (c : Bool) → (mark_at s x == x + 1) ≡ c
        → mark_at record s {
          words = if c then slice_set s.words (word_of s x) 0 else s.words;
          phases = ps;
        } x ≢ x + 1
    by_mark true h = λ stands.
        let z : 0 ≡ x + 1 = sym (written_here s x 0 some_words) ∙ stands in absurd (omega arith)
    by_mark false h = eqb-false (mark_at s x) (x + 1) h
