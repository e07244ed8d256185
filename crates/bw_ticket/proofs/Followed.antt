-- Each step is the event of the waiting protocol that has its name.
use Rattle.std.proofs.Common.{◌≡◌, ◌≢◌, ℕ, zero, suc, ◌+◌, ◌^◌, ◌%◌, ◌<◌, ◌==◌, nat_lt, Bool, true}
use Rattle.std.proofs.Common.{false, List, [], ◌∷◌, length, refl, sym, ap, ◌∙◌, subst}
use Rattle.std.proofs.Common.{arith}
use Rattle.std.proofs.Common.{slice_get, slice_set, slice_index, Option, Some, None, is_some}
use Rattle.std.proofs.Common.{if◌then◌else◌, ne_eqb, eq-eqb}
use Rattle.std.specs.List.{list_any}
use prog.Atomic.{either}
use Rattle.bw_machine.proofs.CallerLemmas.{get_same, get_other}
use Rattle.bw_wake.specs.declared.seats.Phase.{Phase as WaitPhase}
use Rattle.bw_wake.specs.declared.seats.Phase.TheVariants.{Idle as PIdle, Waiting as PWaiting}
use Rattle.bw_wake.specs.declared.seats.Phase.TheVariants.{Looked as PLooked, Asleep as PAsleep}
use Rattle.bw_wake.specs.declared.seats.Phase.TheVariants.{Inside as PInside, Done as PDone}
use Rattle.bw_wake.specs.declared.seats.Phase.TheVariants.{Served as PServed, Owes as POwes}
use Rattle.bw_wake.specs.declared.seats.Phase.TheVariants.{Found as PFound, Wakes as PWakes}
use Rattle.bw_wake.specs.declared.seats.Event.TheVariants.{Take, Look, Mark, Apply, Leave, PeekNext}
use Rattle.bw_wake.specs.declared.seats.Event.TheVariants.{PeekWord, TakeMark}
use Rattle.bw_wake.specs.Protocol.{WaitState, word_of, mark_at, moved, take_by, look_by, mark_by}
use Rattle.bw_wake.specs.Protocol.{apply_by, leave_by, peek_next_by, peek_word_by}
use Rattle.bw_wake.specs.Protocol.{take_mark_by, wake_by, sleeps_on, or_same}
use Rattle.bw_wake.specs.Protocol.{marked as marked_in, one_less as one_less_in}
use Rattle.bw_ticket.specs.declared.limits.TheConstants.{MAX_SEATS}
use Rattle.bw_ticket.specs.declared.board.SlotValue.{SlotValue}
use Rattle.bw_ticket.specs.declared.board.Phase.{Phase}
use Rattle.bw_ticket.specs.declared.board.Phase.TheVariants.{Idle, Waiting, Marked, Looked, Inside}
use Rattle.bw_ticket.specs.declared.board.Phase.TheVariants.{Done, Served, Owes, Found, Wakes}
use Rattle.bw_ticket.specs.Rule.{waits, wake_word}
use Rattle.bw_ticket.specs.Plays.{missed, marked, saw_next, saw_word, took, one_less}
use Rattle.bw_ticket.specs.Plays.{MayMark}
use Rattle.bw_ticket.specs.Follows.{words_of, in_protocol, IsEvent, IsWake, StepsAreEvents}
use Rattle.bw_ticket.proofs.KeptLemmas.{waits_is}
use Rattle.bw_wake.proofs.CallerLemmas.{same_words}

-- a list that has at a place what is written there stays
set_same : {A : Type 0} (xs : List A) (i : ℕ) (a : A) → slice_get xs i ≡ Some a
    → slice_set xs i a ≡ xs
set_same [] i a e = refl
set_same (x ∷ xs) zero a e = let s : x ≡ a = cc e in ap (λ y. y ∷ xs) (sym s)
set_same (x ∷ xs) (suc i) a e = ap (λ l. x ∷ l) (set_same xs i a e)

-- the wake words stand after two others
two_on : (x : ℕ) → 2 + x ≡ suc (suc x)
two_on x = omega arith

pub index_past : (a b x : ℕ) (ws : List ℕ) → slice_index (a ∷ b ∷ ws) (2 + x) ≡ slice_index ws x
index_past a b x ws = ap (λ (k : ℕ). slice_index (a ∷ b ∷ ws) k) (two_on x)

set_past : (a b x v : ℕ) (ws : List ℕ) → slice_set (a ∷ b ∷ ws) (2 + x) v ≡ a ∷ b ∷ slice_set ws x v
set_past a b x v ws = ap (λ (k : ℕ). slice_set (a ∷ b ∷ ws) k v) (two_on x)

pub small : (n : ℕ) → n < 2 ^ 32 → (n + 1) % 2 ^ 64 ≡ n + 1
small n h = grind arith

taken : (b : Bool) (a c x : ℕ) (ws : List ℕ) →
    a ∷ c ∷ (if b then slice_set ws x 0 else ws)
    ≡ slice_set (a ∷ c ∷ ws) (2 + x) (either b 0 (slice_index (a ∷ c ∷ ws) (2 + x)))
taken true a c x ws = sym (set_past a c x 0 ws)
taken false a c x ws = sym (same_words (a ∷ c ∷ ws) (2 + x))

module _ (M C R : Type 0) where
  ticket : IsEvent {M = M} {C = C} {R = R} Take 0 (λ n. (n + 1) % 2 ^ 64) (λ n. Unit {0}) Idle
      (λ n. Waiting n)
  ticket s i like at p = (
    record s { next = s.next + 1; phases = slice_set s.phases i (PWaiting s.next) },
    ap (take_by s i) at,
    ap (λ (n : ℕ). n ∷ s.serving ∷ s.words) (sym (small s.next like.1)),
    refl,
  )

  enter : (f : Phase M C R) (t : ℕ) (y : SlotValue M C R) → waits t f ≡ 1
      → IsEvent Look 1 (λ n. n) (λ n. n ≡ t) f (λ n. Inside n y)
  enter Idle t y w s i like at p = absurd (omega arith)
  enter (Waiting u) t y w s i like at p =
      let same = (waits_is {M = M} {C = C} {R = R} t (Waiting u) w).0 in (
        moved s i PInside,
        ap (look_by s i) at ∙ ap (λ b. Some (if b then moved s i PInside else s))
            (eq-eqb u s.serving (same ∙ sym p)),
        refl,
        refl,
      )
  enter (Marked u) t y w s i like at p =
      let same = (waits_is {M = M} {C = C} {R = R} t (Marked u) w).0 in (
        moved s i PInside,
        ap (look_by s i) at
            ∙ ap (λ b. Some (moved s i (if b then PInside else PLooked u)))
            (eq-eqb u s.serving (same ∙ sym p)),
        refl,
        refl,
      )
  enter (Looked u) t y w s i like at p =
      let same = (waits_is {M = M} {C = C} {R = R} t (Looked u) w).0 in (
        moved s i PInside,
        ap (look_by s i) at ∙ ap (λ b. Some (if b then moved s i PInside else s))
            (eq-eqb u s.serving (same ∙ sym p)),
        refl,
        refl,
      )
  enter (Inside u z) t y w s i like at p = absurd (omega arith)
  enter (Done u) t y w s i like at p = absurd (omega arith)
  enter (Served u) t y w s i like at p = absurd (omega arith)
  enter (Owes u n) t y w s i like at p = absurd (omega arith)
  enter (Found u n) t y w s i like at p = absurd (omega arith)
  enter (Wakes u n) t y w s i like at p = absurd (omega arith)

  other : (u t n : ℕ) → u ≡ t → n ≢ t → u ≢ n
  other u t n e ne h = ne (sym h ∙ e)

  look : (f : Phase M C R) (t : ℕ) → waits t f ≡ 1
      → IsEvent Look 1 (λ n. n) (λ n. n ≢ t) f (λ n. missed f)
  look Idle t w s i like at p = absurd (omega arith)
  look (Waiting u) t w s i like at p =
      let same = (waits_is {M = M} {C = C} {R = R} t (Waiting u) w).0 in (
        s,
        ap (look_by s i) at ∙ ap (λ b. Some (if b then moved s i PInside else s))
            (ne_eqb u s.serving (other u t s.serving same p)),
        refl,
        sym (set_same s.phases i (PWaiting u) at),
      )
  look (Marked u) t w s i like at p =
      let same = (waits_is {M = M} {C = C} {R = R} t (Marked u) w).0 in (
        moved s i (PLooked u),
        ap (look_by s i) at ∙ ap (λ b. Some (moved s i (if b then PInside else PLooked u)))
            (ne_eqb u s.serving (other u t s.serving same p)),
        refl,
        refl,
      )
  look (Looked u) t w s i like at p =
      let same = (waits_is {M = M} {C = C} {R = R} t (Looked u) w).0 in (
        s,
        ap (look_by s i) at ∙ ap (λ b. Some (if b then moved s i PInside else s))
            (ne_eqb u s.serving (other u t s.serving same p)),
        refl,
        sym (set_same s.phases i (PLooked u) at),
      )
  look (Inside u z) t w s i like at p = absurd (omega arith)
  look (Done u) t w s i like at p = absurd (omega arith)
  look (Served u) t w s i like at p = absurd (omega arith)
  look (Owes u n) t w s i like at p = absurd (omega arith)
  look (Found u n) t w s i like at p = absurd (omega arith)
  look (Wakes u n) t w s i like at p = absurd (omega arith)

  stored : (s : WaitState) (u t : ℕ) → u ≡ t → length s.words ≡ MAX_SEATS
      → s.next ∷ s.serving ∷ slice_set s.words (word_of s u) (u + 1)
      ≡ slice_set (words_of s) (wake_word t) (t + 1)
  stored s u t e len = (λ i. s.next ∷ s.serving ∷ slice_set s.words (e i % len i) (e i + 1))
      ∙ sym (set_past s.next s.serving (t % MAX_SEATS) (t + 1) s.words)

  mark : (f : Phase M C R) (t : ℕ) → MayMark t f
      → IsEvent Mark (wake_word t) (λ n. t + 1) (λ n. Unit {0}) f (λ n. marked f)
  mark Idle t may s i like at p = absurd may
  mark (Waiting u) t may s i like at p =
      (marked_in s i u, ap (mark_by s i) at, stored s u t may like.0, refl)
  mark (Marked u) t may s i like at p = absurd may
  mark (Looked u) t may s i like at p =
      (marked_in s i u, ap (mark_by s i) at, stored s u t may like.0, refl)
  mark (Inside u y) t may s i like at p = absurd may
  mark (Done u) t may s i like at p = absurd may
  mark (Served u) t may s i like at p = absurd may
  mark (Owes u n) t may s i like at p = absurd may
  mark (Found u n) t may s i like at p = absurd may
  mark (Wakes u n) t may s i like at p = absurd may

  record_call : (t : ℕ) (y : SlotValue M C R)
      → IsEvent Apply 1 (λ n. n) (λ n. Unit {0}) (Inside t y) (λ n. Done t)
  record_call t y s i like at p = (moved s i PDone, ap (apply_by s i) at, refl, refl)

  serve : (t : ℕ) → IsEvent {M = M} {C = C} {R = R} Leave 1 (λ n. (n + 1) % 2 ^ 64) (λ n. n ≡ t)
      (Done t) (λ n. Served t)
  serve t s i like at p = (
    record s { serving = s.serving + 1; phases = slice_set s.phases i (PServed s.serving) },
    ap (leave_by s i) at,
    ap (λ (n : ℕ). s.next ∷ n ∷ s.words) (sym (small s.serving like.2)),
    ap (λ (n : ℕ). slice_set s.phases i (PServed n)) p,
  )

  if_there : (b : Bool) (f h : Phase M C R)
      → (if b then in_protocol f else in_protocol h) ≡ in_protocol (if b then f else h)
  if_there true f h = refl
  if_there false f h = refl

  less_there : (k n : ℕ) → one_less_in k n ≡ in_protocol (one_less {M = M} {C = C} {R = R} k n)
  less_there k zero = refl
  less_there k (suc zero) = refl
  less_there k (suc (suc n)) = refl

  peek_next : (t : ℕ) → IsEvent {M = M} {C = C} {R = R} PeekNext 0 (λ n. n) (λ n. Unit {0})
      (Served t) (λ n. saw_next n (Served t))
  peek_next t s i like at p = (
    moved s i (if nat_lt (t + 1) s.next then POwes (t + 1) 3 else PIdle),
    ap (peek_next_by s i) at,
    refl,
    ap (slice_set s.phases i) (if_there (nat_lt (t + 1) s.next) (Owes (t + 1) 3) Idle),
  )

  -- what stands in the wake word
  found : (s : WaitState) (k : ℕ) → length s.words ≡ MAX_SEATS
      → mark_at s k ≡ slice_index (words_of s) (wake_word k)
  found s k len = ap (λ (n : ℕ). slice_index s.words (k % n)) len
      ∙ sym (index_past s.next s.serving (k % MAX_SEATS) s.words)

  peek_word : (k c : ℕ) → IsEvent {M = M} {C = C} {R = R} PeekWord (wake_word k) (λ n. n)
      (λ n. Unit {0}) (Owes k c) (λ n. saw_word n (Owes k c))
  peek_word k c s i like at p = (
    moved s i (if mark_at s k == k + 1 then PFound k c else one_less_in k c),
    ap (peek_word_by s i) at,
    sym (same_words (words_of s) (wake_word k)),
    ap (slice_set s.phases i)
        ((λ j. if found s k like.0 j == k + 1 then PFound k c else less_there k c j)
        ∙ if_there (slice_index (words_of s) (wake_word k) == k + 1) (Found k c) (one_less k c)),
  )

  take_mark : (k c : ℕ) → IsEvent {M = M} {C = C} {R = R} TakeMark (wake_word k)
      (λ n. either (n == k + 1) 0 n) (λ n. Unit {0}) (Found k c)
      (λ n. took (Found k c))
  take_mark k c s i like at p = (
    record s {
      words = if mark_at s k == k + 1 then slice_set s.words (word_of s k) 0 else s.words;
      phases = slice_set s.phases i (PWakes k c);
    },
    ap (take_mark_by s i) at,
    (λ j. s.next ∷ s.serving
        ∷ (if found s k like.0 j == k + 1 then slice_set s.words (k % like.0 j) 0 else s.words))
        ∙ taken (slice_index (words_of s) (wake_word k) == k + 1) s.next s.serving (k % MAX_SEATS)
        s.words,
    refl,
  )

  -- nobody sleeps on the word
  no_one : (s : WaitState) (i k c : ℕ) (b : Bool) → slice_get s.phases i ≡ Some (PWakes k c)
      → is_some (if b then None else Some (moved s i (one_less_in k c))) ≡ true
      → slice_get (or_same s (if b then None else Some (moved s i (one_less_in k c)))).phases i
      ≡ Some (one_less_in k c)
  no_one s i k c true at e = absurd (cc e)
  no_one s i k c false at e = get_same s.phases i (PWakes k c) (one_less_in k c) at

  -- or the seat j sleeps there
  some_one : (s : WaitState) (i k c j t : ℕ) (b : Bool) → j ≢ i
      → slice_get s.phases i ≡ Some (PWakes k c)
      → is_some (if b
      then Some (record s {
        phases =
            slice_set (slice_set s.phases i (one_less_in k c)) j (PWaiting t);
      }) else None) ≡ true
      → slice_get (or_same s
      (if b then Some (record s {
        phases =
            slice_set (slice_set s.phases i (one_less_in k c)) j (PWaiting t);
      }) else None)).phases i
      ≡ Some (one_less_in k c)
  some_one s i k c j t true ne at e =
      get_other (slice_set s.phases i (one_less_in k c)) j i (PWaiting t) (λ h. ne (sym h))
      ∙ get_same s.phases i (PWakes k c) (one_less_in k c) at
  some_one s i k c j t false ne at e = absurd (cc e)

  apart : (s : WaitState) (i j k c t : ℕ) → slice_get s.phases i ≡ Some (PWakes k c)
      → slice_get s.phases j ≡ Some (PAsleep t) → j ≢ i
  apart s i j k c t a b h = absurd (cc (sym a ∙ (ap (slice_get s.phases) (sym h) ∙ b)))

  by_other : (s : WaitState) (i j k c : ℕ) (o : Option WaitPhase)
      → slice_get s.phases i ≡ Some (PWakes k c) → slice_get s.phases j ≡ o
      → is_some (wake_by s i (Some (PWakes k c)) j o) ≡ true
      → slice_get (or_same s (wake_by s i (Some (PWakes k c)) j o)).phases i
      ≡ Some (one_less_in k c)
  by_other s i j k c (Some (PAsleep t)) a b e =
      some_one s i k c j t (word_of s t == word_of s k) (apart s i j k c t a b) a e
  by_other s i j k c _ a b e =
      no_one s i k c (list_any (sleeps_on (length s.words) (word_of s k)) s.phases) a e

  wake : (k c : ℕ) → IsWake {M = M} {C = C} {R = R} (Wakes k c)
  wake k c s i j at possible = let o = slice_get s.phases j in
      let can : is_some (wake_by s i (Some (PWakes k c)) j o) ≡ true =
      subst (λ q. is_some (wake_by s i q j o) ≡ true) at possible in
      let gone : slice_get (or_same s (wake_by s i (Some (PWakes k c)) j o)).phases i
      ≡ Some (one_less_in k c) = by_other s i j k c o at refl can in
      subst (λ q. slice_get (or_same s (wake_by s i q j o)).phases i ≡ Some (one_less_in k c))
      (sym at) gone ∙ ap Some (less_there k c)

pub steps_are_events : (M C R : Type 0) → StepsAreEvents M C R
steps_are_events M C R = record {
  ticket = ticket M C R;
  enter = enter M C R;
  look = look M C R;
  mark = mark M C R;
  record_call = record_call M C R;
  serve = serve M C R;
  peek_next = peek_next M C R;
  peek_word = peek_word M C R;
  take_mark = take_mark M C R;
  wake = wake M C R;
}
