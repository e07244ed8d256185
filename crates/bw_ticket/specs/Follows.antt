-- Each step of a waiting or leaving seat is the event of that name of the waiting protocol of
-- bw_wake, so what is proved there of every list of
-- events is proved of the order of these steps.
use Rattle.std.specs.Prelude.{◌≡◌, ◌≢◌, ℕ, ◌+◌, ◌^◌, ◌%◌, ◌<◌, ◌==◌, List, ◌∷◌, length, Some, true}
use Rattle.std.specs.Prelude.{slice_get, slice_set, slice_index}
use prog.Atomic.{either}
use Rattle.bw_wake.specs.declared.seats.Phase.{Phase as WaitPhase}
use Rattle.bw_wake.specs.declared.seats.Phase.TheVariants.{Idle as PIdle, Waiting as PWaiting}
use Rattle.bw_wake.specs.declared.seats.Phase.TheVariants.{Marked as PMarked, Looked as PLooked}
use Rattle.bw_wake.specs.declared.seats.Phase.TheVariants.{Inside as PInside}
use Rattle.bw_wake.specs.declared.seats.Phase.TheVariants.{Done as PDone, Served as PServed}
use Rattle.bw_wake.specs.declared.seats.Phase.TheVariants.{Owes as POwes, Found as PFound}
use Rattle.bw_wake.specs.declared.seats.Phase.TheVariants.{Wakes as PWakes}
use Rattle.bw_wake.specs.declared.seats.Event.{Event}
use Rattle.bw_wake.specs.declared.seats.Event.TheVariants.{Take, Look, Mark, Apply, Leave, PeekNext}
use Rattle.bw_wake.specs.declared.seats.Event.TheVariants.{PeekWord, TakeMark, Wake}
use Rattle.bw_wake.specs.Protocol.{WaitState, after, happens, is_possible}
use Rattle.bw_ticket.specs.declared.limits.TheConstants.{MAX_SEATS}
use Rattle.bw_ticket.specs.declared.board.SlotValue.{SlotValue}
use Rattle.bw_ticket.specs.declared.board.Phase.{Phase}
use Rattle.bw_ticket.specs.declared.board.Phase.TheVariants.{Idle, Waiting, Marked, Looked, Inside}
use Rattle.bw_ticket.specs.declared.board.Phase.TheVariants.{Done, Served, Owes, Found, Wakes}
use Rattle.bw_ticket.specs.Rule.{waits, wake_word}
use Rattle.bw_ticket.specs.Plays.{missed, marked, saw_next, saw_word, took, woke}
use Rattle.bw_ticket.specs.Plays.{MayMark}

-- the words of the table, as the protocol has them
abbrev pub words_of : WaitState → List ℕ
words_of s = s.next ∷ s.serving ∷ s.words

-- the protocol has as many wake words as the table, and its tickets are as small
abbrev pub IsLike : WaitState → Type 0
IsLike s = (length s.words ≡ MAX_SEATS) × (s.next < 2 ^ 32) × (s.serving < 2 ^ 32)

module _ {M C R : Type 0} where
  -- the phase of a seat in the protocol
  abbrev pub in_protocol : Phase M C R → WaitPhase
  in_protocol Idle = PIdle
  in_protocol (Waiting t) = PWaiting t
  in_protocol (Marked t) = PMarked t
  in_protocol (Looked t) = PLooked t
  in_protocol (Inside t y) = PInside
  in_protocol (Done t) = PDone
  in_protocol (Served t) = PServed t
  in_protocol (Owes k n) = POwes k n
  in_protocol (Found k n) = PFound k n
  in_protocol (Wakes k n) = PWakes k n

  -- In every state of the protocol with a seat where f is, the event of that seat can happen where
  -- n is found in the word w with P n. It makes of
  -- that word what g makes of n, changes no other word, and moves the seat alone, to where h n is
  abbrev pub IsEvent : (ℕ → Event) → ℕ → (ℕ → ℕ) → (ℕ → Type 0) → Phase M C R → (ℕ → Phase M C R)
      → Type 0
  IsEvent event w g P f h = (s : WaitState) (i : ℕ) → IsLike s
      → slice_get s.phases i ≡ Some (in_protocol f) → P (slice_index (words_of s) w)
      → (t : WaitState) × (after s (event i) ≡ Some t)
      × (words_of t ≡ slice_set (words_of s) w (g (slice_index (words_of s) w)))
      × (t.phases ≡ slice_set s.phases i (in_protocol (h (slice_index (words_of s) w))))

  -- the wake itself is no step on a word: where the event can happen, it moves the seat that wakes
  -- to where it is after the step woken
  abbrev pub IsWake : Phase M C R → Type 0
  IsWake f = (s : WaitState) (i j : ℕ) → slice_get s.phases i ≡ Some (in_protocol f)
      → is_possible s (Wake i j) ≡ true
      → slice_get (happens s (Wake i j)).phases i ≡ Some (in_protocol (woke f))

-- each step, with its word, what it makes of that word, and where the seat is before and after, as
-- `Plays` and the calls of the table have them
pub record StepsAreEvents (M C R : Type 0) : Type 0 where
  pub ticket : IsEvent {M = M} {C = C} {R = R} Take 0 (λ n. (n + 1) % 2 ^ 64) (λ n. Unit {0}) Idle
      (λ n. Waiting n)
  pub enter : (f : Phase M C R) (t : ℕ) (y : SlotValue M C R) → waits t f ≡ 1
      → IsEvent Look 1 (λ n. n) (λ n. n ≡ t) f (λ n. Inside n y)
  pub look : (f : Phase M C R) (t : ℕ) → waits t f ≡ 1
      → IsEvent Look 1 (λ n. n) (λ n. n ≢ t) f (λ n. missed f)
  pub mark : (f : Phase M C R) (t : ℕ) → MayMark t f
      → IsEvent Mark (wake_word t) (λ n. t + 1) (λ n. Unit {0}) f (λ n. marked f)
  pub record_call : (t : ℕ) (y : SlotValue M C R)
      → IsEvent Apply 1 (λ n. n) (λ n. Unit {0}) (Inside t y) (λ n. Done t)
  pub serve : (t : ℕ) → IsEvent {M = M} {C = C} {R = R} Leave 1 (λ n. (n + 1) % 2 ^ 64) (λ n. n ≡ t)
      (Done t) (λ n. Served t)
  pub peek_next : (t : ℕ) → IsEvent {M = M} {C = C} {R = R} PeekNext 0 (λ n. n) (λ n. Unit {0})
      (Served t) (λ n. saw_next n (Served t))
  pub peek_word : (k c : ℕ) → IsEvent {M = M} {C = C} {R = R} PeekWord (wake_word k) (λ n. n)
      (λ n. Unit {0}) (Owes k c) (λ n. saw_word n (Owes k c))
  pub take_mark : (k c : ℕ) → IsEvent {M = M} {C = C} {R = R} TakeMark (wake_word k)
      (λ n. either (n == k + 1) 0 n) (λ n. Unit {0}) (Found k c)
      (λ n. took (Found k c))
  pub wake : (k c : ℕ) → IsWake {M = M} {C = C} {R = R} (Wakes k c)
