-- The wakes that are owed, where one view changes.
use Rattle.std.proofs.Common.{◌≡◌, ◌≢◌, ℕ, ◌+◌, ◌<◌, ◌≤◌, List, [], ◌∷◌, length, set}
use Rattle.std.proofs.Common.{slice_index, refl, sym, ap, ◌∙◌, arith}
use mathlib.Core.Option.{some}
use mathlib.Core.Logic.{dite}
use native.Mathlib.Decide.{ℕ_discrete}
use lib.ListN.{get_elem?}
use Rattle.bw_wake.proofs.CallerLemmas.{same_words, index_here, index_else}
use Rattle.bw_ticket.specs.declared.board.SeatView.{SeatView}
use Rattle.bw_ticket.specs.declared.board.Phase.{Phase}
use Rattle.bw_ticket.specs.declared.board.Phase.TheVariants.{Idle, Waiting, Marked, Looked, Inside}
use Rattle.bw_ticket.specs.declared.board.Phase.TheVariants.{Done, Served, Owes, Found, Wakes}
use Rattle.bw_ticket.specs.Rule.{waits, holds, may_sleep, will_peek, wake_word, IsOwed}
use Rattle.bw_ticket.proofs.Views.{weigh_set}

-- a mark that stands after a word was read stood before
pub read_stands : (ws : List ℕ) (i x : ℕ) → slice_index (set ws i (slice_index ws i)) (wake_word x)
    ≡ x + 1 → slice_index ws (wake_word x) ≡ x + 1
read_stands ws i x h = sym (ap (λ vs. slice_index vs (wake_word x)) (same_words ws i)) ∙ h

-- so does one that stands after one of the first two words was written
pub low_stands : (ws : List ℕ) (i v x : ℕ) → i < 2 → slice_index (set ws i v) (wake_word x) ≡ x + 1
    → slice_index ws (wake_word x) ≡ x + 1
low_stands ws i v x low h = sym (index_else ws i (wake_word x) v (λ e. omega arith)) ∙ h

-- or a word with another number
pub other_stands : (ws : List ℕ) (w v x : ℕ) → w < length ws → v ≢ x + 1
    → slice_index (set ws w v) (wake_word x) ≡ x + 1
    → slice_index ws (wake_word x) ≡ x + 1
other_stands ws w v x there ne h = dite (ℕ_discrete (wake_word x) w)
    (λ (e : wake_word x ≡ w). absurd
    (ne (sym (ap (slice_index (set ws w v)) e ∙ index_here ws w v there) ∙ h)))
    (λ (n : wake_word x ≢ w). sym (index_else ws w (wake_word x) v n) ∙ h)

module _ {M C R : Type 0} where
  -- a seat that waits holds a ticket, and owes no wake
  pub waits-holds : (t : ℕ) (f : Phase M C R) → waits t f ≡ 1 → holds f ≡ 1
  waits-holds t Idle h = absurd (omega arith)
  waits-holds t (Waiting u) h = refl
  waits-holds t (Marked u) h = refl
  waits-holds t (Looked u) h = refl
  waits-holds t (Inside u y) h = refl
  waits-holds t (Done u) h = refl
  waits-holds t (Served u) h = absurd (omega arith)
  waits-holds t (Owes k n) h = absurd (omega arith)
  waits-holds t (Found k n) h = absurd (omega arith)
  waits-holds t (Wakes k n) h = absurd (omega arith)

  pub waits-no_peek : (t x : ℕ) (f : Phase M C R) → waits t f ≡ 1 → will_peek x f ≡ 0
  waits-no_peek t x Idle h = refl
  waits-no_peek t x (Waiting u) h = refl
  waits-no_peek t x (Marked u) h = refl
  waits-no_peek t x (Looked u) h = refl
  waits-no_peek t x (Inside u y) h = refl
  waits-no_peek t x (Done u) h = refl
  waits-no_peek t x (Served u) h = absurd (omega arith)
  waits-no_peek t x (Owes k n) h = absurd (omega arith)
  waits-no_peek t x (Found k n) h = absurd (omega arith)
  waits-no_peek t x (Wakes k n) h = absurd (omega arith)

  -- what is owed stays owed where a step of one seat lets no other sleep, keeps what that seat will
  -- look for, and makes no mark of x
  pub owed_still : (views : List (List (SeatView M C R))) (id : ℕ) (p q : SeatView M C R) (x : ℕ)
      (ws vs : List ℕ) → get_elem? views id ≡ some (p ∷ [])
      → may_sleep x q.phase ≤ may_sleep x p.phase → will_peek x p.phase ≤ will_peek x q.phase
      → (slice_index vs (wake_word x) ≡ x + 1 → slice_index ws (wake_word x) ≡ x + 1)
      → IsOwed x ws views → IsOwed x vs (set views id (q ∷ []))
  owed_still views id p q x ws vs at less more stood owed some_may stands =
      let a = weigh_set (λ y. may_sleep x y.phase) views id (p ∷ []) (q ∷ []) at in
      let b = weigh_set (λ y. will_peek x y.phase) views id (p ∷ []) (q ∷ []) at in
      let z = owed (omega arith) (stood stands) in omega arith
