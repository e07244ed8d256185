-- The event Mark keeps the invariant.
use Rattle.std.proofs.Common.{◌≡◌, ◌≢◌, ℕ, ◌+◌, ◌%◌, ◌<◌, ◌≤◌, ◌==◌, List, length, refl, sym, ap}
use Rattle.std.proofs.Common.{◌∙◌, inl}
use Rattle.std.proofs.Common.{inr, ⊎_elim, arith, eq-eqb, slice_get, slice_set, slice_index, Some}
use mathlib.Core.Logic.{dite}
use native.Mathlib.Decide.{ℕ_discrete}
use Rattle.std.proofs.lemmas.List.{length-set}
use Rattle.std.proofs.lemmas.Nat.{mod_below}
use Rattle.bw_wake.specs.declared.seats.Phase.{Phase}
use Rattle.bw_wake.specs.declared.seats.Phase.TheVariants.{Waiting, Marked, Looked}
use Rattle.bw_wake.specs.Protocol.{WaitState, word_of}
use Rattle.bw_wake.specs.Progress.{one_if, busy, sleeps, will_peek, wakes, count}
use Rattle.bw_wake.proofs.Invariant.{waits, holds, may_sleep, Stands, Sound}
use Rattle.bw_wake.proofs.Counts.{count_set, count-le, count_le_at, count_at}
use Rattle.bw_machine.proofs.CallerLemmas.{equal_or_not}
use Rattle.bw_wake.proofs.WakeWords.{index_here, index_else}
use Rattle.bw_wake.proofs.WordsApart.{sleeps-waits, may_sleep-waits, from_serving, to_next, window}
use Rattle.bw_wake.proofs.WordsApart.{words_apart}

-- the event Mark by a seat that waits, is awake and does nothing else
pub mark_sound : (s : WaitState) (i t : ℕ) (p : Phase) → slice_get s.phases i ≡ Some p
    → ((x : ℕ) → waits x p ≡ one_if (t == x)) → busy p ≡ 0 → holds p ≡ 1
    → ((x : ℕ) → sleeps x p ≡ 0) → ((x : ℕ) → will_peek x p ≡ 0) → ((x : ℕ)
    → wakes x p ≡ 0)
    → Sound s → Sound record s {
      words = slice_set s.words (word_of s t) (t + 1);
      phases = slice_set s.phases i (Marked t);
    }
mark_sound s i t p at is_w is_b is_h is_s is_p is_k r =
    let M = λ (g : Phase → ℕ). count_set g s.phases i p (Marked t) at in
    let ws : List ℕ = slice_set s.words (word_of s t) (t + 1) in
    let len : length ws ≡ length s.words = length-set s.words (word_of s t) (t + 1) in
    let mine : 1 ≤ count (waits t) s.phases =
    (let a = count_at (waits t) s.phases i p at in let b = is_w t in
    let c = ap one_if (eq-eqb t t refl) in omega arith) in
    let some_words : 0 < length s.words =
    (let a = window s r in let b = from_serving s r t mine in let c = to_next s r t mine in
    omega arith) in
    let here : slice_index ws (word_of s t) ≡ t + 1 =
    index_here s.words (word_of s t) (t + 1) (mod_below t (length s.words) some_words) in
    let elsewhere = λ (x : ℕ) (ne : word_of s x ≢ word_of s t). (λ j. slice_index ws (x % len j))
    ∙ index_else s.words (word_of s t) (word_of s x) (t + 1) ne in
    record {
      drawn = let a = M holds in omega (arith, r.drawn);
      turn = λ lt. let a = M (waits s.serving) in let b = M busy in let c = is_w s.serving in
          let d = r.turn lt in omega arith;
      later = λ x gt lt. let a = M (waits x) in let c = is_w x in let d = r.later x gt lt in
          omega arith;
      past = λ x lt. let a = M (waits x) in let c = is_w x in let d = r.past x lt in omega arith;
      future = λ x le. let a = M (waits x) in let c = is_w x in let d = r.future x le in
          omega arith;
      quiet = λ e. let b = M busy in let d = r.quiet e in omega arith;
      words = omega (arith, r.words, length-set s.phases i (Marked t), len);
      mark_or_wake = λ x some. let a = M (sleeps x) in let b = is_s x in
          let c = count-le (sleeps x) (waits x) s.phases (sleeps-waits x) in
          let w = M (wakes x) in let v = is_k x in
          dite (ℕ_discrete x t)
          (λ (e : x ≡ t).
          inl ((λ j. slice_index ws (e j % len j)) ∙ (here ∙ ap (λ (y : ℕ). y + 1) (sym e))))
          (λ (ne : x ≢ t).
          ⊎_elim (λ (h : Stands s x). inl
          (elsewhere x (λ same. ne (words_apart s r x t (omega arith) mine same)) ∙ h))
          (λ (h : 1 ≤ count (wakes x) s.phases). inr (omega arith))
          (r.mark_or_wake x (omega arith)));
      peek_owed = λ some stands. let a = M (may_sleep s.serving) in
          let c = count-le (may_sleep s.serving) (waits s.serving) s.phases
          (may_sleep-waits s.serving) in let q = M (will_peek s.serving) in
          let v = is_p s.serving in
          let lt = to_next s r s.serving (omega arith) in let one = r.turn lt in
          let gap = count_le_at (may_sleep s.serving) (waits s.serving) s.phases i p
          (may_sleep-waits s.serving) at in let w = is_w s.serving in
          ⊎_elim (λ (h : (t ≡ s.serving) × (one_if (t == s.serving) ≡ 1)). let k =
          h.1 in absurd (omega arith))
          (λ (h : (t ≢ s.serving) × (one_if (t == s.serving) ≡ 0)).
          let old : Stands s s.serving =
          sym (elsewhere s.serving
          (λ same. h.0 (sym (words_apart s r s.serving t (omega arith) mine same)))) ∙ stands in
          let z = r.peek_owed (omega arith) old in omega arith) (equal_or_not one_if t s.serving);
    }

-- by a seat that has not marked yet, and by one that has looked in vain
pub mark_waiting : (s : WaitState) (i t : ℕ) → slice_get s.phases i ≡ Some (Waiting t) → Sound s
    → Sound record s {
      words = slice_set s.words (word_of s t) (t + 1);
      phases = slice_set s.phases i (Marked t);
    }
mark_waiting s i t at r =
    mark_sound s i t (Waiting t) at (λ x. refl) refl refl (λ x. refl) (λ x. refl) (λ x. refl) r

pub mark_looked : (s : WaitState) (i t : ℕ) → slice_get s.phases i ≡ Some (Looked t) → Sound s
    → Sound record s {
      words = slice_set s.words (word_of s t) (t + 1);
      phases = slice_set s.phases i (Marked t);
    }
mark_looked s i t at r =
    mark_sound s i t (Looked t) at (λ x. refl) refl refl (λ x. refl) (λ x. refl) (λ x. refl) r
