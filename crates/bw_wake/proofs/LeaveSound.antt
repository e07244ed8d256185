-- The event Leave keeps the invariant.
use Rattle.std.proofs.Common.{◌≡◌, ◌≢◌, ℕ, suc, ◌+◌, ◌<◌, ◌≤◌, nat_lt, nat_le, ◌&&◌, true}
use Rattle.std.proofs.Common.{ap, inl, inr, ⊎_elim, arith, slice_get, slice_set, Some}
use mathlib.Core.Logic.{dite}
use native.Mathlib.Decide.{ℕ_discrete}
use Rattle.std.proofs.lemmas.Bool.{le-leb}
use Rattle.std.proofs.lemmas.List.{length-set}
use Rattle.bw_wake.specs.declared.seats.Phase.{Phase}
use Rattle.bw_wake.specs.declared.seats.Phase.TheVariants.{Done, Served}
use Rattle.bw_wake.specs.Protocol.{WaitState}
use Rattle.bw_wake.specs.Progress.{one_if, among, busy, sleeps, will_peek, wakes, count}
use Rattle.bw_wake.proofs.Invariant.{waits, holds, Stands, Sound}
use Rattle.bw_wake.proofs.Counts.{count_set}

among_first : (x n : ℕ) → 0 < n → among x x n ≡ 1
among_first x n h = let a : nat_le x x ≡ true = le-leb x x (omega arith) in
    let b : nat_lt x (x + n) ≡ true = le-leb (suc x) (x + n) (omega arith) in
    (λ i. one_if (a i && b i))

-- the event Leave
pub leave_sound : (s : WaitState) (i : ℕ) → slice_get s.phases i ≡ Some Done → Sound s
    → Sound record s { serving = s.serving + 1; phases = slice_set s.phases i (Served s.serving) }
leave_sound s i at r = let M = λ (g : Phase → ℕ).
    count_set g s.phases i Done (Served s.serving) at in
    let b = M busy in let d = M holds in
    let ahead : s.serving < s.next =
    dite (ℕ_discrete s.serving s.next)
    (λ (e : s.serving ≡ s.next). let q = r.quiet e in absurd (omega arith))
    (λ (ne : s.serving ≢ s.next). below ne (omega (arith, r.drawn))) in
    let t = r.turn ahead in
    record {
      drawn = omega (arith, r.drawn);
      turn = λ lt. let w = M (waits (s.serving + 1)) in
          let l = r.later (s.serving + 1) (omega arith) lt in omega arith;
      later = λ x gt lt. let w = M (waits x) in let l = r.later x (omega arith) lt in omega arith;
      past = λ x lt. dite (ℕ_discrete x s.serving) (λ (e : x ≡ s.serving). let w = M (waits x) in
          let same = ap (λ y. count (waits y) s.phases) e in omega arith)
          (λ (ne : x ≢ s.serving). let w =
          M (waits x) in let l = r.past x (below ne (omega arith)) in omega arith);
      future = λ x le. let w = M (waits x) in let l = r.future x le in omega arith;
      quiet = λ e. omega arith;
      words = omega (arith, r.words, length-set s.phases i (Served s.serving));
      mark_or_wake = λ x some. let a = M (sleeps x) in let c = M (wakes x) in
          ⊎_elim (λ (h : Stands s x). inl h)
          (λ (h : 1 ≤ count (wakes x) s.phases). inr (omega arith))
          (r.mark_or_wake x (omega arith));
      peek_owed = λ some stands. let p = M (will_peek (s.serving + 1)) in
          let one = among_first (s.serving + 1) 3 (omega arith) in omega arith;
    }
  where
    below : {a b : ℕ} → a ≢ b → a ≤ b → a < b
    below ne le = omega arith
