-- Tickets that are waited with at one time have wake words of their own.
use Rattle.std.proofs.Common.{◌≡◌, ℕ, ◌+◌, ◌<◌, ◌≤◌, ◌⊎◌, length, sym, inl}
use Rattle.std.proofs.Common.{inr, ⊎_elim, arith}
use mathlib.Core.Logic.{dite}
use native.Mathlib.Decide.{dec_le}
use Rattle.bw_wake.proofs.OneTurn.{one_turn}
use Rattle.bw_wake.specs.declared.seats.Phase.{Phase}
use Rattle.bw_wake.specs.declared.seats.Phase.TheVariants.{Idle, Waiting, Marked, Looked, Asleep}
use Rattle.bw_wake.specs.declared.seats.Phase.TheVariants.{Inside, Done, Served, Owes, Found, Wakes}
use Rattle.bw_wake.specs.Protocol.{WaitState, word_of}
use Rattle.bw_wake.specs.Progress.{sleeps, count}
use Rattle.bw_wake.proofs.Invariant.{waits, holds, may_sleep, Sound}
use Rattle.bw_wake.proofs.Counts.{count-length}

pub sleeps-waits : (x : ℕ) (p : Phase) → sleeps x p ≤ waits x p
sleeps-waits x Idle = omega arith
sleeps-waits x (Waiting t) = omega arith
sleeps-waits x (Marked t) = omega arith
sleeps-waits x (Looked t) = omega arith
sleeps-waits x (Asleep t) = omega arith
sleeps-waits x Inside = omega arith
sleeps-waits x Done = omega arith
sleeps-waits x (Served t) = omega arith
sleeps-waits x (Owes k n) = omega arith
sleeps-waits x (Found k n) = omega arith
sleeps-waits x (Wakes k n) = omega arith

pub may_sleep-waits : (x : ℕ) (p : Phase) → may_sleep x p ≤ waits x p
may_sleep-waits x Idle = omega arith
may_sleep-waits x (Waiting t) = omega arith
may_sleep-waits x (Marked t) = omega arith
may_sleep-waits x (Looked t) = omega arith
may_sleep-waits x (Asleep t) = omega arith
may_sleep-waits x Inside = omega arith
may_sleep-waits x Done = omega arith
may_sleep-waits x (Served t) = omega arith
may_sleep-waits x (Owes k n) = omega arith
may_sleep-waits x (Found k n) = omega arith
may_sleep-waits x (Wakes k n) = omega arith

pub holds-one : (p : Phase) → holds p ≤ 1
holds-one Idle = omega arith
holds-one (Waiting t) = omega arith
holds-one (Marked t) = omega arith
holds-one (Looked t) = omega arith
holds-one (Asleep t) = omega arith
holds-one Inside = omega arith
holds-one Done = omega arith
holds-one (Served t) = omega arith
holds-one (Owes k n) = omega arith
holds-one (Found k n) = omega arith
holds-one (Wakes k n) = omega arith

-- a ticket that a seat waits with is drawn and not left
pub from_serving : (s : WaitState) → Sound s → (x : ℕ) → 1 ≤ count (waits x) s.phases
    → s.serving ≤ x
from_serving s r x h = ⊎_elim (λ (lt : x < s.serving). let z = r.past x lt in absurd (omega arith))
    (λ (le : s.serving ≤ x). le) (order x s.serving)
  where
    order : (a b : ℕ) → (a < b) ⊎ (b ≤ a)
    order a b = dite (dec_le b a) (λ le. inr le) (λ n. inl (omega arith))

pub to_next : (s : WaitState) → Sound s → (x : ℕ) → 1 ≤ count (waits x) s.phases → x < s.next
to_next s r x h = ⊎_elim (λ (lt : x < s.next). lt)
    (λ (le : s.next ≤ x). let z = r.future x le in absurd (omega arith)) (order x s.next)
  where
    order : (a b : ℕ) → (a < b) ⊎ (b ≤ a)
    order a b = dite (dec_le b a) (λ le. inr le) (λ n. inl (omega arith))

pub window : (s : WaitState) → Sound s → s.next ≤ s.serving + length s.words
window s r = let a = count-length holds s.phases holds-one in omega (arith, r.drawn, r.words)

-- no two such tickets have one wake word
pub words_apart : (s : WaitState) → Sound s → (x y : ℕ) → 1 ≤ count (waits x) s.phases
    → 1 ≤ count (waits y) s.phases → word_of s x ≡ word_of s y → x ≡ y
words_apart s r x y h k e = let a = from_serving s r x h in let b = from_serving s r y k in
    let c = to_next s r x h in let d = to_next s r y k in
    let w = window s r in
    dite (dec_le x y) (λ le. one_turn x y (length s.words) le (omega arith) e)
    (λ n. sym (one_turn y x (length s.words) (omega arith) (omega arith) (sym e)))
