-- The invariant of the waiting protocol: what holds at the start, and after each event if it held
-- before.
use Rattle.std.proofs.Common.{◌≡◌, ℕ, ◌+◌, ◌<◌, ◌≤◌, ◌⊎◌, ◌==◌, length}
use Rattle.bw_wake.specs.declared.seats.Phase.{Phase}
use Rattle.bw_wake.specs.declared.seats.Phase.TheVariants.{Waiting, Marked, Looked, Asleep, Inside}
use Rattle.bw_wake.specs.declared.seats.Phase.TheVariants.{Done}
use Rattle.bw_wake.specs.Protocol.{WaitState, mark_at}
use Rattle.bw_wake.specs.Progress.{one_if, count, sleeps, busy, will_peek, wakes}

-- 1 of a seat that waits with the ticket x
abbrev pub waits : ℕ → Phase → ℕ
waits x (Waiting t) = one_if (t == x)
waits x (Marked t) = one_if (t == x)
waits x (Looked t) = one_if (t == x)
waits x (Asleep t) = one_if (t == x)
waits x _ = 0

-- 1 of a seat that has a ticket that is drawn and not left
abbrev pub holds : Phase → ℕ
holds (Waiting t) = 1
holds (Marked t) = 1
holds (Looked t) = 1
holds (Asleep t) = 1
holds Inside = 1
holds Done = 1
holds _ = 0

-- 1 of a seat that has looked for x in vain since it stored its mark, and may sleep
abbrev pub may_sleep : ℕ → Phase → ℕ
may_sleep x (Looked t) = one_if (t == x)
may_sleep x (Asleep t) = one_if (t == x)
may_sleep x _ = 0

-- the wake word of x has the mark of x
abbrev pub Stands : WaitState → ℕ → Type 0
Stands s x = mark_at s x ≡ x + 1

pub record Sound (s : WaitState) : Type 0 where
  -- the tickets that are drawn and not left are as many as the seats that have one
  pub drawn : count holds s.phases + s.serving ≡ s.next
  -- the ticket that is served is with the one seat that waits with it, is inside or is done
  pub turn : s.serving < s.next → count (waits s.serving) s.phases + count busy s.phases ≡ 1
  -- each later ticket is with the one seat that waits with it
  pub later : (x : ℕ) → s.serving < x → x < s.next → count (waits x) s.phases ≡ 1
  -- nobody waits with a ticket that was left, or is not drawn
  pub past : (x : ℕ) → x < s.serving → count (waits x) s.phases ≡ 0
  pub future : (x : ℕ) → s.next ≤ x → count (waits x) s.phases ≡ 0
  -- where each drawn ticket is left, nobody is inside or done
  pub quiet : s.serving ≡ s.next → count busy s.phases ≡ 0
  -- there is a wake word for each seat
  pub words : length s.phases ≤ length s.words
  -- where a seat sleeps with x, its mark stands, or some seat wakes it next
  pub mark_or_wake : (x : ℕ) → 1 ≤ count (sleeps x) s.phases
      → Stands s x ⊎ (1 ≤ count (wakes x) s.phases)
  -- where a seat has looked in vain for the ticket that is served now, and its mark stands, some
  -- seat has yet to look for that mark
  pub peek_owed : 1 ≤ count (may_sleep s.serving) s.phases → Stands s s.serving
      → 1 ≤ count (will_peek s.serving) s.phases
