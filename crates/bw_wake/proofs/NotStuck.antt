-- What follows from the invariant: the wake-up of a served sleeper is under way, and no state is
-- stuck.
use Rattle.std.proofs.Common.{◌≡◌, ℕ, zero, suc, ◌+◌, ◌<◌, ◌≤◌, nat_lt, Bool, true, false, List, []}
use Rattle.std.proofs.Common.{◌∷◌}
use Rattle.std.proofs.Common.{refl, sym, ◌∙◌, ⊎_elim, arith}
use Rattle.std.specs.List.{list_all}
use Rattle.std.proofs.lemmas.Bool.Decides.{leb_tells}
use Rattle.bw_wake.specs.declared.seats.Phase.{Phase}
use Rattle.bw_wake.specs.declared.seats.Phase.TheVariants.{Idle, Waiting, Marked, Looked, Asleep}
use Rattle.bw_wake.specs.declared.seats.Phase.TheVariants.{Inside, Done, Served, Owes, Found, Wakes}
use Rattle.bw_wake.specs.Protocol.{WaitState}
use Rattle.bw_wake.specs.Progress.{is_still, is_stuck, busy, sleeps, will_peek, wakes, awake, count}
use Rattle.bw_wake.specs.Progress.{WakeIsUnderWay, GoesOn}
use Rattle.bw_wake.proofs.Counts.{count-le}
use Rattle.bw_wake.proofs.Invariant.{waits, may_sleep, Stands, Sound}
use Rattle.std.proofs.lemmas.Bool.{and_parts}

-- a seat that sleeps has looked in vain
pub sleeps-may_sleep : (x : ℕ) (p : Phase) → sleeps x p ≤ may_sleep x p
sleeps-may_sleep x Idle = omega arith
sleeps-may_sleep x (Waiting t) = omega arith
sleeps-may_sleep x (Marked t) = omega arith
sleeps-may_sleep x (Looked t) = omega arith
sleeps-may_sleep x (Asleep t) = omega arith
sleeps-may_sleep x Inside = omega arith
sleeps-may_sleep x Done = omega arith
sleeps-may_sleep x (Served t) = omega arith
sleeps-may_sleep x (Owes k n) = omega arith
sleeps-may_sleep x (Found k n) = omega arith
sleeps-may_sleep x (Wakes k n) = omega arith

pub waits-split : (x : ℕ) (p : Phase) → waits x p ≡ awake x p + sleeps x p
waits-split x Idle = refl
waits-split x (Waiting t) = omega arith
waits-split x (Marked t) = omega arith
waits-split x (Looked t) = omega arith
waits-split x (Asleep t) = omega arith
waits-split x Inside = refl
waits-split x Done = refl
waits-split x (Served t) = refl
waits-split x (Owes k n) = refl
waits-split x (Found k n) = refl
waits-split x (Wakes k n) = refl

count-split : (f g k : Phase → ℕ) (ps : List Phase) → ((p : Phase) → f p ≡ g p + k p)
    → count f ps ≡ count g ps + count k ps
count-split f g k [] h = refl
count-split f g k (p ∷ ps) h = let a = h p in let b = count-split f g k ps h in omega arith

pub wake_under_way : (s : WaitState) → Sound s → WakeIsUnderWay s
wake_under_way s r some = let a =
    count-le (sleeps s.serving) (may_sleep s.serving) s.phases (sleeps-may_sleep s.serving) in
    ⊎_elim (λ (t : Stands s s.serving). let h = r.peek_owed (omega arith) t in omega arith)
    (λ (t : 1 ≤ count (wakes s.serving) s.phases). omega arith) (r.mark_or_wake s.serving some)

pub goes_on : (s : WaitState) → Sound s → GoesOn s
goes_on s r lt = let a = r.turn lt in
    let b = count-split (waits s.serving) (awake s.serving) (sleeps s.serving) s.phases
    (waits-split s.serving) in
    more (count (sleeps s.serving) s.phases) refl
  where
    more : (n : ℕ) → n ≡ count (sleeps s.serving) s.phases
        → 1 ≤ count (awake s.serving) s.phases + count busy s.phases
        + count (will_peek s.serving) s.phases + count (wakes s.serving) s.phases
    more zero e = let a = r.turn lt in
        let b = count-split (waits s.serving) (awake s.serving) (sleeps s.serving) s.phases
        (waits-split s.serving) in omega arith
    more (suc n) e = let c = wake_under_way s r (omega arith) in omega arith

-- a seat that is still is none of those that go on
still-none : (x : ℕ) (p : Phase) → is_still p ≡ true
    → awake x p + busy p + will_peek x p + wakes x p ≡ 0
still-none x Idle e = refl
still-none x (Waiting t) e = absurd (cc e)
still-none x (Marked t) e = absurd (cc e)
still-none x (Looked t) e = absurd (cc e)
still-none x (Asleep t) e = refl
still-none x Inside e = absurd (cc e)
still-none x Done e = absurd (cc e)
still-none x (Served t) e = absurd (cc e)
still-none x (Owes k n) e = absurd (cc e)
still-none x (Found k n) e = absurd (cc e)
still-none x (Wakes k n) e = absurd (cc e)

all_still-none : (x : ℕ) (ps : List Phase) → list_all is_still ps ≡ true
    → count (awake x) ps + count busy ps + count (will_peek x) ps + count (wakes x) ps ≡ 0
all_still-none x [] e = refl
all_still-none x (p ∷ ps) e = let d = and_parts (is_still p) (list_all is_still ps) e in
    let a = still-none x p d.0 in
    let b = all_still-none x ps d.1 in omega arith

pub not_stuck : (s : WaitState) → Sound s → is_stuck s ≡ false
not_stuck s r = by_test (is_stuck s) refl
  where
    by_test : (b : Bool) → is_stuck s ≡ b → b ≡ false
    by_test false e = refl
    by_test true e = let d = and_parts (nat_lt s.serving s.next) (list_all is_still s.phases) e in
        let lt : s.serving < s.next = less s.serving s.next d.0 in let a = goes_on s r lt in
        let b = all_still-none s.serving s.phases d.1 in absurd (omega arith)
      where
        less : (a b : ℕ) → nat_lt a b ≡ true → a < b
        less a b h = ⊎_elim (λ (k : (nat_lt a b ≡ true) × (suc a ≤ b)). k.1)
            (λ (k : (nat_lt a b ≡ false) × (b < suc a)). absurd (cc (sym h
            ∙ k.0))) (leb_tells (suc a) b)
