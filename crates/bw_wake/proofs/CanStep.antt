-- A seat that is not still can make an event, whatever the state.
use Rattle.std.proofs.Common.{◌≡◌, ℕ, zero, suc, ◌==◌, Bool, true, false, ◌||◌, List, [], ◌∷◌}
use Rattle.std.proofs.Common.{length, refl, sym, ap, ◌∙◌, subst, slice_get}
use Rattle.std.proofs.Common.{slice_set, Some, None, is_some, if◌then◌else◌}
use Rattle.std.specs.List.{list_any}
use Rattle.bw_wake.specs.declared.seats.Phase.{Phase}
use Rattle.bw_wake.specs.declared.seats.Phase.TheVariants.{Idle, Waiting, Marked, Looked, Asleep}
use Rattle.bw_wake.specs.declared.seats.Phase.TheVariants.{Inside, Done, Served, Owes, Found, Wakes}
use Rattle.bw_wake.specs.declared.seats.Event.TheVariants.{Look, Apply, Leave, PeekNext, PeekWord}
use Rattle.bw_wake.specs.declared.seats.Event.TheVariants.{TakeMark, Wake}
use Rattle.bw_wake.specs.Protocol.{WaitState, word_of, one_less, moved, look_by, apply_by, leave_by}
use Rattle.bw_wake.specs.Protocol.{peek_next_by, peek_word_by, take_mark_by}
use Rattle.bw_wake.specs.Protocol.{sleeps_on, wake_by, is_possible}
use Rattle.bw_wake.specs.Progress.{CanStep, AwakeSeatsCanStep}

-- where some element has the property, one at a place does
some_at : (f : Phase → Bool) (ps : List Phase) → list_any f ps ≡ true
    → (j : ℕ) × (p : Phase) × (slice_get ps j ≡ Some p) × (f p ≡ true)
some_at f [] e = absurd (cc e)
some_at f (p ∷ ps) e = first (f p) refl (some_at f ps)
  where
    first : (b : Bool) → f p ≡ b
        → (list_any f ps ≡ true → (j : ℕ) × (q : Phase) × (slice_get ps j ≡ Some q) × (f q ≡ true))
        → (j : ℕ) × (q : Phase) × (slice_get (p ∷ ps) j ≡ Some q) × (f q ≡ true)
    first true h rest = (zero, p, refl, h)
    first false h rest = let r = rest (sym (ap (λ c. c || list_any f ps) h) ∙ e) in
        (suc r.0, r.1, r.2, r.3)

taken : (b : Bool) (x : WaitState) → b ≡ true → is_some (if b then Some x else None) ≡ true
taken true x e = refl
taken false x e = absurd (cc e)

not_taken : (b : Bool) (x : WaitState) → b ≡ false → is_some (if b then None else Some x) ≡ true
not_taken true x e = absurd (cc e)
not_taken false x e = refl

-- a seat that sleeps on the wake word can be woken
wakes_one : (s : WaitState) (i k n j : ℕ) (p : Phase)
    → sleeps_on (length s.words) (word_of s k) p ≡ true
    → is_some (wake_by s i (Some (Wakes k n)) j (Some p)) ≡ true
wakes_one s i k n j Idle e = absurd (cc e)
wakes_one s i k n j (Waiting t) e = absurd (cc e)
wakes_one s i k n j (Marked t) e = absurd (cc e)
wakes_one s i k n j (Looked t) e = absurd (cc e)
wakes_one s i k n j (Asleep t) e =
    taken (word_of s t == word_of s k)
    (record s { phases = slice_set (slice_set s.phases i (one_less k n)) j (Waiting t) }) e
wakes_one s i k n j Inside e = absurd (cc e)
wakes_one s i k n j Done e = absurd (cc e)
wakes_one s i k n j (Served t) e = absurd (cc e)
wakes_one s i k n j (Owes a b) e = absurd (cc e)
wakes_one s i k n j (Found a b) e = absurd (cc e)
wakes_one s i k n j (Wakes a b) e = absurd (cc e)

can_wake : (s : WaitState) (i k n : ℕ) → slice_get s.phases i ≡ Some (Wakes k n) → CanStep s i
can_wake s i k n at = by_any (list_any (sleeps_on (length s.words) (word_of s k)) s.phases) refl
  where
    by_any : (b : Bool) → list_any (sleeps_on (length s.words) (word_of s k)) s.phases ≡ b
        → CanStep s i
    by_any true e = let w = some_at (sleeps_on (length s.words) (word_of s k)) s.phases e in
        let possible : is_possible s (Wake i w.0) ≡ true =
        subst (λ o. is_some (wake_by s i o w.0 (slice_get s.phases w.0)) ≡ true) (sym at)
        (subst (λ q. is_some (wake_by s i (Some (Wakes k n)) w.0 q) ≡ true) (sym w.2)
        (wakes_one s i k n w.0 w.1 w.3)) in
        (Wake i w.0, refl, possible)
    by_any false e = let possible : is_possible s (Wake i i)
        ≡ true = subst (λ o. is_some (wake_by s i o i o) ≡ true) (sym at)
        (not_taken (list_any (sleeps_on (length s.words) (word_of s k)) s.phases)
        (moved s i (one_less k n)) e) in
        (Wake i i, refl, possible)

pub awake_seats_can_step : AwakeSeatsCanStep
awake_seats_can_step s i Idle at e = absurd (cc e)
awake_seats_can_step s i (Waiting t) at e =
    (Look i, refl, subst (λ o. is_some (look_by s i o) ≡ true) (sym at) refl)
awake_seats_can_step s i (Marked t) at e =
    (Look i, refl, subst (λ o. is_some (look_by s i o) ≡ true) (sym at) refl)
awake_seats_can_step s i (Looked t) at e =
    (Look i, refl, subst (λ o. is_some (look_by s i o) ≡ true) (sym at) refl)
awake_seats_can_step s i (Asleep t) at e = absurd (cc e)
awake_seats_can_step s i Inside at e =
    (Apply i, refl, subst (λ o. is_some (apply_by s i o) ≡ true) (sym at) refl)
awake_seats_can_step s i Done at e =
    (Leave i, refl, subst (λ o. is_some (leave_by s i o) ≡ true) (sym at) refl)
awake_seats_can_step s i (Served t) at e =
    (PeekNext i, refl, subst (λ o. is_some (peek_next_by s i o) ≡ true) (sym at) refl)
awake_seats_can_step s i (Owes k n) at e =
    (PeekWord i, refl, subst (λ o. is_some (peek_word_by s i o) ≡ true) (sym at) refl)
awake_seats_can_step s i (Found k n) at e =
    (TakeMark i, refl, subst (λ o. is_some (take_mark_by s i o) ≡ true) (sym at) refl)
awake_seats_can_step s i (Wakes k n) at e = can_wake s i k n at
