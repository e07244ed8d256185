-- An accepted trace whose events come last is a run that begins at rest.
use Rattle.std.proofs.Common.{◌≡◌, ℕ, zero, suc, ◌≤◌, List, [], ◌∷◌, ◌++◌, map}
use Rattle.std.proofs.Common.{get_or, replicate, Option, None, refl, ap, arith}
use Rattle.std.specs.List.{AllByRecursion}
use Rattle.dispatch.specs.declared.reservation.Account.{Account}
use Rattle.dispatch.specs.declared.reservation.Run.{Run}
use Rattle.dispatch.specs.declared.reservation.Step.{Step}
use Rattle.dispatch.specs.declared.input.Input.{Input}
use Rattle.dispatch.specs.declared.input.Input.TheVariants as lines
use Rattle.dispatch.specs.Accepted.{after_inputs, SetsUp, AllSetUp, TraceIsARun}
use Rattle.dispatch.specs.Replay.{input_after, MayFollow, AllFollow, nothing_set}
use Rattle.dispatch.specs.Reservation.{Reservations, account_at, no_account, after, quantum_of}
use Rattle.dispatch.specs.Reservation.{terms_of}
use Rattle.dispatch.specs.Steps.{new_account}
use Rattle.dispatch.specs.Windows.{IsRun}

-- ---- lines

follow_apart : (s : Reservations) (is js : List Input) → AllFollow s (is ++ js)
    → AllFollow s is × AllFollow (after_inputs s is) js
follow_apart s [] js all = (tt, all)
follow_apart s (i ∷ is) js all =
    let rest = follow_apart (input_after s i) is js all.1 in
    ((all.0, rest.0), rest.1)

-- ---- set up

record IsFresh (s : Reservations) : Type 0 where
  idle : AllByRecursion (λ q. q ≡ None) s.processors
  running : (k : ℕ) → (account_at s k).share.running ≡ 0
  owed : (k : ℕ) → (account_at s k).owed ≤ quantum_of s

all_idle : (n : ℕ) → AllByRecursion (λ (q : Option Run). q ≡ None) (replicate n None)
all_idle zero = tt
all_idle (suc n) = (refl, all_idle n)

-- a number that is at most m of each leaf, of a new one too
at_most_pushed : (f : Account → ℕ) (xs : List Account) (l d : Account) (k m : ℕ) → f l ≤ m
    → f d ≤ m → ((j : ℕ) → f (get_or xs j d) ≤ m) → f (get_or (xs ++ l ∷ []) k d) ≤ m
at_most_pushed f [] l d zero m here none each = here
at_most_pushed f [] l d (suc k) m here none each = none
at_most_pushed f (x ∷ xs) l d zero m here none each = each 0
at_most_pushed f (x ∷ xs) l d (suc k) m here none each =
    at_most_pushed f xs l d k m here none (λ j. each (suc j))

stays_fresh : (s : Reservations) (i : Input) → SetsUp i → MayFollow s i → IsFresh s
    → IsFresh (input_after s i)
stays_fresh s (lines.Processors n) sets may fresh =
    record { idle = all_idle n; running = fresh.running; owed = fresh.owed }
stays_fresh s (lines.Slice n) sets may fresh =
    record { idle = fresh.idle; running = fresh.running; owed = fresh.owed }
stays_fresh s (lines.Terms q w c) sets may fresh = record {
  idle = fresh.idle;
  running = fresh.running;
  owed = λ k. (let none : (account_at s k).owed ≡ 0 =
      ap (λ (xs : List Account). (get_or xs k no_account).owed) may.1 in
      omega (arith, none));
}
stays_fresh s (lines.Leaf i a g inside) sets may fresh = record {
  idle = fresh.idle;
  running = λ k. (let most = at_most_pushed (λ x. x.share.running) s.accounts
      (new_account (terms_of s) a g inside) no_account k 0 (omega arith) (omega arith)
      (λ j. (let none = fresh.running j in
      let z : (account_at s j).share.running ≤ 0 = omega (arith, none) in z)) in
      omega (arith, most));
  owed = λ k. at_most_pushed (λ x. x.owed) s.accounts (new_account (terms_of s) a g inside)
      no_account k (quantum_of s) (omega arith) (omega arith) fresh.owed;
}
stays_fresh s (lines.Group limit burst) sets may fresh = fresh
stays_fresh s (lines.Event e) sets may fresh = absurd sets

all_fresh : (s : Reservations) (is : List Input) → AllSetUp is → AllFollow s is → IsFresh s
    → IsFresh (after_inputs s is)
all_fresh s [] set_up all fresh = fresh
all_fresh s (i ∷ is) set_up all fresh =
    all_fresh (input_after s i) is set_up.1 all.1 (stays_fresh s i set_up.0 all.0 fresh)

fresh_at_first : IsFresh nothing_set
fresh_at_first = record { idle = tt; running = λ k. refl; owed = λ k. omega arith }

-- ---- events

is_run : (s : Reservations) (es : List Step) → AllFollow s (map lines.Event es) → IsRun s es
is_run s [] all = tt
is_run s (e ∷ es) all = (all.0.1, is_run (after s e) es all.1)

pub trace_is_a_run : TraceIsARun
trace_is_a_run setup events set_up all =
    let parts = follow_apart nothing_set setup (map lines.Event events) all in
    let fresh = all_fresh nothing_set setup set_up parts.0 fresh_at_first in
    let s = after_inputs nothing_set setup in (
      record {
        idle = fresh.idle;
        running = fresh.running;
        owed = λ k. (let most = fresh.owed k in omega (arith, most));
      },
      is_run s events parts.1,
    )
