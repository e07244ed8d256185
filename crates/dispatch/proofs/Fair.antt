-- The tests of the premises tell exactly where they hold.
use Rattle.std.proofs.Common.{◌≡◌, ℕ, zero, suc, ◌+◌, ◌-◌, ◌*◌, ◌≤◌, ◌&&◌, ◌||◌}
use Rattle.std.proofs.Common.{inl, inr, not, nat_lt, Bool, true, false, List, [], ◌∷◌, length}
use Rattle.std.proofs.Common.{get_or, Option, None, Some, slice_get, refl, ap, ◌∙◌, arith}
use Rattle.std.proofs.Common.{if◌then◌else◌}
use Rattle.std.specs.List.{list_all, sum_by}
use Rattle.std.proofs.lemmas.Bool.{ltb-true, ltb-false, lt-ltb, le-ltb, eqb-true, eq-eqb, not-true}
use Rattle.std.proofs.lemmas.List.Sums.{sum_by-cons}
use Rattle.dispatch.specs.declared.reservation.Account.{Account}
use Rattle.dispatch.specs.declared.reservation.Run.{Run}
use Rattle.dispatch.specs.declared.reservation.Step.{Step}
use Rattle.dispatch.specs.declared.reservation.Step.TheVariants.{Pass, Wake, Pick, End, Level}
use Rattle.dispatch.specs.declared.reservation.Step.TheVariants.{Give, Leave, Cut, Stop, Refill}
use Rattle.dispatch.specs.Premises.{waits_beyond, has_tasks_for, is_still, is_busy, is_within}
use Rattle.dispatch.specs.Premises.{has_guarantee, is_fair, fit_in, fits_host, PremisesAreTold}
use Rattle.dispatch.specs.Premises.{is_whole, is_whole_at, lost_after}
use Rattle.dispatch.specs.declared.reservation.Terms.{Terms}
use Rattle.dispatch.specs.Reservation.{Reservations, WHOLE, terms_of, account_at, no_account}
use Rattle.dispatch.specs.Reservation.{credit_in, tasks_of}
use Rattle.dispatch.specs.Windows.{FitsHost, IsFair, IsBusy, NoneWaits, RunsWithin, IsLost}
use Rattle.dispatch.specs.Windows.{IsWholeAt}
use Rattle.dispatch.specs.Windows.{WaitsBeyondCredit, HasTasksForGuarantees}
use Rattle.dispatch.specs.Reservation.{most_in, ready_in}
use Rattle.dispatch.proofs.Backlog.{by_order}
use Rattle.dispatch.proofs.Exact.{rooms_of, all_room, both_tests}
use Rattle.dispatch.proofs.Mapped.{passes}

-- ---- tests

both_of : (a b : Bool) → a ≡ true → b ≡ true → (a && b) ≡ true
both_of true b one two = two
both_of false b one two = absurd (cc one)

-- an implication as a test
follows : (a b : Bool) → (not a || b) ≡ true → a ≡ true → b ≡ true
follows true b is one = is
follows false b is one = absurd (cc one)

implied : (a b : Bool) → (a ≡ true → b ≡ true) → (not a || b) ≡ true
implied true b h = h refl
implied false b h = refl

true_not : (a : Bool) → a ≡ false → not a ≡ true
true_not true is = absurd (cc is)
true_not false is = refl

-- ---- of each leaf

all_pass : (p : Account → Bool) (xs : List Account)
    → ((k : ℕ) → p (get_or xs k no_account) ≡ true) → list_all p xs ≡ true
all_pass p [] each = refl
all_pass p (x ∷ xs) each =
    both_of (p x) (list_all p xs) (each 0) (all_pass p xs (λ k. each (suc k)))

past : (xs : List Account) (k : ℕ) → length xs ≤ k → get_or xs k no_account ≡ no_account
past [] k h = refl
past (x ∷ xs) zero h = absurd (let clash : ⊥ = omega (arith, h) in clash)
past (x ∷ xs) (suc k) h = past xs k (omega (arith, h))

-- a test that the leaf of no number passes
each_passes : (p : Account → Bool) (xs : List Account) → p no_account ≡ true
    → list_all p xs ≡ true → (k : ℕ) → p (get_or xs k no_account) ≡ true
each_passes p xs none all k =
    by_order (p (get_or xs k no_account) ≡ true) k (length xs)
    (λ known. passes p xs k no_account known all)
    (λ h. ap p (past xs k h) ∙ none)

beyond : (s : Reservations) → list_all (waits_beyond (terms_of s)) s.accounts ≡ true
    → WaitsBeyondCredit s
beyond s all k more =
    let test = each_passes (waits_beyond (terms_of s)) s.accounts
    (implied (nat_lt (credit_in (terms_of s) no_account) 0) false
    (λ is. (let less = ltb-true (credit_in (terms_of s) no_account) 0 is in
    absurd (let clash : ⊥ = omega (arith, less) in clash)))) all k in
    ltb-true 0 (ready_in (account_at s k))
    (follows (nat_lt (credit_in (terms_of s) (account_at s k)) (account_at s k).owed)
    (nat_lt 0 (ready_in (account_at s k))) test
    (lt-ltb (credit_in (terms_of s) (account_at s k)) (account_at s k).owed more))

all_beyond : (s : Reservations) → WaitsBeyondCredit s
    → list_all (waits_beyond (terms_of s)) s.accounts ≡ true
all_beyond s each =
    all_pass (waits_beyond (terms_of s)) s.accounts
    (λ k. implied (nat_lt (credit_in (terms_of s) (account_at s k)) (account_at s k).owed)
    (nat_lt 0 (ready_in (account_at s k)))
    (λ is. lt-ltb 0 (ready_in (account_at s k))
    (each k (ltb-true (credit_in (terms_of s) (account_at s k)) (account_at s k).owed is))))

tasks : (s : Reservations) → list_all has_tasks_for s.accounts ≡ true → HasTasksForGuarantees s
tasks s all k waits =
    let test = each_passes has_tasks_for s.accounts refl all k in
    ltb-false (tasks_of (account_at s k) * WHOLE) (account_at s k).guarantee
    (not-true (nat_lt (tasks_of (account_at s k) * WHOLE) (account_at s k).guarantee)
    (follows (nat_lt 0 (ready_in (account_at s k)))
    (not (nat_lt (tasks_of (account_at s k) * WHOLE) (account_at s k).guarantee)) test
    (lt-ltb 0 (ready_in (account_at s k)) waits)))

all_tasks : (s : Reservations) → HasTasksForGuarantees s → list_all has_tasks_for s.accounts ≡ true
all_tasks s each =
    all_pass has_tasks_for s.accounts
    (λ k. implied (nat_lt 0 (ready_in (account_at s k)))
    (not (nat_lt (tasks_of (account_at s k) * WHOLE) (account_at s k).guarantee))
    (λ is. true_not (nat_lt (tasks_of (account_at s k) * WHOLE) (account_at s k).guarantee)
    (le-ltb (tasks_of (account_at s k) * WHOLE) (account_at s k).guarantee
    (each k (ltb-true 0 (ready_in (account_at s k)) is)))))

still : (s : Reservations) → list_all is_still s.accounts ≡ true → NoneWaits s
still s all k =
    let test = each_passes is_still s.accounts refl all k in
    let none = ltb-false 0 (ready_in (account_at s k))
    (not-true (nat_lt 0 (ready_in (account_at s k))) test) in
    omega (arith, none)

-- ---- of each processor

busy_sound : (q : Option Run) → is_busy q ≡ true → IsBusy q
busy_sound None is = absurd (cc is)
busy_sound (Some run) is = tt

within_sound : (quantum ns : ℕ) (q : Option Run) → is_within quantum ns q ≡ true
    → RunsWithin quantum ns q
within_sound quantum ns None is = tt
within_sound quantum ns (Some run) is =
    ltb-false quantum (run.age + ns) (not-true (nat_lt quantum (run.age + ns)) is)

within_complete : (quantum ns : ℕ) (q : Option Run) → RunsWithin quantum ns q
    → is_within quantum ns q ≡ true
within_complete quantum ns None is = refl
within_complete quantum ns (Some run) is =
    true_not (nat_lt quantum (run.age + ns)) (le-ltb quantum (run.age + ns) is)

-- ---- events

whole_of : (t : Terms) (xs : List Account) (i : ℕ) → is_whole t (slice_get xs i) ≡ true
    → (get_or xs i no_account).owed ≤ most_in t (get_or xs i no_account)
whole_of t [] i is = omega arith
whole_of t (x ∷ xs) zero is =
    ltb-false (most_in t x) x.owed (not-true (nat_lt (most_in t x) x.owed) is)
whole_of t (x ∷ xs) (suc i) is = whole_of t xs i is

is_whole_of : (t : Terms) (xs : List Account) (i : ℕ)
    → (get_or xs i no_account).owed ≤ most_in t (get_or xs i no_account)
    → is_whole t (slice_get xs i) ≡ true
is_whole_of t [] i h = refl
is_whole_of t (x ∷ xs) zero h =
    true_not (nat_lt (most_in t x) x.owed) (le-ltb (most_in t x) x.owed h)
is_whole_of t (x ∷ xs) (suc i) h = is_whole_of t xs i h

whole_at : (s : Reservations) (q : Option (Option Run)) → is_whole_at s q ≡ true → IsWholeAt s q
whole_at s None is = tt
whole_at s (Some None) is = tt
whole_at s (Some (Some run)) is = whole_of (terms_of s) s.accounts run.leaf is

told_whole_at : (s : Reservations) (q : Option (Option Run)) → IsWholeAt s q
    → is_whole_at s q ≡ true
told_whole_at s None h = refl
told_whole_at s (Some None) h = refl
told_whole_at s (Some (Some run)) h = is_whole_of (terms_of s) s.accounts run.leaf h

given : (xs : List Account) (i guarantee : ℕ) → has_guarantee guarantee (slice_get xs i) ≡ true
    → guarantee ≡ (get_or xs i no_account).guarantee
given [] i guarantee is = eqb-true guarantee 0 is
given (x ∷ xs) zero guarantee is = eqb-true guarantee x.guarantee is
given (x ∷ xs) (suc i) guarantee is = given xs i guarantee is

is_given : (xs : List Account) (i guarantee : ℕ)
    → guarantee ≡ (get_or xs i no_account).guarantee
    → has_guarantee guarantee (slice_get xs i) ≡ true
is_given [] i guarantee is = eq-eqb guarantee 0 is
is_given (x ∷ xs) zero guarantee is = eq-eqb guarantee x.guarantee is
is_given (x ∷ xs) (suc i) guarantee is = is_given xs i guarantee is

fair : (s : Reservations) (e : Step) → is_fair s e ≡ true → IsFair s e
fair s (Pass ns) is =
    rooms_of (is_within s.quantum ns) (RunsWithin s.quantum ns) (within_sound s.quantum ns)
    s.processors is
fair s (Wake i n) is = whole_of (terms_of s) s.accounts i is
fair s (Pick p i) is =
    let one = both_tests (list_all (waits_beyond (terms_of s)) s.accounts)
    (list_all has_tasks_for s.accounts && is_whole (terms_of s) (slice_get s.accounts i)) is in
    let two = both_tests (list_all has_tasks_for s.accounts)
    (is_whole (terms_of s) (slice_get s.accounts i)) one.1 in
    (beyond s one.0, tasks s two.0, whole_of (terms_of s) s.accounts i two.1)
fair s (End p used remains) is =
    let both = both_tests (list_all (is_within s.quantum 0) s.processors)
    (is_whole_at s (slice_get s.processors p)) is in (
      rooms_of (is_within s.quantum 0) (RunsWithin s.quantum 0) (within_sound s.quantum 0)
          s.processors both.0,
      whole_at s (slice_get s.processors p) both.1,
    )
fair s Level is = tt
fair s (Give i amount guarantee) is =
    let both = both_tests (has_guarantee guarantee (slice_get s.accounts i))
    (is_whole (terms_of s) (slice_get s.accounts i)) is in
    (given s.accounts i guarantee both.0, whole_of (terms_of s) s.accounts i both.1)
fair s (Leave i) is = whole_of (terms_of s) s.accounts i is
fair s (Cut i) is = tt
fair s (Stop i stops) is = tt
fair s Refill is = tt

told_fair : (s : Reservations) (e : Step) → IsFair s e → is_fair s e ≡ true
told_fair s (Pass ns) h =
    all_room (is_within s.quantum ns) (RunsWithin s.quantum ns) (within_complete s.quantum ns)
    s.processors h
told_fair s (Wake i n) h = is_whole_of (terms_of s) s.accounts i h
told_fair s (Pick p i) h =
    both_of (list_all (waits_beyond (terms_of s)) s.accounts)
    (list_all has_tasks_for s.accounts && is_whole (terms_of s) (slice_get s.accounts i))
    (all_beyond s h.0)
    (both_of (list_all has_tasks_for s.accounts) (is_whole (terms_of s) (slice_get s.accounts i))
    (all_tasks s h.1) (is_whole_of (terms_of s) s.accounts i h.2))
told_fair s (End p used remains) h =
    both_of (list_all (is_within s.quantum 0) s.processors)
    (is_whole_at s (slice_get s.processors p))
    (all_room (is_within s.quantum 0) (RunsWithin s.quantum 0) (within_complete s.quantum 0)
    s.processors h.0)
    (told_whole_at s (slice_get s.processors p) h.1)
told_fair s Level h = refl
told_fair s (Give i amount guarantee) h =
    both_of (has_guarantee guarantee (slice_get s.accounts i))
    (is_whole (terms_of s) (slice_get s.accounts i)) (is_given s.accounts i guarantee h.0)
    (is_whole_of (terms_of s) s.accounts i h.1)
told_fair s (Leave i) h = is_whole_of (terms_of s) s.accounts i h
told_fair s (Cut i) h = refl
told_fair s (Stop i stops) h = refl
told_fair s Refill h = refl

-- ---- time that is lost

passed_lost : (s : Reservations) (w t : ℕ) → IsLost w (lost_after s w (Pass t)) s (Pass t)
passed_lost s w t =
    by_tests (list_all is_busy s.processors)
    (list_all is_still s.accounts && list_all (waits_beyond (terms_of s)) s.accounts) refl
    refl where
      by_tests : (a b : Bool) → list_all is_busy s.processors ≡ a
          → (list_all is_still s.accounts && list_all (waits_beyond (terms_of s)) s.accounts) ≡ b
          → IsLost w (if◌then◌else◌ {A = ℕ} a w
          (if◌then◌else◌ {A = ℕ} b 0 (w + length s.processors * t))) s (Pass t)
      by_tests true b busy quiet =
          inl (rooms_of is_busy IsBusy busy_sound s.processors busy, refl)
      by_tests false true busy quiet =
          let both = both_tests (list_all is_still s.accounts)
          (list_all (waits_beyond (terms_of s)) s.accounts) quiet in
          inr (inl (still s both.0, beyond s both.1, refl))
      by_tests false false busy quiet = inr (inr refl)

told_lost : (s : Reservations) (w : ℕ) (e : Step) → IsLost w (lost_after s w e) s e
told_lost s w (Pass t) = passed_lost s w t
told_lost s w (Wake i n) = refl
told_lost s w (Pick p i) = refl
told_lost s w (End p used remains) = refl
told_lost s w Level = refl
told_lost s w (Give i amount guarantee) = refl
told_lost s w (Leave i) = refl
told_lost s w (Cut i) = refl
told_lost s w (Stop i stops) = refl
told_lost s w Refill = refl

-- ---- the host

fit_test : (b : Bool) (rest : Bool) → (if◌then◌else◌ {A = Bool} b false rest) ≡ true
    → (b ≡ false) × (rest ≡ true)
fit_test true rest is = absurd (cc is)
fit_test false rest is = (refl, is)

fits : (room : ℕ) (xs : List Account) → fit_in room xs ≡ true
    → sum_by (λ a. a.guarantee) xs ≤ room
fits room [] is = omega arith
fits room (x ∷ xs) is =
    let p = fit_test (nat_lt room x.guarantee) (fit_in (room - x.guarantee) xs) is in
    let here = ltb-false room x.guarantee p.0 in
    omega (
      arith,
      here,
      fits (room - x.guarantee) xs p.1,
      sum_by-cons (λ (a : Account). a.guarantee) x xs,
    )

told_fits : (room : ℕ) (xs : List Account) → sum_by (λ a. a.guarantee) xs ≤ room
    → fit_in room xs ≡ true
told_fits room [] h = refl
told_fits room (x ∷ xs) h =
    let sum = sum_by-cons (λ (a : Account). a.guarantee) x xs in
    ap (λ (b : Bool). if◌then◌else◌ {A = Bool} b false (fit_in (room - x.guarantee) xs))
    (le-ltb room x.guarantee (omega (arith, h, sum)))
    ∙ told_fits (room - x.guarantee) xs (omega (arith, h, sum))

host_sound : (s : Reservations) → fits_host s ≡ true → FitsHost s
host_sound s is =
    let one = both_tests (nat_lt 0 (length s.processors))
    (fit_in (WHOLE * length s.processors) s.accounts && not (nat_lt s.credit s.slack)) is in
    let two = both_tests (fit_in (WHOLE * length s.processors) s.accounts)
    (not (nat_lt s.credit s.slack)) one.1 in
    record {
      some = ltb-true 0 (length s.processors) one.0;
      guarantees = fits (WHOLE * length s.processors) s.accounts two.0;
      slack = ltb-false s.credit s.slack (not-true (nat_lt s.credit s.slack) two.1);
    }

host_told : (s : Reservations) → FitsHost s → fits_host s ≡ true
host_told s h =
    both_of (nat_lt 0 (length s.processors))
    (fit_in (WHOLE * length s.processors) s.accounts && not (nat_lt s.credit s.slack))
    (lt-ltb 0 (length s.processors) h.some)
    (both_of (fit_in (WHOLE * length s.processors) s.accounts) (not (nat_lt s.credit s.slack))
    (told_fits (WHOLE * length s.processors) s.accounts h.guarantees)
    (true_not (nat_lt s.credit s.slack) (le-ltb s.credit s.slack h.slack)))

pub premises_are_told : PremisesAreTold
premises_are_told = record {
  host = λ s. (host_sound s, host_told s);
  event = λ s e. (fair s e, told_fair s e);
  lost = told_lost;
}
