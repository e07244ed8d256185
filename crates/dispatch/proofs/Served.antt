-- What a leaf is owed is bounded, and each window of a run is served.
use Rattle.std.proofs.Common.{◌≡◌, ℕ, ◌+◌, ◌*◌, ◌<◌, ◌≤◌, List, [], ◌∷◌, ◌++◌, length}
use Rattle.std.proofs.Common.{min, refl, ap, sym, ◌∙◌, arith, Bool, Option, None, Some}
use Rattle.std.proofs.Common.{slice_get}
use Rattle.std.proofs.lemmas.List.{length-map}
use Rattle.dispatch.specs.declared.reservation.Run.{Run}
use Rattle.dispatch.specs.Reservation.{state_ended, ended, passed, woken, picked, given, cut, left}
use Rattle.dispatch.specs.Reservation.{stopped}
use Rattle.dispatch.proofs.Counts.{length_set}
use Rattle.std.proofs.Math.Nat.{mul-le-mul_right}
use Rattle.dispatch.specs.declared.reservation.Step.{Step}
use Rattle.dispatch.specs.declared.reservation.Step.TheVariants.{Pass, Wake, Pick, End, Level}
use Rattle.dispatch.specs.declared.reservation.Step.TheVariants.{Give, Leave, Cut, Stop, Refill}
use Rattle.dispatch.specs.Reservation.{Reservations, WHOLE, account_at, after, most_of, quantum_of}
use Rattle.dispatch.specs.Windows.{after_all, IsFairRun, time_of}
use Rattle.dispatch.specs.Windows.{held_in, Wants, OwedIsBounded, WindowsAreServed}
use Rattle.dispatch.proofs.Backlog.{Backlog, by_order}
use Rattle.dispatch.proofs.BacklogRuns.{backlog_at_rest, backlog_all, backlog_after, Ends}
use Rattle.dispatch.proofs.Ledger.{bounded, IsKept, kept_after, time_at}

-- ---- what no event changes

ended_accounts : (s : Reservations) (p used : ℕ) (remains : Bool) (q : Option (Option Run))
    → length (state_ended s p used remains q).accounts ≡ length s.accounts
ended_accounts s p used remains None = refl
ended_accounts s p used remains (Some None) = refl
ended_accounts s p used remains (Some (Some run)) =
    length_set s.accounts run.leaf (ended s run used remains (account_at s run.leaf))

accounts_after : (s : Reservations) (e : Step) → length (after s e).accounts ≡ length s.accounts
accounts_after s (Pass t) = length-map s.accounts (passed s t)
accounts_after s (Wake i tasks) = length_set s.accounts i (woken s tasks (account_at s i))
accounts_after s (Pick p i) = length_set s.accounts i (picked s (account_at s i))
accounts_after s (End p used remains) =
    ended_accounts s p used remains (slice_get s.processors p)
accounts_after s Level = refl
accounts_after s (Give i amount guarantee) =
    length_set s.accounts i (given s amount guarantee (account_at s i))
accounts_after s (Leave i) = length_set s.accounts i (left s (account_at s i))
accounts_after s (Cut i) = length_set s.accounts i (cut s (account_at s i))
accounts_after s (Stop i stops) = length_set s.accounts i (stopped s stops (account_at s i))
accounts_after s Refill = refl

known_after : (s : Reservations) (es : List Step) (i : ℕ) → i < length s.accounts
    → i < length (after_all s es).accounts
known_after s [] i known = known
known_after s (e ∷ es) i known =
    known_after (after s e) es i (omega (arith, known, accounts_after s e))

-- the end of a first part, with what was lost by then, and the run from there
record Parts (n most : ℕ) (t : Reservations) (fs : List Step) : Type 0 where
  lost : ℕ
  less : lost ≤ most
  backlog : Backlog n lost t
  run : IsFairRun most lost t fs

run_split : (n most w : ℕ) (s : Reservations) (es fs : List Step) → 0 < n → w ≤ most
    → Backlog n w s → IsFairRun most w s (es ++ fs) → Parts n most (after_all s es) fs
run_split n most w s [] fs some less b run =
    record { lost = w; less = less; backlog = b; run = run }
run_split n most w s (e ∷ es) fs some less b run =
    run_split n most run.2.0 (after s e) es fs some run.2.2
    (backlog_after n w run.2.0 s e some b run.0 run.1 run.2.1) run.2.3

-- the time of an event and of those after it
time_more : (e : Step) (es : List Step) → time_of (e ∷ es) ≡ time_at e + time_of es
time_more (Pass t) es = refl
time_more (Wake i tasks) es = omega arith
time_more (Pick p i) es = omega arith
time_more (End p used remains) es = omega arith
time_more Level es = omega arith
time_more (Give i amount guarantee) es = omega arith
time_more (Leave i) es = omega arith
time_more (Cut i) es = omega arith
time_more (Stop i stops) es = omega arith
time_more Refill es = omega arith

-- the ledger of a window
window_kept : (most w : ℕ) (s : Reservations) (es : List Step) (i k : ℕ) → i < length s.accounts
    → IsFairRun most w s es → Wants k i s es
    → IsKept s (after_all s es) i (min (k * WHOLE) (account_at s i).guarantee * time_of es)
    (held_in i s es)
window_kept most w s [] i k known run wants = record {
  quantum = refl;
  credit = refl;
  accounts = refl;
  guarantee = refl;
  owed = omega arith;
}
window_kept most w s (e ∷ es) i k known run wants =
    let step = kept_after s e i k known run.0 run.1 wants.0 in
    let rest = window_kept most run.2.0 (after s e) es i k (omega (arith, known, step.accounts))
    run.2.3 wants.1 in
    let same : min (k * WHOLE) (account_at (after s e) i).guarantee * time_of es
    ≡ min (k * WHOLE) (account_at s i).guarantee * time_of es =
    ap (λ (g : ℕ). min (k * WHOLE) g * time_of es) step.guarantee in
    let time : min (k * WHOLE) (account_at s i).guarantee * time_of (e ∷ es)
    ≡ min (k * WHOLE) (account_at s i).guarantee * (time_at e + time_of es) =
    ap (λ (t : ℕ). min (k * WHOLE) (account_at s i).guarantee * t) (time_more e es) in
    record {
      quantum = rest.quantum ∙ step.quantum;
      credit = rest.credit ∙ step.credit;
      accounts = rest.accounts ∙ step.accounts;
      guarantee = rest.guarantee ∙ step.guarantee;
      owed = omega (arith, step.owed, rest.owed, same, time);
    }

-- ---- the laws

pub owed_is_bounded : OwedIsBounded
owed_is_bounded s events most i at fits run known guaranteed =
    let ends = backlog_all (length s.processors) most 0 s events fits.some (omega arith)
    (backlog_at_rest s at fits) run in
    let here = bounded (length s.processors) ends.lost (after_all s events) i fits.some ends.backlog
    (known_after s events i known) guaranteed in
    let less = ends.most_lost in
    omega (arith, here, less)

-- the bound of a leaf is that of the state before
same_most : (n v w : ℕ) (t u : Reservations) (i brought held : ℕ) → Backlog n v t → Backlog n w u
    → IsKept t u i brought held → most_of u (account_at u i) ≡ most_of t (account_at t i)
same_most n v w t u i brought held b_t b_u kept =
    ap (λ (m : ℕ). 2 * m * quantum_of u + (account_at u i).guarantee * u.credit)
    (b_u.processors_are ∙ sym b_t.processors_are)
    ∙ (ap (λ (q : ℕ). 2 * length t.processors * (WHOLE * q)
    + (account_at u i).guarantee * u.credit) kept.quantum
    ∙ (ap (λ (g : ℕ). 2 * length t.processors * quantum_of t + g * u.credit) kept.guarantee
    ∙ ap (λ (c : ℕ). 2 * length t.processors * quantum_of t + (account_at t i).guarantee * c)
    kept.credit))

pub windows_are_served : WindowsAreServed
windows_are_served s before window most i k at fits run known wants =
    by_order (min (k * WHOLE) (account_at t i).guarantee * time_of window
    ≤ WHOLE * held_in i t window + (most_of t (account_at t i) + WHOLE * most)) 0
    (account_at t i).guarantee served nothing where
      n : ℕ
      n = length s.processors

      t : Reservations
      t = after_all s before

      parts : Parts n most t window
      parts = run_split n most 0 s before window fits.some (omega arith)
          (backlog_at_rest s at fits) run

      ends : Ends n most (after_all t window)
      ends = backlog_all n most parts.lost t window fits.some parts.less parts.backlog parts.run

      known_t : i < length t.accounts
      known_t = known_after s before i known

      served : 0 < (account_at t i).guarantee
          → min (k * WHOLE) (account_at t i).guarantee * time_of window
          ≤ WHOLE * held_in i t window + (most_of t (account_at t i) + WHOLE * most)
      served guaranteed =
          let kept = window_kept most parts.lost t window i k known_t parts.run wants in
          let here = bounded n ends.lost (after_all t window) i fits.some ends.backlog
          (known_after t window i known_t) (omega (arith, guaranteed, kept.guarantee)) in
          let same = same_most n parts.lost ends.lost t (after_all t window) i
          (min (k * WHOLE) (account_at t i).guarantee * time_of window) (held_in i t window)
          parts.backlog ends.backlog kept in
          let less = ends.most_lost in
          omega (arith, kept.owed, here, same, less)

      nothing : (account_at t i).guarantee ≤ 0
          → min (k * WHOLE) (account_at t i).guarantee * time_of window
          ≤ WHOLE * held_in i t window + (most_of t (account_at t i) + WHOLE * most)
      nothing none =
          let zero_rate : min (k * WHOLE) (account_at t i).guarantee ≤ 0 = omega (arith, none) in
          let product = mul-le-mul_right (time_of window) zero_rate in
          omega (arith, product)
