-- The end of a run keeps the backlog: a leaf gets back what it did not use.
use Rattle.std.proofs.Common.{◌≡◌, ℕ, ◌+◌, ◌-◌, ◌*◌, ◌<◌, ◌≤◌, inl, inr, length, Bool, true, false}
use Rattle.std.proofs.Common.{None, Some, nat_lt, slice_get, slice_set, get_or, min, refl, ap, sym}
use Rattle.std.proofs.Common.{subst, ◌∙◌, arith, if◌then◌else◌}
use Rattle.dispatch.specs.declared.reservation.Account.{Account}
use Rattle.dispatch.specs.declared.reservation.Run.{Run}
use Rattle.dispatch.specs.Reservation.{Reservations, WHOLE, account_at, no_account, quantum_of}
use Rattle.dispatch.specs.Reservation.{rate_of, most_of, cut, ended, state_ended, settled_owed}
use Rattle.dispatch.specs.Rule as shares
use Rattle.dispatch.specs.Windows.{over_runs, of_run}
use Rattle.dispatch.proofs.Counts.{length_set}
use Rattle.dispatch.proofs.Demands.{demand, demand_back}
use Rattle.dispatch.proofs.Totals.{sum_set}
use Rattle.dispatch.proofs.Backlog.{rest, busy, demand_by, one, Backlog, account_set, known_at}
use Rattle.dispatch.proofs.BacklogPicks.{run_of_same, run_of_other}

-- amount that a part of a run gives back
abbrev pub returned : Reservations → Run → ℕ
returned s run = min (quantum_of s - WHOLE * run.age) run.paid

pub either : (P : Account → Type 0) (b : Bool) (x y : Account) → P x → P y
    → P (if◌then◌else◌ {A = Account} b x y)
either P true x y one two = one
either P false x y one two = two

-- a leaf after a run of it: no more comes back than the run did not take
pub record IsEnded (s : Reservations) (run : Run) (a now : Account) : Type 0 where
  pub guarantee : now.guarantee ≡ a.guarantee
  pub running : now.share.running ≡ a.share.running - 1
  pub owed : now.owed ≤ a.owed + returned s run

pub is_ended : (s : Reservations) (run : Run) (used : ℕ) (remains : Bool) (a : Account)
    → IsEnded s run a (ended s run used remains a)
is_ended s run used remains a =
    either (IsEnded s run a) (nat_lt (rate_of before) (rate_of a)) (cut s before) before
    (record { guarantee = refl; running = refl; owed = omega arith })
    (record { guarantee = refl; running = refl; owed = omega arith }) where
      before : Account
      before = record a {
        share = shares.ended s.slice used remains a.share;
        owed = settled_owed (quantum_of s) run.paid (WHOLE * run.age) (min a.owed (most_of s a));
      }

ended_runs : (n w : ℕ) (s : Reservations) (p : ℕ) (run : Run) (a : Account) → Backlog n w s
    → slice_get s.processors p ≡ Some (Some run) → run.leaf < length s.accounts
    → a.share.running ≡ (account_at s run.leaf).share.running - 1 → (k : ℕ)
    → k < length (slice_set s.accounts run.leaf a)
    → over_runs k one (slice_set s.processors p None)
    ≡ (get_or (slice_set s.accounts run.leaf a) k no_account).share.running
ended_runs n w s p run a b is known fewer k inside =
    let less = sum_set (of_run k one) s.processors p (Some run) None is in
    let here : k < length s.accounts =
    omega (arith, inside, length_set s.accounts run.leaf a) in
    let before = b.runs k here in
    elim (account_set s.accounts run.leaf k a known) [
      | inl h ↦
          let now : (get_or (slice_set s.accounts run.leaf a) k no_account).share.running
          ≡ a.share.running =
          ap (λ (x : Account). x.share.running) h.1 in
          let old : (account_at s k).share.running ≡ (account_at s run.leaf).share.running =
          ap (λ (x : ℕ). (account_at s x).share.running) h.0 in
          omega (arith, less, before, now, old, fewer, run_of_same run.leaf k h.0)
      | inr h ↦
          let now : (get_or (slice_set s.accounts run.leaf a) k no_account).share.running
          ≡ (account_at s k).share.running =
          ap (λ (x : Account). x.share.running) h.1 in
          omega (arith, less, before, now, run_of_other run.leaf k h.0)
    ]

-- a run that ends is one of its leaf's
some_running : (n w : ℕ) (s : Reservations) (p : ℕ) (run : Run) → Backlog n w s
    → slice_get s.processors p ≡ Some (Some run) → run.leaf < length s.accounts
    → 0 < (account_at s run.leaf).share.running
some_running n w s p run b is known =
    let less = sum_set (of_run run.leaf one) s.processors p (Some run) None is in
    omega (arith, less, b.runs run.leaf known, run_of_same run.leaf run.leaf refl)

ended_demand : (s : Reservations) (run : Run) (a now : Account) (e : ℕ) → 0 < a.share.running
    → IsEnded s run a now → demand_by (quantum_of s) s.credit e now
    ≤ demand_by (quantum_of s) s.credit e a + returned s run
ended_demand s run a now e some is =
    subst (λ (x : ℕ). demand x (quantum_of s) (x * s.credit) now.owed
    (now.share.running * quantum_of s) (x * e)
    ≤ demand_by (quantum_of s) s.credit e a + returned s run) (sym is.guarantee)
    (subst (λ (x : ℕ). demand a.guarantee (quantum_of s) (a.guarantee * s.credit) now.owed
    (now.share.running * quantum_of s) (a.guarantee * e)
    ≤ demand a.guarantee (quantum_of s) (a.guarantee * s.credit) a.owed x (a.guarantee * e)
    + returned s run) (sym one_more)
    (demand_back a.guarantee (quantum_of s) (a.guarantee * s.credit) a.owed (returned s run)
    (now.share.running * quantum_of s) (a.guarantee * e) now.owed is.owed (omega arith))) where
      one_more : a.share.running * quantum_of s
          ≡ now.share.running * quantum_of s + quantum_of s
      one_more =
          let count : a.share.running ≡ now.share.running + 1 =
          omega (arith, some, is.running) in
          ap (λ (r : ℕ). r * quantum_of s) count
          ∙ (let more : (now.share.running + 1) * quantum_of s
          ≡ now.share.running * quantum_of s + quantum_of s = omega arith in more)

pub backlog_ended : (n w : ℕ) (s : Reservations) (p used : ℕ) (remains : Bool) (run : Run)
    → Backlog n w s → slice_get s.processors p ≡ Some (Some run)
    → run.leaf < length s.accounts
    → Backlog n w (state_ended s p used remains (Some (Some run)))
backlog_ended n w s p used remains run b is known =
    let i = run.leaf in
    let now = ended s run used remains (account_at s run.leaf) in
    let h = is_ended s run used remains (account_at s run.leaf) in
    let some = some_running n w s p run b is known in
    record {
      processors_are = length_set s.processors p None ∙ b.processors_are;
      slack = b.slack;
      guarantees = omega (
        arith,
        b.guarantees,
        h.guarantee,
        sum_set (λ x. x.guarantee) s.accounts i (account_at s i) now (known_at s i known),
      );
      total = omega (
        arith,
        b.total,
        some,
        h.running,
        sum_set (λ x. x.share.running) s.accounts i (account_at s i) now (known_at s i known),
        sum_set busy s.processors p (Some run) None is,
      );
      runs = ended_runs n w s p run now b is known h.running;
      room = λ e. omega (
        arith,
        b.room e,
        ended_demand s run (account_at s run.leaf) now e some h,
        sum_set (demand_by (quantum_of s) s.credit e) s.accounts i (account_at s i) now
            (known_at s i known),
        sum_set (rest (quantum_of s)) s.processors p (Some run) None is,
      );
    }
