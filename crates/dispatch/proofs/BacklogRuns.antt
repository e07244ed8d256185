-- The backlog of whole runs, from rest on.
use Rattle.std.proofs.Common.{◌≡◌, ℕ, ◌+◌, ◌-◌, ◌*◌, ◌<◌, ◌≤◌, List, [], ◌∷◌, length, Option, None}
use Rattle.std.proofs.Common.{nat_lt, Bool, true, false, refl, ap, sym, subst, ◌∙◌, arith}
use Rattle.std.specs.List.{sum_by, AllByRecursion}
use Rattle.std.proofs.Math.Nat.{mul-le-mul_right}
use Rattle.std.proofs.lemmas.List.Sums.{sum_by-cons}
use Rattle.dispatch.specs.declared.reservation.Account.{Account}
use Rattle.dispatch.specs.declared.reservation.Run.{Run}
use Rattle.dispatch.specs.Reservation.{Reservations, WHOLE, account_at, no_account, quantum_of}
use Rattle.dispatch.specs.Reservation.{rate_of, cut, with_account, state_picked, state_ended, after}
use Rattle.dispatch.specs.Reservation.{Allows, left, capped, terms_of, woken, given, level_now}
use Rattle.dispatch.specs.Reservation.{stopped}
use Rattle.dispatch.specs.declared.reservation.Step.{Step}
use Rattle.dispatch.specs.declared.reservation.Step.TheVariants.{Pass, Wake, Pick, End, Level, Give}
use Rattle.dispatch.specs.declared.reservation.Step.TheVariants.{Leave, Cut, Stop, Refill}
use Rattle.dispatch.specs.Windows.{over_runs, of_run, IsFair, IsLost, IsFairRun, after_all}
use Rattle.dispatch.specs.Windows.{IsAtRest, FitsHost}
use Rattle.dispatch.proofs.Demands.{demand_within}
use Rattle.dispatch.proofs.Totals.{sum_each, sum_none, sum_products}
use Rattle.dispatch.proofs.Backlog.{rest, busy, demand_by, one, Backlog, lowered}
use Rattle.dispatch.proofs.BacklogPicks.{backlog_picked}
use Rattle.dispatch.proofs.BacklogEnds.{either, backlog_ended}
use Rattle.dispatch.proofs.BacklogTime.{backlog_lost}

-- a leaf of which a task that waits has gone, or which a limit stops or does not
record IsLeft (a now : Account) : Type 0 where
  guarantee : now.guarantee ≡ a.guarantee
  running : now.share.running ≡ a.share.running
  owed : now.owed ≤ a.owed

is_left : (s : Reservations) (a : Account) → IsLeft a (left s a)
is_left s a =
    either (IsLeft a) (nat_lt (rate_of before) (rate_of a)) (cut s before) before
    (record { guarantee = refl; running = refl; owed = omega arith })
    (record { guarantee = refl; running = refl; owed = omega arith }) where
      before : Account
      before = record (capped (terms_of s) a) {
        share = record a.share { waiting = a.share.waiting - 1 };
      }

is_stopped : (s : Reservations) (stops : Bool) (a : Account) → IsLeft a (stopped s stops a)
is_stopped s true a = record { guarantee = refl; running = refl; owed = omega arith }
is_stopped s false a = record { guarantee = refl; running = refl; owed = omega arith }

leveled : (n w : ℕ) (s : Reservations) (c : ℕ × ℕ) → Backlog n w s
    → Backlog n w (record s { level = c })
leveled n w s c b = record {
  processors_are = b.processors_are;
  slack = b.slack;
  guarantees = b.guarantees;
  total = b.total;
  runs = b.runs;
  room = b.room;
}

-- an event in which no time passes
still_after : (n w : ℕ) (s : Reservations) (e : Step) → 0 < n → Backlog n w s → Allows s e
    → IsFair s e → (lost : ℕ) → IsLost w lost s e → Backlog n lost (after s e)
still_after n w s (Pass t) some b may fair lost is = backlog_lost n w lost s t some b fair is
still_after n w s (Wake i tasks) some b may fair lost is =
    subst (λ (m : ℕ). Backlog n m (with_account s i (woken s tasks (account_at s i)))) (sym is)
    (lowered n w s i (woken s tasks (account_at s i)) b may refl refl (omega arith))
still_after n w s (Pick p i) some b may fair lost is =
    subst (λ (m : ℕ). Backlog n m (state_picked s p i)) (sym is)
    (backlog_picked n w s p i some b fair.0 fair.1 may)
still_after n w s (End p used remains) some b may fair lost is =
    subst (λ (m : ℕ). Backlog n m (after s (End p used remains))) (sym is)
    (subst (λ (q : Option (Option Run)). Backlog n w (state_ended s p used remains q))
    (sym may.runs) (backlog_ended n w s p used remains may.run b may.runs may.known))
still_after n w s Level some b may fair lost is =
    subst (λ (m : ℕ). Backlog n m (after s Level)) (sym is)
    (leveled n w s (level_now s.slice s.accounts) b)
still_after n w s (Give i amount guarantee) some b may fair lost is =
    subst (λ (m : ℕ). Backlog n m (after s (Give i amount guarantee))) (sym is)
    (lowered n w s i (given s amount guarantee (account_at s i)) b may.0 fair.0 refl (omega arith))
still_after n w s (Leave i) some b may fair lost is =
    let h = is_left s (account_at s i) in
    subst (λ (m : ℕ). Backlog n m (after s (Leave i))) (sym is)
    (lowered n w s i (left s (account_at s i)) b may.0 h.guarantee h.running h.owed)
still_after n w s (Cut i) some b may fair lost is =
    subst (λ (m : ℕ). Backlog n m (after s (Cut i))) (sym is)
    (lowered n w s i (cut s (account_at s i)) b may refl refl (omega arith))
still_after n w s (Stop i stops) some b may fair lost is =
    let h = is_stopped s stops (account_at s i) in
    subst (λ (m : ℕ). Backlog n m (after s (Stop i stops))) (sym is)
    (lowered n w s i (stopped s stops (account_at s i)) b may h.guarantee h.running h.owed)
still_after n w s Refill some b may fair lost is =
    subst (λ (m : ℕ). Backlog n m s) (sym is) b

pub backlog_after : (n w lost : ℕ) (s : Reservations) (e : Step) → 0 < n → Backlog n w s
    → Allows s e → IsFair s e → IsLost w lost s e → Backlog n lost (after s e)
backlog_after n w lost s e some b may fair is = still_after n w s e some b may fair lost is

-- what was lost in the end
pub record Ends (n most : ℕ) (s : Reservations) : Type 0 where
  pub lost : ℕ
  pub most_lost : lost ≤ most
  pub backlog : Backlog n lost s

pub backlog_all : (n most w : ℕ) (s : Reservations) (es : List Step) → 0 < n → w ≤ most
    → Backlog n w s → IsFairRun most w s es → Ends n most (after_all s es)
backlog_all n most w s [] some less b run =
    record { lost = w; most_lost = less; backlog = b }
backlog_all n most w s (e ∷ es) some less b run =
    backlog_all n most run.2.0 (after s e) es some run.2.2
    (backlog_after n w run.2.0 s e some b run.0 run.1 run.2.1) run.2.3

none_rests : (q : ℕ) (ps : List (Option Run)) → AllByRecursion (λ x. x ≡ None) ps
    → sum_by (rest q) ps ≡ 0
none_rests q [] idle = refl
none_rests q (x ∷ ps) idle =
    omega (arith, ap (rest q) idle.0, none_rests q ps idle.1, sum_by-cons (rest q) x ps)

none_busy : (ps : List (Option Run)) → AllByRecursion (λ x. x ≡ None) ps → sum_by busy ps ≡ 0
none_busy [] idle = refl
none_busy (x ∷ ps) idle =
    omega (arith, ap busy idle.0, none_busy ps idle.1, sum_by-cons busy x ps)

pub none_run : (k : ℕ) (ps : List (Option Run)) → AllByRecursion (λ x. x ≡ None) ps
    → over_runs k one ps ≡ 0
none_run k [] idle = refl
none_run k (x ∷ ps) idle =
    omega (arith, ap (of_run k one) idle.0, none_run k ps idle.1, sum_by-cons (of_run k one) x ps)

room_at_rest : (rests demands guarantees runs n q e : ℕ) → 0 < n → rests ≡ 0 → runs ≡ 0
    → demands ≤ guarantees * e + runs * q → guarantees ≤ WHOLE * n
    → rests + demands + q ≤ WHOLE * n * e + 2 * n * q
room_at_rest rests demands guarantees runs n q e some none idle most fits =
    let until : guarantees * e ≤ WHOLE * n * e = mul-le-mul_right e fits in
    let no_runs : runs * q ≤ 0 * q =
    mul-le-mul_right q (let z : runs ≤ 0 = omega (arith, idle) in z) in
    let one_processor : 1 * q ≤ n * q = mul-le-mul_right q some in
    omega (arith, none, most, until, no_runs, one_processor)

pub backlog_at_rest : (s : Reservations) → IsAtRest s → FitsHost s
    → Backlog (length s.processors) 0 s
backlog_at_rest s at fits =
    let no_runs = sum_none (λ x. x.share.running) s.accounts no_account at.running in
    record {
      processors_are = refl;
      slack = fits.slack;
      guarantees = fits.guarantees;
      total = no_runs ∙ sym (none_busy s.processors at.idle);
      runs = λ k known. none_run k s.processors at.idle ∙ sym (at.running k);
      room = λ e. (let room = room_at_rest (sum_by (rest (quantum_of s)) s.processors)
          (sum_by (demand_by (quantum_of s) s.credit e) s.accounts)
          (sum_by (λ x. x.guarantee) s.accounts) (sum_by (λ x. x.share.running) s.accounts)
          (length s.processors) (quantum_of s) e fits.some
          (none_rests (quantum_of s) s.processors at.idle) no_runs
          (omega (
            arith,
            sum_each (demand_by (quantum_of s) s.credit e)
                (λ x. x.guarantee * e + x.share.running * quantum_of s) s.accounts no_account
                (λ k. (let own = demand_within (account_at s k).guarantee (quantum_of s)
                ((account_at s k).guarantee * s.credit) (account_at s k).owed
                ((account_at s k).share.running * quantum_of s) ((account_at s k).guarantee * e)
                (at.owed k) in
                let less : demand_by (quantum_of s) s.credit e (account_at s k)
                ≤ (account_at s k).guarantee * e
                + (account_at s k).share.running * quantum_of s =
                omega (arith, own) in less)),
            sum_products (λ (x : Account). x.guarantee) (λ (x : Account). x.share.running) e
                (quantum_of s) s.accounts,
          ))
          fits.guarantees in
          omega (arith, room));
    }
