-- The backlog when time passes: its bound falls by what the processors did, or by what they lost.
use Rattle.std.proofs.Common.{◌≡◌, ℕ, zero, suc, ◌+◌, ◌*◌, ◌<◌, ◌≤◌, inl, inr, List, [], ◌∷◌}
use Rattle.std.proofs.Common.{length, Option, None, Some, get_or, map, refl, ap, sym, subst, ◌∙◌}
use Rattle.std.proofs.Common.{arith, Bool, true, false, ◌==◌, ◌||◌, if◌then◌else◌}
use Rattle.std.specs.List.{sum_by, AllByRecursion}
use Rattle.std.proofs.Math.Nat.{mul-le-mul_right}
use Rattle.std.proofs.lemmas.Bool.{eq-eqb}
use Rattle.std.proofs.lemmas.List.{length-map}
use Rattle.std.proofs.lemmas.List.Sums.{sum_by-cons}
use Rattle.dispatch.specs.declared.reservation.Account.{Account}
use Rattle.dispatch.specs.declared.reservation.Run.{Run}
use Rattle.dispatch.specs.Reservation.{Reservations, WHOLE, account_at, no_account, quantum_of}
use Rattle.dispatch.specs.Reservation.{tasks_of, credit_of, passed, aged, ready_in}
use Rattle.dispatch.specs.declared.reservation.Step.TheVariants.{Pass}
use Rattle.dispatch.specs.Windows.{over_runs, of_run, RunsWithin, IsBusy, NoneWaits}
use Rattle.dispatch.specs.Windows.{WaitsBeyondCredit, IsLost}
use Rattle.dispatch.proofs.Demands.{demand_less, demand_within}
use Rattle.dispatch.proofs.Totals.{sum_map, one_of_sum, sum_products}
use Rattle.dispatch.proofs.Backlog.{rest, busy, demand_by, one, Backlog, by_order, aged_busy}
use Rattle.dispatch.proofs.Backlog.{aged_some, short_or_idle, passed_at_most, passed_idle}

pub aged_runs : (k t : ℕ) (ps : List (Option Run))
    → over_runs k one (map (aged t) ps) ≡ over_runs k one ps
aged_runs k t [] = refl
aged_runs k t (None ∷ ps) =
    omega (
      arith,
      aged_runs k t ps,
      sum_by-cons (of_run k one) None ps,
      sum_by-cons (of_run k one) (aged t None) (map (aged t) ps),
    )
aged_runs k t (Some run ∷ ps) =
    omega (
      arith,
      aged_runs k t ps,
      sum_by-cons (of_run k one) (Some run) ps,
      sum_by-cons (of_run k one) (aged t (Some run)) (map (aged t) ps),
    )

aged_count : (t : ℕ) (ps : List (Option Run)) → sum_by busy (map (aged t) ps) ≡ sum_by busy ps
aged_count t [] = refl
aged_count t (None ∷ ps) =
    omega (
      arith,
      aged_count t ps,
      sum_by-cons busy None ps,
      sum_by-cons busy (aged t None) (map (aged t) ps),
    )
aged_count t (Some run ∷ ps) =
    omega (
      arith,
      aged_count t ps,
      sum_by-cons busy (Some run) ps,
      sum_by-cons busy (aged t (Some run)) (map (aged t) ps),
    )

pub passed_at : (s : Reservations) (t : ℕ) (xs : List Account) (k : ℕ) → k < length xs
    → get_or (map (passed s t) xs) k no_account ≡ passed s t (get_or xs k no_account)
passed_at s t [] k known = absurd (let clash : ⊥ = omega (arith, known) in clash)
passed_at s t (x ∷ xs) zero known = refl
passed_at s t (x ∷ xs) (suc k) known = passed_at s t xs k (omega (arith, known))

passed_sum : (s : Reservations) (t : ℕ) (f : Account → ℕ) (xs : List Account)
    → ((a : Account) → f (passed s t a) ≡ f a) → sum_by f (map (passed s t) xs) ≡ sum_by f xs
passed_sum s t f [] same = refl
passed_sum s t f (x ∷ xs) same =
    omega (
      arith,
      same x,
      passed_sum s t f xs same,
      sum_by-cons f x xs,
      sum_by-cons f (passed s t x) (map (passed s t) xs),
    )

-- what a leaf may ask for by a time does not grow while the time comes nearer
passed_demand : (s : Reservations) (t e : ℕ) (a : Account)
    → demand_by (quantum_of s) s.credit e (passed s t a)
    ≤ demand_by (quantum_of s) s.credit (e + t) a
passed_demand s t e a =
    demand_less a.guarantee (quantum_of s) (a.guarantee * s.credit) a.owed
    (a.share.running * quantum_of s) (a.guarantee * (e + t)) (passed s t a).owed
    (a.guarantee * e) (omega (arith, passed_at_most s t a))

abbrev state_passed : Reservations → ℕ → Reservations
state_passed s t =
    record s { accounts = map (passed s t) s.accounts; processors = map (aged t) s.processors }

room_busy : (rests rests' demands demands' q n w e t : ℕ)
    → rests + demands + q ≤ WHOLE * n * (e + t) + 2 * n * q + WHOLE * w
    → rests' + WHOLE * (t * n) ≤ rests → demands' ≤ demands
    → rests' + demands' + q ≤ WHOLE * n * e + 2 * n * q + WHOLE * w
room_busy rests rests' demands demands' q n w e t before less fewer =
    omega (arith, before, less, fewer)

room_lost : (rests rests' demands demands' q n w e t : ℕ)
    → rests + demands + q ≤ WHOLE * n * (e + t) + 2 * n * q + WHOLE * w → rests' ≤ rests
    → demands' ≤ demands
    → rests' + demands' + q ≤ WHOLE * n * e + 2 * n * q + WHOLE * (w + n * t)
room_lost rests rests' demands demands' q n w e t before less fewer =
    omega (arith, before, less, fewer)

room_short : (rests' demands' guarantees n q e t : ℕ) → 0 < n
    → rests' + WHOLE * (t * n) ≤ n * q → demands' ≤ guarantees * (e + t)
    → guarantees ≤ WHOLE * n → rests' + demands' + q ≤ WHOLE * n * e + 2 * n * q
room_short rests' demands' guarantees n q e t some less most fits =
    let until : guarantees * (e + t) ≤ WHOLE * n * (e + t) = mul-le-mul_right (e + t) fits in
    let one_processor : 1 * q ≤ n * q = mul-le-mul_right q some in
    omega (arith, less, most, until, one_processor)

room_idle : (rests' demands' guarantees n q e : ℕ) → 0 < n → rests' ≡ 0
    → demands' ≤ guarantees * e → guarantees ≤ WHOLE * n
    → rests' + demands' + q ≤ WHOLE * n * e + 2 * n * q
room_idle rests' demands' guarantees n q e some none most fits =
    let until : guarantees * e ≤ WHOLE * n * e = mul-le-mul_right e fits in
    let one_processor : 1 * q ≤ n * q = mul-le-mul_right q some in
    omega (arith, none, most, until, one_processor)

-- after the time, with so much lost
abbrev HasRoom : ℕ → ℕ → Reservations → ℕ → ℕ → Type 0
HasRoom n lost s t e = sum_by (rest (quantum_of s)) (map (aged t) s.processors)
    + sum_by (demand_by (quantum_of s) s.credit e) (map (passed s t) s.accounts) + quantum_of s
    ≤ WHOLE * n * e + 2 * n * quantum_of s + WHOLE * lost

nearer_demands : (s : Reservations) (t e : ℕ)
    → sum_by (demand_by (quantum_of s) s.credit e) (map (passed s t) s.accounts)
    ≤ sum_by (demand_by (quantum_of s) s.credit (e + t)) s.accounts
nearer_demands s t e =
    sum_map (demand_by (quantum_of s) s.credit e) (demand_by (quantum_of s) s.credit (e + t))
    (passed s t) s.accounts no_account (λ k known. passed_demand s t e (account_at s k))

rest_aged : (q t : ℕ) (r : Option Run) → rest q (aged t r) ≤ rest q r
rest_aged q t None = omega arith
rest_aged q t (Some run) = omega arith

busy_room : (n w : ℕ) (s : Reservations) (t e : ℕ) → Backlog n w s
    → AllByRecursion IsBusy s.processors
    → AllByRecursion (RunsWithin s.quantum t) s.processors → HasRoom n w s t e
busy_room n w s t e b all within =
    room_busy (sum_by (rest (quantum_of s)) s.processors)
    (sum_by (rest (quantum_of s)) (map (aged t) s.processors))
    (sum_by (demand_by (quantum_of s) s.credit (e + t)) s.accounts)
    (sum_by (demand_by (quantum_of s) s.credit e) (map (passed s t) s.accounts)) (quantum_of s) n w
    e t (b.room (e + t))
    (subst (λ (m : ℕ). sum_by (rest (quantum_of s)) (map (aged t) s.processors)
    + WHOLE * (t * m) ≤ sum_by (rest (quantum_of s)) s.processors) b.processors_are
    (aged_busy s.quantum t s.processors all within))
    (nearer_demands s t e)

lost_room : (n w : ℕ) (s : Reservations) (t e : ℕ) → Backlog n w s
    → HasRoom n (w + n * t) s t e
lost_room n w s t e b =
    room_lost (sum_by (rest (quantum_of s)) s.processors)
    (sum_by (rest (quantum_of s)) (map (aged t) s.processors))
    (sum_by (demand_by (quantum_of s) s.credit (e + t)) s.accounts)
    (sum_by (demand_by (quantum_of s) s.credit e) (map (passed s t) s.accounts)) (quantum_of s) n w
    e t (b.room (e + t))
    (sum_map (rest (quantum_of s)) (rest (quantum_of s)) (aged t) s.processors None
    (λ k known. rest_aged (quantum_of s) t (get_or s.processors k None)))
    (nearer_demands s t e)

or_true : (b : Bool) → (b || true) ≡ true
or_true true = refl
or_true false = refl

-- a leaf of which no task is ready and none runs wants nothing, or a limit stops it
wants_none : (a : Account) → ready_in a ≡ 0 → a.share.running ≡ 0
    → (tasks_of a == 0 || a.is_stopped) ≡ true
wants_none a ready running = by_test a.is_stopped ready where
  by_test : (b : Bool) → (if◌then◌else◌ {A = ℕ} b 0 a.share.waiting) ≡ 0
      → (tasks_of a == 0 || b) ≡ true
  by_test true none = or_true (tasks_of a == 0)
  by_test false none =
      let count : tasks_of a ≡ 0 = omega (arith, none, running) in
      ap (λ (c : Bool). c || false) (eq-eqb (tasks_of a) 0 count)

quiet_room : (n w : ℕ) (s : Reservations) (t e : ℕ) → 0 < n → Backlog n w s → NoneWaits s
    → WaitsBeyondCredit s → AllByRecursion (RunsWithin s.quantum t) s.processors
    → sum_by (rest (quantum_of s)) (map (aged t) s.processors)
    + sum_by (demand_by (quantum_of s) s.credit e) (map (passed s t) s.accounts) + quantum_of s
    ≤ WHOLE * n * e + 2 * n * quantum_of s
quiet_room n w s t e some b none_waits beyond within = quiet none_waits where
  Goal : Type 0
  Goal = sum_by (rest (quantum_of s)) (map (aged t) s.processors)
      + sum_by (demand_by (quantum_of s) s.credit e) (map (passed s t) s.accounts) + quantum_of s
      ≤ WHOLE * n * e + 2 * n * quantum_of s

  rests : ℕ
  rests = sum_by (rest (quantum_of s)) (map (aged t) s.processors)

  demands : ℕ
  demands = sum_by (demand_by (quantum_of s) s.credit e) (map (passed s t) s.accounts)

  within_credit : NoneWaits s → (k : ℕ) → (account_at s k).owed ≤ credit_of s (account_at s k)
  within_credit none k =
      by_order ((account_at s k).owed ≤ credit_of s (account_at s k))
      (credit_of s (account_at s k)) (account_at s k).owed
      (λ past. absurd (let waits = beyond k past in
      let clash : ⊥ = omega (arith, waits, none k) in clash))
      (λ less. less)

  quiet : NoneWaits s → Goal
  quiet none =
      elim (short_or_idle s.quantum t s.processors within) [
        | inl h ↦ idle none h.0 h.1
        | inr short ↦ some_run none short
      ] where
        idle : NoneWaits s → sum_by busy s.processors ≡ 0 → rests ≡ 0 → Goal
        idle none free no_rests =
            let no_tasks : (k : ℕ) → k < length s.accounts
            → (tasks_of (account_at s k) == 0 || (account_at s k).is_stopped) ≡ true =
            λ k known. (let running =
            one_of_sum (λ x. x.share.running) s.accounts k no_account known in
            let none_runs : (account_at s k).share.running ≡ 0 =
            omega (arith, running, b.total, free) in
            wants_none (account_at s k) (none k) none_runs) in
            let demands_are : demands
            ≤ sum_by (λ x. x.guarantee * e + x.share.running * 0) s.accounts =
            sum_map (demand_by (quantum_of s) s.credit e)
            (λ x. x.guarantee * e + x.share.running * 0) (passed s t) s.accounts no_account
            (λ k known. (let own = demand_within (account_at s k).guarantee (quantum_of s)
            ((account_at s k).guarantee * s.credit) (passed s t (account_at s k)).owed
            ((account_at s k).share.running * quantum_of s) ((account_at s k).guarantee * e)
            (passed_idle s t (account_at s k) (no_tasks k known) (within_credit none k)) in
            let less : demand_by (quantum_of s) s.credit e (passed s t (account_at s k))
            ≤ (account_at s k).guarantee * e + (account_at s k).share.running * 0 =
            omega (arith, own) in less)) in
            room_idle rests demands (sum_by (λ x. x.guarantee) s.accounts) n (quantum_of s) e some
            no_rests
            (omega (
              arith,
              demands_are,
              sum_products (λ (x : Account). x.guarantee) (λ (x : Account). x.share.running) e 0
                  s.accounts,
            ))
            b.guarantees

        some_run : NoneWaits s → t ≤ s.quantum → Goal
        some_run none short =
            let demands_are : demands
            ≤ sum_by (λ x. x.guarantee * (e + t) + x.share.running * 0) s.accounts =
            sum_map (demand_by (quantum_of s) s.credit e)
            (λ x. x.guarantee * (e + t) + x.share.running * 0) (passed s t) s.accounts no_account
            (λ k known. (let nearer = passed_demand s t e (account_at s k) in
            let own = demand_within (account_at s k).guarantee (quantum_of s)
            ((account_at s k).guarantee * s.credit) (account_at s k).owed
            ((account_at s k).share.running * quantum_of s) ((account_at s k).guarantee * (e + t))
            (within_credit none k) in
            let less : demand_by (quantum_of s) s.credit e (passed s t (account_at s k))
            ≤ (account_at s k).guarantee * (e + t) + (account_at s k).share.running * 0 =
            omega (arith, nearer, own) in less)) in
            room_short rests demands (sum_by (λ x. x.guarantee) s.accounts) n (quantum_of s) e t
            some
            (subst (λ (m : ℕ). rests + WHOLE * (t * m) ≤ m * quantum_of s) b.processors_are
            (aged_some s.quantum t s.processors short within))
            (omega (
              arith,
              demands_are,
              sum_products (λ (x : Account). x.guarantee) (λ (x : Account). x.share.running)
                  (e + t) 0 s.accounts,
            ))
            b.guarantees

passed_runs : (n w : ℕ) (s : Reservations) (t : ℕ) → Backlog n w s → (k : ℕ)
    → k < length (map (passed s t) s.accounts) → over_runs k one (map (aged t) s.processors)
    ≡ (get_or (map (passed s t) s.accounts) k no_account).share.running
passed_runs n w s t b k inside =
    let known : k < length s.accounts =
    omega (arith, inside, length-map s.accounts (passed s t)) in
    aged_runs k t s.processors
    ∙ (b.runs k known
    ∙ ap (λ (x : Account). x.share.running) (sym (passed_at s t s.accounts k known)))

backlog_passed : (n w lost : ℕ) (s : Reservations) (t : ℕ) → Backlog n w s
    → ((e : ℕ) → HasRoom n lost s t e) → Backlog n lost (state_passed s t)
backlog_passed n w lost s t b room = record {
  processors_are = length-map s.processors (aged t) ∙ b.processors_are;
  slack = b.slack;
  guarantees = omega (
    arith,
    b.guarantees,
    passed_sum s t (λ x. x.guarantee) s.accounts (λ a. refl),
  );
  total = omega (
    arith,
    b.total,
    passed_sum s t (λ x. x.share.running) s.accounts (λ a. refl),
    aged_count t s.processors,
  );
  runs = passed_runs n w s t b;
  room = room;
}

-- what is lost at a time that passes
pub backlog_lost : (n w lost : ℕ) (s : Reservations) (t : ℕ) → 0 < n → Backlog n w s
    → AllByRecursion (RunsWithin s.quantum t) s.processors → IsLost w lost s (Pass t)
    → Backlog n lost (state_passed s t)
backlog_lost n w lost s t some b within (inl busy) =
    backlog_passed n w lost s t b
    (λ e. subst (λ (m : ℕ). HasRoom n m s t e) (sym busy.1)
    (busy_room n w s t e b busy.0 within))
backlog_lost n w lost s t some b within (inr (inl quiet)) =
    backlog_passed n w lost s t b
    (λ e. (let room = quiet_room n w s t e some b quiet.0 quiet.1 within in
    omega (arith, room)))
backlog_lost n w lost s t some b within (inr (inr more)) =
    backlog_passed n w lost s t b
    (λ e. subst (λ (m : ℕ). HasRoom n m s t e)
    (sym (more ∙ ap (λ (m : ℕ). w + m * t) b.processors_are))
    (lost_room n w s t e b))
