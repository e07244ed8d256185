-- The ledger of a leaf: what it is owed and what its runs would give back changes, at each event,
-- by what its guarantee brings less what its tasks hold.
use Rattle.std.proofs.Common.{◌≡◌, ◌≢◌, ℕ, zero, suc, ◌+◌, ◌-◌, ◌*◌, ◌<◌, ◌≤◌, ◌==◌, inl, inr}
use Rattle.std.proofs.Common.{List, [], ◌∷◌, length, Bool, true, false, Option, None, Some}
use Rattle.std.proofs.Common.{nat_lt, slice_get, map, min, max, refl, ap, sym}
use Rattle.std.proofs.Common.{subst, ◌∙◌, arith, if◌then◌else◌, ◌||◌}
use Rattle.std.specs.List.{sum_by, AllByRecursion}
use Rattle.std.proofs.Math.Nat.{mul-le-mul_right}
use Rattle.std.proofs.lemmas.List.{length-map}
use Rattle.std.proofs.lemmas.List.Sums.{sum_by-cons}
use Rattle.std.proofs.lemmas.Bool.{eq-eqb, eqb-true, ne_eqb, le-ltb}
use Rattle.dispatch.specs.declared.reservation.Account.{Account}
use Rattle.dispatch.specs.declared.reservation.Run.{Run}
use Rattle.dispatch.specs.declared.reservation.Step.{Step}
use Rattle.dispatch.specs.declared.reservation.Step.TheVariants.{Pass, Wake, Pick, End, Level}
use Rattle.dispatch.specs.declared.reservation.Step.TheVariants.{Give, Leave, Cut, Stop, Refill}
use Rattle.dispatch.specs.Reservation.{Reservations, WHOLE, account_at, no_account, quantum_of}
use Rattle.dispatch.specs.Reservation.{tasks_of, rate_of, credit_of, most_of, passed, aged, cut}
use Rattle.dispatch.specs.Reservation.{paid_by, picked, ended, with_account, state_picked}
use Rattle.dispatch.specs.Reservation.{state_ended, settled_owed, after, Allows, woken, given}
use Rattle.dispatch.specs.Reservation.{MayPick, left, capped, terms_of, stopped}
use Rattle.dispatch.specs.Rule as shares
use Rattle.dispatch.specs.Windows.{over_runs, of_run, back_of, owed_in_all, RunsWithin, IsFair}
use Rattle.dispatch.specs.Windows.{WantsAt, held_at, IsWholeAt}
use Rattle.dispatch.proofs.Counts.{length_set}
use Rattle.dispatch.proofs.Demands.{demand, demand_is}
use Rattle.dispatch.proofs.Totals.{sum_set, one_of_sum}
use Rattle.dispatch.proofs.Backlog.{Backlog, rest, one, demand_by, by_order, account_set}
use Rattle.dispatch.proofs.BacklogTime.{passed_at}

-- ---- the bound

either_less : (b : Bool) (x z : ℕ) → x ≤ z → (if◌then◌else◌ {A = ℕ} b x 0) ≤ z
either_less true x z h = h
either_less false x z h = omega arith

backs_at_most : (q i : ℕ) (ps : List (Option Run))
    → over_runs i (back_of q) ps ≤ sum_by (rest q) ps
backs_at_most q i [] = omega arith
backs_at_most q i (None ∷ ps) =
    omega (
      arith,
      backs_at_most q i ps,
      sum_by-cons (of_run i (back_of q)) None ps,
      sum_by-cons (rest q) None ps,
    )
backs_at_most q i (Some run ∷ ps) =
    omega (
      arith,
      either_less (run.leaf == i) (back_of q run) (rest q (Some run)) (omega arith),
      backs_at_most q i ps,
      sum_by-cons (of_run i (back_of q)) (Some run) ps,
      sum_by-cons (rest q) (Some run) ps,
    )

either_product : (b : Bool) (x q : ℕ) → x ≤ q
    → (if◌then◌else◌ {A = ℕ} b x 0) ≤ (if◌then◌else◌ {A = ℕ} b 1 0) * q
either_product true x q h = omega (arith, h)
either_product false x q h = omega arith

backs_by_runs : (q i : ℕ) (ps : List (Option Run))
    → over_runs i (back_of q) ps ≤ over_runs i one ps * q
backs_by_runs q i [] = omega arith
backs_by_runs q i (None ∷ ps) =
    let same : over_runs i one (None ∷ ps) * q ≡ (0 + over_runs i one ps) * q =
    ap (λ n. n * q) (sum_by-cons (of_run i one) None ps) in
    omega (arith, backs_by_runs q i ps, same, sum_by-cons (of_run i (back_of q)) None ps)
backs_by_runs q i (Some run ∷ ps) =
    let same : over_runs i one (Some run ∷ ps) * q
    ≡ (of_run i one (Some run) + over_runs i one ps) * q =
    ap (λ n. n * q) (sum_by-cons (of_run i one) (Some run) ps) in
    omega (
      arith,
      either_product (run.leaf == i) (back_of q run) q (omega arith),
      backs_by_runs q i ps,
      same,
      sum_by-cons (of_run i (back_of q)) (Some run) ps,
    )

numbers_bounded : (g q c owed runs backs rests demands n w : ℕ) → 0 < n → 0 < g
    → backs ≤ rests → backs ≤ runs → demand g q (g * c) owed runs (g * 0) ≤ demands
    → rests + demands + q ≤ WHOLE * n * 0 + 2 * n * q + WHOLE * w
    → owed + backs ≤ 2 * n * q + g * c + WHOLE * w
numbers_bounded g q c owed runs backs rests demands n w some guaranteed by_rests by_runs of_sum
    room =
    let is = demand_is g q (g * c) owed runs (g * 0) in
    let one_processor : 1 * q ≤ n * q = mul-le-mul_right q some in
    by_order (owed + backs ≤ 2 * n * q + g * c + WHOLE * w) (owed + runs + g * 0) (2 * q + g * c)
    (λ less. omega (arith, less, by_runs, one_processor))
    (λ more. let here = is.some guaranteed more in
    omega (arith, more, here, by_rests, of_sum, room))

-- what a leaf is owed is bounded
pub bounded : (n w : ℕ) (s : Reservations) (i : ℕ) → 0 < n → Backlog n w s
    → i < length s.accounts → 0 < (account_at s i).guarantee
    → owed_in_all s i ≤ most_of s (account_at s i) + WHOLE * w
bounded n w s i some b known guaranteed =
    subst (λ (m : ℕ). owed_in_all s i
    ≤ 2 * m * quantum_of s + (account_at s i).guarantee * s.credit + WHOLE * w)
    (sym b.processors_are)
    (numbers_bounded (account_at s i).guarantee (quantum_of s) s.credit (account_at s i).owed
    ((account_at s i).share.running * quantum_of s)
    (over_runs i (back_of (quantum_of s)) s.processors)
    (sum_by (rest (quantum_of s)) s.processors)
    (sum_by (demand_by (quantum_of s) s.credit 0) s.accounts) n w some guaranteed
    (backs_at_most (quantum_of s) i s.processors)
    (subst (λ (r : ℕ). over_runs i (back_of (quantum_of s)) s.processors ≤ r * quantum_of s)
    (b.runs i known) (backs_by_runs (quantum_of s) i s.processors))
    (one_of_sum (demand_by (quantum_of s) s.credit 0) s.accounts i no_account known)
    (b.room 0))

-- ---- a step

-- what the ledger of a leaf of this guarantee is after an event in which it is owed so much
pub record IsKept (s t : Reservations) (i brought held : ℕ) : Type 0 where
  pub quantum : t.quantum ≡ s.quantum
  pub credit : t.credit ≡ s.credit
  pub accounts : length t.accounts ≡ length s.accounts
  pub guarantee : (account_at t i).guarantee ≡ (account_at s i).guarantee
  pub owed : owed_in_all s i + brought ≤ owed_in_all t i + WHOLE * held

-- where one leaf is set, and no processor
one_set : (s : Reservations) (i j : ℕ) (a : Account) → j < length s.accounts
    → (i ≡ j → (a.guarantee ≡ (account_at s j).guarantee) × ((account_at s j).owed ≤ a.owed))
    → IsKept s (with_account s j a) i 0 0
one_set s i j a known own =
    elim (account_set s.accounts j i a known) [
      | inl h ↦
          let o = own h.0 in
          let from : account_at s i ≡ account_at s j = ap (account_at s) h.0 in
          record {
            quantum = refl;
            credit = refl;
            accounts = length_set s.accounts j a;
            guarantee = ap (λ (x : Account). x.guarantee) h.1
                ∙ (o.0 ∙ ap (λ (x : Account). x.guarantee) (sym from));
            owed = omega (
              arith,
              o.1,
              ap (λ (x : Account). x.owed) h.1,
              ap (λ (x : Account). x.owed) from,
            );
          }
      | inr h ↦ record {
        quantum = refl;
        credit = refl;
        accounts = length_set s.accounts j a;
        guarantee = ap (λ (x : Account). x.guarantee) h.1;
        owed = omega (arith, ap (λ (x : Account). x.owed) h.1);
      }
    ]

-- ---- time

either_backs : (b : Bool) (x y z : ℕ) → x ≤ y + WHOLE * z
    → (if◌then◌else◌ {A = ℕ} b x 0) ≤ (if◌then◌else◌ {A = ℕ} b y 0)
    + WHOLE * (z * (if◌then◌else◌ {A = ℕ} b 1 0))
either_backs true x y z h = omega (arith, h)
either_backs false x y z h = omega arith

aged_backs : (q i t : ℕ) (ps : List (Option Run)) → over_runs i (back_of q) ps
    ≤ over_runs i (back_of q) (map (aged t) ps) + WHOLE * (t * over_runs i one ps)
aged_backs q i t [] = omega arith
aged_backs q i t (None ∷ ps) =
    let same : t * over_runs i one (None ∷ ps) ≡ t * (0 + over_runs i one ps) =
    ap (λ n. t * n) (sum_by-cons (of_run i one) None ps) in
    omega (
      arith,
      aged_backs q i t ps,
      same,
      sum_by-cons (of_run i (back_of q)) None ps,
      sum_by-cons (of_run i (back_of q)) (aged t None) (map (aged t) ps),
    )
aged_backs q i t (Some run ∷ ps) =
    let same : t * over_runs i one (Some run ∷ ps)
    ≡ t * (of_run i one (Some run) + over_runs i one ps) =
    ap (λ n. t * n) (sum_by-cons (of_run i one) (Some run) ps) in
    omega (
      arith,
      aged_backs q i t ps,
      either_backs (run.leaf == i) (back_of q run) (back_of q (record run { age = run.age + t })) t
          (omega arith),
      same,
      sum_by-cons (of_run i (back_of q)) (Some run) ps,
      sum_by-cons (of_run i (back_of q)) (aged t (Some run)) (map (aged t) ps),
    )

either_at_least : (b : Bool) (x y z : ℕ) → (b ≡ true → z ≤ x) → z ≤ y
    → z ≤ (if◌then◌else◌ {A = ℕ} b x y)
either_at_least true x y z one two = one refl
either_at_least false x y z one two = two

no_other : (a b : Bool) → (a || b) ≡ true → b ≡ false → a ≡ true
no_other true b either none = refl
no_other false b either none = absurd (let clash : true ≡ false = sym either ∙ none in cc clash)

-- a leaf that has k tasks is owed that many processors, or its guarantee
passed_at_least : (s : Reservations) (t k : ℕ) (a : Account) → k ≤ tasks_of a
    → a.is_stopped ≡ false → a.owed + min (k * WHOLE) a.guarantee * t ≤ (passed s t a).owed
passed_at_least s t k a wants goes =
    let rate : min (k * WHOLE) a.guarantee * t ≤ rate_of a * t =
    mul-le-mul_right t
    (let less : min (k * WHOLE) a.guarantee ≤ rate_of a = omega (arith, wants) in less) in
    either_at_least (tasks_of a == 0 || a.is_stopped)
    (max a.owed (min (a.owed + a.guarantee * t) (credit_of s a))) (a.owed + rate_of a * t)
    (a.owed + min (k * WHOLE) a.guarantee * t)
    (λ none. let no_tasks : tasks_of a ≡ 0 =
    eqb-true (tasks_of a) 0 (no_other (tasks_of a == 0) a.is_stopped none goes) in
    let nothing : min (k * WHOLE) a.guarantee * t ≤ 0 * t =
    mul-le-mul_right t
    (let less : min (k * WHOLE) a.guarantee ≤ 0 = omega (arith, wants, no_tasks) in less) in
    omega (arith, nothing))
    (omega (arith, rate))

kept_passed : (s : Reservations) (t i k : ℕ) → i < length s.accounts
    → k ≤ tasks_of (account_at s i) → (account_at s i).is_stopped ≡ false
    → IsKept s (after s (Pass t)) i
    (min (k * WHOLE) (account_at s i).guarantee * t) (held_at i s (Pass t))
kept_passed s t i k known wants goes =
    let at = passed_at s t s.accounts i known in
    record {
      quantum = refl;
      credit = refl;
      accounts = length-map s.accounts (passed s t);
      guarantee = ap (λ (x : Account). x.guarantee) at;
      owed = omega (
        arith,
        ap (λ (x : Account). x.owed) at,
        passed_at_least s t k (account_at s i) wants goes,
        aged_backs (quantum_of s) i t s.processors,
      );
    }

-- ---- a pick

either_same : (i k : ℕ) (x : ℕ) → k ≡ i → (if◌then◌else◌ {A = ℕ} (i == k) x 0) ≡ x
either_same i k x e = ap (λ b. if◌then◌else◌ {A = ℕ} b x 0) (eq-eqb i k (sym e))

either_other : (i k : ℕ) (x : ℕ) → k ≢ i → (if◌then◌else◌ {A = ℕ} (i == k) x 0) ≡ 0
either_other i k x ne = ap (λ b. if◌then◌else◌ {A = ℕ} b x 0) (ne_eqb i k (λ e. ne (sym e)))

-- the run that a pick begins
abbrev begun : Reservations → ℕ → Run
begun s j = record { leaf = j; paid = paid_by s (account_at s j); age = 0 }

kept_picked : (s : Reservations) (p i j : ℕ) → MayPick s p j
    → (i ≡ j → (account_at s j).owed ≤ most_of s (account_at s j))
    → IsKept s (state_picked s p j) i 0 0
kept_picked s p i j may below =
    let backs = sum_set (of_run i (back_of (quantum_of s))) s.processors p None
    (Some (begun s j)) may.free in
    elim (account_set s.accounts j i (picked s (account_at s j)) may.known) [
      | inl h ↦
          let from : account_at s i ≡ account_at s j = ap (account_at s) h.0 in
          record {
            quantum = refl;
            credit = refl;
            accounts = length_set s.accounts j (picked s (account_at s j));
            guarantee = ap (λ (x : Account). x.guarantee) h.1
                ∙ ap (λ (x : Account). x.guarantee) (sym from);
            owed = omega (
              arith,
              backs,
              below h.0,
              either_same j i (back_of (quantum_of s) (begun s j)) h.0,
              ap (λ (x : Account). x.owed) h.1,
              ap (λ (x : Account). x.owed) from,
            );
          }
      | inr h ↦ record {
        quantum = refl;
        credit = refl;
        accounts = length_set s.accounts j (picked s (account_at s j));
        guarantee = ap (λ (x : Account). x.guarantee) h.1;
        owed = omega (
          arith,
          backs,
          either_other j i (back_of (quantum_of s) (begun s j)) h.0,
          ap (λ (x : Account). x.owed) h.1,
        );
      }
    ]

-- ---- an end

run_at : (quantum : ℕ) (ps : List (Option Run)) (p : ℕ) (run : Run)
    → AllByRecursion (RunsWithin quantum 0) ps → slice_get ps p ≡ Some (Some run)
    → run.age ≤ quantum
run_at quantum [] p run within is = absurd (cc is)
run_at quantum (x ∷ ps) zero run within is =
    let e : x ≡ Some run = cc is in
    let here : RunsWithin quantum 0 (Some run) = subst (RunsWithin quantum 0) e within.0 in
    omega (arith, here)
run_at quantum (x ∷ ps) (suc p) run within is = run_at quantum ps p run within.1 is

-- the leaf before what is beyond its credit may be cut
abbrev settled_account : Reservations → Run → ℕ → Bool → Account → Account
settled_account s run used remains a = record a {
  share = shares.ended s.slice used remains a.share;
  owed = settled_owed (quantum_of s) run.paid (WHOLE * run.age) (min a.owed (most_of s a));
}

rate_same : (b : Bool) (s : Reservations) (a : Account)
    → rate_of (if◌then◌else◌ {A = Account} b (cut s a) a) ≡ rate_of a
rate_same true s a = refl
rate_same false s a = refl

guarantee_same : (b : Bool) (s : Reservations) (a : Account)
    → (if◌then◌else◌ {A = Account} b (cut s a) a).guarantee ≡ a.guarantee
guarantee_same true s a = refl
guarantee_same false s a = refl

-- nothing is cut where the rate does not fall
not_cut : (s : Reservations) (run : Run) (used : ℕ) (remains : Bool) (a : Account)
    → rate_of a ≤ rate_of (ended s run used remains a)
    → (ended s run used remains a).owed ≡ (settled_account s run used remains a).owed
not_cut s run used remains a h =
    let now = settled_account s run used remains a in
    let less : rate_of a ≤ rate_of now =
    omega (arith, h, rate_same (nat_lt (rate_of now) (rate_of a)) s now) in
    ap (λ (b : Bool). (if◌then◌else◌ {A = Account} b (cut s now) now).owed)
    (le-ltb (rate_of now) (rate_of a) less)

kept_ended : (s : Reservations) (p used : ℕ) (remains : Bool) (run : Run) (i : ℕ)
    → slice_get s.processors p ≡ Some (Some run) → run.leaf < length s.accounts
    → run.age ≤ s.quantum
    → (i ≡ run.leaf → (account_at s run.leaf).owed ≤ most_of s (account_at s run.leaf))
    → rate_of (account_at s i)
    ≤ rate_of (account_at (state_ended s p used remains (Some (Some run))) i)
    → IsKept s (state_ended s p used remains (Some (Some run))) i 0 0
kept_ended s p used remains run i is known short below wants =
    let now = ended s run used remains (account_at s run.leaf) in
    let backs = sum_set (of_run i (back_of (quantum_of s))) s.processors p (Some run) None is in
    elim (account_set s.accounts run.leaf i now known) [
      | inl h ↦
          let from : account_at s i ≡ account_at s run.leaf = ap (account_at s) h.0 in
          let rates : rate_of (account_at s run.leaf) ≤ rate_of now =
          omega (
            arith,
            wants,
            ap (λ (x : Account). rate_of x) h.1,
            ap (λ (x : Account). rate_of x) from,
          ) in
          record {
            quantum = refl;
            credit = refl;
            accounts = length_set s.accounts run.leaf now;
            guarantee = ap (λ (x : Account). x.guarantee) h.1
                ∙ (guarantee_same
                (nat_lt (rate_of (settled_account s run used remains (account_at s run.leaf)))
                (rate_of (account_at s run.leaf))) s
                (settled_account s run used remains (account_at s run.leaf))
                ∙ ap (λ (x : Account). x.guarantee) (sym from));
            owed = omega (
              arith,
              backs,
              short,
              below h.0,
              either_same run.leaf i (back_of (quantum_of s) run) h.0,
              not_cut s run used remains (account_at s run.leaf) rates,
              ap (λ (x : Account). x.owed) h.1,
              ap (λ (x : Account). x.owed) from,
            );
          }
      | inr h ↦ record {
        quantum = refl;
        credit = refl;
        accounts = length_set s.accounts run.leaf now;
        guarantee = ap (λ (x : Account). x.guarantee) h.1;
        owed = omega (
          arith,
          backs,
          either_other run.leaf i (back_of (quantum_of s) run) h.0,
          ap (λ (x : Account). x.owed) h.1,
        );
      }
    ]

-- ---- a task that leaves

abbrev left_account : Reservations → Account → Account
left_account s a = record (capped (terms_of s) a) {
  share = record a.share { waiting = a.share.waiting - 1 };
}

none_left : (s : Reservations) (a : Account) → rate_of a ≤ rate_of (left s a)
    → (left s a).owed ≡ (left_account s a).owed
none_left s a h =
    let now = left_account s a in
    let less : rate_of a ≤ rate_of now =
    omega (arith, h, rate_same (nat_lt (rate_of now) (rate_of a)) s now) in
    ap (λ (b : Bool). (if◌then◌else◌ {A = Account} b (cut s now) now).owed)
    (le-ltb (rate_of now) (rate_of a) less)

kept_left : (s : Reservations) (i j : ℕ) → j < length s.accounts
    → (i ≡ j → (account_at s j).owed ≤ most_of s (account_at s j))
    → rate_of (account_at s i)
    ≤ rate_of (account_at (with_account s j (left s (account_at s j))) i)
    → IsKept s (with_account s j (left s (account_at s j))) i 0 0
kept_left s i j known below wants =
    one_set s i j (left s (account_at s j)) known
    (λ same. (let rates : rate_of (account_at s j) ≤ rate_of (left s (account_at s j)) =
    elim (account_set s.accounts j i (left s (account_at s j)) known) [
      | inl h ↦ omega (
        arith,
        wants,
        ap (λ (x : Account). rate_of x) h.1,
        ap (λ (x : ℕ). rate_of (account_at s x)) same,
      )
      | inr h ↦ absurd (h.0 same)
    ] in
    let kept = none_left s (account_at s j) rates in (
      guarantee_same
          (nat_lt (rate_of (left_account s (account_at s j))) (rate_of (account_at s j))) s
          (left_account s (account_at s j)),
      omega (arith, kept, below same),
    )))

-- ---- all events

-- the nanoseconds that pass at an event
abbrev pub time_at : Step → ℕ
time_at (Pass t) = t
time_at _ = 0

-- an event in which nothing is owed and nothing held
still : (s t : Reservations) (i m : ℕ) → IsKept s t i 0 0 → IsKept s t i (m * 0) 0
still s t i m k = record {
  quantum = k.quantum;
  credit = k.credit;
  accounts = k.accounts;
  guarantee = k.guarantee;
  owed = omega (arith, k.owed);
}

pub kept_after : (s : Reservations) (e : Step) (i k : ℕ) → i < length s.accounts → Allows s e
    → IsFair s e → WantsAt k i s e → IsKept s (after s e) i
    (min (k * WHOLE) (account_at s i).guarantee * time_at e) (held_at i s e)
kept_after s e i k known = by e where
  m : ℕ
  m = min (k * WHOLE) (account_at s i).guarantee

  by : (e : Step) → Allows s e → IsFair s e → WantsAt k i s e
      → IsKept s (after s e) i (m * time_at e) (held_at i s e)
  by (Pass t) may fair wants = kept_passed s t i k known wants.0 wants.1
  by (Wake j tasks) may fair wants =
      still s (after s (Wake j tasks)) i m
      (one_set s i j (woken s tasks (account_at s j)) may
      (λ same. (refl, omega (arith, fair))))
  by (Pick p j) may fair wants =
      still s (after s (Pick p j)) i m (kept_picked s p i j may (λ same. fair.2))
  by (End p used remains) may fair wants =
      subst (λ (q : Option (Option Run)).
      rate_of (account_at s i) ≤ rate_of (account_at (state_ended s p used remains q) i)
      → IsKept s (state_ended s p used remains q) i (m * 0) 0) (sym may.runs)
      (λ rates. still s (state_ended s p used remains (Some (Some may.run))) i m
      (kept_ended s p used remains may.run i may.runs may.known
      (run_at s.quantum s.processors p may.run fair.0 may.runs)
      (λ same. subst (IsWholeAt s) may.runs fair.1) rates)) wants
  by Level may fair wants = record {
    quantum = refl;
    credit = refl;
    accounts = refl;
    guarantee = refl;
    owed = omega arith;
  }
  by (Give j amount guarantee) may fair wants =
      still s (after s (Give j amount guarantee)) i m
      (one_set s i j (given s amount guarantee (account_at s j)) may.0
      (λ same. (fair.0, (let whole = fair.1 in omega (arith, whole)))))
  by (Leave j) may fair wants =
      still s (after s (Leave j)) i m (kept_left s i j may.0 (λ same. fair) wants)
  by (Cut j) may fair wants =
      still s (after s (Cut j)) i m
      (one_set s i j (cut s (account_at s j)) may
      (λ same. absurd (wants (sym same))))
  by (Stop j stops) may fair wants =
      still s (after s (Stop j stops)) i m
      (one_set s i j (stopped s stops (account_at s j)) may
      (λ same. absurd (wants (sym same))))
  by Refill may fair wants = record {
    quantum = refl;
    credit = refl;
    accounts = refl;
    guarantee = refl;
    owed = omega arith;
  }
