-- The backlog of a run: what its runs may still take and what its leaves may still ask for by each
-- time to come is bounded by what the processors can do until then.
use Rattle.std.proofs.Common.{◌≡◌, ◌≢◌, ℕ, zero, suc, ◌+◌, ◌-◌, ◌*◌, ◌<◌, ◌≤◌, ◌==◌, ◌⊎◌, inl, inr}
use Rattle.std.proofs.Common.{List, [], ◌∷◌, length, Bool, true, false, Option, None, Some, nat_lt}
use Rattle.std.proofs.Common.{slice_get, slice_set, get_or, map, min, max, refl, ap, sym, subst}
use Rattle.std.proofs.Common.{◌∙◌, arith, if◌then◌else◌, ◌||◌}
use Rattle.std.specs.List.{sum_by, AllByRecursion}
use Rattle.std.proofs.Math.Nat.{mul-le-mul_right}
use Rattle.std.proofs.lemmas.List.{get_or-set_same, get_or-set_other}
use Rattle.std.proofs.lemmas.List.Sums.{sum_by-cons}
use Rattle.std.proofs.lemmas.Option.{slice_get-get_or}
use Rattle.std.proofs.lemmas.Bool.{eqb-false, eqb-true, ltb-true, ltb-false}
use Rattle.dispatch.specs.declared.reservation.Account.{Account}
use Rattle.dispatch.specs.declared.reservation.Run.{Run}
use Rattle.dispatch.specs.Reservation.{Reservations, WHOLE, account_at, no_account, quantum_of}
use Rattle.dispatch.specs.Reservation.{tasks_of, rate_of, credit_of, passed, aged, with_account}
use Rattle.dispatch.specs.Windows.{over_runs, RunsWithin, IsBusy}
use Rattle.dispatch.proofs.Counts.{length_set}
use Rattle.dispatch.proofs.Demands.{demand, demand_less}
use Rattle.dispatch.proofs.Totals.{sum_set}

-- part of its quantum that a run may still take
abbrev pub rest : ℕ → Option Run → ℕ
rest q None = 0
rest q (Some run) = q - WHOLE * run.age

abbrev pub busy : Option Run → ℕ
busy None = 0
busy (Some run) = 1

-- amount that a leaf may still ask for within its credit and e nanoseconds
abbrev pub demand_by : ℕ → ℕ → ℕ → Account → ℕ
demand_by q c e a =
    demand a.guarantee q (a.guarantee * c) a.owed (a.share.running * q) (a.guarantee * e)

abbrev pub one : Run → ℕ
one run = 1

-- each state of a run
pub record Backlog (processors lost : ℕ) (t : Reservations) : Type 0 where
  pub processors_are : length t.processors ≡ processors
  pub slack : t.slack ≤ t.credit
  pub guarantees : sum_by (λ a. a.guarantee) t.accounts ≤ WHOLE * processors
  pub total : sum_by (λ a. a.share.running) t.accounts ≡ sum_by busy t.processors
  pub runs : (k : ℕ) → k < length t.accounts
      → over_runs k one t.processors ≡ (account_at t k).share.running
  pub room : (e : ℕ) → sum_by (rest (quantum_of t)) t.processors
      + sum_by (demand_by (quantum_of t) t.credit e) t.accounts + quantum_of t
      ≤ WHOLE * processors * e + 2 * processors * quantum_of t + WHOLE * lost

-- ---- items of a list

pub by_order : (P : Type 0) (a b : ℕ) → (a < b → P) → (b ≤ a → P) → P
by_order P a b less more = by_test (nat_lt a b) refl where
  by_test : (c : Bool) → nat_lt a b ≡ c → P
  by_test true is = less (ltb-true a b is)
  by_test false is = more (ltb-false a b is)

-- the leaf at k after one at i was set
pub account_set : (xs : List Account) (i k : ℕ) (a : Account) → i < length xs
    → ((k ≡ i) × (get_or (slice_set xs i a) k no_account ≡ a))
    ⊎ ((k ≢ i) × (get_or (slice_set xs i a) k no_account ≡ get_or xs k no_account))
account_set xs i k a known = by_test (k == i) refl where
  by_test : (b : Bool) → (k == i) ≡ b
      → ((k ≡ i) × (get_or (slice_set xs i a) k no_account ≡ a))
      ⊎ ((k ≢ i) × (get_or (slice_set xs i a) k no_account ≡ get_or xs k no_account))
  by_test true is =
      let e : k ≡ i = eqb-true k i is in
      inl (
        e,
        subst (λ (y : ℕ). get_or (slice_set xs i a) y no_account ≡ a) (sym e)
            (get_or-set_same xs i a no_account known),
      )
  by_test false is =
      let ne : k ≢ i = eqb-false k i is in
      inr (ne, get_or-set_other xs i k a no_account ne)

-- ---- processors

pub rest_at_most : (q : ℕ) (ps : List (Option Run)) → sum_by (rest q) ps ≤ length ps * q
rest_at_most q [] = omega arith
rest_at_most q (None ∷ ps) = omega (arith, rest_at_most q ps, sum_by-cons (rest q) None ps)
rest_at_most q (Some run ∷ ps) =
    omega (arith, rest_at_most q ps, sum_by-cons (rest q) (Some run) ps)

busy_at_most : (ps : List (Option Run)) → sum_by busy ps ≤ length ps
busy_at_most [] = omega arith
busy_at_most (None ∷ ps) = omega (arith, busy_at_most ps, sum_by-cons busy None ps)
busy_at_most (Some run ∷ ps) = omega (arith, busy_at_most ps, sum_by-cons busy (Some run) ps)

pub free_one : (ps : List (Option Run)) (p : ℕ) → slice_get ps p ≡ Some None
    → sum_by busy ps < length ps
free_one [] p is = absurd (cc is)
free_one (x ∷ ps) zero is =
    let e : x ≡ None = cc is in
    let free : busy x ≡ 0 = ap busy e in
    omega (arith, free, busy_at_most ps, sum_by-cons busy x ps)
free_one (None ∷ ps) (suc p) is = omega (arith, free_one ps p is, sum_by-cons busy None ps)
free_one (Some run ∷ ps) (suc p) is =
    omega (arith, free_one ps p is, sum_by-cons busy (Some run) ps)

-- time passes, and each processor runs a task
pub aged_busy : (quantum t : ℕ) (ps : List (Option Run)) → AllByRecursion IsBusy ps
    → AllByRecursion (RunsWithin quantum t) ps
    → sum_by (rest (WHOLE * quantum)) (map (aged t) ps) + WHOLE * (t * length ps)
    ≤ sum_by (rest (WHOLE * quantum)) ps
aged_busy quantum t [] all within = omega arith
aged_busy quantum t (None ∷ ps) all within = absurd all.0
aged_busy quantum t (Some run ∷ ps) all within =
    let here : run.age + t ≤ quantum = within.0 in
    omega (
      arith,
      here,
      aged_busy quantum t ps all.1 within.1,
      sum_by-cons (rest (WHOLE * quantum)) (aged t (Some run)) (map (aged t) ps),
      sum_by-cons (rest (WHOLE * quantum)) (Some run) ps,
    )

-- time of no more than a quantum passes
pub aged_some : (quantum t : ℕ) (ps : List (Option Run)) → t ≤ quantum
    → AllByRecursion (RunsWithin quantum t) ps
    → sum_by (rest (WHOLE * quantum)) (map (aged t) ps) + WHOLE * (t * length ps)
    ≤ length ps * (WHOLE * quantum)
aged_some quantum t [] short within = omega arith
aged_some quantum t (None ∷ ps) short within =
    omega (
      arith,
      short,
      aged_some quantum t ps short within.1,
      sum_by-cons (rest (WHOLE * quantum)) (aged t None) (map (aged t) ps),
    )
aged_some quantum t (Some run ∷ ps) short within =
    let here : run.age + t ≤ quantum = within.0 in
    omega (
      arith,
      here,
      aged_some quantum t ps short within.1,
      sum_by-cons (rest (WHOLE * quantum)) (aged t (Some run)) (map (aged t) ps),
    )

-- no processor runs a task, or the time is of no more than a quantum
pub short_or_idle : (quantum t : ℕ) (ps : List (Option Run))
    → AllByRecursion (RunsWithin quantum t) ps
    → ((sum_by busy ps ≡ 0) × (sum_by (rest (WHOLE * quantum)) (map (aged t) ps) ≡ 0))
    ⊎ (t ≤ quantum)
short_or_idle quantum t [] within = inl (refl, refl)
short_or_idle quantum t (Some run ∷ ps) within =
    let here : run.age + t ≤ quantum = within.0 in
    inr (omega (arith, here))
short_or_idle quantum t (None ∷ ps) within = more (short_or_idle quantum t ps within.1) where
  more : ((sum_by busy ps ≡ 0) × (sum_by (rest (WHOLE * quantum)) (map (aged t) ps) ≡ 0))
      ⊎ (t ≤ quantum)
      → ((sum_by busy (None ∷ ps) ≡ 0)
      × (sum_by (rest (WHOLE * quantum)) (map (aged t) (None ∷ ps)) ≡ 0)) ⊎ (t ≤ quantum)
  more (inr short) = inr short
  more (inl h) = inl (
    omega (arith, h.0, sum_by-cons busy None ps),
    omega (arith, h.1, sum_by-cons (rest (WHOLE * quantum)) (aged t None) (map (aged t) ps)),
  )

-- ---- leaves

-- a fact that is given as x or as y
either_at_most : (b : Bool) (x y z : ℕ) → x ≤ z → y ≤ z → (if◌then◌else◌ {A = ℕ} b x y) ≤ z
either_at_most true x y z one two = one
either_at_most false x y z one two = two

-- a leaf is owed no more for time that passes than its guarantee
pub passed_at_most : (s : Reservations) (t : ℕ) (a : Account)
    → (passed s t a).owed ≤ a.owed + a.guarantee * t
passed_at_most s t a =
    let rate : rate_of a * t ≤ a.guarantee * t =
    mul-le-mul_right t (let less : rate_of a ≤ a.guarantee = omega arith in less) in
    either_at_most (tasks_of a == 0 || a.is_stopped)
    (max a.owed (min (a.owed + a.guarantee * t) (credit_of s a))) (a.owed + rate_of a * t)
    (a.owed + a.guarantee * t) (omega arith) (omega (arith, rate))

-- a leaf with no task, or one that a limit stops, is owed no more than its credit
pub passed_idle : (s : Reservations) (t : ℕ) (a : Account)
    → (tasks_of a == 0 || a.is_stopped) ≡ true → a.owed ≤ credit_of s a
    → (passed s t a).owed ≤ credit_of s a
passed_idle s t a none less =
    subst (λ (b : Bool). (if◌then◌else◌ {A = ℕ} b
    (max a.owed (min (a.owed + a.guarantee * t) (credit_of s a))) (a.owed + rate_of a * t))
    ≤ credit_of s a) (sym none) (omega (arith, less))

lower_demand : (g h q c e owed owed' r r' : ℕ) → h ≡ g → r' ≡ r → owed' ≤ owed
    → demand h q (h * c) owed' (r' * q) (h * e) ≤ demand g q (g * c) owed (r * q) (g * e)
lower_demand g h q c e owed owed' r r' same_g same_r less =
    subst (λ (x : ℕ). demand x q (x * c) owed' (r' * q) (x * e)
    ≤ demand g q (g * c) owed (r * q) (g * e)) (sym same_g)
    (subst (λ (x : ℕ). demand g q (g * c) owed' (x * q) (g * e)
    ≤ demand g q (g * c) owed (r * q) (g * e)) (sym same_r)
    (demand_less g q (g * c) owed (r * q) (g * e) owed' (g * e) (omega (arith, less))))

-- ---- events

pub known_at : (s : Reservations) (i : ℕ) → i < length s.accounts
    → slice_get s.accounts i ≡ Some (account_at s i)
known_at s i known = slice_get-get_or s.accounts i no_account known

-- the runs of a leaf, where the leaf at i is another with as many
runs_kept : (n w : ℕ) (s : Reservations) (i : ℕ) (a : Account) → Backlog n w s
    → i < length s.accounts → a.share.running ≡ (account_at s i).share.running → (k : ℕ)
    → k < length (slice_set s.accounts i a) → over_runs k one s.processors
    ≡ (get_or (slice_set s.accounts i a) k no_account).share.running
runs_kept n w s i a b known same k inside = elim (account_set s.accounts i k a known) [
  | inl h ↦
      let before : over_runs k one s.processors ≡ (account_at s k).share.running =
      b.runs k (omega (arith, inside, length_set s.accounts i a)) in
      let moved : (account_at s k).share.running ≡ (account_at s i).share.running =
      ap (λ (x : ℕ). (account_at s x).share.running) h.0 in
      let now : (get_or (slice_set s.accounts i a) k no_account).share.running
      ≡ a.share.running =
      ap (λ (x : Account). x.share.running) h.1 in
      omega (arith, before, moved, now, same)
  | inr h ↦
      b.runs k (omega (arith, inside, length_set s.accounts i a))
      ∙ ap (λ (x : Account). x.share.running) (sym h.1)
]

-- a leaf is owed less
pub lowered : (n w : ℕ) (s : Reservations) (i : ℕ) (a : Account) → Backlog n w s
    → i < length s.accounts → a.guarantee ≡ (account_at s i).guarantee
    → a.share.running ≡ (account_at s i).share.running → a.owed ≤ (account_at s i).owed
    → Backlog n w (with_account s i a)
lowered n w s i a b known same_g same_r less = record {
  processors_are = b.processors_are;
  slack = b.slack;
  guarantees = omega (
    arith,
    b.guarantees,
    same_g,
    sum_set (λ x. x.guarantee) s.accounts i (account_at s i) a (known_at s i known),
  );
  total = omega (
    arith,
    b.total,
    same_r,
    sum_set (λ x. x.share.running) s.accounts i (account_at s i) a (known_at s i known),
  );
  runs = runs_kept n w s i a b known same_r;
  room = λ e. omega (
    arith,
    b.room e,
    sum_set (demand_by (quantum_of s) s.credit e) s.accounts i (account_at s i) a
        (known_at s i known),
    lower_demand (account_at s i).guarantee a.guarantee (quantum_of s) s.credit e
        (account_at s i).owed a.owed (account_at s i).share.running a.share.running same_g same_r
        less,
  );
}
