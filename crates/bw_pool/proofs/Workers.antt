-- Drained workers leave the plan's amounts, in every schedule.
use Rattle.std.proofs.Common.{◌≡◌, ℕ, zero, suc, ◌+◌, ◌-◌, ◌*◌, ◌<◌, ◌≤◌, ◌⊎◌, inl, inr, List}
use Rattle.std.proofs.Common.{length, sum, replicate, Bool, true, false, None, Some, get_or}
use Rattle.std.proofs.Common.{refl, sym, ap, ◌∙◌, arith}
use Rattle.std.proofs.lemmas.Bool.{cases_lt}
use Rattle.bw_model.specs.declared.row.Row.{Row}
use Rattle.bw_model.specs.Groups.{AreTreeRows, is_leaf, sum_of_children}
use Rattle.bw_pool.specs.Pool.{PoolState}
use Rattle.bw_pool.specs.Drained.{Worker, fresh, among, IsAtEnd, IsPlanned, IsDrawnOut}
use Rattle.bw_model.proofs.CallerLemmas.{sum_of_children-left, parent_not_leaf, zeros, sum_zeros}
use Rattle.bw_pool.proofs.Trees.{Rising, parent_below}
use Rattle.bw_pool.proofs.Lists.{sum_of_children-zeros, sum_equal, owed_count, owed_none}

-- the pool in the run: the plan's tree and amounts, and what changes
abbrev pub pool : ℕ → ℕ → List Row → List ℕ → List ℕ → List ℕ → List ℕ → PoolState
pool P S ps amounts drawn by held = record {
  processors = P;
  per_processor = S;
  rows = ps;
  drawn = drawn;
  ceiling = amounts;
  by_processor = by;
  held = held;
}

-- what worker p has of the pool
pub record IsWorkerOf (uses : ℕ → Bool) (S : ℕ) (ps : List Row) (amounts drawn by held : List ℕ)
    (p : ℕ) (w : Worker) : Type 0 where
  pub kept : get_or by p 0 ≡ w.kept
  pub cap : w.kept ≤ S
  pub owed : (l : ℕ) → w.owes ≡ Some l → (1 ≤ w.kept) × (1 ≤ get_or held (p * length ps + l) 0)
      × (l < length ps) × (is_leaf ps l ≡ true) × (uses l ≡ false)
  pub short : (l : ℕ) → l < length ps → is_leaf ps l ≡ true → uses l ≡ true → among l w.short ≡ true
      → (get_or drawn l 0 ≡ get_or amounts l 0)
      ⊎ ((w.owes ≡ None) × (w.kept ≡ S))
  pub returned : (l : ℕ) → among l w.returned ≡ true → uses l ≡ false

pub record IsRun (uses : ℕ → Bool) (P S : ℕ) (ps : List Row) (amounts drawn by held : List ℕ)
    (k : ℕ → Worker) : Type 0 where
  pub rows : length drawn ≡ length ps
  pub processors : length by ≡ P
  pub places : length held ≡ P * length ps
  pub within : (g : ℕ) → get_or drawn g 0 ≤ get_or amounts g 0
  pub inner : (g : ℕ) → g < length ps → is_leaf ps g ≡ false
      → sum_of_children ps drawn g ≡ get_or drawn g 0
  pub total : sum by ≡ get_or drawn 0 0
  pub unused : (l : ℕ) → l < length ps → is_leaf ps l ≡ true → uses l ≡ false
      → get_or drawn l 0 ≡ owed_count k l P
  pub workers : (p : ℕ) → p < P → IsWorkerOf uses S ps amounts drawn by held p (k p)

-- what is left rises on the way up
pub left_rises : (ps : List Row) (t : AreTreeRows ps) (xs ys : List ℕ) → length xs ≡ length ps
    → length ys ≡ length ps
    → ((g : ℕ) → get_or xs g 0 ≤ get_or ys g 0)
    → ((g : ℕ) → g < length ps → is_leaf ps g ≡ false → sum_of_children ps xs g ≡ get_or xs g 0)
    → ((g : ℕ) → g < length ps → is_leaf ps g ≡ false → sum_of_children ps ys g ≡ get_or ys g 0)
    → Rising ps (λ g. get_or ys g 0 - get_or xs g 0)
left_rises ps t xs ys lx ly le bx by g p lt is =
    let below = parent_below ps t g p lt is in
    let inner = parent_not_leaf ps p g lt is in
    omega (arith, sum_of_children-left ps xs ys p g le is, bx p below inner, by p below inner)

rises_to_root : (ps : List Row) (t : AreTreeRows ps) (f : ℕ → ℕ) → Rising ps f → (k g : ℕ) → g ≤ k
    → g < length ps → f g ≤ f 0
rises_to_root ps t f rises k zero fuel lt = omega arith
rises_to_root ps t f rises zero (suc g) fuel lt = absurd (omega arith)
rises_to_root ps t f rises (suc k) (suc g) fuel lt =
    let q = t.parent_before (suc g) (omega arith) lt in
    omega (
      arith,
      rises (suc g) q.0 lt q.1,
      rises_to_root ps t f rises k q.0 (omega (arith, q.2)) (omega (arith, q.2)),
    )

-- the start
pub run_starts : (uses : ℕ → Bool) (P S : ℕ) (ps : List Row) (amounts : List ℕ)
    → IsRun uses P S ps amounts (replicate (length ps) 0) (replicate P 0)
    (replicate (P * length ps) 0) (λ p. fresh)
run_starts uses P S ps amounts = record {
  rows = length_zeros (length ps);
  processors = length_zeros P;
  places = length_zeros (P * length ps);
  within = λ g. omega (arith, zeros (length ps) g);
  inner = λ g lt inner. sum_of_children-zeros g ps (length ps) ∙ sym (zeros (length ps) g);
  total = sum_zeros P ∙ sym (zeros (length ps) 0);
  unused = λ l lt leaf un. zeros (length ps) l ∙ sym (owed_none (λ p. fresh) l P (λ p lt. refl));
  workers = λ p lt. record {
    kept = zeros P p;
    cap = omega arith;
    owed = λ l is. absurd (cc is);
    short = λ l lt leaf isused is. absurd (cc is);
    returned = λ l is. absurd (cc is);
  };
} where
  length_zeros : (n : ℕ) → length (replicate {A = ℕ} n 0) ≡ n
  length_zeros zero = refl
  length_zeros (suc n) = omega (arith, length_zeros n)

-- the end
pub run_ends : (uses : ℕ → Bool) (P S : ℕ) (ps : List Row) (amounts drawn by held : List ℕ)
    (k : ℕ → Worker)
    → IsPlanned P S ps amounts → IsRun uses P S ps amounts drawn by held k
    → ((p : ℕ) → p < P → IsAtEnd ps S (k p)) → IsDrawnOut uses ps amounts drawn
run_ends uses P S ps amounts drawn by held k plan run ends = record {
  one_each = run.rows;
  used = λ g lt leaf isused. elim (cases_lt (get_or drawn g 0) (get_or amounts g 0)) [
    | inl less ↦
        let spent = λ (p : ℕ) (ltp : p < P). worker_spent p ltp g lt leaf isused less in
        let all : sum by ≡ length by * S = sum_equal by S
        (λ p ltp. (run.workers p (omega (arith, run.processors))).kept
        ∙ spent p (omega (arith, run.processors))) in
        let whole : get_or drawn 0 0 ≡ P * S =
        sym run.total ∙ (all ∙ ap (λ n. n * S) run.processors) in
        let up = rises_to_root ps plan.tree (λ h. get_or amounts h 0 - get_or drawn h 0)
        (left_rises ps plan.tree drawn amounts run.rows plan.one_each run.within run.inner
        plan.inner) g g (omega arith) lt in
        absurd (omega (arith, plan.root))
    | inr more ↦ omega (arith, run.within g)
  ];
  unused = λ g lt leaf un. run.unused g lt leaf un
      ∙ owed_none k g P (λ p ltp. (ends p ltp).none_owed);
  inner = λ g lt inner. sym (run.inner g lt inner);
} where
  worker_spent : (p : ℕ) → p < P → (g : ℕ) → g < length ps → is_leaf ps g ≡ true → uses g ≡ true
      → get_or drawn g 0 < get_or amounts g 0 → (k p).kept ≡ S
  worker_spent p ltp g lt leaf isused less = elim ((ends p ltp).spent_or_no_leaf) [
    | inl all ↦ all
    | inr no_leaf ↦ elim (no_leaf g lt leaf) [
      | inl s ↦ elim ((run.workers p ltp).short g lt leaf isused s) [
        | inl full ↦ absurd (omega arith)
        | inr w ↦ w.1
      ]
      | inr r ↦ let un = (run.workers p ltp).returned g r in absurd (cc (un, isused))
    ]
  ]
