-- What a worker's draw of one slice does to the run.
use Rattle.std.proofs.Common.{◌≡◌, ℕ, suc, ◌+◌, ◌-◌, ◌*◌, ◌<◌, ◌≤◌, ◌⊎◌, ◌||◌, inl, inr, min, List}
use Rattle.std.proofs.Common.{length, Bool, true, false, cond, None, Some, get_or, set}
use Rattle.std.proofs.Common.{refl, sym, ap, ◌∙◌, subst, arith, eqb, length-set, get_or-set_same}
use Rattle.std.proofs.Common.{get_or-set_other}
use Rattle.std.proofs.lemmas.Bool.{lt-ltb}
use Rattle.std.proofs.lemmas.Bool.Decides.{eqb_tells}
use Rattle.std.proofs.Math.Nat.{mul-le-mul_right}
use Rattle.bw_model.specs.declared.row.Row.{Row}
use Rattle.bw_model.specs.Groups.{parent_of, is_leaf, path_up, sum_of_children}
use Rattle.bw_pool.specs.declared.calls.PoolCall.TheVariants.{Draw}
use Rattle.bw_pool.specs.Pool.{least, raised, got_of, refusal, state_after, unless_refused, after}
use Rattle.bw_pool.specs.Drained.{Worker, among, drawn_one, IsPlanned}
use Rattle.bw_model.proofs.CallerLemmas.{reach_parent, path_up-way_up}
use Rattle.bw_pool.proofs.Trees.{raised_balanced, length-raised, raised_root, raised_leaf}
use Rattle.bw_pool.proofs.Trees.{raised_own, least_rising, raised_within, is_some_at, by_path}
use Rattle.bw_pool.proofs.Lists.{raised_ge, sum-set, put, put_all, owed_put, owes_one}
use Rattle.bw_pool.proofs.Holdings.{place_differs}
use Rattle.bw_pool.proofs.Workers.{pool, IsWorkerOf, IsRun, left_rises}

module _ (uses : ℕ → Bool) (P S : ℕ) (ps : List Row) (amounts drawn by held : List ℕ) (p l : ℕ)
    (ltp : p < P) (ltl : l < length ps)
    (leaf : is_leaf ps l ≡ true) where
  pub draw_not_refused : refusal (pool P S ps amounts drawn by held) p (Draw l 1) ≡ None
  draw_not_refused = rw (lt-ltb p P ltp, lt-ltb l (length ps) ltl, leaf) refl

  pub draw_state : (n : ℕ) → got_of (pool P S ps amounts drawn by held) p l 1 ≡ n
      → after (pool P S ps amounts drawn by held) p (Draw l 1)
      ≡ pool P S ps amounts (raised (path_up ps l) n drawn) (set by p (get_or by p 0 + n))
      (set held (p * length ps + l) (get_or held (p * length ps + l) 0 + n))
  draw_state n is =
      ap (λ r. unless_refused r (state_after (pool P S ps amounts drawn by held) p (Draw l 1))
      (pool P S ps amounts drawn by held)) draw_not_refused
      ∙ ap (λ m. pool P S ps amounts (raised (path_up ps l) m drawn) (set by p (get_or by p 0 + m))
      (set held (p * length ps + l) (get_or held (p * length ps + l) 0 + m))) is

  -- what is got is decided by the leaf and the processor
  pub got_is : (k : ℕ → Worker) → IsPlanned P S ps amounts
      → IsRun uses P S ps amounts drawn by held k
      → got_of (pool P S ps amounts drawn by held) p l 1
      ≡ min (min 1 (S - get_or by p 0)) (get_or amounts l 0 - get_or drawn l 0)
  got_is k plan run =
      let f : ℕ → ℕ = λ g. get_or amounts g 0 - get_or drawn g 0 in
      let rises = left_rises ps plan.tree drawn amounts run.rows plan.one_each run.within run.inner
      plan.inner in
      let up = reach_parent ps plan.tree l in
      by_path (λ gs. least f gs (min 1 (S - get_or by p 0)) ≡ min (min 1 (S - get_or by p 0)) (f l))
      ps l
      (least_rising ps plan.tree f rises l (parent_of ps l) (min (min 1 (S - get_or by p 0)) (f l))
      (omega arith) (λ g is. omega (arith, rises l g ltl is)))

  -- a draw that got nothing
  pub draw_none_keeps : (k : ℕ → Worker) → (k p).owes ≡ None
      → IsRun uses P S ps amounts drawn by held k
      → (get_or drawn l 0 ≡ get_or amounts l 0) ⊎ (get_or by p 0 ≡ S)
      → IsRun uses P S ps amounts drawn by held (put k p (drawn_one (k p) l (uses l) false))
  draw_none_keeps k free run why =
      let w = k p in
      let w' = drawn_one w l (uses l) false in
      let mine = run.workers p ltp in
      record {
        rows = run.rows;
        processors = run.processors;
        places = run.places;
        within = run.within;
        inner = run.inner;
        total = run.total;
        unused = λ l' lt lf un. omega (arith, run.unused l' lt lf un, owed_put k p w' l' P ltp);
        workers = put_all (λ q v. q < P → IsWorkerOf uses S ps amounts drawn by held q v) k p w'
            (λ lt. record {
              kept = mine.kept;
              cap = mine.cap;
              owed = mine.owed;
              short = λ l' lt' lf isused is. elim (eqb_tells l l') [
                | inl e ↦ elim why [
                  | inl full ↦ inl (ap (λ i. get_or drawn i 0) (sym e.1)
                      ∙ (full ∙ ap (λ i. get_or amounts i 0) e.1))
                  | inr spent ↦ inr (free, sym mine.kept ∙ spent)
                ]
                | inr e ↦ mine.short l' lt' lf isused
                    (subst (λ (b : Bool). (b || among l' w.short) ≡ true) e.0 is)
              ];
              returned = mine.returned;
            })
            (λ q ne lt. run.workers q lt);
      }

  owed_if : (u : Bool) (l' : ℕ) → cond u None (Some l) ≡ Some l' → (u ≡ false) × (l ≡ l')
  owed_if true l' is = absurd (cc is)
  owed_if false l' is = (refl, cc is)

  owes_other : (u : Bool) (l' : ℕ) → eqb l l' ≡ false
      → cond {A = ℕ} (is_some_at l' (cond u None (Some l))) 1 0 ≡ 0
  owes_other true l' e = refl
  owes_other false l' e = ap (λ (b : Bool). cond {A = ℕ} b 1 0) e

  owes_own : (u : Bool) (l' : ℕ) → eqb l l' ≡ true → u ≡ false
      → cond {A = ℕ} (is_some_at l' (cond u None (Some l))) 1 0 ≡ 1
  owes_own true l' e un = absurd (cc un)
  owes_own false l' e un = ap (λ (b : Bool). cond {A = ℕ} b 1 0) e

  pub place_within : (k : ℕ → Worker) → IsRun uses P S ps amounts drawn by held k
      → p * length ps + l < length held
  place_within k run =
      let m = mul-le-mul_right {m = suc p} {n = P} (length ps) ltp in
      let s : suc p * length ps ≡ p * length ps + length ps = grind arith in
      omega (arith, run.places)

  -- a draw that got one slice
  pub draw_one_keeps : (k : ℕ → Worker) → (k p).owes ≡ None → IsPlanned P S ps amounts
      → IsRun uses P S ps amounts drawn by held k
      → (b : ℕ) → 1 ≤ least (λ g. get_or amounts g 0 - get_or drawn g 0) (path_up ps l) b
      → 1 ≤ S - get_or by p 0
      → IsRun uses P S ps amounts (raised (path_up ps l) 1 drawn) (set by p (get_or by p 0 + 1))
      (set held (p * length ps + l) (get_or held (p * length ps + l) 0 + 1))
      (put k p (drawn_one (k p) l (uses l) true))
  draw_one_keeps k free plan run b fits room =
      let w = k p in
      let w' = drawn_one w l (uses l) true in
      let mine = run.workers p ltp in
      let drawn' = raised (path_up ps l) 1 drawn in
      let by' = set by p (get_or by p 0 + 1) in
      let at = p * length ps + l in
      let held' = set held at (get_or held at 0 + 1) in
      let up = reach_parent ps plan.tree l in
      let within' =
      by_path (λ gs. (g : ℕ) → get_or (raised gs 1 drawn) g 0 ≤ get_or amounts g 0) ps l
      (raised_within ps 1 plan.tree drawn amounts (suc l) (Some l) b drawn (omega arith) run.rows
      (subst (λ gs. 1 ≤ least (λ g. get_or amounts g 0 - get_or drawn g 0) gs b)
      (path_up-way_up ps l) fits) (λ g lt. refl) run.within) in
      let in_by : p < length by = omega (arith, run.processors) in
      let at_in : at < length held = place_within k run in
      let owes_zero : owes_one l w ≡ 0 = ap (λ o. cond {A = ℕ} (is_some_at l o) 1 0) free in
      record {
        rows = length-raised (path_up ps l) 1 drawn ∙ run.rows;
        processors = length-set by p (get_or by p 0 + 1) ∙ run.processors;
        places = length-set held at (get_or held at 0 + 1) ∙ run.places;
        within = within';
        inner = by_path (λ gs. (h : ℕ) → h < length ps → is_leaf ps h ≡ false
            → sum_of_children ps (raised gs 1 drawn) h ≡ get_or (raised gs 1 drawn) h 0) ps l
            (raised_balanced ps 1 plan.tree (suc l) (Some l) drawn (omega arith) (omega arith)
            run.rows
            (λ h lt inner. run.inner h lt inner
            ∙ sym (elim (eqb_tells l h) as
            (λ _. get_or drawn h 0 + cond (eqb l h) 1 0 ≡ get_or drawn h 0) [
              | inl e ↦ let not_leaf : is_leaf ps l ≡ false = ap (is_leaf ps) e.1 ∙ inner in
                  absurd (cc (not_leaf, leaf))
              | inr e ↦ let c : cond (eqb l h) 1 0
                  ≡ 0 = ap (λ (v : Bool). cond {A = ℕ} v 1 0) e.0 in omega arith
            ])));
        total = omega (
          arith,
          sum-set by p (get_or by p 0 + 1) in_by,
          by_path (λ gs. get_or (raised gs 1 drawn) 0 0 ≡ get_or drawn 0 0 + 1) ps l
              (raised_root ps 1 plan.tree (suc l) l drawn (omega arith) ltl run.rows),
          run.total,
        );
        unused = λ l' lt lf un.
            let none : owes_one l' w ≡ 0 = ap (λ o. cond {A = ℕ} (is_some_at l' o) 1 0) free in
            let counts = owed_put k p w' l' P ltp in
            let was = run.unused l' lt lf un in
            elim (eqb_tells l l') [
              | inl e ↦
                  let d : get_or drawn' l' 0 ≡ get_or drawn l' 0 + 1 =
                  subst (λ i. get_or drawn' i 0 ≡ get_or drawn i 0 + 1) e.1
                  (raised_own ps 1 plan.tree l drawn leaf ltl run.rows) in
                  let one : owes_one l' w' ≡ 1 = owes_own (uses l) l' e.0 (ap uses e.1 ∙ un) in
                  omega arith
              | inr e ↦
                  let d : get_or drawn' l' 0 ≡ get_or drawn l' 0 =
                  by_path (λ gs. get_or (raised gs 1 drawn) l' 0 ≡ get_or drawn l' 0) ps l
                  (raised_leaf ps 1 plan.tree l' lf (suc l) (Some l) drawn (omega arith)
                  (λ s. e.1 (cc s))) in
                  let zero' : owes_one l' w' ≡ 0 = owes_other (uses l) l' e.0 in
                  omega arith
            ];
        workers = put_all (λ q v. q < P → IsWorkerOf uses S ps amounts drawn' by' held' q v) k p w'
            (λ lt. record {
              kept = get_or-set_same by p (get_or by p 0 + 1) 0 in_by ∙ ap (λ n. n + 1) mine.kept;
              cap = omega (arith, mine.kept);
              owed = λ l' is.
                  let o = owed_if (uses l) l' is in
                  let T : ℕ → Type 0 = λ i. (1 ≤ w.kept + 1)
                  × (1 ≤ get_or held' (p * length ps + i) 0) × (i < length ps)
                  × (is_leaf ps i ≡ true)
                  × (uses i ≡ false) in
                  subst T o.1 (
                    omega arith,
                    omega (arith, get_or-set_same held at (get_or held at 0 + 1) 0 at_in),
                    ltl,
                    leaf,
                    o.0,
                  );
              short = λ l' lt' lf isused is. elim (mine.short l' lt' lf isused is) [
                | inl full ↦ inl (omega (arith, raised_ge (path_up ps l) 1 drawn l', within' l'))
                | inr spent ↦ absurd (omega (arith, mine.kept, spent.1))
              ];
              returned = mine.returned;
            })
            (λ q ne lt.
            let theirs = run.workers q lt in
            record {
              kept = get_or-set_other by p q (get_or by p 0 + 1) 0 ne ∙ theirs.kept;
              cap = theirs.cap;
              owed = λ l' is.
                  let o = theirs.owed l' is in
                  let same = get_or-set_other held at (q * length ps + l') (get_or held at 0 + 1) 0
                  (place_differs p q (length ps) l l' ne ltl o.2) in
                  (o.0, omega (arith, o.1), o.2, o.3, o.4);
              short = λ l' lt' lf isused is. elim (theirs.short l' lt' lf isused is) [
                | inl full ↦ inl (omega (arith, raised_ge (path_up ps l) 1 drawn l', within' l'))
                | inr spent ↦ inr spent
              ];
              returned = theirs.returned;
            });
      }
