-- What giving a slice back does to the run.
use Rattle.std.proofs.Common.{◌≡◌, ◌≢◌, ℕ, suc, ◌+◌, ◌-◌, ◌*◌, ◌<◌, ◌≤◌, ◌||◌, inl, inr, List}
use Rattle.std.proofs.Common.{length, Bool, true, false, cond, None, Some, get_or, set, refl}
use Rattle.std.proofs.Common.{sym, ap, ◌∙◌, subst, arith, eqb, leb, length-set, get_or-set_same}
use Rattle.std.proofs.Common.{get_or-set_other}
use Rattle.std.proofs.lemmas.Bool.{lt-ltb, le-leb}
use Rattle.std.proofs.lemmas.Bool.Decides.{eqb_tells}
use Rattle.std.proofs.lemmas.List.Sums.{get_or-le-sum_by}
use Rattle.bw_model.specs.declared.row.Row.{Row}
use Rattle.bw_model.specs.Groups.{is_leaf, path_up, sum_of_children}
use Rattle.bw_pool.specs.declared.calls.PoolCall.TheVariants.{GiveBack}
use Rattle.bw_pool.specs.Pool.{held_by, lowered, gave_back, refusal, state_after, unless_refused}
use Rattle.bw_pool.specs.Pool.{after}
use Rattle.bw_pool.specs.Drained.{Worker, among, returned_one, IsPlanned}
use Rattle.bw_model.proofs.CallerLemmas.{reach_parent, child_le_sum, parent_not_leaf}
use Rattle.bw_pool.proofs.Trees.{lowered_balanced, Rising, length-lowered, lowered_root}
use Rattle.bw_pool.proofs.Trees.{lowered_leaf, lowered_own, is_some_at, by_path, parent_below}
use Rattle.bw_pool.proofs.Lists.{lowered_le, sum-set, put, put_all, owed_put, owed_some, owes_one}
use Rattle.bw_pool.proofs.Workers.{pool, IsWorkerOf, IsRun}
use Rattle.bw_pool.proofs.Holdings.{place_differs}

module _ (uses : ℕ → Bool) (P S : ℕ) (ps : List Row) (amounts drawn by held : List ℕ) (p l : ℕ)
    (ltp : p < P) (ltl : l < length ps)
    (leaf : is_leaf ps l ≡ true) where
  back_not_refused : refusal (pool P S ps amounts drawn by held) p (GiveBack l 1) ≡ None
  back_not_refused = rw (lt-ltb l (length ps) ltl, leaf) refl

  held_is : held_by (pool P S ps amounts drawn by held) p l ≡ get_or held (p * length ps + l) 0
  held_is = rw (lt-ltb p P ltp, lt-ltb l (length ps) ltl) refl

  has_held : 1 ≤ get_or held (p * length ps + l) 0
      → leb 1 (held_by (pool P S ps amounts drawn by held) p l) ≡ true
  has_held has = ap (λ n. leb 1 n) held_is ∙ le-leb 1 (get_or held (p * length ps + l) 0) has

  pub back_state : 1 ≤ get_or held (p * length ps + l) 0
      → after (pool P S ps amounts drawn by held) p (GiveBack l 1)
      ≡ pool P S ps amounts (lowered (path_up ps l) 1 drawn) (set by p (get_or by p 0 - 1))
      (set held (p * length ps + l) (get_or held (p * length ps + l) 0 - 1))
  back_state has =
      let s = pool P S ps amounts drawn by held in
      ap (λ r. unless_refused r (state_after s p (GiveBack l 1)) s) back_not_refused
      ∙ ap (λ (b : Bool). cond b (gave_back s p l 1) s) (has_held has)

  -- a leaf that is used keeps what is drawn of it
  same_used : (l' : ℕ) → is_leaf ps l' ≡ true → uses l' ≡ true → uses l ≡ false
      → IsPlanned P S ps amounts
      → get_or (lowered (path_up ps l) 1 drawn) l' 0 ≡ get_or drawn l' 0
  same_used l' lf isused un plan =
      let ne : Some l ≢ Some l' = λ s. let e : l ≡ l' = cc s in
      let f : uses l' ≡ false = ap uses (sym e) ∙ un in absurd (cc (f, isused)) in
      by_path (λ gs. get_or (lowered gs 1 drawn) l' 0 ≡ get_or drawn l' 0) ps l
      (lowered_leaf ps 1 plan.tree l' lf (suc l) (Some l) drawn (omega arith) ne)

  pub back_keeps : (k : ℕ → Worker) → (k p).owes ≡ Some l → IsPlanned P S ps amounts
      → IsRun uses P S ps amounts drawn by held k
      → IsRun uses P S ps amounts (lowered (path_up ps l) 1 drawn) (set by p (get_or by p 0 - 1))
      (set held (p * length ps + l) (get_or held (p * length ps + l) 0 - 1))
      (put k p (returned_one (k p) l))
  back_keeps k owing plan run =
      let w = k p in
      let w' = returned_one w l in
      let mine = run.workers p ltp in
      let o = mine.owed l owing in
      let drawn' = lowered (path_up ps l) 1 drawn in
      let by' = set by p (get_or by p 0 - 1) in
      let at = p * length ps + l in
      let held' = set held at (get_or held at 0 - 1) in
      let up = reach_parent ps plan.tree l in
      let in_by : p < length by = omega (arith, run.processors) in
      let rises : Rising ps (λ g. get_or drawn g 0) = λ g q lt is.
      omega (
        arith,
        child_le_sum ps drawn q g is,
        run.inner q (parent_below ps plan.tree g q lt is) (parent_not_leaf ps q g lt is),
      ) in
      let has : 1 ≤ get_or drawn l 0 =
      omega (arith, run.unused l ltl leaf o.4, owed_some k p l P ltp owing) in
      let kept_sum = get_or-le-sum_by (λ x. x) by p 0 in_by in
      record {
        rows = length-lowered (path_up ps l) 1 drawn ∙ run.rows;
        processors = length-set by p (get_or by p 0 - 1) ∙ run.processors;
        places = length-set held at (get_or held at 0 - 1) ∙ run.places;
        within = λ g. omega (arith, lowered_le (path_up ps l) 1 drawn g, run.within g);
        inner = by_path (λ gs. (h : ℕ) → h < length ps → is_leaf ps h ≡ false →
            sum_of_children ps (lowered gs 1 drawn) h ≡ get_or (lowered gs 1 drawn) h 0) ps l
            (lowered_balanced ps 1 plan.tree drawn rises (suc l) (Some l) drawn (omega arith)
            (omega arith) run.rows (λ g lt. refl)
            (λ g is. let e : l ≡ g = cc is in subst (λ i. 1 ≤ get_or drawn i 0) e has)
            (λ h lt inner. elim (eqb_tells l h) as
            (λ _. sum_of_children ps drawn h + cond (eqb l h) 1 0 ≡ get_or drawn h 0) [
              | inl e ↦ let not_leaf : is_leaf ps l ≡ false = ap (is_leaf ps) e.1 ∙ inner in
                  absurd (cc (not_leaf, leaf))
              | inr e ↦ let c : cond (eqb l h) 1 0 ≡ 0 =
                  ap (λ (v : Bool). cond {A = ℕ} v 1 0) e.0 in omega (arith, run.inner h lt inner)
            ]));
        total = omega (
          arith,
          sum-set by p (get_or by p 0 - 1) in_by,
          by_path (λ gs. get_or (lowered gs 1 drawn) 0 0 ≡ get_or drawn 0 0 - 1) ps l
              (lowered_root ps 1 plan.tree (suc l) l drawn (omega arith) ltl run.rows),
          run.total,
          mine.kept,
          o.0,
        );
        unused = λ l' lt lf un.
            let counts = owed_put k p w' l' P ltp in
            let was = run.unused l' lt lf un in
            elim (eqb_tells l l') [
              | inl e ↦
                  let d : get_or drawn' l' 0 ≡ get_or drawn l' 0 - 1 =
                  subst (λ i. get_or drawn' i 0 ≡ get_or drawn i 0 - 1) e.1
                  (lowered_own ps 1 plan.tree l drawn leaf ltl run.rows) in
                  let one : owes_one l' w ≡ 1 = ap (λ o. cond {A = ℕ} (is_some_at l' o) 1 0) owing
                  ∙ ap (λ (b : Bool). cond {A = ℕ} b 1 0) e.0 in
                  omega arith
              | inr e ↦
                  let d : get_or drawn' l' 0 ≡ get_or drawn l' 0 =
                  by_path (λ gs. get_or (lowered gs 1 drawn) l' 0 ≡ get_or drawn l' 0) ps l
                  (lowered_leaf ps 1 plan.tree l' lf (suc l) (Some l) drawn (omega arith)
                  (λ s. e.1 (cc s))) in
                  let none : owes_one l' w ≡ 0 = ap (λ o. cond {A = ℕ} (is_some_at l' o) 1 0) owing
                  ∙ ap (λ (b : Bool). cond {A = ℕ} b 1 0) e.0 in
                  omega arith
            ];
        workers = put_all (λ q v. q < P → IsWorkerOf uses S ps amounts drawn' by' held' q v) k p w'
            (λ lt. record {
              kept = get_or-set_same by p (get_or by p 0 - 1) 0 in_by ∙ ap (λ n. n - 1) mine.kept;
              cap = omega (arith, mine.cap);
              owed = λ l' is. absurd (cc is);
              short = λ l' lt' lf isused is. elim (mine.short l' lt' lf isused is) [
                | inl full ↦ inl (same_used l' lf isused o.4 plan ∙ full)
                | inr spent ↦ absurd (cc (spent.0, owing))
              ];
              returned = λ l' is. elim (eqb_tells l l') [
                | inl e ↦ ap uses (sym e.1) ∙ o.4
                | inr e ↦ mine.returned l'
                    (subst (λ (b : Bool). (b || among l' w.returned) ≡ true) e.0 is)
              ];
            })
            (λ q ne lt.
            let theirs = run.workers q lt in
            record {
              kept = get_or-set_other by p q (get_or by p 0 - 1) 0 ne ∙ theirs.kept;
              cap = theirs.cap;
              owed = λ l' is.
                  let t = theirs.owed l' is in
                  let same = get_or-set_other held at (q * length ps + l') (get_or held at 0 - 1) 0
                  (place_differs p q (length ps) l l' ne ltl t.2) in
                  (t.0, omega (arith, t.1), t.2, t.3, t.4);
              short = λ l' lt' lf isused is. elim (theirs.short l' lt' lf isused is) [
                | inl full ↦ inl (same_used l' lf isused o.4 plan ∙ full)
                | inr spent ↦ inr spent
              ];
              returned = theirs.returned;
            });
      }
