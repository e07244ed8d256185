-- The lead of a leaf over one that waits throughout, event by event.
use Rattle.std.proofs.Common.{◌≡◌, ◌≢◌, ℕ, suc, ◌+◌, ◌-◌, ◌*◌, ◌<◌, ◌≤◌, ◌==◌, ◌⊎◌, inl, inr}
use Rattle.std.proofs.Common.{List, [], ◌∷◌, length, Bool, true, false, Option, None, Some}
use Rattle.std.proofs.Common.{slice_get, slice_set, get_or, refl, ap, sym, subst, ◌∙◌, arith}
use Rattle.std.proofs.Common.{if◌then◌else◌}
use Rattle.std.proofs.Math.Nat.{mul-le-mul_right}
use Rattle.std.proofs.lemmas.List.{get_or-set_same, get_or-set_other}
use Rattle.std.proofs.lemmas.Bool.{eqb-false, eqb-true}
use Rattle.dispatch.specs.declared.leaves.Leaf.{Leaf}
use Rattle.dispatch.specs.declared.events.Event.{Event}
use Rattle.dispatch.specs.declared.events.Event.TheVariants.{Wake, Pick, End}
use Rattle.dispatch.specs.Rule.{DispatchState, leaf_at, new_leaf, after, Allows, MayPick, Runs}
use Rattle.dispatch.specs.Rule.{woken, picked, ended, has_tasks, lifted, level, greatest}
use Rattle.dispatch.specs.Rule.{state_ended}
use Rattle.dispatch.specs.Runs.{IsStart, after_all, IsRun, UsesAtMost, WaitsAt, WaitsThroughout}
use Rattle.dispatch.specs.Runs.{most_ahead, LeadIsBounded, one_run, runs_of}
use Rattle.dispatch.proofs.Counts.{one_run_same, one_run_other, runs_set, two_runs, length_set}

-- by whether two indexes are one
pub by_index : (P : ℕ → Type 0) (i j : ℕ) → P j → (i ≢ j → P i) → P i
by_index P i j same other = by_test (i == j) refl where
  by_test : (b : Bool) → (i == j) ≡ b → P i
  by_test true is = subst P (sym (eqb-true i j is)) same
  by_test false is = other (eqb-false i j is)

-- a leaf after one at an index was set
pub leaf_set : (ls : List Leaf) (k x : ℕ) (l d : Leaf) → k < length ls
    → ((x ≡ k) × (get_or (slice_set ls k l) x d ≡ l))
    ⊎ ((k ≢ x) × (get_or (slice_set ls k l) x d ≡ get_or ls x d))
leaf_set ls k x l d known = by_test (k == x) refl where
  by_test : (b : Bool) → (k == x) ≡ b
      → ((x ≡ k) × (get_or (slice_set ls k l) x d ≡ l))
      ⊎ ((k ≢ x) × (get_or (slice_set ls k l) x d ≡ get_or ls x d))
  by_test true is =
      let e : k ≡ x = eqb-true k x is in
      inl (
        sym e,
        subst (λ (y : ℕ). get_or (slice_set ls k l) y d ≡ l) e
            (get_or-set_same ls k l d known),
      )
  by_test false is =
      let ne : k ≢ x = eqb-false k x is in
      inr (ne, get_or-set_other ls k x l d (λ e. ne (sym e)))

-- ---- numbers

pub lead_picked : (ui ri ci cj uj rj a b slice overrun processors others : ℕ)
    → ui + slice * ri ≤ ci → cj ≡ uj + slice * rj → ci * b ≤ cj * a → rj ≤ others
    → suc ri ≤ processors
    → (ui + (slice + overrun) * suc ri) * b
    ≤ uj * a + (slice * b + others * (slice * a) + processors * (overrun * b))
lead_picked ui ri ci cj uj rj a b slice overrun processors others charge_i charge_j least few all =
    let mine = mul-le-mul_right b charge_i in
    let same : cj * a ≡ (uj + slice * rj) * a = ap (λ n. n * a) charge_j in
    let running = mul-le-mul_right (slice * a) few in
    let over = mul-le-mul_right (overrun * b) all in
    omega (arith, mine, same, least, running, over)

pub lead_ended : (ui ri used b slice overrun most : ℕ) → used ≤ slice + overrun
    → (ui + (slice + overrun) * suc ri) * b ≤ most
    → (ui + used + (slice + overrun) * ri) * b ≤ most
lead_ended ui ri used b slice overrun most short before =
    let less = mul-le-mul_right b short in
    omega (arith, less, before)

-- ---- states

-- the uses, the runs and the charges of a leaf i and of one j that waits
pub record Numbers (slice overrun processors a b ui ri ci uj rj cj : ℕ) : Type 0 where
  pub charge_i : ui + slice * ri ≤ ci
  pub charge_j : cj ≡ uj + slice * rj
  pub lead : (ui + (slice + overrun) * ri) * b ≤ uj * a + most_ahead slice overrun processors a b

-- each state of a run, of a leaf i and of one j that waits
pub record Leads (slice overrun processors a b i j : ℕ) (t : DispatchState) : Type 0 where
  pub slice_is : t.slice ≡ slice
  pub processors_are : length t.processors ≡ processors
  pub amount_i : (leaf_at t i).amount ≡ a
  pub amount_j : (leaf_at t j).amount ≡ b
  pub numbers : Numbers slice overrun processors a b
      (leaf_at t i).used (runs_of i t.processors) (leaf_at t i).charged
      (leaf_at t j).used (runs_of j t.processors) (leaf_at t j).charged

more_used : (l m u a r : ℕ) → l ≤ m * a + r → l ≤ (m + u) * a + r
more_used l m u a r h = omega (arith, h)

module _ (slice overrun processors a b : ℕ) where
  same_numbers : {ui ri ci uj rj cj ui' ri' ci' uj' rj' cj' : ℕ} → ui' ≡ ui → ri' ≡ ri → ci' ≡ ci
      → uj' ≡ uj → rj' ≡ rj → cj' ≡ cj
      → Numbers slice overrun processors a b ui ri ci uj rj cj
      → Numbers slice overrun processors a b ui' ri' ci' uj' rj' cj'
  same_numbers {ui} {ri} {ci} {uj} {rj} {cj} {ui'} {ri'} {ci'} {uj'} {rj'} {cj'}
      e1 e2 e3 e4 e5 e6 n =
      subst (λ x. Numbers slice overrun processors a b x ri' ci' uj' rj' cj') (sym e1)
      (subst (λ x. Numbers slice overrun processors a b ui x ci' uj' rj' cj') (sym e2)
      (subst (λ x. Numbers slice overrun processors a b ui ri x uj' rj' cj') (sym e3)
      (subst (λ x. Numbers slice overrun processors a b ui ri ci x rj' cj') (sym e4)
      (subst (λ x. Numbers slice overrun processors a b ui ri ci uj x cj') (sym e5)
      (subst (λ x. Numbers slice overrun processors a b ui ri ci uj rj x) (sym e6) n)))))

  picked_i : (ui ri ci uj rj cj : ℕ) → Numbers slice overrun processors a b ui ri ci uj rj cj
      → ci * b ≤ cj * a → rj ≤ processors - 1 → suc ri ≤ processors
      → Numbers slice overrun processors a b ui (suc ri) (ci + slice) uj rj cj
  picked_i ui ri ci uj rj cj n least few all = record {
    charge_i = omega (arith, n.charge_i);
    charge_j = n.charge_j;
    lead = lead_picked ui ri ci cj uj rj a b slice overrun processors (processors - 1)
        n.charge_i n.charge_j least few all;
  }

  picked_j : (ui ri ci uj rj cj : ℕ) → Numbers slice overrun processors a b ui ri ci uj rj cj
      → Numbers slice overrun processors a b ui ri ci uj (suc rj) (cj + slice)
  picked_j ui ri ci uj rj cj n = record {
    charge_i = n.charge_i;
    charge_j = omega (arith, n.charge_j);
    lead = n.lead;
  }

  ended_i : (used ui ri ci uj rj cj : ℕ) → used ≤ slice + overrun
      → Numbers slice overrun processors a b ui (suc ri) ci uj rj cj
      → Numbers slice overrun processors a b (ui + used) ri (ci + used - slice) uj rj cj
  ended_i used ui ri ci uj rj cj short n = record {
    charge_i = omega (arith, n.charge_i);
    charge_j = n.charge_j;
    lead = lead_ended ui ri used b slice overrun
        (uj * a + most_ahead slice overrun processors a b) short n.lead;
  }

  ended_j : (used ui ri ci uj rj cj : ℕ)
      → Numbers slice overrun processors a b ui ri ci uj (suc rj) cj
      → Numbers slice overrun processors a b ui ri ci (uj + used) rj (cj + used - slice)
  ended_j used ui ri ci uj rj cj n = record {
    charge_i = n.charge_i;
    charge_j = omega (arith, n.charge_j);
    lead = more_used ((ui + (slice + overrun) * ri) * b) uj used a
        (most_ahead slice overrun processors a b) n.lead;
  }

-- the parts of a leaf that a wake leaves, by whether the leaf wakes
record Kept (was is : Leaf) : Type 0 where
  amount : is.amount ≡ was.amount
  used : is.used ≡ was.used
  charged : was.charged ≤ is.charged

lifted_up : (c : ℕ) (o : Option ℕ) (top : ℕ) → c ≤ lifted c o top
lifted_up c None top = omega arith
lifted_up c (Some n) top = omega arith

woken_up : (slice : ℕ) (ls : List Leaf) (l : Leaf) (b : Bool)
    → l.charged
    ≤ (if b then l.charged else lifted l.charged (level slice l.amount ls) (greatest l.amount ls))
woken_up slice ls l true = omega arith
woken_up slice ls l false =
    lifted_up l.charged (level slice l.amount ls) (greatest l.amount ls)

woken_kept : (s : DispatchState) (k tasks x : ℕ) → k < length s.leaves
    → Kept (leaf_at s x) (leaf_at (after s (Wake k tasks)) x)
woken_kept s k tasks x known = by_case (leaf_set s.leaves k x w (new_leaf 0) known) where
  w : Leaf
  w = woken s.slice s.leaves tasks (leaf_at s k)

  by_case : ((x ≡ k) × (get_or (slice_set s.leaves k w) x (new_leaf 0) ≡ w))
      ⊎ ((k ≢ x) × (get_or (slice_set s.leaves k w) x (new_leaf 0) ≡ leaf_at s x))
      → Kept (leaf_at s x) (leaf_at (after s (Wake k tasks)) x)
  by_case (inl p) =
      subst (λ (l : Leaf). Kept (leaf_at s x) l) (sym p.1)
      (subst (λ (y : ℕ). Kept (leaf_at s y) w) (sym p.0)
      (record {
        amount = refl;
        used = refl;
        charged = woken_up s.slice s.leaves (leaf_at s k)
            (has_tasks (leaf_at s k));
      }))
  by_case (inr p) =
      subst (λ (l : Leaf). Kept (leaf_at s x) l) (sym p.1)
      (record { amount = refl; used = refl; charged = omega arith })

module _ (slice overrun processors a b i j : ℕ) where
  wake_keeps : (s : DispatchState) (k tasks : ℕ) → k < length s.leaves
      → WaitsAt j s (Wake k tasks) → Leads slice overrun processors a b i j s
      → Leads slice overrun processors a b i j (after s (Wake k tasks))
  wake_keeps s k tasks known waits l =
      let t = after s (Wake k tasks) in
      let ki = woken_kept s k tasks i known in
      let kj = woken_kept s k tasks j known in
      let n = l.numbers in
      let up : Numbers slice overrun processors a b (leaf_at s i).used (runs_of i s.processors)
      (leaf_at t i).charged (leaf_at s j).used (runs_of j s.processors) (leaf_at s j).charged =
      record {
        charge_i = omega (arith, n.charge_i, ki.charged);
        charge_j = n.charge_j;
        lead = n.lead;
      } in
      record {
        slice_is = l.slice_is;
        processors_are = l.processors_are;
        amount_i = ki.amount ∙ l.amount_i;
        amount_j = kj.amount ∙ l.amount_j;
        numbers = same_numbers slice overrun processors a b ki.used refl refl kj.used refl waits up;
      }

-- a leaf after a pick, and its runs: by whether it is picked
record IsPicked (s : DispatchState) (p k x : ℕ) : Type 0 where
  same : k ≡ x
  amount : (leaf_at (after s (Pick p k)) x).amount ≡ (leaf_at s x).amount
  used : (leaf_at (after s (Pick p k)) x).used ≡ (leaf_at s x).used
  charged : (leaf_at (after s (Pick p k)) x).charged ≡ (leaf_at s x).charged + s.slice
  runs : runs_of x (after s (Pick p k)).processors ≡ suc (runs_of x s.processors)

record IsNotPicked (s : DispatchState) (p k x : ℕ) : Type 0 where
  leaf : leaf_at (after s (Pick p k)) x ≡ leaf_at s x
  runs : runs_of x (after s (Pick p k)).processors ≡ runs_of x s.processors

by_pick : (s : DispatchState) (p k x : ℕ) → MayPick s p k
    → IsPicked s p k x ⊎ IsNotPicked s p k x
by_pick s p k x may = by_case (leaf_set s.leaves k x w (new_leaf 0) may.leaf.known) where
  w : Leaf
  w = picked s.slice (leaf_at s k)

  count : runs_of x (slice_set s.processors p (Some k)) + 0
      ≡ runs_of x s.processors + one_run x (Some k)
  count = runs_set x s.processors p None (Some k) may.free

  by_case : ((x ≡ k) × (get_or (slice_set s.leaves k w) x (new_leaf 0) ≡ w))
      ⊎ ((k ≢ x) × (get_or (slice_set s.leaves k w) x (new_leaf 0) ≡ leaf_at s x))
      → IsPicked s p k x ⊎ IsNotPicked s p k x
  by_case (inl c) =
      let same : leaf_at s k ≡ leaf_at s x = ap (leaf_at s) (sym c.0) in
      let is : leaf_at (after s (Pick p k)) x ≡ picked s.slice (leaf_at s x) =
      c.1 ∙ ap (picked s.slice) same in
      let one = one_run_same x k (sym c.0) in
      inl (record {
        same = sym c.0;
        amount = ap (λ (l : Leaf). l.amount) is;
        used = ap (λ (l : Leaf). l.used) is;
        charged = ap (λ (l : Leaf). l.charged) is;
        runs = omega (arith, count, one);
      })
  by_case (inr c) =
      let none = one_run_other x k c.0 in
      inr (record { leaf = c.1; runs = omega (arith, count, none) })

-- a leaf after a run on the processor p has ended, and its runs: by whether it ran there
record IsEnded (s : DispatchState) (p used : ℕ) (remains : Bool) (x : ℕ) : Type 0 where
  ran : slice_get s.processors p ≡ Some (Some x)
  amount : (leaf_at (after s (End p used remains)) x).amount ≡ (leaf_at s x).amount
  uses : (leaf_at (after s (End p used remains)) x).used ≡ (leaf_at s x).used + used
  charged : (leaf_at (after s (End p used remains)) x).charged
      ≡ (leaf_at s x).charged + used - s.slice
  runs : runs_of x s.processors ≡ suc (runs_of x (after s (End p used remains)).processors)

record IsNotEnded (s : DispatchState) (p used : ℕ) (remains : Bool) (x : ℕ) : Type 0 where
  leaf : leaf_at (after s (End p used remains)) x ≡ leaf_at s x
  runs : runs_of x (after s (End p used remains)).processors ≡ runs_of x s.processors

record SameAround (s : DispatchState) (p used : ℕ) (remains : Bool) : Type 0 where
  slice : (after s (End p used remains)).slice ≡ s.slice
  processors : length (after s (End p used remains)).processors ≡ length s.processors

end_state : (s : DispatchState) (p used : ℕ) (remains : Bool) (k : ℕ)
    → slice_get s.processors p ≡ Some (Some k)
    → after s (End p used remains) ≡ state_ended s p used remains (Some (Some k))
end_state s p used remains k runs = ap (state_ended s p used remains) runs

by_end : (s : DispatchState) (p used : ℕ) (remains : Bool) (x : ℕ) → Runs s p
    → IsEnded s p used remains x ⊎ IsNotEnded s p used remains x
by_end s p used remains x on = by_case (leaf_set s.leaves k x w (new_leaf 0) on.known) where
  k : ℕ
  k = on.leaf

  w : Leaf
  w = ended s.slice used remains (leaf_at s k)

  t : DispatchState
  t = state_ended s p used remains (Some (Some k))

  is_t : after s (End p used remains) ≡ t
  is_t = end_state s p used remains k on.runs

  count : runs_of x t.processors + one_run x (Some k) ≡ runs_of x s.processors + 0
  count = runs_set x s.processors p (Some k) None on.runs

  by_case : ((x ≡ k) × (get_or (slice_set s.leaves k w) x (new_leaf 0) ≡ w))
      ⊎ ((k ≢ x) × (get_or (slice_set s.leaves k w) x (new_leaf 0) ≡ leaf_at s x))
      → IsEnded s p used remains x ⊎ IsNotEnded s p used remains x
  by_case (inl c) =
      let same : leaf_at s k ≡ leaf_at s x = ap (leaf_at s) (sym c.0) in
      let is : leaf_at (after s (End p used remains)) x ≡ ended s.slice used remains (leaf_at s x) =
      ap (λ (u : DispatchState). leaf_at u x) is_t ∙ c.1
      ∙ ap (ended s.slice used remains) same in
      let one = one_run_same x k (sym c.0) in
      let runs : runs_of x (after s (End p used remains)).processors ≡ runs_of x t.processors =
      ap (λ (u : DispatchState). runs_of x u.processors) is_t in
      inl (record {
        ran = on.runs ∙ ap (λ (n : ℕ). Some (Some n)) (sym c.0);
        amount = ap (λ (l : Leaf). l.amount) is;
        uses = ap (λ (l : Leaf). l.used) is;
        charged = ap (λ (l : Leaf). l.charged) is;
        runs = omega (arith, count, one, runs);
      })
  by_case (inr c) =
      let none = one_run_other x k c.0 in
      let runs : runs_of x (after s (End p used remains)).processors ≡ runs_of x t.processors =
      ap (λ (u : DispatchState). runs_of x u.processors) is_t in
      inr (record {
        leaf = ap (λ (u : DispatchState). leaf_at u x) is_t ∙ c.1;
        runs = omega (arith, count, none, runs);
      })

same_around : (s : DispatchState) (p used : ℕ) (remains : Bool) → Runs s p
    → SameAround s p used remains
same_around s p used remains on =
    let is_t = end_state s p used remains on.leaf on.runs in
    record {
      slice = ap (λ (u : DispatchState). u.slice) is_t;
      processors = ap (λ (u : DispatchState). length u.processors) is_t
          ∙ length_set s.processors p None;
    }

module _ (slice overrun processors a b i j : ℕ) (ne : i ≢ j) where
  pick_keeps : (s : DispatchState) (p k : ℕ) → MayPick s p k → 0 < (leaf_at s j).waiting
      → Leads slice overrun processors a b i j s
      → Leads slice overrun processors a b i j (after s (Pick p k))
  pick_keeps s p k may waits l = by_case (by_pick s p k i may) (by_pick s p k j may) where
    t : DispatchState
    t = after s (Pick p k)

    procs : length t.processors ≡ processors
    procs = length_set s.processors p (Some k) ∙ l.processors_are

    plus : (x : ℕ) → (leaf_at s x).charged + s.slice ≡ (leaf_at s x).charged + slice
    plus x = ap (λ (n : ℕ). (leaf_at s x).charged + n) l.slice_is

    by_case : IsPicked s p k i ⊎ IsNotPicked s p k i → IsPicked s p k j ⊎ IsNotPicked s p k j
        → Leads slice overrun processors a b i j t
    by_case (inl c) (inl d) = absurd (ne (sym c.same ∙ d.same))
    by_case (inl c) (inr d) =
        let both = two_runs i j ne t.processors in
        let least : (leaf_at s i).charged * b ≤ (leaf_at s j).charged * a =
        subst (λ (n : ℕ). (leaf_at s i).charged * n ≤ (leaf_at s j).charged * a) l.amount_j
        (subst (λ (n : ℕ). (leaf_at s i).charged * (leaf_at s j).amount
        ≤ (leaf_at s j).charged * n) l.amount_i
        (subst (λ (x : ℕ). (leaf_at s x).charged * (leaf_at s j).amount
        ≤ (leaf_at s j).charged * (leaf_at s x).amount) c.same (may.leaf.least j waits))) in
        record {
          slice_is = l.slice_is;
          processors_are = procs;
          amount_i = c.amount ∙ l.amount_i;
          amount_j = ap (λ (l : Leaf). l.amount) d.leaf ∙ l.amount_j;
          numbers = same_numbers slice overrun processors a b c.used c.runs (c.charged ∙ plus i)
              (ap (λ (l : Leaf). l.used) d.leaf) d.runs (ap (λ (l : Leaf). l.charged) d.leaf)
              (picked_i slice overrun processors a b _ _ _ _ _ _ l.numbers least
              (omega (arith, both, procs, c.runs, d.runs))
              (omega (arith, both, procs, c.runs)));
        }
    by_case (inr c) (inl d) = record {
      slice_is = l.slice_is;
      processors_are = procs;
      amount_i = ap (λ (l : Leaf). l.amount) c.leaf ∙ l.amount_i;
      amount_j = d.amount ∙ l.amount_j;
      numbers = same_numbers slice overrun processors a b
          (ap (λ (l : Leaf). l.used) c.leaf) c.runs (ap (λ (l : Leaf). l.charged) c.leaf)
          d.used d.runs (d.charged ∙ plus j)
          (picked_j slice overrun processors a b _ _ _ _ _ _ l.numbers);
    }
    by_case (inr c) (inr d) = record {
      slice_is = l.slice_is;
      processors_are = procs;
      amount_i = ap (λ (l : Leaf). l.amount) c.leaf ∙ l.amount_i;
      amount_j = ap (λ (l : Leaf). l.amount) d.leaf ∙ l.amount_j;
      numbers = same_numbers slice overrun processors a b
          (ap (λ (l : Leaf). l.used) c.leaf) c.runs (ap (λ (l : Leaf). l.charged) c.leaf)
          (ap (λ (l : Leaf). l.used) d.leaf) d.runs (ap (λ (l : Leaf). l.charged) d.leaf)
          l.numbers;
    }

  end_keeps : (s : DispatchState) (p used : ℕ) (remains : Bool) → Runs s p
      → used ≤ s.slice + overrun → Leads slice overrun processors a b i j s
      → Leads slice overrun processors a b i j (after s (End p used remains))
  end_keeps s p used remains on short' l =
      by_case (by_end s p used remains i on) (by_end s p used remains j on) where
        t : DispatchState
        t = after s (End p used remains)

        around : SameAround s p used remains
        around = same_around s p used remains on

        short : used ≤ slice + overrun
        short = subst (λ (n : ℕ). used ≤ n + overrun) l.slice_is short'

        less : (x : ℕ)
            → (leaf_at s x).charged + used - s.slice ≡ (leaf_at s x).charged + used - slice
        less x = ap (λ (n : ℕ). (leaf_at s x).charged + used - n) l.slice_is

        by_case : IsEnded s p used remains i ⊎ IsNotEnded s p used remains i
            → IsEnded s p used remains j ⊎ IsNotEnded s p used remains j
            → Leads slice overrun processors a b i j t
        by_case (inl c) (inl d) =
            let both : ◌≡◌ {A = Option (Option ℕ)} (Some (Some i)) (Some (Some j)) =
            sym c.ran ∙ d.ran in
            let one : i ≡ j = cc both in
            absurd (ne one)
        by_case (inl c) (inr d) = record {
          slice_is = around.slice ∙ l.slice_is;
          processors_are = around.processors ∙ l.processors_are;
          amount_i = c.amount ∙ l.amount_i;
          amount_j = ap (λ (l : Leaf). l.amount) d.leaf ∙ l.amount_j;
          numbers = same_numbers slice overrun processors a b c.uses refl (c.charged ∙ less i)
              (ap (λ (l : Leaf). l.used) d.leaf) d.runs (ap (λ (l : Leaf). l.charged) d.leaf)
              (ended_i slice overrun processors a b used _ _ _ _ _ _ short
              (same_numbers slice overrun processors a b refl (sym c.runs) refl refl refl refl
              l.numbers));
        }
        by_case (inr c) (inl d) = record {
          slice_is = around.slice ∙ l.slice_is;
          processors_are = around.processors ∙ l.processors_are;
          amount_i = ap (λ (l : Leaf). l.amount) c.leaf ∙ l.amount_i;
          amount_j = d.amount ∙ l.amount_j;
          numbers = same_numbers slice overrun processors a b
              (ap (λ (l : Leaf). l.used) c.leaf) c.runs (ap (λ (l : Leaf). l.charged) c.leaf)
              d.uses refl (d.charged ∙ less j)
              (ended_j slice overrun processors a b used _ _ _ _ _ _
              (same_numbers slice overrun processors a b refl refl refl refl (sym d.runs) refl
              l.numbers));
        }
        by_case (inr c) (inr d) = record {
          slice_is = around.slice ∙ l.slice_is;
          processors_are = around.processors ∙ l.processors_are;
          amount_i = ap (λ (l : Leaf). l.amount) c.leaf ∙ l.amount_i;
          amount_j = ap (λ (l : Leaf). l.amount) d.leaf ∙ l.amount_j;
          numbers = same_numbers slice overrun processors a b
              (ap (λ (l : Leaf). l.used) c.leaf) c.runs (ap (λ (l : Leaf). l.charged) c.leaf)
              (ap (λ (l : Leaf). l.used) d.leaf) d.runs (ap (λ (l : Leaf). l.charged) d.leaf)
              l.numbers;
        }

  -- each event of a run
  step_keeps : (s : DispatchState) (e : Event) → Allows s e → UsesAtMost (s.slice + overrun) e
      → WaitsAt j s e → Leads slice overrun processors a b i j s
      → Leads slice overrun processors a b i j (after s e)
  step_keeps s (Wake k tasks) may short waits l =
      wake_keeps slice overrun processors a b i j s k tasks may waits l
  step_keeps s (Pick p k) may short waits l = pick_keeps s p k may waits l
  step_keeps s (End p used remains) may short waits l = end_keeps s p used remains may short l

  run_keeps : (s : DispatchState) (es : List Event) → IsRun overrun s es → WaitsThroughout j s es
      → Leads slice overrun processors a b i j s
      → Leads slice overrun processors a b i j (after_all s es)
  run_keeps s [] run waits l = l
  run_keeps s (e ∷ es) run waits l =
      run_keeps (after s e) es run.2 waits.1 (step_keeps s e run.0 run.1 waits.0 l)

starts : (s : DispatchState) (overrun i j : ℕ) → IsStart s
    → Leads s.slice overrun (length s.processors) (leaf_at s i).amount (leaf_at s j).amount i j s
starts s overrun i j start = record {
  slice_is = refl;
  processors_are = refl;
  amount_i = refl;
  amount_j = refl;
  numbers =
      let a = (leaf_at s i).amount in
      let b = (leaf_at s j).amount in
      same_numbers s.slice overrun (length s.processors) a b (start.uses i) (start.free i)
      (start.clocks i) (start.uses j) (start.free j) (start.clocks j) (record {
        charge_i = omega arith;
        charge_j = omega arith;
        lead = omega arith;
      });
}

pub leads_of : (s : DispatchState) (overrun i j : ℕ) (events : List Event) → IsStart s
    → IsRun overrun s events → WaitsThroughout j s events → i ≢ j
    → Leads s.slice overrun (length s.processors) (leaf_at s i).amount (leaf_at s j).amount i j
    (after_all s events)
leads_of s overrun i j events start run waits ne =
    run_keeps s.slice overrun (length s.processors) (leaf_at s i).amount
    (leaf_at s j).amount i j ne s events run waits (starts s overrun i j start)

pub lead_is_bounded : LeadIsBounded
lead_is_bounded s overrun i j events start run waits ne =
    let l = leads_of s overrun i j events start run waits ne in
    let t = after_all s events in
    subst (λ (a : ℕ). ((leaf_at t i).used + (t.slice + overrun) * runs_of i t.processors)
    * (leaf_at t j).amount ≤ (leaf_at t j).used * a
    + most_ahead s.slice overrun (length s.processors) a (leaf_at t j).amount) (sym l.amount_i)
    (subst (λ (b : ℕ). ((leaf_at t i).used + (t.slice + overrun) * runs_of i t.processors) * b
    ≤ (leaf_at t j).used * (leaf_at s i).amount
    + most_ahead s.slice overrun (length s.processors) (leaf_at s i).amount b) (sym l.amount_j)
    (subst (λ (n : ℕ). ((leaf_at t i).used + (n + overrun) * runs_of i t.processors)
    * (leaf_at s j).amount ≤ (leaf_at t j).used * (leaf_at s i).amount
    + most_ahead s.slice overrun (length s.processors) (leaf_at s i).amount (leaf_at s j).amount)
    (sym l.slice_is) l.numbers.lead))

-- ---- the number of leaves

leaves_at_end : (s : DispatchState) (p used : ℕ) (remains : Bool) → Runs s p
    → length (after s (End p used remains)).leaves ≡ length s.leaves
leaves_at_end s p used remains on =
    ap (λ (u : DispatchState). length u.leaves) (end_state s p used remains on.leaf on.runs)
    ∙ length_set s.leaves on.leaf (ended s.slice used remains (leaf_at s on.leaf))

leaves_after : (s : DispatchState) (e : Event) → Allows s e
    → length (after s e).leaves ≡ length s.leaves
leaves_after s (Wake k tasks) may =
    length_set s.leaves k (woken s.slice s.leaves tasks (leaf_at s k))
leaves_after s (Pick p k) may = length_set s.leaves k (picked s.slice (leaf_at s k))
leaves_after s (End p used remains) may = leaves_at_end s p used remains may

pub leaves_kept : (s : DispatchState) (overrun : ℕ) (es : List Event) → IsRun overrun s es
    → length (after_all s es).leaves ≡ length s.leaves
leaves_kept s overrun [] run = refl
leaves_kept s overrun (e ∷ es) run =
    leaves_kept (after s e) overrun es run.2 ∙ leaves_after s e run.0
