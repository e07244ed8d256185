-- The leaf with the least clock among those that wait.
use Rattle.std.proofs.Common.{◌≡◌, ℕ, zero, suc, ◌*◌, ◌<◌, ◌≤◌, ◌⊎◌, inl, inr, List, [], ◌∷◌}
use Rattle.std.proofs.Common.{length, get_or, Option, None, Some, slice_get, refl, arith, sym, ◌∙◌}
use Rattle.std.proofs.Math.Nat.{mul-le-mul_right, le_of_mul-le-mul_right}
use Rattle.dispatch.specs.declared.leaves.Leaf.{Leaf}
use Rattle.dispatch.specs.Rule.{DispatchState, leaf_at, new_leaf, MayPick, IsLeast}
use Rattle.dispatch.specs.Rule.{NoneWaits}
use Rattle.dispatch.specs.Runs.{AreAmounts, NoProcessorIdles}

pub clocks_trans : (c1 a1 c2 a2 c3 a3 : ℕ) → 0 < a2 → c1 * a2 ≤ c2 * a1 → c2 * a3 ≤ c3 * a2
    → c1 * a3 ≤ c3 * a1
clocks_trans c1 a1 c2 a2 c3 a3 some one two =
    let more = mul-le-mul_right a3 one in
    let most = mul-le-mul_right a1 two in
    let both : c1 * a3 * a2 ≤ c3 * a1 * a2 = omega (arith, more, most) in
    le_of_mul-le-mul_right both some

abbrev leq : Leaf → Leaf → Type 0
leq l m = l.charged * m.amount ≤ m.charged * l.amount

total : (a b : ℕ) → (a ≤ b) ⊎ (b ≤ a)
total zero b = inl (omega arith)
total (suc a) zero = inr (omega arith)
total (suc a) (suc b) = up (total a b) where
  up : (a ≤ b) ⊎ (b ≤ a) → (suc a ≤ suc b) ⊎ (suc b ≤ suc a)
  up (inl h) = inl (omega (arith, h))
  up (inr h) = inr (omega (arith, h))

-- the least of a leaf that waits and of the least of the others
onto_least : (l : Leaf) (ls : List Leaf) (i : ℕ) → 0 < l.waiting → 0 < l.amount
    → ((k : ℕ) → k < length ls → 0 < (get_or ls k (new_leaf 0)).amount) → IsLeast ls i
    → (leq l (get_or ls i (new_leaf 0))) ⊎ (leq (get_or ls i (new_leaf 0)) l)
    → (m : ℕ) × IsLeast (l ∷ ls) m
onto_least l ls i waits some positive rest (inl le) = (
  0,
  record {
    known = omega arith;
    waits = waits;
    least = each;
  },
) where
  each : (k : ℕ) → 0 < (get_or (l ∷ ls) k (new_leaf 0)).waiting
      → leq l (get_or (l ∷ ls) k (new_leaf 0))
  each zero w = omega arith
  each (suc k) w =
      clocks_trans l.charged l.amount (get_or ls i (new_leaf 0)).charged
      (get_or ls i (new_leaf 0)).amount (get_or ls k (new_leaf 0)).charged
      (get_or ls k (new_leaf 0)).amount (positive i rest.known) le (rest.least k w)
onto_least l ls i waits some positive rest (inr le) = (
  suc i,
  record {
    known = omega (arith, rest.known);
    waits = rest.waits;
    least = each;
  },
) where
  each : (k : ℕ) → 0 < (get_or (l ∷ ls) k (new_leaf 0)).waiting
      → leq (get_or ls i (new_leaf 0)) (get_or (l ∷ ls) k (new_leaf 0))
  each zero w = le
  each (suc k) w = rest.least k w

add_leaf : (l : Leaf) (ls : List Leaf) → 0 < l.amount
    → ((k : ℕ) → k < length ls → 0 < (get_or ls k (new_leaf 0)).amount)
    → (0 < l.waiting) ⊎ (l.waiting ≤ 0) → NoneWaits ls ⊎ ((i : ℕ) × IsLeast ls i)
    → NoneWaits (l ∷ ls) ⊎ ((i : ℕ) × IsLeast (l ∷ ls) i)
add_leaf l ls some positive (inl waits) (inl rest) = inr (
  0,
  record {
    known = omega arith;
    waits = waits;
    least = each;
  },
) where
  each : (k : ℕ) → 0 < (get_or (l ∷ ls) k (new_leaf 0)).waiting
      → leq l (get_or (l ∷ ls) k (new_leaf 0))
  each zero w = omega arith
  each (suc k) w = absurd (let clash : ⊥ = omega (arith, w, rest k) in clash)
add_leaf l ls some positive (inl waits) (inr rest) =
    inr (onto_least l ls rest.0 waits some positive rest.1
    (total (l.charged * (get_or ls rest.0 (new_leaf 0)).amount)
    ((get_or ls rest.0 (new_leaf 0)).charged * l.amount)))
add_leaf l ls some positive (inr idle) (inl rest) = inl each where
  each : NoneWaits (l ∷ ls)
  each zero = omega (arith, idle)
  each (suc k) = rest k
add_leaf l ls some positive (inr idle) (inr rest) = inr (
  suc rest.0,
  record {
    known = omega (arith, rest.1.known);
    waits = rest.1.waits;
    least = each;
  },
) where
  each : (k : ℕ) → 0 < (get_or (l ∷ ls) k (new_leaf 0)).waiting
      → leq (get_or ls rest.0 (new_leaf 0)) (get_or (l ∷ ls) k (new_leaf 0))
  each zero w = absurd (let clash : ⊥ = omega (arith, w, idle) in clash)
  each (suc k) w = rest.1.least k w

some_or_none : (n : ℕ) → (0 < n) ⊎ (n ≤ 0)
some_or_none zero = inr (omega arith)
some_or_none (suc n) = inl (omega arith)

pub least_of : (ls : List Leaf) → ((k : ℕ) → k < length ls → 0 < (get_or ls k (new_leaf 0)).amount)
    → NoneWaits ls ⊎ ((i : ℕ) × IsLeast ls i)
least_of [] positive = inl (λ k. refl)
least_of (l ∷ ls) positive =
    add_leaf l ls (positive 0 (omega arith)) (λ k less. positive (suc k) (omega (arith, less)))
    (some_or_none l.waiting)
    (least_of ls (λ k less. positive (suc k) (omega (arith, less))))

may_pick : (s : DispatchState) (p k : ℕ) → AreAmounts s → slice_get s.processors p ≡ Some None
    → 0 < (leaf_at s k).waiting → (i : ℕ) × MayPick s p i
may_pick s p k amounts free waits = by_case (least_of s.leaves amounts) where
  by_case : NoneWaits s.leaves ⊎ ((i : ℕ) × IsLeast s.leaves i) → (i : ℕ) × MayPick s p i
  by_case (inl idle) = absurd (let clash : ⊥ = omega (arith, waits, idle k) in clash)
  by_case (inr found) = (found.0, record { free = free; leaf = found.1 })

pub no_processor_idles : NoProcessorIdles
no_processor_idles = record {
  may_pick = may_pick;
  only_a_pick = λ s p used remains free on.
      let both : ◌≡◌ {A = Option (Option ℕ)} (Some None) (Some (Some on.leaf)) =
      sym free ∙ on.runs in
      absurd (let inner : ◌≡◌ {A = Option ℕ} None (Some on.leaf) = cc both in cc inner);
}
