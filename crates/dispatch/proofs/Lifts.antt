-- When a wake lifts a leaf, and how far.
use Rattle.std.proofs.Common.{◌≡◌, ◌≢◌, ℕ, zero, suc, ◌-◌, ◌*◌, ◌/◌, ◌<◌, ◌≤◌, ◌⊎◌, inl, inr, max}
use Rattle.std.proofs.Common.{List, [], ◌∷◌, length, get_or, Bool, true, false, Option, None, Some}
use Rattle.std.proofs.Common.{refl}
use Rattle.std.proofs.Common.{ap, sym, subst, ◌∙◌, arith, if◌then◌else◌, slice_set, IfSome}
use Rattle.std.proofs.Math.Nat.{div-mul-le_self, mul-le-mul_left, mul-le-mul_right}
use Rattle.std.proofs.lemmas.List.{get_or-set_same}
use Rattle.dispatch.specs.declared.leaves.Leaf.{Leaf}
use Rattle.dispatch.specs.declared.events.Event.TheVariants.{Wake}
use Rattle.dispatch.specs.Rule.{DispatchState, leaf_at, new_leaf, has_tasks, after, woken, lifted}
use Rattle.dispatch.specs.Rule.{settled, level, level_from, greatest, greatest_from, at_most}
use Rattle.dispatch.specs.Runs.{WaitsAt, IsLiftedOnlyFromSleep, LiftIsAtMostTheLeast, AreAmounts}
use Rattle.dispatch.proofs.Leads.{leaf_set}

-- the charge of a leaf j after a wake, if that of the leaf that wakes is kept
kept : (s : DispatchState) (j i tasks : ℕ) → i < length s.leaves
    → (i ≡ j → (woken s.slice s.leaves tasks (leaf_at s i)).charged ≡ (leaf_at s i).charged)
    → WaitsAt j s (Wake i tasks)
kept s j i tasks known same = by_case (leaf_set s.leaves i j w (new_leaf 0) known) where
  w : Leaf
  w = woken s.slice s.leaves tasks (leaf_at s i)

  by_case : ((j ≡ i) × (get_or (slice_set s.leaves i w) j (new_leaf 0) ≡ w))
      ⊎ ((i ≢ j) × (get_or (slice_set s.leaves i w) j (new_leaf 0) ≡ leaf_at s j))
      → WaitsAt j s (Wake i tasks)
  by_case (inl p) =
      ap (λ (l : Leaf). l.charged) p.1 ∙ same (sym p.0)
      ∙ ap (λ k. (leaf_at s k).charged) (sym p.0)
  by_case (inr p) = ap (λ (l : Leaf). l.charged) p.1

awake : (s : DispatchState) (j i tasks : ℕ) → i < length s.leaves
    → has_tasks (leaf_at s j) ≡ true → WaitsAt j s (Wake i tasks)
awake s j i tasks known has =
    kept s j i tasks known (λ e.
    let here : has_tasks (leaf_at s i) ≡ true =
    subst (λ (k : ℕ). has_tasks (leaf_at s k) ≡ true) (sym e) has in
    ap (λ (b : Bool). if b then (leaf_at s i).charged
    else lifted (leaf_at s i).charged (level s.slice (leaf_at s i).amount s.leaves)
    (greatest (leaf_at s i).amount s.leaves)) here)

-- ---- the clock of all

lower : (known : Option ℕ) (q : ℕ) → at_most known q ≤ q
lower None q = omega arith
lower (Some m) q = omega arith

lower_known : (m q most : ℕ) → m ≤ most → at_most (Some m) q ≤ most
lower_known m q most less = omega (arith, less)

level_keeps : (slice a : ℕ) (ls : List Leaf) (m most : ℕ) → m ≤ most
    → (n : ℕ) × (level_from (Some m) slice a ls ≡ Some n) × (n ≤ most)
level_keeps slice a [] m most less = (m, refl, less)
level_keeps slice a (l ∷ ls) m most less =
    by_test (has_tasks l) (λ k more. level_keeps slice a ls k most more) where
      q : ℕ
      q = a * settled slice l / l.amount

      by_test : (b : Bool)
          → ((k : ℕ) → k ≤ most → (n : ℕ) × (level_from (Some k) slice a ls ≡ Some n) × (n ≤ most))
          → (n : ℕ)
          × (level_from (if b then Some (at_most (Some m) q) else Some m) slice a ls ≡ Some n)
          × (n ≤ most)
      by_test true rest = rest (at_most (Some m) q) (lower_known m q most less)
      by_test false rest = rest m less

level_below : (slice a : ℕ) (ls : List Leaf) (known : Option ℕ) (k : ℕ)
    → has_tasks (get_or ls k (new_leaf 0)) ≡ true
    → (n : ℕ) × (level_from known slice a ls ≡ Some n)
    × (n ≤ a * settled slice (get_or ls k (new_leaf 0)) / (get_or ls k (new_leaf 0)).amount)
level_below slice a [] known k has = absurd (let clash : false ≡ true = has in cc clash)
level_below slice a (l ∷ ls) known zero has =
    let q = a * settled slice l / l.amount in
    subst (λ (b : Bool). (n : ℕ)
    × (level_from (if b then Some (at_most known q) else known) slice a ls ≡ Some n) × (n ≤ q))
    (sym has)
    (level_keeps slice a ls (at_most known q) q (lower known q))
level_below slice a (l ∷ ls) known (suc k) has =
    level_below slice a ls
    (if has_tasks l then Some (at_most known (a * settled slice l / l.amount)) else known)
    k has

none_of_zero : (a c n : ℕ) → 0 < n → c ≡ 0 → a * c / n ≤ 0
none_of_zero a c n some is =
    let none : a * c ≡ a * 0 = ap (λ m. a * m) is in
    let part = div-mul-le_self (a * c) n in
    small (a * c / n) n some (omega (arith, part, none)) where
      small : (q n : ℕ) → 0 < n → q * n ≤ 0 → q ≤ 0
      small zero n some h = omega arith
      small (suc q) n some h = absurd (let clash : ⊥ = omega (arith, some, h) in clash)

none_less : (c m : ℕ) → c ≡ 0 → c - m ≡ 0
none_less c m is = omega (arith, is)

level_zero : (slice a : ℕ) (ls : List Leaf) (known : Option ℕ)
    → ((k : ℕ) → (get_or ls k (new_leaf 0)).charged ≡ 0)
    → ((k : ℕ) → k < length ls → 0 < (get_or ls k (new_leaf 0)).amount)
    → IfSome known (λ n. n ≤ 0) → IfSome (level_from known slice a ls) (λ n. n ≤ 0)
level_zero slice a [] known zeros positive none = none
level_zero slice a (l ∷ ls) known zeros positive none =
    level_zero slice a ls
    (if has_tasks l then Some (at_most known (a * settled slice l / l.amount)) else known)
    (λ k. zeros (suc k)) (λ k less. positive (suc k) (omega (arith, less)))
    (by_test (has_tasks l)) where
      by_test : (b : Bool)
          → IfSome (if b then Some (at_most known (a * settled slice l / l.amount)) else known)
          (λ n. n ≤ 0)
      by_test true =
          let q = none_of_zero a (settled slice l) l.amount (positive 0 (omega arith))
          (none_less l.charged (slice * l.running) (zeros 0)) in
          omega (arith, q, lower known (a * settled slice l / l.amount))
      by_test false = none

greatest_zero : (a : ℕ) (ls : List Leaf) (known : ℕ)
    → ((k : ℕ) → (get_or ls k (new_leaf 0)).charged ≡ 0)
    → ((k : ℕ) → k < length ls → 0 < (get_or ls k (new_leaf 0)).amount)
    → known ≤ 0 → greatest_from known a ls ≤ 0
greatest_zero a [] known zeros positive none = none
greatest_zero a (l ∷ ls) known zeros positive none =
    let q = none_of_zero a l.charged l.amount (positive 0 (omega arith)) (zeros 0) in
    greatest_zero a ls (max known (a * l.charged / l.amount))
    (λ k. zeros (suc k)) (λ k less. positive (suc k) (omega (arith, less)))
    (omega (arith, q, none))

lifted_by_none : (c : ℕ) (o : Option ℕ) (top : ℕ) → IfSome o (λ n. n ≤ 0) → top ≤ 0
    → lifted c o top ≡ c
lifted_by_none c None top none least = omega (arith, least)
lifted_by_none c (Some n) top none least = omega (arith, none)

at_start : (s : DispatchState) (j i tasks : ℕ) → i < length s.leaves → AreAmounts s
    → ((k : ℕ) → (leaf_at s k).charged ≡ 0) → WaitsAt j s (Wake i tasks)
at_start s j i tasks known amounts zeros = kept s j i tasks known (λ e. by_test (has_tasks l)) where
  l : Leaf
  l = leaf_at s i

  by_test : (b : Bool)
      → (if b then l.charged
      else lifted l.charged (level s.slice l.amount s.leaves) (greatest l.amount s.leaves))
      ≡ l.charged
  by_test true = refl
  by_test false =
      lifted_by_none l.charged (level s.slice l.amount s.leaves) (greatest l.amount s.leaves)
      (level_zero s.slice l.amount s.leaves None zeros amounts tt)
      (greatest_zero l.amount s.leaves 0 zeros amounts (omega arith))

pub is_lifted_only_from_sleep : IsLiftedOnlyFromSleep
is_lifted_only_from_sleep = record { awake = awake; at_start = at_start }

lift_bound : (c n a ck early ak : ℕ) → n ≤ a * (ck - early) / ak → c < max c n
    → max c n * ak ≤ ck * a
lift_bound c n a ck early ak most more =
    let part = div-mul-le_self (a * (ck - early)) ak in
    let low = mul-le-mul_right ak most in
    let less : ck - early ≤ ck = omega arith in
    let all = mul-le-mul_left a less in
    let is : max c n ≡ n = omega (arith, more) in
    let product : max c n * ak ≡ n * ak = ap (λ m. m * ak) is in
    omega (arith, part, low, all, product)

pub lift_is_at_most_the_least : LiftIsAtMostTheLeast
lift_is_at_most_the_least s i k tasks known amounts has more' = result where
  l : Leaf
  l = leaf_at s i

  w : Leaf
  w = woken s.slice s.leaves tasks l

  is : leaf_at (after s (Wake i tasks)) i ≡ w
  is = get_or-set_same s.leaves i w (new_leaf 0) known

  more : l.charged < w.charged
  more = subst (λ (m : Leaf). l.charged < m.charged) is more'

  found : (n : ℕ) × (level s.slice l.amount s.leaves ≡ Some n)
      × (n ≤ l.amount * settled s.slice (leaf_at s k) / (leaf_at s k).amount)
  found = level_below s.slice l.amount s.leaves None k has

  top : ℕ
  top = greatest l.amount s.leaves

  by_test : (b : Bool)
      → l.charged
      < (if b then l.charged else lifted l.charged (level s.slice l.amount s.leaves) top)
      → (if b then l.charged else lifted l.charged (level s.slice l.amount s.leaves) top)
      * (leaf_at s k).amount
      ≤ (leaf_at s k).charged * l.amount
  by_test true h = absurd (let clash : ⊥ = omega (arith, h) in clash)
  by_test false h =
      subst (λ (o : Option ℕ). lifted l.charged o top * (leaf_at s k).amount
      ≤ (leaf_at s k).charged * l.amount) (sym found.1)
      (lift_bound l.charged found.0 l.amount (leaf_at s k).charged
      (s.slice * (leaf_at s k).running) (leaf_at s k).amount found.2
      (subst (λ (o : Option ℕ). l.charged < lifted l.charged o top) found.1 h))

  result : (leaf_at (after s (Wake i tasks)) i).charged * (leaf_at s k).amount
      ≤ (leaf_at s k).charged * (leaf_at (after s (Wake i tasks)) i).amount
  result = subst (λ (m : Leaf). m.charged * (leaf_at s k).amount ≤ (leaf_at s k).charged * m.amount)
      (sym is) (by_test (has_tasks l) more)
