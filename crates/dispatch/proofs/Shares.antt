-- The part that a leaf has of the use of all, if it waits throughout: the leads over it, added up.
use Rattle.std.proofs.Common.{◌≡◌, ℕ, zero, suc, ◌+◌, ◌-◌, ◌*◌, ◌<◌, ◌≤◌, List, [], ◌∷◌}
use Rattle.std.proofs.Common.{length, get_or, ap, sym, subst}
use Rattle.std.proofs.Common.{arith}
use Rattle.std.specs.List.{sum_by}
use Rattle.std.proofs.lemmas.List.Sums.{sum_by-cons}
use Rattle.dispatch.specs.declared.leaves.Leaf.{Leaf}
use Rattle.dispatch.specs.Rule.{DispatchState, leaf_at, new_leaf}
use Rattle.dispatch.specs.Runs.{after_all, most_short}
use Rattle.dispatch.specs.Runs.{ShareIsKept, used_by_all, amount_of_all, runs_of}
use Rattle.dispatch.proofs.Leads.{lead_is_bounded, leaves_kept, by_index}

-- ---- sums

sums : (f g : Leaf → ℕ) (d : Leaf) (ls : List Leaf)
    → ((i : ℕ) → i < length ls → f (get_or ls i d) ≤ g (get_or ls i d))
    → sum_by f ls ≤ sum_by g ls
sums f g d [] each = omega arith
sums f g d (l ∷ ls) each =
    omega (
      arith,
      each 0 (omega arith),
      sums f g d ls (λ i less. each (suc i) (omega (arith, less))),
      sum_by-cons f l ls,
      sum_by-cons g l ls,
    )

sums_apart : (f g : Leaf → ℕ) (d : Leaf) (ls : List Leaf) (j c : ℕ)
    → ((i : ℕ) → i < length ls → f (get_or ls i d) ≤ g (get_or ls i d)) → j < length ls
    → f (get_or ls j d) + c ≤ g (get_or ls j d) → sum_by f ls + c ≤ sum_by g ls
sums_apart f g d [] j c each known here = absurd (let clash : ⊥ = omega (arith, known) in clash)
sums_apart f g d (l ∷ ls) zero c each known here =
    omega (
      arith,
      here,
      sums f g d ls (λ i less. each (suc i) (omega (arith, less))),
      sum_by-cons f l ls,
      sum_by-cons g l ls,
    )
sums_apart f g d (l ∷ ls) (suc j) c each known here =
    omega (
      arith,
      each 0 (omega arith),
      sums_apart f g d ls j c (λ i less. each (suc i) (omega (arith, less)))
          (omega (arith, known)) here,
      sum_by-cons f l ls,
      sum_by-cons g l ls,
    )

uses_times : (b : ℕ) (ls : List Leaf)
    → sum_by (λ l. l.used * b) ls ≡ sum_by (λ l. l.used) ls * b
uses_times b [] = omega arith
uses_times b (l ∷ ls) =
    let here = sum_by-cons (λ (m : Leaf). m.used) l ls in
    let times : sum_by (λ m. m.used) (l ∷ ls) * b ≡ (l.used + sum_by (λ m. m.used) ls) * b =
    ap (λ n. n * b) here in
    omega (arith, sum_by-cons (λ (m : Leaf). m.used * b) l ls, uses_times b ls, times)

bounds_sum : (u p slice b over : ℕ) (ls : List Leaf)
    → sum_by (λ l. u * l.amount + (slice * b + p * (slice * l.amount) + over)) ls
    ≡ u * sum_by (λ l. l.amount) ls
    + (length ls * (slice * b) + p * (slice * sum_by (λ l. l.amount) ls) + length ls * over)
bounds_sum u p slice b over [] = omega arith
bounds_sum u p slice b over (l ∷ ls) =
    let here = sum_by-cons (λ (m : Leaf). m.amount) l ls in
    let one : u * sum_by (λ m. m.amount) (l ∷ ls) ≡ u * (l.amount + sum_by (λ m. m.amount) ls) =
    ap (λ n. u * n) here in
    let two : p * (slice * sum_by (λ m. m.amount) (l ∷ ls))
    ≡ p * (slice * (l.amount + sum_by (λ m. m.amount) ls)) =
    ap (λ n. p * (slice * n)) here in
    omega (
      arith,
      bounds_sum u p slice b over ls,
      one,
      two,
      sum_by-cons (λ (m : Leaf). u * m.amount + (slice * b + p * (slice * m.amount) + over)) l ls,
    )

member_at_most : (f : Leaf → ℕ) (d : Leaf) (ls : List Leaf) (j : ℕ) → j < length ls
    → f (get_or ls j d) ≤ sum_by f ls
member_at_most f d [] j known = absurd (let clash : ⊥ = omega (arith, known) in clash)
member_at_most f d (l ∷ ls) zero known = omega (arith, sum_by-cons f l ls)
member_at_most f d (l ∷ ls) (suc j) known =
    omega (arith, member_at_most f d ls j (omega (arith, known)), sum_by-cons f l ls)

-- the leaf's own share of the bounds is taken off
cut : (every b u rest slice p over m : ℕ)
    → every * b + (slice * b + p * (slice * b) + over)
    ≤ u * (b + rest) + (suc m * (slice * b) + p * (slice * (b + rest)) + suc m * over)
    → every * b ≤ u * (b + rest) + (m * (slice * b) + p * (slice * rest) + m * over)
cut every b u rest slice p over m h = omega (arith, h)

trim : (u r b most : ℕ) → (u + r) * b ≤ most → u * b ≤ most
trim u r b most h = omega (arith, h)

pub share_is_kept : ShareIsKept
share_is_kept s overrun j events start run known waits = result where
  t : DispatchState
  t = after_all s events

  b : ℕ
  b = (leaf_at t j).amount

  all : ℕ
  all = amount_of_all t

  u : ℕ
  u = (leaf_at t j).used

  slice : ℕ
  slice = s.slice

  p : ℕ
  p = length s.processors - 1

  over : ℕ
  over = length s.processors * (overrun * b)

  same : length t.leaves ≡ length s.leaves
  same = leaves_kept s overrun events run

  inside : j < length t.leaves
  inside = omega (arith, same, known)

  f : Leaf → ℕ
  f l = l.used * b

  g : Leaf → ℕ
  g l = u * l.amount + (slice * b + p * (slice * l.amount) + over)

  each : (i : ℕ) → i < length t.leaves → f (leaf_at t i) ≤ g (leaf_at t i)
  each i less = by_index (λ (k : ℕ). f (leaf_at t k) ≤ g (leaf_at t k)) i j
      (omega arith)
      (λ ne. trim (leaf_at t i).used ((t.slice + overrun) * runs_of i t.processors) b
      (g (leaf_at t i))
      (lead_is_bounded s overrun i j events start run waits ne))

  own : f (leaf_at t j) + (slice * b + p * (slice * b) + over) ≤ g (leaf_at t j)
  own = omega arith

  summed : sum_by f t.leaves + (slice * b + p * (slice * b) + over) ≤ sum_by g t.leaves
  summed =
      sums_apart f g (new_leaf 0) t.leaves j (slice * b + p * (slice * b) + over) each inside own

  additive : used_by_all t * b + (slice * b + p * (slice * b) + over)
      ≤ u * all + (length t.leaves * (slice * b) + p * (slice * all) + length t.leaves * over)
  additive = omega (arith, summed, uses_times b t.leaves, bounds_sum u p slice b over t.leaves)

  whole : b + (all - b) ≡ all
  whole = omega (arith, member_at_most (λ l. l.amount) (new_leaf 0) t.leaves j inside)

  count : suc (length s.leaves - 1) ≡ length t.leaves
  count = omega (arith, same, known)

  parted : used_by_all t * b + (slice * b + p * (slice * b) + over)
      ≤ u * (b + (all - b)) + (suc (length s.leaves - 1) * (slice * b)
      + p * (slice * (b + (all - b))) + suc (length s.leaves - 1) * over)
  parted = subst (λ (n : ℕ). used_by_all t * b + (slice * b + p * (slice * b) + over)
      ≤ u * n + (suc (length s.leaves - 1) * (slice * b)
      + p * (slice * n) + suc (length s.leaves - 1) * over)) (sym whole)
      (subst (λ (n : ℕ). used_by_all t * b + (slice * b + p * (slice * b) + over)
      ≤ u * all + (n * (slice * b) + p * (slice * all) + n * over)) (sym count) additive)

  result : used_by_all t * b
      ≤ u * all + most_short s.slice overrun (length s.processors) (length s.leaves) all b
  result = subst (λ (n : ℕ). used_by_all t * b
      ≤ u * n + most_short s.slice overrun (length s.processors) (length s.leaves) all b) whole
      (cut (used_by_all t) b u (all - b) slice p over (length s.leaves - 1) parted)
