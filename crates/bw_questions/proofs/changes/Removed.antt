-- A best split without one child: its place goes, and the others' marks keep their order.
use Rattle.std.proofs.Common.{◌≡◌, ℕ, suc, ◌+◌, ◌-◌, ◌*◌, ◌<◌, ◌≤◌, ◌⊎◌, List, length, get_or}
use Rattle.std.proofs.Common.{refl, arith, inl, inr}
use Rattle.std.specs.Prelude.{remove}
use Rattle.std.proofs.lemmas.Bool.{cases_lt}
use Rattle.std.proofs.lemmas.List.Edits.{length-remove}
use Rattle.bw_model.specs.Marks.{IsBelow}
use Rattle.bw_model.specs.Split.{IsSplit, IsBestSplit}
use Rattle.bw_model.proofs.CallerLemmas.{IsPairwise, pairwise-IsBestSplit}
use Rattle.bw_questions.specs.changes.OneSplit.{AreWeighted, RestStaysSplit}
use Rattle.bw_questions.proofs.changes.Lists.{removed_before, removed_after, removed_sum}
use Rattle.bw_questions.proofs.changes.Pairs.{best_pairs}

-- The place that a place of the rest had before.
record Before (gone place : ℕ) : Type 0 where
  old : ℕ
  same : (xs : List ℕ) → gone < length xs → get_or (remove xs gone) place 0 ≡ get_or xs old 0
  where_it_was : ((place < gone) × (old ≡ place)) ⊎ ((gone ≤ place) × (old ≡ suc place))

before : (gone place : ℕ) → Before gone place
before gone place = elim (cases_lt place gone) [
  | inl under ↦ record {
    old = place;
    same = λ xs inside. removed_before xs gone place inside under;
    where_it_was = inl (under, refl);
  }
  | inr over ↦ record {
    old = suc place;
    same = λ xs inside. removed_after xs gone place inside over;
    where_it_was = inr (over, refl);
  }
]

-- Places of the rest are in the order in which they were.
in_order : (gone i j : ℕ) (b : Before gone i) (c : Before gone j) → b.old < c.old → i < j
in_order gone i j b c less = elim b.where_it_was [
  | inl p ↦ elim c.where_it_was [
    | inl q ↦ omega (arith, p.0, p.1, q.0, q.1, less)
    | inr q ↦ omega (arith, p.0, p.1, q.0, q.1, less)
  ]
  | inr p ↦ elim c.where_it_was [
    | inl q ↦ omega (arith, p.0, p.1, q.0, q.1, less)
    | inr q ↦ omega (arith, p.0, p.1, q.0, q.1, less)
  ]
]

one_place : (gone i j : ℕ) (b : Before gone i) (c : Before gone j) → b.old ≡ c.old → i ≡ j
one_place gone i j b c equal = elim b.where_it_was [
  | inl p ↦ elim c.where_it_was [
    | inl q ↦ omega (arith, p.0, p.1, q.0, q.1, equal)
    | inr q ↦ omega (arith, p.0, p.1, q.0, q.1, equal)
  ]
  | inr p ↦ elim c.where_it_was [
    | inl q ↦ omega (arith, p.0, p.1, q.0, q.1, equal)
    | inr q ↦ omega (arith, p.0, p.1, q.0, q.1, equal)
  ]
]

moved_places : (n d m e s t i j : ℕ) → (s < t → i < j) → (s ≡ t → i ≡ j)
    → IsBelow (record { num = n; den = d; place = s }) (record { num = m; den = e; place = t })
    → IsBelow (record { num = n; den = d; place = i }) (record { num = m; den = e; place = j })
moved_places n d m e s t i j less same below = elim below [
  | inl lt ↦ inl lt
  | inr tie ↦ elim tie.1 [
    | inl first ↦ inr (tie.0, inl (less first))
    | inr here ↦ inr (tie.0, inr (same here.0, here.1))
  ]
]

module _ (amount : ℕ) (weights most parts : List ℕ) (child : ℕ)
    (weighted : AreWeighted weights most) (inside : child < length parts)
    (best : IsBestSplit amount weights most parts) where
  in_weights : child < length weights
  in_weights = omega (arith, inside, weighted.one_each, best.split.lengths)

  in_most : child < length most
  in_most = omega (arith, inside, best.split.lengths)

  one_less : length (remove parts child) + 1 ≡ length parts
  one_less = length-remove parts child inside

  old_in : (k : ℕ) → k < length (remove parts child) → (before child k).old < length parts
  old_in k below = elim (before child k).where_it_was [
    | inl p ↦ omega (arith, p.0, p.1, inside)
    | inr p ↦ omega (arith, p.0, p.1, below, one_less)
  ]

  rest_pairs : IsPairwise (remove weights child) (remove most child) (remove parts child)
  rest_pairs = record {
    above = λ j i j_in i_in room some.
        let b : Before child i = before child i in
        let c : Before child j = before child j in
        rw (
          b.same parts inside,
          b.same weights in_weights,
          c.same parts inside,
          c.same weights in_weights,
        )
        (moved_places (2 * get_or parts b.old 0 - 1) (get_or weights b.old 0)
        (2 * get_or parts c.old 0 + 1) (get_or weights c.old 0) b.old c.old i j
        (in_order child i j b c) (one_place child i j b c)
        ((best_pairs amount weights most parts weighted best).above c.old b.old
        (old_in j j_in) (old_in i i_in)
        (rw (c.same parts inside, c.same most in_most) at room)
        (rw (b.same parts inside) at some)));
  }

  rest_split : IsSplit (amount - get_or parts child 0) (remove most child) (remove parts child)
  rest_split = record {
    lengths = omega (arith, one_less, length-remove most child in_most, best.split.lengths);
    whole = omega (arith, removed_sum parts child inside, best.split.whole);
    within = λ k below.
        let b : Before child k = before child k in
        rw (b.same parts inside, b.same most in_most)
        (best.split.within b.old (old_in k below));
  }

  rest_positive : (k : ℕ) → k < length (remove parts child) → 0 < get_or (remove weights child) k 0
  rest_positive k below =
      let b : Before child k = before child k in
      rw (b.same weights in_weights)
      (weighted.positive b.old
      (omega (arith, old_in k below, weighted.one_each, best.split.lengths)))

pub rest_stays : RestStaysSplit
rest_stays amount weights most parts child weighted inside best =
    pairwise-IsBestSplit (remove weights child) (remove most child) (remove parts child)
    (omega (
      arith,
      one_less amount weights most parts child weighted inside best,
      length-remove weights child (in_weights amount weights most parts child weighted inside best),
      weighted.one_each,
      best.split.lengths,
    ))
    (rest_positive amount weights most parts child weighted inside best)
    (amount - get_or parts child 0)
    (rest_split amount weights most parts child weighted inside best)
    (rest_pairs amount weights most parts child weighted inside best)
