-- A child whose weight or maximum is raised loses nothing, and no other child gains.
use Rattle.std.proofs.Common.{◌≡◌, ◌≢◌, ℕ, ◌<◌, ◌≤◌, List, length}
use Rattle.std.proofs.Common.{get_or, ap, sym, ◌∙◌, arith, inl, inr}
use Rattle.std.proofs.lemmas.Bool.{cases_lt, cases_eq}
use Rattle.bw_model.specs.Split.{IsBestSplit}
use Rattle.bw_questions.specs.changes.OneSplit.{AreWeighted, IsRaised, RaisedChildAloneGains}
use Rattle.bw_questions.specs.changes.OneSplit.{LighterHasNoMore}
use Rattle.bw_questions.proofs.changes.Lists.{find_greater, outside}
use Rattle.bw_questions.proofs.changes.Pairs.{best_pairs, no_swap}

-- Two best splits, in the second of which no weight and no maximum is smaller.
module _ (amount other : ℕ) (weights most more_weights more_most parts others : List ℕ)
    (weighted : AreWeighted weights most) (more_weighted : AreWeighted more_weights more_most)
    (as_many : length more_most ≡ length most)
    (heavier : (k : ℕ) → get_or weights k 0 ≤ get_or more_weights k 0)
    (roomier : (k : ℕ) → get_or most k 0 ≤ get_or more_most k 0)
    (best : IsBestSplit amount weights most parts)
    (next : IsBestSplit other more_weights more_most others) where
  same : length others ≡ length parts
  same = next.split.lengths ∙ as_many ∙ sym best.split.lengths

  positive : (k : ℕ) → k < length parts → 0 < get_or weights k 0
  positive k below =
      weighted.positive k (omega (arith, below, weighted.one_each, best.split.lengths))

  more_positive : (k : ℕ) → k < length parts → 0 < get_or more_weights k 0
  more_positive k below =
      more_weighted.positive k
      (omega (arith, below, more_weighted.one_each, as_many, best.split.lengths))

  -- A child of no greater weight that could take more cannot have more while any child has less.
  clash : (j k : ℕ) → get_or more_weights j 0 ≤ get_or weights j 0
      → get_or parts j 0 < get_or most j 0 → j < length parts → k < length parts
      → get_or parts j 0 < get_or others j 0 → get_or others k 0 < get_or parts k 0 → ⊥
  clash j k light room j_in k_in gains loses =
      let under : get_or parts k 0 ≤ get_or most k 0 =
      best.split.within k k_in in
      no_swap weights most parts more_weights more_most others
      (best_pairs amount weights most parts weighted best)
      (best_pairs other more_weights more_most others more_weighted next)
      j k j_in k_in same (positive j j_in) (positive k k_in) (more_positive j j_in)
      (more_positive k k_in) gains loses light room (heavier k)
      (omega (arith, loses, under, roomier k))

  -- With no more to split, such a child has no more.
  pub no_more_with_room : other ≤ amount → (j : ℕ) → get_or more_weights j 0 ≤ get_or weights j 0
      → get_or parts j 0 < get_or most j 0 → get_or others j 0 ≤ get_or parts j 0
  no_more_with_room less j light room =
      elim (cases_lt (get_or parts j 0) (get_or others j 0)) [
        | inr fine ↦ fine
        | inl gains ↦ elim (cases_lt j (length parts)) [
          | inr out ↦ absurd
              (let nothing : get_or others j 0 ≡ 0 = outside others j (omega (arith, out, same)) in
              omega (arith, nothing, gains))
          | inl inside ↦ elim (find_greater others parts same
              (omega (arith, best.split.whole, next.split.whole, less))) [
                | inr equal ↦ absurd
                    (let e : get_or others j 0 ≡ get_or parts j 0 =
                    ap (λ xs. get_or xs j 0) equal in
                    omega (arith, e, gains))
                | inl found ↦ absurd
                    (clash j found.0 light room inside (omega (arith, found.1, same)) gains
                    found.2)
              ]
        ]
      ]

-- Two best splits, in the second of which the weight or the maximum of one child may be greater.
module _ (amount other : ℕ) (weights most more_weights more_most parts others : List ℕ)
    (child : ℕ) (weighted : AreWeighted weights most)
    (more_weighted : AreWeighted more_weights more_most)
    (raised : IsRaised weights most more_weights more_most child)
    (best : IsBestSplit amount weights most parts)
    (next : IsBestSplit other more_weights more_most others) where
  no_lighter : (k : ℕ) → get_or weights k 0 ≤ get_or more_weights k 0
  no_lighter k = elim (cases_eq k child) [
    | inl here ↦ rw here raised.weight
    | inr apart ↦ omega (arith, (raised.others k apart).0)
  ]

  no_tighter : (k : ℕ) → get_or most k 0 ≤ get_or more_most k 0
  no_tighter k = elim (cases_eq k child) [
    | inl here ↦ rw here raised.maximum
    | inr apart ↦ omega (arith, (raised.others k apart).1)
  ]

  as_long : length others ≡ length parts
  as_long = next.split.lengths ∙ raised.as_many ∙ sym best.split.lengths

  -- With no more to split, no other child has more.
  pub others_lose : other ≤ amount → (k : ℕ) → k ≢ child → get_or others k 0 ≤ get_or parts k 0
  others_lose less k apart = elim (cases_lt (get_or parts k 0) (get_or most k 0)) [
    | inl room ↦ no_more_with_room amount other weights most more_weights more_most parts others
        weighted more_weighted raised.as_many no_lighter no_tighter best next less k
        (omega (arith, (raised.others k apart).0)) room
    | inr full ↦ elim (cases_lt k (length parts)) [
      | inr out ↦
          let nothing : get_or others k 0 ≡ 0 = outside others k (omega (arith, out, as_long)) in
          omega (arith, nothing)
      | inl inside ↦
          let over : get_or others k 0 ≤ get_or more_most k 0 =
          next.split.within k (omega (arith, inside, as_long)) in
          omega (arith, over, full, (raised.others k apart).1)
    ]
  ]

  -- With no less to split, the child has no less.
  pub child_keeps : amount ≤ other → get_or parts child 0 ≤ get_or others child 0
  child_keeps more = elim (cases_lt (get_or others child 0) (get_or parts child 0)) [
    | inr fine ↦ fine
    | inl loses ↦ elim (cases_lt child (length parts)) [
      | inr out ↦ absurd
          (let nothing : get_or parts child 0 ≡ 0 = outside parts child out in
          omega (arith, nothing, loses))
      | inl inside ↦ elim (find_greater parts others (sym as_long)
          (omega (arith, best.split.whole, next.split.whole, more))) [
            | inr equal ↦ absurd
                (let e : get_or parts child 0 ≡ get_or others child 0 =
                ap (λ xs. get_or xs child 0) equal in
                omega (arith, e, loses))
            | inl found ↦ elim (cases_eq found.0 child) [
              | inl here ↦ absurd
                  (let gains : get_or parts child 0 < get_or others child 0 =
                  rw here at found.2 in
                  omega (arith, gains, loses))
              | inr apart ↦ absurd
                  (let over : get_or others found.0 0 ≤ get_or more_most found.0 0 =
                  next.split.within found.0 (omega (arith, found.1, as_long)) in
                  clash amount other weights most more_weights more_most parts others weighted
                  more_weighted raised.as_many no_lighter no_tighter best next found.0 child
                  (omega (arith, (raised.others found.0 apart).0))
                  (omega (arith, found.2, over, (raised.others found.0 apart).1))
                  found.1 inside found.2 loses)
            ]
          ]
    ]
  ]

pub raised_alone_gains : RaisedChildAloneGains
raised_alone_gains amount w m v n xs ys child weighted more_weighted raised best next = (
  child_keeps amount amount w m v n xs ys child weighted more_weighted raised best next
      (omega arith),
  others_lose amount amount w m v n xs ys child weighted more_weighted raised best next
      (omega arith),
)

-- A child that is no heavier, beside siblings that are no lighter, has no more of no more.
pub lighter_no_more : LighterHasNoMore
lighter_no_more amount less weights most other_weights parts others child fewer weighted
    other_weighted lighter heavier best next room =
    elim (cases_lt (get_or parts child 0) (get_or others child 0)) [
      | inr fine ↦ fine
      | inl gains ↦ elim (cases_lt child (length parts)) [
        | inr out ↦ absurd
            (let nothing : get_or others child 0 ≡ 0 = outside others child (omega (arith, out, same))
            in omega (arith, nothing, gains))
        | inl inside ↦ elim (find_greater others parts same
            (omega (arith, best.split.whole, next.split.whole, fewer))) [
              | inr equal ↦ absurd
                  (let e : get_or others child 0 ≡ get_or parts child 0 =
                  ap (λ xs. get_or xs child 0) equal in
                  omega (arith, e, gains))
              | inl found ↦ absurd
                  (swapped found.0 (omega (arith, found.1, same)) inside gains found.2)
            ]
      ]
    ]
  where
    same : length others ≡ length parts
    same = next.split.lengths ∙ sym best.split.lengths

    swapped : (k : ℕ) → k < length parts → child < length parts
        → get_or parts child 0 < get_or others child 0 → get_or others k 0 < get_or parts k 0 → ⊥
    swapped k k_in inside gains loses =
        let apart : k ≢ child =
        (λ here. let l : get_or others child 0 < get_or parts child 0 = rw here at loses in
        let clash : ⊥ = omega (arith, l, gains) in clash) in
        let under : get_or parts k 0 ≤ get_or most k 0 = best.split.within k k_in in
        no_swap weights most parts other_weights most others
        (best_pairs amount weights most parts weighted best)
        (best_pairs less other_weights most others other_weighted next)
        child k inside k_in same
        (weighted.positive child (omega (arith, inside, weighted.one_each, best.split.lengths)))
        (weighted.positive k (omega (arith, k_in, weighted.one_each, best.split.lengths)))
        (other_weighted.positive child
        (omega (arith, inside, other_weighted.one_each, best.split.lengths)))
        (other_weighted.positive k (omega (arith, k_in, other_weighted.one_each, best.split.lengths)))
        gains loses lighter room (heavier k apart) (omega (arith, loses, under))
