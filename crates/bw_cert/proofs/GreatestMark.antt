-- The greatest last mark of the first parts, as the loop over the children finds it.
use Rattle.std.proofs.Common.{◌≡◌, ℕ, ◌+◌, ◌<◌, List, Option, None, Some, length, get_or}
use Rattle.std.proofs.Common.{sym, subst, ap, arith, ◌⊎◌, inl, inr}
use Rattle.std.specs.Prelude.{IfSome, IfNone}
use Rattle.std.proofs.lemmas.Bool.{cases_eq}
use Rattle.bw_model.specs.declared.mark.Mark.{Mark}
use Rattle.bw_model.specs.Marks.{MarkValue, price_of, last_mark, IsBelow, IsAtMost}
use Rattle.bw_model.specs.Split.{IsGreatestLast}
use Rattle.bw_model.proofs.CallerLemmas.{IsBelow-trans, IsBelow-irrefl, IsBelow-cases}

module _ (weights parts : List ℕ) where
  -- the last mark of a child
  abbrev pub mark_at : ℕ → MarkValue
  mark_at k = last_mark (get_or parts k 0) (get_or weights k 0) k

  -- the mark is the last one of a part above 0 among the first i, and none of theirs is above it
  pub record IsGreatestOf (i : ℕ) (mark : MarkValue) : Type 0 where
    pub one : ℕ
    pub seen : one < i
    pub some : 0 < get_or parts one 0
    pub is : mark ≡ mark_at one
    pub others : (k : ℕ) → k < i → 0 < get_or parts k 0 → IsAtMost (mark_at k) mark

  -- the greatest last mark of the first i parts, if one is above 0
  abbrev pub GreatestOf : ℕ → Option Mark → Type 0
  GreatestOf i None = (k : ℕ) → k < i → get_or parts k 0 ≡ 0
  GreatestOf i (Some mark) = IsGreatestOf i (price_of mark)

  -- no slice at i
  pub greatest_kept : (i : ℕ) (best : Option Mark) → GreatestOf i best → get_or parts i 0 ≡ 0
      → GreatestOf (i + 1) best
  greatest_kept i None so_far zero' = λ k below.
      elim (cases_eq k i) [ inl same ↦ rw same zero' | inr other ↦ so_far k (omega (arith, other)) ]
  greatest_kept i (Some mark) so_far zero' = record {
    one = so_far.one;
    seen = omega (arith, so_far.seen);
    some = so_far.some;
    is = so_far.is;
    others = λ k below positive. elim (cases_eq k i) [
      | inl same ↦ absurd
          (let p : 0 < get_or parts i 0 = rw same at positive in omega (arith, p, zero'))
      | inr other ↦ so_far.others k (omega (arith, other)) positive
    ];
  }

  module _ (i : ℕ) (weights_pos : (k : ℕ) → k < i + 1 → 0 < get_or weights k 0)
      (here : 0 < get_or parts i 0) (mark : Mark) (is : price_of mark ≡ mark_at i) where
    -- the mark is at most itself
    own : (k : ℕ) → k ≡ i → IsAtMost (mark_at k) (price_of mark)
    own k same = subst (λ (j : ℕ). IsAtMost (mark_at j) (price_of mark)) (sym same)
        (subst (λ (m : MarkValue). IsAtMost (mark_at i) m) (sym is) (IsBelow-irrefl (mark_at i)))

    -- the first part above 0
    pub greatest_first : GreatestOf i None → GreatestOf (i + 1) (Some mark)
    greatest_first so_far = record {
      one = i;
      seen = omega arith;
      some = here;
      is = is;
      others = λ k below positive. elim (cases_eq k i) [
        | inl same ↦ own k same
        | inr other ↦
            absurd (let z : get_or parts k 0 ≡ 0 =
            so_far k (omega (arith, other)) in omega (arith, z, positive))
      ];
    }

    -- a mark below the greatest so far
    pub greatest_stays : (best : Mark) → IsBelow (price_of mark) (price_of best)
        → GreatestOf i (Some best) → GreatestOf (i + 1) (Some best)
    greatest_stays best below_best so_far = record {
      one = so_far.one;
      seen = omega (arith, so_far.seen);
      some = so_far.some;
      is = so_far.is;
      others = λ k below positive. elim (cases_eq k i) [
        | inl same ↦ λ above.
            let back : IsBelow (price_of best) (price_of mark) =
            subst (λ (m : MarkValue). IsBelow (price_of best) m) (sym is)
            (subst (λ (j : ℕ). IsBelow (price_of best) (mark_at j)) same above) in
            IsBelow-irrefl (price_of best)
            (IsBelow-trans (price_of best) (price_of mark) (price_of best) best.den_positive
            mark.den_positive best.den_positive back below_best)
        | inr other ↦ so_far.others k (omega (arith, other)) positive
      ];
    }

    -- a mark at a later place that is not below it
    pub greatest_taken : (best : Mark) → (IsBelow (price_of mark) (price_of best) → ⊥)
        → GreatestOf i (Some best) → GreatestOf (i + 1) (Some mark)
    greatest_taken best not_below so_far =
        let above : IsBelow (price_of best) (price_of mark) =
        elim (IsBelow-cases (price_of mark) (price_of best)) [
          | inl lower ↦ absurd (not_below lower)
          | inr (inl higher) ↦ higher
          | inr (inr same) ↦ absurd
              (let place : mark.place ≡ i = ap (λ (m : MarkValue). m.place) is in
              let first : best.place ≡ so_far.one = ap (λ (m : MarkValue). m.place) so_far.is in
              omega (arith, place, first, same.1, so_far.seen))
        ] in
        record {
          one = i;
          seen = omega arith;
          some = here;
          is = is;
          others = λ k below positive. elim (cases_eq k i) [
            | inl same ↦ own k same
            | inr other ↦ (λ back. so_far.others k (omega (arith, other)) positive
                (IsBelow-trans (price_of best) (price_of mark) (mark_at k) best.den_positive
                mark.den_positive (weights_pos k below) above back))
          ];
        }

    -- the greater of the mark and the greatest so far
    pub greatest_more : (best : Option Mark) (greater : Mark) → GreatestOf i best
        → IfNone best (greater ≡ mark)
        → IfSome best (λ b. ((greater ≡ b) × IsBelow (price_of mark) (price_of b))
        ⊎ ((greater ≡ mark) × IsAtMost (price_of b) (price_of mark)))
        → GreatestOf (i + 1) (Some greater)
    greatest_more None greater so_far same either = rw same (greatest_first so_far)
    greatest_more (Some b) greater so_far same either = elim either [
      | inl stays ↦ rw stays.0 (greatest_stays b stays.1 so_far)
      | inr taken ↦ rw taken.0 (greatest_taken b taken.1 so_far)
    ]

  -- all parts seen
  pub greatest_all : (i : ℕ) (best : Option Mark) → i ≡ length parts → GreatestOf i best
      → IfSome best (λ mark. IsGreatestLast weights parts (price_of mark))
  greatest_all i None all found = tt
  greatest_all i (Some mark) all found = record {
    of_one = (found.one, omega (arith, found.seen, all), found.some, found.is);
    others = λ k below. found.others k (omega (arith, below, all));
  }

  pub none_all : (i : ℕ) (best : Option Mark) → i ≡ length parts → GreatestOf i best
      → IfNone best ((k : ℕ) → k < length parts → get_or parts k 0 ≡ 0)
  none_all i None all found = λ k below. found k (omega (arith, below, all))
  none_all i (Some mark) all found = tt
