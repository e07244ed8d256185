-- The rest of an amount, a slice each to the first children that take one more a step above the
-- level.
use Rattle.std.proofs.Common.{◌≡◌, ℕ, zero, suc, ◌+◌, ◌-◌, ◌*◌, ◌<◌, ◌≤◌, ◌⊎◌, List, length, get_or, set}
use Rattle.std.proofs.Common.{refl, sym, ap, ◌∙◌, arith, inl, inr}
use Rattle.std.specs.Prelude.{Bool, true, false, IsTrue, sum}
use mir.Val.{bool_byte}
use Rattle.std.proofs.lemmas.Bool.{cases_lt, cases_eq}
use Rattle.std.proofs.lemmas.List.{get_or-set_same, get_or-set_other}
use Rattle.std.proofs.Math.ListN.{length-set}
use Rattle.bw_model.specs.Split.{IsBestSplit}
use Rattle.bw_model.proofs.CallerLemmas.{IsPairwise, pairwise-IsBestSplit, cross_lt_right}
use Rattle.bw_model.proofs.CallerLemmas.{sum_below, sum_below-ap, sum_below-more, sum-is}
use Rattle.bw_split.specs.Levels.{taken, taken_by_all}
use Rattle.bw_split.proofs.Takes.{IsTaken, taken-is, taken-mono, taken-step, each_takes, same_cost}
use Rattle.bw_split.proofs.Takes.{by_all-is}
use Rattle.bw_model.specs.declared.limits.TheConstants.{MIN_WEIGHT, MAX_WEIGHT}
use Rattle.bw_split.specs.declared.limits.TheConstants.{STEPS}

-- So many slices were given after what all take at the level: each child before a place has what it
-- takes one step above it,
-- and each other what it takes at it.
pub record IsGiven (level given from : ℕ) (weights most parts : List ℕ) : Type 0 where
  pub lengths : length parts ≡ length weights
  pub sums : sum parts ≡ taken_by_all level weights most + given
  pub seen : (k : ℕ) → k < from → get_or parts k 0 ≡ each_takes (level + 1) weights most k
  pub unseen : (k : ℕ) → from ≤ k → k < length weights
      → get_or parts k 0 ≡ each_takes level weights most k

-- The parts of the children before a place are written over their maxima: of the slices that were
-- left over, each of the first ones has one, while some are left.
pub record IsWritten (level rest left at : ℕ) (weights most parts : List ℕ) : Type 0 where
  pub from : ℕ
  pub inside : from ≤ at
  pub lengths : length parts ≡ length most
  pub sums : sum_below at (λ k. get_or parts k 0) + left
      ≡ sum_below at (each_takes level weights most) + rest
  pub going : 0 < left → from ≡ at
  pub seen : (k : ℕ) → k < from → get_or parts k 0 ≡ each_takes (level + 1) weights most k
  pub unseen : (k : ℕ) → from ≤ k → k < at → get_or parts k 0 ≡ each_takes level weights most k
  pub unwritten : (k : ℕ) → at ≤ k → get_or parts k 0 ≡ get_or most k 0

pub written-none : (level rest : ℕ) (weights most : List ℕ)
    → IsWritten level rest rest 0 weights most most
written-none level rest weights most = record {
  from = 0;
  inside = omega arith;
  lengths = refl;
  sums = refl;
  going = λ _. refl;
  seen = λ k below. absurd (omega arith);
  unseen = λ k _ below. absurd (omega arith);
  unwritten = λ k _. refl;
}

module _ (level rest left at : ℕ) (weights most parts : List ℕ)
    (so_far : IsWritten level rest left at weights most parts) (x : ℕ)
    (here : at < length most) where
  -- the sum with one part more
  sums_more : sum_below (at + 1) (λ k. get_or (set parts at x) k 0)
      ≡ sum_below at (λ k. get_or parts k 0) + x
  sums_more =
      let front : sum_below at (λ k. get_or (set parts at x) k 0)
      ≡ sum_below at (λ k. get_or parts k 0) =
      sum_below-ap at (λ k. get_or (set parts at x) k 0) (λ k. get_or parts k 0)
      (λ k below. get_or-set_other parts at k x 0 (λ e. omega (arith, e, below))) in
      let own : get_or (set parts at x) at 0 ≡ x =
      get_or-set_same parts at x 0 (omega (arith, so_far.lengths, here)) in
      omega (arith, sum_below-more at (λ k. get_or (set parts at x) k 0), front, own)

  own_is : (k : ℕ) → k ≡ at → get_or (set parts at x) k 0 ≡ x
  own_is k e = rw e (get_or-set_same parts at x 0 (omega (arith, so_far.lengths, here)))

  -- one of the first children that take one more has a slice that was left
  pub written-one_more : get_or weights at 0 ≤ MAX_WEIGHT → 0 < left
      → x ≡ each_takes level weights most at + 1
      → each_takes level weights most at < each_takes (level + 1) weights most at
      → IsWritten level rest (left - 1) (at + 1) weights most (set parts at x)
  written-one_more light some is more =
      let step : each_takes (level + 1) weights most at ≤ each_takes level weights most at + 1 =
      taken-step level (get_or weights at 0) (get_or most at 0) light in
      let all : so_far.from ≡ at = so_far.going some in
      record {
        from = at + 1;
        inside = omega arith;
        lengths = length-set parts at x ∙ so_far.lengths;
        sums = omega (
          arith,
          sums_more,
          so_far.sums,
          sum_below-more at (each_takes level weights most),
          is,
          some,
        );
        going = λ _. refl;
        seen = λ k below. elim (cases_eq k at) [
          | inl same ↦ rw same (own_is at refl ∙ omega (arith, step, more, is))
          | inr other ↦ get_or-set_other parts at k x 0 other
              ∙ so_far.seen k (omega (arith, other, below, all))
        ];
        unseen = λ k above below. absurd (omega (arith, above, below));
        unwritten = λ k above. get_or-set_other parts at k x 0 (λ e. omega (arith, e, above))
            ∙ so_far.unwritten k (omega (arith, above));
      }

  -- a child that takes no more a step above the level, or none is left
  pub written-same : x ≡ each_takes level weights most at
      → (0 < left → each_takes (level + 1) weights most at ≤ each_takes level weights most at)
      → IsWritten level rest left (at + 1) weights most (set parts at x)
  written-same is no_more = elim (cases_lt 0 left) [
    | inl some ↦ record {
      from = at + 1;
      inside = omega arith;
      lengths = length-set parts at x ∙ so_far.lengths;
      sums = sums_same;
      going = λ _. refl;
      seen = λ k below. elim (cases_eq k at) [
        | inl same ↦ rw same (own_is at refl ∙ omega (arith, up, no_more some, is))
        | inr other ↦ get_or-set_other parts at k x 0 other
            ∙ so_far.seen k (omega (arith, other, below, so_far.going some))
      ];
      unseen = λ k above below. absurd (omega (arith, above, below));
      unwritten = unwritten_more;
    }
    | inr none ↦ record {
      from = so_far.from;
      inside = omega (arith, so_far.inside);
      lengths = length-set parts at x ∙ so_far.lengths;
      sums = sums_same;
      going = λ some. absurd (omega (arith, some, none));
      seen = λ k below.
          get_or-set_other parts at k x 0 (λ e. omega (arith, e, below, so_far.inside))
          ∙ so_far.seen k below;
      unseen = λ k above below. elim (cases_eq k at) [
        | inl same ↦ rw same (own_is at refl ∙ is)
        | inr other ↦ get_or-set_other parts at k x 0 other
            ∙ so_far.unseen k above (omega (arith, other, below))
      ];
      unwritten = unwritten_more;
    }
  ]
    where
      sums_same : sum_below (at + 1) (λ k. get_or (set parts at x) k 0) + left
          ≡ sum_below (at + 1) (each_takes level weights most) + rest
      sums_same = omega (
        arith,
        sums_more,
        so_far.sums,
        sum_below-more at (each_takes level weights most),
        is,
      )

      up : each_takes level weights most at ≤ each_takes (level + 1) weights most at
      up = taken-mono level (level + 1) (get_or weights at 0) (get_or most at 0) (omega arith)

      unwritten_more : (k : ℕ) → at + 1 ≤ k → get_or (set parts at x) k 0 ≡ get_or most k 0
      unwritten_more k above = get_or-set_other parts at k x 0 (λ e. omega (arith, e, above))
          ∙ so_far.unwritten k (omega (arith, above))

-- one part more, with a slice that was left or without one
pub written-next : (level rest left at : ℕ) (weights most parts : List ℕ)
    → IsWritten level rest left at weights most parts → at < length most
    → get_or weights at 0 ≤ MAX_WEIGHT → (more : Bool) (given x : ℕ) → given ≡ bool_byte more
    → (IsTrue more → x ≡ each_takes level weights most at + 1)
    → ((IsTrue more → ⊥) → x ≡ each_takes level weights most at)
    → (IsTrue more → (0 < left)
    × (each_takes level weights most at < each_takes (level + 1) weights most at))
    → ((IsTrue more → ⊥) → 0 < left
    → each_takes (level + 1) weights most at ≤ each_takes level weights most at)
    → IsWritten level rest (left - given) (at + 1) weights most (set parts at x)
written-next level rest left at weights most parts so_far here light true given x given_is with_one
    without takes_one takes_none =
    let e : given ≡ 1 = given_is in
    rw e (written-one_more level rest left at weights most parts so_far x here light
    (takes_one refl).0 (with_one refl) (takes_one refl).1)
written-next level rest left at weights most parts so_far here light false given x given_is with_one
    without takes_one takes_none =
    let no' : IsTrue false → ⊥ = λ h. let f : ⊥ = cc in f in
    let e : left - given ≡ left = omega (arith, given_is) in
    rw e (written-same level rest left at weights most parts so_far x here (without no')
    (takes_none no'))

-- Once all parts are written, all slices are given.
pub written-IsGiven : (level rest left amount : ℕ) (weights most parts : List ℕ)
    → length most ≡ length weights → rest + taken_by_all level weights most ≡ amount
    → amount ≤ taken_by_all (level + 1) weights most →
    (w : IsWritten level rest left (length weights) weights most parts)
    → IsGiven level rest w.from weights most parts
written-IsGiven level rest left amount weights most parts each whole enough w =
    let n = length weights in
    let lower = by_all-is level weights most in
    let none : left ≡ 0 = elim (cases_lt 0 left) [
      | inr h ↦ omega (arith, h)
      | inl some ↦ absurd
          (let full : sum_below n (λ k. get_or parts k 0)
          ≡ sum_below n (each_takes (level + 1) weights most) =
          sum_below-ap n (λ k. get_or parts k 0) (each_takes (level + 1) weights most)
          (λ k below. w.seen k (omega (arith, below, w.going some))) in
          omega (
            arith,
            full,
            w.sums,
            lower,
            by_all-is (level + 1) weights most,
            whole,
            enough,
            some,
          ))
    ] in
    let long : length parts ≡ length weights = w.lengths ∙ each in
    let all : sum_below (length parts) (λ k. get_or parts k 0)
    ≡ sum_below n (λ k. get_or parts k 0) =
    ap (λ (m : ℕ). sum_below m (λ k. get_or parts k 0)) long in
    record {
      lengths = long;
      sums = omega (arith, sum-is parts, all, w.sums, none, lower);
      seen = w.seen;
      unseen = w.unseen;
    }

-- two sums that are of the same numbers from a place on
sum_below-tail : (n at : ℕ) (f g : ℕ → ℕ) → at ≤ n → ((k : ℕ) → k < n → at ≤ k → f k ≡ g k)
    → sum_below n f + sum_below at g ≡ sum_below n g + sum_below at f
sum_below-tail zero at f g le same = let none : at ≡ 0 = omega arith in rw none refl
sum_below-tail (suc n) at f g le same = elim (cases_lt n at) [
  | inl last ↦ let all : at ≡ suc n = omega arith in rw all (omega arith)
  | inr more ↦
      let front : sum_below n f + sum_below at g ≡ sum_below n g + sum_below at f =
      sum_below-tail n at f g more (λ k below. same k (omega arith)) in
      let own : f n ≡ g n = same n (omega arith) more in
      omega (arith, front, own)
]

-- Once no slice is left, the other parts are what their children take at the level.
pub written-rest : (level rest left at : ℕ) (weights most parts all : List ℕ) → left ≡ 0
    → length most ≡ length weights → at ≤ length weights →
    (w : IsWritten level rest left at weights most parts) → length all ≡ length parts
    → ((k : ℕ) → k < at → get_or all k 0 ≡ get_or parts k 0)
    → ((k : ℕ) → k < length weights → at ≤ k
    → get_or all k 0 ≡ each_takes level weights parts k)
    → IsGiven level rest w.from weights most all
written-rest level rest left at weights most parts all none each inside w same before after =
    let n = length weights in
    let long : length all ≡ length weights = same ∙ w.lengths ∙ each in
    let taken_after : (k : ℕ) → k < length weights → at ≤ k
    → get_or all k 0 ≡ each_takes level weights most k =
    λ k below above. after k below above
    ∙ ap (λ (m : ℕ). taken level (get_or weights k 0) m) (w.unwritten k above) in
    let front : sum_below at (λ k. get_or all k 0) ≡ sum_below at (λ k. get_or parts k 0) =
    sum_below-ap at (λ k. get_or all k 0) (λ k. get_or parts k 0) before in
    let whole : sum_below n (λ k. get_or all k 0) + sum_below at (each_takes level weights most)
    ≡ sum_below n (each_takes level weights most) + sum_below at (λ k. get_or all k 0) =
    sum_below-tail n at (λ k. get_or all k 0) (each_takes level weights most) inside taken_after in
    let summed : sum_below (length all) (λ k. get_or all k 0)
    ≡ sum_below n (λ k. get_or all k 0) =
    ap (λ (m : ℕ). sum_below m (λ k. get_or all k 0)) long in
    record {
      lengths = long;
      sums = omega (
        arith,
        sum-is all,
        summed,
        whole,
        front,
        w.sums,
        none,
        by_all-is level weights most,
      );
      seen = λ k below. before k (omega (arith, below, w.inside)) ∙ w.seen k below;
      unseen = λ k above below. elim (cases_lt k at) [
        | inl early ↦ before k early ∙ w.unseen k above early
        | inr late ↦ taken_after k below late
      ];
    }

module _ (level given from : ℕ) (weights most parts : List ℕ)
    (so_far : IsGiven level given from weights most parts) where
  -- a part is what its child takes at the level or one step above
  one_of : (k : ℕ) → k < length weights →
      (get_or parts k 0 ≡ each_takes level weights most k)
      ⊎ (get_or parts k 0 ≡ each_takes (level + 1) weights most k)
  one_of k below = elim (cases_lt k from)
      [ inl earlier ↦ inr (so_far.seen k earlier) | inr later ↦ inl (so_far.unseen k later below) ]

  -- a child with more than at the level is before each one with less than one step above
  in_order : (j k : ℕ) → j < length weights → k < length weights
      → get_or parts j 0 < each_takes (level + 1) weights most j →
      each_takes level weights most k < get_or parts k 0 → k < j
  in_order j k below_j below_k short more = elim (cases_lt j from) [
    | inl earlier ↦ absurd (omega (arith, short, so_far.seen j earlier))
    | inr later ↦ elim (cases_lt k from) [
      | inl earlier ↦ omega arith
      | inr later_k ↦ absurd (omega (arith, more, so_far.unseen k later_k below_k))
    ]
  ]

  -- Each next mark of a part below its maximum is above each last mark.
  given-IsPairwise
      : ((k : ℕ) → k < length weights → (MIN_WEIGHT ≤ get_or weights k 0)
      × (get_or weights k 0 ≤ MAX_WEIGHT)) → IsPairwise weights most parts
  given-IsPairwise in_range = record {
    above = λ j i j_in i_in room some.
        let j_below : j < length weights = omega (arith, so_far.lengths, j_in) in
        let i_below : i < length weights = omega (arith, so_far.lengths, i_in) in
        let wj = in_range j j_below in
        let wi = in_range i i_below in
        let lj : IsTaken level (get_or weights j 0) (get_or most j 0)
        (each_takes level weights most j) =
        taken-is level (get_or weights j 0) (get_or most j 0) in
        let hj : IsTaken (level + 1) (get_or weights j 0) (get_or most j 0)
        (each_takes (level + 1) weights most j) =
        taken-is (level + 1) (get_or weights j 0) (get_or most j 0) in
        let li : IsTaken level (get_or weights i 0) (get_or most i 0)
        (each_takes level weights most i) =
        taken-is level (get_or weights i 0) (get_or most i 0) in
        let hi : IsTaken (level + 1) (get_or weights i 0) (get_or most i 0)
        (each_takes (level + 1) weights most i) =
        taken-is (level + 1) (get_or weights i 0) (get_or most i 0) in
        -- the next mark of j is above the level
        let j_above : level * get_or weights j 0 < (2 * get_or parts j 0 + 1) * STEPS =
        elim (one_of j j_below) [
          | inl is ↦ (let h : level * get_or weights j 0 < (2 * STEPS)
              * each_takes level weights most j + STEPS = lj.high (omega (arith, is, room)) in
              omega (arith, h, is))
          | inr is ↦ (let h : (level + 1) * get_or weights j 0
              < (2 * STEPS) * each_takes (level + 1) weights most j + STEPS =
              hj.high (omega (arith, is, room)) in omega (arith, h, is))
        ] in
        elim (cases_lt (each_takes level weights most i) (get_or parts i 0)) [
          | inr not_more ↦
              -- the last mark of i is at or below it
              let i_low : (2 * get_or parts i 0 - 1) * STEPS ≤ level * get_or weights i 0 =
              omega (arith, li.low, not_more) in
              inl (cross_lt_right (2 * get_or parts i 0 - 1) (get_or weights i 0) level STEPS
              (2 * get_or parts j 0 + 1) (get_or weights j 0)
              wi.0 i_low j_above)
          | inl more ↦
              let i_is : get_or parts i 0 ≡ each_takes (level + 1) weights most i =
              elim (one_of i i_below) [ inl is ↦ absurd (omega (arith, is, more)) | inr is ↦ is ] in
              let i_low : (2 * get_or parts i 0 - 1) * STEPS ≤ (level + 1) * get_or weights i 0 =
              omega (arith, hi.low, i_is) in
              elim (cases_lt (get_or parts j 0) (each_takes (level + 1) weights most j)) [
                | inr full ↦
                    let j_over : (level + 1) * get_or weights j 0
                    < (2 * get_or parts j 0 + 1) * STEPS =
                    (let h : (level + 1) * get_or weights j 0
                    < (2 * STEPS) * each_takes (level + 1) weights most j + STEPS =
                    hj.high (omega (arith, full, room)) in omega (arith, h, full)) in
                    inl (cross_lt_right (2 * get_or parts i 0 - 1) (get_or weights i 0) (level + 1)
                    STEPS (2 * get_or parts j 0 + 1) (get_or weights j 0)
                    wi.0 i_low j_over)
                | inl short ↦
                    -- both marks are between the two levels
                    let i_over : level * get_or weights i 0 < STEPS * (2 * get_or parts i 0 - 1) =
                    (let h : level * get_or weights i 0
                    < (2 * STEPS) * each_takes level weights most i + STEPS =
                    li.high (omega (arith, more, i_is, hi.within)) in omega (arith, h, more)) in
                    let j_under : STEPS * (2 * get_or parts j 0 + 1)
                    ≤ (level + 1) * get_or weights j 0 = omega (arith, hj.low, short) in
                    inr (
                      same_cost level (2 * get_or parts i 0 - 1) (get_or weights i 0)
                          (2 * get_or parts j 0 + 1) (get_or weights j 0)
                          wi.0 wj.0 wi.1 wj.1 i_over (omega (arith, i_low)) (omega (arith, j_above))
                          j_under,
                      inl (in_order j i j_below i_below short more),
                    )
              ]
        ];
  }

  pub given-IsBestSplit : (rest amount : ℕ) → length most ≡ length weights →
      ((k : ℕ) → k < length weights → (MIN_WEIGHT ≤ get_or weights k 0)
      × (get_or weights k 0 ≤ MAX_WEIGHT)) →
      rest + taken_by_all level weights most ≡ amount → given ≡ rest
      → IsBestSplit amount weights most parts
  given-IsBestSplit rest amount one_each in_range whole all =
      pairwise-IsBestSplit weights most parts (sym so_far.lengths)
      (λ k below. (in_range k (omega (arith, so_far.lengths, below))).0)
      amount
      (record {
        lengths = omega (arith, so_far.lengths, one_each);
        whole = omega (arith, so_far.sums, all, whole);
        within = λ k below. elim (one_of k (omega (arith, so_far.lengths, below))) [
          | inl is ↦ (let t : IsTaken level (get_or weights k 0) (get_or most k 0)
              (each_takes level weights most k) =
              taken-is level (get_or weights k 0) (get_or most k 0) in omega (arith, t.within, is))
          | inr is ↦ (let t : IsTaken (level + 1) (get_or weights k 0) (get_or most k 0)
              (each_takes (level + 1) weights most k) =
              taken-is (level + 1) (get_or weights k 0) (get_or most k 0) in
              omega (arith, t.within, is))
        ];
      })
      (given-IsPairwise in_range)
