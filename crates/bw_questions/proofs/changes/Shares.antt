-- What a child that could take more has at least, beside one sibling and beside all of them.
use Rattle.std.proofs.Common.{◌≡◌, ℕ, zero, suc, ◌+◌, ◌-◌, ◌*◌, ◌<◌, ◌≤◌, List}
use Rattle.std.proofs.Common.{length, get_or, ap, sym, ◌∙◌, arith, inl, inr}
use Rattle.std.proofs.lemmas.Bool.{cases_lt, cases_eq, ne_eqb}
use Rattle.bw_model.specs.Split.{IsBestSplit}
use Rattle.bw_model.proofs.CallerLemmas.{sum_below, sum-is, sum_by-range}
use Rattle.bw_questions.specs.changes.OneSplit.{AreWeighted}
use Rattle.bw_questions.specs.changes.Fairness.{FairWithinHalfASlice, WeightIsAFloor, of_active}
use Rattle.bw_questions.specs.changes.Fairness.{active}
use Rattle.bw_questions.specs.changes.Fairness.{active_weight}
use Rattle.bw_questions.proofs.changes.Pairs.{best_pairs}

pub fair : FairWithinHalfASlice
fair amount weights most parts weighted best i j i_in j_in room =
    elim (cases_eq (get_or parts j 0) 0) [
      | inl none' ↦ rw none' (omega arith)
      | inr some' ↦
          elim ((best_pairs amount weights most parts weighted best).above i j i_in j_in room
          (omega (arith, some'))) [
            | inl less ↦ omega (arith, less)
            | inr tie ↦ omega (arith, tie.0)
          ]
    ]

-- without the difference
rounded : (x w c : ℕ) → (2 * x - 1) * w ≤ c → 2 * x * w ≤ c + w
rounded zero w c h = omega arith
rounded (suc x) w c h =
    let e : 2 * suc x - 1 ≡ 2 * x + 1 = omega arith in
    let h' : (2 * x + 1) * w ≤ c = rw e at h in
    omega (arith, h')

module _ (amount : ℕ) (weights most parts : List ℕ) (weighted : AreWeighted weights most)
    (best : IsBestSplit amount weights most parts) (i : ℕ) (i_in : i < length parts)
    (room : get_or parts i 0 < get_or most i 0) where
  weight_of : ℕ → ℕ
  weight_of = of_active most (λ k. get_or weights k 0)

  one_of : ℕ → ℕ
  one_of = of_active most (λ k. 1)

  -- One child's part of the sums.
  of_one : (k : ℕ) → k < length parts → 2 * get_or parts k 0 * get_or weights i 0
      ≤ (2 * get_or parts i 0 + 1) * weight_of k + one_of k * get_or weights i 0
  unfolding weight_of one_of
  of_one k below = elim (cases_eq (get_or most k 0) 0) [
    | inl idle ↦
        let most_of : get_or parts k 0 ≤ get_or most k 0 = best.split.within k below in
        let nothing : get_or parts k 0 ≡ 0 = omega (arith, most_of, idle) in
        rw nothing (omega arith)
    | inr busy ↦ rw (ne_eqb (get_or most k 0) 0 busy)
        (omega (
          arith,
          rounded (get_or parts k 0) (get_or weights i 0)
              ((2 * get_or parts i 0 + 1) * get_or weights k 0)
              (fair amount weights most parts weighted best i k i_in below room),
        ))
  ]

  -- The child itself counts one more.
  of_itself : 2 * get_or parts i 0 * get_or weights i 0 + 2 * get_or weights i 0
      ≤ (2 * get_or parts i 0 + 1) * weight_of i + one_of i * get_or weights i 0
  unfolding weight_of one_of
  of_itself = rw (ne_eqb (get_or most i 0) 0 (λ idle. omega (arith, idle, room))) (omega arith)

  part : ℕ → ℕ
  part k = get_or parts k 0

  all_before : (n : ℕ) → n ≤ i → 2 * sum_below n part * get_or weights i 0
      ≤ (2 * get_or parts i 0 + 1) * sum_below n weight_of
      + sum_below n one_of * get_or weights i 0
  unfolding part
  all_before zero h = omega arith
  all_before (suc n) h =
      omega (arith, all_before n (omega (arith, h)), of_one n (omega (arith, h, i_in)))

  all : (n : ℕ) → i < n → n ≤ length parts
      → 2 * sum_below n part * get_or weights i 0 + 2 * get_or weights i 0
      ≤ (2 * get_or parts i 0 + 1) * sum_below n weight_of
      + sum_below n one_of * get_or weights i 0
  unfolding part
  all zero h l = absurd (omega (arith, h))
  all (suc n) h l = elim (cases_lt i n) [
    | inl past ↦ omega (arith, all n past (omega (arith, l)), of_one n (omega (arith, l)))
    | inr last ↦
        let here : n ≡ i = omega (arith, h, last) in
        rw here (omega (arith, all_before i (omega arith), of_itself))
  ]

  floor : (2 * amount + 2) * get_or weights i 0
      ≤ (2 * get_or parts i 0 + 1) * active_weight weights most
      + active most * get_or weights i 0
  unfolding part weight_of one_of
  floor =
      let total : sum_below (length parts) (λ k. get_or parts k 0) ≡ amount =
      sym (sum-is parts) ∙ best.split.whole in
      let weighed : active_weight weights most
      ≡ sum_below (length parts) (of_active most (λ k. get_or weights k 0)) =
      sum_by-range (of_active most (λ k. get_or weights k 0)) (length most)
      ∙ ap (λ n. sum_below n (of_active most (λ k. get_or weights k 0)))
      (sym best.split.lengths) in
      let counted : active most ≡ sum_below (length parts) (of_active most (λ k. 1)) =
      sum_by-range (of_active most (λ k. 1)) (length most)
      ∙ ap (λ n. sum_below n (of_active most (λ k. 1))) (sym best.split.lengths) in
      let bound : 2 * amount * get_or weights i 0 + 2 * get_or weights i 0
      ≤ (2 * get_or parts i 0 + 1)
      * sum_below (length parts) (of_active most (λ k. get_or weights k 0))
      + sum_below (length parts) (of_active most (λ k. 1)) * get_or weights i 0 =
      rw total at (all (length parts) i_in (omega arith)) in
      rw (weighed, counted) (omega (arith, bound))

pub floor_holds : WeightIsAFloor
floor_holds amount weights most parts weighted best i i_in room =
    floor amount weights most parts weighted best i i_in room
