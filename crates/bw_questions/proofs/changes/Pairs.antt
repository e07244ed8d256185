-- Two best splits side by side: no child gains while another loses, unless the marks moved for it.
use Rattle.std.proofs.Common.{◌≡◌, ℕ, ◌+◌, ◌-◌, ◌*◌, ◌<◌, ◌≤◌, List, length, get_or}
use Rattle.std.proofs.Common.{set, ap, sym, ◌∙◌, arith, inl, inr}
use Rattle.std.proofs.Math.Nat.{mul-le-mul_left}
use Rattle.std.proofs.lemmas.Bool.{cases_lt}
use Rattle.bw_model.specs.Marks.{MarkValue, last_mark, next_mark, IsBelow}
use Rattle.bw_model.specs.MarkLaws.{cross_lt_left}
use Rattle.bw_model.specs.Split.{IsBestSplit}
use Rattle.bw_model.proofs.CallerLemmas.{IsPairwise, move-marks-apart, moved-IsSplit, cancel_le}
use Rattle.bw_model.proofs.CallerLemmas.{IsBelow-trans, IsBelow-irrefl, cross_lt_right}
use Rattle.bw_questions.specs.changes.OneSplit.{AreWeighted, MoreTakesFromNobody}
use Rattle.bw_questions.proofs.changes.Lists.{find_greater, one_more}

pub mul_both : (p q u v : ℕ) → p ≤ q → u ≤ v → p * u ≤ q * v
mul_both p q u v pq uv = omega (arith, mul-le-mul_left p uv, mul-le-mul_left v pq)

-- In a best split each next mark of a child with room is above each last mark.
pub best_pairs : (amount : ℕ) (weights most parts : List ℕ) → AreWeighted weights most
    → IsBestSplit amount weights most parts → IsPairwise weights most parts
best_pairs amount weights most parts weighted best = record {
  above = λ j i j_in i_in room some.
      move-marks-apart weights parts (weighted.one_each ∙ sym best.split.lengths)
      weighted.positive i j i_in j_in some
      (λ apart. best.best
      (set (set parts i (get_or parts i 0 - 1)) j (get_or parts j 0 + 1))
      (moved-IsSplit parts i j (get_or parts i 0 - 1) (get_or parts j 0 + 1) i_in j_in apart
      (omega (arith, some)) (omega arith) amount most best.split room));
}

-- What is below a mark is below one of the same place, and of no less cost and numerator.
pub raised_above : (a : MarkValue) (n d m e p : ℕ) → 0 < a.den → 0 < d → 0 < e
    → IsBelow a (record { num = n; den = d; place = p }) → n * e ≤ m * d → n ≤ m
    → IsBelow a (record { num = m; den = e; place = p })
raised_above a n d m e p pa pd pe below cost num = elim below [
  | inl lt ↦ inl (cross_lt_left a.num a.den n d m e pe lt cost)
  | inr tie ↦ elim (cases_lt (n * e) (m * d)) [
    | inl less ↦ inl (cross_lt_right a.num a.den n d m e pa (omega (arith, tie.0)) less)
    | inr rest ↦
        let same : n * e ≡ m * d = omega (arith, cost, rest) in
        let one : d * (a.num * e) ≡ d * (m * a.den) =
        omega (arith, ap (λ x. x * e) tie.0, ap (λ x. x * a.den) same) in
        let equal : a.num * e ≡ m * a.den =
        omega (
          arith,
          cancel_le d (a.num * e) (m * a.den) pd (omega (arith, one)),
          cancel_le d (m * a.den) (a.num * e) pd (omega (arith, one)),
        ) in
        elim tie.1 [
          | inl before ↦ inr (equal, inl before)
          | inr here ↦ inr (equal, inr (here.0, omega (arith, here.1, num)))
        ]
  ]
]

-- Of two best splits: j has more in the second and k less, though the marks of j are not lower
-- there and those of k not higher.
pub no_swap : (w m xs v n ys : List ℕ) → IsPairwise w m xs → IsPairwise v n ys
    → (j k : ℕ) → j < length xs → k < length xs → length ys ≡ length xs
    → 0 < get_or w j 0 → 0 < get_or w k 0 → 0 < get_or v j 0 → 0 < get_or v k 0
    → get_or xs j 0 < get_or ys j 0 → get_or ys k 0 < get_or xs k 0
    → get_or v j 0 ≤ get_or w j 0 → get_or xs j 0 < get_or m j 0
    → get_or w k 0 ≤ get_or v k 0 → get_or ys k 0 < get_or n k 0 → ⊥
no_swap w m xs v n ys one two j k j_in k_in same wj wk vj vk gains loses vw room wv free =
    let first : IsBelow (last_mark (get_or xs k 0) (get_or w k 0) k)
    (next_mark (get_or xs j 0) (get_or w j 0) j) =
    one.above j k j_in k_in room (omega (arith, loses)) in
    let across : IsBelow (last_mark (get_or xs k 0) (get_or w k 0) k)
    (last_mark (get_or ys j 0) (get_or v j 0) j) =
    raised_above (last_mark (get_or xs k 0) (get_or w k 0) k)
    (2 * get_or xs j 0 + 1) (get_or w j 0) (2 * get_or ys j 0 - 1) (get_or v j 0) j wk wj vj first
    (mul_both (2 * get_or xs j 0 + 1) (2 * get_or ys j 0 - 1) (get_or v j 0) (get_or w j 0)
    (omega (arith, gains)) vw) (omega (arith, gains)) in
    let second : IsBelow (last_mark (get_or ys j 0) (get_or v j 0) j)
    (next_mark (get_or ys k 0) (get_or v k 0) k) =
    two.above k j (omega (arith, k_in, same)) (omega (arith, j_in, same)) free
    (omega (arith, gains)) in
    let back : IsBelow (last_mark (get_or ys j 0) (get_or v j 0) j)
    (last_mark (get_or xs k 0) (get_or w k 0) k) =
    raised_above (last_mark (get_or ys j 0) (get_or v j 0) j)
    (2 * get_or ys k 0 + 1) (get_or v k 0) (2 * get_or xs k 0 - 1) (get_or w k 0) k vj vk wk second
    (mul_both (2 * get_or ys k 0 + 1) (2 * get_or xs k 0 - 1) (get_or w k 0) (get_or v k 0)
    (omega (arith, loses)) wv) (omega (arith, loses)) in
    IsBelow-irrefl (last_mark (get_or xs k 0) (get_or w k 0) k)
    (IsBelow-trans (last_mark (get_or xs k 0) (get_or w k 0) k)
    (last_mark (get_or ys j 0) (get_or v j 0) j)
    (last_mark (get_or xs k 0) (get_or w k 0) k) wk vj wk across back)

-- With no less to split no child has less.
pub never_less : (amount greater : ℕ) (weights most parts more : List ℕ)
    → AreWeighted weights most → amount ≤ greater
    → IsBestSplit amount weights most parts → IsBestSplit greater weights most more
    → (k : ℕ) → k < length parts → get_or parts k 0 ≤ get_or more k 0
never_less amount greater weights most parts more weighted amounts best next k below =
    elim (cases_lt (get_or more k 0) (get_or parts k 0)) [
      | inr fine ↦ fine
      | inl loses ↦ elim (find_greater parts more same
          (omega (arith, best.split.whole, next.split.whole, amounts))) [
            | inr equal ↦ absurd
                (let e : get_or parts k 0 ≡ get_or more k 0 = ap (λ xs. get_or xs k 0) equal in
                omega (arith, e, loses))
            | inl found ↦ absurd
                (let over : get_or more found.0 0 ≤ get_or most found.0 0 =
                next.split.within found.0 (omega (arith, found.1, same)) in
                let under : get_or parts k 0 ≤ get_or most k 0 =
                best.split.within k below in
                no_swap weights most parts weights most more
                (best_pairs amount weights most parts weighted best)
                (best_pairs greater weights most more weighted next)
                found.0 k found.1 below (sym same)
                (positive found.0 found.1) (positive k below)
                (positive found.0 found.1) (positive k below) found.2 loses
                (omega arith) (omega (arith, found.2, over)) (omega arith)
                (omega (arith, loses, under)))
          ]
    ]
  where
    same : length parts ≡ length more
    same = best.split.lengths ∙ sym next.split.lengths

    positive : (k : ℕ) → k < length parts → 0 < get_or weights k 0
    positive k below =
        weighted.positive k (omega (arith, below, weighted.one_each, best.split.lengths))

pub more_from_nobody : MoreTakesFromNobody
more_from_nobody amount weights most parts more weighted best next =
    one_more parts more (best.split.lengths ∙ sym next.split.lengths)
    (never_less amount (amount + 1) weights most parts more weighted (omega arith) best next)
    (next.split.whole ∙ ap (λ a. a + 1) (sym best.split.whole))
