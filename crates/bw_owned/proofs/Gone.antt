-- Groups that are let go, one after another.
use Rattle.std.proofs.Common.{ℕ, ◌+◌, ◌<◌, ◌≤◌, ◌≡◌, ◌∙◌, List, length, get_or, set}
use Rattle.std.proofs.Common.{[], ◌∷◌, zero, suc, arith, refl, sym, subst, inl, inr}
use Rattle.std.proofs.lemmas.Bool.{cases_eq, ne_eqb}
use Rattle.std.proofs.lemmas.List.{get_or-set_same, get_or-set_other}
use Rattle.bw_model.proofs.CallerLemmas.{sum_below, sum_by-range, sum_below-change, sum_below-zero}
use Rattle.bw_model.proofs.CallerLemmas.{sum_below-term}
use Rattle.bw_owned.specs.LetGo.{counted, counted_gone, gone, GoesBefore, IsNext}
use Rattle.bw_owned.specs.Laws.{OneSwings, OneOfTwoGoes}

-- nobody goes
pub gone_none : (slices go : List ℕ) → ((k : ℕ) → k < length slices → get_or go k 0 ≡ 0)
    → gone slices go ≡ 0
gone_none slices go each = sum_by-range (counted_gone slices go) (length slices)
    ∙ sum_below-zero (length slices) (counted_gone slices go) (λ k below. rw (each k below) refl)

-- a group more or fewer
gone_change : (slices go : List ℕ) (k v : ℕ) → k < length slices
    → gone slices (set go k v) + counted_gone slices go k
    ≡ gone slices go + counted_gone slices (set go k v) k
gone_change slices go k v below =
    let f = counted_gone slices go in
    let h = counted_gone slices (set go k v) in
    let one : gone slices go ≡ sum_below (length slices) f = sum_by-range f (length slices) in
    let other : gone slices (set go k v) ≡ sum_below (length slices) h =
    sum_by-range h (length slices) in
    let change = sum_below-change (length slices) k f h below
    (λ j ne. rw (get_or-set_other go k j v 0 ne) refl) in
    omega (arith, one, other, change)

pub gone_more : (slices go : List ℕ) (next : ℕ) → next < length slices → length go ≡ length slices
    → get_or go next 0 ≡ 0
    → gone slices (set go next 1) ≡ gone slices go + counted (get_or slices next 0)
gone_more slices go next below long held =
    let change = gone_change slices go next 1 below in
    let before : counted_gone slices go next ≡ 0 = rw held refl in
    let after : counted_gone slices (set go next 1) next ≡ counted (get_or slices next 0) =
    rw (get_or-set_same go next 1 0 (omega (arith, below, long))) refl in
    omega (arith, change, before, after)

module _ (needed least : ℕ) (counts slices go : List ℕ) (next : ℕ)
    (long : length go ≡ length slices) (is : IsNext least counts slices go (length slices) next)
  where
    marked_there : next < length go
    marked_there = let below = is.below in omega (arith, below, long)

    -- another one goes as before
    as_before : (k : ℕ) → (k ≡ next → ⊥) → 0 < get_or (set go next 1) k 0 → 0 < get_or go k 0
    as_before k apart goes =
        let same = get_or-set_other go next k 1 0 apart in omega (arith, goes, same)

    pub marked_only : ((k : ℕ) → k < length slices → 0 < get_or go k 0 → least ≤ get_or counts k 0)
        → (k : ℕ) → k < length slices → 0 < get_or (set go next 1) k 0 → least ≤ get_or counts k 0
    marked_only only k below goes = elim (cases_eq k next) [
      | inl same ↦ subst (λ (n : ℕ). least ≤ get_or counts n 0) (sym same) is.in_question
      | inr apart ↦ only k below (as_before k apart goes)
    ]

    module _ (most : (k other : ℕ) → k < length slices → other < length slices
        → 0 < get_or go k 0 → get_or go other 0 ≡ 0 → least ≤ get_or counts other 0
        → GoesBefore slices k other) where
      pub marked_most : (k other : ℕ) → k < length slices → other < length slices
          → 0 < get_or (set go next 1) k 0 → get_or (set go next 1) other 0 ≡ 0
          → least ≤ get_or counts other 0 → GoesBefore slices k other
      marked_most k other below under goes held may = elim (cases_eq other next) [
        | inl same ↦
            let set_there = get_or-set_same go next 1 0 marked_there in
            let none : get_or (set go next 1) next 0 ≡ 0 =
            subst (λ (n : ℕ). get_or (set go next 1) n 0 ≡ 0) same held in
            absurd (omega (arith, set_there, none))
        | inr differ ↦
            let was : get_or go other 0 ≡ 0 =
            sym (get_or-set_other go next other 1 0 differ) ∙ held in
            elim (cases_eq k next) [
              | inl same ↦ subst (λ (n : ℕ). GoesBefore slices n other) (sym same)
                  (is.first other under differ may was)
              | inr apart ↦ most k other below under (as_before k apart goes) was may
            ]
      ]

      pub marked_few : gone slices go < needed → (k : ℕ) → k < length slices
          → 0 < get_or (set go next 1) k 0
          → gone slices (set go next 1) < needed + counted (get_or slices k 0)
      marked_few short k below goes =
          let sum = gone_more slices go next is.below long is.held in
          elim (cases_eq k next) [
            | inl same ↦
                let here : gone slices (set go next 1) < needed + counted (get_or slices next 0) =
                omega (arith, sum, short) in
                subst (λ (n : ℕ). gone slices (set go next 1)
                < needed + counted (get_or slices n 0)) (sym same) here
            | inr apart ↦
                let order = most k next below is.below (as_before k apart goes) is.held
                is.in_question in
                let no_more : get_or slices next 0 ≤ get_or slices k 0 =
                elim order [
                  | inl fewer ↦ omega (arith, fewer)
                  | inr equal ↦ let alike = equal.0 in omega (arith, alike)
                ]
                in
                omega (arith, sum, short, no_more)
          ]

-- two groups that go count together
two_gone : (slices go : List ℕ) (k other : ℕ) → length go ≡ length slices → k < length slices
    → other < length slices → (other ≡ k → ⊥) → 0 < get_or go k 0 → 0 < get_or go other 0
    → counted (get_or slices k 0) + counted (get_or slices other 0) ≤ gone slices go
two_gone slices go k other long below under apart goes also =
    let change = gone_change slices go k 0 below in
    let h = counted_gone slices (set go k 0) in
    let first : counted_gone slices go k ≡ counted (get_or slices k 0) =
    rw (ne_eqb (get_or go k 0) 0 (λ e. omega (arith, e, goes))) refl in
    let left : h k ≡ 0 = rw (get_or-set_same go k 0 0 (omega (arith, below, long))) refl in
    let second : h other ≡ counted (get_or slices other 0) =
    rw (
      get_or-set_other go k other 0 0 apart,
      ne_eqb (get_or go other 0) 0 (λ e. omega (arith, e, also)),
    ) refl in
    let part = sum_below-term (length slices) other h under in
    let whole : gone slices (set go k 0) ≡ sum_below (length slices) h =
    sum_by-range h (length slices) in
    omega (arith, change, first, left, second, part, whole)

pub one_swings : OneSwings
one_swings least k other counts slices go long is below under goes also = elim (cases_eq other k) [
  | inl same ↦ sym same
  | inr apart ↦
      let few = is.few k below goes in
      let two = two_gone slices go k other long below under apart goes also in
      absurd (omega (arith, few, two))
]

-- what holds of 0 and of 1 holds below 2
of_two : (P : ℕ → Type 0) → P 0 → P 1 → (k : ℕ) → k < 2 → P k
of_two P first second zero below = first
of_two P first second (suc zero) below = second
of_two P first second (suc (suc k)) below = absurd (omega (arith, below))

pub one_of_two_goes : OneOfTwoGoes
one_of_two_goes = let go : List ℕ = 1 ∷ 0 ∷ [] in record {
  only = of_two (λ k. 0 < get_or go k 0 → 60 ≤ get_or (60 ∷ 60 ∷ []) k 0)
      (λ goes. omega (arith)) (λ goes. omega (arith));
  most = λ k other below under goes stays asked. of_two (λ k. 0 < get_or go k 0
      → GoesBefore (7 ∷ 5 ∷ []) k other)
      (λ goes. of_two (λ other. get_or go other 0 ≡ 0 → GoesBefore (7 ∷ 5 ∷ []) 0 other)
      (λ stays. absurd (omega (arith, stays))) (λ stays. inl (omega (arith))) other under stays)
      (λ goes. absurd (omega (arith, goes))) k below goes;
  enough = inl (omega (arith));
  few = of_two (λ k. 0 < get_or go k 0
      → gone (7 ∷ 5 ∷ []) go < 1 + counted (get_or (7 ∷ 5 ∷ []) k 0))
      (λ goes. omega (arith)) (λ goes. absurd (omega (arith, goes)));
}
