-- Levels of cost that siblings' needs leave. Where the children take or need more than an amount at
-- a level, each need costs no more than the level in every solution.
use Rattle.std.proofs.Common.{◌≡◌, ℕ, zero, suc, ◌+◌, ◌-◌, ◌*◌, ◌/◌, ◌<◌, ◌≤◌, ◌⊎◌, List, length}
use Rattle.std.proofs.Common.{get_or, set, take, refl, sym, ◌∙◌, arith, inl, inr}
use Rattle.std.specs.Prelude.{sum}
use Rattle.std.proofs.Math.Nat.{mul-le-mul_left, le_of_mul-le-mul_left, mul-div-le}
use Rattle.std.proofs.lemmas.Bool.{cases_eq, cases_lt}
use Rattle.std.proofs.lemmas.List.Sums.{sum_by_more, sum_by_more_le}
use Rattle.bw_model.specs.declared.limits.TheConstants.{MAX_CAPACITY}
use Rattle.bw_model.specs.Marks.{last_mark, next_mark, IsBelow}
use Rattle.bw_model.proofs.CallerLemmas.{move-marks-apart, moved-IsSplit, sum-is}
use Rattle.bw_model.proofs.CallerLemmas.{sum_below-term}
use Rattle.bw_split.specs.Conditions.{CanSplit}
use Rattle.bw_split.specs.Levels.{taken}
use Rattle.bw_split.specs.declared.limits.TheConstants.{STEPS}
use Rattle.bw_questions.specs.Needs.{AreWithin, AreBetween, CanMeet, IsLevelOfNeeds}
use Rattle.bw_questions.specs.Needs.{MeetsNeeds, TakeMore}

-- The last slice that a child takes at a level costs no more.
pub taken_costs : (level weight most : ℕ)
    → (2 * taken level weight most - 1) * STEPS ≤ level * weight
unfolding taken
taken_costs level weight most = omega arith

pub taken_within : (level weight most : ℕ) → taken level weight most ≤ most
unfolding taken
taken_within level weight most = omega arith

-- A number is nowhere above another one, or is at a place.
pub nowhere_above : (n : ℕ) (f g : ℕ → ℕ)
    → ((k : ℕ) → k < n → f k ≤ g k) ⊎ ((k : ℕ) × (k < n) × (g k < f k))
nowhere_above zero f g = inl (λ k below. absurd (omega (arith, below)))
nowhere_above (suc n) f g = elim (cases_lt (g n) (f n)) [
  | inl over ↦ inr (n, omega arith, over)
  | inr last ↦ elim (nowhere_above n f g) [
    | inr found ↦ inr (found.0, omega (arith, found.1), found.2)
    | inl rest ↦ inl (λ k below. elim (cases_lt k n) [
      | inl before ↦ rest k before
      | inr here ↦
          let same : k ≡ n = omega (arith, below, here) in
          rw same last
    ])
  ]
]

pub part_le_sum : (parts : List ℕ) (k : ℕ) → k < length parts → get_or parts k 0 ≤ sum parts
part_le_sum parts k below =
    omega (
      arith,
      sum-is parts,
      sum_below-term (length parts) k (λ j. get_or parts j 0) below,
    )

-- A cost that is below one of another child, which is at most a level with a lesser weight.
across : (a b r u heavy weight standing level : ℕ) → a ≤ b → b * heavy ≤ r * weight → r ≤ u
    → u * STEPS ≤ level * standing → standing ≤ heavy → 0 < heavy → a * STEPS ≤ level * weight
across a b r u heavy weight standing level ab cost ru at more some =
    le_of_mul-le-mul_left
    (omega (
      arith,
      mul-le-mul_left heavy ab,
      cost,
      mul-le-mul_left weight ru,
      mul-le-mul_left weight at,
      mul-le-mul_left (weight * level) more,
    ))
    some

module _ (amount : ℕ) (floors tops most needs weights : List ℕ) (level : ℕ)
    (within : AreWithin floors tops most needs) (can : CanSplit amount weights most)
    (between : AreBetween floors tops weights)
    (less : ℕ) (others parts : List ℕ) (fewer : less ≤ amount)
    (meets : MeetsNeeds floors tops most needs less others parts)
    (least : (k : ℕ) → k < length floors → get_or weights k 0 ≤ get_or others k 0)
    (child : ℕ) (below : child < length floors) where
  as_long : length parts ≡ length floors
  as_long = meets.split.split.lengths ∙ can.one_each ∙ between.one_each

  positive : (k : ℕ) → k < length parts → 0 < get_or others k 0
  positive k k_in =
      omega (
        arith,
        (can.weights_in_range k (omega (arith, k_in, as_long, between.one_each))).0,
        least k (omega (arith, k_in, as_long)),
      )

  -- A need costs no more than a level where another child of a solution has less than it takes.
  beside : (k : ℕ) → k < length floors
      → get_or parts k 0 < taken level (get_or weights k 0) (get_or most k 0)
      → 0 < get_or needs child 0
      → (2 * get_or needs child 0 - 1) * STEPS ≤ level * get_or others child 0
  beside k k_in lacks some =
      let takes = taken level (get_or weights k 0) (get_or most k 0) in
      let met : get_or needs child 0 ≤ get_or parts child 0 =
      meets.met child (omega (arith, below, as_long)) in
      let room : get_or parts k 0 < get_or most k 0 =
      omega (arith, lacks, taken_within level (get_or weights k 0) (get_or most k 0)) in
      elim (cases_eq k child) [
        | inl here ↦
            let own : get_or parts child 0
            < taken level (get_or weights child 0) (get_or most child 0) =
            rw here at lacks in
            across (2 * get_or needs child 0 - 1)
            (2 * taken level (get_or weights child 0) (get_or most child 0) - 1)
            (2 * taken level (get_or weights child 0) (get_or most child 0) - 1)
            (2 * taken level (get_or weights child 0) (get_or most child 0) - 1)
            (get_or others child 0) (get_or others child 0) (get_or weights child 0) level
            (omega (arith, own, met)) (omega arith) (omega arith)
            (taken_costs level (get_or weights child 0) (get_or most child 0)) (least child below)
            (positive child (omega (arith, below, as_long)))
        | inr apart ↦
            let first : IsBelow (last_mark (get_or parts child 0) (get_or others child 0) child)
            (next_mark (get_or parts k 0) (get_or others k 0) k) =
            move-marks-apart others parts
            (meets.between.one_each ∙ sym as_long)
            (λ j j_in. positive j (omega (arith, j_in, meets.between.one_each, as_long))) child k
            (omega (arith, below, as_long)) (omega (arith, k_in, as_long))
            (omega (arith, some, met))
            (λ others_apart. meets.split.best
            (set (set parts child (get_or parts child 0 - 1)) k (get_or parts k 0 + 1))
            (moved-IsSplit parts child k (get_or parts child 0 - 1) (get_or parts k 0 + 1)
            (omega (arith, below, as_long)) (omega (arith, k_in, as_long)) others_apart
            (omega (arith, some, met)) (omega arith) less most meets.split.split room)) in
            across (2 * get_or needs child 0 - 1) (2 * get_or parts child 0 - 1)
            (2 * get_or parts k 0 + 1)
            (2 * taken level (get_or weights k 0) (get_or most k 0) - 1)
            (get_or others k 0) (get_or others child 0) (get_or weights k 0) level
            (omega (arith, met))
            (elim first [ inl lt ↦ omega (arith, lt) | inr tie ↦ omega (arith, tie.0) ])
            (omega (arith, lacks))
            (taken_costs level (get_or weights k 0) (get_or most k 0)) (least k k_in)
            (positive k (omega (arith, k_in, as_long)))
      ]

  -- Where the children take or need more than the amount at a level, each need costs no more.
  at_level : TakeMore amount level weights most needs
      → (2 * get_or needs child 0 - 1) * STEPS ≤ level * get_or others child 0
  at_level more = elim (cases_lt 0 (get_or needs child 0)) [
    | inr none ↦ omega (arith, none)
    | inl some ↦ elim (nowhere_above (length floors)
        (λ k. taken level (get_or weights k 0) (get_or most k 0)) (λ k. get_or parts k 0)) [
          | inr found ↦ beside found.0 found.1 found.2 some
          | inl all ↦ absurd
              (let over : amount < sum parts =
              more parts (as_long ∙ sym between.one_each)
              (λ k k_in. meets.met k (omega (arith, k_in, as_long, between.one_each)))
              (λ k k_in. all k (omega (arith, k_in, between.one_each))) in
              omega (arith, over, meets.split.split.whole, fewer))
        ]
  ]

  -- Nor is there a solution where a child is past that level with its top.
  pub none_past : TakeMore amount level weights most needs
      → level * get_or tops child 0 < (2 * get_or needs child 0 - 1) * STEPS → ⊥
  none_past more past =
      omega (
        arith,
        at_level more,
        mul-le-mul_left level (meets.between.no_more child below),
        past,
      )

  pub cheap_at : IsLevelOfNeeds amount weights most needs level
      → (2 * get_or needs child 0 - 1) * STEPS ≤ level * get_or others child 0
  cheap_at found = elim found.more [
    | inr more ↦ at_level more
    | inl greatest ↦
        let met : get_or needs child 0 ≤ get_or parts child 0 =
        meets.met child (omega (arith, below, as_long)) in
        let small : get_or parts child 0 ≤ MAX_CAPACITY =
        omega (
          arith,
          part_le_sum parts child (omega (arith, below, as_long)),
          meets.split.split.whole,
          fewer,
          can.small,
        ) in
        rw greatest (omega (arith, met, small, positive child (omega (arith, below, as_long))))
  ]

-- What all parts hold that hold the needs and what is taken at a level: so far, and with one more.
pub more_so_far : (parts : List ℕ) (k amount left part : ℕ) → k < length parts
    → amount ≤ left + sum (take k parts) → part ≤ left → part ≤ get_or parts k 0
    → amount ≤ left - part + sum (take (k + 1) parts)
more_so_far parts k amount left part below so_far fits no_less =
    omega (arith, so_far, fits, no_less, sum_by_more (λ x. x) parts k 0 below)

pub more_at_last : (parts : List ℕ) (k amount left part : ℕ) → k < length parts
    → amount ≤ left + sum (take k parts) → left < part → part ≤ get_or parts k 0
    → amount < sum parts
more_at_last parts k amount left part below so_far over no_less =
    omega (arith, so_far, over, no_less, sum_by_more_le (λ x. x) parts k 0 below)

-- a quotient that is rounded up is no more than a number that the level times reaches
pub rounded_up : (cost level other : ℕ) → 1 ≤ level → cost ≤ level * other
    → (cost + level - 1) / level ≤ other
rounded_up cost level other some reached = elim (cases_lt other ((cost + level - 1) / level)) [
  | inr fine ↦ fine
  | inl over ↦ absurd (omega (
    arith,
    mul-le-mul_left level over,
    mul-div-le (cost + level - 1) level,
    reached,
    some,
  ))
]

-- Where the children take or need more than an amount at a level that some child is past with its
-- top, no weights meet the needs of the amount, or of less.
pub none_at : (amount : ℕ) (floors tops most needs : List ℕ) (level : ℕ)
    → AreWithin floors tops most needs → CanSplit amount floors most
    → (k : ℕ) → k < length tops → level * get_or tops k 0 < (2 * get_or needs k 0 - 1) * STEPS
    → TakeMore amount level floors most needs
    → (less : ℕ) → less ≤ amount → CanMeet floors tops most needs less → ⊥
none_at amount floors tops most needs level within can k below past more less fewer some =
    none_past amount floors tops most needs floors level within can
    (record { one_each = refl; no_less = λ k _. omega arith; no_more = within.rising })
    less some.0 some.1 fewer some.2 some.2.between.no_less k
    (omega (arith, below, within.tops_each)) more past
