-- Raises of siblings' weights, none of which goes too far.
use Rattle.std.proofs.Common.{◌≡◌, ℕ, zero, suc, ◌+◌, ◌-◌, ◌<◌, ◌≤◌, List, [], ◌∷◌, length, Option, None, Some}
use Rattle.std.proofs.Common.{Global, get_or, refl, sym, ◌∙◌, arith, inl, inr}
use Rattle.std.specs.Prelude.{sum, Vec}
use Rattle.std.proofs.lemmas.Bool.{cases_lt}
use Rattle.bw_model.specs.declared.limits.TheConstants.{MAX_WEIGHT}
use Rattle.bw_model.specs.Split.{IsBestSplit}
use Rattle.bw_model.proofs.CallerLemmas.{sum-cons}
use Rattle.bw_split.specs.Conditions.{CanSplit}
use Rattle.bw_questions.specs.changes.OneSplit.{AreWeighted, LighterHasNoMore}
use Rattle.bw_questions.proofs.changes.Lists.{outside}
use Rattle.bw_questions.specs.Needs.{AreRaised, AreWithin, AreBetween, CanMeet, IsHeavyEnough}
use Rattle.bw_questions.specs.Needs.{IsLevelOfNeeds, MeetsNeeds}
use Rattle.bw_questions.proofs.Levels.{cheap_at}

-- what the weights can rise yet, in all
abbrev pub room : List ℕ → ℕ
room [] = 0
room (w ∷ ws) = (MAX_WEIGHT - w) + room ws

pub room_no_more : (ws vs : List ℕ) → length vs ≡ length ws
    → ((k : ℕ) → k < length ws → get_or ws k 0 ≤ get_or vs k 0) → room vs ≤ room ws
room_no_more [] [] same le = omega arith
room_no_more [] (v ∷ vs) same le = absurd (omega (arith, same))
room_no_more (w ∷ ws) [] same le = absurd (omega (arith, same))
room_no_more (w ∷ ws) (v ∷ vs) same le =
    omega (
      arith,
      le 0 (omega arith),
      room_no_more ws vs (omega (arith, same)) (λ k below. le (suc k) (omega (arith, below))),
    )

pub room_less : (ws vs : List ℕ) (k : ℕ) → length vs ≡ length ws
    → ((k : ℕ) → k < length ws → get_or ws k 0 ≤ get_or vs k 0) → k < length ws
    → get_or ws k 0 < get_or vs k 0 → get_or vs k 0 ≤ MAX_WEIGHT → room vs < room ws
room_less [] vs k same le below more last = absurd (omega (arith, below))
room_less (w ∷ ws) [] k same le below more last = absurd (omega (arith, same))
room_less (w ∷ ws) (v ∷ vs) zero same le below more last =
    omega (
      arith,
      more,
      last,
      room_no_more ws vs (omega (arith, same)) (λ k below. le (suc k) (omega (arith, below))),
    )
room_less (w ∷ ws) (v ∷ vs) (suc k) same le below more last =
    omega (
      arith,
      le 0 (omega arith),
      room_less ws vs k (omega (arith, same))
          (λ k below. le (suc k) (omega (arith, below))) (omega (arith, below)) more last,
    )

-- Parts that are nowhere less than the needs add up to no less.
pub needs_fit : (needs parts : List ℕ) → length parts ≡ length needs
    → ((k : ℕ) → k < length parts → get_or needs k 0 ≤ get_or parts k 0) → sum needs ≤ sum parts
needs_fit [] [] e le = omega arith
needs_fit [] (y ∷ ys) e le = absurd (omega (arith, e))
needs_fit (x ∷ xs) [] e le = absurd (omega (arith, e))
needs_fit (x ∷ xs) (y ∷ ys) e le =
    omega (
      arith,
      sum-cons x xs,
      sum-cons y ys,
      le 0 (omega arith),
      needs_fit xs ys (omega (arith, e)) (λ k below. le (suc k) (omega (arith, below))),
    )

-- No less than the needs in all meets them.
pub too_few : (floors tops most needs : List ℕ) (amount : ℕ) → AreWithin floors tops most needs
    → length most ≡ length floors → (sum needs ≤ amount → ⊥)
    → (less : ℕ) → less ≤ amount → CanMeet floors tops most needs less → ⊥
too_few floors tops most needs amount within one_each over less fewer can =
    let fit : sum needs ≤ sum can.1 =
    needs_fit needs can.1
    (omega (arith, can.2.split.split.lengths, one_each, within.needs_each)) can.2.met in
    over (omega (arith, fit, can.2.split.split.whole, fewer))

-- what can be split with other weights in range, or less of it
module _ (amount : ℕ) (weights most : List ℕ) (can : CanSplit amount weights most) where
  pub can_less : (less : ℕ) → less ≤ amount → CanSplit less weights most
  can_less less fewer = record {
    one_each = can.one_each;
    few = can.few;
    weights_in_range = can.weights_in_range;
    enough = omega (arith, can.enough, fewer);
    small = omega (arith, can.small, fewer);
  }

  pub weighted : AreWeighted weights most
  weighted = record {
    one_each = sym can.one_each;
    positive = λ k below. let w = can.weights_in_range k below in omega (arith, w.0);
  }

  pub can_weigh : (tops needs : List ℕ) → AreWithin weights tops most needs → (others : List ℕ)
      → AreBetween weights tops others → CanSplit amount others most
  can_weigh tops needs within others between = record {
    one_each = can.one_each ∙ sym between.one_each;
    few = omega (arith, can.few, between.one_each);
    weights_in_range = λ k k_in.
        let below : k < length weights = omega (arith, k_in, between.one_each) in (
          omega (arith, (can.weights_in_range k below).0, between.no_less k below),
          omega (arith, between.no_more k below, within.greatest k below),
        );
    enough = can.enough;
    small = can.small;
  }

-- An option that is no value is none.
pub no_value : {A : Type 0} (o : Option A) → ((x : A) → o ≡ Some x → ⊥) → o ≡ None
no_value None h = refl
no_value (Some x) h = absurd (h x refl)

-- The weights that stand, which no solution is below, and the split of the amount with them.
module _ (law : LighterHasNoMore) (amount : ℕ) (floors tops most needs weights parts : List ℕ)
    (can : CanSplit amount weights most) (within : AreWithin floors tops most needs)
    (between : AreBetween floors tops weights) (split : IsBestSplit amount weights most parts)
    (least : (less : ℕ) (others given : List ℕ) → less ≤ amount
    → MeetsNeeds floors tops most needs less others given
    → (k : ℕ) → k < length floors → get_or weights k 0 ≤ get_or others k 0) where
  -- Where a child falls short, each solution has a greater weight of it.
  past_short : (less : ℕ) (others given : List ℕ) → less ≤ amount
      → MeetsNeeds floors tops most needs less others given
      → (child : ℕ) → child < length floors → get_or parts child 0 < get_or needs child 0
      → get_or weights child 0 < get_or others child 0
  past_short less others given fewer meets child below short =
      elim (cases_lt (get_or weights child 0) (get_or others child 0)) [
        | inl fine ↦ fine
        | inr light ↦ absurd
            (let other_weighted : AreWeighted others most = record {
              one_each = meets.between.one_each ∙ sym between.one_each ∙ sym can.one_each;
              positive = λ k k_in.
                  let in_range = can.weights_in_range k
                  (omega (arith, k_in, meets.between.one_each, between.one_each)) in
                  omega (
                    arith,
                    in_range.0,
                    least less others given fewer meets k
                        (omega (arith, k_in, meets.between.one_each)),
                  );
            } in
            let need : get_or needs child 0 ≤ get_or given child 0 =
            meets.met child
            (omega (arith, below, meets.split.split.lengths, can.one_each, between.one_each)) in
            let no_more : get_or given child 0 ≤ get_or parts child 0 =
            law amount less weights most others parts given child fewer
            (weighted amount weights most can) other_weighted light
            (λ k apart. elim (cases_lt k (length floors)) [
              | inl k_in ↦ least less others given fewer meets k k_in
              | inr out ↦
                  omega (arith, outside weights k (omega (arith, out, between.one_each)))
            ])
            split meets.split (omega (arith, short, within.enough child below)) in
            omega (arith, need, no_more, short))
      ]

  -- Each solution is heavy enough.
  enough : (level : ℕ) → IsLevelOfNeeds amount weights most needs level
      → (less : ℕ) (others given : List ℕ) → less ≤ amount
      → MeetsNeeds floors tops most needs less others given
      → (k : ℕ) → k < length floors
      → IsHeavyEnough level (get_or weights k 0) (get_or parts k 0) (get_or needs k 0)
      (get_or others k 0)
  enough level found less others given fewer meets k below = record {
    no_less = least less others given fewer meets k below;
    more = λ short. past_short less others given fewer meets k below short;
    cheap = cheap_at amount floors tops most needs weights level within can between less others
        given fewer meets (least less others given fewer meets) k below found;
  }

  -- A raise keeps the weights at or below each solution.
  pub raise-between : (level : ℕ) (raised : Vec ℕ Global)
      → AreRaised level weights tops parts needs (Some raised)
      → AreBetween floors tops raised.items
  raise-between level raised found = record {
    one_each = found.0 ∙ between.one_each;
    no_less = λ k below.
        let here = found.1 k (omega (arith, below, between.one_each)) in
        omega (arith, between.no_less k below, here.1.no_less);
    no_more = λ k below. (found.1 k (omega (arith, below, between.one_each))).0;
  }

  pub raise-least : (level : ℕ) → IsLevelOfNeeds amount weights most needs level
      → (raised : Vec ℕ Global) → AreRaised level weights tops parts needs (Some raised)
      → (less : ℕ) (others given : List ℕ) → less ≤ amount
      → MeetsNeeds floors tops most needs less others given
      → (k : ℕ) → k < length floors → get_or raised.items k 0 ≤ get_or others k 0
  raise-least level is raised found less others given fewer meets k below =
      (found.1 k (omega (arith, below, between.one_each))).2 (get_or others k 0)
      (enough level is less others given fewer meets k below)

  -- Where a child would have to be heavier than its top, there is no solution.
  pub never_met : (level : ℕ) → IsLevelOfNeeds amount weights most needs level
      → AreRaised level weights tops parts needs None
      → (less : ℕ) → less ≤ amount → CanMeet floors tops most needs less → ⊥
  never_met level is found less fewer some =
      let below : found.0 < length floors = omega (arith, found.1, between.one_each) in
      omega (
        arith,
        found.2 (get_or some.0 found.0 0)
            (enough level is less some.0 some.1 fewer some.2 found.0 below),
        some.2.between.no_more found.0 below,
      )
