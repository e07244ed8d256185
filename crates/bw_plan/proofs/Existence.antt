-- Each amount that the children can take has a best split.
use Rattle.std.proofs.Common.{◌≡◌, ℕ, zero, suc, ◌+◌, ◌*◌, ◌<◌, ◌≤◌, List, Option, None, Some}
use Rattle.std.proofs.Common.{length, get_or, set, replicate, refl, arith, inl, inr}
use Rattle.std.specs.Prelude.{sum}
use Rattle.std.proofs.lemmas.Bool.{cases_lt}
use Rattle.bw_model.specs.Split.{IsBestSplit}
use Rattle.bw_plan.proofs.Cheapest.{BestOf, best_kept, best_first, best_taken, best_stays}
use Rattle.bw_split.proofs.CallerLemmas.{IsFilled, none_filled, filled_more, not_full}
use Rattle.bw_split.proofs.CallerLemmas.{filled-IsBestSplit}

-- There is a best split of each amount that the maxima hold.
module _ (weights most : List ℕ) (same : length weights ≡ length most)
    (positive : (k : ℕ) → k < length weights → 0 < get_or weights k 0) where
  scanned : (parts : List ℕ) → length parts ≡ length most → (i : ℕ) → i ≤ length parts
      → (best : Option ℕ) × BestOf weights most parts i best
  scanned parts e zero below = (None, λ k lt. absurd (omega arith))
  scanned parts e (suc i) below =
      let so_far : (best : Option ℕ) × BestOf weights most parts i best =
      scanned parts e i (omega arith) in
      more so_far.0 so_far.1
    where
      pos : (k : ℕ) → k < i + 1 → 0 < get_or weights k 0
      pos k lt = positive k (omega (arith, same, e))

      at_next : (best : Option ℕ) → BestOf weights most parts (i + 1) best
          → BestOf weights most parts (suc i) best
      at_next best b = let n : i + 1 ≡ suc i = omega arith in rw n at b

      more : (best : Option ℕ) → BestOf weights most parts i best
          → (best : Option ℕ) × BestOf weights most parts (suc i) best
      more best b = elim (cases_lt (get_or parts i 0) (get_or most i 0)) [
        | inr full ↦ (best, at_next best (best_kept weights most parts i pos best b full))
        | inl room ↦ (elim best as (λ o. BestOf weights most parts i o
            → (next : Option ℕ) × BestOf weights most parts (suc i) next) [
              | None ↦ λ none.
                  (Some i, at_next (Some i) (best_first weights most parts i pos none room))
              | Some b' ↦ λ some.
                  elim (cases_lt ((2 * get_or parts i 0 + 1) * get_or weights b' 0)
                  ((2 * get_or parts b' 0 + 1) * get_or weights i 0)) [
                    | inl cheaper ↦ (
                      Some i,
                      at_next (Some i)
                          (best_taken weights most parts i pos b' some room cheaper),
                    )
                    | inr dearer ↦ (
                      Some b',
                      at_next (Some b')
                          (best_stays weights most parts i pos b' some dearer),
                    )
                  ]
            ]) b
      ]

  filled : (amount given : ℕ) → amount ≤ sum most → given ≤ amount
      → (parts : List ℕ) × IsFilled given weights most parts
  filled amount zero enough le =
      (replicate (length most) 0, none_filled weights most (length most) refl)
  filled amount (suc given) enough le =
      let so_far : (parts : List ℕ) × IsFilled given weights most parts =
      filled amount given enough (omega arith) in
      let e : length so_far.0 ≡ length most = so_far.1.split.lengths in
      let best : (best : Option ℕ) × BestOf weights most so_far.0 (length so_far.0) best =
      scanned so_far.0 e (length so_far.0) (omega arith) in
      given_to so_far.0 so_far.1 best.0 best.1
    where
      given_to : (parts : List ℕ) → IsFilled given weights most parts → (best : Option ℕ)
          → BestOf weights most parts (length parts) best →
          (parts : List ℕ) × IsFilled (suc given) weights most parts
      given_to parts f None full =
          absurd (not_full given amount weights most parts f (omega arith) enough full)
      given_to parts f (Some i) b = (
        set parts i (suc (get_or parts i 0)),
        filled_more given (suc given) weights most parts i (suc (get_or parts i 0)) refl refl same
            positive f
            (record { within = b.seen; room = b.room; least = b.least }),
      )

  pub best_split : (amount : ℕ) → amount ≤ sum most
      → (parts : List ℕ) × IsBestSplit amount weights most parts
  best_split amount enough =
      let f : (parts : List ℕ) × IsFilled amount weights most parts =
      filled amount amount enough (omega arith) in
      (f.0, filled-IsBestSplit amount weights most f.0 same positive f.1)
