-- Rows that may get a lower limit.
use Rattle.std.proofs.Common.{◌≡◌, ℕ, ◌+◌, ◌<◌, List, true, false, length, refl, sym, ap, ◌∙◌, arith}
use Rattle.std.proofs.Common.{inl, inr}
use Rattle.std.specs.Prelude.{nat_lt}
use Rattle.std.specs.List.{list_any, range_with_len}
use Rattle.std.proofs.Math.Bool.{and-false}
use Rattle.std.proofs.lemmas.Bool.{cases_Bool, lt-ltb}
use Rattle.bw_model.specs.declared.row.Row.{Row}
use Rattle.bw_model.proofs.CallerLemmas.{list_any-range, some_in_range}
use Rattle.bw_questions.specs.OtherLimits.{has_goal_near, is_free}

module _ (rows : List Row) (goals : List ℕ) where
  pub root_bound : is_free rows goals 0 ≡ false
  unfolding is_free
  root_bound = refl

  -- A goal near a row binds it.
  pub near_bound : (h g : ℕ) → g < length rows → has_goal_near rows goals h g ≡ true
      → is_free rows goals h ≡ false
  unfolding is_free
  near_bound h g below near =
      rw (list_any-range (has_goal_near rows goals h) 0 (length rows) g below
      (ap (has_goal_near rows goals h) (omega arith) ∙ near)) (and-false (nat_lt 0 h))

  -- A row below the root with no goal near it is free.
  pub far_free : (h : ℕ) → 0 < h
      → ((g : ℕ) → g < length rows → has_goal_near rows goals h g ≡ false)
      → is_free rows goals h ≡ true
  unfolding is_free
  far_free h below_root far =
      elim (cases_Bool (list_any (has_goal_near rows goals h) (range_with_len 0 (length rows)))) [
        | inr none ↦ rw (lt-ltb 0 h below_root, none) refl
        | inl some ↦
            let found : (k : ℕ) × (k < length rows)
            × (has_goal_near rows goals h (0 + k) ≡ true) =
            some_in_range (has_goal_near rows goals h) 0 (length rows) some in
            let at : 0 + found.0 ≡ found.0 = omega arith in
            let clash : true ≡ false =
            sym found.2 ∙ ap (has_goal_near rows goals h) at ∙ far found.0 found.1 in
            absurd cc
      ]
