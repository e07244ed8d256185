-- The groups from one group up to the root.
use Rattle.std.proofs.Common.{◌≡◌, ◌≢◌, ℕ, ◌<◌, ◌≤◌, ◌⊎◌, List, true, None, Some, length, eqb}
use Rattle.std.proofs.Common.{refl, ap, sym, ◌∙◌, arith, inl, inr}
use Rattle.std.proofs.lemmas.Bool.{eqb-true, or_cases, or_right, cases_eq}
use Rattle.bw_model.specs.declared.row.Row.{Row}
use Rattle.bw_model.specs.Groups.{AreTreeRows, parent_of, is_under}
use Rattle.bw_model.proofs.CallerLemmas.{strong, parent_lt, is_under-step, is_under-top}
use Rattle.bw_model.proofs.CallerLemmas.{is_under-self}

module _ (rows : List Row) (tree : AreTreeRows rows) where
  -- A group above another is that one, or above its parent.
  pub above_cases : (g l p : ℕ) → parent_of rows l ≡ Some p → is_under rows g l ≡ true
      → (l ≡ g) ⊎ (is_under rows g p ≡ true)
  above_cases g l p e under =
      elim (or_cases (eqb l g) (is_under rows g p)
      (sym (is_under-step rows tree g l p e) ∙ under)) [
        | inl here ↦ inl (eqb-true l g here)
        | inr above ↦ inr above
      ]

  pub above_top : (g l : ℕ) → parent_of rows l ≡ None → is_under rows g l ≡ true → l ≡ g
  above_top g l e under = eqb-true l g (sym (is_under-top rows tree g l e) ∙ under)

  -- What is above a parent is above its child.
  pub above_parent : (g l p : ℕ) → parent_of rows l ≡ Some p → is_under rows g p ≡ true
      → is_under rows g l ≡ true
  above_parent g l p e under =
      is_under-step rows tree g l p e ∙ or_right (eqb l g) (is_under rows g p) under

  -- What is above a group has no greater row.
  pub above_le : (g l : ℕ) → is_under rows g l ≡ true → g ≤ l
  above_le g = strong (λ l. is_under rows g l ≡ true → g ≤ l) (λ l before under.
      (elim (parent_of rows l) as (λ o. parent_of rows l ≡ o → g ≤ l) [
        | None ↦ λ e. let same : l ≡ g = above_top g l e under in omega (arith, same)
        | Some p ↦ λ e.
            let less : p < l = parent_lt rows tree l p e in
            elim (above_cases g l p e under) [
              | inl here ↦ omega (arith, here)
              | inr above ↦ let up : g ≤ p = before p less above in omega (arith, up, less)
            ]
      ]) refl)

  -- Of two groups above a third, one is above the other.
  pub one_line : (b d l : ℕ) → is_under rows b l ≡ true → is_under rows d l ≡ true
      → (is_under rows b d ≡ true) ⊎ (is_under rows d b ≡ true)
  one_line b d = strong
      (λ l. is_under rows b l ≡ true → is_under rows d l ≡ true
      → (is_under rows b d ≡ true) ⊎ (is_under rows d b ≡ true))
      (λ l before ub ud.
      (elim (parent_of rows l) as (λ o. parent_of rows l ≡ o
      → (is_under rows b d ≡ true) ⊎ (is_under rows d b ≡ true)) [
        | None ↦ λ e. inl (ap (is_under rows b) (sym (above_top d l e ud)) ∙ ub)
        | Some p ↦ λ e. elim (above_cases b l p e ub) [
          | inl here ↦ inr (ap (is_under rows d) (sym here) ∙ ud)
          | inr up ↦ elim (above_cases d l p e ud) [
            | inl here ↦ inl (ap (is_under rows b) (sym here) ∙ ub)
            | inr high ↦ before p (parent_lt rows tree l p e) up high
          ]
        ]
      ]) refl)

  -- Above another group, one of a group's children is.
  pub child_above : (b l : ℕ) → l < length rows → is_under rows b l ≡ true → l ≢ b
      → (c : ℕ) × (c < length rows) × (parent_of rows c ≡ Some b) × (is_under rows c l ≡ true)
  child_above b = strong
      (λ l. l < length rows → is_under rows b l ≡ true → l ≢ b
      → (c : ℕ) × (c < length rows) × (parent_of rows c ≡ Some b) × (is_under rows c l ≡ true))
      (λ l before below under other.
      (elim (parent_of rows l) as (λ o. parent_of rows l ≡ o → (c : ℕ) × (c < length rows)
      × (parent_of rows c ≡ Some b) × (is_under rows c l ≡ true)) [
        | None ↦ λ e. absurd (other (above_top b l e under))
        | Some p ↦ λ e. elim (above_cases b l p e under) [
          | inl here ↦ absurd (other here)
          | inr up ↦ elim (cases_eq p b) [
            | inl top ↦ (l, below, e ∙ ap Some top, is_under-self rows tree l)
            | inr far ↦
                let less : p < l = parent_lt rows tree l p e in
                let found : (c : ℕ) × (c < length rows) × (parent_of rows c ≡ Some b)
                × (is_under rows c p ≡ true) = before p less (omega (arith, less, below)) up far in
                (found.0, found.1, found.2, above_parent found.0 l p e found.3)
          ]
        ]
      ]) refl)
