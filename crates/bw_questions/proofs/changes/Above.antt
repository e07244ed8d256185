-- The groups above a group: the parent of one, and one child of each.
use Rattle.std.proofs.Common.{◌≡◌, ℕ, ◌<◌, ◌≤◌, List, true, None, Some, eqb, refl, ap, sym, ◌∙◌}
use Rattle.std.proofs.Common.{arith, inl, inr}
use Rattle.std.proofs.lemmas.Bool.{eqb-true, or_cases, or_right}
use Rattle.std.proofs.lemmas.Option.{same_Some}
use Rattle.bw_model.specs.declared.row.Row.{Row}
use Rattle.bw_model.specs.Groups.{AreTreeRows, parent_of, is_under}
use Rattle.bw_model.proofs.CallerLemmas.{strong, parent_lt, is_under-step, is_under-top}
use Rattle.bw_model.proofs.CallerLemmas.{is_under-self}
use Rattle.bw_questions.proofs.changes.Trees.{under_le}

module _ (rows : List Row) (tree : AreTreeRows rows) where
  -- The parent of a group is above all that the group is above.
  pub parent_above : (c p : ℕ) → parent_of rows c ≡ Some p → (l : ℕ)
      → is_under rows c l ≡ true → is_under rows p l ≡ true
  parent_above c p e = strong (λ l. is_under rows c l ≡ true → is_under rows p l ≡ true)
      (λ l before under.
      (elim (parent_of rows l) as (λ o. parent_of rows l ≡ o → is_under rows p l ≡ true) [
        | None ↦ λ none.
            let same : l ≡ c = eqb-true l c (sym (is_under-top rows tree c l none) ∙ under) in
            absurd (let clash : None ≡ Some p =
            sym none ∙ ap (parent_of rows) same ∙ e in cc)
        | Some q ↦ λ up.
            let high : is_under rows p q ≡ true =
            elim (or_cases (eqb l c) (is_under rows c q)
            (sym (is_under-step rows tree c l q up) ∙ under)) [
              | inl here ↦
                  let same : l ≡ c = eqb-true l c here in
                  let one : q ≡ p = same_Some q p (sym up ∙ ap (parent_of rows) same ∙ e) in
                  rw one (is_under-self rows tree p)
              | inr above ↦ before q (parent_lt rows tree l q up) above
            ] in
            is_under-step rows tree p l q up ∙ or_right (eqb l p) (is_under rows p q) high
      ]) refl)

  -- A sibling of a group is not above that group's parent.
  not_the_parent : (c d p l q : ℕ) → parent_of rows c ≡ Some p → parent_of rows d ≡ Some p
      → l ≡ c → parent_of rows l ≡ Some q → is_under rows d q ≡ true → ⊥
  not_the_parent c d p l q ec ed same up under =
      let one : q ≡ p = same_Some q p (sym up ∙ ap (parent_of rows) same ∙ ec) in
      let high : d ≤ q = under_le rows tree d q under in
      let less : p < d = parent_lt rows tree d p ed in
      omega (arith, one, high, less)

  -- Of siblings, one alone is above a group.
  pub one_above : (c d p : ℕ) → parent_of rows c ≡ Some p → parent_of rows d ≡ Some p
      → (l : ℕ) → is_under rows c l ≡ true → is_under rows d l ≡ true → c ≡ d
  one_above c d p ec ed = strong
      (λ l. is_under rows c l ≡ true → is_under rows d l ≡ true → c ≡ d)
      (λ l before uc ud.
      (elim (parent_of rows l) as (λ o. parent_of rows l ≡ o → c ≡ d) [
        | None ↦ λ none.
            sym (eqb-true l c (sym (is_under-top rows tree c l none) ∙ uc))
            ∙ eqb-true l d (sym (is_under-top rows tree d l none) ∙ ud)
        | Some q ↦ λ up.
            elim (or_cases (eqb l c) (is_under rows c q)
            (sym (is_under-step rows tree c l q up) ∙ uc)) [
              | inl here ↦
                  elim (or_cases (eqb l d) (is_under rows d q)
                  (sym (is_under-step rows tree d l q up) ∙ ud)) [
                    | inl there ↦ sym (eqb-true l c here) ∙ eqb-true l d there
                    | inr above ↦ absurd
                        (not_the_parent c d p l q ec ed (eqb-true l c here) up above)
                  ]
              | inr high ↦
                  elim (or_cases (eqb l d) (is_under rows d q)
                  (sym (is_under-step rows tree d l q up) ∙ ud)) [
                    | inl there ↦ absurd
                        (not_the_parent d c p l q ed ec (eqb-true l d there) up high)
                    | inr above ↦ before q (parent_lt rows tree l q up) high above
                  ]
            ]
      ]) refl)
