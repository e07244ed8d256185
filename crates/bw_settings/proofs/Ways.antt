-- The way from the root to a group: the parents on it, and the siblings beside it.
use Rattle.std.proofs.Common.{◌≡◌, ◌≢◌, ◌⊎◌, ℕ, ◌<◌, ◌≤◌, List, true, false, None, Some, refl}
use Rattle.std.proofs.Common.{ap, sym, ◌∙◌, arith, inl, inr, eqb, true≢false}
use Rattle.std.proofs.lemmas.Bool.{cases_Bool, eqb-true, or_cases, or_right}
use Rattle.std.proofs.lemmas.Option.{same_Some}
use Rattle.bw_model.specs.declared.row.Row.{Row}
use Rattle.bw_model.specs.Groups.{AreTreeRows, parent_of, is_under}
use Rattle.bw_model.proofs.CallerLemmas.{strong, parent_lt, is_under-step, is_under-top}
use Rattle.bw_model.proofs.CallerLemmas.{is_under-self}

module _ (rows : List Row) (tree : AreTreeRows rows) where
  -- What is below a group is the group, or its parent is below the group.
  at_or_below : (g l : ℕ) → is_under rows g l ≡ true → (Goal : Type 0) → (l ≡ g → Goal)
      → ((q : ℕ) → parent_of rows l ≡ Some q → is_under rows g q ≡ true → Goal) → Goal
  at_or_below g l under Goal here below =
      (elim (parent_of rows l) as (λ o. parent_of rows l ≡ o → Goal) [
        | None ↦ λ e. here (eqb-true l g (sym (is_under-top rows tree g l e) ∙ under))
        | Some q ↦ λ e. elim (or_cases (eqb l g) (is_under rows g q)
            (sym (is_under-step rows tree g l q e) ∙ under)) [
              | inl same ↦ here (eqb-true l g same)
              | inr above ↦ below q e above
            ]
      ]) refl

  under_le : (g l : ℕ) → is_under rows g l ≡ true → g ≤ l
  under_le g = strong (λ l. is_under rows g l ≡ true → g ≤ l) (λ l before under.
      at_or_below g l under (g ≤ l) (λ same. omega (arith, same))
      (λ q e above.
      let less : q < l = parent_lt rows tree l q e in
      let up : g ≤ q = before q less above in
      omega (arith, up, less)))

  -- What is below a group that is below another is below that other.
  pub under_under : (g c : ℕ) → is_under rows g c ≡ true → (l : ℕ) → is_under rows c l ≡ true
      → is_under rows g l ≡ true
  under_under g c up = strong (λ l. is_under rows c l ≡ true → is_under rows g l ≡ true)
      (λ l before under.
      at_or_below c l under (is_under rows g l ≡ true)
      (λ same. ap (is_under rows g) same ∙ up)
      (λ q e above. is_under-step rows tree g l q e
      ∙ or_right (eqb l g) (is_under rows g q) (before q (parent_lt rows tree l q e) above)))

  -- A group below another is below that one's parent.
  pub above_parent : (c p : ℕ) → parent_of rows c ≡ Some p → (l : ℕ) → is_under rows c l ≡ true
      → is_under rows p l ≡ true
  above_parent c p up =
      under_under p c
      (is_under-step rows tree p c p up
      ∙ or_right (eqb c p) (is_under rows p p) (is_under-self rows tree p))

  -- Of two groups above a third one is above the other.
  pub on_one_way : (a b l : ℕ) → is_under rows a l ≡ true → is_under rows b l ≡ true
      → (is_under rows a b ≡ true) ⊎ (is_under rows b a ≡ true)
  on_one_way a b = strong
      (λ l. is_under rows a l ≡ true → is_under rows b l ≡ true
      → (is_under rows a b ≡ true) ⊎ (is_under rows b a ≡ true))
      (λ l before one other.
      at_or_below a l one ((is_under rows a b ≡ true) ⊎ (is_under rows b a ≡ true))
      (λ here. inr (ap (is_under rows b) (sym here) ∙ other))
      (λ q e above.
      at_or_below b l other ((is_under rows a b ≡ true) ⊎ (is_under rows b a ≡ true))
      (λ there. inl (ap (is_under rows a) (sym there) ∙ one))
      (λ r d high.
      let same : q ≡ r = same_Some q r (sym e ∙ d) in
      before q (parent_lt rows tree l q e) above (ap (is_under rows b) same ∙ high))))

  -- A row above an owner's is a group above or below that owner's row, above it or below it.
  pub off_way : (h group owner : ℕ) → is_under rows h owner ≡ true
      → (is_under rows owner group ≡ true) ⊎ (is_under rows group owner ≡ true)
      → is_under rows h group ≡ false → is_under rows group h ≡ false → ⊥
  off_way h group owner over way not_above not_below = elim way [
    | inl above ↦ true≢false (sym (under_under h owner over group above) ∙ not_above)
    | inr below ↦ elim (on_one_way h group owner over below) [
      | inl up ↦ true≢false (sym up ∙ not_above)
      | inr down ↦ true≢false (sym down ∙ not_below)
    ]
  ]

  module _ (c s p : ℕ) (up : parent_of rows c ≡ Some p) (also : parent_of rows s ≡ Some p)
      (apart : s ≢ c) where
    -- No group is above its parent.
    not_over : (g : ℕ) → parent_of rows g ≡ Some p → is_under rows g p ≡ true → ⊥
    not_over g e under =
        omega (arith, parent_lt rows tree g p e, under_le g p under)

    -- A group is below one of two siblings at most.
    not_both : (l : ℕ) → is_under rows c l ≡ true → is_under rows s l ≡ true → ⊥
    not_both = strong (λ l. is_under rows c l ≡ true → is_under rows s l ≡ true → ⊥)
        (λ l before one other.
        at_or_below c l one ⊥
        (λ here. at_or_below s l other ⊥ (λ there. apart (sym there ∙ here))
        (λ q e above.
        let same : p ≡ q = same_Some p q (sym up ∙ sym (ap (parent_of rows) here) ∙ e) in
        not_over s also (ap (is_under rows s) same ∙ above)))
        (λ q e above. at_or_below s l other ⊥
        (λ there.
        let same : p ≡ q = same_Some p q (sym also ∙ sym (ap (parent_of rows) there) ∙ e) in
        not_over c up (ap (is_under rows c) same ∙ above))
        (λ r d high.
        let same : q ≡ r = same_Some q r (sym e ∙ d) in
        before q (parent_lt rows tree l q e) above (ap (is_under rows s) same ∙ high))))

    pub sibling_not_above : (l : ℕ) → is_under rows c l ≡ true → is_under rows s l ≡ false
    sibling_not_above l under = elim (cases_Bool (is_under rows s l)) [
      | inl yes_it_is ↦ absurd (not_both l under yes_it_is)
      | inr is_not ↦ is_not
    ]

    pub sibling_not_below : (l : ℕ) → is_under rows c l ≡ true → is_under rows l s ≡ false
    sibling_not_below l under = elim (cases_Bool (is_under rows l s)) [
      | inr is_not ↦ is_not
      | inl it_is ↦ absurd
          (at_or_below l s it_is ⊥
          (λ same. not_both l under (ap (is_under rows s) (sym same) ∙ is_under-self rows tree s))
          (λ q e above.
          let same : p ≡ q = same_Some p q (sym also ∙ e) in
          let low : c ≤ l = under_le c l under in
          let high : l ≤ q = under_le l q above in
          omega (arith, low, high, same, parent_lt rows tree c p up)))
    ]
