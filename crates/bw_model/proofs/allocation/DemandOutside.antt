-- Which groups lie at or below a limiting one.
use Rattle.std.proofs.Common.{◌≡◌, ℕ, ◌+◌, ◌<◌, List, [], ◌∷◌, Bool, true, false, cond, ◌||◌, ◌&&◌}
use Rattle.std.proofs.Common.{not, None, Some, length, drop, eqb, refl, ap, sym, ◌∙◌}
use Rattle.std.proofs.Common.{arith, inl, inr, zero-add}
use Rattle.std.specs.Prelude.{filter}
use Rattle.std.specs.List.{list_any, range_with_len}
use Rattle.std.proofs.lemmas.Bool.{cases_Bool, both_ways, eqb-true, eq-eqb, and_parts, and_from}
use Rattle.std.proofs.lemmas.Bool.{false_from_ne_true}
use Rattle.bw_model.specs.Groups.{Groups, AreTreeRows, parent_of, is_leaf, is_under, path_up}
use Rattle.bw_model.specs.Groups.{demand_of}
use Rattle.bw_model.specs.Demand.{is_tight, has_tight_above, limiting_groups, demand_outside}
use Rattle.bw_model.proofs.Basics.{any-filter, strong, list_any-range, some_in_range, sum_below}
use Rattle.bw_model.proofs.Basics.{sum_below-ap, sum_by-filter_range}
use Rattle.bw_model.proofs.tree.Under.{parent_lt, path_up-top, path_up-step, is_under-top}
use Rattle.bw_model.proofs.tree.Under.{is_under-step}

pub any-ap : (p q : ℕ → Bool) (xs : List ℕ) → ((x : ℕ) → p x ≡ q x) → list_any p xs ≡ list_any q xs
any-ap p q [] same = refl
any-ap p q (x ∷ xs) same = rw (same x, any-ap p q xs same) refl

any-or : (p q : ℕ → Bool) (xs : List ℕ)
    → list_any (λ x. p x || q x) xs ≡ (list_any p xs || list_any q xs)
any-or p q [] = refl
any-or p q (x ∷ xs) = elim (cases_Bool (p x)) [
  | inl e ↦ rw e refl
  | inr e ↦ rw (e, any-or p q xs) (or_parts (q x) (list_any p xs) (list_any q xs))
]
  where
    or_parts : (a b c : Bool) → (a || (b || c)) ≡ (b || (a || c))
    or_parts true true c = refl
    or_parts true false c = refl
    or_parts false true c = refl
    or_parts false false c = refl

-- a number is in a filtered range where it passes
any-self : (p : ℕ → Bool) (n l : ℕ) → l < n → list_any (eqb l) (filter p (range_with_len 0 n)) ≡ p l
any-self p n l below = any-filter p (eqb l) (range_with_len 0 n) ∙ elim (cases_Bool (p l)) [
  | inl e ↦ list_any-range (λ x. p x && eqb l x) 0 n l below
      (rw (zero-add l) (and_from (p l) (eqb l l) e (eq-eqb l l refl))) ∙ sym e
  | inr e ↦ false_from_ne_true (list_any (λ x. p x && eqb l x) (range_with_len 0 n)) (λ some.
      let r : (k : ℕ) × (k < n) × ((p (0 + k) && eqb l (0 + k)) ≡ true) =
      some_in_range (λ x. p x && eqb l x) 0 n some in
      let v = rw (zero-add r.0) at r.2 in
      let both : (p r.0 ≡ true) × (eqb l r.0 ≡ true) = and_parts (p r.0) (eqb l r.0) v in
      both_ways (p l) e (ap p (eqb-true l r.0 both.1) ∙ both.0)) ∙ sym e
]

or_here : (t a : Bool) → ((t && not a) || a) ≡ (t || a)
or_here true true = refl
or_here true false = refl
or_here false true = refl
or_here false false = refl

and_free : (t a : Bool) → a ≡ false → (t && not a) ≡ (t || a)
and_free true true e = cc
and_free true false e = refl
and_free false true e = cc
and_free false false e = refl

module _ (groups : Groups) (most : List ℕ) where
  -- whether a group is limiting
  unfoldable pub limits_at : ℕ → Bool
  limits_at g = is_tight groups most g && not (has_tight_above groups most g)

  -- whether a group lies at or below a limiting one
  unfoldable pub covered : ℕ → Bool
  covered l = list_any (λ g. is_under groups.rows g l) (limiting_groups groups most)

module _ (groups : Groups) (tree : AreTreeRows groups.rows) (most : List ℕ) where
  -- nothing is above a group without a parent
  pub above-top : (g : ℕ) → parent_of groups.rows g ≡ None → has_tight_above groups most g ≡ false
  unfolding has_tight_above
  above-top g e = rw (path_up-top groups.rows tree g e) refl

  pub above-child : (g c : ℕ) → parent_of groups.rows c ≡ Some g →
      has_tight_above groups most c ≡ (is_tight groups most g || has_tight_above groups most g)
  unfolding has_tight_above
  above-child g c e = rw (path_up-step groups.rows tree c g e) (top_of_path g)
    where
      top_of_path : (l : ℕ) → list_any (is_tight groups most) (path_up groups.rows l)
          ≡ (is_tight groups most l || list_any (is_tight groups most)
          (drop 1 (path_up groups.rows l)))
      top_of_path l = (elim (parent_of groups.rows l) as (λ o. parent_of groups.rows l ≡ o →
          list_any (is_tight groups most) (path_up groups.rows l)
          ≡ (is_tight groups most l || list_any (is_tight groups most)
          (drop 1 (path_up groups.rows l)))) [
            | None ↦ λ none. rw (path_up-top groups.rows tree l none) refl
            | Some p ↦ λ some. rw (path_up-step groups.rows tree l p some) refl
          ]) refl

  self : (l : ℕ) → l < length groups.rows
      → list_any (eqb l) (limiting_groups groups most) ≡ limits_at groups most l
  unfolding limiting_groups limits_at
  self l below = any-self (λ g. is_tight groups most g && not (has_tight_above groups most g))
      (length groups.rows) l below

  covered-top : (l : ℕ) → l < length groups.rows → parent_of groups.rows l ≡ None
      → covered groups most l ≡ limits_at groups most l
  unfolding covered
  covered-top l below e =
      any-ap (λ g. is_under groups.rows g l) (eqb l) (limiting_groups groups most)
      (λ g. is_under-top groups.rows tree g l e) ∙ self l below

  covered-step : (l p : ℕ) → l < length groups.rows → parent_of groups.rows l ≡ Some p
      → covered groups most l ≡ (limits_at groups most l || covered groups most p)
  unfolding covered
  covered-step l p below e =
      any-ap (λ g. is_under groups.rows g l) (λ g. eqb l g || is_under groups.rows g p)
      (limiting_groups groups most)
      (λ g. is_under-step groups.rows tree g l p e)
      ∙ any-or (eqb l) (λ g. is_under groups.rows g p) (limiting_groups groups most)
      ∙ ap (λ (b : Bool). b || list_any (λ g. is_under groups.rows g p)
      (limiting_groups groups most)) (self l below)

  covered-is : (l : ℕ) → l < length groups.rows
      → covered groups most l ≡ (is_tight groups most l || has_tight_above groups most l)
  covered-is = strong (λ l. l < length groups.rows → covered groups most l
      ≡ (is_tight groups most l || has_tight_above groups most l)) (λ l ih below.
      (elim (parent_of groups.rows l) as (λ o. parent_of groups.rows l ≡ o
      → covered groups most l ≡ (is_tight groups most l || has_tight_above groups most l)) [
        | None ↦ λ none. covered-top l below none
            ∙ (unfold limits_at in and_free (is_tight groups most l) (has_tight_above groups most l)
            (above-top l none))
        | Some p ↦ λ some.
            let lt : p < l = parent_lt groups.rows tree l p some in
            covered-step l p below some
            ∙ ap (λ (b : Bool). limits_at groups most l || b)
            (ih p lt (omega arith) ∙ sym (above-child p l some))
            ∙ (unfold limits_at in or_here (is_tight groups most l) (has_tight_above groups most l))
      ]) refl)

  -- the demands outside are those of the leaves with no tight group on their path
  pub demand_outside-is : demand_outside groups.rows (limiting_groups groups most)
      ≡ sum_below (length groups.rows)
      (λ l. cond (is_leaf groups.rows l
      && not (is_tight groups most l || has_tight_above groups most l))
      (demand_of groups.rows l) 0)
  unfolding demand_outside
  demand_outside-is =
      sum_by-filter_range (λ l. is_leaf groups.rows l
      && not (list_any (λ g. is_under groups.rows g l) (limiting_groups groups most)))
      (demand_of groups.rows) (length groups.rows)
      ∙ sum_below-ap (length groups.rows)
      (λ l. cond (is_leaf groups.rows l
      && not (list_any (λ g. is_under groups.rows g l) (limiting_groups groups most)))
      (demand_of groups.rows l) 0)
      (λ l. cond (is_leaf groups.rows l
      && not (is_tight groups most l || has_tight_above groups most l))
      (demand_of groups.rows l) 0)
      (λ l below. ap (λ (b : Bool). cond (is_leaf groups.rows l && not b) (demand_of groups.rows l)
      0) (unfold covered in covered-is l below))
