-- Demands of the leaves of a group: with more of them the group has what it had, or more than its
-- most of before.
use Rattle.std.proofs.Common.{◌≡◌, ℕ, ◌<◌, ◌≤◌, List, true, false, Some, length, get_or, eqb}
use Rattle.std.proofs.Common.{refl, ap, sym, ◌∙◌, arith, inl, inr}
use Rattle.std.specs.Prelude.{map, slice_index}
use Rattle.std.proofs.lemmas.Bool.{eqb-true, false_from_ne_true, or_cases}
use Rattle.bw_model.specs.Groups.{Groups, IsInstance, parent_of, children_of, is_leaf, weight_of}
use Rattle.bw_model.specs.Groups.{limit_of, is_under}
use Rattle.bw_model.specs.Demand.{want_of}
use Rattle.bw_model.specs.Plan.{IsPlan, child_weights}
use Rattle.bw_model.proofs.CallerLemmas.{from_the_last, capped, mosts, mosts-capped}
use Rattle.bw_model.proofs.CallerLemmas.{parent_lt, parent_not_leaf, listed_child}
use Rattle.bw_model.proofs.CallerLemmas.{is_under-self, is_under-step}
use Rattle.bw_questions.specs.changes.Asked.{DemandsInsideOnlyCut, IsBusierInside}
use Rattle.bw_questions.specs.changes.OneSplit.{IsRaised}
use Rattle.bw_questions.proofs.changes.Above.{parent_above, one_above}
use Rattle.bw_questions.proofs.changes.BusyLaw.{NoMore, no_more, roomier}
use Rattle.bw_questions.proofs.changes.HostLaws.{mosts_less}
use Rattle.bw_questions.proofs.changes.Lacking.{within_most, most_is}
use Rattle.bw_questions.proofs.changes.Raised.{child_keeps}
use Rattle.bw_questions.proofs.changes.Siblings.{raised_child}
use Rattle.bw_questions.proofs.changes.Trees.{at_place, from_the_root, planned, split_beside}
use Rattle.bw_questions.proofs.changes.Trees.{under_le}
use Rattle.bw_questions.proofs.changes.Trees.{want_same, weighted, weighted_beside}

module _ (a b : Groups) (group : ℕ) (xs ys : List ℕ) (va : IsInstance a) (vb : IsInstance b)
    (busier : IsBusierInside a b group) (is_plan : IsPlan a xs) (is_other : IsPlan b ys) where
  most_less : (h : ℕ) → h < length a.rows
      → get_or (mosts a va.tree) h 0 ≤ get_or (mosts b vb.tree) h 0
  most_less h below =
      mosts_less a b va vb (roomier a b busier.no_less) h below

  -- A group that is neither above the busier one nor below it can be given as much as before.
  most_same : (h : ℕ) → h < length a.rows → (is_under a.rows h group ≡ true → ⊥)
      → (is_under a.rows group h ≡ true → ⊥)
      → get_or (mosts b vb.tree) h 0 ≡ get_or (mosts a va.tree) h 0
  most_same = from_the_last (length a.rows)
      (λ h. (is_under a.rows h group ≡ true → ⊥) → (is_under a.rows group h ≡ true → ⊥)
      → get_or (mosts b vb.tree) h 0 ≡ get_or (mosts a va.tree) h 0)
      (λ h below later out apart.
      mosts-capped b vb.tree h (omega (arith, below, busier.no_less.tree.as_many))
      ∙ ap (λ l. capped l (want_of b (mosts b vb.tree) h)) (busier.no_less.limits h)
      ∙ ap (capped (limit_of a h))
      (want_same a b va vb busier.no_less.tree (mosts a va.tree) (mosts b vb.tree) h
      (busier.outside h (false_from_ne_true (is_under a.rows group h) apart))
      (λ c c_in e. later c (parent_lt a.rows va.tree c h e) c_in
      (λ under. out (parent_above a.rows va.tree c h e group under))
      (λ under. elim (or_cases (eqb c group) (is_under a.rows group h)
      (sym (is_under-step a.rows va.tree group c h e) ∙ under)) [
        | inl here ↦
            let same : c ≡ group = eqb-true c group here in
            out (parent_above a.rows va.tree c h e group
            (ap (is_under a.rows c) (sym same) ∙ is_under-self a.rows va.tree c))
        | inr above ↦ apart above
      ])))
      ∙ sym (mosts-capped a va.tree h below))

  -- Of the children of a group above the busier one, one alone has a greater most.
  raised : (c p place : ℕ) → c < length a.rows → parent_of a.rows c ≡ Some p
      → is_under a.rows c group ≡ true → place < length (children_of a.rows p)
      → get_or (children_of a.rows p) place 0 ≡ c
      → IsRaised (child_weights a.rows p)
      (map (slice_index (mosts a va.tree)) (children_of a.rows p))
      (map (weight_of b.rows) (children_of a.rows p))
      (map (slice_index (mosts b vb.tree)) (children_of a.rows p))
      place
  raised c p place c_in e under inside here =
      raised_child a.rows p (weight_of a.rows) (weight_of b.rows) (slice_index (mosts a va.tree))
      (slice_index (mosts b vb.tree))
      place c inside here (omega (arith, busier.no_less.weights c)) (most_less c c_in)
      (λ s s_in up other. busier.no_less.weights s)
      (λ s s_in up other. most_same s s_in
      (λ high. other (one_above a.rows va.tree s c p up e group high under))
      (λ low. elim (or_cases (eqb s group) (is_under a.rows group p)
      (sym (is_under-step a.rows va.tree group s p up) ∙ low)) [
        | inl same_as ↦
            let same : s ≡ group = eqb-true s group same_as in
            other (one_above a.rows va.tree s c p up e group
            (ap (is_under a.rows s) (sym same) ∙ is_under-self a.rows va.tree s) under)
        | inr deep ↦
            let over : group ≤ p = under_le a.rows va.tree group p deep in
            let less : p < c = parent_lt a.rows va.tree c p e in
            let high : c ≤ group = under_le a.rows va.tree c group under in
            omega (arith, over, less, high)
      ]))

  step : (c p : ℕ) → c < length a.rows → parent_of a.rows c ≡ Some p
      → is_under a.rows c group ≡ true → get_or xs p 0 ≤ get_or ys p 0
      → get_or xs c 0 ≤ get_or ys c 0
  step c p c_in e under up =
      let p_in : p < length a.rows = omega (arith, parent_lt a.rows va.tree c p e, c_in) in
      let inner : is_leaf a.rows p ≡ false = parent_not_leaf a.rows p c c_in e in
      let spot : (k : ℕ) × (k < length (children_of a.rows p))
      × (get_or (children_of a.rows p) k 0 ≡ c) = listed_child a.rows p c c_in e in
      rw (
        at_place a.rows xs p spot.0 c spot.1 spot.2,
        at_place a.rows ys p spot.0 c spot.1 spot.2,
      )
      at (child_keeps (get_or xs p 0) (get_or ys p 0) (child_weights a.rows p)
      (map (slice_index (mosts a va.tree)) (children_of a.rows p))
      (map (weight_of b.rows) (children_of a.rows p))
      (map (slice_index (mosts b vb.tree)) (children_of a.rows p))
      (map (slice_index xs) (children_of a.rows p))
      (map (slice_index ys) (children_of a.rows p)) spot.0 (weighted a va (mosts a va.tree) p)
      (weighted_beside a b va vb busier.no_less.tree (mosts a va.tree) (mosts b vb.tree) xs ys
      (planned a va xs is_plan) (planned b vb ys is_other) p)
      (raised c p spot.0 c_in e under spot.1 spot.2)
      ((planned a va xs is_plan).splits p p_in refl inner)
      (split_beside a b va vb busier.no_less.tree (mosts a va.tree) (mosts b vb.tree) xs ys
      (planned a va xs is_plan) (planned b vb ys is_other) p p_in inner) up)

  keeps : (h : ℕ) → h < length a.rows → is_under a.rows h group ≡ true
      → get_or xs h 0 ≤ get_or ys h 0
  keeps = from_the_root a.rows va.tree
      (λ h. is_under a.rows h group ≡ true → get_or xs h 0 ≤ get_or ys h 0)
      (λ under.
      omega (
        arith,
        (planned a va xs is_plan).top,
        (planned b vb ys is_other).top,
        most_less 0 va.tree.has_root,
      ))
      (λ h p below up so_far under.
      step h p below up under (so_far (parent_above a.rows va.tree h p up group under)))

pub inside_only_cut : DemandsInsideOnlyCut
unfolding NoMore
inside_only_cut a b group most xs ys va vb busier mosts_are is_plan is_other =
    let self : is_under a.rows group group ≡ true = is_under-self a.rows va.tree group in
    let same : get_or most group 0 ≡ get_or (mosts a va.tree) group 0 =
    most_is a va most mosts_are group busier.within in
    let fits : get_or xs group 0 ≤ get_or (mosts a va.tree) group 0 =
    within_most a va xs is_plan group busier.within in
    let up : get_or xs group 0 ≤ get_or ys group 0 =
    keeps a b group xs ys va vb busier is_plan is_other group busier.within self in
    elim (no_more a b group xs ys va vb (roomier a b busier.no_less) busier.no_less.weights
    (λ h under. busier.no_less.limits h) is_plan is_other group busier.within self) [
      | inl less ↦ omega (arith, same, fits, up, less)
      | inr full ↦ omega (arith, same, up, full)
    ]
