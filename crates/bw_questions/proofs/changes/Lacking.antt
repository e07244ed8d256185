-- A group that could be given more, in an instance and in a roomier one of the same weights.
use Rattle.std.proofs.Common.{◌≡◌, ◌≢◌, ℕ, ◌<◌, ◌≤◌, List, true, false, None, Some, length, get_or}
use Rattle.std.proofs.Common.{refl, sym, ◌∙◌, arith, inl, inr, eqb}
use Rattle.std.specs.Prelude.{map, slice_index}
use Rattle.std.proofs.lemmas.Bool.{cases_eq, eqb-true, or_cases, or_right}
use Rattle.std.proofs.lemmas.List.{length-map}
use Rattle.bw_model.specs.Groups.{Groups, IsInstance, parent_of, children_of, is_leaf, weight_of}
use Rattle.bw_model.specs.Groups.{is_under}
use Rattle.bw_model.specs.Demand.{AreMaxTotals}
use Rattle.bw_model.specs.Plan.{IsPlan, child_weights}
use Rattle.bw_model.proofs.CallerLemmas.{strong, mosts, mosts-capped, parent_lt, parent_not_leaf}
use Rattle.bw_model.proofs.CallerLemmas.{listed_child, is_under-top, is_under-step, is_under-self}
use Rattle.bw_model.proofs.CallerLemmas.{IsMost-unique, capped-IsMost}
use Rattle.bw_plan.specs.Shared.{IsPlanning}
use Rattle.bw_plan.proofs.CallerLemmas.{at_most}
use Rattle.bw_questions.proofs.changes.Raised.{no_more_with_room}
use Rattle.bw_questions.specs.changes.Cut.{NoMoreBelow}
use Rattle.bw_questions.specs.changes.Host.{IsRoomier}
use Rattle.bw_questions.proofs.changes.HostLaws.{mosts_less}
use Rattle.bw_questions.proofs.changes.Siblings.{no_less_at}
use Rattle.bw_questions.proofs.changes.Trees.{planned, split_beside, weighted_beside, weighted}
use Rattle.bw_questions.proofs.changes.Trees.{at_place}
use Rattle.bw_questions.proofs.changes.Trees.{under_le}

-- No group is given more than its most.
pub within_most : (groups : Groups) (valid : IsInstance groups) (amounts : List ℕ)
    → IsPlan groups amounts → (h : ℕ) → h < length groups.rows
    → get_or amounts h 0 ≤ get_or (mosts groups valid.tree) h 0
within_most groups valid amounts is_plan h below =
    at_most groups valid (mosts groups valid.tree) (mosts-capped groups valid.tree) (λ _. true) h
    amounts (planned groups valid amounts is_plan) (λ p e. refl) below

-- The mosts are those by the rule.
pub most_is : (groups : Groups) (valid : IsInstance groups) (most : List ℕ)
    → AreMaxTotals groups most → (h : ℕ) → h < length groups.rows
    → get_or most h 0 ≡ get_or (mosts groups valid.tree) h 0
most_is groups valid most mosts_are h below =
    IsMost-unique groups h (get_or most h 0) (get_or (mosts groups valid.tree) h 0)
    (mosts_are.each h below)
    (capped-IsMost groups valid.tree (mosts groups valid.tree) (mosts-capped groups valid.tree) h
    below)

module _ (a b : Groups) (va : IsInstance a) (vb : IsInstance b) (roomier : IsRoomier a b)
    (weights : (h : ℕ) → weight_of b.rows h ≡ weight_of a.rows h) (xs ys : List ℕ)
    (is_plan : IsPlan a xs) (is_other : IsPlan b ys) where
  -- Of a parent that has no more, a child that could be given more has no more.
  pub no_more_below : (c p : ℕ) → c < length a.rows → parent_of a.rows c ≡ Some p
      → get_or ys p 0 ≤ get_or xs p 0 → get_or xs c 0 < get_or (mosts a va.tree) c 0
      → get_or ys c 0 ≤ get_or xs c 0
  no_more_below c p c_in e less room =
      let p_in : p < length a.rows = omega (arith, parent_lt a.rows va.tree c p e, c_in) in
      let inner : is_leaf a.rows p ≡ false = parent_not_leaf a.rows p c c_in e in
      let spot : (k : ℕ) × (k < length (children_of a.rows p))
      × (get_or (children_of a.rows p) k 0 ≡ c) = listed_child a.rows p c c_in e in
      let pa : IsPlanning a (mosts a va.tree) (λ _. true) xs = planned a va xs is_plan in
      let pb : IsPlanning b (mosts b vb.tree) (λ _. true) ys = planned b vb ys is_other in
      rw (
        at_place a.rows ys p spot.0 c spot.1 spot.2,
        at_place a.rows xs p spot.0 c spot.1 spot.2,
      )
      at (no_more_with_room (get_or xs p 0) (get_or ys p 0) (child_weights a.rows p)
      (map (slice_index (mosts a va.tree)) (children_of a.rows p))
      (map (weight_of b.rows) (children_of a.rows p))
      (map (slice_index (mosts b vb.tree)) (children_of a.rows p))
      (map (slice_index xs) (children_of a.rows p)) (map (slice_index ys) (children_of a.rows p))
      (weighted a va (mosts a va.tree) p)
      (weighted_beside a b va vb roomier.tree (mosts a va.tree) (mosts b vb.tree) xs ys pa pb p)
      (length-map (children_of a.rows p) (slice_index (mosts b vb.tree))
      ∙ sym (length-map (children_of a.rows p) (slice_index (mosts a va.tree))))
      (no_less_at a.rows p (weight_of a.rows) (weight_of b.rows)
      (λ s s_in up. omega (arith, weights s)))
      (no_less_at a.rows p (slice_index (mosts a va.tree)) (slice_index (mosts b vb.tree))
      (λ s s_in up. mosts_less a b va vb roomier s s_in))
      (pa.splits p p_in refl inner)
      (split_beside a b va vb roomier.tree (mosts a va.tree) (mosts b vb.tree) xs ys pa pb p p_in
      inner) less spot.0
      (no_less_at a.rows p (weight_of b.rows) (weight_of a.rows)
      (λ s s_in up. omega (arith, weights s)) spot.0)
      (rw (
        at_place a.rows xs p spot.0 c spot.1 spot.2,
        at_place a.rows (mosts a va.tree) p spot.0 c spot.1 spot.2,
      ) room))

  -- Below a group that has no more, nor has one that lacks something, with all between.
  no_more_line : (top : ℕ) → get_or ys top 0 ≤ get_or xs top 0 → (group : ℕ)
      → group < length a.rows → is_under a.rows top group ≡ true
      → ((h : ℕ) → is_under a.rows top h ≡ true → is_under a.rows h group ≡ true → h ≢ top
      → get_or xs h 0 < get_or (mosts a va.tree) h 0)
      → get_or ys group 0 ≤ get_or xs group 0
  no_more_line top less = strong
      (λ group. group < length a.rows → is_under a.rows top group ≡ true
      → ((h : ℕ) → is_under a.rows top h ≡ true → is_under a.rows h group ≡ true → h ≢ top
      → get_or xs h 0 < get_or (mosts a va.tree) h 0)
      → get_or ys group 0 ≤ get_or xs group 0)
      (λ group before below under lacks. elim (cases_eq group top) [
        | inl here ↦ rw here less
        | inr other ↦
            (elim (parent_of a.rows group) as (λ o. parent_of a.rows group ≡ o
            → get_or ys group 0 ≤ get_or xs group 0) [
              | None ↦ λ e. absurd
                  (other (eqb-true group top
                  (sym (is_under-top a.rows va.tree top group e) ∙ under)))
              | Some p ↦ λ e.
                  let up : p < group = parent_lt a.rows va.tree group p e in
                  let high : is_under a.rows top p ≡ true =
                  elim (or_cases (eqb group top) (is_under a.rows top p)
                  (sym (is_under-step a.rows va.tree top group p e) ∙ under)) [
                    | inl here ↦ absurd (other (eqb-true group top here))
                    | inr above ↦ above
                  ] in
                  no_more_below group p below e
                  (before p up (omega (arith, up, below)) high
                  (λ h over under_it apart. lacks h over
                  (is_under-step a.rows va.tree h group p e
                  ∙ or_right (eqb group h) (is_under a.rows h p) under_it) apart))
                  (lacks group under (is_under-self a.rows va.tree group) other)
            ]) refl
      ])

pub none_below : NoMoreBelow
none_below a b top group most xs ys va vb roomier weights mosts_are is_plan is_other below under
    lacks less =
    no_more_line a b va vb roomier weights xs ys is_plan is_other top less group below under
    (λ h over high apart.
    let h_in : h < length a.rows =
    (let up : h ≤ group = under_le a.rows va.tree h group high in omega (arith, up, below)) in
    omega (arith, lacks h over high apart, most_is a va most mosts_are h h_in))
