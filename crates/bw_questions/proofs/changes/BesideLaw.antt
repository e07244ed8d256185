-- Where the others are heavier, a group has no more.
use Rattle.std.proofs.Common.{◌≡◌, ℕ, ◌<◌, ◌≤◌, List, true, false, Some, length, get_or}
use Rattle.std.proofs.Common.{refl, ap, sym, ◌∙◌, arith, inl, inr}
use Rattle.std.specs.Prelude.{map, slice_index}
use Rattle.std.proofs.lemmas.Bool.{cases_eq, cases_lt}
use Rattle.std.proofs.lemmas.List.{length-map}
use Rattle.bw_model.specs.Groups.{Groups, IsInstance, parent_of, children_of, is_leaf, weight_of}
use Rattle.bw_model.specs.Groups.{limit_of, is_under}
use Rattle.bw_model.specs.Demand.{want_of}
use Rattle.bw_model.specs.Plan.{IsPlan, child_weights}
use Rattle.bw_model.proofs.CallerLemmas.{strong, from_the_last, capped, mosts, mosts-capped}
use Rattle.bw_model.proofs.CallerLemmas.{parent_lt, parent_not_leaf, listed_child, is_under-self}
use Rattle.bw_model.proofs.CallerLemmas.{get_or-map}
use Rattle.bw_plan.specs.Shared.{IsPlanning}
use Rattle.bw_plan.proofs.CallerLemmas.{plan-IsPlanning, at_most}
use Rattle.bw_questions.proofs.changes.Raised.{no_more_with_room}
use Rattle.bw_questions.specs.changes.Weight.{IsHeavierAround, OthersWeightsGiveNothing}
use Rattle.bw_questions.proofs.changes.Above.{parent_above}
use Rattle.bw_questions.proofs.changes.Siblings.{no_less_at}
use Rattle.bw_questions.proofs.changes.Trees.{want_same, split_beside, weighted_beside, weighted}
use Rattle.bw_questions.proofs.changes.Trees.{at_place}

module _ (a b : Groups) (group : ℕ) (xs ys : List ℕ) (va : IsInstance a) (vb : IsInstance b)
    (heavier : IsHeavierAround a b group) (is_plan : IsPlan a xs) (is_other : IsPlan b ys) where
  ma : List ℕ
  ma = mosts a va.tree

  mb : List ℕ
  mb = mosts b vb.tree

  -- Weights change no group's most.
  most_same : (h : ℕ) → h < length a.rows → get_or mb h 0 ≡ get_or ma h 0
  unfolding ma mb
  most_same = from_the_last (length a.rows)
      (λ h. get_or (mosts b vb.tree) h 0 ≡ get_or (mosts a va.tree) h 0)
      (λ h below later.
      mosts-capped b vb.tree h (omega (arith, below, heavier.tree.as_many))
      ∙ ap (λ l. capped l (want_of b (mosts b vb.tree) h)) (heavier.limits h)
      ∙ ap (capped (limit_of a h))
      (want_same a b va vb heavier.tree (mosts a va.tree) (mosts b vb.tree) h (heavier.demands h)
      (λ c c_in e. later c (parent_lt a.rows va.tree c h e) c_in))
      ∙ sym (mosts-capped a va.tree h below))

  pa : IsPlanning a ma (λ _. true) xs
  unfolding ma
  pa = plan-IsPlanning a va ma (mosts-capped a va.tree) xs is_plan

  pb : IsPlanning b mb (λ _. true) ys
  unfolding mb
  pb = plan-IsPlanning b vb mb (mosts-capped b vb.tree) ys is_other

  within_b : (h : ℕ) → h < length a.rows → get_or ys h 0 ≤ get_or mb h 0
  unfolding mb
  within_b h below =
      at_most b vb mb (mosts-capped b vb.tree) (λ _. true) h ys pb (λ p e. refl)
      (omega (arith, below, heavier.tree.as_many))

  -- A child of equal weight that could take more has no more, where its parent has no more.
  with_room : (c p : ℕ) → c < length a.rows → parent_of a.rows c ≡ Some p
      → weight_of b.rows c ≡ weight_of a.rows c
      → get_or ys p 0 ≤ get_or xs p 0 → get_or xs c 0 < get_or ma c 0
      → get_or ys c 0 ≤ get_or xs c 0
  with_room c p c_in e same less room =
      let p_in : p < length a.rows = omega (arith, parent_lt a.rows va.tree c p e, c_in) in
      let inner : is_leaf a.rows p ≡ false = parent_not_leaf a.rows p c c_in e in
      let spot : (k : ℕ) × (k < length (children_of a.rows p))
      × (get_or (children_of a.rows p) k 0 ≡ c) = listed_child a.rows p c c_in e in
      let light : get_or (map (weight_of b.rows) (children_of a.rows p)) spot.0 0
      ≤ get_or (child_weights a.rows p) spot.0 0 =
      rw (
        get_or-map (weight_of b.rows) (children_of a.rows p) spot.0 spot.1,
        get_or-map (weight_of a.rows) (children_of a.rows p) spot.0 spot.1,
        spot.2,
      ) (omega (arith, same)) in
      rw (
        at_place a.rows ys p spot.0 c spot.1 spot.2,
        at_place a.rows xs p spot.0 c spot.1 spot.2,
      )
      at (no_more_with_room (get_or xs p 0) (get_or ys p 0) (child_weights a.rows p)
      (map (slice_index ma) (children_of a.rows p)) (map (weight_of b.rows) (children_of a.rows p))
      (map (slice_index mb) (children_of a.rows p)) (map (slice_index xs) (children_of a.rows p))
      (map (slice_index ys) (children_of a.rows p)) (weighted a va ma p)
      (weighted_beside a b va vb heavier.tree ma mb xs ys pa pb p)
      (length-map (children_of a.rows p) (slice_index mb)
      ∙ sym (length-map (children_of a.rows p) (slice_index ma)))
      (no_less_at a.rows p (weight_of a.rows) (weight_of b.rows)
      (λ s s_in up. heavier.weights s))
      (no_less_at a.rows p (slice_index ma) (slice_index mb)
      (λ s s_in up. omega (arith, most_same s s_in)))
      (pa.splits p p_in refl inner)
      (split_beside a b va vb heavier.tree ma mb xs ys pa pb p p_in inner) less spot.0 light
      (rw (
        at_place a.rows xs p spot.0 c spot.1 spot.2,
        at_place a.rows ma p spot.0 c spot.1 spot.2,
      ) room))

  no_more : (h : ℕ) → h < length a.rows → is_under a.rows h group ≡ true
      → get_or ys h 0 ≤ get_or xs h 0
  no_more = strong
      (λ h. h < length a.rows → is_under a.rows h group ≡ true → get_or ys h 0 ≤ get_or xs h 0)
      (λ h before below under. elim (cases_eq h 0) [
        | inl root ↦ rw root (omega (arith, pa.top, pb.top, most_same 0 va.tree.has_root))
        | inr deeper ↦
            let known : (p : ℕ) × (parent_of a.rows h ≡ Some p) × (p < h) =
            va.tree.parent_before h (omega (arith, deeper)) below in
            elim (cases_lt (get_or xs h 0) (get_or ma h 0)) [
              | inr full ↦ omega (arith, full, within_b h below, most_same h below)
              | inl room ↦
                  with_room h known.0 below known.1 (heavier.above h under)
                  (before known.0 known.2 (omega (arith, known.2, below))
                  (parent_above a.rows va.tree h known.0 known.1 group under)) room
            ]
      ])

pub others_weights_give : OthersWeightsGiveNothing
others_weights_give a b group xs ys va vb heavier below is_plan is_other =
    no_more a b group xs ys va vb heavier is_plan is_other group below
    (is_under-self a.rows va.tree group)
