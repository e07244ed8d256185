-- A group that may have more takes nothing from itself and from those above it.
use Rattle.std.proofs.Common.{◌≡◌, ◌≢◌, ℕ, ◌<◌, ◌≤◌, List, true, false, Some, length, get_or}
use Rattle.std.proofs.Common.{refl, ap, sym, ◌∙◌, arith}
use Rattle.std.specs.Prelude.{map, slice_index}
use Rattle.bw_model.specs.Groups.{Groups, IsInstance, parent_of, children_of, is_leaf, weight_of}
use Rattle.bw_model.specs.Groups.{limit_of, is_under}
use Rattle.bw_model.specs.Demand.{want_of}
use Rattle.bw_model.specs.Plan.{IsPlan, child_weights}
use Rattle.bw_model.proofs.CallerLemmas.{from_the_last, capped, mosts, mosts-capped}
use Rattle.bw_model.proofs.CallerLemmas.{parent_lt, parent_not_leaf, listed_child, is_under-self}
use Rattle.bw_questions.specs.changes.OneSplit.{IsRaised}
use Rattle.bw_questions.proofs.changes.Raised.{child_keeps, others_lose}
use Rattle.bw_questions.specs.changes.Room.{IsRoomierAt, MoreRoomTakesNothing}
use Rattle.bw_questions.proofs.changes.Above.{parent_above, one_above}
use Rattle.bw_questions.proofs.changes.HostLaws.{mosts_less}
use Rattle.bw_questions.proofs.changes.Siblings.{raised_child}
use Rattle.bw_questions.proofs.changes.Trees.{want_same, split_beside, weighted_beside, weighted}
use Rattle.bw_questions.proofs.changes.Trees.{at_place}
use Rattle.bw_questions.proofs.changes.Trees.{from_the_root, planned, under_le}

module _ (a b : Groups) (group : ℕ) (xs ys : List ℕ) (va : IsInstance a) (vb : IsInstance b)
    (more : IsRoomierAt a b group) (is_plan : IsPlan a xs) (is_other : IsPlan b ys) where
  most_less : (h : ℕ) → h < length a.rows
      → get_or (mosts a va.tree) h 0 ≤ get_or (mosts b vb.tree) h 0
  most_less h below = mosts_less a b va vb more.no_less h below

  -- A group that is not above the one with more room can be given as much as before.
  pub most_same : (h : ℕ) → h < length a.rows → (is_under a.rows h group ≡ true → ⊥)
      → get_or (mosts b vb.tree) h 0 ≡ get_or (mosts a va.tree) h 0
  most_same = from_the_last (length a.rows)
      (λ h. (is_under a.rows h group ≡ true → ⊥)
      → get_or (mosts b vb.tree) h 0 ≡ get_or (mosts a va.tree) h 0)
      (λ h below later out.
      let other : h ≢ group =
      (λ same. out (ap (is_under a.rows h) (sym same) ∙ is_under-self a.rows va.tree h)) in
      mosts-capped b vb.tree h (omega (arith, below, more.no_less.tree.as_many))
      ∙ ap (λ l. capped l (want_of b (mosts b vb.tree) h)) (more.limits h other)
      ∙ ap (capped (limit_of a h))
      (want_same a b va vb more.no_less.tree (mosts a va.tree) (mosts b vb.tree) h
      (more.demands h other)
      (λ c c_in e. later c (parent_lt a.rows va.tree c h e) c_in
      (λ under. out (parent_above a.rows va.tree c h e group under))))
      ∙ sym (mosts-capped a va.tree h below))

  -- Of a group's children, one alone has a greater most.
  raised : (c p place : ℕ) → c < length a.rows → parent_of a.rows c ≡ Some p
      → is_under a.rows c group ≡ true → place < length (children_of a.rows p)
      → get_or (children_of a.rows p) place 0 ≡ c
      → IsRaised (child_weights a.rows p)
      (map (slice_index (mosts a va.tree)) (children_of a.rows p))
      (map (weight_of b.rows) (children_of a.rows p))
      (map (slice_index (mosts b vb.tree)) (children_of a.rows p))
      place
  raised c p place c_in e under inside here =
      raised_child a.rows p (weight_of a.rows) (weight_of b.rows) (slice_index (mosts a va.tree))
      (slice_index (mosts b vb.tree))
      place c inside here (omega (arith, more.weights c)) (most_less c c_in)
      (λ s s_in up other. more.weights s)
      (λ s s_in up other. most_same s s_in
      (λ high. other (one_above a.rows va.tree s c p up e group high under)))

  step : (c p : ℕ) → c < length a.rows → parent_of a.rows c ≡ Some p
      → is_under a.rows c group ≡ true → get_or xs p 0 ≤ get_or ys p 0
      → get_or xs c 0 ≤ get_or ys c 0
  step c p c_in e under up =
      let p_in : p < length a.rows = omega (arith, parent_lt a.rows va.tree c p e, c_in) in
      let inner : is_leaf a.rows p ≡ false = parent_not_leaf a.rows p c c_in e in
      let spot : (k : ℕ) × (k < length (children_of a.rows p))
      × (get_or (children_of a.rows p) k 0 ≡ c) = listed_child a.rows p c c_in e in
      rw (
        at_place a.rows xs p spot.0 c spot.1 spot.2,
        at_place a.rows ys p spot.0 c spot.1 spot.2,
      )
      at (child_keeps (get_or xs p 0) (get_or ys p 0) (child_weights a.rows p)
      (map (slice_index (mosts a va.tree)) (children_of a.rows p))
      (map (weight_of b.rows) (children_of a.rows p))
      (map (slice_index (mosts b vb.tree)) (children_of a.rows p))
      (map (slice_index xs) (children_of a.rows p))
      (map (slice_index ys) (children_of a.rows p)) spot.0 (weighted a va (mosts a va.tree) p)
      (weighted_beside a b va vb more.no_less.tree (mosts a va.tree) (mosts b vb.tree) xs ys
      (planned a va xs is_plan) (planned b vb ys is_other) p)
      (raised c p spot.0 c_in e under spot.1 spot.2)
      ((planned a va xs is_plan).splits p p_in refl inner)
      (split_beside a b va vb more.no_less.tree (mosts a va.tree) (mosts b vb.tree) xs ys
      (planned a va xs is_plan) (planned b vb ys is_other) p p_in inner) up)

  above : (h : ℕ) → h < length a.rows → is_under a.rows h group ≡ true
      → get_or xs h 0 ≤ get_or ys h 0
  above = from_the_root a.rows va.tree
      (λ h. is_under a.rows h group ≡ true → get_or xs h 0 ≤ get_or ys h 0)
      (λ under. omega (
        arith,
        (planned a va xs is_plan).top,
        (planned b vb ys is_other).top,
        most_less 0 va.tree.has_root,
      ))
      (λ h p below up less under.
      step h p below up under (less (parent_above a.rows va.tree h p up group under)))

  sibling : group < length a.rows → (p s : ℕ) → parent_of a.rows group ≡ Some p
      → s < length a.rows → parent_of a.rows s ≡ Some p → s ≢ group
      → get_or ys p 0 ≤ get_or xs p 0 → get_or ys s 0 ≤ get_or xs s 0
  sibling group_in p s e s_in up other less =
      let p_in : p < length a.rows = omega (arith, parent_lt a.rows va.tree s p up, s_in) in
      let inner : is_leaf a.rows p ≡ false = parent_not_leaf a.rows p s s_in up in
      let spot : (k : ℕ) × (k < length (children_of a.rows p))
      × (get_or (children_of a.rows p) k 0 ≡ s) = listed_child a.rows p s s_in up in
      let place : (k : ℕ) × (k < length (children_of a.rows p))
      × (get_or (children_of a.rows p) k 0 ≡ group) = listed_child a.rows p group group_in e in
      let apart : spot.0 ≢ place.0 =
      (λ same. other (sym spot.2 ∙ ap (λ k. get_or (children_of a.rows p) k 0) same
      ∙ place.2)) in
      rw (
        at_place a.rows ys p spot.0 s spot.1 spot.2,
        at_place a.rows xs p spot.0 s spot.1 spot.2,
      )
      at (others_lose (get_or xs p 0) (get_or ys p 0) (child_weights a.rows p)
      (map (slice_index (mosts a va.tree)) (children_of a.rows p))
      (map (weight_of b.rows) (children_of a.rows p))
      (map (slice_index (mosts b vb.tree)) (children_of a.rows p))
      (map (slice_index xs) (children_of a.rows p))
      (map (slice_index ys) (children_of a.rows p)) place.0 (weighted a va (mosts a va.tree) p)
      (weighted_beside a b va vb more.no_less.tree (mosts a va.tree) (mosts b vb.tree) xs ys
      (planned a va xs is_plan) (planned b vb ys is_other) p)
      (raised group p place.0 group_in e (is_under-self a.rows va.tree group) place.1 place.2)
      ((planned a va xs is_plan).splits p p_in refl inner)
      (split_beside a b va vb more.no_less.tree (mosts a va.tree) (mosts b vb.tree) xs ys
      (planned a va xs is_plan) (planned b vb ys is_other) p p_in inner) less spot.0 apart)

pub more_room_takes : MoreRoomTakesNothing
more_room_takes a b group xs ys va vb more group_in is_plan is_other = record {
  gains = above a b group xs ys va vb more is_plan is_other group group_in
      (is_under-self a.rows va.tree group);
  above = λ h under.
      above a b group xs ys va vb more is_plan is_other h
      (let high : h ≤ group = under_le a.rows va.tree h group under in
      omega (arith, high, group_in)) under;
  siblings = λ p s e s_in up other less.
      sibling a b group xs ys va vb more is_plan is_other group_in p s e s_in up other less;
}
