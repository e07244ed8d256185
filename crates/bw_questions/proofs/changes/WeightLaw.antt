-- A group of a greater weight alone gains.
use Rattle.std.proofs.Common.{◌≡◌, ◌≢◌, ℕ, ◌<◌, ◌≤◌, List, true, false, Some, length, get_or}
use Rattle.std.proofs.Common.{refl, ap, sym, ◌∙◌, arith, eqb}
use Rattle.std.specs.Prelude.{map, slice_index}
use Rattle.std.proofs.lemmas.Bool.{or_right}
use Rattle.bw_model.specs.Groups.{Groups, IsInstance, parent_of, children_of, is_leaf, weight_of}
use Rattle.bw_model.specs.Groups.{limit_of, is_under}
use Rattle.bw_model.specs.Demand.{want_of}
use Rattle.bw_model.specs.Plan.{IsPlan, child_weights}
use Rattle.bw_model.specs.Split.{IsBestSplit}
use Rattle.bw_model.proofs.CallerLemmas.{from_the_last, capped, mosts, mosts-capped}
use Rattle.bw_model.proofs.CallerLemmas.{parent_lt, parent_not_leaf, listed_child}
use Rattle.bw_model.proofs.CallerLemmas.{is_under-step, is_under-self}
use Rattle.bw_questions.specs.changes.OneSplit.{AreWeighted, IsRaised}
use Rattle.bw_questions.proofs.changes.Raised.{raised_alone_gains}
use Rattle.bw_questions.specs.changes.Tree.{IsNotBelow}
use Rattle.bw_questions.specs.changes.Weight.{IsHeavier, RaisedWeightAloneGains}
use Rattle.bw_questions.proofs.changes.Siblings.{raised_child}
use Rattle.bw_questions.proofs.changes.Trees.{want_same, step_same, split_over, weighted, at_place}
use Rattle.bw_questions.proofs.changes.Trees.{from_the_root, planned, children_same}
use Rattle.bw_questions.proofs.changes.Trees.{parent_not_below, child_not_below}

module _ (a b : Groups) (group parent : ℕ) (xs ys : List ℕ) (va : IsInstance a) (vb : IsInstance b)
    (heavier : IsHeavier a b group) (group_in : group < length a.rows)
    (up : parent_of a.rows group ≡ Some parent) (is_plan : IsPlan a xs)
    (is_other : IsPlan b ys) where
  most_same : (h : ℕ) → h < length a.rows
      → get_or (mosts b vb.tree) h 0 ≡ get_or (mosts a va.tree) h 0
  most_same = from_the_last (length a.rows)
      (λ h. get_or (mosts b vb.tree) h 0 ≡ get_or (mosts a va.tree) h 0)
      (λ h below later.
      mosts-capped b vb.tree h (omega (arith, below, heavier.tree.as_many))
      ∙ ap (λ l. capped l (want_of b (mosts b vb.tree) h)) (heavier.limits h)
      ∙ ap (capped (limit_of a h))
      (want_same a b va vb heavier.tree (mosts a va.tree) (mosts b vb.tree) h (heavier.demands h)
      (λ c c_in e. later c (parent_lt a.rows va.tree c h e) c_in))
      ∙ sym (mosts-capped a va.tree h below))

  -- The heavier group is below its parent.
  not_the_group : (h : ℕ) → IsNotBelow a.rows parent h → h ≢ group
  not_the_group h out same =
      let under : is_under a.rows parent group ≡ true =
      is_under-step a.rows va.tree parent group parent up
      ∙ or_right (eqb group parent) (is_under a.rows parent parent)
      (is_under-self a.rows va.tree parent) in
      let here : is_under a.rows parent h ≡ true = ap (is_under a.rows parent) same ∙ under in
      let clash : h ≡ parent = out here in
      let less : parent < group = parent_lt a.rows va.tree group parent up in
      omega (arith, same, clash, less)

  elsewhere : (h : ℕ) → h < length a.rows → IsNotBelow a.rows parent h
      → get_or ys h 0 ≡ get_or xs h 0
  elsewhere = from_the_root a.rows va.tree
      (λ h. IsNotBelow a.rows parent h → get_or ys h 0 ≡ get_or xs h 0)
      (λ out. (planned b vb ys is_other).top
      ∙ most_same 0 va.tree.has_root
      ∙ sym (planned a va xs is_plan).top)
      (λ h p below up_one same out.
      let apart : is_under a.rows parent p ≡ true → ⊥ =
      parent_not_below a.rows va.tree parent h p up_one out in
      let p_in : p < length a.rows = omega (arith, parent_lt a.rows va.tree h p up_one, below) in
      step_same a b va vb heavier.tree (mosts a va.tree) (mosts b vb.tree) xs ys
      (planned a va xs is_plan) (planned b vb ys is_other) h p below p_in up_one
      (same (λ under. absurd (apart under)))
      (λ s s_in e. heavier.weights s
      (not_the_group s (child_not_below a.rows va.tree parent p s e apart)))
      (λ s s_in e. most_same s s_in))

  parent_in : parent < length a.rows
  parent_in = omega (arith, parent_lt a.rows va.tree group parent up, group_in)

  cs : List ℕ
  cs = children_of a.rows parent

  place : (k : ℕ) × (k < length (children_of a.rows parent))
      × (get_or (children_of a.rows parent) k 0 ≡ group)
  place = listed_child a.rows parent group group_in up

  inner : is_leaf a.rows parent ≡ false
  inner = parent_not_leaf a.rows parent group group_in up

  same_parent : get_or ys parent 0 ≡ get_or xs parent 0
  same_parent = elsewhere parent parent_in (λ under. refl)

  raised : IsRaised (child_weights a.rows parent)
      (map (slice_index (mosts a va.tree)) (children_of a.rows parent))
      (map (weight_of b.rows) (children_of a.rows parent))
      (map (slice_index (mosts a va.tree)) (children_of a.rows parent)) place.0
  raised = raised_child a.rows parent (weight_of a.rows) (weight_of b.rows)
      (slice_index (mosts a va.tree))
      (slice_index (mosts a va.tree)) place.0 group place.1 place.2 heavier.raised (omega arith)
      (λ s s_in e other. heavier.weights s other) (λ s s_in e other. refl)

  more_weighted : AreWeighted (map (weight_of b.rows) (children_of a.rows parent))
      (map (slice_index (mosts a va.tree)) (children_of a.rows parent))
  more_weighted = rw (children_same a.rows b.rows heavier.tree parent) at
      (weighted b vb (mosts a va.tree) parent)

  before_split : IsBestSplit (get_or xs parent 0) (child_weights a.rows parent)
      (map (slice_index (mosts a va.tree)) (children_of a.rows parent))
      (map (slice_index xs) (children_of a.rows parent))
  before_split = (planned a va xs is_plan).splits parent parent_in refl inner

  after_split : IsBestSplit (get_or xs parent 0)
      (map (weight_of b.rows) (children_of a.rows parent))
      (map (slice_index (mosts a va.tree)) (children_of a.rows parent))
      (map (slice_index ys) (children_of a.rows parent))
  after_split = rw same_parent at
      (split_over a b va vb heavier.tree (mosts a va.tree) (mosts b vb.tree) xs ys
      (planned a va xs is_plan) (planned b vb ys is_other) parent parent_in inner
      (λ s s_in e. most_same s s_in))

  gained : (slice_index (map (slice_index xs) (children_of a.rows parent)) place.0
      ≤ slice_index (map (slice_index ys) (children_of a.rows parent)) place.0)
      × ((k : ℕ) → k ≢ place.0
      → slice_index (map (slice_index ys) (children_of a.rows parent)) k
      ≤ slice_index (map (slice_index xs) (children_of a.rows parent)) k)
  gained = raised_alone_gains (get_or xs parent 0) (child_weights a.rows parent)
      (map (slice_index (mosts a va.tree)) (children_of a.rows parent))
      (map (weight_of b.rows) (children_of a.rows parent))
      (map (slice_index (mosts a va.tree)) (children_of a.rows parent))
      (map (slice_index xs) (children_of a.rows parent))
      (map (slice_index ys) (children_of a.rows parent)) place.0
      (weighted a va (mosts a va.tree) parent) more_weighted raised before_split after_split

  sibling : (s : ℕ) → s < length a.rows → parent_of a.rows s ≡ Some parent → s ≢ group
      → get_or ys s 0 ≤ get_or xs s 0
  unfolding place
  sibling s s_in e other =
      let spot : (k : ℕ) × (k < length (children_of a.rows parent))
      × (get_or (children_of a.rows parent) k 0 ≡ s) = listed_child a.rows parent s s_in e in
      let apart : spot.0 ≢ place.0 =
      (λ same. other (sym spot.2 ∙ ap (λ k. get_or (children_of a.rows parent) k 0) same
      ∙ place.2)) in
      rw (
        at_place a.rows ys parent spot.0 s spot.1 spot.2,
        at_place a.rows xs parent spot.0 s spot.1 spot.2,
      )
      at (gained.1 spot.0 apart)

pub heavier_alone_gains : RaisedWeightAloneGains
heavier_alone_gains a b group parent xs ys va vb heavier group_in up is_plan is_other = record {
  gains =
      let p = place a b group parent xs ys va vb heavier group_in up is_plan is_other in
      rw (at_place a.rows xs parent p.0 group p.1 p.2, at_place a.rows ys parent p.0 group p.1 p.2)
      at (gained a b group parent xs ys va vb heavier group_in up is_plan is_other).0;
  siblings = λ s s_in e other.
      sibling a b group parent xs ys va vb heavier group_in up is_plan is_other s s_in e other;
  elsewhere = λ h below out.
      elsewhere a b group parent xs ys va vb heavier group_in up is_plan is_other h below out;
}
