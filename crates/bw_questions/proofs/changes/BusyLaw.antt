-- Where the others ask for more, or may have more, a group has no more.
use Rattle.std.proofs.Common.{◌≡◌, ℕ, ◌<◌, ◌≤◌, ◌⊎◌, List, Option, true, false, None, Some, length}
use Rattle.std.proofs.Common.{get_or, refl, ap, sym, ◌∙◌, arith, inl, inr, eqb}
use Rattle.std.specs.Prelude.{map, min, sum, slice_index}
use Rattle.std.proofs.lemmas.Bool.{cases_lt, or_right}
use Rattle.std.proofs.lemmas.List.Sums.{sum-map}
use Rattle.bw_model.specs.Groups.{Groups, IsInstance, parent_of, children_of, is_leaf, weight_of}
use Rattle.bw_model.specs.Groups.{limit_of, demand_of, is_under, sum_of_children}
use Rattle.bw_model.specs.Demand.{want_of}
use Rattle.bw_model.specs.Plan.{IsPlan, child_weights}
use Rattle.bw_model.specs.Split.{IsBestSplit}
use Rattle.bw_model.proofs.CallerLemmas.{from_the_last, capped, mosts, mosts-capped}
use Rattle.bw_model.proofs.CallerLemmas.{parent_lt, parent_not_leaf, listed_child}
use Rattle.bw_model.proofs.CallerLemmas.{is_under-self, is_under-step}
use Rattle.bw_questions.proofs.changes.Lists.{find_greater}
use Rattle.bw_questions.specs.changes.Asked.{IsBusier}
use Rattle.bw_questions.specs.changes.Host.{IsRoomier}
use Rattle.bw_questions.specs.changes.Room.{OthersDemandsGiveNothing, OthersRoomGivesNothing}
use Rattle.bw_questions.proofs.changes.Above.{parent_above}
use Rattle.bw_questions.proofs.changes.Lacking.{within_most, no_more_below}
use Rattle.bw_questions.proofs.changes.Trees.{from_the_root, planned, want_same, at_place}

-- What a limit cuts below another want is not cut.
pub uncut : (limit : Option ℕ) (want greater : ℕ) → capped limit want < capped limit greater
    → capped limit want ≡ want
uncut None want greater h = refl
uncut (Some limit) want greater h = omega (arith, h)

-- A group of one limit that has more than its most of before was not cut there.
pub uncut_most : (a b : Groups) (va : IsInstance a) (vb : IsInstance b) (p : ℕ)
    → p < length a.rows → p < length b.rows → limit_of b p ≡ limit_of a p
    → is_leaf a.rows p ≡ false
    → get_or (mosts a va.tree) p 0 < get_or (mosts b vb.tree) p 0
    → get_or (mosts a va.tree) p 0
    ≡ sum (map (slice_index (mosts a va.tree)) (children_of a.rows p))
uncut_most a b va vb p in_a in_b limits inner more =
    let rule_a : get_or (mosts a va.tree) p 0
    ≡ capped (limit_of a p) (want_of a (mosts a va.tree) p) = mosts-capped a va.tree p in_a in
    let rule_b : get_or (mosts b vb.tree) p 0
    ≡ capped (limit_of a p) (want_of b (mosts b vb.tree) p) =
    mosts-capped b vb.tree p in_b
    ∙ ap (λ l. capped l (want_of b (mosts b vb.tree) p)) limits in
    let cut : capped (limit_of a p) (want_of a (mosts a va.tree) p)
    < capped (limit_of a p) (want_of b (mosts b vb.tree) p) = rw (rule_a, rule_b) at more in
    let want : want_of a (mosts a va.tree) p
    ≡ sum_of_children a.rows (mosts a va.tree) p = rw inner refl in
    rule_a
    ∙ uncut (limit_of a p) (want_of a (mosts a va.tree) p) (want_of b (mosts b vb.tree) p) cut
    ∙ want
    ∙ sym (sum-map (slice_index (mosts a va.tree)) (children_of a.rows p))

-- What is within a limit is within the lesser of the limit and a demand, cut at that demand.
less_of_capped : (limit : Option ℕ) (demand want x y : ℕ) → x ≡ capped limit demand
    → y ≤ capped limit want → min demand y ≤ x
less_of_capped None demand want x y is within = omega (arith, is, within)
less_of_capped (Some limit) demand want x y is within = omega (arith, is, within)

-- Parts within their maxima that make up the sum of these are the maxima.
pub all_full : (parts most : List ℕ) → length parts ≡ length most
    → ((k : ℕ) → k < length parts → get_or parts k 0 ≤ get_or most k 0) → sum most ≤ sum parts
    → most ≡ parts
all_full parts most long within whole = elim (find_greater most parts (sym long) whole) [
  | inr same ↦ same
  | inl found ↦
      let clash : get_or parts found.0 0 ≤ get_or most found.0 0 =
      within found.0 (omega (arith, found.1, long)) in
      absurd (omega (arith, clash, found.2))
]

-- The children of a group that has all that they can be given have their mosts.
pub child_full : (a : Groups) (va : IsInstance a) (xs : List ℕ) → IsPlan a xs → (c p : ℕ)
    → c < length a.rows → parent_of a.rows c ≡ Some p
    → sum (map (slice_index (mosts a va.tree)) (children_of a.rows p)) ≤ get_or xs p 0
    → get_or xs c 0 ≡ get_or (mosts a va.tree) c 0
child_full a va xs is_plan c p c_in e enough =
    let p_in : p < length a.rows = omega (arith, parent_lt a.rows va.tree c p e, c_in) in
    let inner : is_leaf a.rows p ≡ false = parent_not_leaf a.rows p c c_in e in
    let spot : (k : ℕ) × (k < length (children_of a.rows p))
    × (get_or (children_of a.rows p) k 0 ≡ c) = listed_child a.rows p c c_in e in
    let split : IsBestSplit (get_or xs p 0) (child_weights a.rows p)
    (map (slice_index (mosts a va.tree)) (children_of a.rows p))
    (map (slice_index xs) (children_of a.rows p)) =
    (planned a va xs is_plan).splits p p_in refl inner in
    let same : map (slice_index (mosts a va.tree)) (children_of a.rows p)
    ≡ map (slice_index xs) (children_of a.rows p) =
    all_full (map (slice_index xs) (children_of a.rows p))
    (map (slice_index (mosts a va.tree)) (children_of a.rows p)) split.split.lengths
    split.split.within (omega (arith, split.split.whole, enough)) in
    sym (at_place a.rows xs p spot.0 c spot.1 spot.2)
    ∙ ap (λ list. get_or list spot.0 0) (sym same)
    ∙ at_place a.rows (mosts a va.tree) p spot.0 c spot.1 spot.2

-- Two instances of equal weights, of which the second has no lower limits and no smaller demands, and
-- equal limits on the path to a group.
module _ (a b : Groups) (group : ℕ) (xs ys : List ℕ) (va : IsInstance a) (vb : IsInstance b)
    (more : IsRoomier a b) (weights : (h : ℕ) → weight_of b.rows h ≡ weight_of a.rows h)
    (path : (h : ℕ) → is_under a.rows h group ≡ true → limit_of b h ≡ limit_of a h)
    (is_plan : IsPlan a xs) (is_other : IsPlan b ys) where
  -- The group can be given as much as before.
  pub most_same : ((h : ℕ) → is_under a.rows group h ≡ true
      → (demand_of b.rows h ≡ demand_of a.rows h) × (limit_of b h ≡ limit_of a h))
      → (h : ℕ) → h < length a.rows → is_under a.rows group h ≡ true
      → get_or (mosts b vb.tree) h 0 ≡ get_or (mosts a va.tree) h 0
  most_same inside = from_the_last (length a.rows)
      (λ h. is_under a.rows group h ≡ true
      → get_or (mosts b vb.tree) h 0 ≡ get_or (mosts a va.tree) h 0)
      (λ h below later under.
      mosts-capped b vb.tree h (omega (arith, below, more.tree.as_many))
      ∙ ap (λ l. capped l (want_of b (mosts b vb.tree) h)) (inside h under).1
      ∙ ap (capped (limit_of a h))
      (want_same a b va vb more.tree (mosts a va.tree) (mosts b vb.tree) h
      (inside h under).0
      (λ c c_in e. later c (parent_lt a.rows va.tree c h e) c_in
      (is_under-step a.rows va.tree group c h e
      ∙ or_right (eqb c group) (is_under a.rows group h) under)))
      ∙ sym (mosts-capped a va.tree h below))

  pub within_b : (h : ℕ) → h < length a.rows → get_or ys h 0 ≤ get_or (mosts b vb.tree) h 0
  within_b h below = within_most b vb ys is_other h (omega (arith, below, more.tree.as_many))

  -- A group with less than its most in the other instance has there no more than before.
  unfoldable pub NoMore : ℕ → Type 0
  NoMore h = (get_or ys h 0 ≤ get_or xs h 0) ⊎ (get_or xs h 0 ≡ get_or (mosts a va.tree) h 0)

  -- A group that has more, though it had its most, was not at its limit: its children had theirs.
  step_full : (c p : ℕ) → c < length a.rows → parent_of a.rows c ≡ Some p
      → limit_of b p ≡ limit_of a p
      → get_or xs p 0 < get_or ys p 0 → get_or xs p 0 ≡ get_or (mosts a va.tree) p 0
      → get_or xs c 0 ≡ get_or (mosts a va.tree) c 0
  step_full c p c_in e limits greater full =
      let p_in : p < length a.rows = omega (arith, parent_lt a.rows va.tree c p e, c_in) in
      let inner : is_leaf a.rows p ≡ false = parent_not_leaf a.rows p c c_in e in
      let whole = uncut_most a b va vb p p_in (omega (arith, p_in, more.tree.as_many))
      limits inner (omega (arith, greater, full, within_b p p_in)) in
      child_full a va xs is_plan c p c_in e (omega (arith, full, whole))

  pub no_more : (h : ℕ) → h < length a.rows → is_under a.rows h group ≡ true → NoMore h
  unfolding NoMore
  no_more = from_the_root a.rows va.tree
      (λ h. is_under a.rows h group ≡ true
      → (get_or ys h 0 ≤ get_or xs h 0) ⊎ (get_or xs h 0 ≡ get_or (mosts a va.tree) h 0))
      (λ under. inr (planned a va xs is_plan).top)
      (λ h p below up known under.
      let over : is_under a.rows p group ≡ true = parent_above a.rows va.tree h p up group under in
      elim (cases_lt (get_or xs h 0) (get_or (mosts a va.tree) h 0)) [
        | inr full ↦ inr (omega (arith, full, within_most a va xs is_plan h below))
        | inl room ↦ elim (cases_lt (get_or xs p 0) (get_or ys p 0)) [
          | inr less ↦ inl
              (no_more_below a b va vb more weights xs ys is_plan is_other h p below up less room)
          | inl greater ↦ elim (known over) [
            | inl less ↦ absurd (omega (arith, less, greater))
            | inr full ↦ inr (step_full h p below up (path p over) greater full)
          ]
        ]
      ])

  pub group_no_more : ((h : ℕ) → is_under a.rows group h ≡ true
      → (demand_of b.rows h ≡ demand_of a.rows h) × (limit_of b h ≡ limit_of a h))
      → group < length a.rows → get_or ys group 0 ≤ get_or xs group 0
  unfolding NoMore
  group_no_more inside below =
      elim (no_more group below (is_under-self a.rows va.tree group)) [
        | inl less ↦ less
        | inr full ↦
            omega (
              arith,
              full,
              within_b group below,
              most_same inside group below (is_under-self a.rows va.tree group),
            )
      ]

pub roomier : (a b : Groups) → IsBusier a b → IsRoomier a b
roomier a b busier = record {
  tree = busier.tree;
  demands = busier.demands;
  limits = λ g limit e. (limit, sym (busier.limits g) ∙ e, omega arith);
}

module _ (a b : Groups) (group : ℕ) (xs ys : List ℕ) (va : IsInstance a) (vb : IsInstance b)
    (busier : IsBusier a b) (is_plan : IsPlan a xs) (is_other : IsPlan b ys) where
  -- A leaf has no more of what it asked for before.
  pub leaf_no_more : group < length a.rows → is_leaf a.rows group ≡ true
      → min (demand_of a.rows group) (get_or ys group 0) ≤ get_or xs group 0
  unfolding NoMore
  leaf_no_more below leaf =
      let rule_a : get_or (mosts a va.tree) group 0
      ≡ capped (limit_of a group) (demand_of a.rows group) =
      mosts-capped a va.tree group below
      ∙ ap (capped (limit_of a group))
      (let want : want_of a (mosts a va.tree) group ≡ demand_of a.rows group = rw leaf refl in
      want) in
      let rule_b : get_or (mosts b vb.tree) group 0
      ≡ capped (limit_of a group) (want_of b (mosts b vb.tree) group) =
      mosts-capped b vb.tree group (omega (arith, below, busier.tree.as_many))
      ∙ ap (λ l. capped l (want_of b (mosts b vb.tree) group)) (busier.limits group) in
      elim (no_more a b group xs ys va vb (roomier a b busier) busier.weights
      (λ h under. busier.limits h) is_plan is_other group below
      (is_under-self a.rows va.tree group)) [
        | inl less ↦ omega (arith, less)
        | inr full ↦
            less_of_capped (limit_of a group) (demand_of a.rows group)
            (want_of b (mosts b vb.tree) group) (get_or xs group 0) (get_or ys group 0)
            (full ∙ rule_a)
            (let fits : get_or ys group 0 ≤ get_or (mosts b vb.tree) group 0 =
            within_b a b group xs ys va vb (roomier a b busier) busier.weights
            (λ h under. busier.limits h) is_plan is_other group below in omega (arith, fits, rule_b))
      ]

pub others_room_gives : OthersRoomGivesNothing
others_room_gives a b group xs ys va vb more below is_plan is_other =
    group_no_more a b group xs ys va vb more.no_less more.weights more.above is_plan is_other
    (λ h under. (more.demands h under, more.limits h under)) below

pub others_demands_give : OthersDemandsGiveNothing
others_demands_give a b group xs ys va vb busier below is_plan is_other =
    group_no_more a b group xs ys va vb (roomier a b (record {
      tree = busier.tree;
      weights = busier.weights;
      limits = busier.limits;
      demands = busier.demands;
    })) busier.weights (λ h under. busier.limits h) is_plan is_other
    (λ h under. (busier.inside h under, busier.limits h)) below
