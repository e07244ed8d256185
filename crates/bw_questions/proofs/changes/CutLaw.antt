-- A limit only cuts: with it a group has what it has without, or the limit if that is less.
use Rattle.std.proofs.Common.{◌≡◌, ℕ, ◌<◌, ◌≤◌, List, true, false, None, Some, length}
use Rattle.std.proofs.Common.{get_or, ap, sym, ◌∙◌, arith, inl, inr}
use Rattle.std.specs.Prelude.{map, min, sum, slice_index}
use Rattle.std.proofs.lemmas.Bool.{cases_eq, cases_lt}
use Rattle.std.proofs.lemmas.List.{length-map}
use Rattle.bw_model.specs.Groups.{Groups, IsInstance, parent_of, children_of, is_leaf, weight_of}
use Rattle.bw_model.specs.Groups.{demand_of, limit_of, is_under}
use Rattle.bw_model.specs.Demand.{want_of}
use Rattle.bw_model.specs.Plan.{IsPlan}
use Rattle.bw_model.specs.Split.{IsBestSplit}
use Rattle.bw_model.proofs.CallerLemmas.{capped, mosts, mosts-capped}
use Rattle.bw_model.proofs.CallerLemmas.{parent_lt, parent_not_leaf, child_at}
use Rattle.bw_model.proofs.CallerLemmas.{get_or-map, is_under-self}
use Rattle.bw_questions.proofs.changes.Lists.{find_greater}
use Rattle.bw_questions.specs.changes.Cut.{LimitOnlyCuts}
use Rattle.bw_questions.specs.changes.Room.{IsRoomierAt}
use Rattle.bw_questions.proofs.changes.Above.{parent_above, one_above}
use Rattle.bw_questions.proofs.changes.BusyLaw.{uncut_most, child_full}
use Rattle.bw_questions.proofs.changes.HostLaws.{mosts_less}
use Rattle.bw_questions.proofs.changes.Lacking.{within_most, no_more_below}
use Rattle.bw_questions.proofs.changes.RoomLaw.{more_room_takes, most_same}
use Rattle.bw_questions.proofs.changes.Trees.{from_the_root, planned, want_same, split_beside}
use Rattle.bw_questions.proofs.changes.Trees.{under_le}

module _ (a b : Groups) (group : ℕ) (xs ys : List ℕ) (va : IsInstance a) (vb : IsInstance b)
    (more : IsRoomierAt a b group) (group_in : group < length a.rows) (is_plan : IsPlan a xs)
    (is_other : IsPlan b ys) where
  -- Of a parent that has more in all than its children's mosts, the child above the group has at
  -- least its most of before.
  no_less_than_most : (c p : ℕ) → c < length a.rows → parent_of a.rows c ≡ Some p
      → is_under a.rows c group ≡ true
      → sum (map (slice_index (mosts a va.tree)) (children_of a.rows p)) < get_or ys p 0
      → get_or (mosts a va.tree) c 0 ≤ get_or ys c 0
  no_less_than_most c p c_in e under over =
      let p_in : p < length a.rows = omega (arith, parent_lt a.rows va.tree c p e, c_in) in
      let inner : is_leaf a.rows p ≡ false = parent_not_leaf a.rows p c c_in e in
      let split : IsBestSplit (get_or ys p 0) (map (weight_of b.rows) (children_of a.rows p))
      (map (slice_index (mosts b vb.tree)) (children_of a.rows p))
      (map (slice_index ys) (children_of a.rows p)) =
      split_beside a b va vb more.no_less.tree (mosts a va.tree) (mosts b vb.tree) xs ys
      (planned a va xs is_plan) (planned b vb ys is_other) p p_in inner in
      elim (find_greater (map (slice_index (mosts a va.tree)) (children_of a.rows p))
      (map (slice_index ys) (children_of a.rows p))
      (length-map (children_of a.rows p) (slice_index (mosts a va.tree))
      ∙ sym (length-map (children_of a.rows p) (slice_index ys)))
      (omega (arith, split.split.whole, over))) [
        | inr same ↦ absurd
            (let sums : sum (map (slice_index (mosts a va.tree)) (children_of a.rows p))
            ≡ sum (map (slice_index ys) (children_of a.rows p)) = ap sum same in
            omega (arith, sums, split.split.whole, over))
        | inl found ↦
            let place : found.0 < length (children_of a.rows p) =
            omega (
              arith,
              found.1,
              length-map (children_of a.rows p) (slice_index (mosts a va.tree)),
            ) in
            more_at c p c_in e under (get_or (children_of a.rows p) found.0 0)
            (child_at a.rows p found.0 place).within (child_at a.rows p found.0 place).parent
            (rw (
              get_or-map (slice_index (mosts a va.tree)) (children_of a.rows p) found.0 place,
              get_or-map (slice_index ys) (children_of a.rows p) found.0 place,
            ) at found.2)
      ]
    where
      more_at : (c p : ℕ) → c < length a.rows → parent_of a.rows c ≡ Some p
          → is_under a.rows c group ≡ true → (d : ℕ) → d < length a.rows
          → parent_of a.rows d ≡ Some p
          → get_or (mosts a va.tree) d 0 < get_or ys d 0
          → get_or (mosts a va.tree) c 0 ≤ get_or ys c 0
      more_at c p c_in e under d d_in up gains = elim (cases_eq d c) [
        | inl here ↦
            let less : get_or (mosts a va.tree) c 0 < get_or ys c 0 = rw here at gains in
            omega (arith, less)
        | inr other ↦ absurd
            (let same : get_or (mosts b vb.tree) d 0 ≡ get_or (mosts a va.tree) d 0 =
            most_same a b group xs ys va vb more is_plan is_other d d_in
            (λ high. other (one_above a.rows va.tree d c p up e group high under)) in
            omega (
              arith,
              same,
              gains,
              within_most b vb ys is_other d
                  (omega (arith, d_in, more.no_less.tree.as_many)),
            ))
      ]

  -- The child above the group of a parent whose amount is cut at its most: all have their mosts.
  step_full : (c p : ℕ) → c < length a.rows → parent_of a.rows c ≡ Some p
      → is_under a.rows c group ≡ true
      → get_or xs p 0 ≡ get_or (mosts a va.tree) p 0
      → get_or (mosts a va.tree) p 0 < get_or ys p 0
      → get_or xs c 0 ≡ min (get_or ys c 0) (get_or (mosts a va.tree) c 0)
  step_full c p c_in e under full over =
      let less : p < c = parent_lt a.rows va.tree c p e in
      let p_in : p < length a.rows = omega (arith, less, c_in) in
      let inner : is_leaf a.rows p ≡ false = parent_not_leaf a.rows p c c_in e in
      let fits : get_or ys p 0 ≤ get_or (mosts b vb.tree) p 0 =
      within_most b vb ys is_other p (omega (arith, p_in, more.no_less.tree.as_many)) in
      let whole : get_or (mosts a va.tree) p 0
      ≡ sum (map (slice_index (mosts a va.tree)) (children_of a.rows p)) =
      uncut_most a b va vb p p_in (omega (arith, p_in, more.no_less.tree.as_many))
      (more.limits p
      (λ same. let up : c ≤ group = under_le a.rows va.tree c group under in
      omega (arith, same, up, less)))
      inner (omega (arith, over, fits)) in
      let here : get_or xs c 0 ≡ get_or (mosts a va.tree) c 0 =
      child_full a va xs is_plan c p c_in e (omega (arith, full, whole)) in
      omega (arith, here, no_less_than_most c p c_in e under (omega (arith, over, whole)))

  step_cut : (c p : ℕ) → c < length a.rows → parent_of a.rows c ≡ Some p
      → is_under a.rows c group ≡ true
      → get_or xs p 0 ≡ min (get_or ys p 0) (get_or (mosts a va.tree) p 0)
      → get_or xs c 0 ≡ min (get_or ys c 0) (get_or (mosts a va.tree) c 0)
  step_cut c p c_in e under up = elim (cases_lt (get_or (mosts a va.tree) p 0) (get_or ys p 0)) [
    | inl over ↦ step_full c p c_in e under (omega (arith, up, over)) over
    | inr within ↦
        let keeps : get_or xs c 0 ≤ get_or ys c 0 =
        (more_room_takes a b group xs ys va vb more group_in is_plan is_other).above c under in
        let fits : get_or xs c 0 ≤ get_or (mosts a va.tree) c 0 =
        within_most a va xs is_plan c c_in in
        elim (cases_lt (get_or xs c 0) (get_or (mosts a va.tree) c 0)) [
          | inr full ↦ omega (arith, keeps, fits, full)
          | inl room ↦
              let less : get_or ys c 0 ≤ get_or xs c 0 =
              no_more_below a b va vb more.no_less more.weights xs ys is_plan is_other c p c_in e
              (omega (arith, up, within)) room in
              omega (arith, keeps, less, room)
        ]
  ]

  cut : (h : ℕ) → h < length a.rows → is_under a.rows h group ≡ true
      → get_or xs h 0 ≡ min (get_or ys h 0) (get_or (mosts a va.tree) h 0)
  cut = from_the_root a.rows va.tree
      (λ h. is_under a.rows h group ≡ true
      → get_or xs h 0 ≡ min (get_or ys h 0) (get_or (mosts a va.tree) h 0))
      (λ under. omega (
        arith,
        (planned a va xs is_plan).top,
        (planned b vb ys is_other).top,
        mosts_less a b va vb more.no_less 0 va.tree.has_root,
      ))
      (λ h p below up so_far under.
      step_cut h p below up under (so_far (parent_above a.rows va.tree h p up group under)))

  want_kept : demand_of b.rows group ≡ demand_of a.rows group
      → want_of b (mosts b vb.tree) group ≡ want_of a (mosts a va.tree) group
  want_kept demands =
      want_same a b va vb more.no_less.tree (mosts a va.tree) (mosts b vb.tree) group demands
      (λ c c_in e. most_same a b group xs ys va vb more is_plan is_other c c_in (λ under.
      let up : c ≤ group = under_le a.rows va.tree c group under in
      let less : group < c = parent_lt a.rows va.tree c group e in
      omega (arith, up, less)))

  at_group : (limit : ℕ) → demand_of b.rows group ≡ demand_of a.rows group
      → limit_of a group ≡ Some limit → limit_of b group ≡ None
      → get_or xs group 0 ≡ min (get_or ys group 0) limit
  at_group limit demands limited free =
      let rule_a : get_or (mosts a va.tree) group 0
      ≡ min (want_of a (mosts a va.tree) group) limit =
      mosts-capped a va.tree group group_in
      ∙ ap (λ l. capped l (want_of a (mosts a va.tree) group)) limited in
      let rule_b : get_or (mosts b vb.tree) group 0 ≡ want_of b (mosts b vb.tree) group =
      mosts-capped b vb.tree group (omega (arith, group_in, more.no_less.tree.as_many))
      ∙ ap (λ l. capped l (want_of b (mosts b vb.tree) group)) free in
      omega (
        arith,
        cut group group_in (is_under-self a.rows va.tree group),
        rule_a,
        rule_b,
        want_kept demands,
        within_most b vb ys is_other group (omega (arith, group_in, more.no_less.tree.as_many)),
      )

pub limit_cuts : LimitOnlyCuts
limit_cuts a b group limit xs ys va vb limited group_in is_plan is_other =
    at_group a b group xs ys va vb limited.more group_in is_plan is_other limit limited.demand
    limited.with_limit limited.without
