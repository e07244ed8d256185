-- Leaves that ask for more: what it changes, and when it changes nothing.
use Rattle.std.proofs.Common.{◌≡◌, ℕ, ◌<◌, ◌≤◌, List, Option, true, false, None, Some, length}
use Rattle.std.proofs.Common.{get_or, refl, ap, sym, ◌∙◌, arith, inl, inr}
use Rattle.std.specs.Prelude.{map, sum_by, slice_index}
use Rattle.std.proofs.lemmas.Bool.{cases_eq, cases_Bool}
use Rattle.std.proofs.lemmas.List.{length-map}
use Rattle.std.proofs.lemmas.List.Sums.{sum-map}
use Rattle.bw_model.specs.Groups.{Groups, IsInstance, parent_of, children_of, is_leaf, weight_of}
use Rattle.bw_model.specs.Groups.{demand_of, limit_of}
use Rattle.bw_model.specs.Demand.{want_of}
use Rattle.bw_model.specs.Plan.{IsPlan, child_weights}
use Rattle.bw_model.specs.Split.{IsBestSplit}
use Rattle.bw_model.proofs.CallerLemmas.{from_the_last, capped, mosts, mosts-capped}
use Rattle.bw_model.proofs.CallerLemmas.{parent_lt, parent_not_leaf, listed_child, child_at}
use Rattle.bw_model.proofs.CallerLemmas.{IsBestSplit-unique, capped_le_want}
use Rattle.bw_questions.specs.changes.Asked.{IsBusier, DemandOnlyCuts}
use Rattle.bw_questions.specs.changes.Asked.{GreaterDemandsServeNoMore, UnmetDemandChangesNothing}
use Rattle.bw_questions.specs.changes.Asked.{UnusedDemandChangesNothing}
use Rattle.bw_questions.specs.changes.Room.{IsRoomierAt}
use Rattle.bw_questions.proofs.changes.BusyLaw.{roomier, leaf_no_more}
use Rattle.bw_questions.proofs.changes.HostLaws.{mosts_less, sums_less}
use Rattle.bw_questions.proofs.changes.Lacking.{within_most}
use Rattle.bw_questions.proofs.changes.RoomLaw.{more_room_takes}
use Rattle.bw_questions.proofs.changes.Siblings.{no_less_at}
use Rattle.bw_questions.proofs.changes.Trees.{from_the_root, planned, split_beside, at_place}
use Rattle.bw_questions.proofs.changes.Trees.{at_children}
use Rattle.bw_questions.proofs.changes.Trees.{leaf_same}

-- What is within a want and within the limit of another want is within the limit of the want.
within_capped : (limit : Option ℕ) (want greater amount : ℕ) → amount ≤ want
    → amount ≤ capped limit greater → amount ≤ capped limit want
within_capped None want greater amount low high = low
within_capped (Some limit) want greater amount low high = omega (arith, low, high)

-- A best split within lower maxima is the best within those.
fitted_split : (amount : ℕ) (weights most lower parts : List ℕ) → length lower ≡ length most
    → ((k : ℕ) → get_or lower k 0 ≤ get_or most k 0)
    → ((k : ℕ) → get_or parts k 0 ≤ get_or lower k 0)
    → IsBestSplit amount weights most parts → IsBestSplit amount weights lower parts
fitted_split amount weights most lower parts same less within best = record {
  split = record {
    lengths = best.split.lengths ∙ sym same;
    whole = best.split.whole;
    within = λ k below. within k;
  };
  best = λ others split. best.best others (record {
    lengths = split.lengths ∙ same;
    whole = split.whole;
    within = λ k below.
        let low : get_or others k 0 ≤ get_or lower k 0 = split.within k below in
        omega (arith, low, less k);
  });
}

module _ (a b : Groups) (xs ys : List ℕ) (va : IsInstance a) (vb : IsInstance b)
    (busier : IsBusier a b) (is_plan : IsPlan a xs) (is_other : IsPlan b ys)
    (fits : (l : ℕ) → l < length a.rows → is_leaf a.rows l ≡ true
    → get_or ys l 0 ≤ demand_of a.rows l) where
  most_less : (h : ℕ) → h < length a.rows
      → get_or (mosts a va.tree) h 0 ≤ get_or (mosts b vb.tree) h 0
  most_less h below =
      mosts_less a b va vb (roomier a b busier) h below

  split : (p : ℕ) → p < length a.rows → is_leaf a.rows p ≡ false
      → IsBestSplit (get_or ys p 0) (map (weight_of b.rows) (children_of a.rows p))
      (map (slice_index (mosts b vb.tree)) (children_of a.rows p))
      (map (slice_index ys) (children_of a.rows p))
  split p below inner =
      split_beside a b va vb busier.tree (mosts a va.tree) (mosts b vb.tree) xs ys
      (planned a va xs is_plan) (planned b vb ys is_other) p below inner

  within_want : (h : ℕ) → h < length a.rows
      → ((c : ℕ) → c < length a.rows → parent_of a.rows c ≡ Some h
      → get_or ys c 0 ≤ get_or (mosts a va.tree) c 0)
      → get_or ys h 0 ≤ want_of a (mosts a va.tree) h
  within_want h below later = elim (cases_Bool (is_leaf a.rows h)) [
    | inl leaf ↦ rw leaf (fits h below leaf)
    | inr inner ↦
        let sums : sum_by (slice_index ys) (children_of a.rows h)
        ≤ sum_by (slice_index (mosts a va.tree)) (children_of a.rows h) =
        sums_less (children_of a.rows h) ys (mosts a va.tree) (λ k k_in.
        later (get_or (children_of a.rows h) k 0) (child_at a.rows h k k_in).within
        (child_at a.rows h k k_in).parent) in
        rw inner
        (omega (
          arith,
          sums,
          (split h below inner).split.whole,
          sum-map (slice_index ys) (children_of a.rows h),
        ))
  ]

  -- No group has more than it can be given with the smaller demands.
  below_most : (h : ℕ) → h < length a.rows → get_or ys h 0 ≤ get_or (mosts a va.tree) h 0
  below_most = from_the_last (length a.rows)
      (λ h. get_or ys h 0 ≤ get_or (mosts a va.tree) h 0)
      (λ h below later.
      let fits_b : get_or ys h 0 ≤ get_or (mosts b vb.tree) h 0 =
      within_most b vb ys is_other h (omega (arith, below, busier.tree.as_many)) in
      let rule_b : get_or (mosts b vb.tree) h 0
      ≡ capped (limit_of a h) (want_of b (mosts b vb.tree) h) =
      mosts-capped b vb.tree h (omega (arith, below, busier.tree.as_many))
      ∙ ap (λ l. capped l (want_of b (mosts b vb.tree) h)) (busier.limits h) in
      rw (mosts-capped a va.tree h below)
      (within_capped (limit_of a h) (want_of a (mosts a va.tree) h)
      (want_of b (mosts b vb.tree) h) (get_or ys h 0)
      (within_want h below (λ c c_in e. later c (parent_lt a.rows va.tree c h e) c_in))
      (omega (arith, fits_b, rule_b))))

  step : (c p : ℕ) → c < length a.rows → parent_of a.rows c ≡ Some p
      → get_or ys p 0 ≡ get_or xs p 0 → get_or ys c 0 ≡ get_or xs c 0
  step c p c_in e same =
      let p_in : p < length a.rows = omega (arith, parent_lt a.rows va.tree c p e, c_in) in
      let inner : is_leaf a.rows p ≡ false = parent_not_leaf a.rows p c c_in e in
      let place : (k : ℕ) × (k < length (children_of a.rows p))
      × (get_or (children_of a.rows p) k 0 ≡ c) = listed_child a.rows p c c_in e in
      let fitted : IsBestSplit (get_or ys p 0) (map (weight_of b.rows) (children_of a.rows p))
      (map (slice_index (mosts a va.tree)) (children_of a.rows p))
      (map (slice_index ys) (children_of a.rows p)) =
      fitted_split (get_or ys p 0) (map (weight_of b.rows) (children_of a.rows p))
      (map (slice_index (mosts b vb.tree)) (children_of a.rows p))
      (map (slice_index (mosts a va.tree)) (children_of a.rows p))
      (map (slice_index ys) (children_of a.rows p))
      (length-map (children_of a.rows p) (slice_index (mosts a va.tree))
      ∙ sym (length-map (children_of a.rows p) (slice_index (mosts b vb.tree))))
      (no_less_at a.rows p (slice_index (mosts a va.tree)) (slice_index (mosts b vb.tree))
      (λ s s_in up. most_less s s_in))
      (no_less_at a.rows p (slice_index ys) (slice_index (mosts a va.tree))
      (λ s s_in up. below_most s s_in))
      (split p p_in inner) in
      let over : IsBestSplit (get_or xs p 0) (child_weights a.rows p)
      (map (slice_index (mosts a va.tree)) (children_of a.rows p))
      (map (slice_index ys) (children_of a.rows p)) =
      rw (
        same,
        at_children a.rows (weight_of b.rows) (weight_of a.rows) p
            (λ s s_in up. busier.weights s),
      ) at fitted in
      let parts : map (slice_index ys) (children_of a.rows p)
      ≡ map (slice_index xs) (children_of a.rows p) =
      IsBestSplit-unique (get_or xs p 0) (child_weights a.rows p)
      (map (slice_index (mosts a va.tree)) (children_of a.rows p))
      (map (slice_index ys) (children_of a.rows p)) (map (slice_index xs) (children_of a.rows p))
      over ((planned a va xs is_plan).splits p p_in refl inner) in
      sym (at_place a.rows ys p place.0 c place.1 place.2)
      ∙ ap (λ list. get_or list place.0 0) parts
      ∙ at_place a.rows xs p place.0 c place.1 place.2

  pub unused : (h : ℕ) → h < length a.rows → get_or ys h 0 ≡ get_or xs h 0
  unused = from_the_root a.rows va.tree (λ h. get_or ys h 0 ≡ get_or xs h 0)
      (omega (
        arith,
        (planned a va xs is_plan).top,
        (planned b vb ys is_other).top,
        below_most 0 va.tree.has_root,
        most_less 0 va.tree.has_root,
      ))
      (λ h p below up same. step h p below up same)

-- No leaf has more than it asks for.
pub within_demand : (groups : Groups) (valid : IsInstance groups) (amounts : List ℕ)
    → IsPlan groups amounts → (l : ℕ) → l < length groups.rows → is_leaf groups.rows l ≡ true
    → get_or amounts l 0 ≤ demand_of groups.rows l
within_demand groups valid amounts is_plan l below leaf =
    let fits : get_or amounts l 0 ≤ get_or (mosts groups valid.tree) l 0 =
    within_most groups valid amounts is_plan l below in
    let want : want_of groups (mosts groups valid.tree) l ≡ demand_of groups.rows l =
    rw leaf refl in
    omega (
      arith,
      fits,
      mosts-capped groups valid.tree l below,
      capped_le_want (limit_of groups l) (want_of groups (mosts groups valid.tree) l),
      want,
    )

pub serve_no_more : GreaterDemandsServeNoMore
serve_no_more a b leaf xs ys va vb busier is_plan is_other below is_leaf =
    leaf_no_more a b leaf xs ys va vb busier is_plan is_other below is_leaf

pub unused_changes : UnusedDemandChangesNothing
unused_changes a b xs ys va vb busier is_plan is_other fits h below =
    unused a b xs ys va vb busier is_plan is_other fits h below

pub only_cuts : DemandOnlyCuts
only_cuts a b leaf xs ys va vb at_leaf is_plan is_other =
    let more : IsRoomierAt a b leaf = record {
      no_less = roomier a b at_leaf.no_less;
      weights = at_leaf.no_less.weights;
      demands = at_leaf.others;
      limits = λ h other. at_leaf.no_less.limits h;
    } in
    let keeps : get_or xs leaf 0 ≤ get_or ys leaf 0 =
    (more_room_takes a b leaf xs ys va vb more at_leaf.within is_plan is_other).gains in
    omega (
      arith,
      keeps,
      serve_no_more a b leaf xs ys va vb at_leaf.no_less is_plan is_other at_leaf.within
          at_leaf.childless,
      within_demand a va xs is_plan leaf at_leaf.within at_leaf.childless,
    )

pub unmet_changes : UnmetDemandChangesNothing
unmet_changes a b leaf xs ys va vb at_leaf is_plan is_other unmet =
    unused_changes a b xs ys va vb at_leaf.no_less is_plan is_other (λ l below is.
    elim (cases_eq l leaf) [
      | inl here ↦ rw here
          (omega (
            arith,
            only_cuts a b leaf xs ys va vb at_leaf is_plan is_other,
            unmet,
          ))
      | inr other ↦
          omega (
            arith,
            at_leaf.others l other,
            within_demand b vb ys is_other l
                (omega (arith, below, at_leaf.no_less.tree.as_many))
                (leaf_same a.rows b.rows at_leaf.no_less.tree l ∙ is),
          )
    ])
