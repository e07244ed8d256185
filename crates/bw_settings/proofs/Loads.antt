-- A group whose weights on its way are raised gets no less.
use Rattle.std.proofs.Common.{◌≡◌, ◌≢◌, ℕ, ◌<◌, ◌≤◌, List, true, false, Some, length, get_or, refl}
use Rattle.std.proofs.Common.{ap, sym, ◌∙◌, arith, inl, inr}
use Rattle.std.specs.Prelude.{map, slice_index}
use Rattle.std.proofs.lemmas.Bool.{cases_lt}
use Rattle.std.proofs.lemmas.List.{length-map}
use Rattle.bw_model.specs.Groups.{Groups, IsInstance, parent_of, children_of, is_leaf, weight_of}
use Rattle.bw_model.specs.Groups.{demand_of, limit_of, is_under}
use Rattle.bw_model.specs.Certificate.{sibling_place}
use Rattle.bw_model.specs.Demand.{want_of}
use Rattle.bw_model.specs.Plan.{IsPlan, child_weights}
use Rattle.bw_model.specs.Split.{IsBestSplit}
use Rattle.bw_model.proofs.CallerLemmas.{from_the_last, capped, mosts, mosts-capped, child_at}
use Rattle.bw_model.proofs.CallerLemmas.{parent_lt, parent_not_leaf, listed_child, get_or-map}
use Rattle.bw_model.proofs.CallerLemmas.{is_under-self}
use Rattle.bw_plan.proofs.CallerLemmas.{weights_in_range}
use Rattle.bw_questions.specs.changes.OneSplit.{AreWeighted, LighterHasNoMore}
use Rattle.bw_questions.specs.changes.Tree.{IsSameTree}
use Rattle.bw_questions.proofs.CallerLemmas.{want_same, split_over, planned, from_the_root}
use Rattle.bw_questions.proofs.CallerLemmas.{children_same, outside}
use Rattle.bw_settings.proofs.Ways.{above_parent, sibling_not_above, sibling_not_below}

-- Two instances of one tree, with equal demands and limits.
pub record IsReloaded (groups others : Groups) : Type 0 where
  pub tree : IsSameTree groups.rows others.rows
  pub demands : (h : ℕ) → demand_of others.rows h ≡ demand_of groups.rows h
  pub limits : (h : ℕ) → limit_of others h ≡ limit_of groups h

-- The weights of a group's children fit their mosts.
weighted : (groups : Groups) → IsInstance groups → (most : List ℕ) (g : ℕ) →
    AreWeighted (child_weights groups.rows g) (map (slice_index most) (children_of groups.rows g))
weighted groups valid most g = record {
  one_each = length-map (children_of groups.rows g) (weight_of groups.rows)
      ∙ sym (length-map (children_of groups.rows g) (slice_index most));
  positive = λ k below. let w = weights_in_range groups valid g k below in omega (arith, w.0);
}

module _ (a b : Groups) (va : IsInstance a) (vb : IsInstance b) (kept : IsReloaded a b)
    (xs ys : List ℕ) (is_plan : IsPlan a xs) (is_other : IsPlan b ys) where
  most_same : (h : ℕ) → h < length a.rows
      → get_or (mosts b vb.tree) h 0 ≡ get_or (mosts a va.tree) h 0
  most_same = from_the_last (length a.rows)
      (λ h. get_or (mosts b vb.tree) h 0 ≡ get_or (mosts a va.tree) h 0)
      (λ h below later.
      mosts-capped b vb.tree h (omega (arith, below, kept.tree.as_many))
      ∙ ap (λ l. capped l (want_of b (mosts b vb.tree) h)) (kept.limits h)
      ∙ ap (capped (limit_of a h))
      (want_same a b va vb kept.tree (mosts a va.tree) (mosts b vb.tree) h (kept.demands h)
      (λ c c_in e. later c (parent_lt a.rows va.tree c h e) c_in))
      ∙ sym (mosts-capped a va.tree h below))

  -- the weights of b, over the rows of a
  weighted_then : (p : ℕ) → AreWeighted (map (weight_of b.rows) (children_of a.rows p))
      (map (slice_index (mosts a va.tree)) (children_of a.rows p))
  weighted_then p = rw (children_same a.rows b.rows kept.tree p) at
      (weighted b vb (mosts a va.tree) p)

  -- A child of no lesser weight, whose parent has no less, beside siblings of no greater weights.
  child_keeps : LighterHasNoMore → (c p : ℕ) → c < length a.rows → parent_of a.rows c ≡ Some p
      → get_or xs p 0 ≤ get_or ys p 0 → weight_of a.rows c ≤ weight_of b.rows c
      → ((s : ℕ) → s < length a.rows → parent_of a.rows s ≡ Some p → s ≢ c
      → weight_of b.rows s ≤ weight_of a.rows s)
      → get_or xs c 0 ≤ get_or ys c 0
  child_keeps lighter c p c_in up more heavier siblings =
      let p_in : p < length a.rows = omega (arith, parent_lt a.rows va.tree c p up, c_in) in
      let inner : is_leaf a.rows p ≡ false = parent_not_leaf a.rows p c c_in up in
      let place : (k : ℕ) × (k < length (children_of a.rows p))
      × (get_or (children_of a.rows p) k 0 ≡ c) = listed_child a.rows p c c_in up in
      let here : (f : ℕ → ℕ) → get_or (map f (children_of a.rows p)) place.0 0 ≡ f c =
      (λ f. get_or-map f (children_of a.rows p) place.0 place.1 ∙ ap f place.2) in
      let before : IsBestSplit (get_or xs p 0) (child_weights a.rows p)
      (map (slice_index (mosts a va.tree)) (children_of a.rows p))
      (map (slice_index xs) (children_of a.rows p)) =
      (planned a va xs is_plan).splits p p_in refl inner in
      let after : IsBestSplit (get_or ys p 0) (map (weight_of b.rows) (children_of a.rows p))
      (map (slice_index (mosts a va.tree)) (children_of a.rows p))
      (map (slice_index ys) (children_of a.rows p)) =
      split_over a b va vb kept.tree (mosts a va.tree) (mosts b vb.tree) xs ys
      (planned a va xs is_plan) (planned b vb ys is_other) p p_in inner
      (λ s s_in e. most_same s s_in) in
      let long : length (map (slice_index xs) (children_of a.rows p))
      ≡ length (children_of a.rows p) = length-map (children_of a.rows p) (slice_index xs) in
      let within : get_or xs c 0 ≤ get_or (mosts a va.tree) c 0 =
      omega (
        arith,
        before.split.within place.0 (omega (arith, place.1, long)),
        here (slice_index xs),
        here (slice_index (mosts a va.tree)),
      ) in
      elim (cases_lt (get_or ys c 0) (get_or (mosts a va.tree) c 0)) [
        | inr full ↦ omega (arith, full, within)
        | inl room ↦
            let less = lighter (get_or ys p 0) (get_or xs p 0)
            (map (weight_of b.rows) (children_of a.rows p))
            (map (slice_index (mosts a va.tree)) (children_of a.rows p))
            (child_weights a.rows p) (map (slice_index ys) (children_of a.rows p))
            (map (slice_index xs) (children_of a.rows p)) place.0 more (weighted_then p)
            (weighted a va (mosts a va.tree) p)
            (omega (arith, heavier, here (weight_of a.rows), here (weight_of b.rows)))
            (lighter_at p c place.0 place.1 place.2 siblings) after before
            (omega (
              arith,
              room,
              here (slice_index ys),
              here (slice_index (mosts a va.tree)),
            )) in
            omega (arith, less, here (slice_index xs), here (slice_index ys))
      ]
    where
      lighter_at : (p c place : ℕ) → place < length (children_of a.rows p)
          → get_or (children_of a.rows p) place 0 ≡ c
          → ((s : ℕ) → s < length a.rows → parent_of a.rows s ≡ Some p → s ≢ c
          → weight_of b.rows s ≤ weight_of a.rows s)
          → (k : ℕ) → k ≢ place
          → get_or (map (weight_of b.rows) (children_of a.rows p)) k 0
          ≤ get_or (child_weights a.rows p) k 0
      lighter_at p c place place_in is siblings k apart =
          elim (cases_lt k (length (children_of a.rows p))) [
            | inr past ↦
                omega (
                  arith,
                  outside (map (weight_of b.rows) (children_of a.rows p)) k
                      (omega (arith, past, length-map (children_of a.rows p) (weight_of b.rows))),
                )
            | inl k_in ↦
                let less : weight_of b.rows (get_or (children_of a.rows p) k 0)
                ≤ weight_of a.rows (get_or (children_of a.rows p) k 0) =
                siblings (get_or (children_of a.rows p) k 0) (child_at a.rows p k k_in).within
                (child_at a.rows p k k_in).parent
                (λ same. apart
                (sym (child_at a.rows p k k_in).place
                ∙ ap (sibling_place a.rows p) (same ∙ sym is)
                ∙ (child_at a.rows p place place_in).place)) in
                omega (
                  arith,
                  less,
                  get_or-map (weight_of a.rows) (children_of a.rows p) k k_in,
                  get_or-map (weight_of b.rows) (children_of a.rows p) k k_in,
                )
          ]

  -- Weights are raised at a group and above it, and are not greater beside its way.
  pub way_gains : LighterHasNoMore → (group : ℕ) → group < length a.rows
      → ((h : ℕ) → h < length a.rows → is_under a.rows h group ≡ true
      → weight_of a.rows h ≤ weight_of b.rows h)
      → ((h : ℕ) → h < length a.rows → is_under a.rows h group ≡ false
      → is_under a.rows group h ≡ false → weight_of b.rows h ≤ weight_of a.rows h)
      → get_or xs group 0 ≤ get_or ys group 0
  way_gains lighter group group_in heavier beside =
      from_the_root a.rows va.tree
      (λ h. is_under a.rows h group ≡ true → get_or xs h 0 ≤ get_or ys h 0)
      (λ _. omega (
        arith,
        (planned a va xs is_plan).top,
        (planned b vb ys is_other).top,
        most_same 0 va.tree.has_root,
      ))
      (λ c p c_in up so_far above.
      child_keeps lighter c p c_in up
      (so_far (above_parent a.rows va.tree c p up group above)) (heavier c c_in above)
      (λ s s_in also apart. beside s s_in
      (sibling_not_above a.rows va.tree c s p up also apart group above)
      (sibling_not_below a.rows va.tree c s p up also apart group above)))
      group group_in (is_under-self a.rows va.tree group)
