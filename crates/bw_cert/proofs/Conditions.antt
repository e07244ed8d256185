-- A plan with its tight flags and its levels keeps the conditions of a certificate.
use Rattle.std.proofs.Common.{◌≡◌, ℕ, ◌<◌, ◌≤◌, List, true, false, Option, None, Some, length}
use Rattle.std.proofs.Common.{get_or, ltb, refl, ap, sym, ◌∙◌, subst, arith, rules}
use Rattle.std.specs.Prelude.{sum_by, slice_index, map}
use Rattle.std.specs.Option.{option_map_or, IsSome}
use Rattle.std.proofs.lemmas.Bool.{false≢true}
use Rattle.std.proofs.lemmas.List.{length-map}
use Rattle.std.proofs.lemmas.List.Sums.{sum-map}
use Rattle.bw_model.specs.declared.mark.Mark.{Mark}
use Rattle.bw_model.specs.Groups.{Groups, IsInstance, children_of, is_leaf, limit_of, demand_of}
use Rattle.bw_model.specs.Groups.{weight_of, parent_of}
use Rattle.bw_model.specs.Marks.{MarkValue, price_of, last_mark, next_mark, IsBelow, IsAtMost}
use Rattle.bw_model.specs.Split.{IsBestSplit, IsAtLevel}
use Rattle.bw_model.specs.Plan.{child_weights, IsPlan}
use Rattle.bw_model.specs.declared.limits.TheConstants.{MAX_CAPACITY}
use Rattle.bw_model.specs.Demand.{AreMaxTotals, want_of, is_tight}
use Rattle.bw_model.specs.Certificate.{Certified, IsCertified, is_flagged, level_at, sibling_place}
use Rattle.bw_model.proofs.CallerLemmas.{child_at, get_or-map, listed_child, tight-bound_at, capped}
use Rattle.bw_model.proofs.CallerLemmas.{most_le_want, most_le_limit, best-IsAtLevel}
use Rattle.bw_model.proofs.CallerLemmas.{AreMaxTotals-capped}
use Rattle.bw_model.specs.Split.{IsGreatestLast}
use Rattle.bw_plan.proofs.CallerLemmas.{plan-IsPlanning, weights_in_range, at_most}
use Rattle.bw_plan.specs.Shared.{IsPlanning}
use Rattle.bw_cert.specs.Levels.{IsLevelAt, AreLevels}

some_limit : (o : Option ℕ) (want : ℕ) → option_map_or (λ limit. ltb limit want) o false ≡ true
    → IsSome o
some_limit None want e = absurd (false≢true e)
some_limit (Some m) want e = search rules

last_to : (x y w v k p : ℕ) (level : MarkValue) → x ≡ y → w ≡ v → k ≡ p →
    (0 < x → IsAtMost (last_mark x w k) level) → 0 < y → IsAtMost (last_mark y v p) level
last_to x y w v k p level ex ew ek h = rw (sym ex, sym ew, sym ek) h

next_to : (x y w v k p m b : ℕ) (level : MarkValue) → x ≡ y → w ≡ v → k ≡ p → m ≡ b →
    (x < m → IsBelow level (next_mark x w k)) → y < b → IsBelow level (next_mark y v p)
next_to x y w v k p m b level ex ew ek em h = rw (sym ex, sym ew, sym ek, sym em) h

module _ (groups : Groups) (valid : IsInstance groups) (most : List ℕ)
    (mosts : AreMaxTotals groups most) (amounts : List ℕ)
    (is_plan : IsPlan groups amounts) where
  rule : (g : ℕ) → g < length groups.rows
      → get_or most g 0 ≡ capped (limit_of groups g) (want_of groups most g)
  rule = AreMaxTotals-capped groups valid.tree most mosts

  planned : IsPlanning groups most (λ _. true) amounts
  planned = plan-IsPlanning groups valid most rule amounts is_plan

  pub planned_each : length amounts ≡ length groups.rows
  planned_each = planned.one_each

  pub planned_small : (g : ℕ) → g < length amounts → get_or amounts g 0 ≤ MAX_CAPACITY
  planned_small g below = planned.small g (omega (arith, below, planned_each))

  splits : (g : ℕ) → g < length groups.rows → is_leaf groups.rows g ≡ false →
      IsBestSplit (get_or amounts g 0) (child_weights groups.rows g)
      (map (slice_index most) (children_of groups.rows g))
      (map (slice_index amounts) (children_of groups.rows g))
  splits g below inner = planned.splits g below refl inner

  pub planned_sums : (g : ℕ) → g < length groups.rows → is_leaf groups.rows g ≡ false →
      get_or amounts g 0 ≡ sum_by (slice_index amounts) (children_of groups.rows g)
  planned_sums g below inner = sym (splits g below inner).split.whole
      ∙ sum-map (slice_index amounts) (children_of groups.rows g)

  le_most : (g : ℕ) → g < length groups.rows → get_or amounts g 0 ≤ get_or most g 0
  le_most g below = at_most groups valid most rule (λ _. true) g amounts planned (λ p e. refl) below

  -- what the greatest last mark says of the children
  levelled : (g : ℕ) (mark : Mark) → g < length groups.rows → is_leaf groups.rows g ≡ false →
      IsGreatestLast (child_weights groups.rows g)
      (map (slice_index amounts) (children_of groups.rows g)) (price_of mark) →
      IsAtLevel (price_of mark) (child_weights groups.rows g)
      (map (slice_index most) (children_of groups.rows g))
      (map (slice_index amounts) (children_of groups.rows g))
  levelled g mark below inner greatest =
      best-IsAtLevel (get_or amounts g 0) (child_weights groups.rows g)
      (map (slice_index most) (children_of groups.rows g))
      (map (slice_index amounts) (children_of groups.rows g))
      (price_of mark) (splits g below inner)
      (length-map (children_of groups.rows g) (weight_of groups.rows)
      ∙ sym (length-map (children_of groups.rows g) (slice_index amounts)))
      (λ k lt. let w = weights_in_range groups valid g k lt in omega (arith, w.0))
      greatest

  -- The marks of one child against a level, by its place among its siblings.
  at_child : (g c : ℕ) (level : MarkValue) → c < length groups.rows
      → parent_of groups.rows c ≡ Some g
      → IsAtLevel level (child_weights groups.rows g)
      (map (slice_index most) (children_of groups.rows g))
      (map (slice_index amounts) (children_of groups.rows g))
      → (0 < get_or amounts c 0 → IsAtMost (last_mark (get_or amounts c 0)
      (weight_of groups.rows c) (sibling_place groups.rows g c)) level)
      × (get_or amounts c 0 < get_or most c 0 → IsBelow level (next_mark (get_or amounts c 0)
      (weight_of groups.rows c) (sibling_place groups.rows g c)))
  at_child g c level here e at_level =
      let cs : List ℕ = children_of groups.rows g in
      let r : (k : ℕ) × (k < length cs) × (get_or cs k 0 ≡ c) =
      listed_child groups.rows g c here e in
      let place : r.0 ≡ sibling_place groups.rows g c =
      sym (child_at groups.rows g r.0 r.1).place ∙ ap (sibling_place groups.rows g) r.2 in
      let part : get_or (map (slice_index amounts) cs) r.0 0 ≡ get_or amounts c 0 =
      get_or-map (slice_index amounts) cs r.0 r.1 ∙ ap (slice_index amounts) r.2 in
      let bound : get_or (map (slice_index most) cs) r.0 0 ≡ get_or most c 0 =
      get_or-map (slice_index most) cs r.0 r.1 ∙ ap (slice_index most) r.2 in
      let weight : get_or (map (weight_of groups.rows) cs) r.0 0 ≡ weight_of groups.rows c =
      get_or-map (weight_of groups.rows) cs r.0 r.1 ∙ ap (weight_of groups.rows) r.2 in
      let long : length (map (slice_index amounts) cs) ≡ length cs =
      length-map cs (slice_index amounts) in (
        last_to (get_or (map (slice_index amounts) cs) r.0 0) (get_or amounts c 0)
            (get_or (map (weight_of groups.rows) cs) r.0 0) (weight_of groups.rows c)
            r.0 (sibling_place groups.rows g c) level part weight place
            (at_level.last r.0 (omega (arith, r.1, long))),
        next_to (get_or (map (slice_index amounts) cs) r.0 0) (get_or amounts c 0)
            (get_or (map (weight_of groups.rows) cs) r.0 0) (weight_of groups.rows c)
            r.0 (sibling_place groups.rows g c) (get_or (map (slice_index most) cs) r.0 0)
            (get_or most c 0) level part weight place bound
            (at_level.next r.0 (omega (arith, r.1, long))),
      )

  module _ (certificate : Certified) (flags_each : length certificate.tight ≡ length groups.rows)
      (levels_each : length certificate.levels ≡ length groups.rows)
      (tight : (g : ℕ) → g < length groups.rows → is_flagged certificate g ≡ is_tight groups most g)
      (levels : AreLevels groups amounts certificate) where
    given : (g : ℕ) → is_leaf groups.rows g ≡ false → 0 < get_or amounts g 0 → (o : Option Mark)
        → IsLevelAt groups amounts g o → IsSome o
    given g inner some None h =
        absurd (let none : get_or amounts g 0 ≡ 0 = h inner in omega (arith, none, some))
    given g inner some (Some mark) h = search rules

    level_is : (g : ℕ) (level : Mark) → g < length groups.rows → level_at certificate g ≡ Some level
        → IsLevelAt groups amounts g (Some level)
    level_is g level below e =
        subst (λ (o : Option Mark). IsLevelAt groups amounts g o) e (levels g below)

    pub planned-IsCertified : IsCertified groups amounts certificate most
    planned-IsCertified = record {
      amounts_each = planned.one_each;
      flags_each = flags_each;
      levels_each = levels_each;
      within_limit = λ g limit below e.
          let m : get_or amounts g 0 ≤ get_or most g 0 = le_most g below in
          let w : get_or most g 0 ≤ limit =
          most_le_limit groups valid.tree most rule g limit below e in
          omega (arith, m, w);
      within_demand = λ l below leaf.
          let m : get_or amounts l 0 ≤ get_or most l 0 = le_most l below in
          let w : get_or most l 0 ≤ demand_of groups.rows l =
          rw leaf at (most_le_want groups valid.tree most rule l below) in
          omega (arith, m, w);
      sums = planned_sums;
      flags_limited = λ g below flagged.
          some_limit (limit_of groups g) (want_of groups most g) (sym (tight g below) ∙ flagged);
      bounded = record {
        one_each = mosts.one_each;
        each = tight-bound_at groups most certificate rule tight;
      };
      greatest = planned.top;
      level_given = λ g below inner some.
          given g inner some (level_at certificate g) (levels g below);
      last_at_most = λ g c level below here e some is.
          let known : IsLevelAt groups amounts g (Some level) = level_is g level below is in
          (at_child g c (price_of level) here e (levelled g level below known.0 known.2)).0;
      next_above = λ g c level below here e some is.
          let known : IsLevelAt groups amounts g (Some level) = level_is g level below is in
          (at_child g c (price_of level) here e (levelled g level below known.0 known.2)).1;
    }
