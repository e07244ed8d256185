-- What a group's children need of one amount, by the columns of all rows.
use Rattle.std.proofs.Common.{◌≡◌, ◌≢◌, ℕ, ◌+◌, ◌<◌, ◌≤◌, List, length, Option}
use Rattle.std.proofs.Common.{None, Some, false, true, get_or, refl, ap, sym, ◌∙◌, arith, inl, inr}
use Rattle.std.proofs.Common.{get_or-set_same, get_or-set_other, true≢false}
use Rattle.std.specs.Prelude.{sum, slice_index, slice_set, min}
use Rattle.std.proofs.lemmas.Bool.{cases_eq, cases_lt, both_ways, cases_Bool}
use Rattle.std.proofs.lemmas.List.{length-map}
use Rattle.std.proofs.lemmas.Option.{same_Some}
use Rattle.std.proofs.lemmas.List.Sums.{sum-map}
use Rattle.bw_model.specs.declared.row.Row.{Row}
use Rattle.bw_model.specs.declared.limits.TheConstants.{MAX_CAPACITY}
use Rattle.bw_model.specs.Groups.{Groups, IsInstance, parent_of, children_of, is_leaf, weight_of}
use Rattle.bw_model.specs.Groups.{sum_of_children, is_child}
use Rattle.bw_model.specs.Plan.{child_weights}
use Rattle.bw_model.proofs.CallerLemmas.{AreMaxTotals-capped, most_le_want, child_at, get_or-map}
use Rattle.bw_model.proofs.CallerLemmas.{parent_lt, listed_child, parent_not_leaf}
use Rattle.bw_model.proofs.CallerLemmas.{is_child_from_parent, parent_from_is_child, is_child_no}
use Rattle.bw_split.specs.Conditions.{CanSplit}
use Rattle.bw_plan.proofs.CallerLemmas.{weights_in_range, few_children}
use Rattle.bw_questions.proofs.changes.Trees.{at_children}
use Rattle.bw_questions.specs.Needs.{AreWithin, IsLeastAmount, IsLeastMeeting}
use Rattle.bw_questions.specs.declared.from_root.meeting.Meeting.{Meeting}
use Rattle.bw_questions.specs.Passes.{AreColumns, AreNeedsBelow, CanShareAt, IsFirst}
use Rattle.bw_questions.specs.Passes.{IsLeastAt, IsLeastThat, IsNeed, IsShared, Suffices, of_children}
use Rattle.bw_questions.specs.Passes.{AreAllNeeds, IsPassed}
use Rattle.bw_questions.proofs.Levels.{part_le_sum}

-- the children of a group as a list of places
module _ (rows : List Row) (g : ℕ) (children : List ℕ) (are : children ≡ children_of rows g) where
  pub children_in : (k : ℕ) → k < length children → get_or children k 0 < length rows
  children_in = rw are (λ k below. (child_at rows g k below).within)

  pub children_differ : (j k : ℕ) → j < k → k < length children
      → get_or children j 0 ≡ get_or children k 0 → ⊥
  children_differ = rw are (λ j k less below same.
      let one = (child_at rows g j (omega (arith, less, below))).place in
      let two = (child_at rows g k below).place in
      let equal : j ≡ k = sym one ∙ rw same two in
      omega (arith, equal, less))

  pub not_listed : (i : ℕ) → ◌≡◌ (is_child rows g i) false → (k : ℕ) → k < length children
      → get_or children k 0 ≡ i → ⊥
  not_listed i other = rw are (λ k below same.
      both_ways (is_child rows g i) other
      (is_child_from_parent rows g i (rw same at (child_at rows g k below).parent)))

module _ (groups : Groups) (valid : IsInstance groups) (tops most goals : List ℕ)
    (columns : AreColumns groups tops most goals) where
  rule_le : (g : ℕ) → g < length groups.rows → is_leaf groups.rows g ≡ false
      → get_or most g 0 ≤ sum_of_children groups.rows most g
  rule_le g below inner =
      rw inner at
      (most_le_want groups valid.tree most
      (AreMaxTotals-capped groups valid.tree most columns.mosts) g below)

  -- What a group can be given can be split among its children.
  pub can_split : (g amount : ℕ) → g < length groups.rows → is_leaf groups.rows g ≡ false
      → amount ≤ get_or most g 0 → amount ≤ MAX_CAPACITY
      → CanSplit amount (child_weights groups.rows g) (of_children groups.rows most g)
  can_split g amount below inner within small =
      let long : length (child_weights groups.rows g) ≡ length (children_of groups.rows g) =
      length-map (children_of groups.rows g) (weight_of groups.rows) in
      let fewer : length (children_of groups.rows g) < length groups.rows =
      few_children groups.rows g valid.tree in
      let whole : sum (of_children groups.rows most g) ≡ sum_of_children groups.rows most g =
      sum-map (slice_index most) (children_of groups.rows g) in
      record {
        one_each = length-map (children_of groups.rows g) (slice_index most) ∙ sym long;
        few = omega (arith, long, fewer, valid.few);
        weights_in_range = weights_in_range groups valid g;
        enough = omega (arith, within, rule_le g below inner, whole);
        small = small;
      }

  -- The children's floors, tops, mosts and needs fit each other.
  pub children_within : (g : ℕ) (needs : List ℕ) → AreNeedsBelow groups.rows most needs g
      → AreWithin (child_weights groups.rows g) (of_children groups.rows tops g)
      (of_children groups.rows most g) (of_children groups.rows needs g)
  children_within g needs below = record {
    tops_each = length-map (children_of groups.rows g) (slice_index tops)
        ∙ sym (length-map (children_of groups.rows g) (weight_of groups.rows));
    needs_each = length-map (children_of groups.rows g) (slice_index needs)
        ∙ sym (length-map (children_of groups.rows g) (weight_of groups.rows));
    rising = λ k k_in.
        let inside : k < length (children_of groups.rows g) =
        omega (arith, k_in, length-map (children_of groups.rows g) (weight_of groups.rows)) in
        rw (
          get_or-map (weight_of groups.rows) (children_of groups.rows g) k inside,
          get_or-map (slice_index tops) (children_of groups.rows g) k inside,
        )
        (columns.rising (get_or (children_of groups.rows g) k 0)
        (child_at groups.rows g k inside).within);
    greatest = λ k k_in.
        let inside : k < length (children_of groups.rows g) =
        omega (arith, k_in, length-map (children_of groups.rows g) (weight_of groups.rows)) in
        rw (get_or-map (slice_index tops) (children_of groups.rows g) k inside)
        (columns.greatest (get_or (children_of groups.rows g) k 0)
        (child_at groups.rows g k inside).within);
    enough = λ k k_in.
        let inside : k < length (children_of groups.rows g) =
        omega (arith, k_in, length-map (children_of groups.rows g) (weight_of groups.rows)) in
        rw (
          get_or-map (slice_index needs) (children_of groups.rows g) k inside,
          get_or-map (slice_index most) (children_of groups.rows g) k inside,
        )
        (below.within (get_or (children_of groups.rows g) k 0)
        (child_at groups.rows g k inside).within (child_at groups.rows g k inside).parent);
  }

  -- The least amount from the first one to the greatest that can be had is the least that suffices.
  pub least_suffices : (g : ℕ) (needs : List ℕ) (first limit : ℕ) → IsFirst most goals g first
      → limit ≡ min (get_or most g 0) MAX_CAPACITY → is_leaf groups.rows g ≡ false
      → (found : Option ℕ)
      → IsLeastAmount (child_weights groups.rows g) (of_children groups.rows tops g)
      (of_children groups.rows most g) (of_children groups.rows needs g) first limit found
      → IsLeastThat (Suffices groups tops most goals needs g) found
  least_suffices g needs first limit is_first is inner None never = λ n s.
      never n (is_first.least n s.goal s.served) (omega (arith, is, s.within, s.small))
      (s.inside inner)
  least_suffices g needs first limit is_first is inner (Some n) found = (
    record {
      goal = omega (arith, is_first.goal, found.0);
      served = λ top. omega (arith, is_first.served top, found.0);
      within = omega (arith, found.1, is);
      small = omega (arith, found.1, is);
      inside = λ _. found.2;
    },
    λ m s. elim (cases_lt m n) [
      | inl less ↦ absurd
          (found.3 m (is_first.least m s.goal s.served) less (s.inside inner))
      | inr fine ↦ fine
    ],
  )

  -- A leaf needs the first amount, if it can be given so much.
  pub leaf_suffices : (g : ℕ) (needs : List ℕ) (first limit : ℕ) → IsFirst most goals g first
      → limit ≡ min (get_or most g 0) MAX_CAPACITY → is_leaf groups.rows g ≡ true
      → first ≤ limit → IsLeastThat (Suffices groups tops most goals needs g) (Some first)
  leaf_suffices g needs first limit is_first is leaf fits = (
    record {
      goal = is_first.goal;
      served = is_first.served;
      within = omega (arith, fits, is);
      small = omega (arith, fits, is);
      inside = λ inner. absurd (true≢false (sym leaf ∙ inner));
    },
    λ m s. is_first.least m s.goal s.served,
  )

  pub leaf_beyond : (g : ℕ) (needs : List ℕ) (first limit : ℕ) → IsFirst most goals g first
      → limit ≡ min (get_or most g 0) MAX_CAPACITY → limit < first
      → IsLeastThat (Suffices groups tops most goals needs g) None
  leaf_beyond g needs first limit is_first is over = λ n s.
      omega (arith, is_first.least n s.goal s.served, s.within, s.small, is, over)

  -- Where the children's needs are equal, so is what suffices.
  pub suffices_as : (needs others : List ℕ) (h n : ℕ)
      → of_children groups.rows others h ≡ of_children groups.rows needs h
      → Suffices groups tops most goals needs h n → Suffices groups tops most goals others h n
  suffices_as needs others h n same s = record {
    goal = s.goal;
    served = s.served;
    within = s.within;
    small = s.small;
    inside = λ inner. rw same (s.inside inner);
  }

  -- A row's children come after it.
  pub children_set : (values : List ℕ) (g x h : ℕ) → g ≤ h
      → of_children groups.rows (slice_set values g x) h ≡ of_children groups.rows values h
  children_set values g x h before =
      at_children groups.rows (slice_index (slice_set values g x)) (slice_index values) h
      (λ c c_in up. get_or-set_other values g c x 0
      (λ same. let after : h < c = parent_lt groups.rows valid.tree c h up in
      let clash : ⊥ = omega (arith, same, after, before) in clash))

  -- The need of a row beside those of the rows after it.
  pub need_set : (needs : List ℕ) (g x : ℕ) → g < length groups.rows
      → length needs ≡ length groups.rows
      → ((h : ℕ) → g + 1 ≤ h → h < length groups.rows
      → IsNeed groups tops most goals needs h)
      → IsLeastThat (Suffices groups tops most goals needs g) (Some x)
      → (h : ℕ) → g ≤ h → h < length groups.rows
      → IsNeed groups tops most goals (slice_set needs g x) h
  need_set needs g x below long later found h from inside = elim (cases_eq h g) [
    | inl here ↦
        let value : get_or (slice_set needs g x) g 0 ≡ x =
        get_or-set_same needs g x 0 (omega (arith, below, long)) in
        rw (here, value) (
          suffices_as needs (slice_set needs g x) g x (children_set needs g x g (omega arith))
              found.0,
          λ n s. found.1 n
              (suffices_as (slice_set needs g x) needs g n
              (sym (children_set needs g x g (omega arith))) s),
        )
    | inr apart ↦
        let value : get_or (slice_set needs g x) h 0 ≡ get_or needs h 0 =
        get_or-set_other needs g h x 0 apart in
        let known : IsNeed groups tops most goals needs h =
        later h (omega (arith, from, apart)) inside in
        rw value (
          suffices_as needs (slice_set needs g x) h (get_or needs h 0)
              (children_set needs g x h from) known.0,
          λ n s. known.1 n
              (suffices_as (slice_set needs g x) needs h n
              (sym (children_set needs g x h from)) s),
        )
  ]

  pub needs_below : (needs : List ℕ) (g : ℕ) → length needs ≡ length groups.rows
      → ((h : ℕ) → g + 1 ≤ h → h < length groups.rows
      → IsNeed groups tops most goals needs h)
      → AreNeedsBelow groups.rows most needs g
  needs_below needs g long later = record {
    one_each = long;
    within = λ c c_in up.
        let after : g < c = parent_lt groups.rows valid.tree c g up in
        (later c (omega (arith, after)) c_in).0.within;
  }

  -- The least weights that meet the needs.
  pub meeting_least : (needs : List ℕ) (g amount : ℕ) (meeting : Meeting)
      → IsLeastMeeting (child_weights groups.rows g) (of_children groups.rows tops g)
      (of_children groups.rows most g) (of_children groups.rows needs g) amount (Some meeting)
      → IsLeastAt groups tops most needs g amount meeting.weights.items meeting.parts.items
  meeting_least needs g amount meeting found = record {
    meets = found.0;
    least = λ others shares meets k k_in.
        found.1 amount others shares (omega arith) meets k
        (omega (arith, k_in, length-map (children_of groups.rows g) (weight_of groups.rows)));
  }

  module _ (needs : List ℕ) (all : AreAllNeeds groups tops most goals needs) (g : ℕ)
      (weights amounts : List ℕ) (so_far : IsPassed groups tops most needs g weights amounts)
      (below : g < length groups.rows) where
    -- A row whose parent has shared out what it has has what it needs, and not more than its most.
    pub given : (needs_here : ℕ) → needs_here ≡ get_or needs g 0
        → (needs_here ≤ get_or amounts g 0) × (get_or amounts g 0 ≤ get_or most g 0)
    given needs_here is = elim (cases_eq g 0) [
      | inl top ↦
          let need : get_or needs g 0 ≤ get_or most g 0 = (all.each g below).0.within in
          let here : get_or amounts g 0 ≡ get_or most g 0 =
          ap (λ h. get_or amounts h 0) top ∙ so_far.top ∙ sym (ap (λ h. get_or most h 0) top) in
          (omega (arith, need, here, is), omega (arith, here))
      | inr deeper ↦
          let known : (p : ℕ) × (parent_of groups.rows g ≡ Some p) × (p < g) =
          valid.tree.parent_before g (omega (arith, deeper)) below in
          let done : IsLeastAt groups tops most needs known.0 (get_or amounts known.0 0)
          (of_children groups.rows weights known.0) (of_children groups.rows amounts known.0) =
          so_far.done known.0 known.2 (omega (arith, known.2, below))
          (parent_not_leaf groups.rows known.0 g below known.1) in
          let place : (k : ℕ) × (k < length (children_of groups.rows known.0))
          × (get_or (children_of groups.rows known.0) k 0 ≡ g) =
          listed_child groups.rows known.0 g below known.1 in
          let inside : place.0 < length (of_children groups.rows amounts known.0) =
          omega (
            arith,
            place.1,
            length-map (children_of groups.rows known.0) (slice_index amounts),
          ) in
          let at_amounts : get_or (of_children groups.rows amounts known.0) place.0 0
          ≡ get_or amounts g 0 =
          get_or-map (slice_index amounts) (children_of groups.rows known.0) place.0 place.1
          ∙ ap (slice_index amounts) place.2 in
          let at_needs : get_or (of_children groups.rows needs known.0) place.0 0
          ≡ get_or needs g 0 =
          get_or-map (slice_index needs) (children_of groups.rows known.0) place.0 place.1
          ∙ ap (slice_index needs) place.2 in
          let at_most : get_or (of_children groups.rows most known.0) place.0 0
          ≡ get_or most g 0 =
          get_or-map (slice_index most) (children_of groups.rows known.0) place.0 place.1
          ∙ ap (slice_index most) place.2 in (
            omega (arith, done.meets.met place.0 inside, at_amounts, at_needs, is),
            omega (arith, done.meets.split.split.within place.0 inside, at_amounts, at_most),
          )
    ]

    pub can_share : is_leaf groups.rows g ≡ false
        → CanShareAt groups tops most needs g (get_or amounts g 0)
    can_share inner = record {
      row = below;
      inner = inner;
      needs_below = needs_below needs g all.one_each (λ h after h_in. all.each h h_in);
      enough = (given (get_or needs g 0) refl).0;
      within = (given (get_or needs g 0) refl).1;
      small = so_far.small g below;
      can = (all.each g below).0.inside inner;
    }

    -- A leaf has nothing to share out.
    pub passed_leaf : is_leaf groups.rows g ≡ true
        → IsPassed groups tops most needs (g + 1) weights amounts
    passed_leaf leaf = record {
      weights_each = so_far.weights_each;
      amounts_each = so_far.amounts_each;
      root_weight = so_far.root_weight;
      top = so_far.top;
      small = so_far.small;
      done = λ h before h_in inner. elim (cases_eq h g) [
        | inl here ↦ absurd
            (true≢false (sym leaf ∙ sym (ap (is_leaf groups.rows) here) ∙ inner))
        | inr apart ↦ so_far.done h (omega (arith, before, apart)) h_in inner
      ];
    }

    -- What a group shares out is new at its children alone.
    pub passed_more : (new_weights new_amounts : List ℕ)
        → IsShared groups tops most needs g weights amounts new_weights new_amounts
        → IsPassed groups tops most needs (g + 1) new_weights new_amounts
    passed_more new_weights new_amounts shared = record {
      weights_each = shared.weights_each;
      amounts_each = shared.amounts_each;
      root_weight = (shared.others 0 (no_child 0 g valid.tree.root_on_top)).0 ∙ so_far.root_weight;
      top = (shared.others 0 (no_child 0 g valid.tree.root_on_top)).1 ∙ so_far.top;
      small = λ h h_in. elim (cases_Bool (is_child groups.rows g h)) [
        | inr no_kid ↦ omega (arith, (shared.others h no_kid).1, so_far.small h h_in)
        | inl kid ↦
            let place : (k : ℕ) × (k < length (children_of groups.rows g))
            × (get_or (children_of groups.rows g) k 0 ≡ h) =
            listed_child groups.rows g h h_in (parent_from_is_child groups.rows g h kid) in
            let here : get_or (of_children groups.rows new_amounts g) place.0 0
            ≡ get_or new_amounts h 0 =
            get_or-map (slice_index new_amounts) (children_of groups.rows g) place.0 place.1
            ∙ ap (slice_index new_amounts) place.2 in
            omega (
              arith,
              here,
              part_le_sum (of_children groups.rows new_amounts g) place.0
                  (omega (
                    arith,
                    place.1,
                    length-map (children_of groups.rows g) (slice_index new_amounts),
                  )),
              shared.here.meets.split.split.whole,
              so_far.small g below,
            )
      ];
      done = λ h before h_in inner. elim (cases_eq h g) [
        | inl here ↦ rw (here, (shared.others g (not_own g)).1) shared.here
        | inr apart ↦
            rw (
              (shared.others h (earlier h (omega (arith, before, apart)))).1,
              kept new_weights weights h apart (λ c no_kid. (shared.others c no_kid).0),
              kept new_amounts amounts h apart (λ c no_kid. (shared.others c no_kid).1),
            )
            (so_far.done h (omega (arith, before, apart)) h_in inner)
      ];
    }
      where
        no_child : (c p : ℕ) → parent_of groups.rows c ≡ None → is_child groups.rows p c ≡ false
        no_child c p none = is_child_no groups.rows p c
            (λ e. let wrong : None ≡ Some p = sym none ∙ e in absurd cc)

        earlier : (h : ℕ) → h < g → is_child groups.rows g h ≡ false
        earlier h less = is_child_no groups.rows g h
            (λ e. let after : g < h = parent_lt groups.rows valid.tree h g e in
            omega (arith, less, after))

        not_own : (h : ℕ) → is_child groups.rows h h ≡ false
        not_own h = is_child_no groups.rows h h
            (λ e. let after : h < h = parent_lt groups.rows valid.tree h h e in
            omega (arith, after))

        kept : (new old : List ℕ) (h : ℕ) → h ≢ g
            → ((c : ℕ) → is_child groups.rows g c ≡ false → get_or new c 0 ≡ get_or old c 0)
            → of_children groups.rows new h ≡ of_children groups.rows old h
        kept new old h apart same =
            at_children groups.rows (slice_index new) (slice_index old) h
            (λ c c_in up. same c (is_child_no groups.rows g c
            (λ e. let both : Some h ≡ Some g = sym up ∙ e in
            let one : h ≡ g = same_Some h g both in absurd (apart one))))
