-- What a walk from the root down has shared out, group by group, is the plan at its end.
use Rattle.std.proofs.Common.{rules, ◌≡◌, ℕ, zero, suc, ◌<◌, ◌≤◌, List, [], ◌∷◌, Bool, true, false}
use Rattle.std.proofs.Common.{true≢false, ◌||◌, eqb, ltb, Some, None, length, get_or, set}
use Rattle.std.proofs.Common.{replicate, refl, ap, sym, ◌∙◌, arith, inl, inr}
use Rattle.std.specs.Prelude.{All, sum, slice_index, map, filter, min}
use Rattle.std.specs.List.{range_with_len}
use Rattle.std.proofs.lemmas.Bool.{cases_Bool, cases_eq, cases_lt, eq-eqb, ne_eqb, eqb-true}
use Rattle.std.proofs.lemmas.Bool.{ltb-true, lt-ltb, le-ltb, or_cases, or_parts}
use Rattle.std.proofs.lemmas.List.{get_or-set_same, get_or-set_other, length-replicate, length-map}
use Rattle.std.proofs.lemmas.List.Sums.{get_or-le-sum_by, sum-map}
use Rattle.std.proofs.lemmas.List.FromFn.{length-range_with_len}
use Rattle.std.proofs.Math.ListN.{length-set}
use Rattle.bw_model.specs.declared.row.Row.{Row}
use Rattle.bw_model.specs.Groups.{Groups, AreTreeRows, IsInstance, parent_of, is_child, children_of}
use Rattle.bw_model.specs.Groups.{is_leaf, limit_of, weight_of, sum_of_children}
use Rattle.bw_model.specs.declared.limits.TheConstants.{MIN_WEIGHT, MAX_WEIGHT, MAX_CAPACITY}
use Rattle.bw_model.specs.declared.limits.TheConstants.{MAX_GROUPS}
use Rattle.bw_model.specs.Host.{capacity_of}
use Rattle.bw_model.specs.Plan.{child_weights, IsPlan}
use Rattle.bw_model.specs.Demand.{want_of}
use Rattle.bw_model.specs.Split.{IsBestSplit}
use Rattle.bw_split.specs.Conditions.{CanSplit, cut_at}
use Rattle.bw_split.proofs.CallerLemmas.{cut-CanSplit, cut-IsBestSplit}
use Rattle.bw_plan.specs.Shared.{IsShared, IsPlanning, CanShare, AreBestParts, AreParts, IsGiven}
use Rattle.bw_plan.proofs.NoSearchNeeded.{given-IsShared, given-leaf}
use Rattle.bw_model.proofs.CallerLemmas.{capacity_le, parent_lt, is_child_no, parent_from_is_child}
use Rattle.bw_model.proofs.CallerLemmas.{child_at, get_or-map, same_map, listed_child}
use Rattle.bw_model.proofs.CallerLemmas.{parent_not_leaf, part_le_most, planned-IsPlan, capped, most_le_want}
use Rattle.bw_model.proofs.CallerLemmas.{most_le_limit, zeros}
use Rattle.bw_demand.proofs.CallerLemmas.{passing_few}
use Rattle.std.proofs.lemmas.Option.{same_Some}

some_none : (p : ℕ) → Some p ≡ None → ⊥
some_none p e = cc

-- images written out
pub map_is : (f : ℕ → ℕ) (xs ys : List ℕ) → length ys ≡ length xs
    → ((k : ℕ) → k < length xs → f (get_or xs k 0) ≡ get_or ys k 0) → map f xs ≡ ys
map_is f [] [] e h = refl
map_is f [] (y ∷ ys) e h = absurd (omega arith)
map_is f (x ∷ xs) [] e h = absurd (omega arith)
map_is f (x ∷ xs) (y ∷ ys) e h =
    let head : f x ≡ y = h 0 (omega arith) in
    let rest : map f xs ≡ ys = map_is f xs ys (omega arith) (λ k below. h (suc k) (omega arith)) in
    cc

-- two children at different places differ
pub children_apart : (rows : List Row) (g j k : ℕ) → j < k → k < length (children_of rows g)
    → get_or (children_of rows g) j 0 ≡ get_or (children_of rows g) k 0 → ⊥
children_apart rows g j k lt below e =
    let one = (child_at rows g j (omega arith)).place in
    let two = (child_at rows g k below).place in
    let same : j ≡ k = sym one ∙ rw e two in
    omega arith

-- the children of a group have weights in range
pub weights_in_range : (groups : Groups) → IsInstance groups → (g k : ℕ)
    → k < length (child_weights groups.rows g) →
    (MIN_WEIGHT ≤ get_or (child_weights groups.rows g) k 0)
    × (get_or (child_weights groups.rows g) k 0 ≤ MAX_WEIGHT)
weights_in_range groups valid g k below =
    let inside : k < length (children_of groups.rows g) =
    omega (arith, below, length-map (children_of groups.rows g) (weight_of groups.rows)) in
    let w = valid.weights (get_or (children_of groups.rows g) k 0)
    (child_at groups.rows g k inside).within in
    rw (get_or-map (weight_of groups.rows) (children_of groups.rows g) k inside) w

-- the rows before g
abbrev pub rows_before : ℕ → ℕ → Bool
rows_before g h = ltb h g

-- the rows before the next one
pub before_next : (h g : ℕ) → ltb h (suc g) ≡ (ltb h g || eqb g h)
before_next h g = elim (cases_lt h g) [
  | inl lt ↦ lt-ltb h (suc g) (omega arith) ∙ sym (rw (lt-ltb h g lt) refl)
  | inr le ↦ elim (cases_eq g h) [
    | inl same ↦ lt-ltb h (suc g) (omega (arith, same))
        ∙ sym (rw (le-ltb h g le, eq-eqb g h same) refl)
    | inr other ↦ le-ltb h (suc g) (omega (arith, other))
        ∙ sym (rw (le-ltb h g le, ne_eqb g h other) refl)
  ]
]

module _ (groups : Groups) (valid : IsInstance groups) (most : List ℕ)
    (rule : (g : ℕ) → g < length groups.rows
    → get_or most g 0 ≡ capped (limit_of groups g) (want_of groups most g)) where
  root_small : get_or most 0 0 ≤ MAX_CAPACITY
  root_small =
      let c : get_or most 0 0 ≤ capacity_of groups.shape =
      most_le_limit groups valid.tree most rule 0 (capacity_of groups.shape) valid.tree.has_root
      refl in
      let s : capacity_of groups.shape ≤ MAX_CAPACITY = capacity_le groups.shape valid.host in
      omega (arith, c, s)

  -- the root has its most
  pub begun : (done : ℕ → Bool) → ((h : ℕ) → h < length groups.rows → done h ≡ false) →
      (n v : ℕ) (amounts : List ℕ) → n ≡ length groups.rows → v ≡ get_or most 0 0
      → amounts ≡ set (replicate {A = ℕ} n 0) 0 v
      → IsPlanning groups most done amounts
  begun done none n v amounts en ev ea =
      let root : 0 < length groups.rows = valid.tree.has_root in
      let long : length (replicate {A = ℕ} n 0) ≡ n = length-replicate {A = ℕ} n 0 in
      let top' : get_or (set (replicate {A = ℕ} n 0) 0 v) 0 0
      ≡ v = get_or-set_same (replicate {A = ℕ} n 0) 0 v 0 (omega (arith, root, long, en)) in
      rw ea (record {
        one_each = length-set (replicate {A = ℕ} n 0) 0 v ∙ long ∙ en;
        top = top' ∙ ev;
        splits = λ h below e inner. absurd (true≢false (sym e ∙ none h below));
        small = λ h below. elim (cases_eq h 0) [
          | inl same ↦ rw same (omega (arith, top', ev, root_small))
          | inr other ↦
              omega (arith, get_or-set_other (replicate {A = ℕ} n 0) 0 h v 0 other, zeros n h)
        ];
        unshared = λ c p below e unshared_yet. elim (cases_eq c 0) [
          | inl top'' ↦
              absurd (some_none p
              (sym (ap (parent_of groups.rows) (sym top'') ∙ e) ∙ valid.tree.root_on_top))
          | inr other ↦ get_or-set_other (replicate {A = ℕ} n 0) 0 c v 0 other ∙ zeros n c
        ];
      })

  -- the same groups are done
  pub same_done : (done next : ℕ → Bool) (amounts : List ℕ)
      → ((h : ℕ) → h < length groups.rows → next h ≡ done h) →
      IsPlanning groups most done amounts → IsPlanning groups most next amounts
  same_done done next amounts same so_far = record {
    one_each = so_far.one_each;
    top = so_far.top;
    splits = λ h below e inner. so_far.splits h below (sym (same h below) ∙ e) inner;
    small = so_far.small;
    unshared = λ c p below e unshared_yet.
        let up : p < c = parent_lt groups.rows valid.tree c p e in
        so_far.unshared c p below e (sym (same p (omega (arith, up, below))) ∙ unshared_yet);
  }

  -- a group whose parent is done has at most its most
  pub at_most : (done : ℕ → Bool) (h : ℕ) (amounts : List ℕ) → IsPlanning groups most done amounts →
      ((p : ℕ) → parent_of groups.rows h ≡ Some p → done p ≡ true) → h < length groups.rows
      → get_or amounts h 0 ≤ get_or most h 0
  at_most done h amounts so_far above below = elim (cases_eq h 0) [
    | inl root ↦ rw root (omega (arith, so_far.top))
    | inr lower ↦
        let known : (p : ℕ) × (parent_of groups.rows h ≡ Some p) × (p < h) =
        valid.tree.parent_before h (omega (arith, lower)) below in
        let up : known.0 < length groups.rows = omega (arith, known.2, below) in
        part_le_most groups.rows amounts most known.0 h below known.1
        (so_far.splits known.0 up (above known.0 known.1)
        (parent_not_leaf groups.rows known.0 h below known.1)).split.within
  ]

  -- and at most what its children can be given
  pub enough : (done : ℕ → Bool) (g : ℕ) (amounts : List ℕ) → g < length groups.rows
      → is_leaf groups.rows g ≡ false → IsPlanning groups most done amounts →
      ((p : ℕ) → parent_of groups.rows g ≡ Some p → done p ≡ true)
      → get_or amounts g 0 ≤ sum_of_children groups.rows most g
  enough done g amounts below inner so_far above =
      let w : get_or most g 0 ≤ sum_of_children groups.rows most g =
      rw inner at (most_le_want groups valid.tree most rule g below) in
      let m : get_or amounts g 0 ≤ get_or most g 0 = at_most done g amounts so_far above below in
      omega (arith, w, m)

  pub can_share : length most ≡ length groups.rows → (done : ℕ → Bool) (g : ℕ) (amounts : List ℕ)
      → g < length groups.rows → IsPlanning groups most done amounts →
      ((p : ℕ) → parent_of groups.rows g ≡ Some p → done p ≡ true) → CanShare groups most amounts g
  can_share most_each done g amounts below so_far above = record {
    most_each = most_each;
    amount_each = so_far.one_each;
    row = below;
    enough = λ inner. enough done g amounts below inner so_far above;
    small = so_far.small g below;
  }

  -- one group more, whose parent is done, as are the parents of all that are
  module _ (done next : ℕ → Bool) (g : ℕ) (below : g < length groups.rows) (fresh : done g ≡ false)
      (marks : (h : ℕ) → h < length groups.rows → next h ≡ (done h || eqb g h))
      (closed : (h p : ℕ) → h < length groups.rows → done h ≡ true
      → parent_of groups.rows h ≡ Some p → done p ≡ true) where
    was_done : (h : ℕ) → h < length groups.rows → next h ≡ true → (h ≡ g → ⊥) → done h ≡ true
    was_done h lt e other = elim (or_cases (done h) (eqb g h) (sym (marks h lt) ∙ e)) [
      | inl yes' ↦ yes'
      | inr same ↦ absurd (other (sym (eqb-true g h same)))
    ]

    not_done : (h : ℕ) → h < length groups.rows → next h ≡ false → (done h ≡ false) × (h ≡ g → ⊥)
    not_done h lt e =
        let both : (done h ≡ false) × (eqb g h ≡ false) =
        or_parts (done h) (eqb g h) (sym (marks h lt) ∙ e) in
        (both.0, λ same. true≢false (sym (eq-eqb g h (sym same)) ∙ both.1))

    pub shared_more : (before after : List ℕ) → IsPlanning groups most done before
        → IsShared groups most g before after →
        IsPlanning groups most next after
    shared_more before after so_far shared = record {
      one_each = shared.one_each;
      top = shared.others 0 valid.tree.has_root
          (is_child_no groups.rows g 0 (λ e. some_none g (sym e ∙ valid.tree.root_on_top)))
          ∙ so_far.top;
      splits = λ h here e inner. elim (cases_eq h g) [
        | inl same ↦ rw (same, own_kept) shared.split
        | inr other ↦ rw (kept h here (was_done h here e other), kept_children h other)
            (so_far.splits h here (was_done h here e other) inner)
      ];
      small = λ h here. elim (cases_Bool (is_child groups.rows g h)) [
        | inr no' ↦ rw (shared.others h here no') (so_far.small h here)
        | inl child ↦ child_small h here (parent_from_is_child groups.rows g h child)
      ];
      unshared = λ c p here e unshared_yet.
          let up : p < c = parent_lt groups.rows valid.tree c p e in
          let was : (done p ≡ false) × (p ≡ g → ⊥) =
          not_done p (omega (arith, up, here)) unshared_yet in
          shared.others c here
          (is_child_no groups.rows g c (λ f. was.1 (same_Some p g (sym e ∙ f))))
          ∙ so_far.unshared c p here e was.0;
    }
      where
        own_kept : get_or after g 0 ≡ get_or before g 0
        own_kept = shared.others g below
            (is_child_no groups.rows g g (λ e. let up : g < g =
            parent_lt groups.rows valid.tree g g e in omega arith))

        kept : (h : ℕ) → h < length groups.rows → done h ≡ true
            → get_or after h 0 ≡ get_or before h 0
        kept h here yes' = shared.others h here
            (is_child_no groups.rows g h (λ e. true≢false (sym (closed h g here yes' e) ∙ fresh)))

        kept_children : (h : ℕ) → (h ≡ g → ⊥) → map (slice_index after) (children_of groups.rows h)
            ≡ map (slice_index before) (children_of groups.rows h)
        kept_children h other = same_map (slice_index after) (slice_index before)
            (children_of groups.rows h) (λ k inside.
            shared.others (get_or (children_of groups.rows h) k 0)
            (child_at groups.rows h k inside).within
            (is_child_no groups.rows g (get_or (children_of groups.rows h) k 0)
            (λ e. other (same_Some h g (sym (child_at groups.rows h k inside).parent ∙ e)))))

        child_small : (h : ℕ) → h < length groups.rows → parent_of groups.rows h ≡ Some g
            → get_or after h 0 ≤ MAX_CAPACITY
        child_small h here e =
            let cs : List ℕ = children_of groups.rows g in
            let r : (k : ℕ) × (k < length cs) × (get_or cs k 0 ≡ h) =
            listed_child groups.rows g h here e in
            let parts : length (map (slice_index after) cs) ≡ length cs =
            length-map cs (slice_index after) in
            let term : get_or (map (slice_index after) cs) r.0 0
            ≤ sum (map (slice_index after) cs) =
            get_or-le-sum_by (λ n. n) (map (slice_index after) cs) r.0 0
            (omega (arith, r.1, parts)) in
            let is : get_or (map (slice_index after) cs) r.0 0 ≡ get_or after h 0 =
            get_or-map (slice_index after) cs r.0 r.1 ∙ ap (slice_index after) r.2 in
            let whole : sum (map (slice_index after) cs) ≡ get_or before g 0 =
            shared.split.split.whole in
            omega (arith, term, is, whole, so_far.small g below)

    -- a leaf shares out nothing
    pub leaf_more : (amounts : List ℕ) → is_leaf groups.rows g ≡ true
        → IsPlanning groups most done amounts → IsPlanning groups most next amounts
    leaf_more amounts leaf so_far = record {
      one_each = so_far.one_each;
      top = so_far.top;
      splits = λ h here e inner. elim (cases_eq h g) [
        | inl same ↦ absurd (true≢false (sym leaf ∙ ap (is_leaf groups.rows) (sym same) ∙ inner))
        | inr other ↦ so_far.splits h here (was_done h here e other) inner
      ];
      small = so_far.small;
      unshared = λ c p here e unshared_yet.
          let up : p < c = parent_lt groups.rows valid.tree c p e in
          so_far.unshared c p here e (not_done p (omega (arith, up, here)) unshared_yet).0;
    }

    -- by what it has given
    module _ (above : (p : ℕ) → parent_of groups.rows g ≡ Some p → done p ≡ true) where
      pub given_more : (parts before after : List ℕ) → IsPlanning groups most done before
          → AreParts groups most before g parts →
          IsGiven groups.rows g parts before after → IsPlanning groups most next after
      given_more parts before after so_far are_parts given =
          elim (cases_Bool (is_leaf groups.rows g)) [
            | inl leaf ↦ rw (given-leaf groups.rows g parts before after leaf so_far.one_each given)
                (leaf_more before leaf so_far)
            | inr inner ↦ shared_more before after so_far
                (given-IsShared groups most g parts before after inner so_far.one_each
                (enough done g before below inner so_far above)
                (λ c lt e. so_far.unshared c g lt e fresh) are_parts given)
          ]

  -- all is shared out
  pub all_planned : (done : ℕ → Bool) (amounts : List ℕ)
      → ((h : ℕ) → h < length groups.rows → is_leaf groups.rows h ≡ false → done h ≡ true)
      → IsPlanning groups most done amounts → IsPlan groups amounts
  all_planned done amounts all so_far =
      planned-IsPlan groups valid.tree most rule amounts so_far.one_each so_far.top
      (λ h here inner. so_far.splits h here (all h here inner) inner)

-- the rows are done in order
module _ (groups : Groups) (tree : AreTreeRows groups.rows) (g : ℕ) where
  pub next_fresh : rows_before g g ≡ false
  next_fresh = le-ltb g g (omega arith)

  pub next_marks : (h : ℕ) → h < length groups.rows
      → rows_before (suc g) h ≡ (rows_before g h || eqb g h)
  next_marks h _ = before_next h g

  pub before_closed : (h p : ℕ) → h < length groups.rows → rows_before g h ≡ true
      → parent_of groups.rows h ≡ Some p → rows_before g p ≡ true
  before_closed h p _ e up =
      let lt : h < g = ltb-true h g e in
      let above : p < h = parent_lt groups.rows tree h p up in
      lt-ltb p g (omega (arith, lt, above))

  pub parent_done : (p : ℕ) → parent_of groups.rows g ≡ Some p → rows_before g p ≡ true
  parent_done p up = lt-ltb p g (parent_lt groups.rows tree g p up)

pub all_below : (n : ℕ) (xs : List ℕ) → ((k : ℕ) → k < length xs → get_or xs k 0 < n)
    → All (λ x. x < n) xs
all_below n [] h = search rules
all_below n (x ∷ xs) h =
    let head : x < n = h 0 (omega arith) in
    let rest : All (λ x. x < n) xs = all_below n xs (λ k below. h (suc k) (omega arith)) in
    search rules

-- the children of a group are rows
pub children_within : (rows : List Row) (g : ℕ) (children : List ℕ) → children ≡ children_of rows g
    →
    (k : ℕ) → k < length children → get_or children k 0 < length rows
children_within rows g children e = rw e (λ k below. (child_at rows g k below).within)

-- the root is no child, so there are fewer children than groups
pub few_children : (rows : List Row) (g : ℕ) → AreTreeRows rows
    → length (children_of rows g) < length rows
unfolding children_of
few_children rows g tree = by (length rows) refl
  where
    by : (n : ℕ) → length rows ≡ n → length (filter (is_child rows g) (range_with_len 0 n)) < n
    by zero e = absurd (omega (arith, e, tree.has_root))
    by (suc n) e =
        let top : is_child rows g 0 ≡ false =
        is_child_no rows g 0 (λ e. let wrong : None ≡ Some g =
        sym tree.root_on_top ∙ e in absurd cc) in
        let rest : length (filter (is_child rows g) (range_with_len 1 n))
        ≤ length (range_with_len 1 n) = passing_few (is_child rows g) (range_with_len 1 n) in
        rw top (omega (arith, rest, length-range_with_len 1 n))

-- what a group has can be split among its children
pub children-CanSplit : (groups : Groups) → IsInstance groups
    → (most : List ℕ) (g amount : ℕ) (ws ms : List ℕ) →
    ws ≡ child_weights groups.rows g → ms ≡ map (slice_index most) (children_of groups.rows g) →
    amount ≤ sum_of_children groups.rows most g → amount ≤ MAX_CAPACITY → CanSplit amount ws ms
children-CanSplit groups valid most g amount ws ms ew em enough small =
    let long : length ws ≡ length (children_of groups.rows g) =
    ap length ew ∙ length-map (children_of groups.rows g) (weight_of groups.rows) in
    let le : length (children_of groups.rows g) < length groups.rows =
    few_children groups.rows g valid.tree in
    let few : length groups.rows ≤ MAX_GROUPS = valid.few in
    let whole : sum ms ≡ sum_of_children groups.rows most g =
    ap sum em ∙ sum-map (slice_index most) (children_of groups.rows g) in
    record {
      one_each = ap length em ∙ length-map (children_of groups.rows g) (slice_index most)
          ∙ sym long;
      few = omega (arith, long, le, few);
      weights_in_range = rw ew (weights_in_range groups valid g);
      enough = omega (arith, enough, whole);
      small = small;
    }

-- values that are cut one by one, and a list that is cut
cut_one_by_one : (bound : ℕ) (f : ℕ → ℕ) (xs : List ℕ)
    → map (λ x. min (f x) bound) xs ≡ cut_at bound (map f xs)
cut_one_by_one bound f [] = refl
cut_one_by_one bound f (x ∷ xs) = let rest = cut_one_by_one bound f xs in cc

-- a group with children can split what it has among mosts that are cut at it
pub children-CutSplit : (groups : Groups) → IsInstance groups
    → (most amounts : List ℕ) (g amount : ℕ) (ws ms : List ℕ) → CanShare groups most amounts g
    → is_leaf groups.rows g ≡ false → amount ≡ get_or amounts g 0 →
    ws ≡ child_weights groups.rows g →
    ms ≡ map (λ child. min (slice_index most child) amount) (children_of groups.rows g)
    → CanSplit amount ws ms
children-CutSplit groups valid most amounts g amount ws ms share inner has ew em =
    let mosts = map (slice_index most) (children_of groups.rows g) in
    let enough = share.enough inner in
    let can : CanSplit amount ws mosts =
    children-CanSplit groups valid most g amount ws mosts ew refl (omega (arith, enough, has))
    (omega (arith, share.small, has)) in
    rw (em ∙ cut_one_by_one amount (slice_index most) (children_of groups.rows g))
    (cut-CanSplit amount ws mosts can)

-- the best split among mosts that are cut at the amount
pub cut-AreBestParts : (groups : Groups) (most amounts : List ℕ) (g amount : ℕ)
    (ws ms parts : List ℕ) → amount ≡ get_or amounts g 0 → ws ≡ child_weights groups.rows g →
    ms ≡ map (λ child. min (slice_index most child) amount) (children_of groups.rows g) →
    IsBestSplit amount ws ms parts → AreBestParts groups most amounts g parts
cut-AreBestParts groups most amounts g amount ws ms parts has ew em best =
    let mosts = map (slice_index most) (children_of groups.rows g) in
    let cut : ms ≡ cut_at amount mosts =
    em ∙ cut_one_by_one amount (slice_index most) (children_of groups.rows g) in
    let same : IsBestSplit amount (child_weights groups.rows g) (cut_at amount mosts) parts =
    rw (ew, cut) at best in
    let whole : IsBestSplit amount (child_weights groups.rows g) mosts parts =
    cut-IsBestSplit amount (child_weights groups.rows g) mosts parts same in
    rw has at whole
