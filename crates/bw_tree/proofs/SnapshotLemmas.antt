-- The rows of a tree are an instance.
use Rattle.std.proofs.Common.{◌≡◌, ◌⊎◌, inl, inr, ℕ, suc, zero, ◌<◌, ◌≤◌, Bool, true, false}
use Rattle.std.proofs.Common.{map, subst, ◌==◌, ◌||◌, ◌&&◌, not, List, [], ◌∷◌, length}
use Rattle.std.proofs.Common.{cond, get_or, Option}
use Rattle.std.proofs.Common.{Some, None, is_some, refl, sym, ap, ◌∙◌, arith, eqb, ltb, position}
use Rattle.std.proofs.Common.{zero-add}
use Rattle.std.proofs.lemmas.Bool.{eq-eqb, ne_eqb, lt-ltb, le-ltb, cases_order, cases_lt}
use Rattle.std.proofs.lemmas.List.{get_or-map, length-map}
use Rattle.std.proofs.lemmas.List.FromFn.{get_or-enumerate_from, length-enumerate_from}
use Rattle.std.specs.List.{list_any, list_all, enumerate_from, AllByRecursion, IsDistinct}
use Rattle.std.specs.Map.{keys_of, values_of}
use Rattle.bw_model.specs.declared.row.Row.{Row}
use Rattle.bw_model.specs.Quota.{in_slices, slices_of}
use Rattle.bw_model.specs.declared.limits.TheConstants.{MAX_GROUPS, MIN_WEIGHT, MAX_WEIGHT}
use Rattle.bw_model.specs.declared.limits.TheConstants.{MAX_DEMAND, MAX_DEPTH, MAX_PATH}
use Rattle.bw_model.specs.Groups.{no_row, IsInstance, depth_of, AreTreeRows}
use Rattle.bw_model.specs.Groups.{parent_of as parent_row}
use Rattle.bw_model.specs.Refusal.{is_earlier, are_earlier, depths_of, is_root_limited, refusal}
use Rattle.bw_model.specs.Refusal.{demand_above}
use Rattle.bw_model.specs.Host.{Shape, IsHost}
use Rattle.std.proofs.lemmas.List.FromFn.{get_or-map-range_with_len, length-map-range_with_len}
use Rattle.bw_model.specs.declared.quota.Quota.TheVariants.{Max}
use Rattle.bw_tree.specs.Groups.{GroupFields, TreeState, group_at, has_group, has_children}
use Rattle.bw_tree.specs.Groups.{demand_at, demand_of, above, parent_of, IsTree, IsSound, AllAfter}
use Rattle.bw_tree.specs.Groups.{AreRising}
use Rattle.bw_tree.specs.Snapshot.{row_above, bursting, row_of, rows_of, instance_of}
use Rattle.bw_tree.specs.Tree.{root_group}
use Rattle.bw_tree.proofs.GroupLemmas.{above_more, above_here, some_of}
use Rattle.bw_tree.proofs.RemoveLemmas.{children_found}
use Rattle.bw_tree.proofs.PlaceLemmas.{StandsAt, stands_at, key_there, some_place}
use Rattle.bw_model.proofs.CallerLemmas.{goes_on, earlier-AreTreeRows, refused_none-IsInstance}
use Rattle.bw_model.proofs.CallerLemmas.{depth_of-top, depth_of-step}

-- a test of each element, from a test at each place
pub all_places : {X : Type 0} (p : X → Bool) (xs : List X) (d : X)
    → ((i : ℕ) → i < length xs → p (get_or xs i d) ≡ true) → list_all p xs ≡ true
all_places p [] d h = refl
all_places p (x ∷ xs) d h = ap (λ b. b && list_all p xs) (h 0 (omega arith))
    ∙ all_places p xs d (λ i lt. h (suc i) (omega (arith, lt)))

pub no_place : {X : Type 0} (p : X → Bool) (xs : List X) (d : X)
    → ((i : ℕ) → i < length xs → p (get_or xs i d) ≡ false) → list_any p xs ≡ false
no_place p [] d h = refl
no_place p (x ∷ xs) d h = ap (λ b. b || list_any p xs) (h 0 (omega arith))
    ∙ no_place p xs d (λ i lt. h (suc i) (omega (arith, lt)))

Groups : Type 0
Groups = List (ℕ × GroupFields)

-- the ids rise from place to place
pub after_at : (gs : List (ℕ × GroupFields)) (id i : ℕ) (d : ℕ × GroupFields) → AllAfter id gs
    → i < length gs → id < (get_or gs i d).0
after_at [] id i d all lt = absurd (omega (arith, lt))
after_at (e ∷ es) id zero d all lt = all.0
after_at (e ∷ es) id (suc i) d all lt = after_at es id i d all.1 (omega (arith, lt))

pub rising_at : (gs : List (ℕ × GroupFields)) (i j : ℕ) (d : ℕ × GroupFields) → AreRising gs → i < j
    → j < length gs → (get_or gs i d).0 < (get_or gs j d).0
rising_at [] i j d up lt within = absurd (omega (arith, within))
rising_at (e ∷ es) i zero d up lt within = absurd (omega (arith, lt))
rising_at (e ∷ es) zero (suc j) d up lt within = after_at es e.0 j d up.0 (omega (arith, within))
rising_at (e ∷ es) (suc i) (suc j) d up lt within =
    rising_at es i j d up.1 (omega (arith, lt)) (omega (arith, within))

-- no id is below its place
pub place_le : (gs : List (ℕ × GroupFields)) (i : ℕ) (d : ℕ × GroupFields) → AreRising gs
    → i < length gs → i ≤ (get_or gs i d).0
place_le gs zero d up lt = omega arith
place_le gs (suc i) d up lt =
    let before = place_le gs i d up (omega (arith, lt)) in
    let next = rising_at gs i (suc i) d up (omega arith) lt in
    omega (arith, before, next)

-- the group at a place is found by its id
pub found_at : (gs : List (ℕ × GroupFields)) (i : ℕ) (d : ℕ × GroupFields) → AreRising gs
    → i < length gs
    → group_at gs (get_or gs i d).0 ≡ Some (get_or gs i d).1
found_at [] i d up lt = absurd (omega (arith, lt))
found_at (e ∷ es) zero d up lt = ap (λ b. cond b (Some e.1) (group_at es e.0)) (eq-eqb e.0 e.0 refl)
found_at (e ∷ es) (suc i) d up lt =
    let later = after_at es e.0 i d up.0 (omega (arith, lt)) in
    ap (λ b. cond b (Some e.1) (group_at es (get_or es i d).0))
    (ne_eqb (get_or es i d).0 e.0 (λ same. omega (arith, later, same)))
    ∙ found_at es i d up.1 (omega (arith, lt))

-- an id that is found has a place
pub place_found : (gs : List (ℕ × GroupFields)) (id : ℕ) → has_group gs id ≡ true
    → (i : ℕ) × (position (eqb id) (keys_of gs) ≡ Some i)
place_found gs id there = some_of (position (eqb id) (keys_of gs)) (some_place gs id ∙ there)

-- a key that is read at a place has its place there
pub place_read : (gs : List (ℕ × GroupFields)) (i id : ℕ) → AreRising gs → i < length (keys_of gs)
    → get_or (keys_of gs) i 0 ≡ id
    → position (eqb id) (keys_of gs) ≡ Some i
place_read gs i id up lt read = same (cases_order j.0 i)
  where
    d : ℕ × GroupFields
    d = (0, root_group)

    within : i < length gs
    within = omega (arith, lt, length-map gs (λ (e : ℕ × GroupFields). e.0))

    here : (get_or gs i d).0 ≡ id
    here = sym (get_or-map (λ (e : ℕ × GroupFields). e.0) gs i d 0 within) ∙ read

    j : (k : ℕ) × (position (eqb id) (keys_of gs) ≡ Some k)
    j = place_found gs id (ap (has_group gs) (sym here) ∙ ap is_some (found_at gs i d up within))

    there : StandsAt gs id j.0
    there = stands_at gs id j.0 j.1

    key : (get_or gs j.0 d).0 ≡ id
    key = key_there gs id j.0 d there

    same : (j.0 ≡ i) ⊎ ((j.0 < i) ⊎ (i < j.0)) → position (eqb id) (keys_of gs) ≡ Some i
    same (inl is) = j.1 ∙ ap Some is
    same (inr (inl before)) = let low = rising_at gs j.0 i d up before within in
        absurd (omega (arith, low, key, here))
    same (inr (inr after)) = let high = rising_at gs i j.0 d up after there.within in
        absurd (omega (arith, high, key, here))

-- the values of the group at a place are in range
pub sound_at : (t : TreeState) → IsTree t → (i : ℕ) (x : ℕ × GroupFields) → i < length t.groups
    → x ≡ get_or t.groups i x → IsSound x.1
sound_at t ok i x lt is =
    ok.sound x.0 x.1
    (subst (λ (y : ℕ × GroupFields). group_at t.groups y.0 ≡ Some y.1) (sym is)
    (found_at t.groups i x ok.rising lt))

-- what is made of the group at a place
pub value_at : {X : Type 0} (f : GroupFields → X) (gs : List (ℕ × GroupFields)) (i : ℕ)
    (x : ℕ × GroupFields) (d : X) → i < length gs → x ≡ get_or gs i x
    → f x.1 ≡ get_or (map f (values_of gs)) i d
value_at f [] i x d lt is = absurd (omega (arith, lt))
value_at f (e ∷ es) zero x d lt is = ap (λ (y : ℕ × GroupFields). f y.1) is
value_at f (e ∷ es) (suc i) x d lt is = value_at f es i x d (omega (arith, lt)) is

-- ids that rise are distinct
pub rising_distinct : (gs : List (ℕ × GroupFields)) → AreRising gs → IsDistinct eqb (keys_of gs)
unfolding IsDistinct
rising_distinct [] up = tt
rising_distinct (e ∷ es) up = (others es up.0, rising_distinct es up.1)
  where
    others : (hs : List (ℕ × GroupFields)) → AllAfter e.0 hs
        → AllByRecursion (λ k. eqb e.0 k ≡ false) (keys_of hs)
    others [] all = tt
    others (h ∷ hs) all =
        (ne_eqb e.0 h.0 (λ same. omega (arith, all.0, same)), others hs all.1)

-- the row at a place
pub row_at : (gs : List (ℕ × GroupFields)) (s : Shape) (i : ℕ) (d : ℕ × GroupFields) (r : Row)
    → i < length gs
    → get_or (rows_of gs s) i r ≡ row_of gs s (get_or gs i d).1
row_at gs s i d r within =
    get_or-map (row_of gs s) (values_of gs) i d.1 r
    (omega (arith, within, length-map gs (λ (e : ℕ × GroupFields). e.1)))
    ∙ ap (row_of gs s) (get_or-map (λ (e : ℕ × GroupFields). e.1) gs i d d.1 within)

pub length_rows : (gs : List (ℕ × GroupFields)) (s : Shape) → length (rows_of gs s) ≡ length gs
length_rows gs s = length-map (values_of gs) (row_of gs s)
    ∙ length-map gs (λ (e : ℕ × GroupFields). e.1)

first_limit : (rows : List Row) (r : Row) → 0 < length rows
    → is_root_limited rows ≡ is_some (get_or rows 0 r).limit
first_limit [] r lt = absurd (omega (arith, lt))
first_limit (x ∷ xs) r lt = refl

module _ (t : TreeState) (ok : IsTree t) (d : ℕ × GroupFields) where
  -- the parent stands before
  pub record HasPlace (i p : ℕ) : Type 0 where
    pub place : ℕ
    pub is : position (eqb p) (keys_of t.groups) ≡ Some place
    pub before : place < i
    pub key : (get_or t.groups place d).0 ≡ p

  pub parent_place : (i p : ℕ) → i < length t.groups → (get_or t.groups i d).1.parent ≡ Some p
      → HasPlace i p
  parent_place i p within up =
      let found = found_at t.groups i d ok.rising within in
      let above_it = ok.parents (get_or t.groups i d).0 p (get_or t.groups i d).1 found up in
      let j = place_found t.groups p above_it.1 in
      let there = stands_at t.groups p j.0 j.1 in
      let key = key_there t.groups p j.0 d there in
      record {
        place = j.0;
        is = j.1;
        before = earlier j.0 (cases_order j.0 i) key above_it.0 there.within;
        key = key;
      }
    where
      earlier : (j : ℕ) → (j ≡ i) ⊎ ((j < i) ⊎ (i < j)) → (get_or t.groups j d).0 ≡ p
          → p < (get_or t.groups i d).0 → j < length t.groups → j < i
      earlier j (inl same) key lt there = let e : (get_or t.groups j d).0
          ≡ (get_or t.groups i d).0 = ap (λ k. (get_or t.groups k d).0) same in
          absurd (omega (arith, e, key, lt))
      earlier j (inr (inl before)) key lt there = before
      earlier j (inr (inr after)) key lt there =
          let up = rising_at t.groups i j d ok.rising after there in
          absurd (omega (arith, up, key, lt))

module _ (t : TreeState) (ok : IsTree t) (s : Shape) (d : ℕ × GroupFields) (r : Row) where
  pub earlier_row : (i : ℕ) → i < length t.groups
      → is_earlier i (row_above t.groups (get_or t.groups i d).1.parent) ≡ true
  earlier_row i within = by (get_or t.groups i d).1.parent refl
    where
      by : (o : Option ℕ) → (get_or t.groups i d).1.parent ≡ o
          → is_earlier i (row_above t.groups o) ≡ true
      by None up =
          let root = ok.one_root (get_or t.groups i d).0 (get_or t.groups i d).1
          (found_at t.groups i d ok.rising within) up in
          let low = place_le t.groups i d ok.rising within in
          eq-eqb i 0 (omega (arith, root, low))
      by (Some p) up = let h = parent_place t ok d i p within up in
          ap (is_earlier i) h.is ∙ lt-ltb h.place i h.before

  pub rows_earlier : are_earlier (rows_of t.groups s) ≡ true
  rows_earlier = all_places (λ q. is_earlier q.0 q.1.parent) (enumerate_from 0 (rows_of t.groups s))
      (0, r) (λ i lt.
      let within : i < length t.groups =
      omega (arith, lt, length-enumerate_from 0 (rows_of t.groups s), length_rows t.groups s) in
      let inside : i < length (rows_of t.groups s) =
      omega (arith, within, length_rows t.groups s) in
      let at : get_or (enumerate_from 0 (rows_of t.groups s)) i (0, r)
      ≡ (i, row_of t.groups s (get_or t.groups i d).1) =
      get_or-enumerate_from 0 (rows_of t.groups s) i (0, r) inside
      ∙ ap (λ n. (n, get_or (rows_of t.groups s) i r)) (zero-add i)
      ∙ ap (λ x. (i, x)) (row_at t.groups s i d r within) in
      ap (λ (q : ℕ × Row). is_earlier q.0 q.1.parent) at ∙ earlier_row i within)

  -- the rows are one tree
  pub rows_tree : AreTreeRows (rows_of t.groups s)
  rows_tree =
      let root = ok.root in
      earlier-AreTreeRows (rows_of t.groups s) some_rows rows_earlier
    where
      some_rows : length (rows_of t.groups s) == 0 ≡ false
      some_rows =
          let j = place_found t.groups 0 (ap is_some ok.root.1) in
          let there = stands_at t.groups 0 j.0 j.1 in
          ne_eqb (length (rows_of t.groups s)) 0
          (λ e. omega (arith, e, there.within, length_rows t.groups s))

  -- the row's parent is the parent's place
  pub row_parent : (i : ℕ) → i < length t.groups
      → parent_row (rows_of t.groups s) i ≡ row_above t.groups (get_or t.groups i d).1.parent
  row_parent i within = ap (λ (q : Row). q.parent) (row_at t.groups s i d no_row within)

  -- as many steps lie above a group as its row is deep
  pub steps : (m i : ℕ) → i < length t.groups → m ≤ depth_of (rows_of t.groups s) i
      → is_some (above t.groups m (get_or t.groups i d).0) ≡ true
  steps zero i within le = ap is_some (above_here t.groups (get_or t.groups i d).0)
  steps (suc m) i within le = step i within le (steps m) (get_or t.groups i d).1.parent refl
    where
      step : (i : ℕ) → i < length t.groups → suc m ≤ depth_of (rows_of t.groups s) i
          → ((j : ℕ) → j < length t.groups → m ≤ depth_of (rows_of t.groups s) j
          → is_some (above t.groups m (get_or t.groups j d).0) ≡ true)
          → (o : Option ℕ) → (get_or t.groups i d).1.parent ≡ o
          → is_some (above t.groups (suc m) (get_or t.groups i d).0) ≡ true
      step i within le rest None up =
          let top = depth_of-top (rows_of t.groups s) rows_tree i
          (row_parent i within ∙ ap (row_above t.groups) up) in
          absurd (omega (arith, le, top))
      step i within le rest (Some p) up =
          let h = parent_place t ok d i p within up in
          let one = depth_of-step (rows_of t.groups s) rows_tree i h.place
          (row_parent i within ∙ ap (row_above t.groups) up ∙ h.is) in
          let read : parent_of (group_at t.groups (get_or t.groups i d).0) ≡ Some p =
          ap parent_of (found_at t.groups i d ok.rising within) ∙ up in
          ap is_some (above_more t.groups m (get_or t.groups i d).0 (Some p) read)
          ∙ ap (λ k. is_some (above t.groups m k)) (sym h.key)
          ∙ rest h.place (omega (arith, h.before, within)) (omega (arith, le, one))

  pub rows_shallow : list_any (λ depth. ltb MAX_DEPTH depth) (depths_of (rows_of t.groups s))
      ≡ false
  rows_shallow = no_place (λ depth. ltb MAX_DEPTH depth) (depths_of (rows_of t.groups s)) 0 (λ k lt.
      let inside : k < length (rows_of t.groups s) =
      omega (
        arith,
        lt,
        length-map-range_with_len (depth_of (rows_of t.groups s)) 0
            (length (rows_of t.groups s)),
      ) in
      let within : k < length t.groups = omega (arith, inside, length_rows t.groups s) in
      ap (ltb MAX_DEPTH)
      (get_or-map-range_with_len (depth_of (rows_of t.groups s)) 0 (length (rows_of t.groups s))
      k k 0 inside (zero-add k))
      ∙ low k within (cases_lt MAX_DEPTH (depth_of (rows_of t.groups s) k)))
    where
      low : (k : ℕ) → k < length t.groups → (MAX_DEPTH < depth_of (rows_of t.groups s) k)
          ⊎ (depth_of (rows_of t.groups s) k ≤ MAX_DEPTH)
          → ltb MAX_DEPTH (depth_of (rows_of t.groups s) k) ≡ false
      low k within (inl deep) =
          let there : has_group t.groups (get_or t.groups k d).0 ≡ true =
          ap is_some (found_at t.groups k d ok.rising within) in
          let wrong : true ≡ false = sym (steps MAX_PATH k within (omega (arith, deep)))
          ∙ ap is_some (ok.shallow (get_or t.groups k d).0 there) in
          absurd (cc)
      low k within (inr fine) = le-ltb MAX_DEPTH _ fine

  pub rows_weighted : list_any (λ (q : Row). ltb q.weight MIN_WEIGHT || ltb MAX_WEIGHT q.weight)
      (rows_of t.groups s) ≡ false
  rows_weighted = no_place (λ (q : Row). ltb q.weight MIN_WEIGHT || ltb MAX_WEIGHT q.weight)
      (rows_of t.groups s) r (λ i lt.
      let within : i < length t.groups = omega (arith, lt, length_rows t.groups s) in
      let sound = ok.sound (get_or t.groups i d).0 (get_or t.groups i d).1
      (found_at t.groups i d ok.rising within) in
      ap (λ (q : Row). ltb q.weight MIN_WEIGHT || ltb MAX_WEIGHT q.weight)
      (row_at t.groups s i d r within)
      ∙ ap (λ b. b || ltb MAX_WEIGHT (get_or t.groups i d).1.weight)
      (le-ltb (get_or t.groups i d).1.weight MIN_WEIGHT sound.some_weight)
      ∙ le-ltb MAX_WEIGHT (get_or t.groups i d).1.weight sound.weight)

  pub rows_small : list_any (λ (q : Row). ltb MAX_DEMAND q.demand) (rows_of t.groups s) ≡ false
  rows_small = no_place (λ (q : Row). ltb MAX_DEMAND q.demand) (rows_of t.groups s) r (λ i lt.
      let within : i < length t.groups = omega (arith, lt, length_rows t.groups s) in
      let sound = ok.sound (get_or t.groups i d).0 (get_or t.groups i d).1
      (found_at t.groups i d ok.rising within) in
      ap (λ (q : Row). ltb MAX_DEMAND q.demand) (row_at t.groups s i d r within)
      ∙ le-ltb MAX_DEMAND (get_or t.groups i d).1.demand sound.demand)

  -- a parent has no demand
  pub parent_idle : (i : ℕ) → i < length t.groups
      → demand_above (rows_of t.groups s) (row_above t.groups (get_or t.groups i d).1.parent) ≡ 0
  parent_idle i within = by (get_or t.groups i d).1.parent refl
    where
      by : (o : Option ℕ) → (get_or t.groups i d).1.parent ≡ o
          → demand_above (rows_of t.groups s) (row_above t.groups o) ≡ 0
      by None up = refl
      by (Some p) up =
          let h = parent_place t ok d i p within up in
          let there : h.place < length t.groups = omega (arith, h.before, within) in
          let same : demand_at t.groups p ≡ (get_or t.groups h.place d).1.demand =
          ap (demand_at t.groups) (sym h.key)
          ∙ ap demand_of (found_at t.groups h.place d ok.rising there) in
          let child = children_found t.groups (get_or t.groups i d).0 p (get_or t.groups i d).1
          (found_at t.groups i d ok.rising within) up in
          ap (demand_above (rows_of t.groups s)) h.is
          ∙ ap (λ (q : Row). q.demand) (row_at t.groups s h.place d no_row there) ∙ sym same
          ∙ idle p child (cases_lt 0 (demand_at t.groups p))
        where
          idle : (p : ℕ) → has_children t.groups p ≡ true
              → (0 < demand_at t.groups p) ⊎ (demand_at t.groups p ≤ 0) → demand_at t.groups p ≡ 0
          idle p child (inl some) = let wrong : true ≡ false = sym child ∙ ok.leaves p some in
              absurd (cc)
          idle p child (inr none) = omega (arith, none)

  pub rows_idle : list_any (λ (q : Row). ltb 0 (demand_above (rows_of t.groups s) q.parent))
      (rows_of t.groups s) ≡ false
  rows_idle = no_place (λ (q : Row). ltb 0 (demand_above (rows_of t.groups s) q.parent))
      (rows_of t.groups s) r (λ i lt.
      let within : i < length t.groups = omega (arith, lt, length_rows t.groups s) in
      ap (λ (q : Row). ltb 0 (demand_above (rows_of t.groups s) q.parent))
      (row_at t.groups s i d r within) ∙ ap (ltb 0) (parent_idle i within))

  -- the root stands first
  pub record RootFirst : Type 0 where
    pub some : 0 < length t.groups
    pub key : (get_or t.groups 0 d).0 ≡ 0

  pub root_first : RootFirst
  root_first =
      let j = place_found t.groups 0 (ap is_some ok.root.1) in
      let there = stands_at t.groups 0 j.0 j.1 in
      let key = key_there t.groups 0 j.0 d there in
      let low = place_le t.groups j.0 d ok.rising there.within in
      let zeroth : j.0 ≡ 0 = omega (arith, low, key) in
      record {
        some = omega (arith, there.within);
        key = ap (λ k. (get_or t.groups k d).0) (sym zeroth) ∙ key;
      }

  pub root_free : is_root_limited (rows_of t.groups s) ≡ false
  root_free =
      let root = root_first in
      let inside : 0 < length (rows_of t.groups s) =
      omega (arith, root.some, length_rows t.groups s) in
      let is : (get_or t.groups 0 d).1 ≡ ok.root.0 =
      unwrapped (sym (found_at t.groups 0 d ok.rising root.some) ∙ ap (group_at t.groups) root.key
      ∙ ok.root.1) in
      let quota : (get_or t.groups 0 d).1.quota ≡ Max = ap (λ g. g.quota) is ∙ ok.root.3 in
      first_limit (rows_of t.groups s) r inside
      ∙ ap (λ (q : Row). is_some q.limit) (row_at t.groups s 0 d r root.some)
      ∙ ap (λ q. is_some
      (bursting (get_or t.groups 0 d).1.carry
      (in_slices s (get_or t.groups 0 d).1.period (get_or t.groups 0 d).1.burst)
      (slices_of s (get_or t.groups 0 d).1.period q))) quota
    where
      unwrapped : {A : Type 0} {a b : A} → Some a ≡ Some b → a ≡ b
      unwrapped e = cc

  -- the rows of a tree are an instance
  pub rows_valid : refusal (rows_of t.groups s) ≡ None
  rows_valid =
      let root = root_first in
      goes_on _ _ _
      (le-ltb MAX_GROUPS (length (rows_of t.groups s))
      (omega (arith, ok.count, length_rows t.groups s)))
      (goes_on _ _ _ (ap (λ b. b || not (are_earlier (rows_of t.groups s)))
      (ne_eqb (length (rows_of t.groups s)) 0
      (λ e. omega (arith, e, root.some, length_rows t.groups s))) ∙ ap not rows_earlier)
      (goes_on _ _ _ rows_weighted
      (goes_on _ _ _ rows_shallow
      (goes_on _ _ _ rows_idle
      (goes_on _ _ _ rows_small
      (goes_on _ _ _ root_free refl))))))

-- the rows of a tree, as it is stored, are an instance
pub rows_IsInstance : {t same : TreeState} (equal : same ≡ t) → IsTree same → (shape : Shape)
    → IsHost shape → (rows : List Row) → rows ≡ rows_of t.groups shape
    → IsInstance (record { shape = shape; rows = rows })
rows_IsInstance {t} equal ok shape host rows are =
    subst (λ (rs : List Row). IsInstance (record { shape = shape; rows = rs })) (sym are)
    (refused_none-IsInstance (instance_of t shape) host
    (rows_valid t (subst IsTree equal ok) shape (0, root_group)
    (row_of t.groups shape root_group)))

pub tree_IsInstance : {t same : TreeState} (equal : same ≡ t) → IsTree same → (shape : Shape)
    → IsHost shape → IsInstance (instance_of t shape)
tree_IsInstance {t} equal ok shape host =
    rows_IsInstance equal ok shape host (rows_of t.groups shape) refl
