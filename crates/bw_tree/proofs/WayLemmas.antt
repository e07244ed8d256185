-- The way from the root down to a group: the names on it find the group, and no other names do.
use Rattle.std.proofs.Common.{◌≡◌, ◌≢◌, ℕ, suc, zero, ◌<◌, ◌≤◌, Bool, true, false, cond, ◌&&◌, not}
use Rattle.std.proofs.Common.{List, [], ◌∷◌, ◌++◌, length, Option, Some, None, is_some}
use Rattle.std.proofs.Common.{refl, sym, ap, ◌∙◌, arith, eqb, append_assoc}
use Rattle.std.specs.Prelude.{codes}
use Rattle.std.specs.List.{list_all, All, slice_split, join_with_byte}
use Rattle.std.specs.Str.{bytes_eq}
use Rattle.std.specs.Cmp.Lexicographic.{bytes_decides}
use Rattle.std.proofs.lemmas.Bool.{and_parts, and_from, eq-eqb, ne_eqb, eqb-true}
use Rattle.std.proofs.lemmas.List.{append-nil}
use Rattle.std.proofs.lemmas.List.Sums.{AllPass-from_list_all}
use Rattle.std.proofs.lemmas.List.Folds.{list_all-append}
use Rattle.std.proofs.lemmas.List.Splits.{join_with_byte-slice_split, length-slice_split}
use Rattle.std.proofs.lemmas.List.Splits.{slice_split_none, slice_split_at}
use Rattle.bw_tree.specs.Groups.{GroupFields, TreeState, group_at, has_group, child_of, onward}
use Rattle.bw_tree.specs.Groups.{walk, find_path, is_name, is_name_byte, IsTree}
use Rattle.bw_tree.specs.Paths.{with_name, names_at, names_within, names_to, path_at, IsInverse}
use Rattle.bw_tree.specs.Paths.{AreNamesUnique}
use Rattle.bw_tree.proofs.GroupLemmas.{some_of}
use Rattle.bw_model.proofs.CallerLemmas.{inside}
use Rattle.bw_tree.proofs.IndexLemmas.{child_found, named_is}

-- one step of the way
pub names_more : (groups : List (ℕ × GroupFields)) (steps id : ℕ)
    → names_within (suc steps) groups id ≡ names_at (names_within steps groups) (group_at groups id)
unfolding names_within
names_more groups steps id = refl

pub names_none : (groups : List (ℕ × GroupFields)) (id : ℕ) → names_within zero groups id ≡ []
unfolding names_within
names_none groups id = refl

-- a name has no `/`
pub no_slash : (name : List ℕ) → is_name name ≡ true → All (λ b. eqb b 47 ≡ false) name
no_slash name fits =
    let a = and_parts _ _ fits in
    let b = and_parts _ _ a.0 in
    let d = and_parts _ _ b.0 in
    let each = AllPass-from_list_all is_name_byte name d.1 in
    λ k x within. byte (Rattle.std.specs.List.slice_index_or name k x) (each k x within)
  where
    byte : (b : ℕ) → is_name_byte b ≡ true → eqb b 47 ≡ false
    byte b h =
        let one = and_parts _ _ h in
        let two = and_parts _ _ one.0 in
        negated (eqb b 47) two.0
      where
        negated : (d : Bool) → not d ≡ true → d ≡ false
        negated true e = cc
        negated false e = refl

-- names that are joined and split are the names
pub split_joined : (name : List ℕ) (names : List (List ℕ)) → list_all is_name (name ∷ names) ≡ true
    → slice_split (λ b. eqb b 47) (join_with_byte 47 (name ∷ names)) ≡ name ∷ names
split_joined name [] fit =
    slice_split_none (λ b. eqb b 47) name (no_slash name (and_parts (is_name name) true fit).0)
split_joined name (next ∷ names) fit =
    let both = and_parts (is_name name) (list_all is_name (next ∷ names)) fit in
    slice_split_at (λ b. eqb b 47) name 47 (join_with_byte 47 (next ∷ names)) (no_slash name both.0)
    refl
    ∙ ap (λ parts. name ∷ parts) (split_joined next names both.1)

-- one name more
pub join_push : (first : List ℕ) (names : List (List ℕ)) (name : List ℕ)
    → join_with_byte 47 ((first ∷ names) ++ name ∷ []) ≡ join_with_byte 47 (first ∷ names)
    ++ (47 ∷ name)
join_push first [] name = refl
join_push first (next ∷ names) name =
    ap (λ rest. first ++ (47 ∷ rest)) (join_push next names name)
    ∙ sym (append_assoc first (47 ∷ join_with_byte 47 (next ∷ names)) (47 ∷ name))

-- a walk over more names goes on from where the first of them lead
pub walk_append : (groups : List (ℕ × GroupFields)) (xs ys : List (List ℕ)) (at : ℕ)
    → walk groups at (xs ++ ys) ≡ onward (λ id. walk groups id ys) (walk groups at xs)
walk_append groups [] ys at = refl
walk_append groups (x ∷ xs) ys at = onto (child_of groups at x) (walk_append groups xs ys)
  where
    onto : (o : Option ℕ)
        → ((id : ℕ) → walk groups id (xs ++ ys)
        ≡ onward (λ q. walk groups q ys) (walk groups id xs))
        → onward (λ id. walk groups id (xs ++ ys)) o
        ≡ onward (λ q. walk groups q ys) (onward (λ id. walk groups id xs) o)
    onto None rest = refl
    onto (Some id) rest = rest id

module _ (t : TreeState) (ok : IsTree t) where
  -- no names lead to the root
  pub names_top : (steps id : ℕ) → id ≡ 0 → names_within steps t.groups id ≡ []
  names_top zero id top = names_none t.groups id
  names_top (suc steps) id top =
      names_more t.groups steps id
      ∙ ap (names_at (names_within steps t.groups)) (ap (group_at t.groups) top ∙ ok.root.1)
      ∙ ap (with_name (names_within steps t.groups) ok.root.0.name) ok.root.2

  -- more steps than the id says make no difference
  pub names_enough : (n m id : ℕ) → id ≤ n → id ≤ m
      → names_within n t.groups id ≡ names_within m t.groups id
  names_enough zero m id few many =
      names_none t.groups id ∙ sym (names_top m id (omega (arith, few)))
  names_enough (suc n) zero id few many =
      names_top (suc n) id (omega (arith, many)) ∙ sym (names_none t.groups id)
  names_enough (suc n) (suc m) id few many =
      names_more t.groups n id ∙ onto (names_enough n m) (group_at t.groups id) refl
      ∙ sym (names_more t.groups m id)
    where
      at_parent : ((p : ℕ) → p ≤ n → p ≤ m → names_within n t.groups p ≡ names_within m t.groups p)
          → (g : GroupFields) → group_at t.groups id ≡ Some g
          → (o : Option ℕ) → g.parent ≡ o
          → with_name (names_within n t.groups) g.name o
          ≡ with_name (names_within m t.groups) g.name o
      at_parent rest g at None up = refl
      at_parent rest g at (Some p) up =
          let lower = (ok.parents id p g at up).0 in
          ap (λ names. names ++ g.name ∷ [])
          (rest p (omega (arith, lower, few)) (omega (arith, lower, many)))

      onto : ((p : ℕ) → p ≤ n → p ≤ m → names_within n t.groups p ≡ names_within m t.groups p)
          → (o : Option GroupFields) → group_at t.groups id ≡ o
          → names_at (names_within n t.groups) o ≡ names_at (names_within m t.groups) o
      onto rest None at = refl
      onto rest (Some g) at = at_parent rest g at g.parent refl

  -- a child's names are its parent's and its own
  pub names_step : (id p : ℕ) (g : GroupFields) → group_at t.groups id ≡ Some g → g.parent ≡ Some p
      → names_to t.groups id ≡ names_to t.groups p ++ g.name ∷ []
  names_step id p g at up =
      let lower = (ok.parents id p g at up).0 in
      names_enough id (suc id) id (omega arith) (omega arith) ∙ names_more t.groups id id
      ∙ ap (names_at (names_within id t.groups)) at
      ∙ ap (with_name (names_within id t.groups) g.name) up ∙ ap (λ names. names ++ g.name ∷ [])
      (names_enough id p p (omega (arith, lower)) (omega arith))

  -- each name on the way is a name
  pub names_fit : (steps id : ℕ) → list_all is_name (names_within steps t.groups id) ≡ true
  names_fit zero id = ap (list_all is_name) (names_none t.groups id)
  names_fit (suc steps) id = ap (list_all is_name) (names_more t.groups steps id)
      ∙ onto (names_fit steps) (group_at t.groups id) refl
    where
      at_parent : ((p : ℕ) → list_all is_name (names_within steps t.groups p) ≡ true)
          → (g : GroupFields) → group_at t.groups id ≡ Some g → (o : Option ℕ)
          → g.parent ≡ o
          → list_all is_name (with_name (names_within steps t.groups) g.name o) ≡ true
      at_parent rest g at None up = refl
      at_parent rest g at (Some p) up =
          list_all-append is_name (names_within steps t.groups p) (g.name ∷ [])
          ∙ and_from (list_all is_name (names_within steps t.groups p)) (is_name g.name && true)
          (rest p)
          (and_from (is_name g.name) true (ok.spelled id p g at up) refl)

      onto : ((p : ℕ) → list_all is_name (names_within steps t.groups p) ≡ true)
          → (o : Option GroupFields) → group_at t.groups id ≡ o
          → list_all is_name (names_at (names_within steps t.groups) o) ≡ true
      onto rest None at = refl
      onto rest (Some g) at = at_parent rest g at g.parent refl

  -- a walk ends at a group whose names are those that it began with, and its own
  pub walk_names : (names : List (List ℕ)) (at id : ℕ) → has_group t.groups at ≡ true
      → walk t.groups at names ≡ Some id
      → (names_to t.groups id ≡ names_to t.groups at ++ names) × (has_group t.groups id ≡ true)
  walk_names [] at id there leads =
      let same : at ≡ id = inside leads in (
        ap (names_to t.groups) (sym same) ∙ sym (append-nil (names_to t.groups at)),
        ap (has_group t.groups) (sym same) ∙ there,
      )
  walk_names (name ∷ names) at id there leads =
      onto (child_of t.groups at name) refl leads (walk_names names)
    where
      onto : (o : Option ℕ) → child_of t.groups at name ≡ o
          → onward (λ q. walk t.groups q names) o ≡ Some id
          → ((q k : ℕ) → has_group t.groups q ≡ true → walk t.groups q names ≡ Some k
          → (names_to t.groups k ≡ names_to t.groups q ++ names) × (has_group t.groups k ≡ true))
          → (names_to t.groups id ≡ names_to t.groups at ++ name ∷ names)
          × (has_group t.groups id ≡ true)
      onto None found leads rest = cc
      onto (Some q) found leads rest =
          let h = child_found t.groups at q name ok.rising found in
          let who = named_is h.0 at name h.2 in
          let down = rest q id (ap is_some h.1) leads in
          let step : names_to t.groups q ≡ names_to t.groups at ++ name ∷ [] =
          names_step q at h.0 h.1 who.0 ∙ ap (λ n. names_to t.groups at ++ n ∷ []) who.1 in (
            down.0 ∙ ap (λ xs. xs ++ names) step
                ∙ append_assoc (names_to t.groups at) (name ∷ []) names,
            down.1,
          )

  -- the names on the way to a group lead there
  pub names_lead : (n id : ℕ) → id < n → has_group t.groups id ≡ true
      → walk t.groups 0 (names_to t.groups id) ≡ Some id
  names_lead zero id low there = absurd (omega (arith, low))
  names_lead (suc n) id low there =
      let g = some_of (group_at t.groups id) there in onto (names_lead n) g.0 g.1 g.0.parent refl
    where
      onto : ((p : ℕ) → p < n → has_group t.groups p ≡ true
          → walk t.groups 0 (names_to t.groups p) ≡ Some p) → (g : GroupFields)
          → group_at t.groups id ≡ Some g → (o : Option ℕ) → g.parent ≡ o
          → walk t.groups 0 (names_to t.groups id) ≡ Some id
      onto rest g at None up =
          let top = ok.one_root id g at up in
          ap (walk t.groups 0) (names_top id id top) ∙ ap Some (sym top)
      onto rest g at (Some p) up =
          let above_it = ok.parents id p g at up in
          ap (walk t.groups 0) (names_step id p g at up)
          ∙ walk_append t.groups (names_to t.groups p) (g.name ∷ []) 0
          ∙ ap (onward (λ q. walk t.groups q (g.name ∷ [])))
          (rest p (omega (arith, above_it.0, low)) above_it.1)
          ∙ ap (onward Some) (ok.named id p g at up)

  -- a group below the root has a name
  pub some_names : (id : ℕ) → has_group t.groups id ≡ true → eqb id 0 ≡ false
      → (first : List ℕ) × (rest : List (List ℕ)) × (names_to t.groups id ≡ first ∷ rest)
  some_names id there low = by (names_to t.groups id) refl
    where
      by : (names : List (List ℕ)) → names_to t.groups id ≡ names
          → (first : List ℕ) × (rest : List (List ℕ)) × (names_to t.groups id ≡ first ∷ rest)
      by (first ∷ rest) is = (first, rest, is)
      by [] is =
          let leads : Some 0 ≡ Some id =
          ap (walk t.groups 0) (sym is) ∙ names_lead (suc id) id (omega arith) there in
          let wrong : true ≡ false = sym (eq-eqb id 0 (sym (inside leads))) ∙ low in
          absurd (cc)

  -- the names down to a child, joined
  pub joined_below : (id p : ℕ) (g : GroupFields) → group_at t.groups id ≡ Some g
      → g.parent ≡ Some p → p ≢ 0
      → join_with_byte 47 (names_to t.groups id) ≡ join_with_byte 47 (names_to t.groups p)
      ++ (47 ∷ g.name)
  joined_below id p g at up low =
      let some = some_names p (ok.parents id p g at up).1 (ne_eqb p 0 low) in
      ap (join_with_byte 47) (names_step id p g at up ∙ ap (λ names. names ++ g.name ∷ []) some.2)
      ∙ join_push some.0 some.1 g.name
      ∙ ap (λ names. join_with_byte 47 names ++ (47 ∷ g.name)) (sym some.2)

  pub joined_first : (id p : ℕ) (g : GroupFields) → group_at t.groups id ≡ Some g
      → g.parent ≡ Some p → p ≡ 0
      → join_with_byte 47 (names_to t.groups id) ≡ g.name
  joined_first id p g at up top =
      ap (join_with_byte 47)
      (names_step id p g at up ∙ ap (λ names. names ++ g.name ∷ []) (names_top p p top))

  pub joined_none : (id : ℕ) (g : GroupFields) → group_at t.groups id ≡ Some g → g.parent ≡ None
      → join_with_byte 47 (names_to t.groups id) ≡ []
  joined_none id g at up = ap (join_with_byte 47) (names_top id id (ok.one_root id g at up))

  -- the path of a group finds it
  pub path_leads : (path : List ℕ) (id : ℕ) → path_at t.groups id ≡ Some path
      → find_path t.groups path ≡ Some id
  path_leads path id is = by (has_group t.groups id) refl (eqb id 0) refl is
    where
      low_path : has_group t.groups id ≡ true → eqb id 0 ≡ false
          → join_with_byte 47 (names_to t.groups id) ≡ path → find_path t.groups path ≡ Some id
      low_path there low joined =
          let some = some_names id there low in
          let fit : list_all is_name (some.0 ∷ some.1) ≡ true =
          ap (list_all is_name) (sym some.2) ∙ names_fit id id in
          let parts : slice_split (λ b. eqb b 47) path ≡ some.0 ∷ some.1 =
          ap (slice_split (λ b. eqb b 47)) (sym joined ∙ ap (join_with_byte 47) some.2)
          ∙ split_joined some.0 some.1 fit in
          by_dot (bytes_eq path (codes ".")) refl parts fit
          (ap (walk t.groups 0) (parts ∙ sym some.2)
          ∙ names_lead (suc id) id (omega arith) there)
        where
          by_dot : (b : Bool) → bytes_eq path (codes ".") ≡ b → {first : List ℕ}
              {rest : List (List ℕ)} → slice_split (λ b. eqb b 47) path ≡ first ∷ rest
              → list_all is_name (first ∷ rest) ≡ true
              → walk t.groups 0 (slice_split (λ b. eqb b 47) path) ≡ Some id
              → find_path t.groups path ≡ Some id
          by_dot true dot {first} {rest} parts fit leads =
              let is_dot : path ≡ codes "." = (bytes_decides path (codes ".")).0 dot in
              let wrong : list_all is_name (slice_split (λ b. eqb b 47) (codes ".")) ≡ true =
              ap (λ p. list_all is_name (slice_split (λ b. eqb b 47) p)) (sym is_dot)
              ∙ ap (list_all is_name) parts ∙ fit in
              absurd (cc)
          by_dot false dot parts fit leads =
              ap (λ b. cond b (Some 0) (walk t.groups 0 (slice_split (λ b. eqb b 47) path))) dot
              ∙ leads

      by : (b : Bool) → has_group t.groups id ≡ b → (d : Bool) → eqb id 0 ≡ d
          → cond (not b) None
          (cond d (Some (codes ".")) (Some (join_with_byte 47 (names_to t.groups id))))
          ≡ Some path → find_path t.groups path ≡ Some id
      by false there d top is = cc
      by true there true top is =
          let dot : bytes_eq path (codes ".") ≡ true =
          (bytes_decides path (codes ".")).1 (sym (inside is)) in
          ap (λ b. cond b (Some 0) (walk t.groups 0 (slice_split (λ b. eqb b 47) path))) dot
          ∙ ap Some (sym (eqb-true id 0 top))
      by true there false top is = low_path there top (inside is)

  root_there : has_group t.groups 0 ≡ true
  root_there = ap is_some ok.root.1

  -- a path that finds a group is the group's
  pub found_path : (path : List ℕ) (id : ℕ) → find_path t.groups path ≡ Some id
      → path_at t.groups id ≡ Some path
  found_path path id found = by (bytes_eq path (codes ".")) refl found
    where
      assembled : has_group t.groups id ≡ true → (d : Bool) → eqb id 0 ≡ d
          → path_at t.groups id ≡ cond d (Some (codes "."))
          (Some (join_with_byte 47 (names_to t.groups id)))
      assembled there d top =
          ap (λ b. cond (not b) None
          (cond (eqb id 0) (Some (codes "."))
          (Some (join_with_byte 47 (names_to t.groups id))))) there
          ∙ ap (λ b. cond b (Some (codes ".")) (Some (join_with_byte 47 (names_to t.groups id))))
          top

      low : (d : Bool) → eqb id 0 ≡ d → names_to t.groups id ≡ slice_split (λ b. eqb b 47) path
          → has_group t.groups id ≡ true
          → path_at t.groups id ≡ Some path
      low true top names there =
          let none : [] ≡ slice_split (λ b. eqb b 47) path =
          sym (names_top id id (eqb-true id 0 top)) ∙ names in
          let long = length-slice_split (λ b. eqb b 47) path in
          absurd (omega (arith, ap length none, long))
      low false top names there = assembled there false top
          ∙ ap Some (ap (join_with_byte 47) names ∙ join_with_byte-slice_split 47 path)

      by : (b : Bool) → bytes_eq path (codes ".") ≡ b
          → cond b (Some 0) (walk t.groups 0 (slice_split (λ b. eqb b 47) path)) ≡ Some id
          → path_at t.groups id ≡ Some path
      by true dot found =
          let top : id ≡ 0 = sym (inside found) in
          assembled (ap (has_group t.groups) top ∙ root_there) true (eq-eqb id 0 top)
          ∙ ap Some (sym ((bytes_decides path (codes ".")).0 dot))
      by false dot found =
          let led = walk_names (slice_split (λ b. eqb b 47) path) 0 id root_there found in
          low (eqb id 0) refl
          (led.0 ∙ ap (λ names. names ++ slice_split (λ b. eqb b 47) path) (names_top 0 0 refl))
          led.1

  pub inverse : IsInverse t.groups
  inverse = λ path id. (found_path path id, path_leads path id)

  pub names_unique : AreNamesUnique t.groups
  names_unique = λ a b g h parent at_a at_b up_a up_b same.
      inside (sym (ok.named a parent g at_a up_a) ∙ ap (child_of t.groups parent) same
      ∙ ok.named b parent h at_b up_b)
