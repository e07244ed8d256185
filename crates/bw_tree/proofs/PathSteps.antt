-- A group's path from its parent's, by rows: all paths can be spelled in one pass over the rows.
use Rattle.std.proofs.Common.{◌≡◌, ◌≢◌, ℕ, zero, suc, ◌<◌, Bool, true, false, cond, not, [], ◌∷◌}
use Rattle.std.proofs.Common.{◌++◌, List, length, get_or, Option, Some, None, is_some, refl}
use Rattle.std.proofs.Common.{sym, ap, ◌∙◌, arith, eqb}
use Rattle.std.specs.Prelude.{codes}
use Rattle.std.specs.List.{join_with_byte}
use Rattle.std.specs.Map.{keys_of}
use Rattle.std.proofs.lemmas.Bool.{eq-eqb, ne_eqb}
use Rattle.std.proofs.lemmas.List.{get_or-map}
use Rattle.bw_model.proofs.CallerLemmas.{inside}
use Rattle.bw_tree.specs.Groups.{GroupFields, TreeState, group_at, has_group, IsTree}
use Rattle.bw_tree.specs.Paths.{names_to, path_at}
use Rattle.bw_tree.specs.Snapshot.{row_above}
use Rattle.bw_tree.proofs.PlaceLemmas.{stands_at, key_there}
use Rattle.bw_tree.proofs.SnapshotLemmas.{found_at, place_found, place_le, parent_place}
use Rattle.bw_tree.proofs.WayLemmas.{joined_below, joined_first}

-- each key of the groups is a group's
pub row_has_group : (gs : List (ℕ × GroupFields)) (i : ℕ) → i < length (keys_of gs)
    → has_group gs (get_or (keys_of gs) i 0) ≡ true
row_has_group [] i lt = absurd (omega (arith, lt))
row_has_group (e ∷ es) zero lt =
    ap (λ b. is_some (cond b (Some e.1) (group_at es e.0))) (eq-eqb e.0 e.0 refl)
row_has_group (e ∷ es) (suc i) lt =
    onto (eqb (get_or (keys_of es) i 0) e.0) (row_has_group es i (omega (arith, lt)))
  where
    onto : (b : Bool) → has_group es (get_or (keys_of es) i 0) ≡ true
        → is_some (cond b (Some e.1) (group_at es (get_or (keys_of es) i 0))) ≡ true
    onto true there = refl
    onto false there = there

module _ (t : TreeState) (ok : IsTree t) where
  -- the root, where no group is
  other : ℕ × GroupFields
  other = (0, ok.root.0)

  id_is : (g : ℕ) → g < length t.groups
      → get_or (keys_of t.groups) g 0 ≡ (get_or t.groups g other).0
  id_is g within = get_or-map (λ (e : ℕ × GroupFields). e.0) t.groups g other 0 within

  group_is : (g : ℕ) → g < length t.groups
      → group_at t.groups (get_or (keys_of t.groups) g 0) ≡ Some (get_or t.groups g other).1
  group_is g within = ap (group_at t.groups) (id_is g within)
      ∙ found_at t.groups g other ok.rising within

  -- the first row is the root's
  first_id : get_or (keys_of t.groups) 0 0 ≡ 0
  first_id =
      let j = place_found t.groups 0 (ap is_some ok.root.1) in
      let there = stands_at t.groups 0 j.0 j.1 in
      let key = key_there t.groups 0 j.0 other there in
      let low = place_le t.groups j.0 other ok.rising there.within in
      let first : j.0 ≡ 0 = omega (arith, low, key) in
      ap (λ k. get_or (keys_of t.groups) k 0) (sym first) ∙ id_is j.0 there.within ∙ key

  -- and no other is
  later_id : (p : ℕ) → p < length t.groups → p ≢ 0 → get_or (keys_of t.groups) p 0 ≢ 0
  later_id p within later = λ same.
      let low = place_le t.groups p other ok.rising within in
      later (omega (arith, low, id_is p within, same))

  record HasParent (g p : ℕ) (f : GroupFields) : Type 0 where
    parent : f.parent ≡ Some (get_or (keys_of t.groups) p 0)
    before : p < g

  parent_is : (g p : ℕ) (f : GroupFields) → g < length t.groups
      → group_at t.groups (get_or (keys_of t.groups) g 0) ≡ Some f
      → row_above t.groups f.parent ≡ Some p → HasParent g p f
  parent_is g p f within at up = by f.parent refl
    where
      by : (o : Option ℕ) → f.parent ≡ o → HasParent g p f
      by None is = let none : Some p ≡ None = sym up ∙ ap (row_above t.groups) is in absurd (cc)
      by (Some id) is =
          let group : (get_or t.groups g other).1 ≡ f = inside (sym (group_is g within) ∙ at) in
          let h = parent_place t ok other g id within
          (ap (λ (x : GroupFields). x.parent) group ∙ is) in
          let same : h.place ≡ p = inside (sym h.is ∙ sym (ap (row_above t.groups) is) ∙ up) in
          let key : id ≡ get_or (keys_of t.groups) p 0 =
          sym h.key ∙ sym (id_is h.place (omega (arith, h.before, within)))
          ∙ ap (λ k. get_or (keys_of t.groups) k 0) same in
          record { parent = is ∙ ap Some key; before = omega (arith, h.before, same) }

  spelled_as : (id : ℕ) → has_group t.groups id ≡ true → (b : Bool) → eqb id 0 ≡ b
      → path_at t.groups id ≡ cond b (Some (codes "."))
      (Some (join_with_byte 47 (names_to t.groups id)))
  spelled_as id there b top =
      ap (λ k. cond (not k) None
      (cond (eqb id 0) (Some (codes ".")) (Some (join_with_byte 47 (names_to t.groups id)))))
      there
      ∙ ap (λ k. cond k (Some (codes ".")) (Some (join_with_byte 47 (names_to t.groups id)))) top

  -- the path of a group without parent
  pub root_path : (g : ℕ) (f : GroupFields) → g < length t.groups
      → group_at t.groups (get_or (keys_of t.groups) g 0) ≡ Some f
      → row_above t.groups f.parent ≡ None
      → path_at t.groups (get_or (keys_of t.groups) g 0) ≡ Some (codes ".")
  root_path g f within at up = by f.parent refl
    where
      id : ℕ
      id = get_or (keys_of t.groups) g 0

      by : (o : Option ℕ) → f.parent ≡ o → path_at t.groups id ≡ Some (codes ".")
      by None is = let top = ok.one_root id f at is in
          spelled_as id (ap is_some at) true (eq-eqb id 0 top)
      by (Some p) is =
          let j = place_found t.groups p (ok.parents id p f at is).1 in
          let none : None ≡ Some j.0 = sym up ∙ ap (row_above t.groups) is ∙ j.1 in
          absurd (cc)

  -- the path of a child of the first row
  pub first_path : (g p : ℕ) (f : GroupFields) → g < length t.groups
      → group_at t.groups (get_or (keys_of t.groups) g 0) ≡ Some f
      → row_above t.groups f.parent ≡ Some p → p ≡ 0
      → path_at t.groups (get_or (keys_of t.groups) g 0) ≡ Some f.name
  first_path g p f within at up top =
      let id = get_or (keys_of t.groups) g 0 in
      let above = get_or (keys_of t.groups) p 0 in
      let parent = (parent_is g p f within at up).parent in
      let root : above ≡ 0 = ap (λ k. get_or (keys_of t.groups) k 0) top ∙ first_id in
      let lower = (ok.parents id above f at parent).0 in
      spelled_as id (ap is_some at) false (ne_eqb id 0 (λ e. omega (arith, e, lower)))
      ∙ ap Some (joined_first t ok id above f at parent root)

  -- the path of a child of a later row
  pub below_path : (g p : ℕ) (f : GroupFields) (path : List ℕ) → g < length t.groups
      → group_at t.groups (get_or (keys_of t.groups) g 0) ≡ Some f
      → row_above t.groups f.parent ≡ Some p → p ≢ 0
      → path_at t.groups (get_or (keys_of t.groups) p 0) ≡ Some path
      → path_at t.groups (get_or (keys_of t.groups) g 0) ≡ Some (path ++ 47 ∷ f.name)
  below_path g p f path within at up low path_is =
      let id = get_or (keys_of t.groups) g 0 in
      let above = get_or (keys_of t.groups) p 0 in
      let h = parent_is g p f within at up in
      let there = ok.parents id above f at h.parent in
      let inner : above ≢ 0 = later_id p (omega (arith, h.before, within)) low in
      let joined : join_with_byte 47 (names_to t.groups above) ≡ path =
      inside (sym (spelled_as above there.1 false (ne_eqb above 0 inner)) ∙ path_is) in
      let lower = there.0 in
      spelled_as id (ap is_some at) false (ne_eqb id 0 (λ e. omega (arith, e, lower)))
      ∙ ap Some (joined_below t ok id above f at h.parent inner
      ∙ ap (λ (x : List ℕ). x ++ 47 ∷ f.name) joined)
