-- The index of children, after each change of the groups.
use Rattle.std.proofs.Common.{◌≡◌, ◌≢◌, ◌⊎◌, inl, inr, ℕ, ◌<◌, Bool, true, false, cond}
use Rattle.std.proofs.Common.{◌&&◌, ◌||◌, List, [], ◌∷◌, ◌++◌, Option, Some, None, refl}
use Rattle.std.proofs.Common.{sym, ap, ◌∙◌}
use Rattle.std.proofs.Common.{arith, eqb}
use Rattle.std.proofs.lemmas.Bool.{and_parts, and_from, eq-eqb, ne_eqb, eqb-true}
use Rattle.std.proofs.lemmas.Bool.Decides.{eqb_tells}
use Rattle.std.specs.List.{AllZip}
use Rattle.std.specs.Map.{remove_entry, set_value}
use Rattle.std.specs.Str.{bytes_eq}
use Rattle.std.specs.Cmp.Lexicographic.{bytes_decides}
use Rattle.std.specs.HashMap.{get}
use Rattle.bw_tree.specs.declared.child_index.ChildIndex.{ChildIndex}
use Rattle.bw_tree.specs.Keys.{text_at, NoneEmpty}
use Rattle.bw_tree.specs.Children.{child_among, child_at, AnswersAs, IsAdded, IsTaken, IsNamed}
use Rattle.bw_tree.specs.Children.{AreNamed, IsIndexOf}
use Rattle.bw_tree.specs.Groups.{GroupFields, TreeState, group_at, has_children, is_parent}
use Rattle.bw_tree.specs.Groups.{is_child_named, is_child_of, is_child_at, child_of}
use Rattle.bw_tree.specs.Groups.{IsTree, AllAfter, AreRising}
use Rattle.bw_tree.specs.Tree.{changed, changed_at, new_group}
use Rattle.bw_tree.proofs.AnswerLemmas.{at_same, alike, added_at, taken_at}
use Rattle.bw_tree.proofs.GroupLemmas.{child_push, child_push_old, look_push_same, look_push_other}
use Rattle.bw_tree.proofs.SetLemmas.{child_set, look_set_same, look_set_other}
use Rattle.bw_tree.proofs.RemoveLemmas.{was_other, rising_removed, look_removed_same}
use Rattle.bw_tree.proofs.RemoveLemmas.{look_removed_other, children_found}
use Rattle.bw_model.proofs.CallerLemmas.{inside, bytes_eq-self}

-- a child with a name has this parent and this name
pub named_is : (g : GroupFields) (p : ℕ) (n : List ℕ) → is_child_named g p n ≡ true
    → (g.parent ≡ Some p) × (g.name ≡ n)
named_is g p n h =
    let both = and_parts (is_parent g.parent p) (bytes_eq g.name n) h in
    (parent_is g.parent both.0, (bytes_decides g.name n).0 both.1)
  where
    parent_is : (o : Option ℕ) → is_parent o p ≡ true → o ≡ Some p
    parent_is None e = cc
    parent_is (Some q) e = ap Some (eqb-true q p e)

pub is_named : (g : GroupFields) (p : ℕ) → g.parent ≡ Some p → is_child_named g p g.name ≡ true
is_named g p up = and_from (is_parent g.parent p) (bytes_eq g.name g.name)
    (ap (λ o. is_parent o p) up ∙ eq-eqb p p refl) (bytes_eq-self g.name)

-- a group that is found after some others has a higher id
pub after_at : (gs : List (ℕ × GroupFields)) (low q : ℕ) (h : GroupFields) → AllAfter low gs
    → group_at gs q ≡ Some h → low < q
after_at [] low q h all at = cc
after_at (e ∷ es) low q h all at = onto (eqb q e.0) refl at (after_at es low q h all.1)
  where
    onto : (b : Bool) → eqb q e.0 ≡ b → cond b (Some e.1) (group_at es q) ≡ Some h
        → (group_at es q ≡ Some h → low < q) → low < q
    onto true here at rest = let same = eqb-true q e.0 here in omega (arith, all.0, same)
    onto false here at rest = rest at

-- what is found in the rest is found in the whole
pub at_more : (e : ℕ × GroupFields) (es : List (ℕ × GroupFields)) (q : ℕ) (h : GroupFields)
    → AllAfter e.0 es → group_at es q ≡ Some h
    → group_at (e ∷ es) q ≡ Some h
at_more e es q h all at =
    let after = after_at es e.0 q h all at in
    ap (λ b. cond b (Some e.1) (group_at es q)) (ne_eqb q e.0 (λ same. omega (arith, after, same)))
    ∙ at

-- the child that is found by its name is a group with this name
pub child_found : (gs : List (ℕ × GroupFields)) (p q : ℕ) (n : List ℕ) → AreRising gs
    → child_of gs p n ≡ Some q
    → (h : GroupFields) × (group_at gs q ≡ Some h) × (is_child_named h p n ≡ true)
child_found [] p q n up found = cc
child_found (e ∷ es) p q n up found =
    onto (is_child_named e.1 p n) refl found (child_found es p q n up.1)
  where
    onto : (b : Bool) → is_child_named e.1 p n ≡ b → cond b (Some e.0) (child_of es p n) ≡ Some q
        → (child_of es p n ≡ Some q → (h : GroupFields) × (group_at es q ≡ Some h)
        × (is_child_named h p n ≡ true))
        → (h : GroupFields) × (group_at (e ∷ es) q ≡ Some h) × (is_child_named h p n ≡ true)
    onto true match_is found rest = (
      e.1,
      ap (λ b. cond b (Some e.1) (group_at es q)) (eq-eqb q e.0 (sym (inside found))),
      match_is,
    )
    onto false other found rest = let h = rest found in (h.0, at_more e es q h.0 up.0 h.1, h.2)

-- a group that is the child of another with a name is so for no other parent and name
pub mine_at : (gs : List (ℕ × GroupFields)) (id parent : ℕ) (name : List ℕ)
    → is_child_at gs id parent name ≡ true
    → (p : ℕ) (n : List ℕ) → is_child_at gs id p n ≡ (eqb parent p && bytes_eq name n)
mine_at gs id parent name is p n = by (group_at gs id) is
  where
    by : (o : Option GroupFields) → is_child_of o parent name ≡ true
        → is_child_of o p n ≡ (eqb parent p && bytes_eq name n)
    by None is = cc
    by (Some g) is =
        let who = named_is g parent name is in
        ap (λ o. is_parent o p && bytes_eq g.name n) who.0
        ∙ ap (λ m. eqb parent p && bytes_eq m n) who.1

-- the first of a key is found where it has the parent and the name
first_found : (gs : List (ℕ × GroupFields)) (index : ChildIndex) (k p q : ℕ) (n : List ℕ)
    → get eqb index.first k ≡ Some q
    → is_child_at gs q p n ≡ true → child_at gs index k p n ≡ Some q
first_found gs index k p q n at is =
    ap (λ o. child_among gs o (text_at index.others p n) p n) at
    ∙ ap (λ b. cond b (Some q) (text_at index.others p n)) is

-- an index that answers as another is an index of the same groups
pub index_same : (gs : List (ℕ × GroupFields)) (keys : ℕ → List ℕ → ℕ) (old new : ChildIndex)
    → IsIndexOf gs keys old → AnswersAs old new → IsIndexOf gs keys new
index_same gs keys old new is same =
    record {
      children = λ p n. alike gs old new same (keys p n) p n ∙ is.children p n;
      none_empty = same.none_empty is.none_empty;
    }

-- and of other groups, where these have the same children
pub index_alike : (gs hs : List (ℕ × GroupFields)) (keys : ℕ → List ℕ → ℕ) (index : ChildIndex)
    → ((q p : ℕ) (n : List ℕ) → is_child_at hs q p n ≡ is_child_at gs q p n)
    → ((p : ℕ) (n : List ℕ) → child_of hs p n ≡ child_of gs p n)
    → IsIndexOf gs keys index → IsIndexOf hs keys index
index_alike gs hs keys index same children is = record {
  children = λ p n. at_same gs hs index (keys p n) p n (λ q. same q p n) ∙ is.children p n
      ∙ sym (children p n);
  none_empty = is.none_empty;
}

-- a group without children has no child of any name
pub no_child : (gs : List (ℕ × GroupFields)) (p : ℕ) (n : List ℕ) → has_children gs p ≡ false
    → child_of gs p n ≡ None
no_child [] p n none = refl
no_child (e ∷ es) p n none = by (is_parent e.1.parent p) refl none (no_child es p n)
  where
    by : (b : Bool) → is_parent e.1.parent p ≡ b → (b || has_children es p) ≡ false
        → (has_children es p ≡ false → child_of es p n ≡ None)
        → cond (is_parent e.1.parent p && bytes_eq e.1.name n) (Some e.0) (child_of es p n) ≡ None
    by true is none rest = cc
    by false is none rest =
        ap (λ b. cond (b && bytes_eq e.1.name n) (Some e.0) (child_of es p n)) is ∙ rest none

-- and no group is its child
not_child : (gs : List (ℕ × GroupFields)) (q p : ℕ) (n : List ℕ) → has_children gs p ≡ false
    → is_child_at gs q p n ≡ false
not_child gs q p n none = by (group_at gs q) refl
  where
    by : (o : Option GroupFields) → group_at gs q ≡ o → is_child_of o p n ≡ false
    by None at = refl
    by (Some h) at = onto (is_child_named h p n) refl
      where
        onto : (b : Bool) → is_child_named h p n ≡ b → is_child_named h p n ≡ false
        onto false no_match = no_match
        onto true match_is =
            let clash : true ≡ false =
            sym (children_found gs q p h at (named_is h p n match_is).0) ∙ none in
            absurd (cc)

-- the keys of the children of a group count only where it has children
pub rekeyed : (gs : List (ℕ × GroupFields)) (old_keys keys : ℕ → List ℕ → ℕ) (index : ChildIndex)
    → ((p : ℕ) (n : List ℕ) → has_children gs p ≡ true → keys p n ≡ old_keys p n)
    → IsIndexOf gs old_keys index → IsIndexOf gs keys index
rekeyed gs old_keys keys index same is = record {
  children = λ p n. by p n (has_children gs p) refl;
  none_empty = is.none_empty;
}
  where
    among : (p : ℕ) (n : List ℕ) → has_children gs p ≡ false → (o : Option ℕ)
        → child_among gs o (text_at index.others p n) p n ≡ text_at index.others p n
    among p n none None = refl
    among p n none (Some q) =
        ap (λ b. cond b (Some q) (text_at index.others p n)) (not_child gs q p n none)

    by : (p : ℕ) (n : List ℕ) (b : Bool) → has_children gs p ≡ b
        → child_at gs index (keys p n) p n ≡ child_of gs p n
    by p n true has = ap (λ k. child_at gs index k p n) (same p n has) ∙ is.children p n
    by p n false none =
        among p n none (get eqb index.first (keys p n))
        ∙ sym (among p n none (get eqb index.first (old_keys p n)))
        ∙ is.children p n

-- one group more
module _ (gs : List (ℕ × GroupFields)) (keys : ℕ → List ℕ → ℕ) (k parent : ℕ) (g : GroupFields)
    (old new : ChildIndex) (is : IsIndexOf gs keys old) (absent : group_at gs k ≡ None)
    (up : g.parent ≡ Some parent)
    (free : (p : ℕ) (n : List ℕ) → is_child_named g p n ≡ true → child_of gs p n ≡ None)
    (added : IsAdded old new (keys parent g.name) parent g.name k) where
  named_so : (p : ℕ) (n : List ℕ) → is_child_named g p n ≡ (eqb parent p && bytes_eq g.name n)
  named_so p n = ap (λ o. is_parent o p && bytes_eq g.name n) up

  mine : (p : ℕ) (n : List ℕ) → is_child_at (gs ++ (k, g) ∷ []) k p n
      ≡ (eqb parent p && bytes_eq g.name n)
  mine p n = ap (λ o. is_child_of o p n) (look_push_same gs k g absent) ∙ named_so p n

  only : (q : ℕ) → get eqb old.first (keys parent g.name) ≡ Some q
      → is_child_at (gs ++ (k, g) ∷ []) q parent g.name ≡ true → q ≡ k
  only q at there = by (eqb_tells q k)
    where
      by : ((eqb q k ≡ true) × (q ≡ k)) ⊎ ((eqb q k ≡ false) × (q ≢ k)) → q ≡ k
      by (inl same) = same.1
      by (inr apart) =
          let before = ap (λ o. is_child_of o parent g.name)
          (sym (look_push_other gs k q g apart.0)) ∙ there in
          let wrong : Some q ≡ None =
          sym (first_found gs old (keys parent g.name) parent q g.name at before)
          ∙ is.children parent g.name ∙ free parent g.name (is_named g parent up) in
          absurd (cc)

  same_else : (p : ℕ) (n : List ℕ) → is_child_named g p n ≡ false → (q : ℕ)
      → is_child_at (gs ++ (k, g) ∷ []) q p n ≡ is_child_at gs q p n
  same_else p n other q = by (eqb_tells q k)
    where
      by : ((eqb q k ≡ true) × (q ≡ k)) ⊎ ((eqb q k ≡ false) × (q ≢ k))
          → is_child_at (gs ++ (k, g) ∷ []) q p n ≡ is_child_at gs q p n
      by (inl same) =
          ap (λ i. is_child_at (gs ++ (k, g) ∷ []) i p n) same.1
          ∙ ap (λ o. is_child_of o p n) (look_push_same gs k g absent) ∙ other
          ∙ sym (ap (λ i. is_child_at gs i p n) same.1 ∙ ap (λ o. is_child_of o p n) absent)
      by (inr apart) = ap (λ o. is_child_of o p n) (look_push_other gs k q g apart.0)

  pub index_push : IsIndexOf (gs ++ (k, g) ∷ []) keys new
  index_push = record {
    children =
        λ p n. added_at (gs ++ (k, g) ∷ []) keys old new parent k g.name added p n (mine p n) only
        ∙ ap (λ b. cond b (Some k) (child_at (gs ++ (k, g) ∷ []) old (keys p n) p n)) (sym
        (named_so p n))
        ∙ onto p n (is_child_named g p n) refl (child_of gs p n) refl;
    none_empty = added.none_empty is.none_empty;
  }
    where
      onto : (p : ℕ) (n : List ℕ) (b : Bool) → is_child_named g p n ≡ b → (o : Option ℕ)
          → child_of gs p n ≡ o
          → cond b (Some k) (child_at (gs ++ (k, g) ∷ []) old (keys p n) p n)
          ≡ child_of (gs ++ (k, g) ∷ []) p n
      onto p n true match_is None found =
          sym (child_push gs k p n g found ∙ ap (λ b. cond b (Some k) None) match_is)
      onto p n true match_is (Some q) found =
          let wrong : Some q ≡ None = sym found ∙ free p n match_is in absurd (cc)
      onto p n false other None found =
          at_same gs (gs ++ (k, g) ∷ []) old (keys p n) p n (same_else p n other) ∙ is.children p n
          ∙ found
          ∙ sym (child_push gs k p n g found ∙ ap (λ b. cond b (Some k) None) other)
      onto p n false other (Some q) found =
          at_same gs (gs ++ (k, g) ∷ []) old (keys p n) p n (same_else p n other) ∙ is.children p n
          ∙ found
          ∙ sym (child_push_old gs k p q n g found)

-- a setting changes neither a parent nor a name
pub index_set
    : (f : GroupFields → GroupFields) (gs : List (ℕ × GroupFields)) (keys : ℕ → List ℕ → ℕ)
    (id : ℕ) (index : ChildIndex)
    → ((g : GroupFields) → (f g).parent ≡ g.parent) → ((g : GroupFields) → (f g).name ≡ g.name)
    → IsIndexOf gs keys index → IsIndexOf (changed_at f gs id) keys index
index_set f gs keys id index parent name is = by (group_at gs id) refl
  where
    by : (o : Option GroupFields) → group_at gs id ≡ o → IsIndexOf (changed f gs id o) keys index
    by None at = is
    by (Some g) at =
        index_alike gs (changed f gs id (Some g)) keys index same
        (λ p n. child_set id (f g) g (parent g) (name g) gs p n at) is
      where
        same : (q p : ℕ) (n : List ℕ) → is_child_at (set_value (eqb id) gs (f g)) q p n
            ≡ is_child_at gs q p n
        same q p n = onto (eqb_tells q id)
          where
            onto : ((eqb q id ≡ true) × (q ≡ id)) ⊎ ((eqb q id ≡ false) × (q ≢ id))
                → is_child_at (set_value (eqb id) gs (f g)) q p n ≡ is_child_at gs q p n
            onto (inl here) =
                ap (λ i. is_child_at (set_value (eqb id) gs (f g)) i p n) here.1
                ∙ ap (λ o. is_child_of o p n) (look_set_same id (f g) gs g at)
                ∙ ap (λ o. is_parent o p && bytes_eq (f g).name n) (parent g)
                ∙ ap (λ m. is_parent g.parent p && bytes_eq m n) (name g)
                ∙ sym (ap (λ i. is_child_at gs i p n) here.1 ∙ ap (λ o. is_child_of o p n) at)
            onto (inr apart) = ap (λ o. is_child_of o p n) (look_set_other id (f g) gs q apart.0)

module _ (id : ℕ) (g : GroupFields) where
  -- a group that is removed is missed at its own parent and name alone
  pub child_unnamed : (gs : List (ℕ × GroupFields)) (p : ℕ) (n : List ℕ) → group_at gs id ≡ Some g
      → is_child_named g p n ≡ false
      → child_of (remove_entry (eqb id) gs) p n ≡ child_of gs p n
  child_unnamed [] p n at other = refl
  child_unnamed (e ∷ es) p n at other = onto (eqb id e.0) at (child_unnamed es p n)
    where
      onto : (b : Bool) → cond b (Some e.1) (group_at es id) ≡ Some g
          → (group_at es id ≡ Some g → is_child_named g p n ≡ false
          → child_of (remove_entry (eqb id) es) p n ≡ child_of es p n)
          → child_of (cond b es (e ∷ remove_entry (eqb id) es)) p n
          ≡ cond (is_child_named e.1 p n) (Some e.0) (child_of es p n)
      onto true at rest =
          sym (ap (λ b. cond b (Some e.0) (child_of es p n))
          (ap (λ x. is_child_named x p n) (inside at) ∙ other))
      onto false at rest = ap (λ o. cond (is_child_named e.1 p n) (Some e.0) o) (rest at other)

-- one group less
module _ (t : TreeState) (id : ℕ) (g : GroupFields) (ok : IsTree t) (inner : id ≢ 0)
    (lone : has_children t.groups id ≡ false)
    (at : group_at t.groups id ≡ Some g) where
  -- its name finds nothing any more
  pub child_taken : (p : ℕ) (n : List ℕ) → is_child_named g p n ≡ true
      → child_of (remove_entry (eqb id) t.groups) p n ≡ None
  child_taken p n match_is = by (child_of (remove_entry (eqb id) t.groups) p n) refl
    where
      by : (o : Option ℕ) → child_of (remove_entry (eqb id) t.groups) p n ≡ o
          → child_of (remove_entry (eqb id) t.groups) p n ≡ None
      by None found = found
      by (Some q) found =
          let h = child_found (remove_entry (eqb id) t.groups) p q n
          (rising_removed id t.groups ok.rising) found in
          let was = was_other t id ok inner lone q h.0 h.1 in
          let left = named_is h.0 p n h.2 in
          let gone = named_is g p n match_is in
          let one : child_of t.groups p n ≡ Some q =
          ap (child_of t.groups p) (sym left.1) ∙ ok.named q p h.0 was.1 left.0 in
          let two : child_of t.groups p n ≡ Some id =
          ap (child_of t.groups p) (sym gone.1) ∙ ok.named id p g at gone.0 in
          absurd (was.0 (inside (sym one ∙ two)))

  pub index_removed : (parent : ℕ) (keys : ℕ → List ℕ → ℕ) (old new : ChildIndex)
      → g.parent ≡ Some parent → IsIndexOf t.groups keys old
      → IsTaken old new (keys parent g.name) parent g.name id
      → IsIndexOf (remove_entry (eqb id) t.groups) keys new
  index_removed parent keys old new up is taken = record {
    children =
        λ p n. taken_at t.groups (remove_entry (eqb id) t.groups) keys old new parent id g.name
        taken p n
        (ap (λ o. is_child_of o p n) at ∙ named_so p n)
        (ap (λ o. is_child_of o p n) (look_removed_same id t.groups ok.rising))
        (λ q apart. ap (λ o. is_child_of o p n) (look_removed_other id t.groups q apart)) alone
        ∙ ap (λ o. cond (eqb parent p && bytes_eq g.name n) None o) (is.children p n)
        ∙ ap (λ b. cond b None (child_of t.groups p n)) (sym (named_so p n))
        ∙ onto p n (is_child_named g p n) refl;
    none_empty = taken.none_empty is.none_empty;
  }
    where
      named_so : (p : ℕ) (n : List ℕ) → is_child_named g p n ≡ (eqb parent p && bytes_eq g.name n)
      named_so p n = ap (λ o. is_parent o p && bytes_eq g.name n) up

      -- no other child of its parent has its name
      alone : (q : ℕ) → is_child_at (remove_entry (eqb id) t.groups) q parent g.name ≡ false
      alone q = by (group_at (remove_entry (eqb id) t.groups) q) refl
        where
          by : (o : Option GroupFields) → group_at (remove_entry (eqb id) t.groups) q ≡ o
              → is_child_of o parent g.name ≡ false
          by None found = refl
          by (Some h) found = other (is_child_named h parent g.name) refl
            where
              other : (b : Bool) → is_child_named h parent g.name ≡ b
                  → is_child_named h parent g.name ≡ false
              other false no_match = no_match
              other true match_is =
                  let was = was_other t id ok inner lone q h found in
                  let who = named_is h parent g.name match_is in
                  let one : child_of t.groups parent g.name ≡ Some q =
                  ap (child_of t.groups parent) (sym who.1) ∙ ok.named q parent h was.1 who.0 in
                  absurd (was.0 (inside (sym one ∙ ok.named id parent g at up)))

      onto : (p : ℕ) (n : List ℕ) (b : Bool) → is_child_named g p n ≡ b
          → cond b None (child_of t.groups p n) ≡ child_of (remove_entry (eqb id) t.groups) p n
      onto p n true match_is = sym (child_taken p n match_is)
      onto p n false other = sym (child_unnamed id g t.groups p n at other)

-- the index of some first groups, where the rest are still to come
abbrev pub either : Option ℕ → Option ℕ → Option ℕ
either None o = o
either (Some id) o = Some id

pub record IsPartIndex (groups rest : List (ℕ × GroupFields)) (keys : ℕ → List ℕ → ℕ)
    (index : ChildIndex) : Type 0 where
  pub children : (parent : ℕ) (name : List ℕ)
      → either (child_at groups index (keys parent name) parent name) (child_of rest parent name)
      ≡ child_of groups parent name
  pub none_empty : NoneEmpty index.others

pub part_start : (groups : List (ℕ × GroupFields)) (keys : ℕ → List ℕ → ℕ) (index : ChildIndex)
    → ((k : ℕ) → get eqb index.first k ≡ None)
    → ((p : ℕ) (n : List ℕ) → text_at index.others p n ≡ None)
    → NoneEmpty index.others → IsPartIndex groups groups keys index
part_start groups keys index first others none_empty = record {
  children =
      λ p n. ap (λ o. either o (child_of groups p n))
      (ap (λ o. child_among groups o (text_at index.others p n) p n) (first (keys p n))
      ∙ others p n);
  none_empty = none_empty;
}

pub part_end : (groups : List (ℕ × GroupFields)) (keys : ℕ → List ℕ → ℕ) (index : ChildIndex)
    → IsPartIndex groups [] keys index → IsIndexOf groups keys index
part_end groups keys index is = record {
  children = λ p n. sym (last (child_at groups index (keys p n) p n)) ∙ is.children p n;
  none_empty = is.none_empty;
}
  where
    last : (o : Option ℕ) → either o None ≡ o
    last None = refl
    last (Some id) = refl

-- a group without a parent is no child
pub part_skip : (groups : List (ℕ × GroupFields)) (keys : ℕ → List ℕ → ℕ) (e : ℕ × GroupFields)
    (es : List (ℕ × GroupFields)) (index : ChildIndex) → e.1.parent ≡ None
    → IsPartIndex groups (e ∷ es) keys index → IsPartIndex groups es keys index
part_skip groups keys e es index top is = record {
  children =
      λ p n. sym (ap (λ o. either (child_at groups index (keys p n) p n)
      (cond (is_parent o p && bytes_eq e.1.name n) (Some e.0) (child_of es p n))) top)
      ∙ is.children p n;
  none_empty = is.none_empty;
}

-- a group with a parent is noted
pub part_step : (groups : List (ℕ × GroupFields)) (keys : ℕ → List ℕ → ℕ) (e : ℕ × GroupFields)
    (es : List (ℕ × GroupFields)) (parent : ℕ) (old new : ChildIndex)
    → e.1.parent ≡ Some parent → IsNamed groups e parent → IsPartIndex groups (e ∷ es) keys old
    → IsAdded old new (keys parent e.1.name) parent e.1.name e.0
    → IsPartIndex groups es keys new
part_step groups keys e es parent old new up named is added = record {
  children =
      λ p n. ap (λ o. either o (child_of es p n))
      (added_at groups keys old new parent e.0 e.1.name added p n
      (mine_at groups e.0 parent e.1.name named.child p n) only)
      ∙ onto p n (eqb parent p && bytes_eq e.1.name n) refl;
  none_empty = added.none_empty is.none_empty;
}
  where
    only : (q : ℕ) → get eqb old.first (keys parent e.1.name) ≡ Some q
        → is_child_at groups q parent e.1.name ≡ true → q ≡ e.0
    only q at there =
        inside (sym (ap (λ o. either o (child_of (e ∷ es) parent e.1.name))
        (first_found groups old (keys parent e.1.name) parent q e.1.name at there))
        ∙ is.children parent e.1.name ∙ named.found)

    onto : (p : ℕ) (n : List ℕ) (b : Bool) → (eqb parent p && bytes_eq e.1.name n) ≡ b
        → either (cond (eqb parent p && bytes_eq e.1.name n) (Some e.0)
        (child_at groups old (keys p n) p n)) (child_of es p n) ≡ child_of groups p n
    onto p n true here =
        let both = and_parts (eqb parent p) (bytes_eq e.1.name n) here in
        ap (λ b. either (cond b (Some e.0) (child_at groups old (keys p n) p n)) (child_of es p n))
        here
        ∙ sym named.found
        ∙ ap (λ k. child_of groups k e.1.name) (eqb-true parent p both.0)
        ∙ ap (child_of groups p) ((bytes_decides e.1.name n).0 both.1)
    onto p n false other =
        ap (λ b. either (cond b (Some e.0) (child_at groups old (keys p n) p n)) (child_of es p n))
        other
        ∙ ap (either (child_at groups old (keys p n) p n))
        (sym (ap (λ b. cond b (Some e.0) (child_of es p n))
        (ap (λ o. is_parent o p && bytes_eq e.1.name n) up ∙ other)))
        ∙ is.children p n

-- in a tree, each group is found by its name
pub tree_named : (t : TreeState) → IsTree t → AreNamed t.groups t.groups
tree_named t ok = all t.groups ok.rising (λ id g at. at)
  where
    all : (es : List (ℕ × GroupFields)) → AreRising es
        → ((id : ℕ) (g : GroupFields) → group_at es id ≡ Some g → group_at t.groups id ≡ Some g)
        → AreNamed t.groups es
    all [] up found = tt
    all (e ∷ es) up found = (
      λ p is. let at =
          found e.0 e.1 (ap (λ b. cond b (Some e.1) (group_at es e.0)) (eq-eqb e.0 e.0 refl)) in
          record {
            found = ok.named e.0 p e.1 at is;
            child = ap (λ o. is_child_of o p e.1.name) at ∙ is_named e.1 p is;
            there = (ok.parents e.0 p e.1 at is).1;
          },
      all es up.1 (λ id g at. found id g (at_more e es id g up.0 at)),
    )

-- a clone of the groups is the groups
pub same_entries : (xs ys : List (ℕ × GroupFields))
    → AllZip (λ x y. (y.0 ≡ x.0) × (y.1 ≡ x.1)) xs ys → ys ≡ xs
same_entries [] [] h = refl
same_entries [] (y ∷ ys) h = absurd h
same_entries (x ∷ xs) [] h = absurd h
same_entries (x ∷ xs) (y ∷ ys) h =
    let first : y ≡ x = ap (λ k. (k, y.1)) h.0.0 ∙ ap (λ g. (x.0, g)) h.0.1 in
    ap (λ e. e ∷ ys) first ∙ ap (λ es. x ∷ es) (same_entries xs ys h.1)

-- a new group's place is free
pub free_name : (t : TreeState) (parent : ℕ) (name : List ℕ) → child_of t.groups parent name ≡ None
    → (p : ℕ) (n : List ℕ)
    → is_child_named (new_group parent name) p n ≡ true → child_of t.groups p n ≡ None
free_name t parent name free p n h =
    let who = named_is (new_group parent name) p n h in
    ap (λ k. child_of t.groups k n) (sym (inside who.0)) ∙ ap (child_of t.groups parent) (sym who.1)
    ∙ free
