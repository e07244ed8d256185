-- A group that has a path, tested from the path's last names to its first.
use Rattle.std.proofs.Common.{◌≡◌, ◌≢◌, ℕ, true, false, cond, not, List, [], ◌∷◌, ◌++◌, length}
use Rattle.std.proofs.Common.{Option, Some, None, refl, sym, ap, ◌∙◌, arith, eqb}
use Rattle.std.proofs.Common.{append_assoc}
use Rattle.std.specs.Prelude.{codes}
use Rattle.std.specs.List.{join_with_byte}
use Rattle.std.proofs.lemmas.Bool.{ne_eqb}
use Rattle.std.proofs.lemmas.List.{length-append}
use Rattle.bw_model.proofs.CallerLemmas.{inside}
use Rattle.bw_tree.specs.Groups.{TreeState, has_group, child_of, onward}
use Rattle.bw_tree.specs.Groups.{walk, IsTree}
use Rattle.bw_tree.specs.Paths.{names_to, path_at}
use Rattle.bw_tree.specs.Tails.{IsWay}
use Rattle.bw_tree.proofs.IndexLemmas.{child_found, named_is}
use Rattle.bw_tree.proofs.WayLemmas.{names_top, some_names, walk_names}

-- more names, after a `/`
join_append : (first : List ℕ) (others : List (List ℕ)) (name : List ℕ) (names : List (List ℕ))
    → join_with_byte 47 ((first ∷ others) ++ name ∷ names)
    ≡ join_with_byte 47 (first ∷ others) ++ (47 ∷ join_with_byte 47 (name ∷ names))
join_append first [] name names = refl
join_append first (next ∷ others) name names =
    ap (λ rest. first ++ (47 ∷ rest)) (join_append next others name names)
    ∙ sym (append_assoc first (47 ∷ join_with_byte 47 (next ∷ others))
    (47 ∷ join_with_byte 47 (name ∷ names)))

module _ (t : TreeState) (ok : IsTree t) where
  -- the path of a group other than the root is its names, joined
  joined_names : (id : ℕ) → has_group t.groups id ≡ true → eqb id 0 ≡ false
      → path_at t.groups id ≡ Some (join_with_byte 47 (names_to t.groups id))
  joined_names id there low =
      ap (λ k. cond (not k) None
      (cond (eqb id 0) (Some (codes ".")) (Some (join_with_byte 47 (names_to t.groups id)))))
      there
      ∙ ap (λ k. cond k (Some (codes ".")) (Some (join_with_byte 47 (names_to t.groups id)))) low

  -- a way begins at a group
  begins : (text : List ℕ) (above id : ℕ) → IsWay t.groups text above id
      → has_group t.groups above ≡ true
  begins text above id way = by (child_of t.groups above way.first) refl way.leads
    where
      by : (o : Option ℕ) → child_of t.groups above way.first ≡ o
          → onward (λ q. walk t.groups q way.others) o ≡ Some id
          → has_group t.groups above ≡ true
      by None found leads = cc
      by (Some q) found leads =
          let h = child_found t.groups above q way.first ok.rising found in
          let who = named_is h.0 above way.first h.2 in
          (ok.parents q above h.0 h.1 who.0).1

  -- it ends at a group whose names are those that it began with, and its own
  ends : (text : List ℕ) (above id : ℕ) (way : IsWay t.groups text above id)
      → (names_to t.groups id ≡ names_to t.groups above ++ way.first ∷ way.others)
      × (has_group t.groups id ≡ true)
  ends text above id way =
      walk_names t ok (way.first ∷ way.others) above id (begins text above id way) way.leads

  -- which is not the root
  pub way_low : (text : List ℕ) (above id : ℕ) → IsWay t.groups text above id → id ≢ 0
  way_low text above id way = λ top.
      let none : [] ≡ names_to t.groups above ++ way.first ∷ way.others =
      sym (names_top t ok id id top) ∙ (ends text above id way).0 in
      let long = length-append (names_to t.groups above) (way.first ∷ way.others) in
      let empty : 0 ≡ length (names_to t.groups above ++ way.first ∷ way.others) =
      ap length none in
      omega (arith, empty, long)

  -- a way from the root is a path
  pub way_first : (text : List ℕ) (above id : ℕ) → IsWay t.groups text above id → above ≡ 0
      → path_at t.groups id ≡ Some text
  way_first text above id way top =
      let names : names_to t.groups id ≡ way.first ∷ way.others =
      (ends text above id way).0
      ∙ ap (λ xs. xs ++ way.first ∷ way.others) (names_top t ok above above top) in
      joined_names id (ends text above id way).1 (ne_eqb id 0 (way_low text above id way))
      ∙ ap Some (ap (join_with_byte 47) names ∙ way.joined)

  -- any other way makes a path with the path of its first group, and `/`
  pub way_below : (text front : List ℕ) (above id : ℕ) → IsWay t.groups text above id → above ≢ 0
      → path_at t.groups above ≡ Some front → path_at t.groups id ≡ Some (front ++ 47 ∷ text)
  way_below text front above id way inner path_is =
      let there = begins text above id way in
      let some = some_names t ok above there (ne_eqb above 0 inner) in
      let joined : join_with_byte 47 (some.0 ∷ some.1) ≡ front =
      ap (join_with_byte 47) (sym some.2)
      ∙ inside (sym (joined_names above there (ne_eqb above 0 inner)) ∙ path_is) in
      let names : names_to t.groups id ≡ (some.0 ∷ some.1) ++ way.first ∷ way.others =
      (ends text above id way).0 ∙ ap (λ xs. xs ++ way.first ∷ way.others) some.2 in
      joined_names id (ends text above id way).1 (ne_eqb id 0 (way_low text above id way))
      ∙ ap Some (ap (join_with_byte 47) names
      ∙ join_append some.0 some.1 way.first way.others
      ∙ ap (λ xs. xs ++ (47 ∷ join_with_byte 47 (way.first ∷ way.others))) joined
      ∙ ap (λ xs. front ++ 47 ∷ xs) way.joined)
