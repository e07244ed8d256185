-- The goals of `Tree::entry_of_row` that are answered by hand.
use Rattle.std.proofs.Common.{◌≡◌, ◌<◌, ℕ, Option, Some, None, length, get_or, rules, arith}
use Rattle.std.proofs.Common.{refl, sym, ap, subst, ◌∙◌}
use Rattle.std.specs.Prelude.{IfSome}
use Rattle.std.specs.Map.{keys_of}
use Rattle.std.proofs.lemmas.List.{get_or-map, length-map}
use Rattle.bw_tree.specs.Groups.{GroupFields, TreeState, group_at, IsTree}
use Rattle.bw_tree.specs.Snapshot.{row_above}
use Rattle.bw_tree.proofs.SnapshotLemmas.{found_at, parent_place}
use Rattle.bw_tree.proofs.tree.Tree.entry_of_row.Goals as goal

-- `same` is the tree as it is stored, from which the entry was read
module _ {t same : TreeState} (equal : same ≡ t) (tree : IsTree same) (i : ℕ)
    (x : ℕ × GroupFields) (read : x ≡ get_or same.groups i x)
    (long : i < length (keys_of t.groups)) where
  ok : IsTree t
  ok = subst IsTree equal tree

  is : x ≡ get_or t.groups i x
  is = read ∙ ap (λ (s : TreeState). get_or s.groups i x) equal

  within : i < length t.groups
  within = omega (arith, long, length-map t.groups (λ (e : ℕ × GroupFields). e.0))

  -- the group of a row is found by the row's id
  row_group : group_at t.groups (get_or (keys_of t.groups) i 0) ≡ Some x.1
  row_group =
      ap (group_at t.groups) (get_or-map (λ (e : ℕ × GroupFields). e.0) t.groups i x 0 within)
      ∙ found_at t.groups i x ok.rising within
      ∙ ap (λ (y : ℕ × GroupFields). Some y.1) (sym is)

  -- its parent's row is lower
  row_before : IfSome (row_above t.groups x.1.parent) (λ p. p < i)
  row_before = by x.1.parent refl
    where
      by : (o : Option ℕ) → x.1.parent ≡ o → IfSome (row_above t.groups o) (λ p. p < i)
      by None up = tt
      by (Some p) up =
          let h = parent_place t ok x i p within
          (ap (λ (y : ℕ × GroupFields). y.1.parent) (sym is) ∙ up) in
          subst (λ o. IfSome o (λ q. q < i)) (sym h.is) h.before

pub returns-clause-group : goal.returns-clause-group
returns-clause-group c =
    let gs = c.args.self.now.groups in
    let x : ℕ × GroupFields = (c.entry_at-id.result.0, c.entry_at-id.result.1.now) in (
      x.1,
      row_group c.self.view_is c.self.invariant.tree c.args.row x c.entry_at-id.ensures c.requires,
      c.parent_row.ensures x ∙ ap (λ (y : ℕ × GroupFields). row_above gs y.1.parent)
          (sym (is c.self.view_is c.self.invariant.tree c.args.row x c.entry_at-id.ensures c.requires)),
      search rules,
    )

pub returns-clause-before : goal.returns-clause-before
returns-clause-before c =
    let t = c.args.self.now in
    let x : ℕ × GroupFields = (c.entry_at-id.result.0, c.entry_at-id.result.1.now) in
    let above : c.parent_row.result ≡ row_above t.groups x.1.parent =
    c.parent_row.ensures x ∙ ap (λ (y : ℕ × GroupFields). row_above t.groups y.1.parent)
    (sym (is c.self.view_is c.self.invariant.tree c.args.row x c.entry_at-id.ensures c.requires)) in
    subst (λ o. IfSome o (λ p. p < c.args.row)) (sym above)
    (row_before c.self.view_is c.self.invariant.tree c.args.row x c.entry_at-id.ensures c.requires)
