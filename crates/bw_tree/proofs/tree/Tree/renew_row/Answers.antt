-- The goals of `Tree::renew_row` that are answered by hand.
use Rattle.std.proofs.Common.{◌≡◌, ◌<◌, ℕ, Some, Option, length, position, get_or, sym, ap}
use Rattle.std.proofs.Common.{subst, ◌∙◌, eqb, arith}
use Rattle.std.specs.Map.{keys_of}
use Rattle.bw_model.specs.Groups.{Groups}
use Rattle.bw_tree.specs.Groups.{GroupFields, TreeState, IsTree}
use Rattle.bw_tree.specs.Kept.{IsKept, IsBehind, IsSnapshotOf}
use Rattle.bw_model.specs.Host.{Shape}
use Rattle.bw_tree.specs.declared.snapshot.Snapshot.{Snapshot}
use Rattle.bw_tree.proofs.PlaceLemmas.{stands_at}
use Rattle.bw_tree.proofs.RenewLemmas.{keys_same, below_root, within, renewed, row_kept}
use Rattle.bw_tree.proofs.SetLemmas.{can_set}
use Rattle.bw_tree.proofs.SnapshotLemmas.{sound_at, length_rows, tree_IsInstance}
use Rattle.bw_tree.proofs.tree.Tree.renew_row.Goals as goal

-- `same` is the tree as it is stored
module _ {t same : TreeState} (equal : same ≡ t) (id i : ℕ) (o : Option ℕ)
    (read : o ≡ position (eqb id) (keys_of same.groups)) (some : o ≡ Some i) where
  stored : position (eqb id) (keys_of same.groups) ≡ Some i
  stored = sym read ∙ some

  place : position (eqb id) (keys_of t.groups) ≡ Some i
  place = subst (λ (s : TreeState). position (eqb id) (keys_of s.groups) ≡ Some i) equal stored

  module _ (shape : Shape) (kept : Option Snapshot) (snapshot : Snapshot)
      (is : kept ≡ Some snapshot) (behind : IsBehind kept t shape id) where
    -- the place before the setting
    before : position (eqb id) (keys_of behind.before.groups) ≡ Some i
    before = ap (position (eqb id))
        (sym (ap (λ (s : TreeState). keys_of s.groups) behind.step
        ∙ keys_same behind.change behind.before.groups id)) ∙ place

    was : IsSnapshotOf snapshot behind.before shape
    was = subst (λ k. IsKept k behind.before shape) is behind.was_kept

    long : i < length snapshot.instance.rows
    long = subst (λ (q : Groups). i < length q.rows) (sym was.rows)
        (omega (
          arith,
          within behind.change behind.before id i before,
          length_rows behind.before.groups shape,
        ))

pub renew-requires-clause-below_root : goal.renew-requires-clause-below_root
renew-requires-clause-below_root c =
    below_root c.args.self.now (subst IsTree c.self.view_is c.self.invariant.tree) c.args.shape
    c.args.id c.unwrap-place.result
    (can_set c.args.self.now c.args.id c.requires.settable).inner
    (place c.self.view_is c.args.id c.unwrap-place.result c.place_of.result
    c.place_of.ensures.place c.unwrap-place.ensures)

pub renew-requires-clause-within : goal.renew-requires-clause-within
renew-requires-clause-within c =
    long c.self.view_is c.args.id c.unwrap-place.result c.place_of.result c.place_of.ensures.place
    c.unwrap-place.ensures c.args.shape c.args.kept.now c.in-Some.snapshot c.in-Some.is c.requires

pub renew-requires-clause-sound : goal.renew-requires-clause-sound
renew-requires-clause-sound c =
    let stored_place = stored c.self.view_is c.args.id c.unwrap-place.result c.place_of.result
    c.place_of.ensures.place c.unwrap-place.ensures in
    sound_at (record { groups = c.self.inside.groups.entries; next = c.self.inside.next_id })
    c.self.invariant.tree c.unwrap-place.result (c.entry_at.result.0, c.entry_at.result.1.now)
    (stands_at c.self.inside.groups.entries c.args.id c.unwrap-place.result stored_place).within
    c.entry_at.ensures

pub returns-in-Some-clause-kept : goal.returns-in-Some-clause-kept
returns-in-Some-clause-kept c =
    let i = c.unwrap-place.result in
    let h = c.requires in
    let shape = c.args.shape in
    let x : ℕ × GroupFields = (c.entry_at.result.0, c.entry_at.result.1.now) in
    let earlier = before c.self.view_is c.args.id i c.place_of.result c.place_of.ensures.place
    c.unwrap-place.ensures shape c.args.kept.now c.in-Some.snapshot c.in-Some.is h in
    let kept = was c.self.view_is c.args.id i c.place_of.result c.place_of.ensures.place
    c.unwrap-place.ensures shape c.args.kept.now c.in-Some.snapshot c.in-Some.is h in
    let group = renewed h.change h.before c.args.id i earlier x
    (c.entry_at.ensures
    ∙ ap (λ (s : TreeState). get_or s.groups i x) (c.self.view_is ∙ h.step)) in
    row_kept h.change h.before c.args.id i earlier shape h.parent_stays h.demand_stays
    c.args.self.now h.step
    (tree_IsInstance c.self.view_is c.self.invariant.tree shape kept.valid.host)
    c.in-Some.snapshot c.renew.new.self kept x.1 group c.renew.ensures.row
    c.renew.ensures.quota c.renew.ensures.ids
