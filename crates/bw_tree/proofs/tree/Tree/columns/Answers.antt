-- The goals of `Tree::columns` that are answered by hand.
use Rattle.std.proofs.Common.{◌≡◌, ◌<◌, ℕ, List, ◌∷◌, [], ◌++◌, None, Option, length, get_or, rules}
use Rattle.std.proofs.Common.{sym, ap, ◌∙◌, arith}
use Rattle.std.proofs.lemmas.List.{get_or-map, length-map, take_more}
use Rattle.std.specs.Map.{keys_of, values_of}
use Rattle.bw_model.specs.Groups.{no_row, row_of as row_there}
use Rattle.bw_model.specs.declared.row.Row.{Row}
use Rattle.bw_tree.specs.Groups.{GroupFields, TreeState}
use Rattle.bw_tree.specs.Snapshot.{rows_of, base_of, quota_slices}
use Rattle.bw_tree.proofs.SnapshotLemmas.{length_rows}
use Rattle.bw_tree.proofs.tree.Tree.columns.Goals as goal

pub loop-place-preserved : goal.loop-place-preserved
loop-place-preserved c =
    let gs = c.args.self.now.groups in
    let shape = c.args.shape in
    let i = c.loop-place.place in
    let was = c.loop-place.invariant in
    let x : ℕ × GroupFields = (c.entry_at-id.result.0, c.entry_at-id.result.1.now) in
    let lt : i < length gs = search rules in
    let is : x ≡ get_or gs i x = c.entry_at-id.ensures
    ∙ ap (λ (t : TreeState). get_or t.groups i x) c.self.view_is in
    let id : x.0 ≡ get_or (keys_of gs) i 0 = ap (λ (y : ℕ × GroupFields). y.0) is
    ∙ sym (get_or-map (λ (e : ℕ × GroupFields). e.0) gs i x 0 lt) in
    record {
      ids = c.push_reserved.ensures.items
          ∙ ap (λ (k : ℕ). c.loop-place.ids.items ++ k ∷ []) id
          ∙ ap (λ (ks : List ℕ). ks ++ get_or (keys_of gs) i 0 ∷ []) was.ids
          ∙ sym (take_more (keys_of gs) i 0
          (omega (arith, lt, length-map gs (λ (e : ℕ × GroupFields). e.0))));
      rows = c.push_reserved-in-loop-place.ensures.items
          ∙ ap (λ (r : Row). c.loop-place.rows.items ++ r ∷ []) c.row_at-quota.ensures.row
          ∙ ap (λ (rs : List Row). rs ++ row_there (rows_of gs shape) i ∷ []) was.rows
          ∙ sym (take_more (rows_of gs shape) i no_row
          (omega (arith, lt, length_rows gs shape)));
      quotas = c.push_reserved-in-loop-place-2.ensures.items
          ∙ ap (λ (q : Option ℕ). c.loop-place.quotas.items ++ q ∷ [])
          c.row_at-quota.ensures.quota
          ∙ ap (λ (qs : List (Option ℕ)). qs ++ get_or (base_of gs shape) i None ∷ []) was.quotas
          ∙ sym (take_more (base_of gs shape) i None
          (omega (
            arith,
            lt,
            length-map (values_of gs) (quota_slices shape),
            length-map gs (λ (e : ℕ × GroupFields). e.1),
          )));
      ids_len = search rules;
      ids_room = search rules;
      rows_len = search rules;
      rows_room = search rules;
      quotas_len = search rules;
      quotas_room = search rules;
    }
