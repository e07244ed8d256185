-- The goals of `insert_text` that are answered by hand.
use Rattle.std.proofs.Common.{Some, cond, ap, ◌∙◌}
use Rattle.std.proofs.lemmas.Map.Text.{btree_map_updates_text}
use Rattle.std.specs.BTreeMap.{get_by_text}
use Rattle.std.specs.Str.{bytes_eq}
use Rattle.std.specs.String.{string_bytes}
use Rattle.bw_tree.proofs.child_index.insert_text.Goals as goal

pub returns-clause-added : goal.returns-clause-added
returns-clause-added c =
    let name = c.in_ok-from_str.field-0 in
    let texts = btree_map_updates_text (string_bytes name) c.args.children.now c.insert.new.self
    (Some c.args.id) c.in_ok-insert.ensures.updates in
    λ n. texts n ∙ ap (λ k. cond (bytes_eq k n) (Some c.args.id)
    (get_by_text c.args.children.now n)) c.in_ok-from_str.ensures.ok
