-- The goals of `remove_text` that are answered by hand.
use Rattle.std.proofs.Common.{None, cond, sym, ap, ◌∙◌}
use Rattle.std.proofs.lemmas.Map.Text.{btree_map_updates_text}
use Rattle.std.specs.Str.{bytes_eq}
use Rattle.bw_tree.specs.Keys.{text_in}
use Rattle.bw_tree.proofs.ChildIndexLemmas.{nested, written, no_text, none_in}
use Rattle.bw_tree.proofs.GroupLemmas.{not_false}
use Rattle.bw_tree.proofs.child_index.remove_text.Goals as goal

pub returns-in-Some-clause-taken : goal.returns-in-Some-clause-taken
returns-in-Some-clause-taken c =
    let after = c.remove-removed.new.self in
    let new = c.get_mut.follows.lender after in
    let moves = written c.args.parent c.args.others.now new c.in-Some.children.now after
    c.in-Some.ensures.value (c.get_mut.follows.holds after) in
    let texts = btree_map_updates_text c.args.name.now c.in-Some.children.now after None
    c.remove-removed.ensures.updates in
    λ _. nested c.args.parent c.args.others.now new after moves c.args.name.now None
    (λ n. texts n
    ∙ ap (λ o. cond (bytes_eq c.args.name.now n) None (text_in o n)) c.in-Some.ensures.value)

pub returns-in-Some-clause-none_left : goal.returns-in-Some-clause-none_left
returns-in-Some-clause-none_left c =
    let after = c.remove-removed.new.self in
    let texts = btree_map_updates_text c.args.name.now c.in-Some.children.now after None
    c.remove-removed.ensures.updates in
    λ none n. ap (λ o. cond (bytes_eq c.args.name.now n) None (text_in o n))
    (sym c.in-Some.ensures.value) ∙ sym (texts n)
    ∙ no_text after (none_in after (c.is_empty.ensures.0 (not_false c.is_empty.result none))) n
