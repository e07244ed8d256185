-- The goals of `push_group` that are answered by hand.
use Rattle.std.proofs.Common.{◌≡◌, Result, Ok, OnOk, subst, ◌∙◌, eqb}
use Rattle.indexmap.proofs.CallerLemmas.{insert_entry-new}
use Rattle.bw_tree.proofs.group_map.push_group.Goals as goal

on_ok : {A E P : Type 0} (r : Result A E) (x : A) → r ≡ Ok x → OnOk r P → P
on_ok {A} {E} {P} r x is holds = subst (λ s. OnOk s P) is holds

pub returns : goal.returns
returns c =
    on_ok c.insert.result c.unwrap-none.result c.unwrap-none.ensures c.insert.ensures.entries
    ∙ insert_entry-new eqb c.args.groups.now c.args.id c.args.group c.requires.free
