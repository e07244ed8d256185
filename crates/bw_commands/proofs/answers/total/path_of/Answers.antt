-- The goals of `path_of` that are answered by hand.
use Rattle.std.proofs.Common.{◌≡◌, true, cond, not, Some, None, ap, ◌∙◌}
use Rattle.bw_tree.specs.Groups.{has_group}
use Rattle.bw_tree.specs.Tree.{IsRefused, path_refusal}
use Rattle.bw_tree.specs.declared.fault.TreeFault.{TreeFault}
use Rattle.bw_tree.specs.declared.fault.TreeFault.TheVariants.{NotFound, OutOfMemory}
use Rattle.bw_tree.proofs.CallerLemmas.{row_has_group}
use Rattle.std.proofs.lemmas.Result.{IfErr-weaker}
use Rattle.bw_commands.proofs.OnlyMemory.{only_memory}
use Rattle.bw_commands.proofs.answers.total.path_of.Goals as goal

pub returns-clause-err : goal.returns-clause-err
returns-clause-err c =
    let t = c.args.tree.now in
    let id = c.entry_of_row.result.id in
    let there : has_group t.groups id ≡ true =
    ap (has_group t.groups) c.entry_of_row.ensures.id
    ∙ row_has_group t.groups c.args.g c.requires in
    let none : path_refusal t id ≡ None = ap (λ b. cond (not b) (Some NotFound) None) there in
    IfErr-weaker c.path_of.result (IsRefused (path_refusal t id))
    (λ (fault : TreeFault). fault ≡ OutOfMemory)
    (λ fault. only_memory (path_refusal t id) fault none) c.path_of.ensures.refused
