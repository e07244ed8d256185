-- Two settings of one group.
use Rattle.std.proofs.Common.{◌≡◌, ℕ, Some, None, sym, ap, ◌∙◌}
use Rattle.bw_tree.specs.Groups.{GroupFields, TreeState}
use Rattle.bw_tree.specs.Tree.{with_setting, setting_refusal}
use Rattle.bw_tree.specs.declared.fault.TreeFault.{TreeFault}
use Rattle.bw_tree.proofs.CallerLemmas.{settable_still}

-- after one setting the next is not refused
pub never_refused : (f : GroupFields → GroupFields) (t u : TreeState) (id : ℕ) (fault : TreeFault)
    → setting_refusal t id ≡ None → u ≡ with_setting f t id
    → setting_refusal u id ≡ Some fault → ⊥
never_refused f t u id fault free is refused =
    let wrong : Some fault ≡ None =
    sym refused ∙ ap (λ v. setting_refusal v id) is ∙ settable_still f t id free in
    absurd cc
