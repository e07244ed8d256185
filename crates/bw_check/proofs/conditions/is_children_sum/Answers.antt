-- The goals of `is_children_sum` that are answered by hand.
use Rattle.std.proofs.Common.{◌≡◌, false, sym, ◌∙◌}
use Rattle.std.proofs.lemmas.Bool.{eqb-true, eq-eqb}
use Rattle.bw_model.specs.Groups.{is_leaf}
use Rattle.bw_check.proofs.conditions.is_children_sum.Goals as goal

pub returns-else-leaf : goal.returns-else-leaf
returns-else-leaf c =
    let inner : is_leaf c.args.rows.now c.args.g ≡ false =
    sym c.requires.leaf ∙ c.if-leaf.false in (
      λ e _. sym c.from.ensures ∙ eqb-true c.from.result c.args.sum e ∙ c.requires.sum,
      λ h. eq-eqb c.from.result c.args.sum (c.from.ensures ∙ h inner ∙ sym c.requires.sum),
    )
