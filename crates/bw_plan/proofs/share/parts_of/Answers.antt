-- The goals of `parts_of` that are answered by hand.
use Rattle.std.proofs.Common.{◌<◌, ℕ, length, ap, sym, ◌∙◌, arith}
use Rattle.std.proofs.lemmas.Bool.{ne_eqb}
use Rattle.bw_model.specs.Groups.{children_of}
use Rattle.bw_model.proofs.CallerLemmas.{is_leaf-length}
use Rattle.bw_plan.proofs.share.parts_of.Goals as goal

pub split_among-requires-clause-inner : goal.split_among-requires-clause-inner
split_among-requires-clause-inner c =
    let two : 1 < length (children_of c.args.instance.now.rows c.args.g) =
    omega (arith, c.if-children-lt2.false, ap (length {A = ℕ}) c.children.ensures) in
    sym (is_leaf-length c.args.instance.now.rows c.args.g) ∙ ne_eqb
    (length (children_of c.args.instance.now.rows c.args.g)) 0 (λ e. omega (arith, e, two))
