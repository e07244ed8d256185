-- The goals of `put_path` that are answered by hand.
use Rattle.std.proofs.Common.{◌<◌, length, subst}
use Rattle.std.specs.Prelude.{IfSome}
use Rattle.bw_commands.proofs.PathLists.{within_at}
use Rattle.bw_commands.proofs.answers.paths.put_path.Goals as goal

pub put_below-requires : goal.put_below-requires
put_below-requires c =
    let lt : c.in-Some.parent < length c.args.spans.now =
    subst (λ o. IfSome o (λ p. p < length c.args.spans.now)) c.in-Some.is c.requires.parent in
    let h = within_at (length c.args.text.now.items) c.args.spans.now c.in-Some.parent _
    c.requires.within lt in
    (h.0, h.1, tt)
