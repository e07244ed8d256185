-- The goal of `Command::of_marked` that is answered by hand.
use Rattle.std.proofs.Common.{◌≤◌, ◌∙◌, ap, sym, subst, length, arith}
use Rattle.std.specs.Str.{IsUtf8}
use Rattle.bw_commands.specs.Script.{request_of_kept}
use Rattle.bw_commands.proofs.Kept.{kept_of-short, request_of_kept-text}
use Rattle.bw_commands.proofs.command.Command.of_marked.Goals as goal

pub returns : goal.returns
returns c =
    let line = c.args.line.text.now in
    let short : length line ≤ 65536 = omega (arith, c.args.line.short) in
    let utf8 : IsUtf8 line = subst IsUtf8 c.text-text.ensures c.text-text.utf8 in
    c.of_marked_words.ensures
    ∙ sym (ap request_of_kept (kept_of-short line short) ∙ request_of_kept-text line utf8)
