-- The goals of `Command::of_text` that are answered by hand.
use Rattle.std.proofs.Common.{rules, ◌≤◌, ◌<◌, ◌∙◌, ap, sym, length}
use Rattle.bw_commands.specs.Script.{request_of_kept}
use Rattle.bw_commands.proofs.Kept.{kept_of-long, kept_of-short, request_of_kept-text}
use Rattle.bw_commands.proofs.Kept.{request_of_kept-long}
use Rattle.bw_commands.proofs.command.Command.of_text.Goals as goal

pub returns-then-line-gt-LINE_BYTES : goal.returns-then-line-gt-LINE_BYTES
returns-then-line-gt-LINE_BYTES c =
    let long : 65536 < length c.args.line.now = search rules in
    sym (ap request_of_kept (kept_of-long c.args.line.now long) ∙ request_of_kept-long)

pub returns : goal.returns
returns c =
    let line = c.args.line.now in
    let short : length line ≤ 65536 = search rules in
    c.parse.ensures
    ∙ sym (ap request_of_kept (kept_of-short line short) ∙ request_of_kept-text line c.utf8.line)
