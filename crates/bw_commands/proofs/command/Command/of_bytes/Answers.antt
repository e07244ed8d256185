-- The goals of `Command::of_bytes` that are answered by hand.
use Rattle.std.proofs.Common.{rules, ◌≤◌, ◌<◌, ◌∙◌, ap, sym, length}
use Rattle.bw_commands.specs.Command.{command_of_line}
use Rattle.bw_commands.specs.Script.{request_of_kept}
use Rattle.bw_commands.proofs.Kept.{kept_of-long, kept_of-short, request_of_kept-text}
use Rattle.bw_commands.proofs.Kept.{request_of_kept-bad, request_of_kept-long}
use Rattle.bw_commands.proofs.command.Command.of_bytes.Goals as goal

pub returns-then-line-gt-LINE_BYTES : goal.returns-then-line-gt-LINE_BYTES
returns-then-line-gt-LINE_BYTES c =
    let long : 65536 < length c.args.line.now = search rules in
    sym (ap request_of_kept (kept_of-long c.args.line.now long) ∙ request_of_kept-long)

pub returns-in-Ok : goal.returns-in-Ok
returns-in-Ok c =
    let bytes = c.args.line.now in
    let short : length bytes ≤ 65536 = search rules in
    c.parse.ensures ∙ ap command_of_line c.in-Ok.ensures.cases.0
    ∙ sym (ap request_of_kept (kept_of-short bytes short)
    ∙ request_of_kept-text bytes c.in-Ok.ensures.cases.1)

pub returns-in-Err : goal.returns-in-Err
returns-in-Err c =
    let bytes = c.args.line.now in
    let short : length bytes ≤ 65536 = search rules in
    sym (ap request_of_kept (kept_of-short bytes short)
    ∙ request_of_kept-bad bytes c.in-Err.ensures.cases.0)
