-- The goal of `Command::of_plain` that is answered by hand.
use Rattle.std.proofs.Common.{◌≡◌, ◌≤◌, ◌∙◌, Ok, ap, sym, subst, length, arith}
use Rattle.std.specs.Prelude.{IfSome}
use Rattle.std.specs.Str.{IsUtf8}
use Rattle.bw_commands.specs.Command.{command_of_line}
use Rattle.bw_commands.specs.Parsed.{meaning_of}
use Rattle.bw_commands.specs.Script.{kept_of, request_of_kept}
use Rattle.bw_commands.proofs.Kept.{kept_of-short, request_of_kept-text}
use Rattle.bw_commands.proofs.command.Command.of_plain.Goals as goal

pub returns-clause-known : goal.returns-clause-known
returns-clause-known c =
    let line = c.args.line.text.now in
    let short : length line ≤ 65536 = omega (arith, c.args.line.short) in
    let utf8 : IsUtf8 line = subst IsUtf8 c.text-text.ensures c.text-text.utf8 in
    let kept : command_of_line line ≡ request_of_kept (kept_of line) =
    sym (ap request_of_kept (kept_of-short line short) ∙ request_of_kept-text line utf8) in
    subst (λ r. IfSome c.plain_command.result (λ x. r ≡ Ok (meaning_of x))) kept
    c.plain_command.ensures.known
