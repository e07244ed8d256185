-- The goals of `ScriptReader::take_line` that are answered by hand.
use Rattle.std.proofs.Common.{refl, sym, Ok, Err}
use Rattle.std.proofs.lemmas.Result.{err_from_is_err_and}
use Rattle.bw_commands.specs.Parsed.{meaning_of}
use Rattle.bw_commands.specs.Script.{outcome_of, outcome_of_command}
use Rattle.bw_commands.specs.Reading.{in_use}
use Rattle.bw_commands.proofs.Taken.{takes_same, outcome_by}
use Rattle.bw_commands.proofs.reader.ScriptReader.take_line.Goals as goal

pub returns-in_err-command : goal.returns-in_err-command
returns-in_err-command c =
    let p = err_from_is_err_and c.from_residual.result c.from_residual.ensures.1 in
    rw (p.1, p.2) (
      refl,
      λ other. sym (outcome_by (in_use c.args.self.now) c.args.line.now
          (Err c.in_err-command.field-0.0) c.in_err-command.ensures),
    )

pub returns : goal.returns
returns c =
    takes_same (λ s. outcome_of_command s (meaning_of c.in_ok-command.command))
    (λ s. outcome_of s c.args.line.now) c.args.self.now c.take.new.self c.take.result
    (outcome_by (in_use c.args.self.now) c.args.line.now (Ok (meaning_of c.in_ok-command.command))
    c.in_ok-command.ensures) c.take.ensures
