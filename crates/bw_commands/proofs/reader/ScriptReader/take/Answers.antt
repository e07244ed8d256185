-- The goals of `ScriptReader::take` that are answered by hand.
use Rattle.std.proofs.Common.{true, subst, sym}
use Rattle.bw_commands.specs.Parsed.{change_of, meaning_of}
use Rattle.bw_commands.specs.State.{State}
use Rattle.bw_commands.specs.Script.{outcome_of_command}
use Rattle.bw_commands.specs.Reading.{Takes}
use Rattle.bw_commands.proofs.Taken.{takes_change}
use Rattle.bw_commands.proofs.reader.ScriptReader.take.Goals as goal

pub returns-in-Change : goal.returns-in-Change
returns-in-Change c =
    let outcome = λ (s : State). outcome_of_command s (change_of c.in-Change.change) in
    let after = c.apply_change.new.hierarchy in
    let taken = takes_change outcome c.self.inside.hierarchy after c.apply_change.result
    (c.apply_change.ensures.performs (λ leaf. true)) (c.apply_change.ensures.refused (λ leaf. true)) in
    subst (λ m. Takes (λ s. outcome_of_command s (meaning_of m)) c.args.self.now after
    c.apply_change.result) (sym c.in-Change.is)
    (subst (λ h. Takes outcome h after c.apply_change.result) c.self.view_is taken)
