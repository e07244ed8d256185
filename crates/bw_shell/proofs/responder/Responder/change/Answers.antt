-- The goals of `Responder::change` that are answered by hand.
use Rattle.std.proofs.Common.{◌≡◌, ◌∙◌, sym, subst, inl, Ok, Err}
use Rattle.bw_commands.specs.Faults.{error_line}
use Rattle.bw_commands.specs.Parsed.{change_of}
use Rattle.bw_commands.specs.Script.{IsOutcome, Performs, ok_line, outcome_of_command}
use Rattle.bw_commands.specs.ScriptState.{state_of}
use Rattle.bw_shell.specs.Responder.{responder_state}
use Rattle.bw_shell.proofs.Gathered.{Gathers-map}
use Rattle.bw_shell.proofs.responder.Responder.change.Goals as goal

pub returns-in-Ok : goal.returns-in-Ok
returns-in-Ok g c =
    let s = responder_state g.G.Gate.used c.args.self.now in
    let t = state_of g.G.Gate.used c.change.new.self in
    let outcome = outcome_of_command s (change_of c.args.change) in
    let done : Performs s outcome (Ok c.in-Ok.field-0) ok_line t =
    subst (λ r. Performs s outcome r ok_line t) c.in-Ok.is c.change.ensures in
    let is : IsOutcome s outcome ok_line t = inl done in
    Gathers-map g.W.Write.contents c.args.writer.now c.gather.new.writer
    c.args.self.now.waiting.items c.gather.new.waiting.items c.gather.result
    (λ text e. subst (λ l. IsOutcome s outcome l t) (sym e) is)
    (λ text e. (t, subst (λ l. IsOutcome s outcome l t) (sym e) is))
    c.gather.ensures

pub returns-in-Err : goal.returns-in-Err
returns-in-Err g c =
    let s = responder_state g.G.Gate.used c.args.self.now in
    let t = state_of g.G.Gate.used c.change.new.self in
    let u = responder_state g.G.Gate.used c.refuse.new.self in
    let text_is = error_line c.in-Err.fault in
    let outcome = outcome_of_command s (change_of c.args.change) in
    let done : Performs {U = Unit {0}} s outcome (Err c.in-Err.fault) ok_line t =
    subst (λ r. Performs s outcome r ok_line t) c.in-Err.is c.change.ensures in
    let same : u ≡ s = c.refuse.ensures.state ∙ done.0 in
    let is : IsOutcome s outcome text_is u =
    subst (IsOutcome s outcome text_is) (sym same) done.1 in
    Gathers-map g.W.Write.contents c.args.writer.now c.refuse.new.writer
    c.args.self.now.waiting.items c.refuse.new.self.waiting.items c.refuse.result
    (λ text e. subst (λ l. IsOutcome s outcome l u) (sym e) is)
    (λ text e. (u, subst (λ l. IsOutcome s outcome l u) (sym e) is))
    c.refuse.ensures.gathers
