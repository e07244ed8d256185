-- The goals of `Responder::answer` that are answered by hand.
use Rattle.std.proofs.Common.{◌++◌, ap, sym, subst, ◌∙◌}
use Rattle.bw_commands.specs.Parsed.{question_of}
use Rattle.bw_commands.specs.Script.{IsOutcome, outcome_of_command}
use Rattle.bw_commands.specs.State.{State}
use Rattle.bw_shell.specs.Responder.{responder_state}
use Rattle.bw_shell.proofs.Gathered.{Gathers-err, Gathers-first, Gathers-map}
use Rattle.bw_shell.proofs.Scanning.{answered}
use Rattle.bw_shell.proofs.responder.Responder.answer.Goals as goal

pub returns-in-Err : goal.returns-in-Err
returns-in-Err g c =
    let s = responder_state g.G.Gate.used c.args.self.now in
    let outcome = outcome_of_command s (question_of c.args.question) in
    let any = answered s outcome in
    Gathers-err g.W.Write.contents c.args.writer.now c.flush_before.new.writer
    c.args.self.now.waiting.items c.flush_before.new.waiting.items _ c.in-Err.fault
    (λ text e. (
      any.0,
      subst (λ l. (t : State) × IsOutcome s outcome (l ++ any.0) t) (sym e) (any.1, any.2),
    ))
    c.in-Err.ensures.gathers

pub returns : goal.returns
returns g c =
    let s = responder_state g.G.Gate.used c.args.self.now in
    let outcome = outcome_of_command s (question_of c.args.question) in
    let t = responder_state g.G.Gate.used c.form.new.self in
    let none = c.in-Ok.ensures.gathers.ok in
    let is = c.form.ensures.outcome in
    Gathers-first g.W.Write.contents c.args.writer.now c.flush_before.new.writer c.gather.new.writer
    c.args.self.now.waiting.items c.form.new.self.waiting.items c.gather.new.waiting.items
    c.gather.result none.0 none.1 none.3
    (none.4 ∙ ap (λ l. none.1 ++ l) (sym c.form.ensures.waits)) none.2
    (Gathers-map g.W.Write.contents c.flush_before.new.writer c.gather.new.writer
    c.form.new.self.waiting.items c.gather.new.waiting.items c.gather.result
    (λ text e. subst (λ l. IsOutcome s outcome l t) (sym (e ∙ c.as_slice.ensures.value)) is)
    (λ text e.
    (t, subst (λ l. IsOutcome s outcome l t) (sym (e ∙ c.as_slice.ensures.value)) is))
    c.gather.ensures)
