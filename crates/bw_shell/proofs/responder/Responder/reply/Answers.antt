-- The goals of `Responder::reply` that are answered by hand.
use Rattle.std.proofs.Common.{[], Ok, Err, inl, refl, append-nil}
use Rattle.bw_commands.specs.Command as command
use Rattle.bw_commands.specs.Parsed.{change_of, question_of}
use Rattle.bw_streams.proofs.CallerLemmas.{Appends-nil}
use Rattle.bw_shell.specs.Piece.{bytes_of}
use Rattle.bw_shell.specs.Responder.{responder_state}
use Rattle.bw_shell.proofs.Gathered.{Gathers-map}
use Rattle.bw_shell.proofs.Scanning.{line_answers}
use Rattle.bw_shell.proofs.responder.Responder.reply.Goals as goal

pub returns-in-Ok-Nothing : goal.returns-in-Ok-Nothing
returns-in-Ok-Nothing g c =
    let s = responder_state g.G.Gate.used c.args.self.now in
    let asked = rw c.in-Ok-Nothing.field-0-is at c.in-Ok-Nothing.ensures in
    record {
      ok = (
        [],
        [],
        line_answers s (bytes_of c.args.line) [] s (Ok command.Nothing) asked (inl (refl, refl)),
        Appends-nil _,
        append-nil _,
      );
      quiet = c.requires;
      err = tt;
      blame = tt;
      fault = tt;
    }

pub returns-in-Ok-Change : goal.returns-in-Ok-Change
returns-in-Ok-Change g c =
    let s = responder_state g.G.Gate.used c.args.self.now in
    let t = responder_state g.G.Gate.used c.change.new.self in
    let line = bytes_of c.args.line in
    let request = Ok (change_of c.in-Ok-Change.change) in
    let asked = rw c.in-Ok-Change.field-0-is at c.in-Ok-Change.ensures in
    Gathers-map g.W.Write.contents c.args.writer.now c.change.new.writer
    c.args.self.now.waiting.items c.change.new.self.waiting.items c.change.result
    (λ text p. line_answers s line text t request asked p)
    (λ text p. (p.0, line_answers s line text p.0 request asked p.1))
    c.change.ensures

pub returns-in-Ok-Question : goal.returns-in-Ok-Question
returns-in-Ok-Question g c =
    let s = responder_state g.G.Gate.used c.args.self.now in
    let t = responder_state g.G.Gate.used c.answer.new.self in
    let line = bytes_of c.args.line in
    let request = Ok (question_of c.in-Ok-Question.question) in
    let asked = rw c.in-Ok-Question.field-0-is at c.in-Ok-Question.ensures in
    Gathers-map g.W.Write.contents c.args.writer.now c.answer.new.writer
    c.args.self.now.waiting.items c.answer.new.self.waiting.items c.answer.result
    (λ text p. line_answers s line text t request asked p)
    (λ text p. (p.0, line_answers s line text p.0 request asked p.1))
    c.answer.ensures

pub returns-in-Err : goal.returns-in-Err
returns-in-Err g c =
    let s = responder_state g.G.Gate.used c.args.self.now in
    let t = responder_state g.G.Gate.used c.refuse.new.self in
    let line = bytes_of c.args.line in
    let request = Err c.in-Err.refusal in
    Gathers-map g.W.Write.contents c.args.writer.now c.refuse.new.writer
    c.args.self.now.waiting.items c.refuse.new.self.waiting.items c.refuse.result
    (λ text e. line_answers s line text t request c.in-Err.ensures
    (inl (e, c.refuse.ensures.state)))
    (λ text e. (
      t,
      line_answers s line text t request c.in-Err.ensures
          (inl (e, c.refuse.ensures.state)),
    ))
    c.refuse.ensures.gathers
