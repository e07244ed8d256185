-- The goals of `answer` that are answered by hand.
use Rattle.std.proofs.Common.{rules, ◌≡◌, ◌∙◌, subst}
use Rattle.std.specs.Io.KnownBytes.{Appends}
use Rattle.bw_text_check.specs.CheckText.{line_of}
use Rattle.bw_streams.specs.Fronts.{AppendsFront}
use Rattle.bw_streams.specs.Watched.{inner_of}
use Rattle.bw_streams.proofs.CallerLemmas.{OnOk-map}
use Rattle.bw_text_check.proofs.text_check.answer.Goals as goal

pub returns-clause-ok : goal.returns-clause-ok
returns-clause-ok g c =
    let line : c.as_slice.result.now ≡ line_of c.args.finding = search rules in
    OnOk-map c.send_line.result
    (λ p. subst (λ l. Appends (g.W.Write.contents (inner_of c.args.writer.now))
    (g.W.Write.contents (inner_of c.send_line.new.writer)) l) (p.1 ∙ line) p.2)
    c.send_line.ensures.writes.ok

pub returns-clause-write : goal.returns-clause-write
returns-clause-write g c = λ h.
    let line : c.as_slice.result.now ≡ line_of c.args.finding = search rules in
    let p = rw h at c.send_line.ensures.writes.err in
    subst (λ l. AppendsFront (g.W.Write.contents (inner_of c.args.writer.now))
    (g.W.Write.contents (inner_of c.send_line.new.writer)) l) (p.1 ∙ line) p.2
