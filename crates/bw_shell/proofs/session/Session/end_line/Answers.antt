-- The goals of `Session::end_line` that are answered by hand.
use Rattle.std.proofs.Common.{rules, ◌≡◌, ◌∙◌, ◌++◌, [], Some, Err, ap, sym, subst, refl, length}
use Rattle.std.proofs.Common.{append-nil}
use Rattle.std.proofs.lemmas.List.{nil_from_length}
use Rattle.bw_commands.specs.Script.{kept_of, IsAnswer}
use Rattle.bw_shell.specs.Piece.{bytes_of}
use Rattle.bw_shell.specs.Responder.{responder_state}
use Rattle.bw_shell.specs.Scan.{Scan, kept_after}
use Rattle.bw_shell.proofs.Scanning.{TakesLine-kept, kept_after-kept_of}
use Rattle.bw_shell.proofs.Gathered.{Gathers-err, Gathers-from, Gathers-map}
use Rattle.bw_shell.proofs.session.Session.end_line.Goals as goal

pub returns-then-is_empty : goal.returns-then-is_empty
returns-then-is_empty g c =
    let s = responder_state g.G.Gate.used c.args.self.now.responder in
    let t = responder_state g.G.Gate.used c.reply.new.self in
    let line = c.args.self.now.line.items in
    let zero : length line ≡ 0 = search rules in
    let empty = nil_from_length line zero in
    let front = bytes_of c.args.front in
    let same : kept_of front ≡ kept_after (kept_of line) front =
    rw empty (sym (kept_after-kept_of [] front)) in
    Gathers-map g.W.Write.contents c.args.writer.now c.reply.new.writer
    c.args.self.now.responder.waiting.items c.reply.new.self.waiting.items c.reply.result
    (λ text p. TakesLine-kept s t front line line front text same empty p)
    (λ text p. (
      record { state = p.0; kept = Some [] },
      TakesLine-kept s p.0 front line [] front text same refl p.1,
    ))
    c.reply.ensures

pub returns-in-Err : goal.returns-in-Err
returns-in-Err g c =
    let s = responder_state g.G.Gate.used c.args.self.now.responder in
    let line = c.args.self.now.line.items in
    let whole = c.as_slice.result.now in
    let state : responder_state g.G.Gate.used c.keep.new.self.responder ≡ s =
    ap (λ (m : Scan). m.state) c.keep.ensures.scan in
    let front = bytes_of c.args.front in
    let same : kept_of whole ≡ kept_after (kept_of line) front =
    ap kept_of c.as_slice.ensures.value ∙ ap (λ (m : Scan). m.kept) c.keep.ensures.scan
    ∙ ap (kept_after (kept_of line)) c.bytes.ensures in
    Gathers-err g.W.Write.contents c.args.writer.now c.reply-2.new.writer
    c.args.self.now.responder.waiting.items c.reply-2.new.self.waiting.items _ c.in-Err.fault
    (λ text p. (
      [],
      (
        record { state = p.0; kept = Some [] },
        TakesLine-kept s p.0 whole line [] front (text ++ []) same refl
            (subst (λ l. IsAnswer s whole l p.0) (sym (append-nil text))
            (subst (λ r. IsAnswer r whole text p.0) state p.1)),
      ),
    ))
    (Gathers-from g.W.Write.contents c.args.writer.now c.reply-2.new.writer
    c.keep.new.self.responder.waiting.items c.args.self.now.responder.waiting.items
    c.reply-2.new.self.waiting.items (Err c.in-Err.fault) c.keep.ensures.waits c.in-Err.ensures)
