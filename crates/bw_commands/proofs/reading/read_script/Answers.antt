-- The goals of `read_script` that are answered by hand.
use Rattle.std.proofs.Common.{◌≡◌, ◌++◌, ◌∙◌, [], sym, subst, ap, append_assoc, append-nil, arith}
use Rattle.std.proofs.Common.{rules, List, length}
use Rattle.std.proofs.lemmas.List.{nil_from_length}
use Rattle.bw_commands.specs.Lines.{lines_of}
use Rattle.bw_commands.specs.Reading.{in_use, TakesLines, IsRead}
use Rattle.bw_commands.specs.declared.reading.RefusedLine.{RefusedLine}
use Rattle.bw_commands.proofs.Taken.{takes_more, takes_none}
use Rattle.bw_commands.proofs.reading.read_script.Goals as goal

pub loop-rest-preserved : goal.loop-rest-preserved
loop-rest-preserved c =
    let t = c.in_ok-take_line.ensures in
    let first : List RefusedLine = t.0 in
    let refused_is = t.2 in
    record {
      taken = λ more last behind.
          subst (λ r. IsRead c.args.shape c.args.text.now r last)
          (sym (ap (λ r. r ++ more) refused_is
          ∙ append_assoc c.loop-rest.refused.items first more))
          (c.loop-rest.invariant.taken (first ++ more) last
          (takes_more (in_use c.loop-rest.reader) (in_use c.take_line.new.reader) (in_use last)
          c.loop-rest.number c.loop-rest.rest.now c.first_line.result.0.now c.first_line.result.1.now
          first more c.first_line.ensures.lines t.1 behind));
      counted = omega (arith, c.loop-rest.invariant.counted, c.first_line.ensures.shorter);
    }

pub returns : goal.returns
returns c =
    let zero : length c.loop-rest.rest.now ≡ 0 = search rules in
    let none : c.loop-rest.rest.now ≡ [] = nil_from_length c.loop-rest.rest.now zero in
    let read = c.loop-rest.invariant.taken [] c.loop-rest.reader
    (subst (λ l. TakesLines (in_use c.loop-rest.reader) c.loop-rest.number (lines_of l) []
    (in_use c.loop-rest.reader)) (sym none) (takes_none (in_use c.loop-rest.reader) c.loop-rest.number)) in
    subst (λ r. IsRead c.args.shape c.args.text.now r c.loop-rest.reader)
    (append-nil c.loop-rest.refused.items) read
