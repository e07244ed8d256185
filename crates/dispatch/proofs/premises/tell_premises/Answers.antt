-- The goals of `tell_premises` that are answered by hand.
use Rattle.std.proofs.Common.{rules, arith, sym, ap, ◌∙◌, ◌≡◌, ◌∷◌, ◌+◌, None, Ok}
use Rattle.bw_text.specs.Words.{words}
use Rattle.dispatch.specs.declared.premises.Premises.{Premises}
use Rattle.dispatch.specs.Input.{input_of}
use Rattle.dispatch.specs.Premises.{premises_from}
use Rattle.dispatch.specs.Replay.{input_fault, input_after}
use Rattle.dispatch.specs.Reservation.{Reservations}
use Rattle.dispatch.proofs.Lines.{parts, line_bound, lines_go_on}
use Rattle.dispatch.proofs.Told.{next_told}
use Rattle.dispatch.proofs.premises.tell_premises.Goals as goal

pub overflow_add-line : goal.overflow_add-line
overflow_add-line c =
    let split : parts c.loop-words.rest.now ≡ c.in-Some.words.now ∷ parts c.in-Some.next.now =
    search rules in
    let short = line_bound c.args.text.now c.loop-words.rest.now c.in-Some.words.now
    c.in-Some.next.now c.loop-words.line split c.loop-words.invariant.lines in
    omega (arith, short)

pub loop-words-preserved : goal.loop-words-preserved
loop-words-preserved c =
    let split : parts c.loop-words.rest.now ≡ c.in-Some.words.now ∷ parts c.in-Some.next.now =
    search rules in
    let is : input_of (words c.in-Some.words.now) ≡ Ok c.in-Ok.input = search rules in
    let fine : input_fault c.loop-words.scheduler c.in-Ok.input ≡ None =
    sym c.in_ok-follow.ensures.0 ∙ c.in_default-2.is in
    let state : c.follow.new.scheduler ≡ input_after c.loop-words.scheduler c.in-Ok.input =
    c.in_ok-follow.ensures.1 c.in_default-2.is in
    record {
      told =
          ap (λ (s : Reservations). premises_from s (c.loop-words.line + 1) c.told-after.result
          (parts c.in-Some.next.now)) state
          ∙ ap (λ (p : Premises). premises_from (input_after c.loop-words.scheduler c.in-Ok.input)
          (c.loop-words.line + 1) p (parts c.in-Some.next.now)) c.told-after.ensures
          ∙ sym (next_told c.loop-words.scheduler c.loop-words.line c.loop-words.found
          c.loop-words.rest.now c.in-Some.words.now c.in-Some.next.now c.in-Ok.input split is fine)
          ∙ c.loop-words.invariant.told;
      lines = lines_go_on c.args.text.now c.loop-words.rest.now c.in-Some.words.now
          c.in-Some.next.now c.loop-words.line split c.loop-words.invariant.lines;
    }
