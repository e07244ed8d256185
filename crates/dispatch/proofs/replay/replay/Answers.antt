-- The goals of `replay` that are answered by hand.
use Rattle.std.proofs.Common.{rules, arith, sym, ap, ◌∙◌, ◌≡◌, ◌∷◌, ◌+◌, Some, None, Ok, Err}
use Rattle.bw_text.specs.Words.{words}
use Rattle.dispatch.specs.Input.{input_of}
use Rattle.dispatch.specs.Replay.{input_fault, input_after, finding_from}
use Rattle.dispatch.specs.Reservation.{Reservations}
use Rattle.dispatch.proofs.Lines.{parts, refused_line, refused_input, goes_on, line_bound}
use Rattle.dispatch.proofs.Lines.{lines_go_on, one_pick}
use Rattle.dispatch.proofs.replay.replay.Goals as goal

pub returns-in-Err : goal.returns-in-Err
returns-in-Err c =
    let split : parts c.loop-words.rest.now ≡ c.in-Some.words.now ∷ parts c.in-Some.next.now =
    search rules in
    let is : input_of (words c.in-Some.words.now) ≡ Err c.in-Err.fault = search rules in
    sym (refused_line c.loop-words.scheduler c.loop-words.line c.loop-words.picks
    c.loop-words.rest.now c.in-Some.words.now c.in-Some.next.now c.in-Err.fault split is)
    ∙ c.loop-words.invariant.found

pub returns-in-Some-2 : goal.returns-in-Some-2
returns-in-Some-2 c =
    let split : parts c.loop-words.rest.now ≡ c.in-Some.words.now ∷ parts c.in-Some.next.now =
    search rules in
    let is : input_of (words c.in-Some.words.now) ≡ Ok c.in-Ok.input = search rules in
    let faulty : input_fault c.loop-words.scheduler c.in-Ok.input ≡ Some c.in-Some-2.fault =
    sym c.in_ok-fault.ensures.0 ∙ c.in-Some-2.is in
    sym (refused_input c.loop-words.scheduler c.loop-words.line c.loop-words.picks
    c.loop-words.rest.now c.in-Some.words.now c.in-Some.next.now c.in-Ok.input c.in-Some-2.fault
    split is faulty)
    ∙ c.loop-words.invariant.found

pub overflow_add-line : goal.overflow_add-line
overflow_add-line c =
    let split : parts c.loop-words.rest.now ≡ c.in-Some.words.now ∷ parts c.in-Some.next.now =
    search rules in
    let short = line_bound c.args.text.now c.loop-words.rest.now c.in-Some.words.now
    c.in-Some.next.now c.loop-words.line split c.loop-words.invariant.lines in
    omega (arith, short)

pub overflow_add-picks : goal.overflow_add-picks
overflow_add-picks c =
    let split : parts c.loop-words.rest.now ≡ c.in-Some.words.now ∷ parts c.in-Some.next.now =
    search rules in
    let short = line_bound c.args.text.now c.loop-words.rest.now c.in-Some.words.now
    c.in-Some.next.now c.loop-words.line split c.loop-words.invariant.lines in
    omega (
      arith,
      short,
      c.loop-words.invariant.picks,
      c.picks_in-picks.ensures,
      one_pick c.in-Ok.input,
    )

pub loop-words-preserved : goal.loop-words-preserved
loop-words-preserved c =
    let split : parts c.loop-words.rest.now ≡ c.in-Some.words.now ∷ parts c.in-Some.next.now =
    search rules in
    let is : input_of (words c.in-Some.words.now) ≡ Ok c.in-Ok.input = search rules in
    let fine : input_fault c.loop-words.scheduler c.in-Ok.input ≡ None =
    sym c.in_ok-fault.ensures.0 ∙ c.in_default-2.is in
    let state : c.follow.new.scheduler ≡ input_after c.loop-words.scheduler c.in-Ok.input =
    c.in_ok-fault.ensures.1 c.in_default-2.is in
    record {
      found =
          ap (λ (s : Reservations). finding_from s (c.loop-words.line + 1)
          (c.loop-words.picks + c.picks_in-picks.result) (parts c.in-Some.next.now)) state
          ∙ ap (λ n. finding_from (input_after c.loop-words.scheduler c.in-Ok.input)
          (c.loop-words.line + 1) (c.loop-words.picks + n) (parts c.in-Some.next.now))
          c.picks_in-picks.ensures
          ∙ sym (goes_on c.loop-words.scheduler c.loop-words.line c.loop-words.picks
          c.loop-words.rest.now c.in-Some.words.now c.in-Some.next.now c.in-Ok.input split is fine)
          ∙ c.loop-words.invariant.found;
      lines = lines_go_on c.args.text.now c.loop-words.rest.now c.in-Some.words.now
          c.in-Some.next.now c.loop-words.line split c.loop-words.invariant.lines;
      picks = omega (
        arith,
        c.loop-words.invariant.picks,
        c.picks_in-picks.ensures,
        one_pick c.in-Ok.input,
      );
    }
