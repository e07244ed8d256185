-- The goals of `write_parts` that are answered by hand.
use Rattle.std.proofs.Common.{◌≡◌, ◌+◌, ◌<◌, ℕ, length, get_or, arith, ap, refl, ◌∙◌}
use Rattle.std.proofs.Common.{inl, inr, ltb}
use Rattle.std.proofs.lemmas.Bool.{cases_lt, ltb-true, lt-ltb}
use Rattle.bw_split.specs.Levels.{taken}
use Rattle.bw_split.proofs.Takes.{each_takes}
use Rattle.bw_split.proofs.Picks.{IsWritten, written-none, written-next, written-IsGiven, written-rest}
use Rattle.bw_split.proofs.Picks.{given-IsBestSplit}
use Rattle.bw_split.proofs.level_search.write_parts.Goals as goal

pub loop-i-init : goal.loop-i-init
loop-i-init c = record {
  written = written-none c.args.found.level c.args.found.rest c.args.weights.now c.args.most.now;
  rounds = refl;
  picks = omega arith;
  counted = omega arith;
}

pub loop-i-preserved : goal.loop-i-preserved
loop-i-preserved c =
    let inv = c.loop-i.invariant in
    let weight = get_or c.args.weights.now c.loop-i.i 0 in
    let next = each_takes (c.args.found.level + 1) c.args.weights.now c.args.most.now c.loop-i.i in
    let unwritten : get_or c.loop-i.most c.loop-i.i 0 ≡ get_or c.args.most.now c.loop-i.i 0 =
    inv.written.unwritten c.loop-i.i (omega arith) in
    let light = (c.requires.can.weights_in_range c.loop-i.i c.loop-i-test.true).1 in
    let part_is : c.takes-part.result
    ≡ each_takes c.args.found.level c.args.weights.now c.args.most.now c.loop-i.i =
    c.takes-part.ensures.taken
    ∙ ap (λ (m : ℕ). taken c.args.found.level weight m) unwritten in
    let next_is : c.takes.result ≡ next =
    c.takes.ensures.taken
    ∙ ap (λ (m : ℕ). taken (c.args.found.level + 1) weight m) unwritten in
    let some : 0 < c.loop-i.left = omega (arith, c.if-left-eq0.false) in
    record {
      written = written-next c.args.found.level c.args.found.rest c.loop-i.left c.loop-i.i
          c.args.weights.now c.args.most.now c.loop-i.most inv.written
          (omega (arith, c.loop-i-test.true, c.requires.can.one_each)) light
          (ltb c.takes-part.result c.takes.result) c.from-left.result c.part_with.result c.from-left.ensures
          (λ more. c.part_with.ensures.more more ∙ omega (arith, part_is))
          (λ same. c.part_with.ensures.same same ∙ part_is)
          (λ more.
          let above = ltb-true c.takes-part.result c.takes.result more in
          (some, omega (arith, above, part_is, next_is)))
          (λ not_more _. elim (cases_lt c.takes-part.result c.takes.result) [
            | inl above ↦ absurd (not_more (lt-ltb c.takes-part.result c.takes.result above))
            | inr below ↦ omega (arith, below, part_is, next_is)
          ]);
      rounds = c.part_with.ensures.rounds ∙ inv.rounds;
      picks = omega (arith, c.part_with.ensures.picks, inv.picks);
      counted = omega (arith, c.part_with.ensures.counted, inv.counted);
    }

pub returns-clause-best : goal.returns-clause-best
returns-clause-best c =
    let all : c.loop-i.i ≡ length c.args.weights.now = omega arith in
    let w : IsWritten c.args.found.level c.args.found.rest c.loop-i.left (length c.args.weights.now)
    c.args.weights.now c.args.most.now c.loop-i.most = rw all at c.loop-i.invariant.written in
    given-IsBestSplit c.args.found.level c.args.found.rest w.from c.args.weights.now
    c.args.most.now c.loop-i.most
    (written-IsGiven c.args.found.level c.args.found.rest c.loop-i.left c.args.amount
    c.args.weights.now c.args.most.now c.loop-i.most c.requires.can.one_each c.requires.rest
    c.requires.enough w)
    c.args.found.rest c.args.amount c.requires.can.one_each c.requires.can.weights_in_range
    c.requires.rest refl

pub returns-then-left-eq0-clause-best : goal.returns-then-left-eq0-clause-best
returns-then-left-eq0-clause-best c =
    let w = c.loop-i.invariant.written in
    given-IsBestSplit c.args.found.level c.args.found.rest w.from c.args.weights.now
    c.args.most.now c.write_rest.new.most
    (written-rest c.args.found.level c.args.found.rest c.loop-i.left c.loop-i.i
    c.args.weights.now c.args.most.now c.loop-i.most c.write_rest.new.most c.if-left-eq0.true
    c.requires.can.one_each (omega (arith, c.loop-i-test.true)) w c.write_rest.ensures.len
    c.write_rest.ensures.others c.write_rest.ensures.written)
    c.args.found.rest c.args.amount c.requires.can.one_each c.requires.can.weights_in_range
    c.requires.rest refl
