-- The goals of `search_level` that are answered by hand.
use Rattle.std.proofs.Common.{◌≤◌, ◌<◌, ◌+◌, ℕ, List, length, get_or, arith, refl, ◌∙◌, inl}
use Rattle.std.proofs.Common.{inr}
use Rattle.std.proofs.lemmas.Bool.{cases_lt}
use Rattle.bw_model.specs.declared.limits.TheConstants.{MAX_WEIGHT}
use Rattle.bw_split.specs.Levels.{taken_by_all}
use Rattle.bw_split.proofs.Takes.{by_all-zero, by_all-one, by_all-mono}
use Rattle.bw_split.proofs.Search.{next_reach}
use Rattle.bw_split.proofs.level_search.search_level.Goals as goal
use Rattle.bw_split.proofs.level_search.search_level.Goals.{then-total-amount, else-total-amount}

pub loop-round-preserved : goal.loop-round-preserved
loop-round-preserved c =
    let inv = c.loop-round.invariant in
    let both = next_reach c.loop-round._round c.loop-round.reach c.loop-round-test.true inv.reach in
    let half = both.0 in
    elim c.if-total-amount.branch [
      | then-total-amount w ↦ rw (w.level-is, w.rest-is, w.above-is) (record {
        apart = omega (arith, c.trial-middle.ensures.inside);
        in_range = omega (arith, inv.in_range, c.trial-middle.ensures.inside);
        rest_is = inv.rest_is;
        enough = omega (arith, c.test_level-total.ensures.all, w.if-total-amount.true);
        width = omega (arith, c.trial-middle.ensures.from_level, half);
        reach = half;
        narrow = omega (arith, inv.narrow);
        rounds = omega (arith, c.test_level-total.ensures.rounds, inv.rounds);
        picks = c.test_level-total.ensures.picks ∙ inv.picks;
        first = λ none. absurd (omega (arith, none));
      })
      | else-total-amount w ↦ rw (w.level-is, w.rest-is, w.above-is) (record {
        apart = omega (arith, c.trial-middle.ensures.inside);
        in_range = inv.in_range;
        rest_is = omega (arith, c.test_level-total.ensures.all, w.if-total-amount.false);
        enough = inv.enough;
        width = omega (arith, c.trial-middle.ensures.from_above, half);
        reach = half;
        narrow = omega (arith, inv.narrow);
        rounds = omega (arith, c.test_level-total.ensures.rounds, inv.rounds);
        picks = c.test_level-total.ensures.picks ∙ inv.picks;
        first = λ none. absurd (omega (arith, none));
      })
    ]

pub trial-middle-requires-clause-wide : goal.trial-middle-requires-clause-wide
trial-middle-requires-clause-wide c =
    let inv = c.loop-round.invariant in
    let half = next_reach c.loop-round._round c.loop-round.reach c.loop-round-test.true inv.reach in
    omega (arith, half.1, inv.reach, inv.width)

pub trial-middle-requires-clause-short : goal.trial-middle-requires-clause-short
trial-middle-requires-clause-short c = omega (arith, c.loop-round.invariant.narrow)

-- some amount isn't taken at level 0
starts : (amount level : ℕ) (weights most : List ℕ) → 0 < amount
    → amount ≤ taken_by_all level weights most → 0 < level
starts amount level weights most some enough = elim (cases_lt 0 level) [
  | inl h ↦ h
  | inr h ↦ absurd (let up : taken_by_all level weights most
      ≤ taken_by_all 0 weights most = by_all-mono level 0 weights most h in
      omega (arith, up, some, enough, by_all-zero weights most))
]

-- some amount isn't taken at level 1
above_one : (amount level : ℕ) (weights most : List ℕ)
    → ((k : ℕ) → k < length weights → get_or weights k 0 ≤ MAX_WEIGHT) →
    0 < amount → amount ≤ taken_by_all level weights most → 1 < level
above_one amount level weights most light some enough = elim (cases_lt 1 level) [
  | inl h ↦ h
  | inr h ↦ absurd (let up : taken_by_all level weights most
      ≤ taken_by_all 1 weights most = by_all-mono level 1 weights most h in
      omega (arith, up, some, enough, by_all-one weights most light))
]

pub loop-round-init : goal.loop-round-init
loop-round-init c = record {
  apart = starts c.args.amount c.upper_level-upper.result.level c.args.weights.now c.args.most.now
      c.requires.some c.upper_level-upper.ensures.enough;
  in_range = c.upper_level-upper.ensures.in_range;
  rest_is = omega (arith, by_all-zero c.args.weights.now c.args.most.now);
  enough = c.upper_level-upper.ensures.enough;
  width = omega (arith, c.upper_level-upper.ensures.in_range);
  reach = refl;
  narrow = omega arith;
  rounds = omega arith;
  picks = omega arith;
  first = λ _. (
    above_one c.args.amount c.upper_level-upper.result.level c.args.weights.now c.args.most.now
        (λ k below. (c.requires.can.weights_in_range k below).1) c.requires.some
        c.upper_level-upper.ensures.enough,
    omega (arith, c.requires.some),
  );
}

pub returns-then-above-level-eq1-clause-enough : goal.returns-then-above-level-eq1-clause-enough
returns-then-above-level-eq1-clause-enough c =
    omega (
      arith,
      c.loop-round.invariant.enough,
      by_all-mono c.loop-round.above (c.loop-round.level + 1) c.args.weights.now c.args.most.now
          (omega (arith, c.if-above-level-eq1.true)),
    )

pub returns-then-rest-eq0-clause-enough : goal.returns-then-rest-eq0-clause-enough
returns-then-rest-eq0-clause-enough c =
    omega (
      arith,
      c.loop-round.invariant.rest_is,
      c.if-rest-eq0.true,
      by_all-mono c.loop-round.level (c.loop-round.level + 1) c.args.weights.now c.args.most.now
          (omega arith),
    )
