-- The goals of `weight_between` that are answered by hand.
use Rattle.std.proofs.Common.{ℕ, ◌-◌, ◌≤◌, ◌<◌, ◌≡◌, inl, inr, arith}
use Rattle.bw_owned.proofs.shares.weight_between.Goals as goal

le_both : (a b x y : ℕ) → a ≡ x → b ≡ y → a ≤ b → x ≤ y
le_both a b x y one two within = rw one at (rw two at within)

lt_both : (a b x y : ℕ) → a ≡ x → b ≡ y → a < b → x < y
lt_both a b x y one two within = rw one at (rw two at within)

-- The weight found is not shown to be on the curve. So it is the greatest.
pub returns-then-curve-height-clause-none : goal.returns-then-curve-height-clause-none
returns-then-curve-height-clause-none c =
    let short = lt_both c.height.result c.curve.result _ _ c.height.ensures c.curve.ensures
    c.if-curve-height.true in
    record {
      weight = c.nearest-weight.result.weight;
      ten_most = c.logarithm_above-ten_most.result;
      ten_least = c.logarithm_below-ten_least.result;
      shares_most = c.logarithm_above-shares_most.result;
      shares_least = c.logarithm_below-shares_least.result;
      ten_near = c.logarithm_above-ten_most.ensures.close;
      ten_within = c.logarithm_below-ten_least.ensures.close;
      shares_near = c.logarithm_above-shares_most.ensures.close;
      shares_within = c.logarithm_below-shares_least.ensures.close;
      under = inr (c.nearest-weight.result.least, c.nearest-weight.ensures.close, short);
      on = elim c.nearest-weight.ensures.on [
        | inl greatest ↦ inl greatest
        | inr reached ↦ absurd (omega (arith, short, reached))
      ];
    }

-- The weight before it is not shown to be under the curve.
pub returns-then-height-curve-clause-none : goal.returns-then-height-curve-clause-none
returns-then-height-curve-clause-none c = record {
  weight = c.nearest-weight.result.weight - 1;
  ten_most = c.logarithm_above-ten_most.result;
  ten_least = c.logarithm_below-ten_least.result;
  shares_most = c.logarithm_above-shares_most.result;
  shares_least = c.logarithm_below-shares_least.result;
  ten_near = c.logarithm_above-ten_most.ensures.close;
  ten_within = c.logarithm_below-ten_least.ensures.close;
  shares_near = c.logarithm_above-shares_most.ensures.close;
  shares_within = c.logarithm_below-shares_least.ensures.close;
  under = elim c.nearest-weight.ensures.under [
    | inl least ↦ inl (omega (arith, least))
    | inr under ↦ inr (c.nearest-weight.result.before, c.nearest-weight.ensures.before, under)
  ];
  on = inr (
    c.logarithm_above.result,
    c.logarithm_above.ensures.close,
    le_both c.curve-2.result c.height-2.result _ _ c.curve-2.ensures c.height-2.ensures
        c.if-height-curve.true,
  );
}

pub returns-clause-weight : goal.returns-clause-weight
returns-clause-weight c = record {
  ten_most = c.logarithm_above-ten_most.result;
  ten_least = c.logarithm_below-ten_least.result;
  shares_most = c.logarithm_above-shares_most.result;
  shares_least = c.logarithm_below-shares_least.result;
  weight_least = c.nearest-weight.result.least;
  before_most = c.logarithm_above.result;
  ten_below = c.logarithm_below-ten_least.ensures.below;
  ten_above = c.logarithm_above-ten_most.ensures.above;
  shares_below = c.logarithm_below-shares_least.ensures.below;
  shares_above = c.logarithm_above-shares_most.ensures.above;
  weight_below = c.nearest-weight.ensures.least;
  before_above = c.logarithm_above.ensures.above;
  on_or_above = le_both c.curve.result c.height.result _ _ c.curve.ensures c.height.ensures
      c.if-curve-height.false;
  before_under = lt_both c.height-2.result c.curve-2.result _ _ c.height-2.ensures
      c.curve-2.ensures c.if-height-curve.false;
}
