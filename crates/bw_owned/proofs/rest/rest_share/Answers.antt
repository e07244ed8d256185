-- The goal of `rest_share` that is answered by hand.
use Rattle.std.proofs.Common.{ℕ, ◌≡◌, ◌+◌, ◌∙◌, arith, ap, sym}
use Rattle.std.specs.Prelude.{min}
use Rattle.bw_owned.specs.declared.rest.TheConstants.{MOST_TOLD}
use Rattle.bw_owned.specs.Rest.{own_weight, weight_beside, beside, up_to}
use Rattle.bw_owned.proofs.Rests.{cut_above, up_to-more}
use Rattle.bw_owned.proofs.rest.rest_share.Goals as goal

pub loop-k-preserved : goal.loop-k-preserved
loop-k-preserved c =
    let kept = c.loop-k.invariant in
    let own = c.args.own.now in
    let others = c.args.others.now in
    let k = c.loop-k.k in
    let whole = c.loop-k.whole in
    let next = c.above-whole.result in
    let level : next ≡ min (whole + beside (own_weight own k) (weight_beside others k) whole) MOST_TOLD =
    c.above-whole.ensures.value
    ∙ ap (λ (n : ℕ). min (whole + beside n c.weight_beside.result whole) MOST_TOLD) c.max.ensures
    ∙ ap (λ (n : ℕ). min (whole + beside (own_weight own k) n whole) MOST_TOLD)
    c.weight_beside.ensures.value in
    let more = cut_above (up_to c.args.slices own others k) next whole MOST_TOLD
    (beside (own_weight own k) (weight_beside others k)) kept.whole_is level in
    let no_less = kept.no_less in
    let range = c.above-whole.ensures.range in
    record {
      whole_is = more
          ∙ ap (λ (n : ℕ). min n MOST_TOLD) (sym (up_to-more c.args.slices own others k));
      no_less = let above = range.0 in omega (arith, no_less, above);
      range = range.1;
    }
