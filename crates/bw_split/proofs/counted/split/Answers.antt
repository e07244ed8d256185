-- The goals of `split` that are answered by hand.
use Rattle.std.proofs.Common.{◌≡◌, ℕ, ◌++◌, length, take, drop, ap, ◌∙◌, arith}
use Rattle.std.proofs.Math.Seq.{take-append_seam}
use Rattle.std.proofs.lemmas.Result.{IfOk-weaker}
use Rattle.bw_model.specs.Split.{IsBestSplit}
use Rattle.bw_split.specs.Conditions.{cut_at}
use Rattle.bw_split.proofs.Cut.{cut-none, cut-CanSplit, cut-IsBestSplit}
use Rattle.bw_split.proofs.counted.split.Goals as goal
use Rattle.bw_model.specs.declared.limits.TheConstants.{MAX_WEIGHT}

pub share_in_place-requires : goal.share_in_place-requires
share_in_place-requires c =
    let weights_are : c.as_slice.result.now ≡ c.args.weights.now =
    c.as_slice.ensures.value ∙ c.in_ok-narrow_weights.ensures
    ∙ cut-none MAX_WEIGHT c.args.weights.now (λ k below. (c.requires.weights_in_range k below).1) in
    let most_is : c.as_mut_slice.result.now ≡ cut_at c.args.amount c.args.most.now =
    c.as_mut_slice.ensures.value ∙ c.in_ok-parts.ensures in
    rw (weights_are, most_is)
    (cut-CanSplit c.args.amount c.args.weights.now c.args.most.now c.requires)

pub returns : goal.returns
returns c =
    let weights_are : c.as_slice.result.now ≡ c.args.weights.now =
    c.as_slice.ensures.value ∙ c.in_ok-narrow_weights.ensures
    ∙ cut-none MAX_WEIGHT c.args.weights.now (λ k below. (c.requires.weights_in_range k below).1) in
    let most_is : c.as_mut_slice.result.now ≡ cut_at c.args.amount c.args.most.now =
    c.as_mut_slice.ensures.value ∙ c.in_ok-parts.ensures in
    let written = c.share_in_place.new.most in
    let long : c.in_ok-parts.parts.len ≡ length written =
    omega (arith, c.share_in_place.ensures.split.lengths, c.as_mut_slice.ensures.len) in
    let behind = drop (length written) c.in_ok-parts.parts.items in
    let parts_are : c.as_slice-2.result.now ≡ written = c.as_slice-2.ensures.value
    ∙ ap (λ (n : ℕ). take n (written ++ behind)) long ∙ take-append_seam written behind in
    let cut : IsBestSplit c.args.amount c.args.weights.now (cut_at c.args.amount c.args.most.now)
    c.share_in_place.new.most = rw (weights_are, most_is) at c.share_in_place.ensures in
    let best : IsBestSplit c.args.amount c.args.weights.now c.args.most.now
    c.as_slice-2.result.now = rw parts_are
    (cut-IsBestSplit c.args.amount c.args.weights.now c.args.most.now c.share_in_place.new.most cut)
    in
    record {
      best = IfOk-weaker c.widened.result (λ wide. wide.items ≡ c.as_slice-2.result.now)
          (λ parts. IsBestSplit c.args.amount c.args.weights.now c.args.most.now parts.items)
          (λ v is. rw is best) c.widened.ensures;
    }
