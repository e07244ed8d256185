-- The goals of `share_among` that are answered by hand.
use Rattle.std.proofs.Common.{◌≡◌, ℕ, List, length, get_or, arith, ap, refl, sym, ◌∙◌}
use Rattle.std.proofs.Common.{inr, take, drop, ◌++◌}
use Rattle.std.proofs.Math.Seq.{take-append_seam}
use Rattle.std.specs.Prelude.{sum}
use Rattle.std.proofs.lemmas.List.{length-map}
use Rattle.bw_model.specs.Groups.{Groups, children_of, weight_of}
use Rattle.bw_model.specs.Plan.{child_weights}
use Rattle.bw_model.specs.Split.{IsBestSplit}
use Rattle.bw_model.proofs.CallerLemmas.{get_or_within}
use Rattle.bw_split.specs.Conditions.{CanSplit}
use Rattle.bw_split.proofs.CallerLemmas.{all-IsBestSplit}
use Rattle.bw_plan.specs.Shared.{CanShare}
use Rattle.bw_plan.proofs.Shares.{children-CutSplit, cut-AreBestParts}
use Rattle.bw_plan.proofs.share.share_among.Goals as goal

-- the amount that was read is what the group has
has : (groups : Groups) (most amounts : List ℕ) (g amount : ℕ) → CanShare groups most amounts g
    → amount ≡ get_or amounts g amount → amount ≡ get_or amounts g 0
has groups most amounts g amount share read =
    read ∙ get_or_within amounts g amount (omega (arith, share.row, share.amount_each))

pub sum_of-requires : goal.sum_of-requires
sum_of-requires c =
    let groups = c.args.instance.now in
    let amount = c.index-amount.result.now in
    let can : CanSplit amount (child_weights groups.rows c.args.g) c.as_slice.result.now =
    children-CutSplit groups c.rows-rows.ensures.valid c.args.most.now c.args.amounts.now.items
    c.args.g amount (child_weights groups.rows c.args.g) c.as_slice.result.now
    c.requires.can_share c.requires.inner
    (has groups c.args.most.now c.args.amounts.now.items c.args.g amount c.requires.can_share
    c.index-amount.ensures)
    refl (c.as_slice.ensures ∙ c.in_ok-mosts.ensures) in
    record { few = omega (arith, can.one_each, can.few) }

pub returns-then-sum_of-amount-clause-shared : goal.returns-then-sum_of-amount-clause-shared
returns-then-sum_of-amount-clause-shared c =
    let groups = c.args.instance.now in
    let before = c.args.amounts.now.items in
    let amount = c.index-amount.result.now in
    let weights = child_weights groups.rows c.args.g in
    let parts = c.as_slice-then-sum_of-amount.result.now in
    let own : amount ≡ get_or before c.args.g 0 =
    has groups c.args.most.now before c.args.g amount c.requires.can_share c.index-amount.ensures in
    let cut = c.as_slice-then-sum_of-amount.ensures ∙ c.in_ok-mosts.ensures in
    let can : CanSplit amount weights parts =
    children-CutSplit groups c.rows-rows.ensures.valid c.args.most.now before c.args.g amount
    weights parts c.requires.can_share c.requires.inner own refl cut in
    let listed : sum parts ≡ sum c.as_slice.result.now =
    ap sum (c.as_slice-then-sum_of-amount.ensures ∙ sym c.as_slice.ensures) in
    let whole : sum parts ≡ amount =
    omega (arith, listed, c.sum_of.ensures, c.if-sum_of-amount.true, can.enough) in (
      parts,
      (λ _ _. cut-AreBestParts groups c.args.most.now before c.args.g amount weights parts parts own
          refl cut
          (all-IsBestSplit amount weights parts can.one_each
          (λ k below. (can.weights_in_range k below).0) whole)),
      c.give.ensures,
    )

pub split_scarce-requires-clause-can : goal.split_scarce-requires-clause-can
split_scarce-requires-clause-can c =
    let groups = c.args.instance.now in
    let before = c.args.amounts.now.items in
    let amount = c.index-amount.result.now in
    children-CutSplit groups c.rows-rows.ensures.valid c.args.most.now before c.args.g amount
    c.as_slice-2.result.now c.as_mut_slice.result.now c.requires.can_share c.requires.inner
    (has groups c.args.most.now before c.args.g amount c.requires.can_share c.index-amount.ensures)
    (c.as_slice-2.ensures ∙ c.in_ok-weights.ensures)
    (c.as_mut_slice.ensures.value ∙ c.in_ok-mosts.ensures)

pub returns-clause-shared : goal.returns-clause-shared
returns-clause-shared c =
    let groups = c.args.instance.now in
    let before = c.args.amounts.now.items in
    let amount = c.index-amount.result.now in
    let parts = c.as_slice-3.result.now in
    let now = c.split_scarce.new.most in
    let behind = drop (length now) c.in_ok-mosts.mosts.items in
    let long : length c.in_ok-mosts.mosts.items ≡ length now =
    omega (arith, c.split_scarce.ensures.best.split.lengths, ap length c.as_mut_slice.ensures.value)
    in
    let written : parts ≡ now = c.as_slice-3.ensures
    ∙ ap (λ (n : ℕ). take n (now ++ behind)) long ∙ take-append_seam now behind in
    let best : IsBestSplit amount c.as_slice-2.result.now c.as_mut_slice.result.now parts =
    rw written c.split_scarce.ensures.best in (
      parts,
      (λ _ _. cut-AreBestParts groups c.args.most.now before c.args.g amount
          c.as_slice-2.result.now c.as_mut_slice.result.now parts
          (has groups c.args.most.now before c.args.g amount c.requires.can_share
          c.index-amount.ensures)
          (c.as_slice-2.ensures ∙ c.in_ok-weights.ensures)
          (c.as_mut_slice.ensures.value ∙ c.in_ok-mosts.ensures) best),
      c.give-2.ensures,
    )

pub returns-clause-counted : goal.returns-clause-counted
returns-clause-counted c =
    let rows = c.args.instance.now.rows in
    let long : length c.as_slice-2.result.now ≡ length (children_of rows c.args.g) =
    ap length (c.as_slice-2.ensures ∙ c.in_ok-weights.ensures)
    ∙ length-map (children_of rows c.args.g) (weight_of rows) in
    record {
      rounds = c.split_scarce.ensures.rounds;
      no_search = λ few. c.split_scarce.ensures.no_search (inr (inr (omega (arith, few, long))));
      picks = omega (arith, c.split_scarce.ensures.picks, long);
      no_fewer_rounds = c.split_scarce.ensures.counted.0;
      no_fewer_picks = c.split_scarce.ensures.counted.1;
    }
