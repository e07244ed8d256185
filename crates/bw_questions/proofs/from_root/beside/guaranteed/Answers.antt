-- The goals of `guaranteed` that are answered by hand.
use Rattle.std.proofs.Common.{◌≡◌, ◌∙◌, ℕ, length, ap, arith, get_or, subst, sym, true}
use Rattle.std.specs.Prelude.{min}
use Rattle.bw_model.specs.Plan.{IsPlan}
use Rattle.bw_model.proofs.CallerLemmas.{AreMaxTotals-capped}
use Rattle.bw_questions.specs.Guarantee.{IsGuaranteed}
use Rattle.bw_questions.specs.HeldRule.{demand_where, everyone}
use Rattle.bw_questions.proofs.AllBusy.{busied_everyone, told}
use Rattle.bw_questions.proofs.AskingRows.{amount_each, as_many, everyone-IsInstance}
use Rattle.bw_questions.proofs.from_root.beside.guaranteed.Goals as goal

pub lesser-requires : goal.lesser-requires
lesser-requires c =
    let groups = c.args.instance.now in
    let planned : IsPlan (everyone groups) c.in_ok-planned.planned.amounts.items =
    rw c.in_ok-busy.ensures.everyone at c.in_ok-planned.ensures in
    let amounts : length c.in_ok-planned.planned.amounts.items ≡ length groups.rows =
    amount_each (everyone groups) (everyone-IsInstance groups c.rows-rows.ensures.valid)
    c.in_ok-planned.planned.amounts.items planned
    ∙ as_many groups (λ g. demand_where groups.rows true g) in
    ap (length {A = ℕ}) c.as_slice-2.ensures.value ∙ c.in_ok-gathered.ensures.mosts.one_each
    ∙ sym amounts ∙ sym (ap (length {A = ℕ}) c.as_slice.ensures.value)

pub returns : goal.returns
returns c =
    let groups = c.args.instance.now in
    let valid = c.rows-rows.ensures.valid in
    let most = c.in_ok-gathered.gathered.most.items in
    let ys = c.in_ok-planned.planned.amounts.items in
    let is_plan : IsPlan (everyone groups) ys =
    rw c.in_ok-busy.ensures.everyone at c.in_ok-planned.ensures in
    let amounts : length ys ≡ length groups.rows =
    amount_each (everyone groups) (everyone-IsInstance groups valid) ys is_plan
    ∙ as_many groups (λ g. demand_where groups.rows true g) in
    let some : c.as_slice.result.now ≡ ys = c.as_slice.ensures.value in
    let others : c.as_slice-2.result.now ≡ most = c.as_slice-2.ensures.value in
    record {
      one_each = c.in_ok-had.ensures.one_each ∙ ap (length {A = ℕ}) some ∙ amounts;
      each = λ h below.
          let least : get_or c.in_ok-had.had.items h 0 ≡ min (get_or ys h 0) (get_or most h 0) =
          rw (some, others) at (c.in_ok-had.ensures.each h
          (omega (arith, below, amounts, ap (length {A = ℕ}) some))) in
          subst (λ (x : ℕ). IsGuaranteed groups h x) (sym least)
          (told groups (everyone groups) valid (busied_everyone groups valid) h below most
          (AreMaxTotals-capped groups valid.tree most c.in_ok-gathered.ensures.mosts)
          c.there_is_one_plan.ensures c.demands_inside_only_cut.ensures ys is_plan);
    }
