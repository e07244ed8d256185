-- The goals of `is_guaranteed` that are answered by hand.
use Rattle.std.proofs.Common.{arith}
use Rattle.std.proofs.lemmas.Result.{IfOk-weaker}
use Rattle.std.specs.Prelude.{IsTrue, ◌↔◌, IfOk}
use Rattle.bw_questions.specs.Gets.{IsGuaranteedSo}
use Rattle.bw_questions.specs.Least.{Reaches}
use Rattle.bw_questions.proofs.BusyGets.{guaranteed_by_busy}
use Rattle.bw_questions.proofs.BusyPair.{busy_groups, busy_long}
use Rattle.bw_questions.proofs.enough.is_guaranteed.Goals as goal

pub reaches-requires : goal.reaches-requires
reaches-requires c =
    rw c.in_ok-busy.ensures
    (omega (arith, c.requires, busy_long c.args.instance.now c.rows-rows.ensures.valid c.args.group))

pub returns : goal.returns
returns c =
    let busy = busy_groups c.args.instance.now c.args.group in
    let same =
    guaranteed_by_busy c.there_is_one_plan.ensures c.args.instance.now c.rows-rows.ensures.valid
    c.args.group c.args.amount c.requires in
    let told : IfOk c.reaches.result
    (λ enough. IsTrue enough ↔ Reaches busy c.args.group c.args.amount) =
    rw c.in_ok-busy.ensures at c.reaches.ensures.reached in
    IfOk-weaker c.reaches.result (λ enough. IsTrue enough ↔ Reaches busy c.args.group c.args.amount)
    (λ enough. IsTrue enough ↔ IsGuaranteedSo c.args.instance.now c.args.group c.args.amount)
    (λ enough both. (λ yes_it_is. same.0 (both.0 yes_it_is), λ kept. both.1 (same.1 kept)))
    told
