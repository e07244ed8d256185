-- The goals of `certify_gathered` that are answered by hand.
use Rattle.std.proofs.Common.{◌≡◌, None, length, get_or, ap, arith}
use Rattle.bw_model.specs.declared.row.Row.{Row}
use Rattle.bw_cert.specs.Levels.{IsLevelAt}
use Rattle.bw_cert.proofs.Conditions.{planned_each, planned_small, planned_sums}
use Rattle.bw_cert.proofs.Conditions.{planned-IsCertified}
use Rattle.bw_cert.proofs.certifying.certify_gathered.Goals as goal

pub level_at-requires-clause-amount_each : goal.level_at-requires-clause-amount_each
level_at-requires-clause-amount_each c = rw c.as_slice-amounts.ensures.value
    (planned_each c.args.instance.now c.rows-g-end.ensures.valid c.args.gathered.most.items
    c.requires.gathered.mosts
    c.args.plan.now.amounts.items c.requires.plan)

pub level_at-requires-clause-small : goal.level_at-requires-clause-small
level_at-requires-clause-small c = rw c.as_slice-amounts.ensures.value
    (planned_small c.args.instance.now c.rows-g-end.ensures.valid c.args.gathered.most.items
    c.requires.gathered.mosts
    c.args.plan.now.amounts.items c.requires.plan)

pub level_at-requires-clause-whole : goal.level_at-requires-clause-whole
level_at-requires-clause-whole c =
    let long : length c.rows-g-end.result.now ≡ length c.args.instance.now.rows =
    ap (length {A = Row}) c.rows-g-end.ensures.rows in
    rw c.as_slice-amounts.ensures.value
    (planned_sums c.args.instance.now c.rows-g-end.ensures.valid c.args.gathered.most.items
    c.requires.gathered.mosts
    c.args.plan.now.amounts.items c.requires.plan c.loop-g.g
    (omega (arith, long, c.loop-g-test.true)))

pub returns-clause-certified : goal.returns-clause-certified
returns-clause-certified c =
    let long : length c.rows-g-end.result.now ≡ length c.args.instance.now.rows =
    ap (length {A = Row}) c.rows-g-end.ensures.rows in
    let levels_each : length c.loop-g.levels.items ≡ length c.args.instance.now.rows =
    omega (arith, long, c.loop-g.invariant.long, c.loop-g-test.false) in
    record {
      bounds = c.args.gathered.most.items;
      certified = planned-IsCertified c.args.instance.now c.rows-g-end.ensures.valid
          c.args.gathered.most.items c.requires.gathered.mosts
          c.args.plan.now.amounts.items c.requires.plan
          (record { tight = c.args.gathered.tight.items; levels = c.loop-g.levels.items })
          c.requires.gathered.flags_each levels_each
          c.requires.gathered.flags
          (λ h below. let here : IsLevelAt c.args.instance.now c.as_slice-amounts.result.now h
          (get_or c.loop-g.levels.items h None) =
          c.loop-g.invariant.each h (omega (arith, long, below)) in
          rw c.as_slice-amounts.ensures.value at here);
    }
