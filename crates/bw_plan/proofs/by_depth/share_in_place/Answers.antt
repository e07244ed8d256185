-- The goals of `share_in_place` that are answered by hand.
use Rattle.std.proofs.Common.{◌+◌, arith}
use Rattle.bw_plan.proofs.OneDepth.{none_shared, all_shared, next_can_share, next_shared}
use Rattle.bw_plan.proofs.OneDepth.{none_counted, all_counted, next_counted}
use Rattle.bw_plan.proofs.by_depth.share_in_place.Goals as goal

pub loop-k-init : goal.loop-k-init
loop-k-init c = record {
  planning =
      none_shared c.args.instance.now c.rows-rows.ensures.valid c.args.most.now c.requires.mosts
      c.args.depth c.args.amounts.now.items c.requires.planning;
  counted =
      none_counted c.args.instance.now c.rows-rows.ensures.valid c.args.most.now c.requires.mosts
      c.args.depth c.args.work.now;
}

pub share_out-requires : goal.share_out-requires
share_out-requires c =
    next_can_share c.args.instance.now c.rows-rows.ensures.valid c.args.most.now c.requires.mosts
    c.args.depth c.rows_at-groups.result.now c.rows_at-groups.ensures c.loop-k.k
    c.loop-k-test.true c.loop-k.amounts.items c.loop-k.invariant.planning

pub loop-k-preserved : goal.loop-k-preserved
loop-k-preserved c =
    let shared = c.in_ok-share_out.ensures.shared in
    record {
      planning =
          next_shared c.args.instance.now c.rows-rows.ensures.valid c.args.most.now
          c.requires.mosts c.args.depth c.rows_at-groups.result.now c.rows_at-groups.ensures
          c.loop-k.k c.loop-k-test.true shared.0 c.loop-k.amounts.items
          c.share_out.new.amounts.items c.loop-k.invariant.planning shared.1 shared.2;
      counted =
          next_counted c.args.instance.now c.rows-rows.ensures.valid c.args.most.now
          c.requires.mosts c.args.depth c.rows_at-groups.result.now c.rows_at-groups.ensures
          c.loop-k.k c.loop-k-test.true c.args.work.now c.loop-k.work c.share_out.new.work
          c.loop-k.invariant.counted c.share_out.ensures.counted;
    }

pub returns-in_err-share_out-clause-counted : goal.returns-in_err-share_out-clause-counted
returns-in_err-share_out-clause-counted c =
    all_counted c.args.instance.now c.rows-rows.ensures.valid c.args.most.now c.requires.mosts
    c.args.depth (c.loop-k.k + 1) c.args.work.now c.share_out.new.work
    (next_counted c.args.instance.now c.rows-rows.ensures.valid c.args.most.now
    c.requires.mosts c.args.depth c.rows_at-groups.result.now c.rows_at-groups.ensures
    c.loop-k.k c.loop-k-test.true c.args.work.now c.loop-k.work c.share_out.new.work
    c.loop-k.invariant.counted c.share_out.ensures.counted)

pub returns : goal.returns
returns c = record {
  planning =
      all_shared c.args.instance.now c.rows-rows.ensures.valid c.args.most.now c.requires.mosts
      c.args.depth c.rows_at-groups.result.now c.rows_at-groups.ensures c.loop-k.k
      c.loop-k.amounts.items (omega (arith, c.loop-k-test.false)) c.loop-k.invariant.planning;
  counted =
      all_counted c.args.instance.now c.rows-rows.ensures.valid c.args.most.now c.requires.mosts
      c.args.depth c.loop-k.k c.args.work.now c.loop-k.work c.loop-k.invariant.counted;
}
