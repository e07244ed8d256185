-- The goals of `blamed_groups` that are answered by hand.
use Rattle.std.proofs.Common.{◌≡◌, ◌+◌, ◌<◌, length, get_or, ap, ◌∙◌, arith}
use Rattle.std.proofs.lemmas.List.{get_or_read, length_push}
use Rattle.bw_demand.specs.Demands.{demands_of}
use Rattle.bw_demand.proofs.CallerLemmas.{pushed}
use Rattle.bw_questions.specs.Reasons.{IsBlamed}
use Rattle.bw_questions.proofs.Rows.{one_each, next_blamed}
use Rattle.bw_questions.proofs.why.blamed.blamed_groups.Goals as goal

pub index-requires : goal.index-requires
index-requires c =
    omega (
      arith,
      one_each c.args.instance.now c.args.plan.now.amounts.items c.requires.plan,
      c.args.plan.now.amounts.ok.0,
      c.loop-g-test.true,
      c.group_count-count.ensures.count,
    )

pub loop-g-preserved : goal.loop-g-preserved
loop-g-preserved c =
    let groups = c.args.instance.now in
    let amounts = c.args.plan.now.amounts.items in
    let most = c.args.gathered.now.most.items in
    let below : c.loop-g.g < length c.args.instance.now.rows =
    omega (arith, c.loop-g-test.true, c.group_count-count.ensures.count) in
    let value : c.index.result.now ≡ get_or c.args.plan.now.amounts.items c.loop-g.g 0 =
    get_or_read amounts c.loop-g.g c.index.result.now
    (omega (arith, below, one_each groups amounts c.requires.plan)) c.index.ensures 0 in
    let top : c.index-in-loop-g.result.now
    ≡ get_or c.args.gathered.now.most.items c.loop-g.g 0 =
    get_or_read most c.loop-g.g c.index-in-loop-g.result.now
    (omega (arith, below, c.requires.gathered.mosts.one_each)) c.index-in-loop-g.ensures 0 in (
      ap length c.in_ok-push.ensures.items
          ∙ length_push c.loop-g.blamed.items c.blamed_of-group.result
          ∙ ap (λ n. n + 1) c.loop-g.invariant.0,
      pushed (IsBlamed groups most amounts) c.loop-g.blamed.items c.push.new.self.items
          c.blamed_of-group.result 0 c.loop-g.g c.in_ok-push.ensures.items c.loop-g.invariant.0
          c.loop-g.invariant.1
          (next_blamed groups (demands_of c.args.gathered.now) amounts
          c.group_count-count.ensures.valid c.requires.gathered c.requires.plan c.loop-g.g below
          c.loop-g.blamed.items c.loop-g.invariant.1 c.index.result.now
          c.index-in-loop-g.result.now c.blamed_of-group.result value top
          c.blamed_of-group.ensures.here
          (λ e p up. c.blamed_of-group.ensures.above e p up
          ∙ ap (λ xs. get_or xs p 0) c.as_slice.ensures.value)),
    )
