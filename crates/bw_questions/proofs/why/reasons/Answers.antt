-- The goals of `reasons` that are answered by hand.
use Rattle.std.proofs.Common.{◌≡◌, ◌+◌, ◌<◌, length, get_or, ap, ◌∙◌, arith}
use Rattle.std.proofs.lemmas.List.{get_or_read, length_push}
use Rattle.bw_demand.specs.Demands.{demands_of}
use Rattle.bw_demand.proofs.CallerLemmas.{pushed}
use Rattle.bw_questions.specs.declared.why.reason.Reason.TheVariants.{NothingAsked}
use Rattle.bw_questions.specs.Reasons.{FitsReason}
use Rattle.bw_questions.proofs.Blame.{within_want}
use Rattle.bw_questions.proofs.Rows.{one_each, fits_at}
use Rattle.bw_questions.proofs.why.reasons.Goals as goal

pub index-requires-in-loop-g : goal.index-requires-in-loop-g
index-requires-in-loop-g c =
    omega (
      arith,
      one_each c.args.instance.now c.args.plan.now.amounts.items c.requires.plan,
      c.args.plan.now.amounts.ok.0,
      c.loop-g-test.true,
      c.group_count-count.ensures.count,
    )

pub reason_of-requires : goal.reason_of-requires
reason_of-requires c =
    let groups = c.args.instance.now in
    let amounts = c.args.plan.now.amounts.items in
    let wants = c.args.gathered.now.want.items in
    let below : c.loop-g.g < length c.args.instance.now.rows =
    omega (arith, c.loop-g-test.true, c.group_count-count.ensures.count) in
    omega (
      arith,
      get_or_read wants c.loop-g.g c.index.result.now
          (omega (arith, below, c.requires.gathered.wants_each)) c.index.ensures 0,
      get_or_read amounts c.loop-g.g c.index-in-loop-g.result.now
          (omega (arith, below, one_each groups amounts c.requires.plan))
          c.index-in-loop-g.ensures 0,
      within_want groups (demands_of c.args.gathered.now) amounts
          c.group_count-count.ensures.valid c.requires.gathered c.requires.plan c.loop-g.g below,
    )

pub loop-g-preserved : goal.loop-g-preserved
loop-g-preserved c =
    let groups = c.args.instance.now in
    let amounts = c.args.plan.now.amounts.items in
    let wants = c.args.gathered.now.want.items in
    let blamed = c.in_ok-blamed.blamed.items in
    let below : c.loop-g.g < length c.args.instance.now.rows =
    omega (arith, c.loop-g-test.true, c.group_count-count.ensures.count) in (
      ap length c.in_ok-push.ensures.items
          ∙ length_push c.loop-g.reasons.items c.reason_of.result
          ∙ ap (λ n. n + 1) c.loop-g.invariant.0,
      pushed
          (λ k reason. FitsReason k (get_or wants k 0) (get_or amounts k 0) (get_or blamed k 0)
          reason)
          c.loop-g.reasons.items c.push.new.self.items c.reason_of.result NothingAsked c.loop-g.g
          c.in_ok-push.ensures.items c.loop-g.invariant.0 c.loop-g.invariant.1
          (fits_at c.loop-g.g c.index.result.now (get_or wants c.loop-g.g 0)
          c.index-in-loop-g.result.now (get_or amounts c.loop-g.g 0)
          c.index-in-loop-g-2.result.now (get_or blamed c.loop-g.g 0) c.reason_of.result
          (get_or_read wants c.loop-g.g c.index.result.now
          (omega (arith, below, c.requires.gathered.wants_each)) c.index.ensures 0)
          (get_or_read amounts c.loop-g.g c.index-in-loop-g.result.now
          (omega (arith, below, one_each groups amounts c.requires.plan))
          c.index-in-loop-g.ensures 0)
          (get_or_read blamed c.loop-g.g c.index-in-loop-g-2.result.now
          (omega (arith, below, c.in_ok-blamed.ensures.one_each)) c.index-in-loop-g-2.ensures 0)
          c.reason_of.ensures),
    )

pub returns : goal.returns
returns c =
    let all : c.loop-g.g ≡ length c.args.instance.now.rows =
    omega (arith, c.loop-g-test.false, c.loop-g.auto.g-end, c.group_count-count.ensures.count) in
    record {
      one_each = c.loop-g.invariant.0 ∙ all;
      each = λ g below. (
        get_or c.in_ok-blamed.blamed.items g 0,
        c.in_ok-blamed.ensures.each g below,
        c.loop-g.invariant.1 g (omega (arith, below, all)),
      );
    }
