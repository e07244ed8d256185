-- The goal of `served_limits` that is answered by hand.
use Rattle.std.proofs.Common.{◌+◌, Option, None, ℕ, length, ap, ◌∙◌}
use Rattle.std.proofs.lemmas.List.{length_push}
use Rattle.bw_demand.proofs.CallerLemmas.{pushed}
use Rattle.bw_questions.specs.Served.{IsServedLimit}
use Rattle.bw_questions.proofs.held.served.served_limits.Goals as goal

pub loop-g-preserved : goal.loop-g-preserved
loop-g-preserved c = record {
  long = ap (length {A = Option ℕ}) c.in_ok-push.ensures.items
      ∙ length_push c.loop-g.limits.items c.served_limit.result
      ∙ ap (λ n. n + 1) c.loop-g.invariant.long;
  each = pushed
      (λ h limit. IsServedLimit c.args.reading.now c.args.hungry.now c.args.calm
      c.args.floors.now c.args.planned.now h limit)
      c.loop-g.limits.items c.push.new.self.items c.served_limit.result None c.loop-g.g
      c.in_ok-push.ensures.items c.loop-g.invariant.long c.loop-g.invariant.each
      c.served_limit.ensures;
}
