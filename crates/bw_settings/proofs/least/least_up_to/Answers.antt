-- The goals of `least_up_to` that are answered by hand.
use Rattle.std.proofs.Common.{ℕ, ◌+◌, ◌-◌, ◌/◌, ◌≤◌, arith}
use Rattle.bw_settings.specs.Following.{follows_of}
use Rattle.bw_settings.specs.Settings.{GivesAt}
use Rattle.bw_settings.proofs.least.least_up_to.Goals as goal

pub loop-low-preserved : goal.loop-low-preserved
loop-low-preserved c =
    let none : (lesser : ℕ)
    → lesser ≤ c.loop-low.low + (c.loop-low.high - c.loop-low.low) / 2
    → GivesAt c.args.measure c.args.instance.now (follows_of c.args.following.now) c.args.group
    c.args.amount lesser → ⊥ = rw c.in-TooLittle.is at c.in_ok-answer_at.ensures in
    record {
      first = omega (arith, c.loop-low.invariant.first);
      order = omega (arith, c.loop-low-test.true);
      last = c.loop-low.invariant.last;
      enough = c.loop-low.invariant.enough;
      short = λ lesser first below gives. none lesser (omega (arith, below)) gives;
    }

pub returns : goal.returns
returns c = (
  omega (arith, c.loop-low.invariant.first, c.loop-low.invariant.order),
  c.loop-low.invariant.last,
  c.loop-low.invariant.enough,
  λ lesser first below gives.
      c.loop-low.invariant.short lesser first (omega (arith, below, c.loop-low-test.false)) gives,
)
