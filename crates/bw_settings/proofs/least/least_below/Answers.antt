-- The goals of `least_below` that are answered by hand.
use Rattle.std.proofs.Common.{ℕ, ◌≤◌, ◌-◌, arith}
use Rattle.bw_settings.specs.Following.{follows_of}
use Rattle.bw_settings.specs.Settings.{GivesAt}
use Rattle.bw_settings.proofs.least.least_below.Goals as goal

pub returns-in-TooLittle : goal.returns-in-TooLittle
returns-in-TooLittle c =
    let none : (lesser : ℕ) → lesser ≤ c.args.near - 1
    → GivesAt c.args.measure c.args.instance.now (follows_of c.args.following.now) c.args.group
    c.args.amount lesser → ⊥ = rw c.in-TooLittle.is at c.in_ok-answer_at.ensures in (
      c.requires.order,
      omega arith,
      c.requires.enough,
      λ lesser first below gives. none lesser (omega (arith, below)) gives,
    )
