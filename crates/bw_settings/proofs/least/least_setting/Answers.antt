-- The goal of `least_setting` that is answered by hand.
use Rattle.std.proofs.Common.{ℕ, ◌≤◌}
use Rattle.bw_settings.specs.Following.{follows_of}
use Rattle.bw_settings.specs.Settings.{GivesAt}
use Rattle.bw_settings.proofs.least.least_setting.Goals as goal

pub returns-in-TooLittle : goal.returns-in-TooLittle
returns-in-TooLittle c =
    let none : (lesser : ℕ) → lesser ≤ c.args.last
    → GivesAt c.args.measure c.args.instance.now (follows_of c.args.following.now) c.args.group
    c.args.amount lesser → ⊥ = rw c.in-TooLittle.is at c.in_ok-answer_at.ensures in
    λ number first last gives. none number last gives
