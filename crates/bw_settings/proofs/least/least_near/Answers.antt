-- The goals of `least_near` that are answered by hand.
use Rattle.std.proofs.Common.{ℕ, ◌+◌, ◌≤◌, arith}
use Rattle.std.proofs.lemmas.Result.{IfOk-weaker}
use Rattle.bw_settings.specs.Following.{follows_of}
use Rattle.bw_settings.specs.Settings.{GivesAt, IsLeastSetting}
use Rattle.bw_settings.proofs.Answered.{from_less}
use Rattle.bw_settings.proofs.least.least_near.Goals as goal

pub returns-in-TooLittle : goal.returns-in-TooLittle
returns-in-TooLittle c =
    let none : (lesser : ℕ) → lesser ≤ c.args.near
    → GivesAt c.args.measure c.args.instance.now (follows_of c.args.following.now) c.args.group
    c.args.amount lesser → ⊥ = rw c.in-TooLittle.is at c.in_ok-answer_at.ensures in
    λ number first last gives. none number (omega (arith, last, c.if-near-last.true)) gives

pub returns-in-TooLittle-2 : goal.returns-in-TooLittle-2
returns-in-TooLittle-2 c =
    let none : (lesser : ℕ) → lesser ≤ c.args.near
    → GivesAt c.args.measure c.args.instance.now (follows_of c.args.following.now) c.args.group
    c.args.amount lesser → ⊥ = rw c.in-TooLittle.is at c.in_ok-answer_at.ensures in
    IfOk-weaker c.least_setting-in-TooLittle-2.result
    (IsLeastSetting c.args.measure c.args.instance.now (follows_of c.args.following.now)
    c.args.group c.args.amount (c.args.near + 1) c.args.last)
    (IsLeastSetting c.args.measure c.args.instance.now (follows_of c.args.following.now)
    c.args.group c.args.amount c.args.first c.args.last)
    (λ setting least. from_less c.args.measure c.args.instance.now
    (follows_of c.args.following.now) c.args.group c.args.amount c.args.first c.args.near
    c.args.last setting
    (omega (arith, c.if-near-first.false)) none least)
    c.least_setting-in-TooLittle-2.ensures
