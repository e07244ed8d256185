-- The goal of `answer_at` that is answered by hand.
use Rattle.bw_settings.specs.Following.{follows_of, number_at, IsNumbered}
use Rattle.bw_settings.proofs.Answered.{lesser_fall_short}
use Rattle.bw_settings.proofs.given.answer_at.Goals as goal
use Rattle.bw_settings.proofs.given.answer_at.Goals.{then-enough, else-enough}

pub returns : goal.returns
returns c =
    let made : IsNumbered c.args.instance.now c.args.following.now.formulas.now
    (number_at (follows_of c.args.following.now) c.args.number) c.in-Made.other =
    rw c.in-Made.is at c.in_ok-instance_at.ensures in
    elim c.if-enough.branch [
      | then-enough w ↦ rw w.result-is (record {
        others = c.in-Made.other;
        numbered = made;
        reached = c.in_ok-enough.ensures.0 w.if-enough.true;
      })
      | else-enough w ↦ rw w.result-is
          (lesser_fall_short c.greater_settings_give_no_less.ensures c.args.measure
          c.args.instance.now (follows_of c.args.following.now) c.args.group c.args.amount
          c.args.number c.in-Made.other c.in_ok-enough.enough c.rows-rows.ensures.valid
          c.requires.columns c.requires.path c.requires.row made c.in_ok-enough.ensures
          w.if-enough.false)
    ]
