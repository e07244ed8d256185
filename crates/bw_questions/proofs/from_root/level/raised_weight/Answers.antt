-- The goals of `raised_weight` that are answered by hand.
use Rattle.std.proofs.Common.{◌*◌, arith}
use Rattle.bw_split.specs.declared.limits.TheConstants.{STEPS}
use Rattle.bw_questions.proofs.Levels.{rounded_up}
use Rattle.bw_questions.proofs.from_root.level.raised_weight.Goals as goal

pub returns-then-part-need-clause-least : goal.returns-then-part-need-clause-least
returns-then-part-need-clause-least c = λ other heavy.
    omega (
      arith,
      c.max.ensures,
      rounded_up (c.saturating_sub-cost.result * STEPS) c.args.level other c.requires.level.0
          (omega (arith, c.saturating_sub-cost.ensures, heavy.cheap)),
      heavy.more c.if-part-need.true,
    )

pub returns-else-part-need-clause-least : goal.returns-else-part-need-clause-least
returns-else-part-need-clause-least c = λ other heavy.
    omega (
      arith,
      c.max-else-part-need.ensures,
      rounded_up (c.saturating_sub-cost.result * STEPS) c.args.level other c.requires.level.0
          (omega (arith, c.saturating_sub-cost.ensures, heavy.cheap)),
      heavy.no_less,
    )
