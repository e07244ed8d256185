-- The goals of `first_line` that are answered by hand.
use Rattle.bw_commands.proofs.Parts.{first_of_parts, only_part, rest-lt}
use Rattle.bw_commands.proofs.lines.first_line.Goals as goal

pub returns-in-Some-clause-lines : goal.returns-in-Some-clause-lines
returns-in-Some-clause-lines c =
    first_of_parts c.args.text.now c.in-Some.line.now c.in-Some.rest.now c.in-Some.ensures

pub returns-in-Some-clause-shorter : goal.returns-in-Some-clause-shorter
returns-in-Some-clause-shorter c =
    rest-lt c.args.text.now c.in-Some.line.now c.in-Some.rest.now c.in-Some.ensures

pub returns-in-None-clause-lines : goal.returns-in-None-clause-lines
returns-in-None-clause-lines c = only_part c.args.text.now c.in-None.ensures c.requires
