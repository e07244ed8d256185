-- What stands at each turn of the loop in `read_script`, and what falls.
use Rattle.std.proofs.Common.{◌≤◌, ◌+◌, ◌++◌, List, length}
use Rattle.bw_hierarchy.specs.State.{HierarchyState}
use Rattle.bw_commands.specs.Lines.{lines_of}
use Rattle.bw_commands.specs.Reading.{in_use, TakesLines, IsRead}
use Rattle.bw_commands.specs.declared.reading.RefusedLine.{RefusedLine}
use Rattle.bw_commands.proofs.reading.read_script.Given as goal

abbrev pub invariant-loop-rest : goal.invariant-loop-rest
invariant-loop-rest l = record {
  -- wherever the rest leads, the whole text leads
  taken : (more : List RefusedLine) (last : HierarchyState)
      → TakesLines (in_use l.reader) l.number (lines_of l.rest) more (in_use last)
      → IsRead l.fn.shape l.fn.text (l.refused.items ++ more) last;
  counted : l.number + length l.rest ≤ length l.fn.text + 1;
}

abbrev pub decreases-loop-rest : goal.decreases-loop-rest
decreases-loop-rest l = length l.rest
