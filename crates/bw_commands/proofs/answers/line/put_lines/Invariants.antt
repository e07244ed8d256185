-- What stands at each turn of the loop in `put_lines`.
use Rattle.std.proofs.Common.{◌≡◌, ◌≤◌, ◌<◌, ◌++◌, ℕ, [], Some, length, get_or}
use Rattle.std.specs.List.{range_with_len}
use Rattle.std.specs.Map.{keys_of}
use Rattle.std.specs.Vec.{vec_capacity}
use Rattle.bw_tree.specs.Paths.{path_at}
use Rattle.bw_commands.specs.GroupLines.{IsPathOf, group_lines}
use Rattle.bw_commands.specs.LineText.{line_of}
use Rattle.bw_commands.specs.PathList.{cuts, AreWithin}
use Rattle.bw_commands.proofs.answers.line.put_lines.Given as goal

abbrev pub invariant-loop-g : goal.invariant-loop-g
invariant-loop-g l = record {
  count : length l.spans.items ≡ l.g;
  space : length (keys_of l.tree.groups) ≤ vec_capacity l.spans;
  within : AreWithin (length l.answer.items) l.spans.items;
  named : (k : ℕ) → k < l.g → path_at l.tree.groups (get_or (keys_of l.tree.groups) k 0)
      ≡ Some (get_or (cuts l.answer.items l.spans.items) k []);
  found : (k : ℕ) → k < l.g
      → IsPathOf l.tree k (get_or (cuts l.answer.items l.spans.items) k []);
  put : l.answer.items ≡ l.initial.answer.items
      ++ group_lines (line_of l.line (keys_of l.tree.groups)) (range_with_len 0 l.g)
      (cuts l.answer.items l.spans.items);
  room : vec_capacity l.initial.answer ≤ vec_capacity l.answer;
}
