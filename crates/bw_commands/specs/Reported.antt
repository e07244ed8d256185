-- The answer to `report`: the counters of each group, in order of creation.
use Rattle.std.specs.Prelude.{◌≡◌, ℕ, List, ◌++◌, length, slice_index}
use Rattle.std.specs.List.{range_with_len}
use Rattle.std.specs.Map.{keys_of}
use Rattle.bw_model.specs.declared.stat.Stat.{Stat}
use Rattle.bw_stat.specs.Books.{stat_at, or_zeros}
use Rattle.bw_stat.specs.Report.{report_head, report_line}
use Rattle.bw_hierarchy.specs.State.{HierarchyState}
use Rattle.bw_commands.specs.GroupLines.{ArePathsOf, group_lines}

-- the line of the group with this id: what is booked for it, or zeros, and its path
abbrev pub booked_line : List (ℕ × Stat) → ℕ → List ℕ → List ℕ
booked_line books id = report_line (or_zeros (stat_at books id))

-- the line of the group of a row, by the ids of all rows
abbrev pub counter_line : List (ℕ × Stat) → List ℕ → ℕ → List ℕ → List ℕ
counter_line books ids g = booked_line books (slice_index ids g)

-- The text is the answer to `report`.
pub record IsReport (h : HierarchyState) (text : List ℕ) : Type 0 where
  pub paths : List (List ℕ)
  pub named : ArePathsOf h.tree (range_with_len 0 (length (keys_of h.tree.groups))) paths
  pub is : text ≡ report_head ++ group_lines (counter_line h.books (keys_of h.tree.groups))
      (range_with_len 0 (length (keys_of h.tree.groups))) paths
