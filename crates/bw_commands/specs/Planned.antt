-- The answer to `plan`: what each group gets, in order of creation.
use Rattle.std.specs.Prelude.{◌≡◌, ℕ, List, [], ◌∷◌, ◌++◌, codes, length, slice_index}
use Rattle.std.specs.List.{range_with_len}
use Rattle.std.specs.Fmt.{decimal}
use Rattle.bw_model.specs.Plan.{IsPlan}
use Rattle.bw_tree.specs.Snapshot.{instance_of}
use Rattle.bw_hierarchy.specs.State.{HierarchyState}
use Rattle.bw_commands.specs.GroupLines.{ArePathsOf, group_lines}

-- the line of a group: its amount and its path
abbrev pub amount_line : List ℕ → ℕ → List ℕ → List ℕ
amount_line amounts g path = decimal (slice_index amounts g) ++ codes " " ++ path ++ 10 ∷ []

-- The text is the answer to `plan`.
pub record IsPlanText (h : HierarchyState) (text : List ℕ) : Type 0 where
  pub amounts : List ℕ
  pub paths : List (List ℕ)
  pub plan : IsPlan (instance_of h.tree h.shape) amounts
  pub named : ArePathsOf h.tree (range_with_len 0 (length (instance_of h.tree h.shape).rows)) paths
  pub is : text ≡ group_lines (amount_line amounts)
      (range_with_len 0 (length (instance_of h.tree h.shape).rows)) paths
