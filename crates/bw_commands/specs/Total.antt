-- The answer to `total`: the greatest total, the limits of the limiting groups, and the demands
-- outside them.
use Rattle.std.specs.Prelude.{◌≡◌, ℕ, List, [], ◌∷◌, ◌++◌, codes, unwrap_or}
use Rattle.std.specs.Fmt.{decimal}
use Rattle.bw_model.specs.Groups.{Groups, limit_of}
use Rattle.bw_model.specs.Demand.{AreMaxTotals, limiting_groups, limited_total, demand_outside}
use Rattle.bw_streams.specs.Answers.{number_line}
use Rattle.bw_tree.specs.Snapshot.{instance_of}
use Rattle.bw_hierarchy.specs.State.{HierarchyState}
use Rattle.bw_commands.specs.GroupLines.{ArePathsOf, group_lines}

-- the line of a limiting group: its limit and its path
abbrev pub limit_line : Groups → ℕ → List ℕ → List ℕ
limit_line groups g path =
    codes "limit " ++ decimal (unwrap_or (limit_of groups g) 0) ++ codes " " ++ path ++ 10 ∷ []

-- the lines of some limiting groups
abbrev pub limit_lines : Groups → List ℕ → List (List ℕ) → List ℕ
limit_lines groups = group_lines (limit_line groups)

-- the whole answer, by the most that each group can be given and the paths of the limiting groups
abbrev pub total_text : Groups → List ℕ → List (List ℕ) → List ℕ
total_text groups most paths =
    number_line (codes "total ") (limited_total groups most)
    ++ limit_lines groups (limiting_groups groups most) paths
    ++ number_line (codes "demand ") (demand_outside groups.rows (limiting_groups groups most))

-- The text is the answer to `total`.
pub record IsTotal (h : HierarchyState) (text : List ℕ) : Type 0 where
  pub most : List ℕ
  pub paths : List (List ℕ)
  pub mosts : AreMaxTotals (instance_of h.tree h.shape) most
  pub named : ArePathsOf h.tree (limiting_groups (instance_of h.tree h.shape) most) paths
  pub is : text ≡ total_text (instance_of h.tree h.shape) most paths
