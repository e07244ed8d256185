-- Answers that have a line for each of some groups.
use Rattle.std.specs.Prelude.{◌≡◌, ℕ, ⊤, List, [], ◌∷◌, ◌++◌, Some, slice_index}
use Rattle.std.specs.Map.{keys_of}
use Rattle.bw_tree.specs.Groups.{TreeState, find_path}

-- the group of a row is found at this path
abbrev pub IsPathOf : TreeState → ℕ → List ℕ → Type 0
IsPathOf tree g path = find_path tree.groups path ≡ Some (slice_index (keys_of tree.groups) g)

-- the groups of these rows are found at these paths, one each
abbrev pub ArePathsOf : TreeState → List ℕ → List (List ℕ) → Type 0
ArePathsOf tree [] [] = ⊤
ArePathsOf tree (g ∷ gs) (path ∷ paths) = IsPathOf tree g path × ArePathsOf tree gs paths
ArePathsOf tree gs paths = ⊥

-- the lines of these rows, each by its row number and its path
abbrev pub group_lines : (ℕ → List ℕ → List ℕ) → List ℕ → List (List ℕ) → List ℕ
group_lines line [] paths = []
group_lines line (g ∷ gs) [] = []
group_lines line (g ∷ gs) (path ∷ paths) = line g path ++ group_lines line gs paths
