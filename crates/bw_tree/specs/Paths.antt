-- The path of a group.
use Rattle.std.specs.Prelude.{◌≡◌, ◌↔◌, ℕ, suc, zero, ◌==◌, not, if◌then◌else◌, List, [], ◌∷◌, ◌++◌}
use Rattle.std.specs.Prelude.{Option, Some, None, codes}
use Rattle.std.specs.List.{join_with_byte}
use Rattle.bw_tree.specs.Groups.{GroupFields, group_at, has_group, find_path}

-- the names down to the parent, and then the group's own; the root has none
abbrev pub with_name : (ℕ → List (List ℕ)) → List ℕ → Option ℕ → List (List ℕ)
with_name names name None = []
with_name names name (Some parent) = names parent ++ name ∷ []

-- the names on the way down to a group; none if there is no group
abbrev pub names_at : (ℕ → List (List ℕ)) → Option GroupFields → List (List ℕ)
names_at names None = []
names_at names (Some g) = with_name names g.name g.parent

-- the names on the way from the root down to a group, at most this many of them
unfoldable pub names_within : ℕ → List (ℕ × GroupFields) → ℕ → List (List ℕ)
names_within zero groups id = []
names_within (suc steps) groups id = names_at (names_within steps groups) (group_at groups id)

-- all names on the way: each parent has a lower id, so there are no more of them than the id says
abbrev pub names_to : List (ℕ × GroupFields) → ℕ → List (List ℕ)
names_to groups id = names_within id groups id

-- the path of a group: `.` for the root, else the names on the way down to it, joined by `/`
abbrev pub path_at : List (ℕ × GroupFields) → ℕ → Option (List ℕ)
path_at groups id =
    if not (has_group groups id) then None
    else if id == 0 then Some (codes ".")
    else Some (join_with_byte 47 (names_to groups id))

-- each path that finds a group is the path of that group, and the path of each group finds it
abbrev pub IsInverse : List (ℕ × GroupFields) → Type 0
IsInverse groups = (path : List ℕ) (id : ℕ)
    → (find_path groups path ≡ Some id) ↔ (path_at groups id ≡ Some path)

-- two children of one group that have the same name are one
abbrev pub AreNamesUnique : List (ℕ × GroupFields) → Type 0
AreNamesUnique groups =
    (a b : ℕ) (g h : GroupFields) (parent : ℕ) → group_at groups a ≡ Some g
    → group_at groups b ≡ Some h
    → g.parent ≡ Some parent → h.parent ≡ Some parent → g.name ≡ h.name → a ≡ b
