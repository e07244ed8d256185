-- The calls of a builder, one after another.
use Rattle.std.specs.Prelude.{ℕ, ◌==◌, List, [], ◌∷◌, ◌++◌, codes, Option, Some, None, Result, Ok}
use Rattle.std.specs.Prelude.{ℤ}
use Rattle.std.specs.List.{slice_split}
use Rattle.bw_tree.specs.Groups.{TreeState, find_path}
use Rattle.bw_hierarchy.specs.declared.fault.Fault.{Fault}
use Rattle.bw_hierarchy.specs.Calls.{and_then, mkdir_of, set_shares_of, set_cfs_of}

-- the names up to each `/`, and the whole path, shortest first
abbrev pub prefixes_from : List ℕ → List (List ℕ) → List (List ℕ)
prefixes_from before [] = []
prefixes_from before (name ∷ names) =
    (before ++ name) ∷ prefixes_from ((before ++ name) ++ codes "/") names

-- the prefixes of a path up to each `/`, and the whole path, shortest first
abbrev pub prefixes : List ℕ → List (List ℕ)
prefixes path = prefixes_from [] (slice_split (λ b. b == 47) path)

-- a group is made where it is missing
abbrev pub found_or_made : TreeState → List ℕ → Option ℕ → Result (ℕ × TreeState) Fault
found_or_made t path (Some id) = Ok (id, t)
found_or_made t path None = mkdir_of t path

-- each missing group from the top down
abbrev pub ensured : TreeState → ℕ → List (List ℕ) → Result (ℕ × TreeState) Fault
ensured t id [] = Ok (id, t)
ensured t id (path ∷ paths) =
    and_then (found_or_made t path (find_path t.groups path)) (λ r. ensured r.1 r.0 paths)

-- the weight, where shares are given
abbrev pub shares_step : TreeState → ℕ → Option ℕ → Result TreeState Fault
shares_step t id None = Ok t
shares_step t id (Some n) = set_shares_of t id n

-- the quota, where it or a period is given
abbrev pub cfs_step : TreeState → ℕ → Option ℤ → Option ℕ → Result TreeState Fault
cfs_step t id None None = Ok t
cfs_step t id (Some quota) period = set_cfs_of t id (Some quota) period
cfs_step t id None (Some period) = set_cfs_of t id None (Some period)

-- the groups, then the shares where they are given, then the quota and the period where one is
-- given
abbrev pub built : TreeState → List ℕ → Option ℕ → Option ℤ → Option ℕ
    → Result (ℕ × TreeState) Fault
built t path shares quota period =
    and_then (ensured t 0 (prefixes path))
    (λ r. and_then (shares_step r.1 r.0 shares)
    (λ t. and_then (cfs_step t r.0 quota period) (λ t. Ok (r.0, t))))
