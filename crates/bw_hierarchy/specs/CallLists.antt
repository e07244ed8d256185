-- The calls of a hierarchy in a row, and the state that they leave.
use Rattle.std.specs.Prelude.{ℕ, List, [], ◌∷◌, Option, Result, Ok, Err, ℤ}
use Rattle.bw_model.specs.declared.row.Row.{Row}
use Rattle.bw_hierarchy.specs.declared.fault.Fault.{Fault}
use Rattle.bw_hierarchy.specs.Builder.{built}
use Rattle.bw_hierarchy.specs.Calls.{and_then, mkdir_of, set_shares_of, set_cfs_of}
use Rattle.bw_hierarchy.specs.Files.{write_of}
use Rattle.bw_hierarchy.specs.State.{HierarchyState, with_tree, booked_period, rmdir_of, delete_of}
use Rattle.bw_hierarchy.specs.State.{demand_set_of}

-- a call that can change a hierarchy: of `Hierarchy`, `Cgroup`, `CpuController` or `CgroupBuilder`
pub data Call : Type 0 where
  Mkdir : (path : List ℕ) → Call
  Rmdir : (path : List ℕ) → Call
  Delete : (id : ℕ) → Call
  SetDemand : (path : List ℕ) (demand : ℕ) → Call
  WriteFile : (path file text : List ℕ) → Call
  SetShares : (id shares : ℕ) → Call
  SetCfs : (id : ℕ) (quota : Option ℤ) (period : Option ℕ) → Call
  Build : (path : List ℕ) (shares : Option ℕ) (quota : Option ℤ) (period : Option ℕ) → Call
  Book : (rows : List Row) (base : List (Option ℕ)) (wants drawn : List ℕ) → Call

-- the hierarchy that a call leaves, or its refusal
abbrev pub called : HierarchyState → Call → Result HierarchyState Fault
called h (Mkdir path) = and_then (mkdir_of h.tree path) (λ made. Ok (with_tree h made.1))
called h (Rmdir path) = rmdir_of h path
called h (Delete id) = delete_of h id
called h (SetDemand path demand) = demand_set_of h path demand
called h (WriteFile path file text) =
    and_then (write_of h.tree path file text) (λ t. Ok (with_tree h t))
called h (SetShares id shares) = and_then (set_shares_of h.tree id shares) (λ t. Ok (with_tree h t))
called h (SetCfs id quota period) =
    and_then (set_cfs_of h.tree id quota period) (λ t. Ok (with_tree h t))
called h (Build path shares quota period) =
    and_then (built h.tree path shares quota period) (λ made. Ok (with_tree h made.1))
called h (Book rows base wants drawn) = Ok (booked_period h rows base wants drawn)

-- the hierarchy after an answer: a refused call changes nothing
abbrev pub left_after : HierarchyState → Result HierarchyState Fault → HierarchyState
left_after h (Ok after) = after
left_after h (Err fault) = h

-- The hierarchy after calls in a row. A call that fails for memory changes nothing and is left out.
abbrev pub after_calls : HierarchyState → List Call → HierarchyState
after_calls h [] = h
after_calls h (call ∷ calls) = after_calls (left_after h (called h call)) calls
