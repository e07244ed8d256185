-- Ids of groups, over any calls in a row.
use Rattle.std.specs.Prelude.{◌≡◌, ℕ, ◌<◌, Bool, true, false, List, Ok}
use Rattle.bw_model.specs.Host.{Shape}
use Rattle.bw_tree.specs.Groups.{TreeState, has_group}
use Rattle.bw_hierarchy.specs.Calls.{mkdir_of}
use Rattle.bw_hierarchy.specs.CallLists.{Call, after_calls}
use Rattle.bw_hierarchy.specs.State.{HierarchyState, new_hierarchy}

-- whether a hierarchy has a group with this id
abbrev pub has_id : HierarchyState → ℕ → Bool
has_id h id = has_group h.tree.groups id

-- a new hierarchy after calls in a row
abbrev pub ran : Shape → List Call → HierarchyState
ran shape calls = after_calls (new_hierarchy shape) calls

-- Over any calls on a new hierarchy.
pub record IdsAreGivenOnce : Type 0 where
  -- a group that comes has a greater id than each group that was ever there: no id is given twice
  pub rise : (shape : Shape) (first between later : List Call) (old new : ℕ)
      → has_id (ran shape first) old ≡ true
      → has_id (after_calls (ran shape first) between) new ≡ false
      → has_id (after_calls (after_calls (ran shape first) between) later) new ≡ true → old < new
  -- the id that `mkdir` answers is that of a group that comes
  pub made : (shape : Shape) (calls : List Call) (path : List ℕ) (id : ℕ) (t : TreeState)
      → mkdir_of (ran shape calls).tree path ≡ Ok (id, t)
      → (has_id (ran shape calls) id ≡ false) × (has_group t.groups id ≡ true)
