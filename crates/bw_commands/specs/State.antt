-- The state of a script: a host, its tree of groups, and the leaves that use their slices.
use Rattle.std.specs.Prelude.{ℕ, Bool}
use Rattle.bw_model.specs.Host.{Shape}
use Rattle.bw_hierarchy.specs.State.{HierarchyState, new_hierarchy}

pub record State : Type 0 where
  pub hierarchy : HierarchyState
  pub uses : ℕ → Bool  -- by row number: whether the leaf uses the slices that its workers draw

-- the state with another hierarchy
abbrev pub with_hierarchy : State → HierarchyState → State
with_hierarchy s h = record { hierarchy = h; uses = s.uses }

-- before the first line there is the root alone
abbrev pub start : Shape → (ℕ → Bool) → State
start shape uses = record { hierarchy = new_hierarchy shape; uses = uses }

-- the state of a hierarchy, by which leaves use their slices
abbrev pub in_state : (ℕ → Bool) → HierarchyState → State
in_state uses h = record { hierarchy = h; uses = uses }
