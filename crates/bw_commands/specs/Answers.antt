-- The result of a call that appends to an answer.
use Rattle.std.specs.Prelude.{◌≡◌, ◌≤◌, ◌++◌, ℕ, List, Vec, Result, OnOk, IfErr}
use Rattle.std.specs.Vec.{vec_capacity}
use Rattle.std.specs.declared.alloc.Global.{Global}
use Rattle.bw_tree.specs.declared.fault.TreeFault.TheVariants.{OutOfMemory}
use Rattle.bw_hierarchy.specs.declared.fault.Fault.{Fault}
use Rattle.bw_hierarchy.specs.declared.fault.Fault.TheVariants.{Tree}

-- At Ok such a text stands behind the old answer. It fails only when out of memory, and the buffer
-- keeps its room.
pub record Answers {T : Type 0} (IsText : List ℕ → Type 0) (old new : Vec ℕ Global)
    (result : Result T Fault) : Type 0 where
  pub ok : OnOk result ((text : List ℕ) × IsText text × (new.items ≡ old.items ++ text))
  pub err : IfErr result (λ fault. fault ≡ Tree OutOfMemory)
  pub room : vec_capacity old ≤ vec_capacity new
