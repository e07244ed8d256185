-- The numbers and names of the refusals.
use Rattle.std.specs.Prelude.{◌≡◌, ◌≢◌, ℕ, List, codes, Result, Err, IfErr}
use Rattle.bw_tree.specs.declared.fault.TreeFault.TheVariants.{OutOfMemory}
use Rattle.bw_tree.specs.Faults.{tree_fault_number, tree_fault_name}
use Rattle.bw_files.specs.Faults.{file_fault_number, file_fault_name}
use Rattle.bw_hierarchy.specs.declared.fault.Fault.{Fault}
use Rattle.bw_hierarchy.specs.declared.fault.Fault.TheVariants.{Tree, File, NoSuchFile, ReadOnly}
use Rattle.bw_hierarchy.specs.declared.fault.Fault.TheVariants.{BurstAboveQuota}

-- the number that is printed
abbrev pub hierarchy_fault_number : Fault → ℕ
hierarchy_fault_number (Tree fault) = tree_fault_number fault
hierarchy_fault_number (File fault) = file_fault_number fault
hierarchy_fault_number NoSuchFile = 30
hierarchy_fault_number ReadOnly = 31
hierarchy_fault_number BurstAboveQuota = 33

-- the name that is printed
abbrev pub hierarchy_fault_name : Fault → List ℕ
hierarchy_fault_name (Tree fault) = tree_fault_name fault
hierarchy_fault_name (File fault) = file_fault_name fault
hierarchy_fault_name NoSuchFile = codes "NoSuchFile"
hierarchy_fault_name ReadOnly = codes "ReadOnly"
hierarchy_fault_name BurstAboveQuota = codes "BurstAboveQuota"

-- a call that grows something answers its refusal, or `OutOfMemory` in place of any answer
abbrev pub IsRefusal : {A : Type 0} → Result A Fault → Fault → Type 0
IsRefusal outcome fault = fault ≢ Tree OutOfMemory → outcome ≡ Err fault

-- `OutOfMemory` is answered only where nothing else refuses the call
abbrev pub IsMemoryLast : {A : Type 0} → Result A Fault → Fault → Type 0
IsMemoryLast outcome fault = fault ≡ Tree OutOfMemory → IfErr outcome (λ other. ⊥)
