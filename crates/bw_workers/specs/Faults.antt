-- The numbers and names of the refusals.
use Rattle.std.specs.Prelude.{ℕ, List, codes}
use Rattle.bw_workers.specs.declared.fault.ServeFault.{ServeFault}
use Rattle.bw_workers.specs.declared.fault.ServeFault.TheVariants.{NotStarted, OutOfMemory}

-- the number that is printed
abbrev pub serve_fault_number : ServeFault → ℕ
serve_fault_number NotStarted = 70
serve_fault_number OutOfMemory = 71

-- the name that is printed
abbrev pub serve_fault_name : ServeFault → List ℕ
serve_fault_name NotStarted = codes "NotStarted"
serve_fault_name OutOfMemory = codes "OutOfMemory"
