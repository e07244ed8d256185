-- The number and the name of each fault of a trace.
use Rattle.std.specs.Prelude.{ℕ, List, codes}
use Rattle.dispatch.specs.declared.fault.InputFault.{InputFault}
use Rattle.dispatch.specs.declared.fault.InputFault.TheVariants.{BadNumber, NotFound, BadLine}
use Rattle.dispatch.specs.declared.fault.InputFault.TheVariants.{BadField, CutShort}

abbrev pub input_fault_number : InputFault → ℕ
input_fault_number BadNumber = 11
input_fault_number NotFound = 20
input_fault_number BadLine = 40
input_fault_number BadField = 41
input_fault_number CutShort = 42

abbrev pub input_fault_name : InputFault → List ℕ
input_fault_name BadNumber = codes "BadNumber"
input_fault_name NotFound = codes "NotFound"
input_fault_name BadLine = codes "BadLine"
input_fault_name BadField = codes "BadField"
input_fault_name CutShort = codes "CutShort"
