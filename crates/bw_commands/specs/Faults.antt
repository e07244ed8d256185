-- The numbers and names of the refusals of a line, and the line that prints one.
use Rattle.std.specs.Prelude.{ℕ, List, codes}
use Rattle.bw_hierarchy.specs.Faults.{hierarchy_fault_number, hierarchy_fault_name}
use Rattle.bw_streams.specs.Answers.{refusal_line}
use Rattle.bw_workers.specs.declared.fault.ServeFault.{ServeFault}
use Rattle.bw_workers.specs.declared.fault.ServeFault.TheVariants as serve
use Rattle.bw_commands.specs.declared.fault.ScriptFault.{ScriptFault}
use Rattle.bw_commands.specs.declared.fault.ScriptFault.TheVariants.{BadNumber, Call, NotStarted}
use Rattle.bw_commands.specs.declared.fault.ScriptFault.TheVariants.{OutOfMemory, BadCommand}
use Rattle.bw_commands.specs.declared.fault.ScriptFault.TheVariants.{BadText, LineTooLong}

abbrev pub script_fault_number : ScriptFault → ℕ
script_fault_number BadNumber = 11
script_fault_number (Call fault) = hierarchy_fault_number fault
script_fault_number NotStarted = 70
script_fault_number OutOfMemory = 71
script_fault_number BadCommand = 80
script_fault_number BadText = 81
script_fault_number LineTooLong = 82

abbrev pub script_fault_name : ScriptFault → List ℕ
script_fault_name BadNumber = codes "BadNumber"
script_fault_name (Call fault) = hierarchy_fault_name fault
script_fault_name NotStarted = codes "NotStarted"
script_fault_name OutOfMemory = codes "OutOfMemory"
script_fault_name BadCommand = codes "BadCommand"
script_fault_name BadText = codes "BadText"
script_fault_name LineTooLong = codes "LineTooLong"

-- why a period is not served, as a refusal of its line
abbrev pub of_serve_fault : ServeFault → ScriptFault
of_serve_fault serve.NotStarted = NotStarted
of_serve_fault serve.OutOfMemory = OutOfMemory

-- the line that the refusal of a line prints
unfoldable pub error_line : ScriptFault → List ℕ
error_line fault = refusal_line (script_fault_number fault) (script_fault_name fault)
