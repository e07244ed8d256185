-- The numbers and names of the refusals, and when each comes.
use Rattle.std.specs.Prelude.{ℕ, ◌<◌, ◌≤◌, List, length, codes}
use Rattle.bw_model.specs.Groups.{Groups}
use Rattle.bw_questions.specs.declared.guaranteed.fault.GuaranteeFault.{GuaranteeFault}
use Rattle.bw_questions.specs.declared.guaranteed.fault.GuaranteeFault.TheVariants.{NotFound}
use Rattle.bw_questions.specs.declared.guaranteed.fault.GuaranteeFault.TheVariants.{OutOfMemory}

abbrev pub guarantee_fault_number : GuaranteeFault → ℕ
guarantee_fault_number NotFound = 20
guarantee_fault_number OutOfMemory = 71

abbrev pub guarantee_fault_name : GuaranteeFault → List ℕ
guarantee_fault_name NotFound = codes "NotFound"
guarantee_fault_name OutOfMemory = codes "OutOfMemory"

-- no such group, or out of memory at one that there is
abbrev pub IsRefused : Groups → ℕ → GuaranteeFault → Type 0
IsRefused groups group NotFound = length groups.rows ≤ group
IsRefused groups group OutOfMemory = group < length groups.rows
