-- The numbers that are answered.
use Rattle.std.specs.Prelude.{ℕ}
use Rattle.bw_model.specs.Faults.{host_fault_number, instance_fault_number}
use Rattle.bw_files.specs.Faults.{file_fault_number}
use Rattle.bw_columns.specs.declared.refusal.Refusal.{Refusal}
use Rattle.bw_columns.specs.declared.refusal.Refusal.TheVariants.{WrongLength, Host, Instance}
use Rattle.bw_columns.specs.declared.refusal.Refusal.TheVariants.{NotFound, Setting}

-- the number of a refusal
abbrev pub number_of_refusal : Refusal → ℕ
number_of_refusal WrongLength = 50
number_of_refusal (Host fault) = host_fault_number fault
number_of_refusal (Instance fault) = instance_fault_number fault
number_of_refusal NotFound = 20
number_of_refusal (Setting fault) = file_fault_number fault
