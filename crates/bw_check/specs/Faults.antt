-- The numbers and names of the faults.
use Rattle.std.specs.Prelude.{ℕ, List, codes}
use Rattle.bw_check.specs.declared.fault.CheckFault.{CheckFault}
use Rattle.bw_check.specs.declared.fault.CheckFault.TheVariants.{WrongLength, OverLimit, OverDemand}
use Rattle.bw_check.specs.declared.fault.CheckFault.TheVariants.{SumDiffers, FlagWithoutLimit}
use Rattle.bw_check.specs.declared.fault.CheckFault.TheVariants.{NotGreatest, LevelMissing}
use Rattle.bw_check.specs.declared.fault.CheckFault.TheVariants.{LastMarkAbove, NextMarkNotAbove}

abbrev pub check_fault_number : CheckFault → ℕ
check_fault_number WrongLength = 50
check_fault_number OverLimit = 51
check_fault_number OverDemand = 52
check_fault_number SumDiffers = 53
check_fault_number FlagWithoutLimit = 54
check_fault_number NotGreatest = 55
check_fault_number LevelMissing = 56
check_fault_number LastMarkAbove = 57
check_fault_number NextMarkNotAbove = 58

abbrev pub check_fault_name : CheckFault → List ℕ
check_fault_name WrongLength = codes "WrongLength"
check_fault_name OverLimit = codes "OverLimit"
check_fault_name OverDemand = codes "OverDemand"
check_fault_name SumDiffers = codes "SumDiffers"
check_fault_name FlagWithoutLimit = codes "FlagWithoutLimit"
check_fault_name NotGreatest = codes "NotGreatest"
check_fault_name LevelMissing = codes "LevelMissing"
check_fault_name LastMarkAbove = codes "LastMarkAbove"
check_fault_name NextMarkNotAbove = codes "NextMarkNotAbove"
