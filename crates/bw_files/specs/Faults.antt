-- The numbers and names of the refusals.
use Rattle.std.specs.Prelude.{ℕ, List, codes}
use Rattle.bw_files.specs.declared.fault.FileFault.{FileFault}
use Rattle.bw_files.specs.declared.fault.FileFault.TheVariants.{BadNumber, WeightOutOfRange}
use Rattle.bw_files.specs.declared.fault.FileFault.TheVariants.{QuotaTooSmall, QuotaTooLarge}
use Rattle.bw_files.specs.declared.fault.FileFault.TheVariants.{PeriodOutOfRange, TooManyWords}
use Rattle.bw_files.specs.declared.fault.FileFault.TheVariants.{Empty}

-- the number that is printed
abbrev pub file_fault_number : FileFault → ℕ
file_fault_number BadNumber = 11
file_fault_number WeightOutOfRange = 12
file_fault_number QuotaTooSmall = 13
file_fault_number QuotaTooLarge = 14
file_fault_number PeriodOutOfRange = 15
file_fault_number TooManyWords = 16
file_fault_number Empty = 17

-- the name that is printed
abbrev pub file_fault_name : FileFault → List ℕ
file_fault_name BadNumber = codes "BadNumber"
file_fault_name WeightOutOfRange = codes "WeightOutOfRange"
file_fault_name QuotaTooSmall = codes "QuotaTooSmall"
file_fault_name QuotaTooLarge = codes "QuotaTooLarge"
file_fault_name PeriodOutOfRange = codes "PeriodOutOfRange"
file_fault_name TooManyWords = codes "TooManyWords"
file_fault_name Empty = codes "Empty"
