-- Refusals are short: a number of at most two digits, and a name of at most 20 bytes.
use Rattle.std.proofs.Common.{◌<◌, ◌≤◌, length, arith}
use Rattle.bw_tree.specs.declared.fault.TreeFault.TheVariants.{NotFound, Exists, BadName}
use Rattle.bw_tree.specs.declared.fault.TreeFault.TheVariants.{HasChildren, HasDemand}
use Rattle.bw_tree.specs.declared.fault.TreeFault.TheVariants.{ParentHasDemand, RootFixed, TreeFull}
use Rattle.bw_tree.specs.declared.fault.TreeFault.TheVariants.{IdsSpent, TooDeep, InnerDemand}
use Rattle.bw_tree.specs.declared.fault.TreeFault.TheVariants.{DemandTooLarge, OutOfMemory}
use Rattle.bw_files.specs.declared.fault.FileFault.TheVariants.{BadNumber, WeightOutOfRange}
use Rattle.bw_files.specs.declared.fault.FileFault.TheVariants.{QuotaTooSmall, QuotaTooLarge}
use Rattle.bw_files.specs.declared.fault.FileFault.TheVariants.{PeriodOutOfRange, TooManyWords}
use Rattle.bw_files.specs.declared.fault.FileFault.TheVariants.{Empty}
use Rattle.bw_hierarchy.specs.Faults.{hierarchy_fault_number, hierarchy_fault_name}
use Rattle.bw_hierarchy.specs.declared.fault.Fault.{Fault}
use Rattle.bw_hierarchy.specs.declared.fault.Fault.TheVariants.{Tree, File, NoSuchFile, ReadOnly}
use Rattle.bw_hierarchy.specs.declared.fault.Fault.TheVariants.{BurstAboveQuota}

pub hierarchy_fault_number-lt : (fault : Fault) → hierarchy_fault_number fault < 100
hierarchy_fault_number-lt (Tree NotFound) = omega arith
hierarchy_fault_number-lt (Tree Exists) = omega arith
hierarchy_fault_number-lt (Tree BadName) = omega arith
hierarchy_fault_number-lt (Tree HasChildren) = omega arith
hierarchy_fault_number-lt (Tree HasDemand) = omega arith
hierarchy_fault_number-lt (Tree ParentHasDemand) = omega arith
hierarchy_fault_number-lt (Tree RootFixed) = omega arith
hierarchy_fault_number-lt (Tree TreeFull) = omega arith
hierarchy_fault_number-lt (Tree IdsSpent) = omega arith
hierarchy_fault_number-lt (Tree TooDeep) = omega arith
hierarchy_fault_number-lt (Tree InnerDemand) = omega arith
hierarchy_fault_number-lt (Tree DemandTooLarge) = omega arith
hierarchy_fault_number-lt (Tree OutOfMemory) = omega arith
hierarchy_fault_number-lt (File BadNumber) = omega arith
hierarchy_fault_number-lt (File WeightOutOfRange) = omega arith
hierarchy_fault_number-lt (File QuotaTooSmall) = omega arith
hierarchy_fault_number-lt (File QuotaTooLarge) = omega arith
hierarchy_fault_number-lt (File PeriodOutOfRange) = omega arith
hierarchy_fault_number-lt (File TooManyWords) = omega arith
hierarchy_fault_number-lt (File Empty) = omega arith
hierarchy_fault_number-lt NoSuchFile = omega arith
hierarchy_fault_number-lt ReadOnly = omega arith
hierarchy_fault_number-lt BurstAboveQuota = omega arith

pub length-hierarchy_fault_name-le : (fault : Fault) → length (hierarchy_fault_name fault) ≤ 20
length-hierarchy_fault_name-le (Tree NotFound) = omega arith
length-hierarchy_fault_name-le (Tree Exists) = omega arith
length-hierarchy_fault_name-le (Tree BadName) = omega arith
length-hierarchy_fault_name-le (Tree HasChildren) = omega arith
length-hierarchy_fault_name-le (Tree HasDemand) = omega arith
length-hierarchy_fault_name-le (Tree ParentHasDemand) = omega arith
length-hierarchy_fault_name-le (Tree RootFixed) = omega arith
length-hierarchy_fault_name-le (Tree TreeFull) = omega arith
length-hierarchy_fault_name-le (Tree IdsSpent) = omega arith
length-hierarchy_fault_name-le (Tree TooDeep) = omega arith
length-hierarchy_fault_name-le (Tree InnerDemand) = omega arith
length-hierarchy_fault_name-le (Tree DemandTooLarge) = omega arith
length-hierarchy_fault_name-le (Tree OutOfMemory) = omega arith
length-hierarchy_fault_name-le (File BadNumber) = omega arith
length-hierarchy_fault_name-le (File WeightOutOfRange) = omega arith
length-hierarchy_fault_name-le (File QuotaTooSmall) = omega arith
length-hierarchy_fault_name-le (File QuotaTooLarge) = omega arith
length-hierarchy_fault_name-le (File PeriodOutOfRange) = omega arith
length-hierarchy_fault_name-le (File TooManyWords) = omega arith
length-hierarchy_fault_name-le (File Empty) = omega arith
length-hierarchy_fault_name-le NoSuchFile = omega arith
length-hierarchy_fault_name-le ReadOnly = omega arith
length-hierarchy_fault_name-le BurstAboveQuota = omega arith
