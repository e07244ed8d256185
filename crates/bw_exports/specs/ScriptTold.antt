-- A script that was read, in the program's columns.
use Rattle.std.specs.Prelude.{◌≡◌, ℕ, List}
use Rattle.bw_model.specs.Host.{Shape}
use Rattle.bw_hierarchy.specs.State.{HierarchyState}
use Rattle.bw_commands.specs.Reading.{IsRead}
use Rattle.bw_commands.specs.declared.reading.RefusedLine.{RefusedLine}
use Rattle.bw_columns.specs.Groups.{told_of, columns_of}
use Rattle.bw_exports.specs.Script.{line_numbers, fault_numbers}
use Rattle.bw_exports.specs.declared.told.Told.{Told}

-- the groups after the script, and its refused lines
pub record IsTold (shape : Shape) (text : List ℕ) (told : Told) : Type 0 where
  pub last : HierarchyState
  pub refused : List RefusedLine
  pub read : IsRead shape text refused last
  pub groups : columns_of told.groups ≡ told_of last
  pub lines : told.lines.items ≡ line_numbers refused
  pub faults : told.faults.items ≡ fault_numbers refused
