-- The files of a group, by their names.
use Rattle.std.specs.Prelude.{ℕ, Bool, true, false, List, codes, Option, Some, None, if◌then◌else◌}
use Rattle.std.specs.Str.{bytes_eq}
use Rattle.bw_hierarchy.specs.declared.group_file.GroupFile.{GroupFile}
use Rattle.bw_hierarchy.specs.declared.group_file.GroupFile.TheVariants.{Weight, Max, MaxBurst}
use Rattle.bw_hierarchy.specs.declared.group_file.GroupFile.TheVariants.{Stat}

-- the name of a file
abbrev pub file_name : GroupFile → List ℕ
file_name Weight = codes "cpu.weight"
file_name Max = codes "cpu.max"
file_name MaxBurst = codes "cpu.max.burst"
file_name Stat = codes "cpu.stat"

-- the file with a name
abbrev pub file_named : List ℕ → Option GroupFile
file_named name =
    if bytes_eq name (file_name Weight) then Some Weight
    else if bytes_eq name (file_name Max) then Some Max
    else if bytes_eq name (file_name MaxBurst) then Some MaxBurst
    else if bytes_eq name (file_name Stat) then Some Stat
    else None

-- whether the root has a file: its counters alone
abbrev pub is_of_root : GroupFile → Bool
is_of_root Weight = false
is_of_root Max = false
is_of_root MaxBurst = false
is_of_root Stat = true
