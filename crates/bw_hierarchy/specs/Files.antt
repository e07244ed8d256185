-- The files of a group.
use Rattle.std.specs.Prelude.{ℕ, ◌==◌, ◌&&◌, not, if◌then◌else◌, List, map, Option, Some, None}
use Rattle.std.specs.Prelude.{Result, Ok, Err}
use Rattle.bw_text.specs.Words.{words}
use Rattle.bw_model.specs.declared.stat.Stat.{Stat as Counters}
use Rattle.bw_tree.specs.Groups.{GroupFields, TreeState, group_at, has_group}
use Rattle.bw_tree.specs.Tree.{with_setting, set_weight, set_burst}
use Rattle.bw_tree.specs.declared.fault.TreeFault.TheVariants.{NotFound}
use Rattle.bw_files.specs.Reading.{weight_of, burst_of, max_of}
use Rattle.bw_files.specs.Writing.{weight_text, burst_text, max_text, stat_text}
use Rattle.bw_files.specs.declared.reading.MaxWrite.{MaxWrite}
use Rattle.bw_stat.specs.Books.{stat_at, or_zeros}
use Rattle.bw_hierarchy.specs.declared.fault.Fault.{Fault}
use Rattle.bw_hierarchy.specs.declared.fault.Fault.TheVariants.{Tree, NoSuchFile, ReadOnly}
use Rattle.bw_hierarchy.specs.Calls.{from_file, and_then, found_at, quota_at, fitting, max_set}
use Rattle.bw_hierarchy.specs.State.{HierarchyState}
use Rattle.bw_hierarchy.specs.GroupFiles.{file_named, is_of_root}
use Rattle.bw_hierarchy.specs.declared.group_file.GroupFile.{GroupFile}
use Rattle.bw_hierarchy.specs.declared.group_file.GroupFile.TheVariants.{Weight, Max, MaxBurst}
use Rattle.bw_hierarchy.specs.declared.group_file.GroupFile.TheVariants.{Stat}

-- the file of a group with a name; the root has its counters alone
abbrev pub file_of : ℕ → Option GroupFile → Result GroupFile Fault
file_of id None = Err NoSuchFile
file_of id (Some file) = if not (is_of_root file) && id == 0 then Err NoSuchFile else Ok file

-- the text of a file of a group; counters that were never booked are zeros
abbrev pub shown : List (ℕ × Counters) → ℕ → GroupFields → GroupFile → List ℕ
shown books id g Weight = weight_text g.weight
shown books id g Max = max_text g.quota g.period
shown books id g MaxBurst = burst_text g.burst
shown books id g Stat = stat_text (or_zeros (stat_at books id)) (id == 0)

-- the text of the file of a group with a name
abbrev pub text_of : List (ℕ × Counters) → ℕ → List ℕ → Option GroupFields → Result (List ℕ) Fault
text_of books id name None = Err (Tree NotFound)
text_of books id name (Some g) =
    and_then (file_of id (file_named name)) (λ file. Ok (shown books id g file))

-- the text of a file of the group at a path
abbrev pub read_of : HierarchyState → List ℕ → List ℕ → Result (List ℕ) Fault
read_of h path file =
    and_then (found_at h.tree path) (λ id. text_of h.books id file (group_at h.tree.groups id))

-- a text of `cpu.weight` sets the weight alone
abbrev pub weight_write : TreeState → ℕ → List ℕ → Result TreeState Fault
weight_write t id text =
    and_then (from_file (weight_of (words text))) (λ w. Ok (with_setting (set_weight w) t id))

-- a text of `cpu.max` sets the limit, and the period where it has one
abbrev pub max_write : TreeState → ℕ → List ℕ → Result TreeState Fault
max_write t id text =
    and_then (from_file (max_of (words text))) (λ (m : MaxWrite). max_set t id m.quota m.period)

-- a text of `cpu.max.burst` sets the burst alone
abbrev pub burst_write : TreeState → ℕ → List ℕ → Result TreeState Fault
burst_write t id text =
    and_then (from_file (burst_of (words text)))
    (λ n. fitting n (quota_at (group_at t.groups id)) (with_setting (set_burst n) t id))

-- the part of a group that no file sets: its place, its demand, and the slices that it left over in
-- the last booked period
pub record Unwritten : Type 0 where
  pub parent : Option ℕ
  pub name : List ℕ
  pub demand : ℕ
  pub carry : ℕ

-- that part of a group
abbrev pub unwritten : GroupFields → Unwritten
unwritten g = record { parent = g.parent; name = g.name; demand = g.demand; carry = g.carry }

-- that part of each group, with its id
abbrev pub unwritten_parts : TreeState → List (ℕ × Unwritten)
unwritten_parts t = map (λ (e : ℕ × GroupFields). (e.0, unwritten e.1)) t.groups

-- the tree after a text is written into a file of a group; the counters are read-only
abbrev pub file_write : TreeState → ℕ → List ℕ → GroupFile → Result TreeState Fault
file_write t id text Weight = weight_write t id text
file_write t id text Max = max_write t id text
file_write t id text MaxBurst = burst_write t id text
file_write t id text Stat = Err ReadOnly

-- the tree after a write, by the group's id and the name of the file
abbrev pub write_at : TreeState → ℕ → List ℕ → List ℕ → Result TreeState Fault
write_at t id name text = if not (has_group t.groups id) then Err (Tree NotFound)
    else and_then (file_of id (file_named name)) (file_write t id text)

-- the tree after a write, by the path of the group and the name of the file
abbrev pub write_of : TreeState → List ℕ → List ℕ → List ℕ → Result TreeState Fault
write_of t path name text = and_then (found_at t path) (λ id. write_at t id name text)
