-- The tree after a write, and the text that is read after it.
use Rattle.std.specs.Prelude.{◌≡◌, ◌≢◌, ℕ, List, Ok, Some, unwrap_or}
use Rattle.bw_text.specs.Words.{words}
use Rattle.bw_tree.specs.Groups.{TreeState, GroupFields, group_at, find_path}
use Rattle.bw_files.specs.Reading.{weight_of, burst_of, max_of}
use Rattle.bw_files.specs.Writing.{weight_text, burst_text, max_text}
use Rattle.bw_files.specs.declared.reading.MaxWrite.{MaxWrite}
use Rattle.bw_hierarchy.specs.declared.group_file.GroupFile.TheVariants.{Weight, Max, MaxBurst}
use Rattle.bw_hierarchy.specs.declared.group_file.GroupFile.TheVariants.{Stat}
use Rattle.bw_hierarchy.specs.GroupFiles.{file_name}
use Rattle.bw_hierarchy.specs.Files.{read_of, write_of, unwritten_parts}
use Rattle.bw_hierarchy.specs.State.{HierarchyState, with_tree}

-- a weight that was written is read
abbrev pub IsWeightRead : Type 0
IsWeightRead =
    (h : HierarchyState) (u : TreeState) (path text : List ℕ) (n : ℕ)
    → write_of h.tree path (file_name Weight) text ≡ Ok u
    → weight_of (words text) ≡ Ok n
    → read_of (with_tree h u) path (file_name Weight) ≡ Ok (weight_text n)

-- a limit that was written is read, with the period that was written or the one that the group had
abbrev pub IsMaxRead : Type 0
IsMaxRead =
    (h : HierarchyState) (u : TreeState) (path text : List ℕ) (m : MaxWrite) (id : ℕ)
    (g : GroupFields)
    → find_path h.tree.groups path ≡ Some id → group_at h.tree.groups id ≡ Some g
    → write_of h.tree path (file_name Max) text ≡ Ok u
    → max_of (words text) ≡ Ok m → read_of (with_tree h u) path (file_name Max)
    ≡ Ok (max_text m.quota (unwrap_or m.period g.period))

-- a burst that was written is read
abbrev pub IsBurstRead : Type 0
IsBurstRead =
    (h : HierarchyState) (u : TreeState) (path text : List ℕ) (n : ℕ)
    → write_of h.tree path (file_name MaxBurst) text ≡ Ok u
    → burst_of (words text) ≡ Ok n
    → read_of (with_tree h u) path (file_name MaxBurst) ≡ Ok (burst_text n)

-- each other file of the group has the text that it had
abbrev pub KeepsOtherFiles : Type 0
KeepsOtherFiles =
    (h : HierarchyState) (u : TreeState) (path file text other : List ℕ)
    → write_of h.tree path file text ≡ Ok u → other ≢ file
    → read_of (with_tree h u) path other ≡ read_of h path other

-- each file of each other group has the text that it had
abbrev pub KeepsOtherGroups : Type 0
KeepsOtherGroups =
    (h : HierarchyState) (u : TreeState) (path file text elsewhere other : List ℕ)
    → write_of h.tree path file text ≡ Ok u
    → find_path h.tree.groups elsewhere ≢ find_path h.tree.groups path
    → read_of (with_tree h u) elsewhere other ≡ read_of h elsewhere other

-- each group's counters have the text that they had
abbrev pub KeepsCounters : Type 0
KeepsCounters =
    (h : HierarchyState) (u : TreeState) (path file text elsewhere : List ℕ)
    → write_of h.tree path file text ≡ Ok u
    → read_of (with_tree h u) elsewhere (file_name Stat) ≡ read_of h elsewhere (file_name Stat)

-- no group moves, and each keeps what no file sets
abbrev pub KeepsRest : Type 0
KeepsRest =
    (t u : TreeState) (path file text : List ℕ) → write_of t path file text ≡ Ok u
    → (u.next ≡ t.next) × (unwritten_parts u ≡ unwritten_parts t)
