-- What stands at each turn of the loop in `names`.
use Rattle.std.proofs.Common.{◌≡◌, ◌++◌, drop}
use Rattle.bw_columns.specs.Groups.{name_lines}
use Rattle.bw_columns.proofs.groups.names.Given as goal

-- the names so far, and then those of the other groups, are all names
abbrev pub invariant-loop-id : goal.invariant-loop-id
invariant-loop-id l =
    l.text.items ++ name_lines l.tree.groups (drop l.id-index l.ids)
    ≡ name_lines l.tree.groups l.ids
