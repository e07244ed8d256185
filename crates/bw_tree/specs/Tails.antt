-- The end of the way from the root down to a group.
use Rattle.std.specs.Prelude.{◌≡◌, ◌<◌, ℕ, List, [], ◌∷◌, length, Some}
use Rattle.std.specs.List.{join_with_byte}
use Rattle.bw_tree.specs.declared.tail.Tail.{Tail}
use Rattle.bw_tree.specs.Groups.{GroupFields, walk}

-- a text is the way from one group down to another: the names on it, at least one, joined by `/`
pub record IsWay (groups : List (ℕ × GroupFields)) (text : List ℕ) (above id : ℕ) : Type 0 where
  pub first : List ℕ
  pub others : List (List ℕ)
  pub leads : walk groups above (first ∷ others) ≡ Some id
  pub joined : join_with_byte 47 (first ∷ others) ≡ text

-- a tail is a group's: its text, where it has one, is the way from its top down to the group
abbrev pub IsTailOf : List (ℕ × GroupFields) → Tail → ℕ → Type 0
IsTailOf groups tail id = 0 < length tail.text.bytes → IsWay groups tail.text.bytes tail.top id

-- a tail without a text
abbrev pub no_tail : Tail
no_tail = record { text = record { bytes = []; spare = [] }; top = 0 }
