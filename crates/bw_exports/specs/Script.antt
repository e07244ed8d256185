-- The groups after a script and its refused lines, in the columns of an answer.
use Rattle.std.specs.Prelude.{◌≡◌, ◌≢◌, ◌⊎◌, ◌==◌, ◌&&◌, nat_le, ℕ, Bool, List, [], ◌∷◌, length}
use Rattle.std.specs.Prelude.{map, if◌then◌else◌}
use Rattle.std.specs.Option.{option_map_or}
use Rattle.bw_model.specs.Host.{Shape, host_refusal}
use Rattle.bw_model.specs.Faults.{host_fault_number}
use Rattle.bw_hierarchy.specs.State.{HierarchyState}
use Rattle.bw_commands.specs.Faults.{script_fault_number}
use Rattle.bw_commands.specs.Reading.{IsRead}
use Rattle.bw_commands.specs.declared.reading.RefusedLine.{RefusedLine}
use Rattle.bw_columns.specs.Asked.{are_of_length}
use Rattle.bw_columns.specs.Groups.{Told, told_of, on_front, on_columns}

-- all that the call may write
pub record Room : Type 0 where
  pub columns : Told
  pub lines : List ℕ
  pub faults : List ℕ
  pub count : ℕ
  pub names_count : ℕ
  pub refused_count : ℕ

-- nine columns, two of refused lines, and three numbers
abbrev pub room_of : Told → List ℕ → List ℕ → ℕ → ℕ → ℕ → Room
room_of columns lines faults count names_count refused_count =
    record {
      columns = columns;
      lines = lines;
      faults = faults;
      count = count;
      names_count = names_count;
      refused_count = refused_count;
    }

-- whether the columns of the groups are of one length, and the two of the refused lines
abbrev pub is_even : Room → Bool
is_even room =
    are_of_length (length room.columns.parents) (room.columns.weights ∷ room.columns.limits
    ∷ room.columns.demands ∷ room.columns.quotas ∷ room.columns.periods ∷ room.columns.bursts
    ∷ room.columns.carries ∷ [])
    && length room.lines == length room.faults

-- these columns written at the front of what the call may write
abbrev pub with_told : Told → List ℕ → List ℕ → Room → Room
with_told told lines faults before = record {
  columns = on_columns told before.columns;
  lines = on_front lines before.lines;
  faults = on_front faults before.faults;
  count = length told.parents;
  names_count = length told.names;
  refused_count = length lines;
}

-- the numbers of the refused lines, and those of their faults
abbrev pub line_numbers : List RefusedLine → List ℕ
line_numbers refused = map (λ r. r.line) refused

abbrev pub fault_numbers : List RefusedLine → List ℕ
fault_numbers refused = map (λ r. script_fault_number r.fault) refused

-- a hierarchy and the refused lines, written
abbrev pub written : HierarchyState → List RefusedLine → Room → Room
written h refused before =
    with_told (told_of h) (line_numbers refused) (fault_numbers refused) before

-- whether there is room for these columns
abbrev pub fits : Told → List ℕ → Room → Bool
fits told lines room =
    nat_le (length told.parents) (length room.columns.parents)
    && nat_le (length told.names) (length room.columns.names)
    && nat_le (length lines) (length room.lines)

-- whether there is room for a hierarchy and the refused lines
abbrev pub has_room : HierarchyState → List RefusedLine → Room → Bool
has_room h refused room = fits (told_of h) (line_numbers refused) room

-- the number that refuses a call before the script is read, 0 where none does
unfoldable pub early_number : Shape → Room → ℕ
early_number shape room =
    if is_even room then option_map_or host_fault_number (host_refusal shape) 0 else 50

-- The answer where the script was read: 0, and all is written, or 50, where there is no room.
pub record IsAnswered (shape : Shape) (text : List ℕ) (before after : Room) (number : ℕ)
    : Type 0 where
  pub last : HierarchyState
  pub refused : List RefusedLine
  pub read : IsRead shape text refused last
  pub number_is : number ≡ (if has_room last refused before then 0 else 50)
  pub after_is : after
      ≡ (if has_room last refused before then written last refused before
      else before)

-- The answer of a call: it is refused before the script is read, or with 71 for memory, and nothing
-- is written, or the script is read.
abbrev pub IsScriptAnswer : Shape → List ℕ → Room → Room → ℕ → Type 0
IsScriptAnswer shape text before after number =
    ((early_number shape before ≢ 0) × (number ≡ early_number shape before) × (after ≡ before))
    ⊎ ((early_number shape before ≡ 0) × (number ≡ 71) × (after ≡ before))
    ⊎ ((early_number shape before ≡ 0) × IsAnswered shape text before after number)
