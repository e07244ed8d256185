-- The text of a group's line, by the program's value.
use Rattle.std.specs.Prelude.{ℕ, ⊤, List, [], ◌∷◌, ◌++◌, ◌<◌, ◌≡◌, length, slice_index}
use Rattle.bw_commands.specs.Planned.{amount_line}
use Rattle.bw_commands.specs.Reported.{booked_line}
use Rattle.bw_commands.specs.declared.answers.line.Line.{Line}
use Rattle.bw_commands.specs.declared.answers.line.Line.TheVariants.{Amount, Counters}

-- the line of a row with this id, by its path
abbrev pub line_at : Line → ℕ → ℕ → List ℕ → List ℕ
line_at (Amount amounts) g id = amount_line amounts.now g
line_at (Counters books) g id = booked_line books.now id

-- the line of a row, by the ids of all rows, its number and its path
abbrev pub line_of : Line → List ℕ → ℕ → List ℕ → List ℕ
line_of line ids g = line_at line g (slice_index ids g)

-- there is something to tell of the row
abbrev pub HasRow : Line → ℕ → Type 0
HasRow (Amount amounts) g = g < length amounts.now
HasRow (Counters books) g = ⊤

-- a line that depends on the path begins with this text, and the path and a newline end it
abbrev pub IsHead : (List ℕ → List ℕ) → List ℕ → Type 0
IsHead line head = (path : List ℕ) → line path ≡ head ++ path ++ 10 ∷ []
