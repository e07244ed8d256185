-- The lines of answers that have a number.
use Rattle.std.specs.Prelude.{ℕ, List, [], ◌∷◌, ◌++◌, codes}
use Rattle.std.specs.Fmt.{decimal}

-- a number behind a word, on a line
abbrev pub number_line : List ℕ → ℕ → List ℕ
number_line word number = word ++ decimal number ++ 10 ∷ []

-- the line that a refusal prints, by its number and its name
abbrev pub refusal_line : ℕ → List ℕ → List ℕ
refusal_line number name = codes "error " ++ decimal number ++ codes " " ++ name ++ 10 ∷ []
