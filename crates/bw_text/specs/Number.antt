-- A number is `0`, or decimal digits of which the first is not `0`. It may have any length.
use Rattle.std.specs.Prelude.{ℕ, ◌+◌, ◌-◌, ◌*◌, ◌^◌, Bool, ◌&&◌, ◌||◌, not, ◌==◌, nat_lt, List, []}
use Rattle.std.specs.Prelude.{◌∷◌, length, slice_index, Option, Some, None, Result, Ok}
use Rattle.std.specs.Prelude.{Err, if◌then◌else◌}
use Rattle.std.specs.Char.{is_ascii_digit}
use Rattle.std.specs.List.{list_all}
use Rattle.bw_text.specs.declared.number.NumberFault.{NumberFault}
use Rattle.bw_text.specs.declared.number.NumberFault.TheVariants.{BadForm, TooGreat}

-- whether a word is a number
abbrev pub is_number : List ℕ → Bool
is_number word = nat_lt 0 (length word) && list_all is_ascii_digit word
    && (length word == 1 || not (slice_index word 0 == 48))

-- each digit stands for itself times ten for each digit after it
abbrev pub value_of_digits : List ℕ → ℕ
value_of_digits [] = 0
value_of_digits (d ∷ ds) = (d - 48) * 10 ^ length ds + value_of_digits ds

-- the number that a word spells, however great
abbrev pub number_spelled : List ℕ → Option ℕ
number_spelled word = if is_number word then Some (value_of_digits word) else None

-- the number that a word spells at 64 bits where it may begin with any digit, or why there is none
abbrev pub digits_read : List ℕ → Result ℕ NumberFault
digits_read word =
    if list_all is_ascii_digit word
    then (if nat_lt (value_of_digits word) (2 ^ 64) then Ok (value_of_digits word)
    else Err TooGreat)
    else Err BadForm

-- the number below 2^64 that a word spells, or why there is none
abbrev pub number_read : List ℕ → Result ℕ NumberFault
number_read word =
    if is_number word
    then (if nat_lt (value_of_digits word) (2 ^ 64) then Ok (value_of_digits word)
    else Err TooGreat)
    else Err BadForm
