-- The value that a text certifies, and its one spelling.
use Rattle.std.specs.Prelude.{◌≡◌, ℕ, ◌<◌, ◌≤◌, ◌^◌, Bool, true, false, ◌==◌, List, [], ◌∷◌, ◌++◌}
use Rattle.std.specs.Prelude.{length, map, Option, Some, None, IfSome, codes}
use Rattle.std.specs.List.{slice_split, join_with_byte, flat_map, All}
use Rattle.std.specs.Fmt.{decimal}
use Rattle.bw_model.specs.Host.{Shape}
use Rattle.bw_model.specs.Groups.{Groups, IsInstance}
use Rattle.bw_model.specs.declared.row.Row.{Row}
use Rattle.bw_model.specs.Marks.{MarkValue, price_of}
use Rattle.bw_model.specs.Plan.{IsPlan}
use Rattle.bw_model.specs.declared.certificate.Certificate.{Certificate}
use Rattle.std.specs.Option.{option_map}

-- the contents of the groups' lines, by column
pub record Columns : Type 0 where
  pub rows : List Row
  pub amounts : List ℕ
  pub flags : List Bool
  pub levels : List (Option MarkValue)

-- all that a text says
pub record Value : Type 0 where
  pub shape : Shape
  pub groups : Columns

-- the parts between newlines: each but the last is a line
abbrev pub text_lines : List ℕ → List (List ℕ)
text_lines text = slice_split (λ b. b == 10) text

-- the words between single spaces, which may be empty
abbrev pub words_of : List ℕ → List (List ℕ)
words_of line = slice_split (λ b. b == 32) line

-- words with one space between them, and a newline
abbrev pub line : List (List ℕ) → List ℕ
line ws = join_with_byte 32 ws ++ 10 ∷ []

-- `-` for none, else a row number
abbrev pub parent_word : Option ℕ → List ℕ
parent_word None = codes "-"
parent_word (Some n) = decimal n

-- `max` for none, else slices
abbrev pub limit_word : Option ℕ → List ℕ
limit_word None = codes "max"
limit_word (Some n) = decimal n

-- `1` or `0`
abbrev pub flag_word : Bool → List ℕ
flag_word true = codes "1"
flag_word false = codes "0"

-- `-` for none, else `NUM/DEN@PLACE`
abbrev pub level_word : Option MarkValue → List ℕ
level_word None = codes "-"
level_word (Some l) = decimal l.num ++ codes "/" ++ decimal l.den ++ codes "@" ++ decimal l.place

-- the words of the first line
abbrev pub head_words : Shape → ℕ → List (List ℕ)
head_words h count = codes "bw" ∷ codes "1" ∷ decimal h.processors ∷ decimal h.period_us
    ∷ decimal h.slice_us ∷ decimal count ∷ []

-- the words of a group's line
abbrev pub group_words : Row → ℕ → Bool → Option MarkValue → List (List ℕ)
group_words r amount flag level =
    parent_word r.parent ∷ decimal r.weight ∷ limit_word r.limit ∷ decimal r.demand ∷ decimal amount
    ∷ flag_word flag ∷ level_word level ∷ []

-- the words of a row, each with the space after it
abbrev pub row_words : Row → List ℕ
row_words r = parent_word r.parent ++ codes " " ++ decimal r.weight ++ codes " "
    ++ limit_word r.limit ++ codes " "
    ++ decimal r.demand ++ codes " "

-- the words of each group's line
abbrev pub groups_words : List Row → List ℕ → List Bool → List (Option MarkValue)
    → List (List (List ℕ))
groups_words (r ∷ rs) (amount ∷ amounts) (flag ∷ flags) (level ∷ levels) =
    group_words r amount flag level ∷ groups_words rs amounts flags levels
groups_words _ _ _ _ = []

-- a line for each group
abbrev pub groups_text : Columns → List ℕ
groups_text g = flat_map line (groups_words g.rows g.amounts g.flags g.levels)

-- the one spelling of a value
abbrev pub spelling : Value → List ℕ
spelling v = line (head_words v.shape (length v.groups.rows)) ++ groups_text v.groups

-- the value that certifies amounts for an instance
abbrev pub certified_value : Groups → List ℕ → Certificate → Value
certified_value i amounts c = record {
  shape = i.shape;
  groups = record {
    rows = i.rows;
    amounts = amounts;
    flags = c.tight.items;
    levels = map (option_map price_of) c.levels.items;
  };
}

-- numbers of 64 bits, and a parent's of 32
pub record IsSmallRow (r : Row) : Type 0 where
  pub parent : IfSome r.parent (λ n. n < 2 ^ 32)
  pub weight : r.weight < 2 ^ 64
  pub limit : IfSome r.limit (λ n. n < 2 ^ 64)
  pub demand : r.demand < 2 ^ 64

-- the numbers of a level: 64 bits and above 0, but for the place
pub record IsSmallLevel (l : MarkValue) : Type 0 where
  pub num : l.num < 2 ^ 64
  pub some_num : 1 ≤ l.num
  pub den : l.den < 2 ^ 64
  pub some_den : 1 ≤ l.den
  pub place : l.place < 2 ^ 32

-- the groups that a value tells of
abbrev pub groups_of : Value → Groups
groups_of v = record { shape = v.shape; rows = v.groups.rows }

-- an instance, and an amount, a flag and a level for each of its rows, each within its range
pub record IsValue (v : Value) : Type 0 where
  pub instance : IsInstance (groups_of v)
  pub amounts : length v.groups.amounts ≡ length v.groups.rows
  pub flags : length v.groups.flags ≡ length v.groups.rows
  pub levels : length v.groups.levels ≡ length v.groups.rows
  pub small_rows : All IsSmallRow v.groups.rows
  pub small_amounts : All (λ n. n < 2 ^ 64) v.groups.amounts
  pub small_levels : All (λ o. IfSome o IsSmallLevel) v.groups.levels

-- a text that certifies the plan of its instance
pub record HoldsPlan (text : List ℕ) : Type 0 where
  pub value : Value
  pub valid : IsValue value
  pub spelled : text ≡ spelling value
  pub plan : IsPlan (groups_of value) value.groups.amounts
