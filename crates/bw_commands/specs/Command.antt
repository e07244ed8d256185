-- The command that a line names.
use Rattle.std.specs.Prelude.{ℕ, List, [], ◌∷◌, Bool, true, false, ◌==◌, ◌||◌, nat_lt}
use Rattle.std.specs.Prelude.{if◌then◌else◌, codes}
use Rattle.std.specs.Prelude.{Option, Some, None, Result, Ok, Err}
use Rattle.std.specs.Str.{bytes_eq}
use Rattle.bw_commands.specs.Word.{first_word, after_word}
use Rattle.bw_commands.specs.declared.fault.ScriptFault.{ScriptFault}
use Rattle.bw_commands.specs.declared.fault.ScriptFault.TheVariants.{BadCommand}

-- The request of a line. A line without a word, or with a comment, asks for nothing.
pub data Command : Type 0 where
  Nothing : Command
  Mkdir : (path : List ℕ) → Command
  Rmdir : (path : List ℕ) → Command
  Demand : (path number : List ℕ) → Command
  Read : (path file : List ℕ) → Command
  Write : (path file text : List ℕ) → Command
  Total : Command
  Plan : Command
  Cert : Command
  Period : Command
  Report : Command

abbrev pub is_empty : List ℕ → Bool
is_empty [] = true
is_empty (b ∷ bs) = false

-- no word, or one that begins with `#`
abbrev pub is_silent : List ℕ → Bool
is_silent [] = true
is_silent (b ∷ bs) = b == 35

-- ---- the table of commands

-- The meaning of a first word, and the least and the greatest number of words behind it.
pub record Form : Type 0 where
  pub meaning : Command
  pub least : ℕ
  pub most : ℕ

abbrev pub form : ℕ → ℕ → Command → Form
form least most meaning = record { meaning = meaning; least = least; most = most }

-- The table: the first word, the least and the greatest number of words behind it, and the meaning.
-- The words behind
-- it are a path and a second word; the text is all that stands behind those. Three words behind it
-- may be more.
unfoldable pub forms : List ℕ → List ℕ → List ℕ → List (List ℕ × Form)
forms path word text =
    (codes "mkdir", form 1 1 (Mkdir path))
    ∷ (codes "rmdir", form 1 1 (Rmdir path))
    ∷ (codes "demand", form 2 2 (Demand path word))
    ∷ (codes "read", form 2 2 (Read path word))
    ∷ (codes "write", form 2 3 (Write path word text))
    ∷ (codes "total", form 0 0 Total)
    ∷ (codes "plan", form 0 0 Plan)
    ∷ (codes "cert", form 0 0 Cert)
    ∷ (codes "period", form 0 0 Period)
    ∷ (codes "report", form 0 0 Report)
    ∷ []

-- the form of a first word, if the table has it
abbrev pub form_named : List ℕ → List (List ℕ × Form) → Option Form
form_named verb [] = None
form_named verb (entry ∷ entries) =
    (if bytes_eq verb entry.0 then Some entry.1 else form_named verb entries)

-- ---- lines

-- the number of words behind the first, where 3 is three or more; a word that is not there is empty
abbrev pub words_behind : List ℕ → List ℕ → List ℕ → ℕ
words_behind first second third =
    (if is_empty first then 0 else if is_empty second then 1 else if is_empty third then 2 else 3)

-- the meaning of a form with so many words behind the first
abbrev pub command_of_form : ℕ → Option Form → Result Command ScriptFault
command_of_form count None = Err BadCommand
command_of_form count (Some form) =
    (if nat_lt count form.least || nat_lt form.most count then Err BadCommand else Ok form.meaning)

-- the command that these words name; a line with no word and a comment ask for nothing
unfoldable pub command_of_words : List ℕ → List ℕ → List ℕ → List ℕ → List ℕ
    → Result Command ScriptFault
command_of_words verb first second third text =
    (if is_silent verb then Ok Nothing
    else command_of_form (words_behind first second third)
    (form_named verb (forms first second text)))

-- the command that a line names, or the refusal of the line
unfoldable pub command_of_line : List ℕ → Result Command ScriptFault
command_of_line line =
    let a = after_word line in
    let b = after_word a in
    let c = after_word b in
    command_of_words (first_word line) (first_word a) (first_word b) (first_word c) c
