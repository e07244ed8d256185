-- A script has one transcript, whatever its threads did.
use Rattle.std.specs.Prelude.{◌≡◌, ◌||◌, ℕ, Bool, true, false, List, codes}
use Rattle.std.specs.List.{list_any}
use Rattle.std.specs.Str.{bytes_eq}
use Rattle.bw_model.specs.Host.{Shape}
use Rattle.bw_hierarchy.specs.State.{HierarchyState}
use Rattle.bw_commands.specs.State.{State, start}
use Rattle.bw_commands.specs.Lines.{lines_of}
use Rattle.bw_commands.specs.Reading.{in_use, IsRead}
use Rattle.bw_commands.specs.declared.reading.RefusedLine.{RefusedLine}
use Rattle.bw_shell.specs.Transcript.{Answers}

-- the line stands in place of an answer: a thread or memory was refused
abbrev pub is_failure : List ℕ → Bool
is_failure line =
    bytes_eq line (codes "error 70 NotStarted") || bytes_eq line (codes "error 71 OutOfMemory")

-- no line of the text is such a line
abbrev pub IsWithoutFailure : List ℕ → Type 0
IsWithoutFailure text = list_any is_failure (lines_of text) ≡ false

-- Two transcripts of one script without such a line are the same text, and lead to the same state.
abbrev pub ThereIsOneTranscript : Type 0
ThereIsOneTranscript =
    (shape : Shape) (uses : ℕ → Bool) (lines : List (List ℕ)) (one two : List ℕ) (s t : State)
    → Answers (start shape uses) lines one s → Answers (start shape uses) lines two t
    → IsWithoutFailure one → IsWithoutFailure two
    → (one ≡ two) × (s ≡ t)

-- A script that is read leads to the state of its transcript, if that has no such line.
abbrev pub ReadingFollowsTheTranscript : Type 0
ReadingFollowsTheTranscript =
    (shape : Shape) (script printed : List ℕ) (refusals : List RefusedLine) (last : HierarchyState)
    (s : State)
    → IsRead shape script refusals last
    → Answers (start shape (λ leaf. true)) (lines_of script) printed s → IsWithoutFailure printed
    → s ≡ in_use last
