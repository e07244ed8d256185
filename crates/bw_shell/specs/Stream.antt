-- The change that a run makes to the known bytes of its reader and its writer.
use Rattle.std.specs.Prelude.{ℕ, List, Option}
use Rattle.std.specs.Io.KnownBytes.{Appends, Consumes}
use Rattle.bw_commands.specs.State.{State}
use Rattle.bw_streams.specs.Fronts.{AppendsFront}
use Rattle.bw_shell.specs.Transcript.{IsTranscript}

-- The bytes written are the transcript of the lines of the bytes read.
abbrev pub Transcribes : State → (List ℕ → List (List ℕ)) → Option (List ℕ) → Option (List ℕ)
    → Option (List ℕ) → Option (List ℕ) → Type 0
Transcribes s lines left_old left_new held_old held_new =
    (input text : List ℕ) × Consumes left_old left_new input × IsTranscript s (lines input) text
    × Appends held_old held_new text

-- The bytes written are a front of that transcript.
abbrev pub TranscribesFront : State → (List ℕ → List (List ℕ)) → Option (List ℕ) → Option (List ℕ)
    → Option (List ℕ) → Option (List ℕ) → Type 0
TranscribesFront s lines left_old left_new held_old held_new =
    (input text : List ℕ) × Consumes left_old left_new input × IsTranscript s (lines input) text
    × AppendsFront held_old held_new text
