-- A transcript: the answers to the lines of a script, one after another.
use Rattle.std.specs.Prelude.{ℕ, ◌≡◌, List, [], ◌∷◌, ◌++◌}
use Rattle.bw_commands.specs.State.{State}
use Rattle.bw_commands.specs.Script.{IsAnswer}

-- From s these lines may print this text, with the state t after them.
unfoldable pub Answers : State → List (List ℕ) → List ℕ → State → Type 0
Answers s [] text t = (text ≡ []) × (t ≡ s)
Answers s (line ∷ lines) text t = (answer rest : List ℕ) × (mid : State)
    × IsAnswer s line answer mid × Answers mid lines rest t × (text ≡ answer ++ rest)

-- From s these lines may print this text.
abbrev pub IsTranscript : State → List (List ℕ) → List ℕ → Type 0
IsTranscript s lines text = (t : State) × Answers s lines text t
