-- A script byte by byte: the state, and what is kept of the line so far.
use Rattle.std.specs.Prelude.{ℕ, ◌≡◌, ◌≢◌, List, [], ◌∷◌, ◌++◌, nat_lt, if◌then◌else◌, length}
use Rattle.std.specs.Prelude.{Option, Some, None}
use Rattle.bw_commands.specs.State.{State}
use Rattle.bw_commands.specs.Script.{outcome_of_kept, IsOutcome, line_bytes}

pub record Scan : Type 0 where
  pub state : State
  pub kept : Option (List ℕ)

-- before the first byte
abbrev pub begin : State → Scan
begin s = record { state = s; kept = Some [] }

-- the kept part of a line after one more byte
abbrev pub kept_with : Option (List ℕ) → ℕ → Option (List ℕ)
kept_with None b = None
kept_with (Some line) b = (if nat_lt (length line) line_bytes then Some (line ++ b ∷ []) else None)

-- the kept part of a line after more bytes
abbrev pub kept_after : Option (List ℕ) → List ℕ → Option (List ℕ)
kept_after kept [] = kept
kept_after kept (b ∷ bs) = kept_after (kept_with kept b) bs

-- the line in hand is answered, and the next begins
pub record AnswersKept (a : Scan) (text : List ℕ) (b : Scan) : Type 0 where
  pub answer : IsOutcome a.state (outcome_of_kept a.state a.kept) text b.state
  pub empty : b.kept ≡ Some []

-- bytes that end the line in hand, without the newline behind them
abbrev pub TakesLine : Scan → List ℕ → List ℕ → Scan → Type 0
TakesLine a front text b = AnswersKept (record a { kept = kept_after a.kept front }) text b

-- one byte
pub record TakesByte (a : Scan) (byte : ℕ) (text : List ℕ) (b : Scan) : Type 0 where
  pub newline : byte ≡ 10 → AnswersKept a text b
  pub other : byte ≢ 10 → (text ≡ []) × (b ≡ record a { kept = kept_with a.kept byte })

-- bytes, one after another
unfoldable pub TakesBytes : Scan → List ℕ → List ℕ → Scan → Type 0
TakesBytes a [] text b = (text ≡ []) × (b ≡ a)
TakesBytes a (byte ∷ bytes) text b = (first rest : List ℕ) × (mid : Scan)
    × TakesByte a byte first mid × TakesBytes mid bytes rest b × (text ≡ first ++ rest)

-- the end: a last line without its newline is answered
pub record Finishes (a : Scan) (text : List ℕ) : Type 0 where
  pub none : a.kept ≡ Some [] → text ≡ []
  pub last : a.kept ≢ Some [] → (t : State)
      × IsOutcome a.state (outcome_of_kept a.state a.kept) text t
