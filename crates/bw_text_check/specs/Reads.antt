-- The result of a call that reads a text to its end.
use Rattle.std.specs.Prelude.{ℕ, ◌≡◌, ◌≤◌, ◌<◌, ◌⊎◌, List, length, Option, Result, true, OnOk}
use Rattle.std.specs.Prelude.{IsErrOf}
use Rattle.std.specs.Io.KnownBytes.{Consumes, IsAtEnd}
use Rattle.bw_streams.specs.Watched.{inner_of, has_failed, read_calls, HasNoFault}
use Rattle.bw_streams.specs.declared.fault.RunFault.{RunFault}
use Rattle.bw_streams.specs.declared.fault.RunFault.TheVariants.{Read}
use Rattle.bw_streams.specs.declared.reading.TheConstants.{READ_CALLS}
use Rattle.bw_text_check.specs.declared.text_check.TheConstants.{TEXT_BYTES}
use Rattle.bw_streams.specs.declared.watched.Watched.{Watched}

-- more bytes were read than a text may have
abbrev pub ReadsTooMuch : Option (List ℕ) → Option (List ℕ) → Type 0
ReadsTooMuch left_old left_new =
    (text : List ℕ) × Consumes left_old left_new text × (TEXT_BYTES < length text)

-- By what a reader has left, whatever is made of the text.
pub record Reads {R T : Type 0} (remaining : R → Option (List ℕ)) (old new : Watched R)
    (result : Result T RunFault) : Type 0 where
  -- at Ok the end was reached, and no call failed
  pub end : OnOk result (IsAtEnd (remaining (inner_of new)))
  pub quiet : OnOk result (HasNoFault new)
  -- there are so many read calls at most
  pub calls : read_calls new ≤ READ_CALLS
  -- a read fault has one of three causes
  pub when : IsErrOf result Read → (has_failed new ≡ true) ⊎ (read_calls new ≡ READ_CALLS)
      ⊎ ReadsTooMuch (remaining (inner_of old)) (remaining (inner_of new))
