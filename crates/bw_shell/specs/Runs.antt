-- The result of a run that reads a script to its end and writes the answer to each line.
use Rattle.std.specs.Prelude.{ℕ, ◌≡◌, ◌≤◌, ◌⊎◌, ◌||◌, List, Option, Result, true, OnOk, IsErrOf}
use Rattle.std.specs.Io.KnownBytes.{IsAtEnd}
use Rattle.bw_commands.specs.State.{State}
use Rattle.bw_commands.specs.Lines.{lines_of, whole_lines_of}
use Rattle.bw_shell.specs.Stream.{Transcribes, TranscribesFront}
use Rattle.bw_streams.specs.Reading.{EndIsReadOnce}
use Rattle.bw_streams.specs.Watched.{inner_of, has_failed, has_stalled, read_calls, is_flushed}
use Rattle.bw_streams.specs.Watched.{HasNoFault}
use Rattle.bw_streams.specs.declared.fault.RunFault.{RunFault}
use Rattle.bw_streams.specs.declared.fault.RunFault.TheVariants.{Read, Write, Memory}
use Rattle.bw_streams.specs.declared.reading.TheConstants.{READ_CALLS}
use Rattle.bw_streams.specs.declared.watched.Watched.{Watched}

-- From this state of the script, by what a reader has left and what a writer holds.
pub record Runs {R W T : Type 0} (remaining : R → Option (List ℕ)) (contents : W → Option (List ℕ))
    (s : State)
    (reader_old reader_new : Watched R) (writer_old writer_new : Watched W)
    (result : Result T RunFault) : Type 0 where
  -- all that the reader held was read, and what was written is the transcript of its lines
  pub ok : OnOk result
      (Transcribes s lines_of
      (remaining (inner_of reader_old)) (remaining (inner_of reader_new))
      (contents (inner_of writer_old)) (contents (inner_of writer_new)))
  pub end : OnOk result (IsAtEnd (remaining (inner_of reader_new)))
  pub reader_quiet : OnOk result (HasNoFault reader_new)
  pub writer_quiet : OnOk result (HasNoFault writer_new)
  -- there are so many read calls at most
  pub calls : read_calls reader_new ≤ READ_CALLS
  -- each call but the last gave a byte: after the end there is no call
  pub few : EndIsReadOnce (remaining (inner_of reader_old)) (remaining (inner_of reader_new))
      (read_calls reader_new)
  -- no answer waits in the writer at the end or at a read that fails
  pub flushed : OnOk result (is_flushed writer_new ≡ true)
  pub read_flushed : IsErrOf result Read → is_flushed writer_new ≡ true
  -- after a read fault it is the transcript of the whole lines read
  pub read : IsErrOf result Read
      → Transcribes s whole_lines_of
      (remaining (inner_of reader_old)) (remaining (inner_of reader_new))
      (contents (inner_of writer_old)) (contents (inner_of writer_new))
  pub read_when : IsErrOf result Read
      → (has_failed reader_new ≡ true) ⊎ (read_calls reader_new ≡ READ_CALLS)
  -- after a write fault it is a front of that, or at the end a front of the transcript of all lines
  pub write : IsErrOf result Write
      → TranscribesFront s whole_lines_of
      (remaining (inner_of reader_old)) (remaining (inner_of reader_new))
      (contents (inner_of writer_old)) (contents (inner_of writer_new))
      ⊎ (TranscribesFront s lines_of
      (remaining (inner_of reader_old)) (remaining (inner_of reader_new))
      (contents (inner_of writer_old)) (contents (inner_of writer_new))
      × IsAtEnd (remaining (inner_of reader_new)))
  pub write_when : IsErrOf result Write → (has_failed writer_new || has_stalled writer_new) ≡ true
  -- it runs out of memory before the first read alone
  pub memory : IsErrOf result Memory → (reader_new ≡ reader_old) × (writer_new ≡ writer_old)
