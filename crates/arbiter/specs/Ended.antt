-- The end of the program: what it read and wrote, and the exit status, by the words.
use Rattle.std.specs.Prelude.{ℕ, ◌≡◌, ◌⊎◌, ⊤, List, [], Bool, true, false, Option, Some, None}
use Rattle.std.specs.Prelude.{Result, IfOk, IsErrOf, is_ok, if◌then◌else◌}
use Rattle.std.specs.Io.KnownBytes.{IsAtEnd}
use Rattle.bw_model.specs.Host.{Shape, host_refusal}
use Rattle.bw_model.specs.declared.host.HostFault.{HostFault}
use Rattle.bw_commands.specs.Lines.{lines_of}
use Rattle.bw_commands.specs.State.{start}
use Rattle.bw_shell.specs.Runs.{Runs}
use Rattle.bw_shell.specs.Transcript.{IsTranscript}
use Rattle.bw_streams.specs.Prints.{Prints}
use Rattle.bw_streams.specs.Reading.{EndIsReadOnce}
use Rattle.bw_streams.specs.Watched.{inner_of, read_calls}
use Rattle.bw_streams.specs.declared.fault.RunFault.{RunFault}
use Rattle.bw_streams.specs.declared.fault.RunFault.TheVariants.{Read, Write}
use Rattle.bw_streams.specs.declared.watched.Watched.{Watched}
use Rattle.bw_text_check.specs.CheckText.{Checks, ChecksFront, check_status}
use Rattle.bw_text_check.specs.Reads.{Reads}
use Rattle.arbiter.specs.Told.{IsShown}
use Rattle.arbiter.specs.Words.{job_named}
use Rattle.arbiter.specs.declared.words.Job.{Job}
use Rattle.arbiter.specs.declared.words.Job.TheVariants as job

-- the host that the words of a run name
abbrev pub host_named : ℕ → ℕ → ℕ → Shape
host_named processors period_us slice_us =
    record { processors = processors; period_us = period_us; slice_us = slice_us }

module _ {R W : Type 0} (remaining : R → Option (List ℕ)) (contents : W → Option (List ℕ))
    (reader_old reader_new : Watched R) (writer_old writer_new : Watched W) (status : ℕ) where
  -- nothing was read or written
  abbrev pub IsUntouched : Type 0
  IsUntouched = (reader_new ≡ reader_old) × (writer_new ≡ writer_old)

  -- A script was read and its transcript was written, and the status is 0. Or it is 1, after a
  -- fault.
  pub record EndsRun (host : Shape) : Type 0 where
    pub outcome : Result ⊤ RunFault
    pub runs : Runs remaining contents (start host (λ leaf. true)) reader_old reader_new writer_old
        writer_new outcome
    pub status_is : status ≡ (if is_ok outcome then 0 else 1)

  -- A text was read and its line was written. The status is 0 if the line is `accepted`, else 3. Or
  -- it is 1, after a fault.
  pub record EndsCheck : Type 0 where
    pub outcome : Result Bool RunFault
    pub ok : IfOk outcome
        (Checks (remaining (inner_of reader_old)) (remaining (inner_of reader_new))
        (contents (inner_of writer_old)) (contents (inner_of writer_new)))
    pub reads : Reads remaining reader_old reader_new outcome
    pub few : EndIsReadOnce (remaining (inner_of reader_old)) (remaining (inner_of reader_new))
        (read_calls reader_new)
    pub prints : Prints writer_old writer_new outcome
    pub read : IsErrOf outcome Read → writer_new ≡ writer_old
    pub write : IsErrOf outcome Write
        → ChecksFront (remaining (inner_of reader_old)) (remaining (inner_of reader_new))
        (contents (inner_of writer_old)) (contents (inner_of writer_new))
    pub write_end : IsErrOf outcome Write → IsAtEnd (remaining (inner_of reader_new))
    pub status_is : status ≡ check_status outcome

  -- a run on a host, or on numbers that are none
  abbrev pub EndsOn : Shape → Option HostFault → Type 0
  EndsOn host None = EndsRun host
  EndsOn host (Some fault) = (status ≡ 2) × IsUntouched

  -- Words that name no job: a text was written, or nothing was and the status is 2.
  abbrev pub EndsIdle : Type 0
  EndsIdle = (reader_new ≡ reader_old)
      × (((text : List ℕ) × IsShown contents text writer_old writer_new status)
      ⊎ ((status ≡ 2) × (writer_new ≡ writer_old)))

  -- the job, if there is one
  abbrev pub EndsAs : Option Job → Type 0
  EndsAs None = EndsIdle
  EndsAs (Some job.Check) = EndsCheck
  EndsAs (Some (job.Run processors period_us slice_us)) =
      EndsOn (host_named processors period_us slice_us)
      (host_refusal (host_named processors period_us slice_us))

  -- The job that the words name is done, or memory was refused before, and the status is 1.
  abbrev pub Ends : List (List ℕ) → Type 0
  Ends words = EndsAs (job_named words) ⊎ ((status ≡ 1) × IsUntouched)

-- ---- bytes in memory, where all that is read and written is known

module _ (input written : List ℕ) (status : ℕ) where
  -- at status 0 the transcript of all lines was written
  pub record RunsBytes (host : Shape) : Type 0 where
    pub ok : status ≡ 0 → IsTranscript (start host (λ leaf. true)) (lines_of input) written
    pub statuses : (status ≡ 0) ⊎ (status ≡ 1)

  -- the whole input was checked: at status 0 its line is `accepted`, at 3 it is another
  pub record ChecksBytes : Type 0 where
    pub accepted : status ≡ 0 → Checks (Some input) (Some []) (Some []) (Some written) true
    pub refused : status ≡ 3 → Checks (Some input) (Some []) (Some []) (Some written) false
    pub statuses : (status ≡ 0) ⊎ ((status ≡ 1) ⊎ (status ≡ 3))

  abbrev pub EndsBytesOn : Shape → Option HostFault → Type 0
  EndsBytesOn host None = RunsBytes host
  EndsBytesOn host (Some fault) = (status ≡ 2) × (written ≡ [])

  -- words that name no job: nothing was written, unless it was help
  abbrev pub EndsBytesIdle : Type 0
  EndsBytesIdle = ((status ≡ 2) × (written ≡ [])) ⊎ ((status ≡ 0) ⊎ (status ≡ 1))

  abbrev pub EndsBytesAs : Option Job → Type 0
  EndsBytesAs None = EndsBytesIdle
  EndsBytesAs (Some job.Check) = ChecksBytes
  EndsBytesAs (Some (job.Run processors period_us slice_us)) =
      EndsBytesOn (host_named processors period_us slice_us)
      (host_refusal (host_named processors period_us slice_us))

  -- The job that the words name is done on these bytes, or memory was refused before.
  abbrev pub EndsBytes : List (List ℕ) → Type 0
  EndsBytes words = EndsBytesAs (job_named words) ⊎ ((status ≡ 1) × (written ≡ []))
