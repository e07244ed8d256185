-- The end of a job, by what its words gave, and on bytes in memory.
use Rattle.std.proofs.Common.{◌≡◌, ◌⊎◌, inl, inr, ℕ, Bool, true, false, List, [], ◌++◌, Option, Some}
use Rattle.std.proofs.Common.{None, Result, Ok, Err, refl, sym, ap, subst, ◌∙◌, arith, append-nil}
use Rattle.std.specs.Prelude.{IfOk, OnOk, is_ok, if◌then◌else◌, ⊤, string_bytes}
use Rattle.std.specs.Prelude.{MatchResult, IsErrAnd}
use Rattle.std.specs.Io.KnownBytes.{IsAtEnd}
use Rattle.bw_model.specs.Host.{Shape, IsHost, host_refusal}
use Rattle.bw_model.specs.declared.host.HostFault.{HostFault}
use Rattle.bw_model.proofs.CallerLemmas.{IsHost-accepted, inside}
use Rattle.bw_commands.specs.Lines.{lines_of}
use Rattle.bw_commands.specs.State.{State, start}
use Rattle.bw_shell.specs.Runs.{Runs}
use Rattle.bw_shell.specs.Stream.{Transcribes}
use Rattle.bw_shell.specs.Transcript.{IsTranscript}
use Rattle.bw_streams.specs.Watched.{inner_of}
use Rattle.bw_streams.specs.declared.fault.RunFault.{RunFault}
use Rattle.bw_streams.specs.declared.watched.Watched.{Watched}
use Rattle.bw_text_check.specs.CheckText.{Checks, check_status}
use Rattle.arbiter.specs.Ended.{Ends, EndsAs, EndsOn, EndsRun, EndsCheck, EndsIdle, IsUntouched}
use Rattle.arbiter.specs.Ended.{EndsBytes, EndsBytesAs, EndsBytesOn, EndsBytesIdle, RunsBytes}
use Rattle.arbiter.specs.Ended.{ChecksBytes, host_named}
use Rattle.arbiter.specs.Failure.{what_failed}
use Rattle.arbiter.specs.Told.{EndsWithoutJob, IsShown}
use Rattle.arbiter.specs.Words.{job_named}
use Rattle.arbiter.specs.declared.failure.Failure.{Failure}
use Rattle.arbiter.specs.declared.words.Job.{Job}
use Rattle.arbiter.specs.declared.words.Job.TheVariants as job
use Rattle.arbiter.specs.declared.words.WordsFault.{WordsFault}
use Rattle.arbiter.specs.declared.words.WordsFault.TheVariants.{Help, Usage, Memory}

-- ---- outcomes with their reasons

-- what is explained has the same exit status
pub run_status : (ran : Result ⊤ RunFault) (told : Result ⊤ Failure)
    → MatchResult ran (λ done. told ≡ Ok done)
    (λ fault. IsErrAnd told (λ failure. what_failed failure ≡ fault))
    → ◌≡◌ {A = ℕ} (if is_ok told then 0 else 1) (if is_ok ran then 0 else 1)
run_status (Ok done) told same = ap {B = ℕ} (λ r. if is_ok r then 0 else 1) same
run_status (Err fault) (Ok done) same = absurd same
run_status (Err fault) (Err failure) same = refl

pub checked_status : (checked : Result Bool RunFault) (told : Result Bool Failure)
    → MatchResult checked (λ accepted. told ≡ Ok accepted)
    (λ fault. IsErrAnd told (λ failure. what_failed failure ≡ fault))
    → check_status told ≡ check_status checked
checked_status (Ok accepted) told same = ap check_status same
checked_status (Err fault) (Ok accepted) same = absurd same
checked_status (Err fault) (Err failure) same = refl

module _ {R W : Type 0} (remaining : R → Option (List ℕ)) (contents : W → Option (List ℕ))
    (reader_old reader_new : Watched R) (writer_old writer_new : Watched W) (status : ℕ) where
  -- a run on a host
  pub on_host : (shape host : Shape) → shape ≡ host → IsHost shape → (ran : Result ⊤ RunFault)
      → (told : Result ⊤ Failure)
      → Runs remaining contents (start shape (λ leaf. true)) reader_old reader_new writer_old
      writer_new ran
      → MatchResult ran (λ done. told ≡ Ok done)
      (λ fault. IsErrAnd told (λ failure. what_failed failure ≡ fault))
      → status ≡ (if is_ok told then 0 else 1)
      → EndsOn remaining contents reader_old reader_new writer_old writer_new status host
      (host_refusal host)
  on_host shape host same valid ran told runs reasons is = subst
      (EndsOn remaining contents reader_old reader_new writer_old writer_new status host)
      (sym (IsHost-accepted host (subst IsHost same valid)))
      (record {
        outcome = ran;
        runs = subst (λ (h : Shape). Runs remaining contents (start h (λ leaf. true)) reader_old
            reader_new writer_old writer_new ran) same runs;
        status_is = is ∙ run_status ran told reasons;
      })

  -- numbers that are no host
  pub on_none : (host : Shape) (fault : HostFault) → host_refusal host ≡ Some fault → status ≡ 2
      → reader_new ≡ reader_old → writer_new ≡ writer_old
      → EndsOn remaining contents reader_old reader_new writer_old writer_new status host
      (host_refusal host)
  on_none host fault is two reader writer = subst
      (EndsOn remaining contents reader_old reader_new writer_old writer_new status host) (sym is)
      (two, (reader, writer))

  -- words that gave a job
  pub with_job : (words : List (List ℕ)) (j : Job) → job_named words ≡ Some j
      → EndsAs remaining contents reader_old reader_new writer_old writer_new status (Some j)
      → Ends remaining contents reader_old reader_new writer_old writer_new status words
  with_job words j is ends = inl (subst
      (EndsAs remaining contents reader_old reader_new writer_old writer_new status) (sym is) ends)

  -- words that gave no job
  pub without_job : (words : List (List ℕ)) (fault : WordsFault)
      → ((j : Job) → job_named words ≡ Some j → fault ≡ Memory) → reader_new ≡ reader_old
      → EndsWithoutJob contents fault writer_old writer_new status
      → Ends remaining contents reader_old reader_new writer_old writer_new status words
  without_job words fault named reader ends = by (job_named words) refl
    where
      refused : EndsWithoutJob contents Memory writer_old writer_new status
          → Ends remaining contents reader_old reader_new writer_old writer_new status words
      refused one = inr (one.0, (reader, one.1))

      idle : (f : WordsFault) → job_named words ≡ None
          → EndsWithoutJob contents f writer_old writer_new status
          → Ends remaining contents reader_old reader_new writer_old writer_new status words
      idle (Help text) none shown = inl (subst
          (EndsAs remaining contents reader_old reader_new writer_old writer_new status)
          (sym none) (reader, inl (string_bytes text, shown)))
      idle (Usage text) none two = inl (subst
          (EndsAs remaining contents reader_old reader_new writer_old writer_new status)
          (sym none) (reader, inr two))
      idle Memory none one = refused one

      by : (o : Option Job) → job_named words ≡ o
          → Ends remaining contents reader_old reader_new writer_old writer_new status words
      by None none = idle fault none ends
      by (Some j) is = refused (subst
          (λ f. EndsWithoutJob contents f writer_old writer_new status) (named j is) ends)

-- ---- bytes in memory

transcribed : (s : State) (input left written : List ℕ)
    → Transcribes s lines_of (Some input) (Some left) (Some []) (Some written) → left ≡ []
    → IsTranscript s (lines_of input) written
transcribed s input left written t end =
    let all : t.0 ≡ input = sym (t.2 ∙ ap (λ r. t.0 ++ r) end ∙ append-nil t.0) in
    subst (λ text. IsTranscript s (lines_of input) text) (sym t.4)
    (subst (λ x. IsTranscript s (lines_of x) t.1) all t.3)

module _ (input left written : List ℕ) (status : ℕ) where
  ran : (host : Shape) (outcome : Result ⊤ RunFault)
      → OnOk outcome (Transcribes (start host (λ leaf. true)) lines_of (Some input) (Some left)
      (Some []) (Some written))
      → OnOk outcome (IsAtEnd (Some left)) → status ≡ (if is_ok outcome then 0 else 1)
      → RunsBytes input written status host
  ran host (Ok done) ok end is = record {
    ok = λ zero. transcribed (start host (λ leaf. true)) input left written ok end;
    statuses = inl is;
  }
  ran host (Err fault) ok end is = record {
    ok = λ zero. absurd (let clash : ⊥ = omega (arith, zero, is) in clash);
    statuses = inr is;
  }

  checked : (outcome : Result Bool RunFault)
      → IfOk outcome (Checks (Some input) (Some left) (Some []) (Some written))
      → OnOk outcome (IsAtEnd (Some left)) → status ≡ check_status outcome
      → ChecksBytes input written status
  checked (Ok true) ok end is = record {
    accepted = λ zero. subst (λ l. Checks (Some input) (Some l) (Some []) (Some written) true) end
        ok;
    refused = λ three. absurd (let clash : ⊥ = omega (arith, three, is) in clash);
    statuses = inl is;
  }
  checked (Ok false) ok end is = record {
    accepted = λ zero. absurd (let clash : ⊥ = omega (arith, zero, is) in clash);
    refused = λ three. subst (λ l. Checks (Some input) (Some l) (Some []) (Some written) false) end
        ok;
    statuses = inr (inr is);
  }
  checked (Err fault) ok end is = record {
    accepted = λ zero. absurd (let clash : ⊥ = omega (arith, zero, is) in clash);
    refused = λ three. absurd (let clash : ⊥ = omega (arith, three, is) in clash);
    statuses = inr (inl is);
  }

module _ {R W : Type 0} (remaining : R → Option (List ℕ)) (contents : W → Option (List ℕ))
    (reader_old reader_new : Watched R) (writer_old writer_new : Watched W) (status : ℕ)
    (input left written : List ℕ) (has : remaining (inner_of reader_old) ≡ Some input)
    (leaves : remaining (inner_of reader_new) ≡ Some left)
    (fresh : contents (inner_of writer_old) ≡ Some [])
    (holds : contents (inner_of writer_new) ≡ Some written) where
  unwritten : writer_new ≡ writer_old → written ≡ []
  unwritten same =
      inside (sym holds ∙ ap (λ (w : Watched W). contents (inner_of w)) same ∙ fresh)

  bytes_ran : (host : Shape)
      → EndsRun remaining contents reader_old reader_new writer_old writer_new status host
      → RunsBytes input written status host
  bytes_ran host e = ran input left written status host e.outcome
      (subst (λ o. OnOk e.outcome
      (Transcribes (start host (λ leaf. true)) lines_of o (Some left) (Some []) (Some written))) has
      (subst (λ o. OnOk e.outcome (Transcribes (start host (λ leaf. true)) lines_of
      (remaining (inner_of reader_old)) o (Some []) (Some written))) leaves
      (subst (λ o. OnOk e.outcome (Transcribes (start host (λ leaf. true)) lines_of
      (remaining (inner_of reader_old)) (remaining (inner_of reader_new)) o (Some written))) fresh
      (subst (λ o. OnOk e.outcome (Transcribes (start host (λ leaf. true)) lines_of
      (remaining (inner_of reader_old)) (remaining (inner_of reader_new))
      (contents (inner_of writer_old)) o)) holds e.runs.ok))))
      (subst (λ o. OnOk e.outcome (IsAtEnd o)) leaves e.runs.end) e.status_is

  bytes_checked :
      EndsCheck remaining contents reader_old reader_new writer_old writer_new status
      → ChecksBytes input written status
  bytes_checked e = checked input left written status e.outcome
      (subst (λ o. IfOk e.outcome (Checks o (Some left) (Some []) (Some written))) has
      (subst (λ o. IfOk e.outcome (Checks (remaining (inner_of reader_old)) o (Some [])
      (Some written))) leaves
      (subst (λ o. IfOk e.outcome (Checks (remaining (inner_of reader_old))
      (remaining (inner_of reader_new)) o (Some written))) fresh
      (subst (λ o. IfOk e.outcome (Checks (remaining (inner_of reader_old))
      (remaining (inner_of reader_new)) (contents (inner_of writer_old)) o)) holds e.ok))))
      (subst (λ o. OnOk e.outcome (IsAtEnd o)) leaves e.reads.end) e.status_is

  bytes_on : (host : Shape) (o : Option HostFault)
      → EndsOn remaining contents reader_old reader_new writer_old writer_new status host o
      → EndsBytesOn input written status host o
  bytes_on host None e = bytes_ran host e
  bytes_on host (Some fault) e = (e.0, unwritten e.1.1)

  bytes_idle : EndsIdle remaining contents reader_old reader_new writer_old writer_new status
      → EndsBytesIdle input written status
  bytes_idle (reader, inl (text, inl shown)) = inr (inl shown.0)
  bytes_idle (reader, inl (text, inr failed)) = inr (inr failed.0)
  bytes_idle (reader, inr two) = inl (two.0, unwritten two.1)

  bytes_as : (o : Option Job)
      → EndsAs remaining contents reader_old reader_new writer_old writer_new status o
      → EndsBytesAs input written status o
  bytes_as None e = bytes_idle e
  bytes_as (Some job.Check) e = bytes_checked e
  bytes_as (Some (job.Run processors period_us slice_us)) e =
      bytes_on (host_named processors period_us slice_us)
      (host_refusal (host_named processors period_us slice_us)) e

  pub on_bytes : (words : List (List ℕ))
      → Ends remaining contents reader_old reader_new writer_old writer_new status words
      → EndsBytes input written status words
  on_bytes words (inl e) = inl (bytes_as (job_named words) e)
  on_bytes words (inr e) = inr (e.0, unwritten e.1.1)

-- the same, the streams first
pub bytes_of : {R W : Type 0} (reader_old reader_new : Watched R) (writer_old writer_new : Watched W)
    (remaining : R → Option (List ℕ)) (contents : W → Option (List ℕ)) (status : ℕ)
    (input left written : List ℕ) → remaining (inner_of reader_old) ≡ Some input
    → remaining (inner_of reader_new) ≡ Some left → contents (inner_of writer_old) ≡ Some []
    → contents (inner_of writer_new) ≡ Some written → (words : List (List ℕ))
    → Ends remaining contents reader_old reader_new writer_old writer_new status words
    → EndsBytes input written status words
bytes_of reader_old reader_new writer_old writer_new remaining contents status input left written
    has leaves fresh holds words ends = on_bytes remaining contents reader_old reader_new writer_old
    writer_new status input left written has leaves fresh holds words ends
