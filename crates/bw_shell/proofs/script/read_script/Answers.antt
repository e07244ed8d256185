-- The goals of `read_script` that are answered by hand.
use Rattle.std.proofs.Common.{◌≡◌, ◌∙◌, [], sym, subst, inl, inr, arith, Bool, Result, Ok, Err}
use Rattle.std.proofs.Common.{IfErr, IsErrOf}
use Rattle.bw_streams.specs.declared.fault.RunFault.{RunFault}
use Rattle.bw_streams.specs.declared.fault.RunFault.TheVariants.{Read, Write, Memory}
use Rattle.bw_shell.specs.Session.{scan_of}
use Rattle.bw_shell.specs.Scan.{TakesBytes, begin}
use Rattle.bw_streams.proofs.CallerLemmas.{Appends-nil, Consumes-nil, OnOk-map, moves_err}
use Rattle.bw_streams.proofs.CallerLemmas.{none_read, one_more_read, last_read}
use Rattle.bw_shell.proofs.Scanning.{TakesBytes-nil}
use Rattle.bw_shell.proofs.Running.{takes_more, takes_kept, whole_of_takes, all_of_takes}
use Rattle.bw_shell.proofs.Running.{front_of_all, front_of_whole}
use Rattle.bw_shell.proofs.script.read_script.Goals as goal

pub loop-turn-init : goal.loop-turn-init
loop-turn-init g c = record {
  taken = (
    [],
    [],
    subst (λ k. TakesBytes (begin (scan_of g.G.Gate.used c.args.session.now).state) [] []
        (record (scan_of g.G.Gate.used c.args.session.now) { kept = k }))
        (sym c.requires.begun) (TakesBytes-nil _),
    Consumes-nil _,
    Appends-nil _,
  );
  reader_quiet =
      record {
        not_failed = c.requires.reader.not_failed;
        not_stalled = c.requires.reader.not_stalled;
      };
  writer_quiet =
      record {
        not_failed = c.requires.writer.not_failed;
        not_stalled = c.requires.writer.not_stalled;
      };
  writer_flushed = c.requires.writer.flushed;
  none_waits = c.requires.none_waits;
  calls = c.requires.reader.no_reads;
  few = none_read _;
}

pub loop-turn-preserved : goal.loop-turn-preserved
loop-turn-preserved g c = record {
  taken = takes_more _ _ _ _ _ _ _ _ _ c.loop-turn.invariant.taken c.in-Ok-true.ensures.ok;
  reader_quiet = c.in-Ok-true.ensures.reader_quiet;
  writer_quiet = c.in-Ok-true.ensures.writer_quiet;
  writer_flushed = c.in-Ok-true.ensures.writer_flushed;
  none_waits = c.in-Ok-true.ensures.none_waits;
  calls = omega (arith, c.in-Ok-true.ensures.reads);
  few = one_more_read _ _ _ _ _ c.loop-turn.invariant.few c.in-Ok-true.ensures.gives.1
      (c.in-Ok-true.ensures.gives.2 c.in-Ok-true.field-0-test);
}

-- a call that blames the writer alone blames nothing else
only_write : {T : Type 0} (r : Result T RunFault) (f : RunFault) → IfErr r (λ g. g ≡ Write)
    → IsErrOf r f → f ≡ Write
only_write (Ok v) f w h = absurd (cc)
only_write (Err g) f w h = let e : g ≡ f = cc in sym e ∙ w

pub returns-in-Ok-false : goal.returns-in-Ok-false
returns-in-Ok-false g c =
    let s = (scan_of g.G.Gate.used c.args.session.now).state in
    let taken = takes_more _ _ _ _ _ _ _ _ _ c.loop-turn.invariant.taken c.in-Ok-false.ensures.ok in
    let done = c.finish.ensures.flushed in
    let writes = c.finish.ensures.writes in
    record {
      ok = OnOk-map c.finish.result (λ f. all_of_takes s _ _ _ _ _ _ taken f) writes.ok;
      end = OnOk-map c.finish.result (λ f. c.in-Ok-false.ensures.end c.in-Ok-false.field-0-test)
          done;
      reader_quiet = OnOk-map c.finish.result (λ f. c.in-Ok-false.ensures.reader_quiet) done;
      writer_quiet = writes.quiet;
      calls = omega (arith, c.in-Ok-false.ensures.reads);
      few = last_read _ _ _ _ _ _ c.loop-turn.invariant.few c.in-Ok-false.ensures.gives.1
          (omega (arith, c.loop-turn.invariant.calls, c.in-Ok-false.ensures.reads));
      flushed = done;
      read_flushed = λ h.
          absurd (let bad : Read ≡ Write = only_write c.finish.result Read writes.fault h in cc);
      read = λ h. absurd
          (let bad : Read ≡ Write = only_write c.finish.result Read writes.fault h in cc);
      read_when = λ h.
          absurd (let bad : Read ≡ Write = only_write c.finish.result Read writes.fault h in cc);
      write = λ h. inr (
        front_of_all s _ _ _ _ _ _ taken (rw h at writes.err),
        c.in-Ok-false.ensures.end c.in-Ok-false.field-0-test,
      );
      write_when = λ h. rw h at writes.blame;
      memory = λ h. absurd
          (let bad : Memory ≡ Write = only_write c.finish.result Memory writes.fault h in cc);
    }

pub returns-in-Err : goal.returns-in-Err
returns-in-Err g c =
    let s = (scan_of g.G.Gate.used c.args.session.now).state in
    record {
      ok = tt;
      end = tt;
      reader_quiet = tt;
      writer_quiet = tt;
      calls = omega (arith, c.in-Err.ensures.reads);
      few = last_read _ _ _ _ _ _ c.loop-turn.invariant.few c.in-Err.ensures.gives.1
          (omega (arith, c.loop-turn.invariant.calls, c.in-Err.ensures.reads));
      flushed = tt;
      read_flushed = λ h.
          rw (c.in-Err.ensures.read_writes
          (moves_err {T = Unit {0}} {U = Bool} c.in-Err.fault Read h))
          c.loop-turn.invariant.writer_flushed;
      read = λ h.
          let e = moves_err {T = Unit {0}} {U = Bool} c.in-Err.fault Read h in
          rw (c.in-Err.ensures.read_writes e)
          (whole_of_takes s _ _ _ _ _
          (takes_kept _ _ _ _ _ _ _ c.loop-turn.invariant.taken (c.in-Err.ensures.read e)));
      read_when = λ h. inl
          (c.in-Err.ensures.read_when (moves_err {T = Unit {0}} {U = Bool} c.in-Err.fault Read h));
      write = λ h.
          inl (front_of_whole s _ _ _ _ _ _ _ c.loop-turn.invariant.taken
          (c.in-Err.ensures.write (moves_err {T = Unit {0}} {U = Bool} c.in-Err.fault Write h)));
      write_when = λ h. c.in-Err.ensures.write_when
          (moves_err {T = Unit {0}} {U = Bool} c.in-Err.fault Write h);
      memory = λ h. let e : c.in-Err.fault ≡ Memory = cc in absurd (c.in-Err.ensures.memory e);
    }

pub returns : goal.returns
returns g c =
    let s = (scan_of g.G.Gate.used c.args.session.now).state in
    record {
      ok = tt;
      end = tt;
      reader_quiet = tt;
      writer_quiet = tt;
      calls = omega (arith, c.loop-turn.invariant.calls);
      few = last_read _ _ _ _ _ _ c.loop-turn.invariant.few (Consumes-nil _)
          (omega (arith, c.loop-turn.invariant.calls));
      flushed = tt;
      read_flushed = λ h. c.loop-turn.invariant.writer_flushed;
      read = λ h. whole_of_takes s _ _ _ _ _ c.loop-turn.invariant.taken;
      read_when = λ h. inr (omega (arith, c.loop-turn.invariant.calls));
      write = λ h. absurd (let bad : Read ≡ Write = cc in cc);
      write_when = λ h. absurd (let bad : Read ≡ Write = cc in cc);
      memory = λ h. absurd (let bad : Read ≡ Memory = cc in cc);
    }
