-- What stands at each turn of the loop in `read_script`.
use Rattle.std.proofs.Common.{◌≡◌, ℕ, List, [], true}
use Rattle.std.specs.Io.KnownBytes.{Appends, Consumes}
use Rattle.bw_shell.specs.Session.{scan_of, session_waits}
use Rattle.bw_shell.specs.Scan.{TakesBytes, begin}
use Rattle.bw_streams.specs.Reading.{EachReadGives}
use Rattle.bw_streams.specs.Watched.{inner_of, read_calls, is_flushed, HasNoFault}
use Rattle.bw_shell.proofs.script.read_script.Given as goal

abbrev pub invariant-loop-turn : goal.invariant-loop-turn
invariant-loop-turn g l = record {
  taken : (input text : List ℕ) × TakesBytes (begin (scan_of g.G.Gate.used l.initial.session).state)
      input text (scan_of g.G.Gate.used l.session)
      × Consumes (g.R.Read.remaining (inner_of l.initial.reader))
      (g.R.Read.remaining (inner_of l.reader)) input
      × Appends (g.W.Write.contents (inner_of l.initial.writer))
      (g.W.Write.contents (inner_of l.writer)) text;
  reader_quiet : HasNoFault l.reader;
  writer_quiet : HasNoFault l.writer;
  writer_flushed : is_flushed l.writer ≡ true;
  none_waits : session_waits l.session ≡ [];
  calls : read_calls l.reader ≡ l.turn;
  few : EachReadGives (g.R.Read.remaining (inner_of l.initial.reader))
      (g.R.Read.remaining (inner_of l.reader)) l.turn;
}
