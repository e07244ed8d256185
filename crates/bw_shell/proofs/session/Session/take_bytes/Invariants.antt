-- What stands at each turn of the loop in `Session::take_bytes`, and what falls.
use Rattle.std.proofs.Common.{◌≡◌, ◌++◌, ℕ, List, length}
use Rattle.std.specs.Io.KnownBytes.{Appends}
use Rattle.bw_shell.specs.Piece.{bytes_of}
use Rattle.bw_shell.specs.Session.{scan_of, session_waits}
use Rattle.bw_shell.specs.Scan.{TakesBytes}
use Rattle.bw_streams.specs.Watched.{inner_of, HasNoFault}
use Rattle.bw_shell.proofs.session.Session.take_bytes.Given as goal

abbrev pub invariant-loop-end : goal.invariant-loop-end
invariant-loop-end g l = record {
  taken : (input text sent : List ℕ)
      × TakesBytes (scan_of g.G.Gate.used l.initial.self) input text (scan_of g.G.Gate.used l.self)
      × Appends (g.W.Write.contents (inner_of l.initial.writer))
      (g.W.Write.contents (inner_of l.writer)) sent
      × (session_waits l.initial.self ++ text ≡ sent ++ session_waits l.self)
      × (l.piece ≡ input ++ bytes_of l.rest);
  quiet : HasNoFault l.writer;
}

abbrev pub decreases-loop-end : goal.decreases-loop-end
decreases-loop-end g l = length (bytes_of l.rest)
