-- What stands at each turn of the loop in `read_text`.
use Rattle.std.proofs.Common.{◌≡◌, ◌≤◌, length}
use Rattle.std.specs.Io.KnownBytes.{Consumes}
use Rattle.bw_streams.specs.Watched.{inner_of, read_calls, HasNoFault}
use Rattle.bw_text_check.specs.declared.text_check.TheConstants.{TEXT_BYTES}
use Rattle.bw_text_check.proofs.text_check.read_text.Given as goal

abbrev pub invariant-loop-turn : goal.invariant-loop-turn
invariant-loop-turn g l = record {
  read : Consumes (g.R.Read.remaining (inner_of l.initial.reader))
      (g.R.Read.remaining (inner_of l.reader)) l.text.items;
  small : length l.text.items ≤ TEXT_BYTES;
  quiet : HasNoFault l.reader;
  calls : read_calls l.reader ≡ l.turn;
  few : l.turn ≤ length l.text.items;
}
