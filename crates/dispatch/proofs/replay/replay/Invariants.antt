-- Invariant of each turn of the loop in `replay`: the finding from here on is that on the text.
use Rattle.std.proofs.Common.{◌≡◌, ◌+◌, ◌≤◌, length, ◌==◌}
use Rattle.std.specs.List.{slice_split}
use Rattle.dispatch.specs.Replay.{finding_from, finding_of}
use Rattle.dispatch.proofs.replay.replay.Given as goal

abbrev pub invariant-loop-words : goal.invariant-loop-words
invariant-loop-words l = record {
  found : finding_from l.scheduler l.line l.picks (slice_split (λ b. b == 10) l.rest)
      ≡ finding_of l.text;
  lines : l.line + length (slice_split (λ b. b == 10) l.rest)
      ≡ 1 + length (slice_split (λ b. b == 10) l.text);
  picks : l.picks ≤ l.line;
}

abbrev pub decreases-loop-words : goal.decreases-loop-words
decreases-loop-words l = length (slice_split (λ b. b == 10) l.rest)
