-- Invariant of each turn of the loop in `tell_premises`: what is told from here on is told of the
-- text.
use Rattle.std.proofs.Common.{◌≡◌, ◌+◌, length, ◌==◌}
use Rattle.std.specs.List.{slice_split}
use Rattle.dispatch.specs.Premises.{premises_from, premises_of}
use Rattle.dispatch.proofs.premises.tell_premises.Given as goal

abbrev pub invariant-loop-words : goal.invariant-loop-words
invariant-loop-words l = record {
  told : premises_from l.scheduler l.line l.found (slice_split (λ b. b == 10) l.rest)
      ≡ premises_of l.text;
  lines : l.line + length (slice_split (λ b. b == 10) l.rest)
      ≡ 1 + length (slice_split (λ b. b == 10) l.text);
}

abbrev pub decreases-loop-words : goal.decreases-loop-words
decreases-loop-words l = length (slice_split (λ b. b == 10) l.rest)
