-- What stands at each turn of the loop in `least_raise`: no solution is below the weights.
use Rattle.std.proofs.Common.{ℕ, ◌<◌, ◌≤◌, List, length, get_or}
use Rattle.bw_model.specs.Split.{IsBestSplit}
use Rattle.bw_questions.specs.Needs.{AreBetween, MeetsNeeds}
use Rattle.bw_questions.proofs.Meetings.{room}
use Rattle.bw_questions.proofs.from_root.meeting.least_raise.Given as goal

abbrev pub invariant-loop-child : goal.invariant-loop-child
invariant-loop-child l = record {
  between : AreBetween l.floors l.tops l.weights.items;
  split : IsBestSplit l.amount l.weights.items l.most l.parts.items;
  least : (less : ℕ) (others parts : List ℕ) → less ≤ l.amount
      → MeetsNeeds l.floors l.tops l.most l.needs less others parts
      → (k : ℕ) → k < length l.floors → get_or l.weights.items k 0 ≤ get_or others k 0;
}

abbrev pub decreases-loop-child : goal.decreases-loop-child
decreases-loop-child l = room l.weights.items
