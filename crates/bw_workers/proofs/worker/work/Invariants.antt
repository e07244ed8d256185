-- What is known of a worker between two turns.
use Rattle.bw_model.specs.Host.{slices_per_processor}
use Rattle.std.proofs.Common.{◌≡◌, ◌+◌, ◌-◌, ◌*◌, ◌≤◌, length, None}
use Rattle.bw_model.specs.declared.limits.TheConstants.{MAX_PER_PROCESSOR}
use Rattle.bw_workers.specs.Working.{calls_of}
use Rattle.bw_workers.specs.Rounds.{draws_in}
use Rattle.bw_workers.proofs.Turns.{IsWorking, GoesRound}
use Rattle.bw_workers.proofs.worker.work.Given as goal

abbrev pub invariant-loop-kept : goal.invariant-loop-kept
invariant-loop-kept g l = record {
  lock : l.draws.seat.lock_id ≡ l.lock.lock_id;
  number : l.draws.seat.number ≡ l.initial.draws.seat.number;
  idle : l.draws.seat.pending ≡ None;
  gate : l.draws.gate.now ≡ l.gate;
  counted : l.draws.nth ≡ draws_in (calls_of l.draws.seat);
  works : IsWorking (g.G.Gate.used l.gate) l.instance.rows (slices_per_processor l.instance.shape)
      (calls_of l.draws.seat) l.leaves.items l.kept;
  rounds : GoesRound (g.G.Gate.used l.gate) l.initial.leaves.items (calls_of l.draws.seat)
      l.leaves.items;
  slices : l.slices ≡ (slices_per_processor l.instance.shape);
  few_slices : l.slices ≤ MAX_PER_PROCESSOR;
  kept : l.kept ≤ l.slices;
  leaves : length l.leaves.items ≤ length l.initial.leaves.items;
  nth : l.draws.nth + length l.leaves.items ≤ l.kept + length l.initial.leaves.items;
  calls : l.initial.draws.seat.calls_left + 2 * length l.leaves.items
      ≤ l.draws.seat.calls_left + l.kept + 2 * length l.initial.leaves.items;
}

abbrev pub decreases-loop-kept : goal.decreases-loop-kept
decreases-loop-kept g l = (l.slices - l.kept) + length l.leaves.items
