-- What stands at each turn of the loop in `most_processors`.
use Rattle.std.proofs.Common.{◌≡◌, ℕ, ◌≤◌, false}
use Rattle.bw_model.specs.declared.limits.TheConstants.{MAX_PROCESSORS}
use Rattle.bw_columns.specs.PlannedHosts.{can_share}
use Rattle.bw_columns.proofs.planned_hosts.most_processors.Given as goal

abbrev pub invariant-loop-processors : goal.invariant-loop-processors
invariant-loop-processors l = (k : ℕ) → l.processors ≤ k → k ≤ MAX_PROCESSORS
    → can_share l.capacity k ≡ false
