-- The goals of `write_changes_one_value` that are answered by hand.
use Rattle.bw_hierarchy.proofs.Writes.{weight_read, max_read, burst_read, other_files_stay}
use Rattle.bw_hierarchy.proofs.Writes.{other_groups_stay, counters_stay}
use Rattle.bw_hierarchy.proofs.Unwritten.{rest_stays}
use Rattle.bw_hierarchy.proofs.laws.write_changes_one_value.Goals as goal

pub returns-clause-weight : goal.returns-clause-weight
returns-clause-weight c = weight_read

pub returns-clause-max : goal.returns-clause-max
returns-clause-max c = max_read

pub returns-clause-burst : goal.returns-clause-burst
returns-clause-burst c = burst_read

pub returns-clause-other_files : goal.returns-clause-other_files
returns-clause-other_files c = other_files_stay

pub returns-clause-other_groups : goal.returns-clause-other_groups
returns-clause-other_groups c = other_groups_stay

pub returns-clause-counters : goal.returns-clause-counters
returns-clause-counters c = counters_stay

pub returns-clause-rest : goal.returns-clause-rest
returns-clause-rest c = rest_stays
