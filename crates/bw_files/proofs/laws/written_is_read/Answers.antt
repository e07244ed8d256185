-- The goals of `written_is_read` that are answered by hand.
use Rattle.bw_files.proofs.Again.{weight_written, weight_again, burst_written, burst_again}
use Rattle.bw_files.proofs.Again.{max_written, max_again}
use Rattle.bw_files.proofs.laws.written_is_read.Goals as goal

pub returns-clause-weight : goal.returns-clause-weight
returns-clause-weight c = weight_written

pub returns-clause-weight_again : goal.returns-clause-weight_again
returns-clause-weight_again c = weight_again

pub returns-clause-burst : goal.returns-clause-burst
returns-clause-burst c = burst_written

pub returns-clause-burst_again : goal.returns-clause-burst_again
returns-clause-burst_again c = burst_again

pub returns-clause-max : goal.returns-clause-max
returns-clause-max c = max_written

pub returns-clause-max_again : goal.returns-clause-max_again
returns-clause-max_again c = max_again
