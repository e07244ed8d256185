-- A count of work owns nothing, so it may go to another thread.
use denote.Param.Send.{IsSend, sendable}
use Rattle.bw_machine.proofs.CallerLemmas.{count_sent}
use Rattle.bw_split.specs.contracts.counted.Tally.{the_row as tally_row}
use Rattle.bw_split.specs.contracts.counted.Work.{the_row as work_row}

tally_sent : IsSend tally_row
tally_sent = search (sendable, count_sent) depth 25 fits 4000

pub work_sent : IsSend work_row
work_sent = search (sendable, tally_sent) depth 25 fits 4000
