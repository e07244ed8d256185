-- Parts with the count of their split may go to another thread.
use denote.Param.Send.{IsSend, sendable}
use Rattle.std.proofs.Crossing.{crosses}
use Rattle.bw_split.proofs.CallerLemmas.{work_sent}
use Rattle.bw_plan.specs.contracts.counted_parts.CountedParts.{the_row}

pub parts_sent : IsSend the_row
parts_sent = search (sendable, crosses, work_sent) depth 40
