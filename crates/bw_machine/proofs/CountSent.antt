-- A count owns nothing, so it may go to another thread.
use denote.Param.Send.{IsSend, owning_send}
use Rattle.bw_machine.specs.contracts.count.Count.{the_row, the_type}

pub count_sent : IsSend the_row
count_sent = owning_send the_type tt (λ d. tt) (λ k x w. tt)
