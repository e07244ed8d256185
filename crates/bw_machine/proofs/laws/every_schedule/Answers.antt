-- Every schedule is one thread's work.
use Rattle.bw_machine.proofs.OneThread.{every_schedule_is_one_thread}
use Rattle.bw_machine.proofs.laws.every_schedule.Goals as goal

pub returns : goal.returns
returns g c m seats events =
    every_schedule_is_one_thread g.M.Machine.after g.M.Machine.answer m seats events
