-- The part of a failure that contracts see.
use Rattle.bw_streams.specs.declared.fault.RunFault.{RunFault}
use Rattle.arbiter.specs.declared.failure.Failure.{Failure}

-- the fault of a failure, without the system's reason
abbrev pub what_failed : Failure → RunFault
what_failed f = f.fault
