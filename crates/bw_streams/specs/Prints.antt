-- The result of a call that forms a line and writes it.
use Rattle.std.specs.Prelude.{◌≡◌, ◌||◌, Result, true, OnOk, IsErrOf}
use Rattle.bw_streams.specs.Watched.{has_failed, has_stalled, is_flushed, HasNoFault}
use Rattle.bw_streams.specs.declared.fault.RunFault.{RunFault}
use Rattle.bw_streams.specs.declared.fault.RunFault.TheVariants.{Write, Memory}
use Rattle.bw_streams.specs.declared.watched.Watched.{Watched}

-- Whatever the line is.
pub record Prints {W T : Type 0} (old new : Watched W) (result : Result T RunFault) : Type 0 where
  -- at Ok no call of the writer failed or took no bytes, and the line does not wait in it
  pub quiet : OnOk result (HasNoFault new)
  pub flushed : OnOk result (is_flushed new ≡ true)
  -- after a write fault the writer is to blame
  pub blame : IsErrOf result Write → (has_failed new || has_stalled new) ≡ true
  -- where memory is refused nothing is written
  pub memory : IsErrOf result Memory → new ≡ old
