-- A trace is accepted exactly where each line may follow.
use Rattle.dispatch.proofs.Accepts.{accepts_exactly}
use Rattle.dispatch.proofs.laws.accepts_exactly.Goals as goal

pub returns : goal.returns
returns c = accepts_exactly
