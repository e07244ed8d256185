-- Runs of any length meet the premises, on one processor and on two.
use Rattle.dispatch.proofs.Pairs.{premises_are_met_by_two}
use Rattle.dispatch.proofs.Turns.{premises_are_met}
use Rattle.dispatch.proofs.laws.premises_are_met.Goals as goal

pub returns-clause-one : goal.returns-clause-one
returns-clause-one c = premises_are_met

pub returns-clause-two : goal.returns-clause-two
returns-clause-two c = premises_are_met_by_two
