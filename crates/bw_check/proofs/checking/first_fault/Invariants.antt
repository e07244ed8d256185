-- What stands at each turn of the loop in `first_fault`.
use Rattle.std.proofs.Common.{ℕ, ◌+◌, ◌*◌, ◌<◌, ◌≤◌, length}
use Rattle.bw_check.specs.declared.fault.CheckFault.{CheckFault}
use Rattle.bw_model.specs.Certificate.{certified_of}
use Rattle.bw_check.specs.Faults.{check_fault_number}
use Rattle.bw_check.specs.Verdict.{IsFree}
use Rattle.bw_check.proofs.checking.first_fault.Given as goal

abbrev pub invariant-loop-fault : goal.invariant-loop-fault
invariant-loop-fault l = record {
  free : (f : CheckFault) (g : ℕ) → check_fault_number f < 51 + l.fault-index
      → g < length l.instance.rows →
      IsFree l.instance l.amounts (certified_of l.certificate) l.tables.bounds.items f g;
  once : l.fn.visits.steps + length l.instance.rows ≤ l.visits.steps;
  most : l.visits.steps ≤ l.fn.visits.steps + (3 + l.fault-index) * length l.instance.rows;
}
