-- The number that refuses a host of any number of processors.
use Rattle.std.specs.Prelude.{◌≡◌, ℕ}
use Rattle.bw_model.specs.declared.host.HostFault.{HostFault}
use Rattle.bw_model.specs.Faults.{host_fault_number}
use Rattle.bw_model.specs.Host.{Shape}
use Rattle.bw_columns.specs.PlannedHosts.{IsUnplannedHost}

-- the number of the fault of a host that is not planned
pub record IsUnplannedNumber (asked : Shape) (number : ℕ) : Type 0 where
  pub fault : HostFault
  pub unplanned : IsUnplannedHost asked fault
  pub number_is : number ≡ host_fault_number fault
