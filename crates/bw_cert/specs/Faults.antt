-- The numbers and names of the refusals.
use Rattle.std.specs.Prelude.{ℕ, List, codes}
use Rattle.bw_model.specs.Faults.{host_fault_number, host_fault_name, instance_fault_number}
use Rattle.bw_model.specs.Faults.{instance_fault_name}
use Rattle.bw_cert.specs.declared.fault.CertFault.{CertFault}
use Rattle.bw_cert.specs.declared.fault.CertFault.TheVariants.{Host, Instance, BadLine, BadField}
use Rattle.bw_cert.specs.declared.fault.CertFault.TheVariants.{CutShort, Trailing, OutOfMemory}

abbrev pub cert_fault_number : CertFault → ℕ
cert_fault_number (Host fault) = host_fault_number fault
cert_fault_number (Instance fault) = instance_fault_number fault
cert_fault_number BadLine = 40
cert_fault_number BadField = 41
cert_fault_number CutShort = 42
cert_fault_number Trailing = 43
cert_fault_number OutOfMemory = 71

abbrev pub cert_fault_name : CertFault → List ℕ
cert_fault_name (Host fault) = host_fault_name fault
cert_fault_name (Instance fault) = instance_fault_name fault
cert_fault_name BadLine = codes "BadLine"
cert_fault_name BadField = codes "BadField"
cert_fault_name CutShort = codes "CutShort"
cert_fault_name Trailing = codes "Trailing"
cert_fault_name OutOfMemory = codes "OutOfMemory"
