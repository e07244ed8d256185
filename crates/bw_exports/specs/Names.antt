-- The names of the numbers that are answered.
use Rattle.std.specs.Prelude.{◌≡◌, ◌⊎◌, ℕ, nat_lt, suc, List, ◌∷◌, ◌++◌, length, drop}
use Rattle.std.specs.Prelude.{if◌then◌else◌}
use Rattle.bw_cert.specs.Faults.{cert_fault_number, cert_fault_name}
use Rattle.bw_hierarchy.specs.Faults.{hierarchy_fault_number, hierarchy_fault_name}
use Rattle.bw_commands.specs.Faults.{script_fault_number, script_fault_name}
use Rattle.bw_commands.specs.declared.fault.ScriptFault.TheVariants as of_line
use Rattle.bw_check.specs.Faults.{check_fault_number, check_fault_name}
use Rattle.bw_exports.specs.declared.fault.Fault.{Fault}
use Rattle.bw_exports.specs.declared.fault.Fault.TheVariants.{Asked, Called, Claimed}
use Rattle.bw_exports.specs.declared.fault.Fault.TheVariants.{BadCommand, BadText, LineTooLong}

-- the number of a fault
abbrev pub number_of_fault : Fault → ℕ
number_of_fault (Asked fault) = cert_fault_number fault
number_of_fault (Called fault) = hierarchy_fault_number fault
number_of_fault (Claimed fault) = check_fault_number fault
number_of_fault BadCommand = script_fault_number of_line.BadCommand
number_of_fault BadText = script_fault_number of_line.BadText
number_of_fault LineTooLong = script_fault_number of_line.LineTooLong

-- its name
abbrev pub name_of_fault : Fault → List ℕ
name_of_fault (Asked fault) = cert_fault_name fault
name_of_fault (Called fault) = hierarchy_fault_name fault
name_of_fault (Claimed fault) = check_fault_name fault
name_of_fault BadCommand = script_fault_name of_line.BadCommand
name_of_fault BadText = script_fault_name of_line.BadText
name_of_fault LineTooLong = script_fault_name of_line.LineTooLong

-- no fault has this number
abbrev pub IsNumberOfNone : {F : Type 0} → (F → ℕ) → ℕ → Type 0
IsNumberOfNone {F} number_of number = (fault : F) → number_of fault ≡ number → ⊥

-- the name at the front, a 0 behind it, and then what stood there; all as it was where there is no
-- room for both
unfoldable pub with_name : List ℕ → List ℕ → List ℕ
with_name name before = if nat_lt (length name) (length before)
    then name ++ (0 ∷ drop (suc (length name)) before) else before

-- the answer to a fault's number: the length of its name, and the name where there is room for it
pub record IsNamed (number : ℕ) (before after : List ℕ) (count : ℕ) : Type 0 where
  pub fault : Fault
  pub number_is : number_of_fault fault ≡ number
  pub count_is : count ≡ length (name_of_fault fault)
  pub after_is : after ≡ with_name (name_of_fault fault) before

-- the answer to any other number: 0, and all is as it was
pub record IsUnnamed (number : ℕ) (before after : List ℕ) (count : ℕ) : Type 0 where
  pub none : IsNumberOfNone number_of_fault number
  pub count_is : count ≡ 0
  pub after_is : after ≡ before

-- the answer to a number
abbrev pub IsNameTold : ℕ → List ℕ → List ℕ → ℕ → Type 0
IsNameTold number before after count =
    IsNamed number before after count ⊎ IsUnnamed number before after count
