-- The number that refuses the rows of columns, case by case.
use Rattle.std.proofs.Common.{◌≡◌, Bool, true, false, Option, ap, ◌∙◌, cond}
use Rattle.std.specs.Option.{option_map_or}
use Rattle.bw_model.specs.declared.instance_fault.InstanceFault.{InstanceFault}
use Rattle.bw_model.specs.Refusal.{refusal}
use Rattle.bw_model.specs.Faults.{instance_fault_number}
use Rattle.bw_columns.specs.Asked.{Table, rows_in, are_even}
use Rattle.bw_exports.specs.RefusedRow.{rows_number}

-- columns of several lengths
pub number_uneven : (table : Table) → are_even table ≡ false → rows_number table ≡ 50
unfolding rows_number
number_uneven table e =
    ap (λ (b : Bool). cond b (option_map_or instance_fault_number (refusal (rows_in table)) 0) 50) e

-- columns of one length, and the refusal of their rows
pub number_even : (table : Table) (r : Option InstanceFault) → are_even table ≡ true
    → refusal (rows_in table) ≡ r → rows_number table ≡ option_map_or instance_fault_number r 0
unfolding rows_number
number_even table r e is =
    ap (λ (b : Bool). cond b (option_map_or instance_fault_number (refusal (rows_in table)) 0) 50) e
    ∙ ap (λ (o : Option InstanceFault). option_map_or instance_fault_number o 0) is
