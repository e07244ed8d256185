-- The number that refuses what is asked, where the columns for the answer fit and where they do
-- not.
use Rattle.std.proofs.Common.{◌≡◌, Bool, true, false, cond, ap}
use Rattle.bw_model.specs.Host.{Shape}
use Rattle.bw_columns.specs.Asked.{Table, asked_number, asked_number_where}

pub where_unfit : (fit : Bool) (shape : Shape) (table : Table) → fit ≡ false
    → asked_number_where fit shape table ≡ 50
unfolding asked_number_where
where_unfit fit shape table e = ap (λ (b : Bool). cond b (asked_number shape table) 50) e

pub where_fit : (fit : Bool) (shape : Shape) (table : Table) → fit ≡ true
    → asked_number_where fit shape table ≡ asked_number shape table
unfolding asked_number_where
where_fit fit shape table e = ap (λ (b : Bool). cond b (asked_number shape table) 50) e
