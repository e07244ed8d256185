-- The number that refuses what is claimed, case by case.
use Rattle.std.proofs.Common.{◌≡◌, ◌∙◌, Bool, true, false, cond, ap, inl}
use Rattle.bw_model.specs.Host.{Shape}
use Rattle.bw_columns.specs.Asked.{Table, asked_number, IsAfterMemory}
use Rattle.bw_columns.specs.Certificates.{Claimed, are_levels_even, claimed_number}

-- uneven columns of levels
pub claimed_uneven : (shape : Shape) (table : Table) (claimed : Claimed)
    → are_levels_even claimed ≡ false → claimed_number shape table claimed ≡ 50
unfolding claimed_number
claimed_uneven shape table claimed e = ap (λ (b : Bool). cond b (asked_number shape table) 50) e

-- even ones
pub claimed_even : (shape : Shape) (table : Table) (claimed : Claimed)
    → are_levels_even claimed ≡ true →
    claimed_number shape table claimed ≡ asked_number shape table
unfolding claimed_number
claimed_even shape table claimed e = ap (λ (b : Bool). cond b (asked_number shape table) 50) e

-- even ones, and nothing refuses what is asked: memory may be asked for
pub claimed_none : (shape : Shape) (table : Table) (claimed : Claimed)
    → are_levels_even claimed ≡ true → asked_number shape table ≡ 0
    → IsAfterMemory (claimed_number shape table claimed)
claimed_none shape table claimed e none = inl (claimed_even shape table claimed e ∙ none)
