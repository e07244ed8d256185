-- The most of a group is not above its bound.
use Rattle.std.proofs.Common.{ℕ, ◌≤◌, Bool, true, false, Option, None, Some}
use Rattle.std.proofs.Common.{length, get_or, arith}
use Rattle.std.specs.Prelude.{slice_index, unwrap_or, if◌then◌else◌}
use Rattle.bw_model.specs.Groups.{is_leaf, demand_of, limit_of, sum_of_children}
use Rattle.bw_model.specs.Certificate.{is_flagged}
use Rattle.bw_model.specs.Demand.{want_of}
use Rattle.bw_model.specs.Laws.{BoundsCoverMosts}
use Rattle.bw_model.proofs.Basics.{from_the_last}
use Rattle.bw_model.proofs.tree.Under.{parent_lt}
use Rattle.bw_model.proofs.allocation.Reach.{capped, capped_le_want}
use Rattle.bw_model.proofs.allocation.Mosts.{AreMaxTotals-capped}
use Rattle.bw_model.proofs.plan.Bounds.{children-le}

-- a limit that is flagged covers what it leaves of a want, and else the want is covered
covered : (flag : Bool) (limit : Option ℕ) (want rest : ℕ) → want ≤ rest
    → capped limit want ≤ unwrap_or (if flag then limit else None) rest
covered true None want rest le = le
covered true (Some limit) want rest le = omega arith
covered false limit want rest le = omega (arith, capped_le_want limit want, le)

-- of two sums the greater one stays so beside the same demand
beside : (leaf : Bool) (demand low high : ℕ) → low ≤ high
    → (if leaf then demand else low) ≤ (if leaf then demand else high)
beside true demand low high le = omega arith
beside false demand low high le = le

pub bounds_cover : BoundsCoverMosts
bounds_cover groups certificate bounds most instance are known =
    from_the_last (length groups.rows) (λ g. get_or most g 0 ≤ get_or bounds g 0) (λ g below later.
    let sums : sum_of_children groups.rows most g ≤ sum_of_children groups.rows bounds g =
    children-le groups.rows (slice_index most) (slice_index bounds) g
    (λ c here e. later c (parent_lt groups.rows instance.tree c g e) here) in
    rw (are.each g below, AreMaxTotals-capped groups instance.tree most known g below)
    (covered (is_flagged certificate g) (limit_of groups g) (want_of groups most g) _
    (beside (is_leaf groups.rows g) (demand_of groups.rows g) _ _ sums)))
