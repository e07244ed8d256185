-- The number that refuses what is asked, case by case.
use Rattle.std.proofs.Common.{◌&&◌, not, filter, subst, count_by, ◌≡◌, ◌≤◌, arith, ℕ, Bool, true}
use Rattle.std.proofs.Common.{false, cond, Option, None, Some, List, length, refl, ap, sym}
use Rattle.std.proofs.Common.{◌∙◌, inl, inr}
use Rattle.std.specs.Option.{option_map_or}
use Rattle.std.proofs.lemmas.List.FromFn.{length-map-range_with_len, length-range_with_len}
use Rattle.bw_model.specs.declared.host.HostFault.{HostFault}
use Rattle.bw_model.specs.declared.instance_fault.InstanceFault.{InstanceFault}
use Rattle.bw_model.specs.declared.instance_fault.InstanceFault.TheVariants.{TooMany, BadParent}
use Rattle.bw_model.specs.declared.instance_fault.InstanceFault.TheVariants.{BadWeight, TooDeep}
use Rattle.bw_model.specs.declared.instance_fault.InstanceFault.TheVariants.{InnerDemand}
use Rattle.bw_model.specs.declared.instance_fault.InstanceFault.TheVariants.{DemandTooLarge}
use Rattle.bw_model.specs.declared.instance_fault.InstanceFault.TheVariants.{RootLimited}
use Rattle.bw_model.specs.declared.instance_fault.InstanceFault.TheVariants.{OutOfMemory}
use Rattle.bw_model.specs.Host.{Shape, IsHost, host_refusal}
use Rattle.bw_model.specs.Refusal.{refusal, IsRefused}
use Rattle.bw_model.specs.Faults.{host_fault_number, instance_fault_number}
use Rattle.bw_model.specs.Groups.{Groups, IsInstance}
use Rattle.bw_model.specs.Allocation.{total}
use Rattle.bw_model.specs.Plan.{IsPlan}
use Rattle.bw_model.specs.Demand.{limiting_groups, is_tight, has_tight_above}
use Rattle.std.proofs.lemmas.List.Sums.{length-filter, count_by-le-length}
use Rattle.bw_model.specs.declared.limits.TheConstants.{MAX_GROUPS}
use Rattle.std.specs.List.{range_with_len}
use Rattle.bw_model.proofs.CallerLemmas.{IsHost-accepted, IsInstance-accepted}
use Rattle.bw_columns.specs.Asked.{Table, row_in, rows_in, groups_in, are_even}
use Rattle.bw_columns.specs.Asked.{refusal_number, asked_number, Answers}
use Rattle.bw_columns.specs.Asked.{IsAfterMemory}

-- A fact of groups and flags is one of equal groups and equal flags.
pub moved : (P : Groups → List Bool → Type 0) (g h : Groups) (xs ys : List Bool) → g ≡ h → xs ≡ ys
    → P g xs → P h ys
moved P g h xs ys groups flags known =
    subst (λ (one : Groups). P one ys) groups (subst (λ (some : List Bool). P g some) flags known)

-- uneven columns
pub asked_uneven : (shape : Shape) (table : Table) → are_even table ≡ false
    → asked_number shape table ≡ 50
unfolding asked_number
asked_uneven shape table e = ap (λ (b : Bool). cond b (refusal_number (groups_in shape table)) 50) e

asked_even : (shape : Shape) (table : Table) → are_even table ≡ true
    → asked_number shape table ≡ refusal_number (groups_in shape table)
unfolding asked_number
asked_even shape table e = ap (λ (b : Bool). cond b (refusal_number (groups_in shape table)) 50) e

-- even columns, and no such host
pub host_refused : (shape : Shape) (table : Table) (fault : HostFault) → are_even table ≡ true
    → host_refusal shape ≡ Some fault →
    asked_number shape table ≡ host_fault_number fault
host_refused shape table fault e h =
    asked_even shape table e
    ∙ ap (λ (o : Option HostFault). option_map_or host_fault_number o
    (option_map_or instance_fault_number (refusal (rows_in table)) 0)) h

-- even columns, a host, and the refusal of the rows
asked_rows : (shape : Shape) (table : Table) (r : Option InstanceFault) → are_even table ≡ true
    → IsHost shape → refusal (rows_in table) ≡ r →
    asked_number shape table ≡ option_map_or instance_fault_number r 0
asked_rows shape table r e host h =
    asked_even shape table e
    ∙ ap (λ (o : Option HostFault). option_map_or host_fault_number o
    (option_map_or instance_fault_number (refusal (rows_in table)) 0))
    (IsHost-accepted shape host)
    ∙ ap (λ (o : Option InstanceFault). option_map_or instance_fault_number o 0) h

-- the rows are refused by a number above 3 that is not 50
pub after_memory : (r : Option InstanceFault) → IsAfterMemory (option_map_or instance_fault_number r 0)
after_memory None = inl refl
after_memory (Some TooMany) = inr (omega arith, λ e. omega (arith, e))
after_memory (Some BadParent) = inr (omega arith, λ e. omega (arith, e))
after_memory (Some BadWeight) = inr (omega arith, λ e. omega (arith, e))
after_memory (Some TooDeep) = inr (omega arith, λ e. omega (arith, e))
after_memory (Some InnerDemand) = inr (omega arith, λ e. omega (arith, e))
after_memory (Some DemandTooLarge) = inr (omega arith, λ e. omega (arith, e))
after_memory (Some RootLimited) = inr (omega arith, λ e. omega (arith, e))
after_memory (Some OutOfMemory) = inr (omega arith, λ e. omega (arith, e))

-- even columns and a host: memory may be asked for
pub host_accepted : (shape : Shape) (table : Table) → are_even table ≡ true → IsHost shape
    → IsAfterMemory (asked_number shape table)
host_accepted shape table e host =
    subst IsAfterMemory (sym (asked_rows shape table (refusal (rows_in table)) e host refl))
    (after_memory (refusal (rows_in table)))

pub rows_refused : (shape : Shape) (table : Table) (fault : InstanceFault) → are_even table ≡ true
    → IsHost shape → IsRefused (refusal (rows_in table)) fault →
    Answers (asked_number shape table) (instance_fault_number fault)
rows_refused shape table TooMany e host h =
    inl (sym (asked_rows shape table (Some TooMany) e host h))
rows_refused shape table BadParent e host h =
    inl (sym (asked_rows shape table (Some BadParent) e host h))
rows_refused shape table BadWeight e host h =
    inl (sym (asked_rows shape table (Some BadWeight) e host h))
rows_refused shape table TooDeep e host h =
    inl (sym (asked_rows shape table (Some TooDeep) e host h))
rows_refused shape table InnerDemand e host h =
    inl (sym (asked_rows shape table (Some InnerDemand) e host h))
rows_refused shape table DemandTooLarge e host h =
    inl (sym (asked_rows shape table (Some DemandTooLarge) e host h))
rows_refused shape table RootLimited e host h =
    inl (sym (asked_rows shape table (Some RootLimited) e host h))
rows_refused shape table OutOfMemory e host h = inr (refl, host_accepted shape table e host)

-- an instance is refused by nothing
pub asked_none : (shape : Shape) (table : Table) → are_even table ≡ true → IsHost shape
    → IsInstance (groups_in shape table) → asked_number shape table ≡ 0
asked_none shape table e host i =
    asked_rows shape table None e host (IsInstance-accepted (groups_in shape table) i)

-- a plan has one amount for each entry of a column
pub planned_length : (shape : Shape) (table : Table) (amounts : List ℕ)
    → IsPlan (groups_in shape table) amounts → length amounts ≡ length table.parents
planned_length shape table amounts plan =
    ap (length {A = ℕ}) plan.amounts_are
    ∙ length-map-range_with_len (total (rows_in table) plan.allocation) 0 (length (rows_in table))
    ∙ length-map-range_with_len (row_in table) 0 (length table.parents)

-- no more groups limit than there are rows
pub limiting_short : (shape : Shape) (table : Table) (most : List ℕ)
    → length (limiting_groups (groups_in shape table) most) ≤ length table.parents
unfolding limiting_groups
limiting_short shape table most =
    let rows : length (rows_in table) ≡ length table.parents =
    length-map-range_with_len (row_in table) 0 (length table.parents) in
    let range : length (range_with_len 0 (length (rows_in table))) ≡ length (rows_in table) =
    length-range_with_len 0 (length (rows_in table)) in
    let g = groups_in shape table in
    let p : ℕ → Bool = λ (h : ℕ). is_tight g most h && not (has_tight_above g most h) in
    let kept : length (filter p (range_with_len 0 (length (rows_in table))))
    ≡ count_by p (range_with_len 0 (length (rows_in table))) =
    length-filter p (range_with_len 0 (length (rows_in table))) in
    let some : count_by p (range_with_len 0 (length (rows_in table)))
    ≤ length (range_with_len 0 (length (rows_in table))) =
    count_by-le-length p (range_with_len 0 (length (rows_in table))) in
    omega (arith, rows, range, kept, some)

-- an instance has few rows
pub few_rows : (groups : Groups) (shape : Shape) (table : Table) → groups ≡ groups_in shape table
    → IsInstance groups → length table.parents ≤ MAX_GROUPS
few_rows groups shape table e i =
    let rows : length (rows_in table) ≡ length table.parents =
    length-map-range_with_len (row_in table) 0 (length table.parents) in
    let here : IsInstance (groups_in shape table) = subst IsInstance e i in
    let few : length (rows_in table) ≤ MAX_GROUPS = here.few in
    rw rows at few

-- as many rows as entries in a column
pub rows_length : (table : Table) → length (rows_in table) ≡ length table.parents
rows_length table = length-map-range_with_len (row_in table) 0 (length table.parents)
