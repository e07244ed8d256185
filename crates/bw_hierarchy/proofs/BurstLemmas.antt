-- Each call keeps the burst of each group at most its quota.
use Rattle.std.proofs.Common.{◌≡◌, ℕ, Bool, true, false, cond, eqb, List, [], ◌∷◌, ◌++◌}
use Rattle.std.proofs.Common.{Option, Some, None, refl, ap, sym, subst, ◌∙◌}
use Rattle.std.specs.Prelude.{Result, Ok, Err, IfOk}
use Rattle.std.specs.List.{AllByRecursion}
use Rattle.std.specs.Map.{values_of, set_value, remove_entry}
use Rattle.std.proofs.lemmas.Bool.{ltb-false}
use Rattle.bw_model.specs.declared.row.Row.{Row}
use Rattle.bw_model.specs.declared.quota.Quota.{Quota}
use Rattle.bw_model.specs.declared.quota.Quota.TheVariants.{Max as NoLimit, Micros}
use Rattle.bw_tree.specs.Groups.{GroupFields, TreeState, group_at}
use Rattle.bw_tree.specs.Snapshot.{carried, left_over}
use Rattle.bw_tree.specs.Tree.{changed, new_group, with_setting, set_weight, set_max, set_burst}
use Rattle.bw_tree.specs.Tree.{set_demand}
use Rattle.bw_hierarchy.specs.declared.fault.Fault.{Fault}
use Rattle.bw_hierarchy.specs.Bursts.{IsWithin, AreBurstsWithin, CallsKeepBurstsWithin}
use Rattle.bw_hierarchy.specs.CallLists.{Call, called, left_after, after_calls}
use Rattle.bw_hierarchy.specs.Calls.{mkdir_of, is_above, quota_at, burst_at}
use Rattle.bw_hierarchy.specs.Files.{write_of}
use Rattle.bw_hierarchy.specs.State.{HierarchyState, new_hierarchy, booked_period, rmdir_of}
use Rattle.bw_hierarchy.specs.State.{demand_set_of}
use Rattle.bw_hierarchy.proofs.CallRuns.{IsKept, called_keeps, mkdir_keeps, write_keeps}
use Rattle.bw_hierarchy.proofs.CallRuns.{rmdir_keeps, demand_keeps}

-- ---- the groups

abbrev Within : GroupFields → Type 0
Within g = IsWithin g.burst g.quota

abbrev All : List (ℕ × GroupFields) → Type 0
All gs = AllByRecursion Within (values_of gs)

pushed : (gs : List (ℕ × GroupFields)) (k : ℕ) (g : GroupFields) → All gs → Within g
    → All (gs ++ (k, g) ∷ [])
pushed [] k g all new = (new, tt)
pushed (e ∷ es) k g all new = (all.0, pushed es k g all.1 new)

removed : (gs : List (ℕ × GroupFields)) (id : ℕ) → All gs → All (remove_entry (eqb id) gs)
removed [] id all = tt
removed (e ∷ es) id all = onto (eqb id e.0) (removed es id all.1)
  where
    onto : (b : Bool) → All (remove_entry (eqb id) es)
        → All (cond b es (e ∷ remove_entry (eqb id) es))
    onto true rest = all.1
    onto false rest = (all.0, rest)

replaced : (gs : List (ℕ × GroupFields)) (id : ℕ) (g : GroupFields) → All gs → Within g
    → All (set_value (eqb id) gs g)
replaced [] id g all new = tt
replaced (e ∷ es) id g all new = onto (eqb id e.0) (replaced es id g all.1 new)
  where
    onto : (b : Bool) → All (set_value (eqb id) es g)
        → All (cond b ((e.0, g) ∷ es) (e ∷ set_value (eqb id) es g))
    onto true rest = (new, all.1)
    onto false rest = (all.0, rest)

at_id : (gs : List (ℕ × GroupFields)) (id : ℕ) (g : GroupFields) → All gs
    → group_at gs id ≡ Some g → Within g
at_id [] id g all found = cc
at_id (e ∷ es) id g all found = onto (eqb id e.0) found (at_id es id g all.1)
  where
    onto : (b : Bool) → cond b (Some e.1) (group_at es id) ≡ Some g
        → (group_at es id ≡ Some g → Within g) → Within g
    onto true found rest = let same : e.1 ≡ g = cc in subst Within same all.0
    onto false found rest = rest found

carried_all : (gs : List (ℕ × GroupFields)) (cs : List ℕ) → All gs → All (carried gs cs)
carried_all gs [] all = all
carried_all [] (c ∷ cs) all = tt
carried_all (e ∷ es) (c ∷ cs) all = (all.0, carried_all es cs all.1)

-- a setting of one group
set_within : (f : GroupFields → GroupFields) (t : TreeState) (id : ℕ) → AreBurstsWithin t
    → ((g : GroupFields) → group_at t.groups id ≡ Some g → Within g → Within (f g))
    → AreBurstsWithin (with_setting f t id)
set_within f t id all keeps = by (group_at t.groups id) refl
  where
    by : (o : Option GroupFields) → group_at t.groups id ≡ o → All (changed f t.groups id o)
    by None found = all
    by (Some g) found =
        replaced t.groups id (f g) all (keeps g found (at_id t.groups id g all found))

-- what the refusal of a burst above the quota leaves
within_of : (burst : ℕ) (quota : Quota) → is_above burst quota ≡ false → IsWithin burst quota
within_of burst NoLimit e = tt
within_of burst (Micros us) e = ltb-false us burst e

-- ---- the calls

-- a limit that the group's burst fits, with or without a period
limit_within : (quota : Quota) (period : Option ℕ) (t : TreeState) (id : ℕ)
    → is_above (burst_at (group_at t.groups id)) quota ≡ false → AreBurstsWithin t
    → AreBurstsWithin (with_setting (set_max quota period) t id)
limit_within quota period t id fits all = set_within (set_max quota period) t id all
    (λ g found was. by period g (within_of g.burst quota
    (sym (ap (λ o. is_above (burst_at o) quota) found) ∙ fits)))
  where
    by : (period : Option ℕ) (g : GroupFields) → IsWithin g.burst quota
        → Within (set_max quota period g)
    by None g fits = fits
    by (Some us) g fits = fits

-- what each call on a tree keeps
within_kept : IsKept AreBurstsWithin
within_kept = record {
  made = λ t parent name all. pushed t.groups t.next (new_group parent name) all tt;
  weighed = λ w t id all. set_within (set_weight w) t id all (λ g found was. was);
  demanded = λ demand t id all. set_within (set_demand demand) t id all (λ g found was. was);
  limited = limit_within;
  burst = λ n t id fits all. set_within (set_burst n) t id all
      (λ g found was. within_of n g.quota (sym (ap (λ o. is_above n (quota_at o)) found) ∙ fits));
  removed = λ t id all. removed t.groups id all;
  carried = λ t rows drawn all. carried_all t.groups (left_over rows drawn) all;
}

pub mkdir_within : (t : TreeState) (path : List ℕ) → AreBurstsWithin t
    → IfOk (mkdir_of t path) (λ made. AreBurstsWithin made.1)
mkdir_within = mkdir_keeps AreBurstsWithin within_kept

pub write_within : (t : TreeState) (path file text : List ℕ) → AreBurstsWithin t
    → IfOk (write_of t path file text) AreBurstsWithin
write_within = write_keeps AreBurstsWithin within_kept

pub rmdir_within : (h : HierarchyState) (path : List ℕ) → AreBurstsWithin h.tree
    → IfOk (rmdir_of h path) (λ after. AreBurstsWithin after.tree)
rmdir_within = rmdir_keeps AreBurstsWithin within_kept

pub demand_within : (h : HierarchyState) (path : List ℕ) (demand : ℕ) → AreBurstsWithin h.tree
    → IfOk (demand_set_of h path demand) (λ after. AreBurstsWithin after.tree)
demand_within = demand_keeps AreBurstsWithin within_kept

pub booked_within : (h : HierarchyState) (rows : List Row) (base : List (Option ℕ))
    (wants drawn : List ℕ) → AreBurstsWithin h.tree
    → AreBurstsWithin (booked_period h rows base wants drawn).tree
booked_within h rows base wants drawn all = carried_all h.tree.groups (left_over rows drawn) all

abbrev Kept : HierarchyState → Type 0
Kept h = AreBurstsWithin h.tree

left_within : (h : HierarchyState) (r : Result HierarchyState Fault) → Kept h → IfOk r Kept
    → Kept (left_after h r)
left_within h (Ok after) was is = is
left_within h (Err fault) was is = was

all_within : (calls : List Call) (h : HierarchyState) → Kept h → Kept (after_calls h calls)
all_within [] h all = all
all_within (c ∷ calls) h all =
    all_within calls (left_after h (called h c))
    (left_within h (called h c) all (called_keeps AreBurstsWithin within_kept h c all))

pub calls_within : CallsKeepBurstsWithin
calls_within shape calls = all_within calls (new_hierarchy shape) (tt, tt)
