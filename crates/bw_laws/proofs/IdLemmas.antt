-- Ids rise over any calls in a row.
use Rattle.std.proofs.Common.{◌≡◌, ◌⊎◌, inl, inr, ℕ, ◌+◌, ◌<◌, ◌≤◌, true, false, List, []}
use Rattle.std.proofs.Common.{◌∷◌, Option, None, Some, sym, ap, subst, ◌∙◌, arith, true≢false}
use Rattle.std.specs.Prelude.{Result, Ok, Err, IfOk}
use Rattle.std.specs.Path.{rsplit_once}
use Rattle.std.proofs.lemmas.Bool.{false_from_ne_true}
use Rattle.bw_model.specs.Host.{Shape}
use Rattle.bw_tree.specs.Groups.{TreeState, group_at, has_group, AllBefore}
use Rattle.bw_tree.specs.Snapshot.{left_over}
use Rattle.bw_tree.specs.Tree.{mkdir_refusal, with_group, new_group}
use Rattle.bw_tree.specs.declared.fault.TreeFault.{TreeFault}
use Rattle.bw_hierarchy.specs.declared.fault.Fault.{Fault}
use Rattle.bw_hierarchy.specs.CallLists.{Call, called, left_after, after_calls}
use Rattle.bw_hierarchy.specs.Calls.{mkdir_split, unless, and_then, found_at}
use Rattle.bw_hierarchy.specs.State.{HierarchyState, new_hierarchy}
use Rattle.bw_laws.specs.Ids.{has_id, ran, IdsAreGivenOnce}
use Rattle.bw_hierarchy.proofs.CallerLemmas.{IsKept, kept_by_any_setting, called_keeps}
use Rattle.bw_laws.proofs.GroupLists.{has_changed, has_removed, has_pushed, pushed_there}
use Rattle.bw_laws.proofs.GroupLists.{has_carried, below_more, below_changed, below_removed}
use Rattle.bw_laws.proofs.GroupLists.{below_pushed, below_carried, id_below}

-- A tree grew from another: no id is taken back, and what came has an id that was to be given.
pub record Grows (t u : TreeState) : Type 0 where
  pub next : t.next ≤ u.next
  pub below : AllBefore u.next u.groups
  pub ids : (id : ℕ) → has_group u.groups id ≡ true
      → (has_group t.groups id ≡ true) ⊎ ((t.next ≤ id) × (id < u.next))

pub grows_not : (t : TreeState) → AllBefore t.next t.groups → Grows t t
grows_not t all = record { next = omega arith; below = all; ids = λ id there. inl there }

one_more : (t u : TreeState) (parent : ℕ) (name : List ℕ) → Grows t u
    → Grows t (with_group u parent name)
one_more t u parent name grown =
    let from = grown.next in
    record {
      next = omega (arith, from);
      below =
          below_pushed (u.next + 1) u.groups u.next (new_group parent name)
          (below_more u.next (u.next + 1) u.groups (omega arith) grown.below) (omega arith);
      ids = λ id there. by id (has_pushed u.groups u.next (new_group parent name) id there);
    }
  where
    further : (id : ℕ) → (has_group t.groups id ≡ true) ⊎ ((t.next ≤ id) × (id < u.next))
        → (has_group t.groups id ≡ true) ⊎ ((t.next ≤ id) × (id < u.next + 1))
    further id (inl old) = inl old
    further id (inr new) = inr (new.0, let lt = new.1 in omega (arith, lt))

    by : (id : ℕ) → (has_group u.groups id ≡ true) ⊎ (id ≡ u.next)
        → (has_group t.groups id ≡ true) ⊎ ((t.next ≤ id) × (id < u.next + 1))
    by id (inl old) = further id (grown.ids id old)
    by id (inr same) =
        inr (let from = grown.next in omega (arith, from, same), omega (arith, same))

pub grows_kept : (t : TreeState) → IsKept (Grows t)
grows_kept t = kept_by_any_setting (Grows t)
    (λ u parent name grown. one_more t u parent name grown)
    (λ f u id grown. record {
      next = grown.next;
      below = below_changed u.next f u.groups id (group_at u.groups id) grown.below;
      ids =
          λ k there. grown.ids k
          (sym (has_changed f u.groups id (group_at u.groups id) k) ∙ there);
    })
    (λ u id grown. record {
      next = grown.next;
      below = below_removed u.next u.groups id grown.below;
      ids = λ k there. grown.ids k (has_removed u.groups id k there);
    })
    (λ u rows drawn grown. record {
      next = grown.next;
      below = below_carried u.next u.groups (left_over rows drawn) grown.below;
      ids =
          λ k there. grown.ids k
          (sym (has_carried u.groups (left_over rows drawn) k) ∙ there);
    })

left_grown : (t : TreeState) (h : HierarchyState) (r : Result HierarchyState Fault)
    → Grows t h.tree → IfOk r (λ after. Grows t after.tree) → Grows t (left_after h r).tree
left_grown t h (Ok after) was is = is
left_grown t h (Err fault) was is = was

-- after calls in a row
pub grown : (t : TreeState) (calls : List Call) (h : HierarchyState) → Grows t h.tree
    → Grows t (after_calls h calls).tree
grown t [] h was = was
grown t (call ∷ calls) h was =
    grown t calls (left_after h (called h call))
    (left_grown t h (called h call) was (called_keeps (Grows t) (grows_kept t) h call was))

-- after calls on a hierarchy whose ids are below its next one
pub grown_from : (h : HierarchyState) (calls : List Call) → AllBefore h.tree.next h.tree.groups
    → Grows h.tree (after_calls h calls).tree
grown_from h calls all = grown h.tree calls h (grows_not h.tree all)

pub new_below : (shape : Shape)
    → AllBefore (new_hierarchy shape).tree.next (new_hierarchy shape).tree.groups
new_below shape = (omega arith, tt)

rises : (shape : Shape) (first between later : List Call) (old new : ℕ)
    → has_id (ran shape first) old ≡ true
    → has_id (after_calls (ran shape first) between) new ≡ false
    → has_id (after_calls (after_calls (ran shape first) between) later) new ≡ true → old < new
rises shape first between later old new there absent comes =
    let a = ran shape first in
    let b = after_calls a between in
    let to_a = grown_from (new_hierarchy shape) first (new_below shape) in
    let to_b = grown_from a between to_a.below in
    let to_c = grown_from b later to_b.below in
    by (id_below a.tree.next a.tree.groups old to_a.below there) to_b.next (to_c.ids new comes)
  where
    by : old < (ran shape first).tree.next
        → (ran shape first).tree.next ≤ (after_calls (ran shape first) between).tree.next
        → (has_id (after_calls (ran shape first) between) new ≡ true)
        ⊎ (((after_calls (ran shape first) between).tree.next ≤ new)
        × (new < (after_calls (after_calls (ran shape first) between) later).tree.next))
        → old < new
    by lt le (inl same) = absurd (true≢false (sym same ∙ absent))
    by lt le (inr new_one) = let from = new_one.0 in omega (arith, lt, le, from)

-- the group that is made has the next id, and the next one is one more
made : (r : Option TreeFault) (t u : TreeState) (parent : ℕ) (name : List ℕ) (id : ℕ)
    → unless {A = ℕ × TreeState} r (t.next, with_group t parent name) ≡ Ok (id, u)
    → (t.next ≡ id) × (has_group u.groups id ≡ true)
made (Some fault) t u parent name id e = cc
made None t u parent name id e =
    let pair : ℕ × TreeState = (t.next, with_group t parent name) in
    let other : ℕ × TreeState = (id, u) in
    let same : pair ≡ other = cc in (
      ap (λ (p : ℕ × TreeState). p.0) same,
      subst (λ (p : ℕ × TreeState). has_group p.1.groups p.0 ≡ true) same
          (pushed_there t.groups t.next (new_group parent name)),
    )

made_below : (r : Result ℕ Fault) (t u : TreeState) (name : List ℕ) (id : ℕ)
    → and_then {A = ℕ} {B = ℕ × TreeState} r
    (λ parent. unless {A = ℕ × TreeState} (mkdir_refusal t parent name)
    (t.next, with_group t parent name))
    ≡ Ok (id, u) → (t.next ≡ id) × (has_group u.groups id ≡ true)
made_below (Err fault) t u name id e = cc
made_below (Ok parent) t u name id e = made (mkdir_refusal t parent name) t u parent name id e

made_at : (t u : TreeState) (o : Option (List ℕ × List ℕ)) (path : List ℕ) (id : ℕ)
    → mkdir_split t o path ≡ Ok (id, u) → (t.next ≡ id) × (has_group u.groups id ≡ true)
made_at t u None path id e = made (mkdir_refusal t 0 path) t u 0 path id e
made_at t u (Some parts) path id e = made_below (found_at t parts.0) t u parts.1 id e

pub given_once : IdsAreGivenOnce
given_once = record {
  rise = rises;
  made = λ shape calls path id t e.
      let h = ran shape calls in
      let new = made_at h.tree t (rsplit_once 47 path) path id e in
      let all = (grown_from (new_hierarchy shape) calls (new_below shape)).below in (
        false_from_ne_true (has_id h id)
            (λ there. let lt = id_below h.tree.next h.tree.groups id all there in
            let own = new.0 in omega (arith, lt, own)),
        new.1,
      );
}
