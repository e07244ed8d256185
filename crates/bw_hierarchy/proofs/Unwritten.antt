-- What no file sets stays in every write, and a kept row can follow it.
use Rattle.std.proofs.Common.{◌≡◌, ℕ, Bool, true, false, ◌&&◌, not, cond, eqb, List, [], ◌∷◌, map}
use Rattle.std.proofs.Common.{Option, Some, None, is_some, Ok, refl, sym, ap, subst, ◌∙◌}
use Rattle.std.specs.Map.{set_value}
use Rattle.bw_tree.specs.Groups.{GroupFields, TreeState, group_at, find_path}
use Rattle.bw_tree.specs.Tree.{changed, setting_refusal}
use Rattle.bw_tree.specs.Kept.{IsKept, IsBehind}
use Rattle.bw_tree.specs.declared.snapshot.Snapshot.{Snapshot}
use Rattle.bw_tree.proofs.CallerLemmas.{settable_still}
use Rattle.bw_model.specs.Host.{Shape}
use Rattle.bw_hierarchy.specs.Calls.{found, found_at}
use Rattle.bw_hierarchy.specs.GroupFiles.{is_of_root}
use Rattle.bw_hierarchy.specs.Files.{Unwritten, unwritten, unwritten_parts, write_of}
use Rattle.bw_hierarchy.proofs.Writes.{write_parts, sets_IsSetting, sets_no_root}
use Rattle.bw_hierarchy.proofs.FileNames.{some_is}

abbrev part : ℕ × GroupFields → ℕ × Unwritten
part e = (e.0, unwritten e.1)

parts_set : (gs : List (ℕ × GroupFields)) (id : ℕ) (old new : GroupFields)
    → group_at gs id ≡ Some old → unwritten new ≡ unwritten old
    → map part (set_value (eqb id) gs new) ≡ map part gs
parts_set [] id old new at same = refl
parts_set (e ∷ es) id old new at same =
    onto (eqb id e.0) at (λ later. parts_set es id old new later same)
  where
    onto : (b : Bool) → cond b (Some e.1) (group_at es id) ≡ Some old
        → (group_at es id ≡ Some old → map part (set_value (eqb id) es new) ≡ map part es)
        → map part (cond b ((e.0, new) ∷ es) (e ∷ set_value (eqb id) es new)) ≡ part e ∷ map part es
    onto true here rest = ap (λ (u : Unwritten). (e.0, u) ∷ map part es)
        (same ∙ ap unwritten (some_is old e.1 (sym here)))
    onto false here rest = ap (λ (xs : List (ℕ × Unwritten)). part e ∷ xs) (rest here)

-- the next id and those parts stay
abbrev Stays : TreeState → TreeState → Type 0
Stays t u = (u.next ≡ t.next) × (unwritten_parts u ≡ unwritten_parts t)

pub rest_stays : (t u : TreeState) (path name text : List ℕ) → write_of t path name text ≡ Ok u
    → Stays t u
rest_stays t u path name text e =
    let p = write_parts t u path name text e in
    let w = p.write in
    let setting = sets_IsSetting p.file text w.set.f w.set.sets in
    subst (λ v. Stays t v) w.set.is (
      refl,
      ap (λ o. map part (changed w.set.f t.groups w.id o)) w.there
          ∙ parts_set t.groups w.id w.g (w.set.f w.g) w.there (setting.rest w.g),
    )

same_id : (o : Option ℕ) (a b : ℕ) → o ≡ Some a → found o ≡ Ok b → a ≡ b
same_id o a b some ok = let both : found (Some a) ≡ Ok b = sym (ap found some) ∙ ok in cc

settable : (t : TreeState) (id : ℕ) (g : GroupFields) (of_root : Bool)
    → group_at t.groups id ≡ Some g → (not of_root && eqb id 0) ≡ false → of_root ≡ false
    → setting_refusal t id ≡ None
settable t id g of_root at inner no_root =
    let other : eqb id 0 ≡ false = ap (λ b. not b && eqb id 0) (sym no_root) ∙ inner in
    rw (ap is_some at, other) refl

-- a snapshot that is kept is one of the tree before the write
pub write_IsBehind : (kept : Option Snapshot) (t u : TreeState) (shape : Shape)
    (path name text : List ℕ) (id : ℕ) → IsKept kept t shape → found_at t path ≡ Ok id
    → write_of t path name text ≡ Ok u → IsBehind kept u shape id
write_IsBehind kept t u shape path name text id is_kept leads e =
    let p = write_parts t u path name text e in
    let w = p.write in
    let setting = sets_IsSetting p.file text w.set.f w.set.sets in
    let free = settable t w.id w.g (is_of_root p.file) w.there w.inner
    (sets_no_root p.file text w.set.f w.set.sets) in
    subst (λ k. IsBehind kept u shape k) (same_id (find_path t.groups path) w.id id w.leads leads)
    (record {
      settable = subst (λ v. setting_refusal v w.id ≡ None) w.set.is
          (settable_still w.set.f t w.id free);
      before = t;
      was_kept = is_kept;
      change = w.set.f;
      parent_stays = λ g. ap (λ (r : Unwritten). r.parent) (setting.rest g);
      demand_stays = λ g. ap (λ (r : Unwritten). r.demand) (setting.rest g);
      step = sym w.set.is;
    })
