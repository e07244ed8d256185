-- Counters stand under ids that were given.
use Rattle.std.proofs.Common.{◌≡◌, ◌≢◌, ◌⊎◌, inl, inr, ℕ, ◌<◌, ◌≤◌, true, false, cond}
use Rattle.std.proofs.Common.{List, [], ◌∷◌, Option, None, Some, refl, sym, ap, ◌∙◌, arith, eqb}
use Rattle.std.proofs.Common.{true≢false}
use Rattle.std.proofs.lemmas.Bool.Decides.{eqb_tells}
use Rattle.std.specs.Prelude.{⊤, Result, Ok, Err, IfOk}
use Rattle.std.specs.Map.{remove_entry, keys_of}
use Rattle.std.proofs.lemmas.Bool.{ne_eqb}
use Rattle.bw_model.specs.declared.row.Row.{Row}
use Rattle.bw_model.specs.declared.stat.Stat.{Stat}
use Rattle.bw_stat.specs.Books.{Share, added, or_zeros, stat_at, with_share, booked, shares_of}
use Rattle.bw_stat.specs.Books.{forgotten}
use Rattle.bw_stat.proofs.CallerLemmas.{stat_insert}
use Rattle.bw_tree.specs.Groups.{GroupFields, AllBefore, has_group}
use Rattle.bw_tree.specs.Tree.{rmdir_refusal, demand_refusal, without_group, with_setting}
use Rattle.bw_tree.specs.Tree.{set_demand}
use Rattle.bw_hierarchy.specs.declared.fault.Fault.{Fault}
use Rattle.bw_hierarchy.specs.Builder.{built}
use Rattle.bw_hierarchy.specs.CallLists.{Call, called, left_after, after_calls}
use Rattle.bw_hierarchy.specs.CallLists.Call.{Mkdir, Rmdir, Delete, SetDemand, WriteFile}
use Rattle.bw_hierarchy.specs.CallLists.Call.{SetShares, SetCfs, Build, Book}
use Rattle.bw_hierarchy.specs.Calls.{found_at, mkdir_of, set_shares_of, set_cfs_of}
use Rattle.bw_hierarchy.specs.Files.{write_of}
use Rattle.bw_hierarchy.specs.State.{HierarchyState, new_hierarchy, with_tree, with_books}
use Rattle.bw_hierarchy.specs.State.{delete_of}
use Rattle.bw_laws.specs.Counters.{NewGroupsCountNothing}
use Rattle.bw_laws.specs.Ids.{has_id, ran}
use Rattle.bw_hierarchy.proofs.CallerLemmas.{unless_ok, any_ok, called_keeps}
use Rattle.bw_laws.proofs.IdLemmas.{Grows, grows_kept, grows_not, new_below}

none_some : (x : Stat) → Some x ≡ None → ⊥
none_some x w = cc

-- what is not there is not there once something is removed
removed : (es : List (ℕ × Stat)) (k q : ℕ) → stat_at es q ≡ None
    → stat_at (remove_entry (eqb k) es) q ≡ None
removed [] k q h = refl
removed (e ∷ es) k q h = by (λ rest. removed es k q rest) (eqb_tells k e.0) (eqb_tells q e.0)
  where
    by : (stat_at es q ≡ None → stat_at (remove_entry (eqb k) es) q ≡ None)
        → ((eqb k e.0 ≡ true) × (k ≡ e.0)) ⊎ ((eqb k e.0 ≡ false) × (k ≢ e.0))
        → ((eqb q e.0 ≡ true) × (q ≡ e.0)) ⊎ ((eqb q e.0 ≡ false) × (q ≢ e.0))
        → stat_at (cond (eqb k e.0) es (e ∷ remove_entry (eqb k) es)) q ≡ None
    by later x (inl b) = let wrong : Some e.1 ≡ None =
        sym (ap (λ t. cond t (Some e.1) (stat_at es q)) b.0) ∙ h in absurd (none_some e.1 wrong)
    by later (inl a) (inr b) = rw a.0 (sym (ap (λ t. cond t (Some e.1) (stat_at es q)) b.0) ∙ h)
    by later (inr a) (inr b) =
        rw (a.0, b.0) (later (sym (ap (λ t. cond t (Some e.1) (stat_at es q)) b.0) ∙ h))

-- each share is of an id below n
abbrev AllBelow : ℕ → List (ℕ × Share) → Type 0
AllBelow n [] = ⊤
AllBelow n (e ∷ es) = (e.0 < n) × AllBelow n es

-- a booked period counts for its own ids alone
booked_others : (es : List (ℕ × Share)) (books : List (ℕ × Stat)) (n q : ℕ) → AllBelow n es → n ≤ q
    → stat_at books q ≡ None
    → stat_at (booked books es) q ≡ None
booked_others [] books n q below le h = h
booked_others (e ∷ es) books n q below le h =
    let apart : eqb q e.0 ≡ false =
    ne_eqb q e.0 (λ same. absurd (let lt = below.0 in omega (arith, lt, le, same))) in
    booked_others es (with_share books e.0 e.1) n q below.1 le
    (stat_insert books e.0 (added (or_zeros (stat_at books e.0)) e.1) q
    ∙ ap (λ b. cond b (Some (added (or_zeros (stat_at books e.0)) e.1)) (stat_at books q)) apart
    ∙ h)

-- each id of a list is below n
abbrev IdsBelow : ℕ → List ℕ → Type 0
IdsBelow n [] = ⊤
IdsBelow n (id ∷ ids) = (id < n) × IdsBelow n ids

shares_below : (s : ℕ) (rows : List Row) (ids : List ℕ) (qs : List (Option ℕ)) (ws ds : List ℕ)
    (n : ℕ) → IdsBelow n ids
    → AllBelow n (shares_of s rows ids qs ws ds)
shares_below s [] ids qs ws ds n below = tt
shares_below s (row ∷ rows) [] qs ws ds n below = tt
shares_below s (row ∷ rows) (id ∷ ids) [] ws ds n below = tt
shares_below s (row ∷ rows) (id ∷ ids) (q ∷ qs) [] ds n below = tt
shares_below s (row ∷ rows) (id ∷ ids) (q ∷ qs) (w ∷ ws) [] n below = tt
shares_below s (row ∷ rows) (id ∷ ids) (q ∷ qs) (w ∷ ws) (d ∷ ds) n below =
    (below.0, shares_below s rows ids qs ws ds n below.1)

keys_below : (groups : List (ℕ × GroupFields)) (n : ℕ) → AllBefore n groups
    → IdsBelow n (keys_of groups)
keys_below [] n before = tt
keys_below (e ∷ es) n before = (before.0, keys_below es n before.1)

-- of an earlier hierarchy's ids, those that were not given yet have no counters
abbrev CountsNoneFrom : HierarchyState → HierarchyState → Type 0
CountsNoneFrom h after = (id : ℕ) → h.tree.next ≤ id → stat_at after.books id ≡ None

deleted : (h : HierarchyState) (id : ℕ) → CountsNoneFrom h h
    → IfOk (delete_of h id) (CountsNoneFrom h)
deleted h id given = unless_ok (CountsNoneFrom h) (rmdir_refusal h.tree id)
    (with_books (with_tree h (without_group h.tree id)) (forgotten h.books id))
    (λ q from. removed h.books id q (given q from))

-- any call
counts : (h : HierarchyState) (c : Call) → AllBefore h.tree.next h.tree.groups → CountsNoneFrom h h
    → IfOk (called h c) (CountsNoneFrom h)
counts h (Mkdir path) all given =
    any_ok (CountsNoneFrom h) (mkdir_of h.tree path) _ (λ made. given)
counts h (Rmdir path) all given = any_ok (CountsNoneFrom h) (found_at h.tree path) (delete_of h)
    (λ id. deleted h id given)
counts h (Delete id) all given = deleted h id given
counts h (SetDemand path demand) all given =
    any_ok (CountsNoneFrom h) (found_at h.tree path) _
    (λ id. unless_ok (CountsNoneFrom h) (demand_refusal h.tree id demand)
    (with_tree h (with_setting (set_demand demand) h.tree id)) given)
counts h (WriteFile path file text) all given =
    any_ok (CountsNoneFrom h) (write_of h.tree path file text) _ (λ t. given)
counts h (SetShares id shares) all given =
    any_ok (CountsNoneFrom h) (set_shares_of h.tree id shares) _ (λ t. given)
counts h (SetCfs id quota period) all given =
    any_ok (CountsNoneFrom h) (set_cfs_of h.tree id quota period) _ (λ t. given)
counts h (Build path shares quota period) all given =
    any_ok (CountsNoneFrom h) (built h.tree path shares quota period) _ (λ made. given)
counts h (Book rows base wants drawn) all given = λ id from.
    booked_others (shares_of h.shape.slice_us rows (keys_of h.tree.groups) base wants drawn)
    h.books h.tree.next id
    (shares_below h.shape.slice_us rows (keys_of h.tree.groups) base wants drawn h.tree.next
    (keys_below h.tree.groups h.tree.next all))
    from (given id from)

grows_by : (h : HierarchyState) (c : Call) → AllBefore h.tree.next h.tree.groups
    → IfOk (called h c) (λ after. Grows h.tree after.tree)
grows_by h c all = called_keeps (Grows h.tree) (grows_kept h.tree) h c (grows_not h.tree all)

-- what stands after each call
record Stands (h : HierarchyState) : Type 0 where
  pub all : AllBefore h.tree.next h.tree.groups
  pub given : CountsNoneFrom h h

left_stands : (h : HierarchyState) (r : Result HierarchyState Fault) → Stands h
    → IfOk r (λ after. Grows h.tree after.tree) → IfOk r (CountsNoneFrom h)
    → Stands (left_after h r)
left_stands h (Err fault) was grown none = was
left_stands h (Ok after) was grown none = record {
  all = grown.below;
  given = λ id from. none id (let le = grown.next in omega (arith, le, from));
}

all_stand : (calls : List Call) (h : HierarchyState) → Stands h → Stands (after_calls h calls)
all_stand [] h was = was
all_stand (c ∷ calls) h was = all_stand calls (left_after h (called h c))
    (left_stands h (called h c) was (grows_by h c was.all) (counts h c was.all was.given))

-- what comes by one call has no counters
comes : (h : HierarchyState) (r : Result HierarchyState Fault) (id : ℕ)
    → IfOk r (λ after. Grows h.tree after.tree) → IfOk r (CountsNoneFrom h)
    → has_id h id ≡ false → has_id (left_after h r) id ≡ true
    → stat_at (left_after h r).books id ≡ None
comes h (Err fault) id grown none absent there = absurd (true≢false (sym there ∙ absent))
comes h (Ok after) id grown none absent there = by (grown.ids id there)
  where
    by : (has_group h.tree.groups id ≡ true)
        ⊎ ((h.tree.next ≤ id) × (id < after.tree.next)) → stat_at after.books id ≡ None
    by (inl same) = absurd (true≢false (sym same ∙ absent))
    by (inr new) = none id new.0

pub new_groups : NewGroupsCountNothing
new_groups shape calls call id absent there =
    let h = ran shape calls in
    let stands = all_stand calls (new_hierarchy shape)
    (record { all = new_below shape; given = λ q from. refl }) in
    comes h (called h call) id (grows_by h call stands.all)
    (counts h call stands.all stands.given) absent there
