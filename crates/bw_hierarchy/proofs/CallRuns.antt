-- What every call keeps that each change of a tree keeps.
use Rattle.std.proofs.Common.{◌≡◌, ℕ, Bool, true, false, cond, not, List, [], ◌∷◌, Option, Some}
use Rattle.std.proofs.Common.{None, refl}
use Rattle.std.specs.Prelude.{Result, Ok, Err, IfOk, ℤ}
use Rattle.std.specs.Path.{rsplit_once}
use Rattle.bw_text.specs.Words.{words}
use Rattle.bw_model.specs.declared.row.Row.{Row}
use Rattle.bw_model.specs.declared.quota.Quota.{Quota}
use Rattle.bw_tree.specs.Groups.{GroupFields, TreeState, group_at, has_group, find_path}
use Rattle.bw_tree.specs.Snapshot.{carried_over}
use Rattle.bw_tree.specs.Tree.{mkdir_refusal, rmdir_refusal, demand_refusal, with_group}
use Rattle.bw_tree.specs.Tree.{with_setting, set_weight, set_max, set_burst, set_demand}
use Rattle.bw_tree.specs.Tree.{without_group}
use Rattle.bw_tree.specs.declared.fault.TreeFault.{TreeFault}
use Rattle.bw_tree.specs.declared.fault.TreeFault.TheVariants.{NotFound}
use Rattle.bw_files.specs.Reading.{weight_in, weight_of, max_of, burst_of}
use Rattle.bw_files.specs.declared.reading.MaxWrite.{MaxWrite}
use Rattle.bw_stat.specs.Books.{forgotten}
use Rattle.bw_hierarchy.specs.declared.fault.Fault.{Fault}
use Rattle.bw_hierarchy.specs.declared.fault.Fault.TheVariants.{Tree, BurstAboveQuota}
use Rattle.bw_hierarchy.specs.declared.group_file.GroupFile.{GroupFile}
use Rattle.bw_hierarchy.specs.declared.group_file.GroupFile.TheVariants.{Weight, Max, MaxBurst}
use Rattle.bw_hierarchy.specs.declared.group_file.GroupFile.TheVariants.{Stat}
use Rattle.bw_hierarchy.specs.Builder.{prefixes, found_or_made, ensured, shares_step, cfs_step}
use Rattle.bw_hierarchy.specs.Builder.{built}
use Rattle.bw_hierarchy.specs.CallLists.{Call, called}
use Rattle.bw_hierarchy.specs.CallLists.Call.{Mkdir, Rmdir, Delete, SetDemand, WriteFile}
use Rattle.bw_hierarchy.specs.CallLists.Call.{SetShares, SetCfs, Build, Book}
use Rattle.bw_hierarchy.specs.Calls.{unless, and_then, found_at, from_file, mkdir_of, mkdir_split}
use Rattle.bw_hierarchy.specs.Calls.{setting, set_shares_of, set_cfs_of, quota_given}
use Rattle.bw_hierarchy.specs.Calls.{checked_period, is_above, fitting, quota_at, burst_at, max_set}
use Rattle.bw_hierarchy.specs.Files.{file_of, file_write, write_at, write_of}
use Rattle.bw_hierarchy.specs.GroupFiles.{file_named}
use Rattle.bw_hierarchy.specs.State.{HierarchyState, with_tree, with_books, delete_of, rmdir_of}
use Rattle.bw_hierarchy.specs.State.{demand_set_of}

-- ---- what holds of an answer, where it is no refusal

pub unless_ok : {A : Type 0} (Q : A → Type 0) (o : Option TreeFault) (x : A) → Q x
    → IfOk (unless o x) Q
unless_ok Q None x q = q
unless_ok Q (Some fault) x q = tt

pub then_ok : {A B : Type 0} (R : A → Type 0) (Q : B → Type 0) (r : Result A Fault)
    (f : A → Result B Fault) → IfOk r R → ((x : A) → R x → IfOk (f x) Q) → IfOk (and_then r f) Q
then_ok R Q (Ok x) f first next = next x first
then_ok R Q (Err fault) f first next = tt

-- where nothing is known of the first answer
pub any_ok : {A B : Type 0} (Q : B → Type 0) (r : Result A Fault) (f : A → Result B Fault)
    → ((x : A) → IfOk (f x) Q) → IfOk (and_then r f) Q
any_ok Q (Ok x) f next = next x
any_ok Q (Err fault) f next = tt

fitting_ok : {A : Type 0} (Q : A → Type 0) (burst : ℕ) (quota : Quota) (x : A)
    → (is_above burst quota ≡ false → Q x) → IfOk (fitting burst quota x) Q
fitting_ok Q burst quota x h = by (is_above burst quota) refl
  where
    by : (b : Bool) → is_above burst quota ≡ b
        → IfOk (cond b (Err BurstAboveQuota) (Ok x)) Q
    by true e = tt
    by false e = h e

-- what a new group, each setting, a removal and a period keep
pub record IsKept (P : TreeState → Type 0) : Type 0 where
  pub made : (t : TreeState) (parent : ℕ) (name : List ℕ) → P t → P (with_group t parent name)
  pub weighed : (w : ℕ) (t : TreeState) (id : ℕ) → P t → P (with_setting (set_weight w) t id)
  pub demanded : (demand : ℕ) (t : TreeState) (id : ℕ) → P t
      → P (with_setting (set_demand demand) t id)
  -- a limit that the group's burst fits, and a burst that fits its limit
  pub limited : (quota : Quota) (period : Option ℕ) (t : TreeState) (id : ℕ)
      → is_above (burst_at (group_at t.groups id)) quota ≡ false → P t
      → P (with_setting (set_max quota period) t id)
  pub burst : (n : ℕ) (t : TreeState) (id : ℕ)
      → is_above n (quota_at (group_at t.groups id)) ≡ false → P t
      → P (with_setting (set_burst n) t id)
  pub removed : (t : TreeState) (id : ℕ) → P t → P (without_group t id)
  pub carried : (t : TreeState) (rows : List Row) (drawn : List ℕ) → P t
      → P (carried_over t rows drawn)

-- A fact that any setting keeps is kept by each of them.
pub kept_by_any_setting : (P : TreeState → Type 0)
    → ((t : TreeState) (parent : ℕ) (name : List ℕ) → P t → P (with_group t parent name))
    → ((f : GroupFields → GroupFields) (t : TreeState) (id : ℕ) → P t → P (with_setting f t id))
    → ((t : TreeState) (id : ℕ) → P t → P (without_group t id))
    → ((t : TreeState) (rows : List Row) (drawn : List ℕ) → P t → P (carried_over t rows drawn))
    → IsKept P
kept_by_any_setting P made set removed carried = record {
  made = made;
  weighed = λ w. set (set_weight w);
  demanded = λ demand. set (set_demand demand);
  limited = λ quota period t id fits. set (set_max quota period) t id;
  burst = λ n t id fits. set (set_burst n) t id;
  removed = removed;
  carried = carried;
}

module _ (P : TreeState → Type 0) (kept : IsKept P) where
  abbrev Made : ℕ × TreeState → Type 0
  Made made = P made.1

  new_group : (t : TreeState) (parent : ℕ) (name : List ℕ) → P t
      → IfOk (unless {A = ℕ × TreeState} (mkdir_refusal t parent name)
      (t.next, with_group t parent name)) Made
  new_group t parent name p =
      unless_ok Made (mkdir_refusal t parent name) (t.next, with_group t parent name)
      (kept.made t parent name p)

  pub mkdir_keeps : (t : TreeState) (path : List ℕ) → P t → IfOk (mkdir_of t path) Made
  mkdir_keeps t path p = by (rsplit_once 47 path)
    where
      by : (o : Option (List ℕ × List ℕ)) → IfOk (mkdir_split t o path) Made
      by None = new_group t 0 path p
      by (Some parts) = any_ok Made (found_at t parts.0)
          (λ parent. unless {A = ℕ × TreeState} (mkdir_refusal t parent parts.1)
          (t.next, with_group t parent parts.1))
          (λ parent. new_group t parent parts.1 p)

  shares_keeps : (t : TreeState) (id n : ℕ) → P t → IfOk (set_shares_of t id n) P
  shares_keeps t id n p = any_ok P (setting t id) _
      (λ g. any_ok P (from_file (weight_in n)) _ (λ w. kept.weighed w t id p))

  max_keeps : (t : TreeState) (id : ℕ) (quota : Quota) (period : Option ℕ) → P t
      → IfOk (max_set t id quota period) P
  max_keeps t id quota period p =
      fitting_ok P (burst_at (group_at t.groups id)) quota
      (with_setting (set_max quota period) t id) (λ fits. kept.limited quota period t id fits p)

  cfs_keeps : (t : TreeState) (id : ℕ) (quota : Option ℤ) (period : Option ℕ) → P t
      → IfOk (set_cfs_of t id quota period) P
  cfs_keeps t id quota period p = any_ok P (setting t id) _
      (λ g. any_ok P (from_file (quota_given quota g.quota)) _
      (λ q. any_ok P (from_file (checked_period period)) _ (λ us. max_keeps t id q us p)))

  file_keeps : (t : TreeState) (id : ℕ) (text : List ℕ) (file : GroupFile) → P t
      → IfOk (file_write t id text file) P
  file_keeps t id text Weight p = any_ok P (from_file (weight_of (words text))) _
      (λ w. kept.weighed w t id p)
  file_keeps t id text Max p = any_ok P (from_file (max_of (words text))) _
      (λ (m : MaxWrite). max_keeps t id m.quota m.period p)
  file_keeps t id text MaxBurst p = any_ok P (from_file (burst_of (words text))) _
      (λ n. fitting_ok P n (quota_at (group_at t.groups id))
      (with_setting (set_burst n) t id) (λ fits. kept.burst n t id fits p))
  file_keeps t id text Stat p = tt

  at_keeps : (t : TreeState) (id : ℕ) (name text : List ℕ) → P t
      → IfOk (write_at t id name text) P
  at_keeps t id name text p = by (has_group t.groups id)
    where
      by : (b : Bool) → IfOk (cond (not b) (Err (Tree NotFound))
          (and_then (file_of id (file_named name)) (file_write t id text))) P
      by false = tt
      by true = any_ok P (file_of id (file_named name)) _ (λ file. file_keeps t id text file p)

  pub write_keeps : (t : TreeState) (path file text : List ℕ) → P t
      → IfOk (write_of t path file text) P
  write_keeps t path file text p = any_ok P (found_at t path) _ (λ id. at_keeps t id file text p)

  ensured_keeps : (paths : List (List ℕ)) (t : TreeState) (id : ℕ) → P t
      → IfOk (ensured t id paths) Made
  ensured_keeps [] t id p = p
  ensured_keeps (path ∷ paths) t id p =
      then_ok Made Made (found_or_made t path (find_path t.groups path))
      (λ r. ensured r.1 r.0 paths) (by (find_path t.groups path))
      (λ r still. ensured_keeps paths r.1 r.0 still)
    where
      by : (o : Option ℕ) → IfOk (found_or_made t path o) Made
      by (Some there) = p
      by None = mkdir_keeps t path p

  step_shares : (t : TreeState) (id : ℕ) (shares : Option ℕ) → P t
      → IfOk (shares_step t id shares) P
  step_shares t id None p = p
  step_shares t id (Some n) p = shares_keeps t id n p

  step_cfs : (t : TreeState) (id : ℕ) (quota : Option ℤ) (period : Option ℕ) → P t
      → IfOk (cfs_step t id quota period) P
  step_cfs t id None None p = p
  step_cfs t id (Some quota) period p = cfs_keeps t id (Some quota) period p
  step_cfs t id None (Some period) p = cfs_keeps t id None (Some period) p

  built_keeps : (t : TreeState) (path : List ℕ) (shares : Option ℕ) (quota : Option ℤ)
      (period : Option ℕ) → P t → IfOk (built t path shares quota period) Made
  built_keeps t path shares quota period p =
      then_ok Made Made (ensured t 0 (prefixes path)) _ (ensured_keeps (prefixes path) t 0 p)
      (λ r still. then_ok P Made (shares_step r.1 r.0 shares) _ (step_shares r.1 r.0 shares still)
      (λ u shared. then_ok P Made (cfs_step u r.0 quota period) _
      (step_cfs u r.0 quota period shared) (λ v last. last)))

  abbrev Holds : HierarchyState → Type 0
  Holds h = P h.tree

  deleted_keeps : (h : HierarchyState) (id : ℕ) → P h.tree → IfOk (delete_of h id) Holds
  deleted_keeps h id p = unless_ok Holds (rmdir_refusal h.tree id)
      (with_books (with_tree h (without_group h.tree id)) (forgotten h.books id))
      (kept.removed h.tree id p)

  pub rmdir_keeps : (h : HierarchyState) (path : List ℕ) → P h.tree
      → IfOk (rmdir_of h path) (λ after. P after.tree)
  rmdir_keeps h path p = any_ok Holds (found_at h.tree path) (delete_of h)
      (λ id. deleted_keeps h id p)

  pub demand_keeps : (h : HierarchyState) (path : List ℕ) (demand : ℕ) → P h.tree
      → IfOk (demand_set_of h path demand) (λ after. P after.tree)
  demand_keeps h path demand p = any_ok Holds (found_at h.tree path) _
      (λ id. unless_ok Holds (demand_refusal h.tree id demand)
      (with_tree h (with_setting (set_demand demand) h.tree id))
      (kept.demanded demand h.tree id p))

  -- any call
  pub called_keeps : (h : HierarchyState) (c : Call) → P h.tree
      → IfOk (called h c) (λ after. P after.tree)
  called_keeps h (Mkdir path) p =
      then_ok Made Holds (mkdir_of h.tree path) _ (mkdir_keeps h.tree path p) (λ made still. still)
  called_keeps h (Rmdir path) p = rmdir_keeps h path p
  called_keeps h (Delete id) p = deleted_keeps h id p
  called_keeps h (SetDemand path demand) p = demand_keeps h path demand p
  called_keeps h (WriteFile path file text) p =
      then_ok P Holds (write_of h.tree path file text) _ (write_keeps h.tree path file text p)
      (λ t still. still)
  called_keeps h (SetShares id shares) p =
      then_ok P Holds (set_shares_of h.tree id shares) _ (shares_keeps h.tree id shares p)
      (λ t still. still)
  called_keeps h (SetCfs id quota period) p =
      then_ok P Holds (set_cfs_of h.tree id quota period) _ (cfs_keeps h.tree id quota period p)
      (λ t still. still)
  called_keeps h (Build path shares quota period) p =
      then_ok Made Holds (built h.tree path shares quota period) _
      (built_keeps h.tree path shares quota period p) (λ made still. still)
  called_keeps h (Book rows base wants drawn) p = kept.carried h.tree rows drawn p
