-- Each command of a script leaves a tree.
use Rattle.std.proofs.Common.{◌≡◌, ◌≤◌, ℕ, Bool, true, false, cond, not, ◌&&◌, ◌||◌, ltb, eqb}
use Rattle.std.proofs.Common.{List, [], ◌∷◌, Option, None, Some, refl, sym, ◌∙◌, arith}
use Rattle.std.specs.Prelude.{Result, Ok, Err, IfOk, IfSome}
use Rattle.std.specs.Path.{rsplit_once}
use Rattle.std.proofs.lemmas.Bool.{ltb-false, or_parts}
use Rattle.bw_text.specs.Words.{words}
use Rattle.bw_model.specs.declared.limits.TheConstants.{MIN_WEIGHT, MAX_WEIGHT, MAX_BURST_US}
use Rattle.bw_model.specs.declared.limits.TheConstants.{MIN_PERIOD_US, MAX_PERIOD_US}
use Rattle.bw_model.specs.Quota.{IsValid}
use Rattle.bw_model.specs.declared.quota.Quota.{Quota}
use Rattle.bw_tree.specs.Groups.{TreeState, IsTree, group_at, has_group}
use Rattle.bw_tree.specs.Tree.{mkdir_refusal, rmdir_refusal, demand_refusal, setting_refusal}
use Rattle.bw_tree.specs.Tree.{with_group, with_setting, set_demand, set_weight}
use Rattle.bw_tree.specs.Tree.{set_max, set_burst, root_alone}
use Rattle.bw_tree.specs.declared.fault.TreeFault.{TreeFault}
use Rattle.bw_tree.specs.declared.fault.TreeFault.TheVariants.{NotFound}
use Rattle.bw_tree.specs.declared.limits.TheConstants.{FIRST_ID}
use Rattle.bw_tree.proofs.CallerLemmas.{can_make, made_IsTree, can_remove, removed_IsTree}
use Rattle.bw_tree.proofs.CallerLemmas.{can_demand, demand_IsTree, weight_IsTree, max_IsTree}
use Rattle.bw_tree.proofs.CallerLemmas.{burst_IsTree, root_IsTree}
use Rattle.bw_files.specs.Reading.{◌>>=◌, number_at, weight_in, burst_in, weight_of, burst_of, max_of}
use Rattle.bw_files.specs.declared.fault.FileFault.{FileFault}
use Rattle.bw_files.specs.declared.fault.FileFault.TheVariants.{WeightOutOfRange, QuotaTooLarge}
use Rattle.bw_files.specs.declared.reading.MaxWrite.{MaxWrite}
use Rattle.bw_files.proofs.CallerLemmas.{max_valid}
use Rattle.bw_hierarchy.specs.Calls.{unless, and_then, found_at, from_file, mkdir_of, mkdir_split}
use Rattle.bw_hierarchy.specs.Calls.{fitting, is_above, quota_at, burst_at, max_set}
use Rattle.bw_hierarchy.specs.Files.{file_of, file_write, write_at, write_of}
use Rattle.bw_hierarchy.specs.GroupFiles.{file_named, is_of_root}
use Rattle.bw_hierarchy.specs.State.{HierarchyState, with_tree, delete_of, rmdir_of, demand_set_of}
use Rattle.bw_hierarchy.specs.declared.fault.Fault.{Fault}
use Rattle.bw_hierarchy.specs.declared.fault.Fault.TheVariants.{Tree, NoSuchFile, BurstAboveQuota}
use Rattle.bw_hierarchy.specs.declared.group_file.GroupFile.{GroupFile}
use Rattle.bw_hierarchy.specs.declared.group_file.GroupFile.TheVariants as file
use Rattle.bw_hierarchy.proofs.CallerLemmas.{any_ok}

-- a value that the tree does not refuse
unrefused : {A : Type 0} (Q : A → Type 0) (r : Option TreeFault) (x : A) → (r ≡ None → Q x)
    → IfOk (unless r x) Q
unrefused Q None x q = q refl
unrefused Q (Some fault) x q = tt

-- a value of a burst that fits
fits : {A : Type 0} (Q : A → Type 0) (burst : ℕ) (quota : Quota) (x : A) → Q x
    → IfOk (fitting burst quota x) Q
fits Q burst quota x q = by (is_above burst quota)
  where
    by : (b : Bool) → IfOk (cond b (Err BurstAboveQuota) (Ok x)) Q
    by true = tt
    by false = q

-- ---- new groups, removals and demands

abbrev Made : ℕ × TreeState → Type 0
Made made = IsTree made.1

pub mkdir_IsTree : (t : TreeState) (path : List ℕ) → IsTree t → IfOk (mkdir_of t path) Made
mkdir_IsTree t path ok = by (rsplit_once 47 path)
  where
    below : (parent : ℕ) (name : List ℕ)
        → IfOk (unless {A = ℕ × TreeState} (mkdir_refusal t parent name)
        (t.next, with_group t parent name)) Made
    below parent name =
        unrefused Made (mkdir_refusal t parent name) (t.next, with_group t parent name)
        (λ none. made_IsTree t parent name ok (can_make t parent name none))

    by : (o : Option (List ℕ × List ℕ)) → IfOk (mkdir_split t o path) Made
    by None = below 0 path
    by (Some parts) = any_ok Made (found_at t parts.0)
        (λ parent. unless {A = ℕ × TreeState} (mkdir_refusal t parent parts.1)
        (t.next, with_group t parent parts.1))
        (λ parent. below parent parts.1)

abbrev pub HasTree : HierarchyState → Type 0
HasTree h = IsTree h.tree

pub rmdir_IsTree : (h : HierarchyState) (path : List ℕ) → IsTree h.tree
    → IfOk (rmdir_of h path) HasTree
rmdir_IsTree h path ok = any_ok HasTree (found_at h.tree path) (delete_of h)
    (λ id. unrefused HasTree (rmdir_refusal h.tree id) _
    (λ none. let can = can_remove h.tree id none in
    removed_IsTree h.tree id ok can.inner can.lone))

pub demand_set_IsTree : (h : HierarchyState) (path : List ℕ) (demand : ℕ) → IsTree h.tree
    → IfOk (demand_set_of h path demand) HasTree
demand_set_IsTree h path demand ok = any_ok HasTree (found_at h.tree path) _
    (λ id. unrefused HasTree (demand_refusal h.tree id demand)
    (with_tree h (with_setting (set_demand demand) h.tree id))
    (λ none. demand_IsTree h.tree id ok demand (can_demand h.tree id demand none)))

-- ---- values in range

file_ok : {A : Type 0} (R : A → Type 0) (Q : TreeState → Type 0) (r : Result A FileFault)
    (f : A → Result TreeState Fault) → IfOk r R → ((x : A) → R x → IfOk (f x) Q)
    → IfOk (and_then (from_file r) f) Q
file_ok R Q (Ok x) f range next = next x range
file_ok R Q (Err fault) f range next = tt

abbrev IsWeight : ℕ → Type 0
IsWeight n = (MIN_WEIGHT ≤ n) × (n ≤ MAX_WEIGHT)

weight_range : (ws : List (List ℕ)) → IfOk (weight_of ws) IsWeight
weight_range [] = tt
weight_range (first ∷ []) = on (number_at first)
  where
    in_range : (n : ℕ) (b : Bool) → (ltb n MIN_WEIGHT || ltb MAX_WEIGHT n) ≡ b
        → IfOk (cond b (Err WeightOutOfRange) (Ok n)) IsWeight
    in_range n true is = tt
    in_range n false is = let both = or_parts (ltb n MIN_WEIGHT) (ltb MAX_WEIGHT n) is in
        (ltb-false n MIN_WEIGHT both.0, ltb-false MAX_WEIGHT n both.1)

    on : (r : Result ℕ FileFault) → IfOk (r >>= weight_in) IsWeight
    on (Ok n) = in_range n (ltb n MIN_WEIGHT || ltb MAX_WEIGHT n) refl
    on (Err fault) = tt
weight_range (first ∷ second ∷ others) = tt

abbrev IsBurst : ℕ → Type 0
IsBurst n = n ≤ MAX_BURST_US

burst_range : (ws : List (List ℕ)) → IfOk (burst_of ws) IsBurst
burst_range [] = tt
burst_range (first ∷ []) = on (number_at first)
  where
    in_range : (n : ℕ) (b : Bool) → ltb MAX_BURST_US n ≡ b
        → IfOk (cond b (Err QuotaTooLarge) (Ok n)) IsBurst
    in_range n true is = tt
    in_range n false is = ltb-false MAX_BURST_US n is

    on : (r : Result ℕ FileFault) → IfOk (r >>= burst_in) IsBurst
    on (Ok n) = in_range n (ltb MAX_BURST_US n) refl
    on (Err fault) = tt
burst_range (first ∷ second ∷ others) = tt

-- ---- writes

abbrev IsMax : MaxWrite → Type 0
IsMax m = IsValid m.quota × IfSome m.period (λ n. (MIN_PERIOD_US ≤ n) × (n ≤ MAX_PERIOD_US))

file_IsTree : (t : TreeState) (id : ℕ) (text : List ℕ) (f : GroupFile) → IsTree t
    → (is_of_root f ≡ false → setting_refusal t id ≡ None) → IfOk (file_write t id text f) IsTree
file_IsTree t id text file.Weight ok free =
    file_ok IsWeight IsTree (weight_of (words text)) (λ w. Ok (with_setting (set_weight w) t id))
    (weight_range (words text))
    (λ w range. weight_IsTree t id w ok (free refl) range)
file_IsTree t id text file.Max ok free =
    file_ok IsMax IsTree (max_of (words text)) (λ (m : MaxWrite). max_set t id m.quota m.period)
    (max_valid text (max_of (words text)) refl)
    (λ m range. fits IsTree (burst_at (group_at t.groups id)) m.quota
    (with_setting (set_max m.quota m.period) t id)
    (max_IsTree t id m.quota m.period ok (free refl) range.0 range.1))
file_IsTree t id text file.MaxBurst ok free =
    file_ok IsBurst IsTree (burst_of (words text))
    (λ n. fitting n (quota_at (group_at t.groups id)) (with_setting (set_burst n) t id))
    (burst_range (words text))
    (λ n range. fits IsTree n (quota_at (group_at t.groups id)) (with_setting (set_burst n) t id)
    (burst_IsTree t id n ok (free refl) range))
file_IsTree t id text file.Stat ok free = tt

write_at_IsTree : (t : TreeState) (id : ℕ) (name text : List ℕ) → IsTree t
    → IfOk (write_at t id name text) IsTree
write_at_IsTree t id name text ok = by (has_group t.groups id) refl (file_named name)
  where
    named : has_group t.groups id ≡ true → (f : GroupFile) (root top : Bool)
        → is_of_root f ≡ root → eqb id 0 ≡ top
        → IfOk (and_then (cond (not root && top) (Err NoSuchFile) (Ok f)) (file_write t id text))
        IsTree
    named there f true top is at = file_IsTree t id text f ok
        (λ other. let clash : true ≡ false = sym is ∙ other in absurd (cc))
    named there f false true is at = tt
    named there f false false is at = file_IsTree t id text f ok (λ other. rw (there, at) refl)

    by : (b : Bool) → has_group t.groups id ≡ b → (o : Option GroupFile)
        → IfOk (cond (not b) (Err (Tree NotFound)) (and_then (file_of id o) (file_write t id text)))
        IsTree
    by false there o = tt
    by true there None = tt
    by true there (Some f) = named there f (is_of_root f) (eqb id 0) refl refl

pub write_IsTree : (t : TreeState) (path file text : List ℕ) → IsTree t
    → IfOk (write_of t path file text) IsTree
write_IsTree t path name text ok =
    any_ok IsTree (found_at t path) _ (λ id. write_at_IsTree t id name text ok)

-- ---- the root alone

pub alone_IsTree : IsTree (root_alone FIRST_ID)
alone_IsTree = root_IsTree FIRST_ID (omega arith)
