-- What a write leaves of the texts of all files.
use Rattle.std.proofs.Common.{◌≡◌, ◌≢◌, ◌⊎◌, inl, inr, ℕ, Bool, true, false, ◌&&◌, not, cond, eqb}
use Rattle.std.proofs.Common.{List, [], ◌∷◌, Option, Some, None, is_some, Result, Ok, Err}
use Rattle.std.proofs.Common.{refl, sym, ap, subst, ◌∙◌}
use Rattle.std.specs.List.{slice_split}
use Rattle.std.specs.Prelude.{codes, unwrap_or}
use Rattle.std.specs.Str.{bytes_eq}
use Rattle.std.specs.Map.{set_value}
use Rattle.std.proofs.lemmas.Bool.{ne_eqb}
use Rattle.std.proofs.lemmas.Bool.Decides.{eqb_tells}
use Rattle.bw_text.specs.Words.{words}
use Rattle.bw_model.specs.declared.stat.Stat.{Stat as Counters}
use Rattle.bw_model.specs.declared.quota.Quota.{Quota}
use Rattle.bw_tree.specs.Groups.{GroupFields, TreeState, group_at, has_group, child_of, onward}
use Rattle.bw_tree.specs.Groups.{walk, find_path}
use Rattle.bw_tree.specs.Tree.{changed, changed_at, with_setting, set_weight, set_max, set_burst}
use Rattle.bw_tree.proofs.CallerLemmas.{look_set_other, look_set_same, child_set}
use Rattle.bw_files.specs.declared.fault.FileFault.{FileFault}
use Rattle.bw_files.specs.declared.reading.MaxWrite.{MaxWrite}
use Rattle.bw_files.specs.Reading.{weight_of, burst_of, max_of}
use Rattle.bw_files.specs.Writing.{weight_text, burst_text, max_text}
use Rattle.bw_hierarchy.specs.declared.fault.Fault.{Fault}
use Rattle.bw_hierarchy.specs.declared.fault.Fault.TheVariants.{Tree, NoSuchFile, BurstAboveQuota}
use Rattle.bw_hierarchy.specs.declared.group_file.GroupFile.{GroupFile}
use Rattle.bw_hierarchy.specs.declared.group_file.GroupFile.TheVariants.{Weight, Max, MaxBurst}
use Rattle.bw_hierarchy.specs.declared.group_file.GroupFile.TheVariants.{Stat}
use Rattle.bw_tree.specs.declared.fault.TreeFault.TheVariants.{NotFound}
use Rattle.bw_hierarchy.specs.Calls.{from_file, and_then, found, quota_at, burst_at, is_above}
use Rattle.bw_hierarchy.specs.Calls.{fitting, max_set}
use Rattle.bw_hierarchy.specs.GroupFiles.{file_name, file_named, is_of_root}
use Rattle.bw_hierarchy.specs.Files.{file_of, shown, text_of, read_of, file_write, write_at}
use Rattle.bw_hierarchy.specs.Files.{write_of, unwritten}
use Rattle.bw_hierarchy.specs.State.{HierarchyState, with_tree}
use Rattle.bw_hierarchy.proofs.FileNames.{some_is, name_is, named_again}

-- a change that a file may make: it leaves the texts of the other files, and what no file sets
pub record IsSetting (file : GroupFile) (f : GroupFields → GroupFields) : Type 0 where
  pub others : (books : List (ℕ × Counters)) (id : ℕ) (g : GroupFields) (other : GroupFile)
      → other ≢ file
      → shown books id (f g) other ≡ shown books id g other
  pub rest : (g : GroupFields) → unwritten (f g) ≡ unwritten g

weight_IsSetting : (w : ℕ) → IsSetting Weight (set_weight w)
weight_IsSetting w = record { others = others; rest = λ g. refl }
  where
    others : (books : List (ℕ × Counters)) (id : ℕ) (g : GroupFields) (other : GroupFile)
        → other ≢ Weight
        → shown books id (set_weight w g) other ≡ shown books id g other
    others books id g Weight apart = absurd (apart refl)
    others books id g Max apart = refl
    others books id g MaxBurst apart = refl
    others books id g Stat apart = refl

max_IsSetting : (quota : Quota) (period : Option ℕ) → IsSetting Max (set_max quota period)
max_IsSetting quota period = record { others = others period; rest = rest period }
  where
    others : (p : Option ℕ) (books : List (ℕ × Counters)) (id : ℕ) (g : GroupFields)
        (other : GroupFile) → other ≢ Max
        → shown books id (set_max quota p g) other ≡ shown books id g other
    others p books id g Max apart = absurd (apart refl)
    others None books id g Weight apart = refl
    others None books id g MaxBurst apart = refl
    others None books id g Stat apart = refl
    others (Some n) books id g Weight apart = refl
    others (Some n) books id g MaxBurst apart = refl
    others (Some n) books id g Stat apart = refl

    rest : (p : Option ℕ) (g : GroupFields) → unwritten (set_max quota p g) ≡ unwritten g
    rest None g = refl
    rest (Some n) g = refl

burst_IsSetting : (n : ℕ) → IsSetting MaxBurst (set_burst n)
burst_IsSetting n = record { others = others; rest = λ g. refl }
  where
    others : (books : List (ℕ × Counters)) (id : ℕ) (g : GroupFields) (other : GroupFile)
        → other ≢ MaxBurst
        → shown books id (set_burst n g) other ≡ shown books id g other
    others books id g Weight apart = refl
    others books id g Max apart = refl
    others books id g MaxBurst apart = absurd (apart refl)
    others books id g Stat apart = refl

-- what a text makes of a group when it is written into a file
abbrev Sets : GroupFile → List ℕ → (GroupFields → GroupFields) → Type 0
Sets Weight text f = (w : ℕ) × (weight_of (words text) ≡ Ok w) × (f ≡ set_weight w)
Sets Max text f = (m : MaxWrite) × (max_of (words text) ≡ Ok m) × (f ≡ set_max m.quota m.period)
Sets MaxBurst text f = (n : ℕ) × (burst_of (words text) ≡ Ok n) × (f ≡ set_burst n)
Sets Stat text f = ⊥

pub sets_IsSetting : (file : GroupFile) (text : List ℕ) (f : GroupFields → GroupFields)
    → Sets file text f → IsSetting file f
sets_IsSetting Weight text f s = subst (λ k. IsSetting Weight k) (sym s.2) (weight_IsSetting s.0)
sets_IsSetting Max text f s =
    subst (λ k. IsSetting Max k) (sym s.2) (max_IsSetting s.0.quota s.0.period)
sets_IsSetting MaxBurst text f s = subst (λ k. IsSetting MaxBurst k) (sym s.2) (burst_IsSetting s.0)
sets_IsSetting Stat text f s = absurd s

-- the root has no file that sets a value
pub sets_no_root : (file : GroupFile) (text : List ℕ) (f : GroupFields → GroupFields)
    → Sets file text f → is_of_root file ≡ false
sets_no_root Weight text f s = refl
sets_no_root Max text f s = refl
sets_no_root MaxBurst text f s = refl
sets_no_root Stat text f s = absurd s

module _ (f : GroupFields → GroupFields) (rest : (g : GroupFields) → unwritten (f g) ≡ unwritten g)
    (gs : List (ℕ × GroupFields)) (id : ℕ)
    (g : GroupFields) (at : group_at gs id ≡ Some g) where
  abbrev after : List (ℕ × GroupFields)
  after = set_value (eqb id) gs (f g)

  changed-after : changed_at f gs id ≡ after
  changed-after = ap (changed f gs id) at

  onward-same : (names : List (List ℕ)) → ((k : ℕ) → walk after k names ≡ walk gs k names)
      → (o : Option ℕ)
      → onward (λ k. walk after k names) o ≡ onward (λ k. walk gs k names) o
  onward-same names same None = refl
  onward-same names same (Some k) = same k

  walk-same : (names : List (List ℕ)) (k : ℕ) → walk after k names ≡ walk gs k names
  walk-same [] k = refl
  walk-same (name ∷ names) k =
      ap (onward (λ j. walk after j names))
      (child_set id (f g) g (ap (λ u. u.parent) (rest g)) (ap (λ u. u.name) (rest g)) gs k name
      at)
      ∙ onward-same names (walk-same names) (child_of gs k name)

  -- each path leads where it led
  pub find_path-same : (path : List ℕ) → find_path (changed_at f gs id) path ≡ find_path gs path
  find_path-same path =
      ap (λ (es : List (ℕ × GroupFields)). find_path es path) changed-after
      ∙ ap (λ o. cond (bytes_eq path (codes ".")) (Some 0) o)
      (walk-same (slice_split (λ b. eqb b 47) path) 0)

  pub group-set : group_at (changed_at f gs id) id ≡ Some (f g)
  group-set = ap (λ (es : List (ℕ × GroupFields)). group_at es id) changed-after
      ∙ look_set_same id (f g) gs g at

  pub group-other : (q : ℕ) → eqb q id ≡ false → group_at (changed_at f gs id) q ≡ group_at gs q
  group-other q apart = ap (λ (es : List (ℕ × GroupFields)). group_at es q) changed-after
      ∙ look_set_other id (f g) gs q apart

-- ---- what a write that is not refused did

found_parts : (o : Option ℕ) (f : ℕ → Result TreeState Fault) (u : TreeState)
    → and_then (found o) f ≡ Ok u → (id : ℕ) × (o ≡ Some id) × (f id ≡ Ok u)
found_parts None f u e = absurd cc
found_parts (Some id) f u e = (id, refl, e)

guard_parts : {A : Type 0} (b : Bool) (fault : Fault) (r : Result A Fault) (x : A)
    → cond b (Err fault) r ≡ Ok x → (b ≡ false) × (r ≡ Ok x)
guard_parts true fault r x e = absurd cc
guard_parts false fault r x e = (refl, e)

file_parts : {A B : Type 0} (r : Result A FileFault) (f : A → Result B Fault) (y : B)
    → and_then (from_file r) f ≡ Ok y → (x : A) × (r ≡ Ok x) × (f x ≡ Ok y)
file_parts (Ok x) f y e = (x, refl, e)
file_parts (Err fault) f y e = absurd cc

abbrev done : TreeState → Result TreeState Fault
done t = Ok t

done_is : (t u : TreeState) → done t ≡ done u → t ≡ u
done_is t u e = cc

there_parts : (o : Option GroupFields) → not (is_some o) ≡ false → (g : GroupFields) × (o ≡ Some g)
there_parts None e = absurd cc
there_parts (Some g) e = (g, refl)

file_guard : (b : Bool) (file : GroupFile) (k : GroupFile → Result TreeState Fault) (u : TreeState)
    → and_then (cond b (Err NoSuchFile) (Ok file)) k ≡ Ok u
    → (b ≡ false) × (k file ≡ Ok u)
file_guard true file k u e = absurd cc
file_guard false file k u e = (refl, e)

-- a file that a group has
pub record IsFileOf (id : ℕ) (o : Option GroupFile) (k : GroupFile → Result TreeState Fault)
    (u : TreeState) : Type 0 where
  pub file : GroupFile
  pub named : o ≡ Some file
  pub inner : (not (is_of_root file) && eqb id 0) ≡ false
  pub rest : k file ≡ Ok u

named_parts : (id : ℕ) (o : Option GroupFile) (k : GroupFile → Result TreeState Fault)
    (u : TreeState) → and_then (file_of id o) k ≡ Ok u → IsFileOf id o k u
named_parts id None k u e = absurd cc
named_parts id (Some file) k u e =
    let p = file_guard (not (is_of_root file) && eqb id 0) file k u e in
    record { file = file; named = refl; inner = p.0; rest = p.1 }

-- what a text that was not refused set
pub record IsSet (t u : TreeState) (id : ℕ) (text : List ℕ) (file : GroupFile) : Type 0 where
  pub f : GroupFields → GroupFields
  pub sets : Sets file text f
  pub is : with_setting f t id ≡ u

set_parts : (t u : TreeState) (id : ℕ) (text : List ℕ) (file : GroupFile)
    → file_write t id text file ≡ Ok u → IsSet t u id text file
set_parts t u id text Weight e =
    let p = file_parts (weight_of (words text)) (λ w. Ok (with_setting (set_weight w) t id)) u e in
    record {
      f = set_weight p.0;
      sets = (p.0, p.1, refl);
      is = done_is (with_setting (set_weight p.0) t id) u p.2;
    }
set_parts t u id text Max e =
    let p = file_parts (max_of (words text)) (λ (m : MaxWrite). max_set t id m.quota m.period) u
    e in
    let q = guard_parts (is_above (burst_at (group_at t.groups id)) p.0.quota) BurstAboveQuota
    (Ok (with_setting (set_max p.0.quota p.0.period) t id)) u p.2 in
    record {
      f = set_max p.0.quota p.0.period;
      sets = (p.0, p.1, refl);
      is = done_is (with_setting (set_max p.0.quota p.0.period) t id) u q.1;
    }
set_parts t u id text MaxBurst e =
    let p = file_parts (burst_of (words text))
    (λ n. fitting n (quota_at (group_at t.groups id)) (with_setting (set_burst n) t id)) u e in
    let q = guard_parts (is_above p.0 (quota_at (group_at t.groups id))) BurstAboveQuota
    (Ok (with_setting (set_burst p.0) t id)) u p.2 in
    record {
      f = set_burst p.0;
      sets = (p.0, p.1, refl);
      is = done_is (with_setting (set_burst p.0) t id) u q.1;
    }
set_parts t u id text Stat e = absurd cc

-- a write of a file into the group at a path
pub record IsWrite (t u : TreeState) (path text : List ℕ) (file : GroupFile) : Type 0 where
  pub id : ℕ
  pub g : GroupFields
  pub leads : find_path t.groups path ≡ Some id
  pub there : group_at t.groups id ≡ Some g
  pub inner : (not (is_of_root file) && eqb id 0) ≡ false
  pub set : IsSet t u id text file

-- which file was written
pub record IsNamedWrite (t u : TreeState) (path name text : List ℕ) : Type 0 where
  pub file : GroupFile
  pub named : file_named name ≡ Some file
  pub write : IsWrite t u path text file

pub write_parts : (t u : TreeState) (path name text : List ℕ) → write_of t path name text ≡ Ok u
    → IsNamedWrite t u path name text
write_parts t u path name text e =
    let a = found_parts (find_path t.groups path) (λ id. write_at t id name text) u e in
    let b = guard_parts (not (has_group t.groups a.0)) (Tree NotFound) _ u a.2 in
    let there = there_parts (group_at t.groups a.0) b.0 in
    let k = named_parts a.0 (file_named name) (file_write t a.0 text) u b.1 in
    let set = set_parts t u a.0 text k.file k.rest in
    record {
      file = k.file;
      named = k.named;
      write = record {
        id = a.0;
        g = there.0;
        leads = a.1;
        there = there.1;
        inner = k.inner;
        set = set;
      };
    }

-- a write of a file that is named
write_at_file : (t u : TreeState) (path text : List ℕ) (file : GroupFile)
    → write_of t path (file_name file) text ≡ Ok u → IsWrite t u path text file
write_at_file t u path text file e =
    let p = write_parts t u path (file_name file) text e in
    subst (λ k. IsWrite t u path text k) (some_is p.file file (sym p.named ∙ named_again file))
    p.write

-- ---- what is read after it

module _ (h : HierarchyState) (u : TreeState) (path text : List ℕ) (file : GroupFile)
    (write : IsWrite h.tree u path text file) where
  abbrev gs : List (ℕ × GroupFields)
  gs = h.tree.groups

  abbrev id : ℕ
  id = write.id

  abbrev f : GroupFields → GroupFields
  f = write.set.f

  setting : IsSetting file write.set.f
  setting = sets_IsSetting file text write.set.f write.set.sets

  -- the text of a file where a path leads
  abbrev text_at : List (ℕ × GroupFields) → List ℕ → Option ℕ → Result (List ℕ) Fault
  text_at es name o = and_then (found o) (λ k. text_of h.books k name (group_at es k))

  -- what is read at a path
  read-at : (path' name : List ℕ)
      → read_of (with_tree h u) path' name ≡ text_at (changed_at f gs id) name (find_path gs path')
  read-at path' name =
      subst (λ (v : TreeState). read_of (with_tree h v) path' name
      ≡ text_at (changed_at f gs id) name (find_path gs path')) write.set.is
      (ap (text_at (changed_at f gs id) name)
      (find_path-same f setting.rest gs id write.g write.there path'))

  read-here : (name : List ℕ) → read_of (with_tree h u) path name
      ≡ text_of h.books id name (Some (f write.g))
  read-here name =
      read-at path name
      ∙ ap (text_at (changed_at f gs id) name) write.leads
      ∙ ap (text_of h.books id name) (group-set f setting.rest gs id write.g write.there)

  read-before : (name : List ℕ) → read_of h path name ≡ text_of h.books id name (Some write.g)
  read-before name = ap (text_at gs name) write.leads ∙ ap (text_of h.books id name) write.there

  read-elsewhere : (path' name : List ℕ) → find_path gs path' ≢ find_path gs path
      → read_of (with_tree h u) path' name ≡ read_of h path' name
  read-elsewhere path' name apart = read-at path' name ∙ by (find_path gs path') refl
    where
      by : (o : Option ℕ) → find_path gs path' ≡ o
          → text_at (changed_at f gs id) name o ≡ text_at gs name o
      by None e = refl
      by (Some k) e =
          ap (text_of h.books k name)
          (group-other f setting.rest gs id write.g write.there k
          (ne_eqb k id (λ same. apart (e ∙ ap (λ j. Some j) same ∙ sym write.leads))))

  -- each group's counters
  read-counters : (path' : List ℕ)
      → read_of (with_tree h u) path' (file_name Stat) ≡ read_of h path' (file_name Stat)
  read-counters path' = read-at path' (file_name Stat) ∙ by (find_path gs path')
    where
      both : (k : ℕ) → ((eqb k id ≡ true) × (k ≡ id)) ⊎ ((eqb k id ≡ false) × (k ≢ id))
          → text_of h.books k (file_name Stat) (group_at (changed_at f gs id) k)
          ≡ text_of h.books k (file_name Stat) (group_at gs k)
      both k (inl same) =
          ap (λ j. text_of h.books k (file_name Stat) (group_at (changed_at f gs id) j)) same.1
          ∙ ap (text_of h.books k (file_name Stat))
          (group-set f setting.rest gs id write.g write.there)
          ∙ sym (ap (λ j. text_of h.books k (file_name Stat) (group_at gs j)) same.1
          ∙ ap (text_of h.books k (file_name Stat)) write.there)
      both k (inr apart) = ap (text_of h.books k (file_name Stat))
          (group-other f setting.rest gs id write.g write.there k apart.0)

      by : (o : Option ℕ) → text_at (changed_at f gs id) (file_name Stat) o
          ≡ text_at gs (file_name Stat) o
      by None = refl
      by (Some k) = both k (eqb_tells k id)

  -- another file of the group
  read-other : (name : List ℕ) → file_named name ≢ Some file
      → read_of (with_tree h u) path name ≡ read_of h path name
  read-other name apart = read-here name ∙ by (file_named name) apart ∙ sym (read-before name)
    where
      onto : (b : Bool) (k : GroupFile) → k ≢ file
          → and_then (cond b (Err NoSuchFile) (Ok k)) (λ j. Ok (shown h.books id (f write.g) j))
          ≡ and_then (cond b (Err NoSuchFile) (Ok k)) (λ j. Ok (shown h.books id write.g j))
      onto true k other = refl
      onto false k other = ap (λ (t : List ℕ). Ok t) (setting.others h.books id write.g k other)

      by : (o : Option GroupFile) → o ≢ Some file
          → and_then (file_of id o) (λ k. Ok (shown h.books id (f write.g) k))
          ≡ and_then (file_of id o) (λ k. Ok (shown h.books id write.g k))
      by None other = refl
      by (Some k) other =
          onto (not (is_of_root k) && eqb id 0) k (λ same. other (ap (λ j. Some j) same))

text_weight : (books : List (ℕ × Counters)) (id n : ℕ) (g : GroupFields) → eqb id 0 ≡ false
    → text_of books id (file_name Weight) (Some (set_weight n g)) ≡ Ok (weight_text n)
text_weight books id n g inner = rw inner refl

text_max : (books : List (ℕ × Counters)) (id : ℕ) (quota : Quota) (period : Option ℕ)
    (g : GroupFields) → eqb id 0 ≡ false
    → text_of books id (file_name Max) (Some (set_max quota period g))
    ≡ Ok (max_text quota (unwrap_or period g.period))
text_max books id quota None g inner = rw inner refl
text_max books id quota (Some n) g inner = rw inner refl

text_burst : (books : List (ℕ × Counters)) (id n : ℕ) (g : GroupFields) → eqb id 0 ≡ false
    → text_of books id (file_name MaxBurst) (Some (set_burst n g)) ≡ Ok (burst_text n)
text_burst books id n g inner = rw inner refl

ok_is : {A : Type 0} (x y : A) (r : Result A FileFault) → r ≡ Ok x → r ≡ Ok y → x ≡ y
ok_is x y (Ok z) e f = cc
ok_is x y (Err z) e f = absurd cc

found_is : {A : Type 0} (x y : A) (o : Option A) → o ≡ Some x → o ≡ Some y → x ≡ y
found_is x y (Some z) e f = cc
found_is x y None e f = absurd cc

pub weight_read : (h : HierarchyState) (u : TreeState) (path text : List ℕ) (n : ℕ)
    → write_of h.tree path (file_name Weight) text ≡ Ok u
    → weight_of (words text) ≡ Ok n
    → read_of (with_tree h u) path (file_name Weight) ≡ Ok (weight_text n)
weight_read h u path text n e value =
    let w = write_at_file h.tree u path text Weight e in
    let s = w.set.sets in
    read-here h u path text Weight w (file_name Weight)
    ∙ ap (λ (f : GroupFields → GroupFields). text_of h.books w.id (file_name Weight) (Some (f w.g)))
    s.2
    ∙ text_weight h.books w.id s.0 w.g w.inner
    ∙ ap (λ k. Ok (weight_text k)) (ok_is s.0 n (weight_of (words text)) s.1 value)

pub max_read : (h : HierarchyState) (u : TreeState) (path text : List ℕ) (m : MaxWrite) (id : ℕ)
    (g : GroupFields) → find_path h.tree.groups path ≡ Some id
    → group_at h.tree.groups id ≡ Some g
    → write_of h.tree path (file_name Max) text ≡ Ok u → max_of (words text) ≡ Ok m
    → read_of (with_tree h u) path (file_name Max)
    ≡ Ok (max_text m.quota (unwrap_or m.period g.period))
max_read h u path text m id g leads there e value =
    let w = write_at_file h.tree u path text Max e in
    let s = w.set.sets in
    let same : w.id ≡ id = found_is w.id id (find_path h.tree.groups path) w.leads leads in
    let group : w.g ≡ g = found_is w.g g (group_at h.tree.groups id)
    (ap (group_at h.tree.groups) (sym same) ∙ w.there) there in
    read-here h u path text Max w (file_name Max)
    ∙ ap (λ (f : GroupFields → GroupFields). text_of h.books w.id (file_name Max) (Some (f w.g)))
    s.2
    ∙ text_max h.books w.id s.0.quota s.0.period w.g w.inner
    ∙ ap (λ (k : MaxWrite). Ok (max_text k.quota (unwrap_or k.period w.g.period)))
    (ok_is s.0 m (max_of (words text)) s.1 value)
    ∙ ap (λ (k : GroupFields). Ok (max_text m.quota (unwrap_or m.period k.period))) group

pub burst_read : (h : HierarchyState) (u : TreeState) (path text : List ℕ) (n : ℕ)
    → write_of h.tree path (file_name MaxBurst) text ≡ Ok u
    → burst_of (words text) ≡ Ok n
    → read_of (with_tree h u) path (file_name MaxBurst) ≡ Ok (burst_text n)
burst_read h u path text n e value =
    let w = write_at_file h.tree u path text MaxBurst e in
    let s = w.set.sets in
    read-here h u path text MaxBurst w (file_name MaxBurst)
    ∙ ap (λ (f : GroupFields → GroupFields).
    text_of h.books w.id (file_name MaxBurst) (Some (f w.g))) s.2
    ∙ text_burst h.books w.id s.0 w.g w.inner
    ∙ ap (λ k. Ok (burst_text k)) (ok_is s.0 n (burst_of (words text)) s.1 value)

pub other_files_stay : (h : HierarchyState) (u : TreeState) (path name text other : List ℕ)
    → write_of h.tree path name text ≡ Ok u → other ≢ name
    → read_of (with_tree h u) path other ≡ read_of h path other
other_files_stay h u path name text other e apart =
    let p = write_parts h.tree u path name text e in
    read-other h u path text p.file p.write other
    (λ same. apart (name_is other p.file same ∙ sym (name_is name p.file p.named)))

pub other_groups_stay : (h : HierarchyState) (u : TreeState) (path name text path' other : List ℕ)
    → write_of h.tree path name text ≡ Ok u
    → find_path h.tree.groups path' ≢ find_path h.tree.groups path
    → read_of (with_tree h u) path' other ≡ read_of h path' other
other_groups_stay h u path name text path' other e apart =
    let p = write_parts h.tree u path name text e in
    read-elsewhere h u path text p.file p.write path' other apart

pub counters_stay : (h : HierarchyState) (u : TreeState) (path name text path' : List ℕ)
    → write_of h.tree path name text ≡ Ok u
    → read_of (with_tree h u) path' (file_name Stat) ≡ read_of h path' (file_name Stat)
counters_stay h u path name text path' e =
    let p = write_parts h.tree u path name text e in
    read-counters h u path text p.file p.write path'
