-- A file is found by its name alone.
use Rattle.std.proofs.Common.{◌≡◌, ℕ, Bool, true, false, cond, List, Option, Some, None, IfSome}
use Rattle.std.proofs.Common.{refl, sym, ap, ◌∙◌}
use Rattle.std.specs.Str.{bytes_eq}
use Rattle.std.proofs.lemmas.Slice.Eq.{bytes_eq-Decides}
use Rattle.bw_hierarchy.specs.declared.group_file.GroupFile.{GroupFile}
use Rattle.bw_hierarchy.specs.declared.group_file.GroupFile.TheVariants.{Weight, Max, MaxBurst}
use Rattle.bw_hierarchy.specs.declared.group_file.GroupFile.TheVariants.{Stat}
use Rattle.bw_hierarchy.specs.GroupFiles.{file_name, file_named}

pub some_is : {A : Type 0} (x y : A) → Some x ≡ Some y → x ≡ y
some_is x y e = cc

named_by : (name : List ℕ) (x file : GroupFile) (o : Option GroupFile)
    → cond (bytes_eq name (file_name x)) (Some x) o ≡ Some file
    → (o ≡ Some file → name ≡ file_name file) → name ≡ file_name file
named_by name x file o e later = by (bytes_eq name (file_name x)) refl e
  where
    by : (b : Bool) → bytes_eq name (file_name x) ≡ b → cond b (Some x) o ≡ Some file
        → name ≡ file_name file
    by true same at = (bytes_eq-Decides name (file_name x)).0 same
        ∙ ap file_name (some_is x file at)
    by false same at = later at

pub name_is : (name : List ℕ) (file : GroupFile) → file_named name ≡ Some file
    → name ≡ file_name file
name_is name file e =
    named_by name Weight file _ e
    (λ e. named_by name Max file _ e
    (λ e. named_by name MaxBurst file _ e
    (λ e. named_by name Stat file None e (λ e. absurd cc))))

pub named_again : (file : GroupFile) → file_named (file_name file) ≡ Some file
named_again Weight = refl
named_again Max = refl
named_again MaxBurst = refl
named_again Stat = refl

pub found_name : (name : List ℕ) (o : Option GroupFile) → o ≡ file_named name
    → IfSome o (λ file. name ≡ file_name file)
found_name name None e = tt
found_name name (Some file) e = name_is name file (sym e)
