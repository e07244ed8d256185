-- The columns of a certificate spell it.
use Rattle.std.proofs.Common.{◌≡◌, ℕ, ◌<◌, ◌==◌, not, List, [], ◌∷◌, Bool, true, false, Option}
use Rattle.std.proofs.Common.{Some, None, length, map, get_or, refl, ap, sym, suc, true≢false}
use Rattle.std.proofs.Common.{◌∙◌, arith}
use Rattle.std.proofs.lemmas.List.{get_or-map}
use Rattle.bw_model.specs.declared.mark.Mark.{Mark}
use Rattle.bw_model.specs.Certificate.{Certified}
use Rattle.bw_columns.specs.Certificates.{IsLevel, IsSpelled, Claimed, AreClaimedLong}
use Rattle.bw_columns.specs.Certificates.{claimed_columns}
use Rattle.bw_columns.specs.Certificates.{flag_number, num_of, den_of, place_of_level, columns_of}

flags_again : (flags : List Bool) → flags ≡ map (λ flag. not (flag == 0)) (map flag_number flags)
flags_again [] = refl
flags_again (true ∷ flags) = ap (λ (rest : List Bool). true ∷ rest) (flags_again flags)
flags_again (false ∷ flags) = ap (λ (rest : List Bool). false ∷ rest) (flags_again flags)

level_again : (level : Option Mark)
    → IsLevel (num_of level) (den_of level) (place_of_level level) level
level_again None = (
  (
    λ some. absurd (true≢false (sym some)),
    λ both. let none : 0 < 0 =
        both.0 in absurd (omega (arith, none)),
  ),
  tt,
)
level_again (Some mark) =
    ((λ some. (mark.num_positive, mark.den_positive), λ both. refl), (refl, refl, refl))

long_map : {X : Type 0} (f : X → ℕ) (xs : List X) → length (map f xs) ≡ length xs
long_map f [] = refl
long_map f (x ∷ xs) = ap (λ (n : ℕ). suc n) (long_map f xs)

level_here : (levels : List (Option Mark)) (k : ℕ) → k < length (map num_of levels) →
    IsLevel (get_or (map num_of levels) k 0) (get_or (map den_of levels) k 0)
    (get_or (map place_of_level levels) k 0) (get_or levels k None)
level_here levels k within =
    let here : k < length levels = rw (long_map num_of levels) at within in
    rw (get_or-map num_of levels k None 0 here)
    (rw (get_or-map den_of levels k None 0 here)
    (rw (get_or-map place_of_level levels k None 0 here) (level_again (get_or levels k None))))

columns_spell : (certificate : Certified) → IsSpelled (columns_of certificate) certificate
columns_spell certificate = record {
  flags = flags_again certificate.tight;
  levels = record {
    long = sym (long_map num_of certificate.levels);
    each = λ k within. level_here certificate.levels k within;
  };
}

pub columns_by : (certificate : Certified) (flags nums dens places : List ℕ)
    → flags ≡ map flag_number certificate.tight
    → nums ≡ map num_of certificate.levels →
    dens ≡ map den_of certificate.levels → places ≡ map place_of_level certificate.levels →
    claimed_columns flags nums dens places ≡ columns_of certificate
columns_by certificate flags nums dens places f n d p = rw f (rw n (rw d (rw p refl)))

-- The columns of a certificate of so many groups have so many entries.
pub columns_long : (certificate : Certified) (claimed : Claimed) (count : ℕ)
    → claimed ≡ columns_of certificate → length certificate.tight ≡ count
    → length certificate.levels ≡ count → AreClaimedLong claimed count
columns_long certificate claimed count e flags levels = rw e (record {
  flags = long_map flag_number certificate.tight ∙ flags;
  nums = long_map num_of certificate.levels ∙ levels;
  dens = long_map den_of certificate.levels ∙ levels;
  places = long_map place_of_level certificate.levels ∙ levels;
})

-- Columns that are those of a certificate spell it.
pub columns_are_spelled : (certificate : Certified) (claimed : Claimed)
    → claimed ≡ columns_of certificate → IsSpelled claimed certificate
columns_are_spelled certificate claimed e = rw e (columns_spell certificate)

pub long_by : {X : Type 0} (f : X → ℕ) (xs : List X) (ys : List ℕ) (count : ℕ) → ys ≡ map f xs
    → length xs ≡ count → length ys ≡ count
long_by f xs ys count e long = ap (length {A = ℕ}) e ∙ long_map f xs ∙ long
