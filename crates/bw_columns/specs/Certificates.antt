-- A certificate in columns of numbers.
use Rattle.std.specs.Prelude.{◌≡◌, ◌↔◌, ℕ, ◌<◌, Bool, true, false, ◌==◌, ◌&&◌, not, List}
use Rattle.std.specs.Prelude.{Option, Some, None, length, map, slice_index, slice_index_or, IsSome}
use Rattle.std.specs.Prelude.{IfSome, if◌then◌else◌}
use Rattle.bw_model.specs.declared.mark.Mark.{Mark}
use Rattle.bw_model.specs.Host.{Shape}
use Rattle.bw_model.specs.Certificate.{Certified}
use Rattle.bw_columns.specs.declared.certificate.CertificateColumns.{CertificateColumns}
use Rattle.bw_columns.specs.declared.claim.Claim.{Claim}
use Rattle.bw_columns.specs.Asked.{Table, asked_number}

-- a certificate in columns of numbers
pub record Claimed : Type 0 where
  pub flags : List ℕ
  pub nums : List ℕ
  pub dens : List ℕ
  pub places : List ℕ

-- the certificate of four columns
abbrev pub claimed_columns : List ℕ → List ℕ → List ℕ → List ℕ → Claimed
claimed_columns flags nums dens places =
    record { flags = flags; nums = nums; dens = dens; places = places }

-- the program's claim, as lists
abbrev pub claimed_of : Claim → Claimed
claimed_of claim = claimed_columns claim.flags.now claim.nums.now claim.dens.now claim.places.now

-- the flags of a column: set where the number is not 0
abbrev pub flags_in : List ℕ → List Bool
flags_in numbers = map (λ flag. not (flag == 0)) numbers

-- the level that three numbers give: none where num or den is 0
abbrev pub IsLevel : ℕ → ℕ → ℕ → Option Mark → Type 0
IsLevel num den place level =
    (IsSome level ↔ ((0 < num) × (0 < den)))
    × IfSome level (λ mark. (mark.num ≡ num) × (mark.den ≡ den) × (mark.place ≡ place))

-- the first n levels are those of the columns
pub record AreLevels (claimed : Claimed) (n : ℕ) (levels : List (Option Mark)) : Type 0 where
  pub long : length levels ≡ n
  pub each : (k : ℕ) → k < n →
      IsLevel (slice_index claimed.nums k) (slice_index claimed.dens k)
      (slice_index claimed.places k) (slice_index_or levels k None)

-- whether the columns of the levels are of one length
abbrev pub are_levels_even : Claimed → Bool
are_levels_even claimed = (length claimed.dens == length claimed.nums)
    && (length claimed.places == length claimed.nums)

-- a certificate with a flag for each number that is not 0, and the levels of the columns
pub record IsSpelled (claimed : Claimed) (certificate : Certified) : Type 0 where
  pub flags : certificate.tight ≡ flags_in claimed.flags
  pub levels : AreLevels claimed (length claimed.nums) certificate.levels

-- the number that refuses what is asked and claimed, 0 where none does: 50 where columns differ in
-- length
unfoldable pub claimed_number : Shape → Table → Claimed → ℕ
claimed_number shape table claimed =
    if are_levels_even claimed then asked_number shape table else 50

-- 1 for a flag, else 0
abbrev pub flag_number : Bool → ℕ
flag_number true = 1
flag_number false = 0

-- the numbers of a level, 0 for none
abbrev pub num_of : Option Mark → ℕ
num_of None = 0
num_of (Some mark) = mark.num

abbrev pub den_of : Option Mark → ℕ
den_of None = 0
den_of (Some mark) = mark.den

abbrev pub place_of_level : Option Mark → ℕ
place_of_level None = 0
place_of_level (Some mark) = mark.place

-- the columns that spell a certificate
abbrev pub columns_of : Certified → Claimed
columns_of certificate =
    claimed_columns (map flag_number certificate.tight) (map num_of certificate.levels)
    (map den_of certificate.levels) (map place_of_level certificate.levels)

-- the program's columns of a certificate, as lists
abbrev pub columns_in : CertificateColumns → Claimed
columns_in found =
    claimed_columns found.flags.items found.nums.items found.dens.items found.places.items

-- one entry for each row in each column of a certificate
pub record AreClaimedLong (claimed : Claimed) (count : ℕ) : Type 0 where
  pub flags : length claimed.flags ≡ count
  pub nums : length claimed.nums ≡ count
  pub dens : length claimed.dens ≡ count
  pub places : length claimed.places ≡ count
