-- The first fault of a certificate, in the order of the tests.
use Rattle.std.proofs.Common.{◌≡◌, ℕ, zero, suc, ◌+◌, ◌-◌, ◌<◌, ◌≤◌, List, [], ◌∷◌, Some, None}
use Rattle.std.proofs.Common.{length, get_or, refl, subst, ap, sym, ◌∙◌, arith, inl, inr}
use Rattle.std.proofs.lemmas.Bool.{cases_eq}
use Rattle.bw_check.specs.declared.fault.CheckFault.{CheckFault}
use Rattle.bw_check.specs.declared.fault.CheckFault.TheVariants.{WrongLength, OverLimit, OverDemand}
use Rattle.bw_check.specs.declared.fault.CheckFault.TheVariants.{SumDiffers, FlagWithoutLimit}
use Rattle.bw_check.specs.declared.fault.CheckFault.TheVariants.{NotGreatest, LevelMissing}
use Rattle.bw_check.specs.declared.fault.CheckFault.TheVariants.{LastMarkAbove, NextMarkNotAbove}
use Rattle.bw_model.specs.Groups.{Groups, AreTreeRows, IsInstance}
use Rattle.bw_model.specs.Certificate.{Certified, AreBounds, IsCertified}
use Rattle.bw_check.specs.Faults.{check_fault_number}
use Rattle.bw_check.specs.Verdict.{AreOnePerRow, IsFree, IsRefused}
use Rattle.bw_check.proofs.Verdicts.{free-IsCertified}
use Rattle.bw_check.specs.Levels.{AreSmall, IsFirst}
use Rattle.bw_check.proofs.SmallAmounts.{small_amounts}
use Rattle.bw_check.proofs.Bounding.{bounds_exist}

-- the faults of single groups, in order
abbrev pub of_rows : List CheckFault
of_rows = OverLimit ∷ OverDemand ∷ SumDiffers ∷ FlagWithoutLimit ∷ NotGreatest ∷ LevelMissing
    ∷ LastMarkAbove ∷ NextMarkNotAbove ∷ []

abbrev fault_at : ℕ → CheckFault
fault_at k = get_or (WrongLength ∷ of_rows) k WrongLength

numbered : (f : CheckFault) → f ≡ fault_at (check_fault_number f - 50)
numbered WrongLength = refl
numbered OverLimit = refl
numbered OverDemand = refl
numbered SumDiffers = refl
numbered FlagWithoutLimit = refl
numbered NotGreatest = refl
numbered LevelMissing = refl
numbered LastMarkAbove = refl
numbered NextMarkNotAbove = refl

number_ge : (f : CheckFault) → 50 ≤ check_fault_number f
number_ge WrongLength = omega arith
number_ge OverLimit = omega arith
number_ge OverDemand = omega arith
number_ge SumDiffers = omega arith
number_ge FlagWithoutLimit = omega arith
number_ge NotGreatest = omega arith
number_ge LevelMissing = omega arith
number_ge LastMarkAbove = omega arith
number_ge NextMarkNotAbove = omega arith

number_lt : (f : CheckFault) → check_fault_number f < 59
number_lt WrongLength = omega arith
number_lt OverLimit = omega arith
number_lt OverDemand = omega arith
number_lt SumDiffers = omega arith
number_lt FlagWithoutLimit = omega arith
number_lt NotGreatest = omega arith
number_lt LevelMissing = omega arith
number_lt LastMarkAbove = omega arith
number_lt NextMarkNotAbove = omega arith

-- a fault is found at its number
fault_is : (f : CheckFault) (i : ℕ) → check_fault_number f ≡ 51 + i
    → f ≡ get_or of_rows i WrongLength
fault_is f i e = let k : check_fault_number f - 50 ≡ suc i = omega (arith, e) in
    numbered f ∙ ap fault_at k

number_at : (i : ℕ) → i < 8 → check_fault_number (get_or of_rows i WrongLength) ≡ 51 + i
number_at zero h = refl
number_at (suc zero) h = refl
number_at (suc (suc zero)) h = refl
number_at (suc (suc (suc zero))) h = refl
number_at (suc (suc (suc (suc zero)))) h = refl
number_at (suc (suc (suc (suc (suc zero))))) h = refl
number_at (suc (suc (suc (suc (suc (suc zero)))))) h = refl
number_at (suc (suc (suc (suc (suc (suc (suc zero))))))) h = refl
number_at (suc (suc (suc (suc (suc (suc (suc (suc i)))))))) h = absurd (omega arith)

module _ (groups : Groups) (amounts : List ℕ) (certificate : Certified)
    (tree : AreTreeRows groups.rows) where
  -- a wrong length comes before all else
  pub wrong_length : (AreOnePerRow groups.rows amounts certificate → ⊥)
      → IsRefused groups amounts certificate WrongLength 0
  wrong_length wrong = let b = bounds_exist groups certificate tree in record {
    bounds = b.0;
    bounded = b.1;
    first = record {
      within = tree.has_root;
      found = wrong;
      no_lower = λ f g lt _.
          absurd (let least : 50 ≤ check_fault_number f = number_ge f in omega (arith, lt, least));
      no_earlier = λ g lt. absurd (omega (arith, lt));
    };
  }

  module _ (bounds : List ℕ) (are : AreBounds groups certificate bounds) (i : ℕ)
      (so_far : (f : CheckFault) (g : ℕ) → check_fault_number f < 51 + i →
      g < length groups.rows → IsFree groups amounts certificate bounds f g) where
    pub refused_at : (group : ℕ) → i < 8 →
        IsFirst (IsFree groups amounts certificate bounds (get_or of_rows i WrongLength))
        (length groups.rows) (Some group) →
        IsRefused groups amounts certificate (get_or of_rows i WrongLength) group
    refused_at group at found = record {
      bounds = bounds;
      bounded = are;
      first = record {
        within = found.0;
        found = found.1;
        no_lower = λ f g lt within. so_far f g
            (let number : check_fault_number (get_or of_rows i WrongLength) ≡ 51 + i =
            number_at i at in omega (arith, lt, number)) within;
        no_earlier = found.2;
      };
    }

    pub one_fault_more
        : IsFirst (IsFree groups amounts certificate bounds (get_or of_rows i WrongLength))
        (length groups.rows) None →
        (f : CheckFault) (g : ℕ) → check_fault_number f < 51 + (i + 1) → g < length groups.rows
        → IsFree groups amounts certificate bounds f g
    one_fault_more none f g lt within = elim (cases_eq (check_fault_number f) (51 + i)) [
      | inl same ↦ subst (λ (h : CheckFault). IsFree groups amounts certificate bounds h g)
          (sym (fault_is f i same)) (none g within)
      | inr other ↦ so_far f g (omega (arith, lt, other)) within
    ]

    -- at the faults of marks the amounts are small
    pub small_at : IsInstance groups → i < 8 → check_fault_number LastMarkAbove
        ≤ check_fault_number (get_or of_rows i WrongLength) → AreSmall amounts
    small_at valid at late =
        let number : check_fault_number (get_or of_rows i WrongLength) ≡ 51 + i = number_at i at in
        small_amounts groups amounts valid (so_far WrongLength 0 (omega arith) tree.has_root).0
        (λ g within. so_far OverLimit g (omega (arith, number, late)) within)
        (λ g within. so_far SumDiffers g (omega (arith, number, late)) within)

    pub all_free : 8 ≤ i → IsCertified groups amounts certificate bounds
    all_free end = free-IsCertified groups amounts certificate bounds tree are
        (λ f g within. so_far f g (let least : check_fault_number f < 59 =
        number_lt f in omega (arith, least, end)) within)
