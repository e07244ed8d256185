-- Amounts without a fault at any group are certified, and refused ones are not.
use Rattle.std.proofs.Common.{◌≡◌, ℕ, ◌<◌, List, length, get_or, ◌∙◌, arith}
use Rattle.bw_check.specs.declared.fault.CheckFault.{CheckFault}
use Rattle.bw_check.specs.declared.fault.CheckFault.TheVariants.{WrongLength, OverLimit, OverDemand}
use Rattle.bw_check.specs.declared.fault.CheckFault.TheVariants.{SumDiffers, FlagWithoutLimit}
use Rattle.bw_check.specs.declared.fault.CheckFault.TheVariants.{NotGreatest, LevelMissing}
use Rattle.bw_check.specs.declared.fault.CheckFault.TheVariants.{LastMarkAbove, NextMarkNotAbove}
use Rattle.bw_model.specs.Groups.{Groups, AreTreeRows}
use Rattle.bw_model.specs.Certificate.{Certified, AreBounds, IsCertified, IsAccepted}
use Rattle.bw_model.proofs.CallerLemmas.{parent_lt, bounds-unique}
use Rattle.bw_check.specs.Verdict.{IsFree, IsRefused}

-- Amounts with no fault at any group are certified, and the other way round.
pub free-IsCertified : (groups : Groups) (amounts : List ℕ) (certificate : Certified)
    (bounds : List ℕ) → AreTreeRows groups.rows →
    AreBounds groups certificate bounds →
    ((fault : CheckFault) (g : ℕ) → g < length groups.rows
    → IsFree groups amounts certificate bounds fault g) →
    IsCertified groups amounts certificate bounds
free-IsCertified groups amounts certificate bounds tree are free =
    let lengths = free WrongLength 0 tree.has_root in
    record {
      amounts_each = lengths.0;
      flags_each = lengths.1;
      levels_each = lengths.2;
      within_limit = λ g limit below e. free OverLimit g below limit e;
      within_demand = λ l below leaf. free OverDemand l below leaf;
      sums = λ g below inner. free SumDiffers g below inner;
      flags_limited = λ g below flagged. free FlagWithoutLimit g below flagged;
      bounded = are;
      greatest = free NotGreatest 0 tree.has_root;
      level_given = λ g below inner some. free LevelMissing g below inner some;
      last_at_most = λ g c level _ below parent some is part.
          free LastMarkAbove c below g level parent some is part;
      next_above = λ g c level _ below parent some is room.
          free NextMarkNotAbove c below g level parent some is room;
    }

pub certified-IsFree
    : (groups : Groups) (amounts : List ℕ) (certificate : Certified) (bounds : List ℕ) →
    IsCertified groups amounts certificate bounds → AreTreeRows groups.rows
    → (fault : CheckFault) (g : ℕ) → g < length groups.rows →
    IsFree groups amounts certificate bounds fault g
certified-IsFree groups amounts certificate bounds c tree WrongLength g below =
    (c.amounts_each, c.flags_each, c.levels_each)
certified-IsFree groups amounts certificate bounds c tree OverLimit g below =
    λ limit e. c.within_limit g limit below e
certified-IsFree groups amounts certificate bounds c tree OverDemand g below =
    λ leaf. c.within_demand g below leaf
certified-IsFree groups amounts certificate bounds c tree SumDiffers g below =
    λ inner. c.sums g below inner
certified-IsFree groups amounts certificate bounds c tree FlagWithoutLimit g below =
    λ flagged. c.flags_limited g below flagged
certified-IsFree groups amounts certificate bounds c tree NotGreatest g below = c.greatest
certified-IsFree groups amounts certificate bounds c tree LevelMissing g below =
    λ inner some. c.level_given g below inner some
certified-IsFree groups amounts certificate bounds c tree LastMarkAbove g below =
    λ h level parent some is part.
    c.last_at_most h g level (let up : h < g = parent_lt groups.rows tree g h parent in omega arith)
    below parent some is part
certified-IsFree groups amounts certificate bounds c tree NextMarkNotAbove g below =
    λ h level parent some is room.
    c.next_above h g level (let up : h < g = parent_lt groups.rows tree g h parent in omega arith)
    below parent some is room

-- a fault speaks of bounds of groups alone
free-under : (groups : Groups) (amounts : List ℕ) (certificate : Certified) (bounds others : List ℕ)
    → 0 < length groups.rows →
    ((g : ℕ) → g < length groups.rows → get_or bounds g 0 ≡ get_or others g 0)
    → (fault : CheckFault) (g : ℕ) → g < length groups.rows →
    IsFree groups amounts certificate bounds fault g
    → IsFree groups amounts certificate others fault g
free-under groups amounts certificate bounds others root same WrongLength g below = λ h. h
free-under groups amounts certificate bounds others root same OverLimit g below = λ h. h
free-under groups amounts certificate bounds others root same OverDemand g below = λ h. h
free-under groups amounts certificate bounds others root same SumDiffers g below = λ h. h
free-under groups amounts certificate bounds others root same FlagWithoutLimit g below = λ h. h
free-under groups amounts certificate bounds others root same NotGreatest g below =
    λ h. h ∙ same 0 root
free-under groups amounts certificate bounds others root same LevelMissing g below = λ h. h
free-under groups amounts certificate bounds others root same LastMarkAbove g below = λ h. h
free-under groups amounts certificate bounds others root same NextMarkNotAbove g below =
    λ h. λ p level up shares is room.
    h p level up shares is (let e : get_or bounds g 0 ≡ get_or others g 0 =
    same g below in omega (arith, e, room))

-- What is refused is not certified under any bounds.
pub refused-not-accepted : (groups : Groups) (amounts : List ℕ) (certificate : Certified)
    (fault : CheckFault) (group : ℕ) → AreTreeRows groups.rows →
    IsRefused groups amounts certificate fault group → IsAccepted groups amounts certificate → ⊥
refused-not-accepted groups amounts certificate fault group tree refused accepted =
    refused.first.found
    (free-under groups amounts certificate accepted.bounds refused.bounds tree.has_root
    (bounds-unique groups certificate accepted.bounds refused.bounds tree accepted.certified.bounded
    refused.bounded)
    fault group refused.first.within
    (certified-IsFree groups amounts certificate accepted.bounds accepted.certified tree fault group
    refused.first.within))
