-- The condition that each fault breaks, and the verdict of the check.
use Rattle.std.specs.Prelude.{◌≡◌, ℕ, ◌<◌, ◌≤◌, Bool, List, false, Option, Some, length, map}
use Rattle.std.specs.Prelude.{slice_index, IsTrue}
use Rattle.std.specs.Option.{IsSome, option_map}
use Rattle.bw_model.specs.declared.mark.Mark.{Mark}
use Rattle.bw_model.specs.declared.row.Row.{Row}
use Rattle.bw_check.specs.declared.fault.CheckFault.{CheckFault}
use Rattle.bw_check.specs.declared.fault.CheckFault.TheVariants.{WrongLength, OverLimit, OverDemand}
use Rattle.bw_check.specs.declared.fault.CheckFault.TheVariants.{SumDiffers, FlagWithoutLimit}
use Rattle.bw_check.specs.declared.fault.CheckFault.TheVariants.{NotGreatest, LevelMissing}
use Rattle.bw_check.specs.declared.fault.CheckFault.TheVariants.{LastMarkAbove, NextMarkNotAbove}
use Rattle.bw_check.specs.declared.verdict.Verdict.{Verdict}
use Rattle.bw_check.specs.declared.verdict.Verdict.TheVariants.{Accepted, Refused}
use Rattle.bw_model.specs.Groups.{Groups, sum_of_children, parent_of, is_leaf, weight_of, demand_of}
use Rattle.bw_model.specs.Groups.{limit_of}
use Rattle.bw_model.specs.Marks.{MarkValue, price_of, last_mark, next_mark, IsBelow, IsAtMost}
use Rattle.bw_model.specs.Certificate.{Certified, AreBounds, IsAccepted, is_flagged, level_at}
use Rattle.bw_model.specs.Certificate.{sibling_place}
use Rattle.bw_check.specs.Faults.{check_fault_number}

-- one amount, flag and level for each row
abbrev pub AreOnePerRow : List Row → List ℕ → Certified → Type 0
AreOnePerRow rows amounts certificate =
    (length amounts ≡ length rows) × (length certificate.tight ≡ length rows)
    × (length certificate.levels ≡ length rows)

-- the amount of a group is at most its limit
abbrev pub IsWithinLimit : Groups → List ℕ → ℕ → Type 0
IsWithinLimit groups amounts g =
    (limit : ℕ) → limit_of groups g ≡ Some limit → slice_index amounts g ≤ limit

-- the amount of a leaf is at most its demand
abbrev pub IsWithinDemand : List Row → List ℕ → ℕ → Type 0
IsWithinDemand rows amounts g = IsTrue (is_leaf rows g) → slice_index amounts g ≤ demand_of rows g

-- the amount of an inner group is its children's sum
abbrev pub IsChildrenSum : List Row → List ℕ → ℕ → Type 0
IsChildrenSum rows amounts g =
    is_leaf rows g ≡ false → slice_index amounts g ≡ sum_of_children rows amounts g

-- a flagged group has a limit
abbrev pub IsFlagLimited : Groups → Certified → ℕ → Type 0
IsFlagLimited groups certificate g = IsTrue (is_flagged certificate g) → IsSome (limit_of groups g)

-- an inner group that shares something out has a level
abbrev pub HasLevel : List Row → List ℕ → Certified → ℕ → Type 0
HasLevel rows amounts certificate g =
    is_leaf rows g ≡ false → 0 < slice_index amounts g → IsSome (level_at certificate g)

-- the last mark of a child is at most its parent's level, where the parent shares something out
abbrev pub IsLastMarkKept : List Row → List ℕ → Certified → ℕ → Type 0
IsLastMarkKept rows amounts certificate c =
    (g : ℕ) (level : Mark) → parent_of rows c ≡ Some g → 0 < slice_index amounts g
    → level_at certificate g ≡ Some level →
    0 < slice_index amounts c →
    IsAtMost (last_mark (slice_index amounts c) (weight_of rows c) (sibling_place rows g c))
    (price_of level)

-- the next mark of a child below its bound is above that level
abbrev pub IsNextMarkKept : List Row → List ℕ → Certified → ℕ → ℕ → Type 0
IsNextMarkKept rows amounts certificate bound c =
    (g : ℕ) (level : Mark) → parent_of rows c ≡ Some g → 0 < slice_index amounts g
    → level_at certificate g ≡ Some level →
    slice_index amounts c < bound →
    IsBelow (price_of level)
    (next_mark (slice_index amounts c) (weight_of rows c) (sibling_place rows g c))

-- a group is free of the fault
abbrev pub IsFree : Groups → List ℕ → Certified → List ℕ → CheckFault → ℕ → Type 0
IsFree groups amounts certificate bounds WrongLength g =
    AreOnePerRow groups.rows amounts certificate
IsFree groups amounts certificate bounds OverLimit g = IsWithinLimit groups amounts g
IsFree groups amounts certificate bounds OverDemand g = IsWithinDemand groups.rows amounts g
IsFree groups amounts certificate bounds SumDiffers g = IsChildrenSum groups.rows amounts g
IsFree groups amounts certificate bounds FlagWithoutLimit g = IsFlagLimited groups certificate g
IsFree groups amounts certificate bounds NotGreatest g =
    slice_index amounts 0 ≡ slice_index bounds 0
IsFree groups amounts certificate bounds LevelMissing g =
    HasLevel groups.rows amounts certificate g
IsFree groups amounts certificate bounds LastMarkAbove c =
    IsLastMarkKept groups.rows amounts certificate c
IsFree groups amounts certificate bounds NextMarkNotAbove c =
    IsNextMarkKept groups.rows amounts certificate (slice_index bounds c) c

-- no group has a fault
abbrev pub AreFree : Groups → List ℕ → Certified → List ℕ → Type 0
AreFree groups amounts certificate bounds = (fault : CheckFault) (g : ℕ) → g < length groups.rows →
    IsFree groups amounts certificate bounds fault g

-- a group with this bound is free of each fault, but for the root's amount at another group
pub record IsFreeRow (groups : Groups) (amounts : List ℕ) (certificate : Certified)
    (g bound : ℕ) : Type 0 where
  pub within_limit : IsWithinLimit groups amounts g
  pub within_demand : IsWithinDemand groups.rows amounts g
  pub summed : IsChildrenSum groups.rows amounts g
  pub flag_limited : IsFlagLimited groups certificate g
  pub greatest : g ≡ 0 → slice_index amounts g ≡ bound
  pub has_level : HasLevel groups.rows amounts certificate g
  pub last_kept : IsLastMarkKept groups.rows amounts certificate g
  pub next_kept : IsNextMarkKept groups.rows amounts certificate bound g

-- the first fault, by its number and then by row
pub record IsFirstFault (groups : Groups) (amounts : List ℕ) (certificate : Certified)
    (bounds : List ℕ) (fault : CheckFault) (group : ℕ) : Type 0 where
  pub within : group < length groups.rows
  pub found : ¬ IsFree groups amounts certificate bounds fault group
  pub no_lower : (f : CheckFault) (g : ℕ) → check_fault_number f < check_fault_number fault
      → g < length groups.rows
      → IsFree groups amounts certificate bounds f g
  pub no_earlier : (g : ℕ) → g < group → IsFree groups amounts certificate bounds fault g

-- the first fault, under the bounds that the flags give
pub record IsRefused (groups : Groups) (amounts : List ℕ) (certificate : Certified)
    (fault : CheckFault) (group : ℕ) : Type 0 where
  pub bounds : List ℕ
  pub bounded : AreBounds groups certificate bounds
  pub first : IsFirstFault groups amounts certificate bounds fault group

-- accepted where the amounts are certified, else refused with the first fault
abbrev pub IsVerdict : Groups → List ℕ → Certified → Verdict → Type 0
IsVerdict groups amounts certificate Accepted = IsAccepted groups amounts certificate
IsVerdict groups amounts certificate (Refused fault group) =
    IsRefused groups amounts certificate fault group

-- the verdict on columns of amounts, flags and levels: on a certificate that says just these
pub record IsVerdictOn (groups : Groups) (amounts : List ℕ) (tight : List Bool)
    (values : List (Option MarkValue)) (verdict : Verdict) : Type 0 where
  pub certificate : Certified
  pub flags : certificate.tight ≡ tight
  pub levels : map (option_map price_of) certificate.levels ≡ values
  pub given : IsVerdict groups amounts certificate verdict
