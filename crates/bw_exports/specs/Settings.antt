-- Numbers that owners set for goals, as the call answers them.
use Rattle.std.specs.Prelude.{◌≡◌, ◌⊎◌, ◌<◌, ◌≤◌, ℕ, List, length, slice_index}
use Rattle.bw_model.specs.Groups.{Groups}
use Rattle.bw_columns.specs.declared.columns.TheConstants.{NO_LIMIT}
use Rattle.bw_columns.specs.Asked.{Answers}
use Rattle.bw_questions.specs.declared.from_root.measure.Measure.{Measure}
use Rattle.bw_settings.specs.declared.several.Settling.{Settling}
use Rattle.bw_settings.specs.declared.several.Settling.TheVariants.{Settled, Stuck, Unsettled}
use Rattle.bw_settings.specs.declared.several.Settling.TheVariants.{Untold}
use Rattle.bw_settings.specs.Following.{Follows}
use Rattle.bw_settings.specs.Several.{Aims, AreAims, IsOnWay, IsSettling}

-- three columns of rows whose weights follow
abbrev pub follows_in : List ℕ → List ℕ → List ℕ → Follows
follows_in formulas floors bases =
    record { formulas = formulas; floors = floors; bases = bases }

-- six columns of goals, and their measure
abbrev pub aims_in : Measure → List ℕ → List ℕ → List ℕ → List ℕ → List ℕ → List ℕ → Aims
aims_in measure groups amounts owners tops firsts lasts =
    record {
      measure = measure;
      groups = groups;
      amounts = amounts;
      owners = owners;
      tops = tops;
      firsts = firsts;
      lasts = lasts;
    }

-- The number of an end of passes over so many goals: the greatest number where numbers
-- are settled, the place of a goal that is stuck, and else the number of goals.
abbrev pub settling_number : ℕ → Settling → ℕ
settling_number count Settled = NO_LIMIT
settling_number count (Stuck k) = k
settling_number count Unsettled = count
settling_number count Untold = count

-- numbers of owners for goals, and the end of the passes over these
pub record IsSettlingOf (groups : Groups) (follows : Follows) (aims : Aims) (numbers : List ℕ)
    (settling : Settling) : Type 0 where
  pub aims_are : AreAims groups.rows aims
  pub is : IsSettling groups follows aims numbers settling

-- these and their number
pub record IsSettlingTold (groups : Groups) (follows : Follows) (aims : Aims) (numbers : List ℕ)
    (told : ℕ) : Type 0 where
  pub settling : Settling
  pub is_settling : IsSettlingOf groups follows aims numbers settling
  pub told_is : told ≡ settling_number (length aims.owners) settling

-- a goal of which the group or the owner's row is no row, or neither is the other or below it
abbrev pub IsAstray : Groups → Aims → Type 0
IsAstray groups aims = (k : ℕ) × (k < length aims.owners)
    × (IsOnWay groups.rows (slice_index aims.groups k) (slice_index aims.owners k) → ⊥)

-- the refusal of goals: of one of them, or of memory
abbrev pub IsGoalRefused : Groups → Aims → ℕ → Type 0
IsGoalRefused groups aims answer = ((answer ≡ 20) × IsAstray groups aims) ⊎ (answer ≡ 71)

-- the refusal of goals: of the host and the rows, else of one of them
abbrev pub IsSettlingRefused : ℕ → Groups → Aims → ℕ → Type 0
IsSettlingRefused refused groups aims answer =
    Answers refused answer ⊎ ((refused ≡ 0) × IsGoalRefused groups aims answer)
