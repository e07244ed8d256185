-- Answers of the calls of a loop that holds a plan, and the numbers that refuse them.
use Rattle.std.specs.Prelude.{◌≡◌, ◌≢◌, ◌⊎◌, ◌<◌, ℕ, List, Bool, false, ◌∷◌, [], ◌&&◌, length}
use Rattle.std.specs.Prelude.{if◌then◌else◌}
use Rattle.bw_columns.specs.Asked.{are_of_length}
use Rattle.bw_owned.specs.Judged.{IsSumTooGreat}
use Rattle.bw_owned.specs.LetGo.{reason_of, reason_number, GoFor}
use Rattle.bw_owned.specs.Rest.{IsRestShare}
use Rattle.bw_owned.specs.declared.rest.RestShare.{RestShare}
use Rattle.bw_owned.specs.declared.rest.TheConstants.{MOST_TOLD}

-- the number that refuses columns that differ in length
abbrev pub length_refusal : Bool → ℕ
length_refusal fit = if fit then 0 else 50

-- whether the columns of rounds without limits are of one length, and those of rounds under them
abbrev pub are_rounds_even : List ℕ → List ℕ → List ℕ → List ℕ → List ℕ → List ℕ → Bool
are_rounds_even free_used free_planned held_used held_planned sure guesses =
    are_of_length (length free_used) (free_planned ∷ [])
    && are_of_length (length held_used) (held_planned ∷ sure ∷ guesses ∷ [])

-- the refusal of rounds: of their columns, else of a sum
abbrev pub IsJudgedRefused : List ℕ → List ℕ → List ℕ → List ℕ → List ℕ → List ℕ → ℕ → Type 0
IsJudgedRefused free_used free_planned held_used held_planned sure guesses answer =
    ((answer ≡ 50)
    × (are_rounds_even free_used free_planned held_used held_planned sure guesses ≡ false))
    ⊎ ((answer ≡ 9)
    × IsSumTooGreat free_used free_planned held_used held_planned sure guesses)

-- the slices of the rest of a host beside a plan
abbrev pub rest_told : ℕ → ℕ → RestShare
rest_told amount guarantee = record { amount = amount; guarantee = guarantee }

abbrev pub IsRestTold : ℕ → ℕ → List ℕ → List ℕ → ℕ → ℕ → Type 0
IsRestTold slices planned own others amount guarantee =
    IsRestShare slices planned own others (rest_told amount guarantee)

-- the refusal of a rest: of its columns, else of the plan's slices
abbrev pub IsRestRefused : ℕ → List ℕ → List ℕ → ℕ → Type 0
IsRestRefused slices own others answer =
    ((answer ≡ 50) × (length others ≢ length own)) ⊎ ((answer ≡ 9) × (MOST_TOLD < slices))

-- the groups that are let go, and the number of the reason
pub record IsLetGoTold (backs turns moved left guessed : List ℕ) (lost guesses : ℕ) (go : List ℕ)
    (reason : ℕ) : Type 0 where
  pub reason_is : reason ≡ reason_number (reason_of backs lost guesses)
  pub go_are : GoFor (reason_of backs lost guesses) backs turns moved left guessed lost guesses go
