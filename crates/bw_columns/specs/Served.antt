-- Amounts and limits of a round for a scheduler, in columns of numbers.
use Rattle.std.specs.Prelude.{◌≡◌, ℕ, List, Bool, Option, map}
use Rattle.bw_model.specs.Groups.{Groups}
use Rattle.bw_questions.specs.Served.{IsServedRound}
use Rattle.bw_columns.specs.Asked.{limit_number}

-- the amounts and limits that a scheduler is given for a round by the rule
pub record IsServedColumns (used : Groups) (hungry : List Bool) (amounts limits : List ℕ) : Type 0
  where
    pub limit_of_each : List (Option ℕ)
    pub round : IsServedRound used hungry amounts limit_of_each
    pub limits_are : limits ≡ map limit_number limit_of_each
