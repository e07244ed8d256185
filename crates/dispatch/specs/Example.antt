-- Runs that meet the premises of the law of windows: two leaves of half a processor take turns, and
-- two of a whole one each have two processors.
use Rattle.std.specs.Prelude.{ℕ, zero, suc, true, false, List, [], ◌∷◌, None}
use Rattle.dispatch.specs.declared.reservation.Account.{Account}
use Rattle.dispatch.specs.declared.reservation.Step.{Step}
use Rattle.dispatch.specs.declared.reservation.Step.TheVariants.{Pass, Pick, End}
use Rattle.dispatch.specs.Reservation.{Reservations}
use Rattle.dispatch.specs.Windows.{IsAtRest, FitsHost, IsFairRun}

-- a leaf of half a processor with a task that waits, which was charged and used so much
abbrev pub half : ℕ → ℕ → Account
half charged used = record {
  share = record {
    amount = 1;
    charged = charged;
    used = used;
    waiting = 1;
    running = 0;
  };
  guarantee = 524288;
  owed = 2097152;
  is_stopped = false;
  is_inside = false;
}

-- one processor, a quantum and a credit of two nanoseconds, and two such leaves
abbrev pub halves : ℕ → ℕ → ℕ → ℕ → Reservations
halves charged used other_charged other_used = record {
  slice = 2;
  quantum = 2;
  slack = 0;
  credit = 2;
  level = (0, 1);
  accounts = half charged used ∷ half other_charged other_used ∷ [];
  processors = None ∷ [];
}

-- each has the processor for a quantum, and so on for so many rounds
abbrev pub turns : ℕ → List Step
turns zero = []
turns (suc rounds) =
    Pick 0 0 ∷ Pass 2 ∷ End 0 2 true ∷ Pick 0 1 ∷ Pass 2 ∷ End 0 2 true ∷ turns rounds

-- The premises are met by a run of any length.
abbrev pub PremisesAreMet : Type 0
PremisesAreMet = (rounds : ℕ) → IsAtRest (halves 0 0 0 0) × FitsHost (halves 0 0 0 0)
    × IsFairRun 0 0 (halves 0 0 0 0) (turns rounds)

-- a leaf of a whole processor with two tasks that wait, which was charged and used so much
abbrev pub whole : ℕ → ℕ → Account
whole charged used = record {
  share = record {
    amount = 1;
    charged = charged;
    used = used;
    waiting = 2;
    running = 0;
  };
  guarantee = 1048576;
  owed = 2097152;
  is_stopped = false;
  is_inside = false;
}

-- two processors, a quantum and a credit of two nanoseconds, and two such leaves
abbrev pub wholes : ℕ → ℕ → ℕ → ℕ → Reservations
wholes charged used other_charged other_used = record {
  slice = 2;
  quantum = 2;
  slack = 0;
  credit = 2;
  level = (0, 1);
  accounts = whole charged used ∷ whole other_charged other_used ∷ [];
  processors = None ∷ None ∷ [];
}

-- each has a processor for a quantum at once, and so on for so many rounds
abbrev pub pairs : ℕ → List Step
pairs zero = []
pairs (suc rounds) =
    Pick 0 0 ∷ Pick 1 1 ∷ Pass 2 ∷ End 0 2 true ∷ End 1 2 true ∷ pairs rounds

-- They are met by a run of any length on two processors.
abbrev pub PremisesAreMetByTwo : Type 0
PremisesAreMetByTwo = (rounds : ℕ) → IsAtRest (wholes 0 0 0 0) × FitsHost (wholes 0 0 0 0)
    × IsFairRun 0 0 (wholes 0 0 0 0) (pairs rounds)
