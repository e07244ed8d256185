-- Two leaves of a whole processor have two processors, and the premises hold at each event.
use Rattle.std.proofs.Common.{◌≡◌, ℕ, zero, suc, ◌+◌, ◌-◌, ◌*◌, ◌≤◌, List, ◌∷◌, true}
use Rattle.std.proofs.Common.{refl, arith, inl}
use Rattle.dispatch.specs.declared.reservation.Step.{Step}
use Rattle.dispatch.specs.declared.reservation.Step.TheVariants.{Pass, Pick, End}
use Rattle.dispatch.specs.Reservation.{Reservations, account_at, after, Waits, IsDue, MayPick}
use Rattle.dispatch.specs.Reservation.{IsNoLater}
use Rattle.dispatch.specs.Windows.{WaitsBeyondCredit, HasTasksForGuarantees, IsFairRun, IsAtRest}
use Rattle.dispatch.specs.Example.{wholes, pairs, PremisesAreMetByTwo}

-- ---- a round

module _ (c u d v : ℕ) where
  abbrev s0 : Reservations
  s0 = wholes c u d v

  abbrev s1 : Reservations
  s1 = after s0 (Pick 0 0)

  abbrev s2 : Reservations
  s2 = after s1 (Pick 1 1)

  abbrev s3 : Reservations
  s3 = after s2 (Pass 2)

  -- the pick of the first leaf
  first_due : IsDue s0 (account_at s0 0)
  first_due = record { owes = omega arith; behind = omega arith }

  first_each : (k : ℕ) → Waits s0 k → IsDue s0 (account_at s0 k)
      → IsDue s0 (account_at s0 0) × IsNoLater s0 (account_at s0 0) (account_at s0 k)
  first_each zero waits due = (first_due, λ ahead back owes. owes)
  first_each (suc zero) waits due = (first_due, λ ahead back owes. owes)
  first_each (suc (suc k)) waits due = absurd (let clash : ⊥ = omega (arith, waits) in clash)

  first_pick : MayPick s0 0 0
  first_pick = record {
    free = refl;
    known = omega arith;
    waits = omega arith;
    due = first_each;
    shares = λ none k waits. absurd (none 0 (omega arith) first_due);
  }

  first_beyond : WaitsBeyondCredit s0
  first_beyond zero past = omega arith
  first_beyond (suc zero) past = omega arith
  first_beyond (suc (suc k)) past = absurd (let clash : ⊥ = omega (arith, past) in clash)

  first_tasks : HasTasksForGuarantees s0
  first_tasks zero waits = omega arith
  first_tasks (suc zero) waits = omega arith
  first_tasks (suc (suc k)) waits = omega arith

  -- the pick of the second leaf, while a task of the first runs and one waits
  second_due : IsDue s1 (account_at s1 1)
  second_due = record { owes = omega arith; behind = omega arith }

  second_each : (k : ℕ) → Waits s1 k → IsDue s1 (account_at s1 k)
      → IsDue s1 (account_at s1 1) × IsNoLater s1 (account_at s1 1) (account_at s1 k)
  second_each zero waits due =
      let behind = due.behind in
      absurd (let clash : ⊥ = omega (arith, behind) in clash)
  second_each (suc zero) waits due = (second_due, λ ahead back owes. owes)
  second_each (suc (suc k)) waits due = absurd (let clash : ⊥ = omega (arith, waits) in clash)

  second_pick : MayPick s1 1 1
  second_pick = record {
    free = refl;
    known = omega arith;
    waits = omega arith;
    due = second_each;
    shares = λ none k waits. absurd (none 1 (omega arith) second_due);
  }

  second_beyond : WaitsBeyondCredit s1
  second_beyond zero past = omega arith
  second_beyond (suc zero) past = omega arith
  second_beyond (suc (suc k)) past = absurd (let clash : ⊥ = omega (arith, past) in clash)

  second_tasks : HasTasksForGuarantees s1
  second_tasks zero waits = omega arith
  second_tasks (suc zero) waits = omega arith
  second_tasks (suc (suc k)) waits = omega arith

  one_round : (es : List Step)
      → IsFairRun 0 0 (wholes (c + 2 + 2 - 2) (u + 2) (d + 2 + 2 - 2) (v + 2)) es
      → IsFairRun 0 0 s0 (Pick 0 0 ∷ Pick 1 1 ∷ Pass 2 ∷ End 0 2 true ∷ End 1 2 true ∷ es)
  one_round es rest = (
    first_pick,
    (first_beyond, first_tasks, omega arith),
    (
      0,
      refl,
      omega arith,
      (
        second_pick,
        (second_beyond, second_tasks, omega arith),
        (
          0,
          refl,
          omega arith,
          (
            tt,
            (omega arith, (omega arith, tt)),
            (
              0,
              inl ((tt, (tt, tt)), refl),
              omega arith,
              (
                record { run = _; runs = refl; known = omega arith },
                ((omega arith, (omega arith, tt)), omega arith),
                (
                  0,
                  refl,
                  omega arith,
                  (
                    record { run = _; runs = refl; known = omega arith },
                    ((tt, (omega arith, tt)), omega arith),
                    (0, refl, omega arith, rest),
                  ),
                ),
              ),
            ),
          ),
        ),
      ),
    ),
  )

-- ---- all rounds

all_rounds : (rounds c u d v : ℕ) → IsFairRun 0 0 (wholes c u d v) (pairs rounds)
all_rounds zero c u d v = tt
all_rounds (suc rounds) c u d v =
    one_round c u d v (pairs rounds)
    (all_rounds rounds (c + 2 + 2 - 2) (u + 2) (d + 2 + 2 - 2) (v + 2))

at_rest : IsAtRest (wholes 0 0 0 0)
at_rest = record { idle = (refl, (refl, tt)); running = running; owed = owed } where
  running : (k : ℕ) → (account_at (wholes 0 0 0 0) k).share.running ≡ 0
  running zero = omega arith
  running (suc zero) = omega arith
  running (suc (suc k)) = omega arith

  owed : (k : ℕ) → (account_at (wholes 0 0 0 0) k).owed
      ≤ 1048576 * 2 + (account_at (wholes 0 0 0 0) k).guarantee * 2
  owed zero = omega arith
  owed (suc zero) = omega arith
  owed (suc (suc k)) = omega arith

pub premises_are_met_by_two : PremisesAreMetByTwo
premises_are_met_by_two rounds = (
  at_rest,
  record { some = omega arith; guarantees = omega arith; slack = omega arith },
  all_rounds rounds 0 0 0 0,
)
