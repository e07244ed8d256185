-- Harm and guesses of the last rounds of a loop that holds a plan.
use Rattle.std.specs.Prelude.{◌≡◌, ℕ, ◌-◌, ◌<◌, ◌≤◌, List, length, drop, sum, max}
use Rattle.bw_owned.specs.declared.harm.TheConstants.{MOST_SLICES}
use Rattle.bw_owned.specs.declared.harm.ServedSlices.{ServedSlices}
use Rattle.bw_owned.specs.declared.judged.TheConstants.{JUDGED_ROUNDS}
use Rattle.bw_owned.specs.Harm.{IsLost}

-- the numbers of the last rounds, as many as judge limits
abbrev pub last_rounds : List ℕ → List ℕ
last_rounds values = drop (length values - JUDGED_ROUNDS) values

-- the slices of the last rounds
abbrev pub last_slices : List ℕ → List ℕ → ServedSlices
last_slices used planned = record {
  used = sum (last_rounds used);
  planned = sum (last_rounds planned);
}

-- The slices that limits served too little in the last rounds, and those that were used where
-- hunger was a guess, above those where it was none. Fewer rounds judge nothing.
pub record IsJudged (free_used free_planned held_used held_planned sure guesses : List ℕ)
    (lost guessed : ℕ) : Type 0 where
  pub few : length held_used < JUDGED_ROUNDS → (lost ≡ 0) × (guessed ≡ 0)
  pub lost_is : JUDGED_ROUNDS ≤ length held_used
      → IsLost (last_slices free_used free_planned) (last_slices held_used held_planned) lost
  pub guessed_is : JUDGED_ROUNDS ≤ length held_used
      → guessed ≡ sum (last_rounds guesses) - sum (last_rounds sure)

-- the greatest sum of the last rounds
abbrev pub greatest_sum : List ℕ → List ℕ → List ℕ → List ℕ → List ℕ → List ℕ → ℕ
greatest_sum free_used free_planned held_used held_planned sure guesses =
    max (max (max (sum (last_rounds free_used)) (sum (last_rounds free_planned)))
    (max (sum (last_rounds held_used)) (sum (last_rounds held_planned))))
    (max (sum (last_rounds sure)) (sum (last_rounds guesses)))

-- a sum of the last rounds that is above the greatest
abbrev pub IsSumTooGreat : List ℕ → List ℕ → List ℕ → List ℕ → List ℕ → List ℕ → Type 0
IsSumTooGreat free_used free_planned held_used held_planned sure guesses =
    MOST_SLICES < greatest_sum free_used free_planned held_used held_planned sure guesses
