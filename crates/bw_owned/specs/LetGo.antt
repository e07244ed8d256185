-- Which groups a loop lets go of, since limits do harm to them.
use Rattle.std.specs.Prelude.{◌≡◌, ℕ, ◌+◌, ◌<◌, ◌≤◌, ◌⊎◌, ◌==◌, List, Bool, Option, None, Some}
use Rattle.std.specs.Prelude.{length, max, nat_le, slice_index, sum_by, if◌then◌else◌}
use Rattle.std.specs.List.{list_any, range_with_len}
use Rattle.bw_owned.specs.declared.judged.TheConstants.{JUDGED_ROUNDS}
use Rattle.bw_owned.specs.declared.release.LetGoReason.{LetGoReason}
use Rattle.bw_owned.specs.declared.release.LetGoReason.TheVariants.{Nothing, Swings}
use Rattle.bw_owned.specs.declared.release.LetGoReason.TheVariants.{Losses, Guesses}

-- the slices that a group counts for: its own, and one at least
abbrev pub counted : ℕ → ℕ
counted slices = max slices 1

-- those that it counts for if it goes, else 0
abbrev pub counted_gone : List ℕ → List ℕ → ℕ → ℕ
counted_gone slices go k = if slice_index go k == 0 then 0 else counted (slice_index slices k)

-- those of all groups that go
abbrev pub gone : List ℕ → List ℕ → ℕ
gone slices go = sum_by (counted_gone slices go) (range_with_len 0 (length slices))

-- a group goes before another one: it has more slices, or as many and stands before it
abbrev pub GoesBefore : List ℕ → ℕ → ℕ → Type 0
GoesBefore slices k other =
    (slice_index slices other < slice_index slices k)
    ⊎ ((slice_index slices other ≡ slice_index slices k) × (k < other))

-- Of the groups in question, whose counts are a number or more, those with most slices go: as few
-- as count for what is needed together, or all.
pub record AreLetGo (needed least : ℕ) (counts slices go : List ℕ) : Type 0 where
  pub only : (k : ℕ) → k < length slices → 0 < slice_index go k → least ≤ slice_index counts k
  pub most : (k other : ℕ) → k < length slices → other < length slices → 0 < slice_index go k
      → slice_index go other ≡ 0 → least ≤ slice_index counts other → GoesBefore slices k other
  pub enough : (needed ≤ gone slices go)
      ⊎ ((k : ℕ) → k < length slices → least ≤ slice_index counts k → 0 < slice_index go k)
  pub few : (k : ℕ) → k < length slices → 0 < slice_index go k
      → gone slices go < needed + counted (slice_index slices k)

-- none of the first groups in question is held still
abbrev pub IsNobodyLeft : ℕ → List ℕ → List ℕ → ℕ → Type 0
IsNobodyLeft least counts go n =
    (k : ℕ) → k < n → least ≤ slice_index counts k → 0 < slice_index go k

-- the one of the first groups in question that goes next
pub record IsNext (least : ℕ) (counts slices go : List ℕ) (n next : ℕ) : Type 0 where
  pub below : next < n
  pub in_question : least ≤ slice_index counts next
  pub held : slice_index go next ≡ 0
  pub first : (other : ℕ) → other < n → (other ≡ next → ⊥) → least ≤ slice_index counts other
      → slice_index go other ≡ 0 → GoesBefore slices next other

-- the one that goes next, if one is left
abbrev pub IsNextOf : ℕ → List ℕ → List ℕ → List ℕ → ℕ → Option ℕ → Type 0
IsNextOf least counts slices go n None = IsNobodyLeft least counts go n
IsNextOf least counts slices go n (Some next) = IsNext least counts slices go n next

-- whether something went on for too long: for as many rounds as judge limits
abbrev pub is_long : ℕ → Bool
is_long rounds = nat_le JUDGED_ROUNDS rounds

-- whether it did so for one
abbrev pub any_long : List ℕ → Bool
any_long counts = list_any is_long counts

-- why groups go: a limit went back and forth, else slices were lost, else hunger was guessed
abbrev pub reason_of : List ℕ → ℕ → ℕ → LetGoReason
reason_of backs lost guesses =
    if any_long backs then Swings
    else (if lost == 0 then (if guesses == 0 then Nothing else Guesses) else Losses)

-- the rounds that put groups in question whose limits go back and forth: of those that asked so, if
-- there are some
abbrev pub swinging : List ℕ → List ℕ → List ℕ
swinging backs turns = if any_long turns then turns else backs

-- The groups that go for a reason: of those that swing the one whose use changed most, else those
-- that left most of their plans, or used most on a guess.
abbrev pub GoFor : LetGoReason → List ℕ → List ℕ → List ℕ → List ℕ → List ℕ → ℕ → ℕ → List ℕ
    → Type 0
GoFor Nothing backs turns moved left guessed lost guesses go =
    (k : ℕ) → k < length backs → slice_index go k ≡ 0
GoFor Swings backs turns moved left guessed lost guesses go =
    AreLetGo 1 JUDGED_ROUNDS (swinging backs turns) moved go
GoFor Losses backs turns moved left guessed lost guesses go = AreLetGo lost 1 left left go
GoFor Guesses backs turns moved left guessed lost guesses go = AreLetGo guesses 1 guessed guessed go

-- the number of a reason, by which callers of another language name it
abbrev pub reason_number : LetGoReason → ℕ
reason_number Nothing = 0
reason_number Swings = 1
reason_number Losses = 2
reason_number Guesses = 3
