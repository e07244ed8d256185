-- Amounts and parts of limits that a scheduler is given, in an owner's words.
use Rattle.std.specs.Prelude.{◌≡◌, ℕ, ◌+◌, ◌*◌, ◌<◌, ◌≤◌, Bool, true, false, List, length, sum}
use Rattle.std.specs.Prelude.{sum_by, min, max, slice_index}
use Rattle.std.specs.List.{range_with_len}
use Rattle.bw_questions.specs.Served.{served_amount, part_of}

-- A row whose floor is above its plan is given as many times its floor as the others are planned of
-- theirs. `theirs` has the floors of the others, and `given` their plans.
pub record AmountsKeepShares : Type 0 where
  -- no row is given less than its floor or its plan
  pub enough : (theirs given floor amount : ℕ)
      → max floor amount ≤ served_amount theirs given floor amount
  -- a row that is planned its floor is given its plan
  pub planned : (theirs given floor amount : ℕ) → floor ≤ amount
      → served_amount theirs given floor amount ≡ amount
  -- where the others are planned no more than their floors, it is given the floor
  pub no_more_beside_none : (theirs given floor amount : ℕ) → given ≤ theirs → amount < floor
      → served_amount theirs given floor amount ≡ floor
  -- where the others are planned a number of times their floors, it is given its floor as often
  pub times : (theirs floor amount often : ℕ) → 0 < theirs → amount < floor → 1 ≤ often
      → served_amount theirs (often * theirs) floor amount ≡ often * floor
  -- it stands to the others' plans no higher than its floor to their floors
  pub no_more : (theirs given floor amount : ℕ) → amount < floor → theirs ≤ given
      → served_amount theirs given floor amount * theirs ≤ floor * given
  -- one slice more would stand higher
  pub lost_below_one : (theirs given floor amount : ℕ) → 0 < theirs → amount < floor
      → floor * given < (served_amount theirs given floor amount + 1) * theirs
  -- it is given no less where the others are planned more
  pub rises_with_plans : (theirs given more floor amount : ℕ) → given ≤ more
      → served_amount theirs given floor amount ≤ served_amount theirs more floor amount
  -- it is given no less where its floor is greater
  pub rises_with_floor : (theirs given floor more amount : ℕ) → floor ≤ more
      → served_amount theirs given floor amount ≤ served_amount theirs given more amount
  -- it is given no more where the others' floors are greater
  pub falls_with_floors : (theirs more given floor amount : ℕ) → 0 < theirs → theirs ≤ more
      → served_amount more given floor amount ≤ served_amount theirs given floor amount

-- The part that a leaf has of a limit. The row of the limit is planned `above`, and the leaf
-- `amount`; the round limits the leaf to `held`.
pub record PartsAreWithin : Type 0 where
  -- no part is above the limit
  pub within : (calm : Bool) (limit above amount held : ℕ)
      → part_of calm limit above amount held ≤ limit
  -- in a calm round the part is the limit
  pub calm_has_all : (limit above amount held : ℕ) → part_of true limit above amount held ≡ limit
  -- so it is where the row is planned nothing
  pub unplanned_has_all : (calm : Bool) (limit amount held : ℕ)
      → part_of calm limit 0 amount held ≡ limit
  -- and where the leaf is planned all that its row is
  pub alone_has_all : (calm : Bool) (limit above held : ℕ)
      → part_of calm limit above above held ≡ limit
  -- a leaf that is planned nothing has what the round limits it to, within the limit
  pub idle_has_its_own : (limit above held : ℕ) → 0 < above
      → part_of false limit above 0 held ≡ min limit held
  -- no leaf has less than the round limits it to, within the limit
  pub no_less_than_held : (calm : Bool) (limit above amount held : ℕ)
      → min limit held ≤ part_of calm limit above amount held
  -- one slice more is above its share of the limit
  pub lost_below_one : (calm : Bool) (limit above amount held : ℕ) → 0 < above → amount ≤ above
      → limit * amount < (part_of calm limit above amount held + 1) * above
  -- beyond what the round limits it to, it has no more than its share
  pub no_more : (limit above amount held : ℕ) → 0 < above
      → held < part_of false limit above amount held
      → part_of false limit above amount held * above ≤ limit * amount
  -- it has no less of a greater limit
  pub rises_with_limit : (calm : Bool) (limit more above amount held : ℕ) → limit ≤ more
      → part_of calm limit above amount held ≤ part_of calm more above amount held
  -- it has no less where it is planned more
  pub rises_with_plan : (calm : Bool) (limit above amount more held : ℕ) → amount ≤ more
      → part_of calm limit above amount held ≤ part_of calm limit above more held
  -- it has no more where its row is planned more
  pub falls_with_row : (calm : Bool) (limit above more amount held : ℕ) → above ≤ more
      → part_of calm limit more amount held ≤ part_of calm limit above amount held

-- the parts of the leaves under a limit, added up, where their plans are that of its row
abbrev pub sum_of_parts : ℕ → List ℕ → List ℕ → ℕ
sum_of_parts limit planned held =
    sum_by (λ k. part_of false limit (sum planned) (slice_index planned k) (slice_index held k))
    (range_with_len 0 (length planned))

-- The parts of all leaves under a limit.
pub record PartsFillTheLimit : Type 0 where
  -- all of the limit is theirs, but for less than one slice a leaf
  pub lost_below_one_each : (limit : ℕ) (planned held : List ℕ) → 0 < length planned
      → limit < sum_of_parts limit planned held + length planned
  -- no more than the limit is theirs where none is limited to more than its share
  pub no_more : (limit : ℕ) (planned held : List ℕ) → 0 < sum planned
      → ((k : ℕ) → k < length planned
      → slice_index held k * sum planned ≤ limit * slice_index planned k)
      → sum_of_parts limit planned held ≤ limit
