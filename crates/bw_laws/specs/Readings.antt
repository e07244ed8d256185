-- Readings in an owner's words: which groups are hungry, and what they ask for.
use Rattle.std.specs.Prelude.{◌≡◌, ◌↔◌, ◌⊎◌, ℕ, ◌+◌, ◌*◌, ◌<◌, ◌≤◌, List, true, false, length, sum}
use Rattle.std.specs.Prelude.{min, max, slice_index}
use Rattle.bw_model.specs.Host.{Shape, IsHost, slices_per_processor}
use Rattle.bw_model.specs.declared.limits.TheConstants.{MAX_DEMAND}
use Rattle.bw_questions.specs.declared.held.leaf.LeafTimes.{LeafTimes}
use Rattle.bw_questions.specs.declared.held.reading.RoundTimes.{RoundTimes}
use Rattle.bw_questions.specs.Hunger.{is_hungry, could_use, slices_of_time, sums_of, used_slices}
use Rattle.bw_questions.specs.Hunger.{asked_slices}
use Rattle.bw_questions.specs.LeafReadings.{leaf_reading}

-- Processor time as slices of one period.
pub record SlicesCoverTime : Type 0 where
  -- the slices cover the time, but for the greatest demand
  pub enough : (shape : Shape) (passed time : ℕ) → IsHost shape → 1 ≤ passed
      → slices_of_time shape passed time < MAX_DEMAND
      → time * shape.period_us ≤ slices_of_time shape passed time * (passed * shape.slice_us)
  -- one slice less does not
  pub none_too_many : (shape : Shape) (passed time : ℕ) → IsHost shape → 1 ≤ passed
      → slices_of_time shape passed time * (passed * shape.slice_us)
      < time * shape.period_us + passed * shape.slice_us
  -- whole processors for the whole round are their slices
  pub whole : (shape : Shape) (passed processors : ℕ) → IsHost shape → 1 ≤ passed
      → slices_of_time shape passed (processors * passed)
      ≡ min MAX_DEMAND (processors * slices_per_processor shape)
  -- more time is no fewer slices
  pub rises : (shape : Shape) (passed time more : ℕ) → IsHost shape → 1 ≤ passed → time ≤ more
      → slices_of_time shape passed time ≤ slices_of_time shape passed more

-- No limit of its own stopped the group.
pub record IsFree (times : RoundTimes) : Type 0 where
  pub not_throttled : times.is_throttled ≡ false
  pub below : times.used_us < times.allowed_us

-- The group used some time, and its tasks that were there at both readings ran for half of it.
pub record TellOfHalf (times : RoundTimes) (ran : List ℕ) : Type 0 where
  pub some : 0 < times.used_us
  pub half : 1000 * times.used_us ≤ 2 * sum ran

-- A task never slept, and waited for a hundredth of the round. The group's time counts it.
pub record IsLacking (times : RoundTimes) (ran waited : ℕ) : Type 0 where
  pub awake : times.passed_ns ≤ ran + waited
  pub long : times.passed_ns ≤ 100 * waited
  pub counted : waited ≤ 1000 * times.waited_us

-- A task waited for less than a hundredth of the round, or slept for longer than it waited or for
-- more than a twentieth of the round.
abbrev pub IsRested : ℕ → ℕ → ℕ → Type 0
IsRested passed ran waited = (100 * waited < passed) ⊎ (ran + 2 * waited < passed)
    ⊎ (20 * (ran + waited) < 19 * passed)

-- Each task did so.
abbrev pub AreRested : RoundTimes → List ℕ → List ℕ → Type 0
AreRested times ran waited = (k : ℕ) → k < length ran
    → IsRested times.passed_ns (slice_index ran k) (slice_index waited k)

-- A group is hungry where it lacked processors, and not where it did not.
pub record HungerIsLack : Type 0 where
  -- one that used all that its limit allows is hungry
  pub at_limit : (times : RoundTimes) (ran waited : List ℕ) → times.allowed_us ≤ times.used_us
      → is_hungry times (sums_of times.passed_ns ran waited) ≡ true
  -- so is one that was throttled
  pub throttled : (times : RoundTimes) (ran waited : List ℕ) → times.is_throttled ≡ true
      → is_hungry times (sums_of times.passed_ns ran waited) ≡ true
  -- and one with a task that used all that it was given, and lacked more
  pub lacking : (times : RoundTimes) (ran waited : List ℕ) (k : ℕ) → TellOfHalf times ran
      → k < length ran → IsLacking times (slice_index ran k) (slice_index waited k)
      → is_hungry times (sums_of times.passed_ns ran waited) ≡ true
  -- one whose tasks waited for less than a hundredth of the round is not
  pub unwaited : (times : RoundTimes) (ran waited : List ℕ) → IsFree times
      → 100 * (1000 * times.waited_us) < times.passed_ns
      → is_hungry times (sums_of times.passed_ns ran waited) ≡ false
  -- nor is one whose tasks all were rested
  pub rested : (times : RoundTimes) (ran waited : List ℕ) → IsFree times → TellOfHalf times ran
      → AreRested times ran waited
      → is_hungry times (sums_of times.passed_ns ran waited) ≡ false
  -- where the tasks tell too little, it is hungry if and only if tasks waited for half of the round
  pub guessed : (times : RoundTimes) (ran waited : List ℕ) → IsFree times
      → (times.used_us ≡ 0) ⊎ (2 * sum ran < 1000 * times.used_us)
      → (is_hungry times (sums_of times.passed_ns ran waited) ≡ true)
      ↔ (times.passed_ns ≤ 2 * (1000 * times.waited_us))

-- No task that was there at both readings ran for longer than the round, and `came` tasks came.
pub record AreTasks (times : RoundTimes) (ran : List ℕ) (came : ℕ) : Type 0 where
  pub count : length ran + came ≡ times.tasks
  pub each : (k : ℕ) → k < length ran → slice_index ran k ≤ times.passed_ns

-- The most that a group could have used, in nanoseconds.
pub record TasksBoundUse : Type 0 where
  -- it is no less than it used
  pub no_less : (times : RoundTimes) (ran waited : List ℕ)
      → 1000 * times.used_us ≤ could_use times (sums_of times.passed_ns ran waited)
  -- it is no more than the whole round for each of its tasks, or what it used
  pub no_more : (times : RoundTimes) (ran waited : List ℕ) (came : ℕ) → AreTasks times ran came
      → could_use times (sums_of times.passed_ns ran waited)
      ≤ max (1000 * times.used_us) (times.tasks * times.passed_ns)
  -- where a limit stopped it, it is no less than the whole round for each
  pub stopped : (times : RoundTimes) (ran waited : List ℕ)
      → (times.is_throttled ≡ true) ⊎ (times.allowed_us ≤ times.used_us)
      → times.tasks * times.passed_ns ≤ could_use times (sums_of times.passed_ns ran waited)
  -- it is no less than what its tasks ran, and the whole round for each that came
  pub came : (times : RoundTimes) (ran waited : List ℕ) (came : ℕ) → AreTasks times ran came
      → sum ran + came * times.passed_ns ≤ could_use times (sums_of times.passed_ns ran waited)
  -- a task that lacked processors counts for the whole round
  pub lacking : (times : RoundTimes) (ran waited : List ℕ) (came k : ℕ) → AreTasks times ran came
      → k < length ran → IsLacking times (slice_index ran k) (slice_index waited k)
      → sum ran + came * times.passed_ns + times.passed_ns
      ≤ could_use times (sums_of times.passed_ns ran waited) + slice_index ran k
  -- it is what it used where no limit stopped it, no task came, and all were rested
  pub rested : (times : RoundTimes) (ran waited : List ℕ) → IsFree times → AreTasks times ran 0
      → sum ran ≤ 1000 * times.used_us → AreRested times ran waited
      → could_use times (sums_of times.passed_ns ran waited) ≡ 1000 * times.used_us

-- The slices that a group asks for.
pub record AskedCoversUse : Type 0 where
  -- it asks for no less than it used
  pub no_less : (shape : Shape) (times : RoundTimes) (ran waited : List ℕ) → IsHost shape
      → 1 ≤ times.passed_ns
      → used_slices shape times
      ≤ asked_slices shape times (sums_of times.passed_ns ran waited)
  -- where it is not hungry, it asks for what it used
  pub others : (shape : Shape) (times : RoundTimes) (ran waited : List ℕ)
      → is_hungry times (sums_of times.passed_ns ran waited) ≡ false
      → asked_slices shape times (sums_of times.passed_ns ran waited) ≡ used_slices shape times
  -- it asks for no more than a processor for each task, or what it used, unless for everything
  pub no_more : (shape : Shape) (times : RoundTimes) (ran waited : List ℕ) (came : ℕ)
      → IsHost shape → 1 ≤ times.passed_ns → AreTasks times ran came
      → (asked_slices shape times (sums_of times.passed_ns ran waited) ≡ MAX_DEMAND)
      ⊎ (asked_slices shape times (sums_of times.passed_ns ran waited)
      ≤ max (used_slices shape times) (times.tasks * slices_per_processor shape))

-- A group asks for everything just where it is hungry for one of three reasons. It used nothing,
-- or its tasks that were there at both readings ran for less than 19 twentieths of what it used, or
-- it could have used the whole host.
abbrev pub EverythingHasAReason : Type 0
EverythingHasAReason = (shape : Shape) (times : RoundTimes) (ran waited : List ℕ) → IsHost shape
    → 1 ≤ times.passed_ns → 1000 * times.used_us ≤ shape.processors * times.passed_ns
    → (asked_slices shape times (sums_of times.passed_ns ran waited) ≡ MAX_DEMAND)
    ↔ ((is_hungry times (sums_of times.passed_ns ran waited) ≡ true)
    × ((times.used_us ≡ 0) ⊎ (20 * sum ran < 19 * (1000 * times.used_us))
    ⊎ (shape.processors * times.passed_ns
    ≤ could_use times (sums_of times.passed_ns ran waited))))

-- A leaf that a scheduler serves, which counts how long its tasks waited.
pub record LeafAsksForItsWaiting : Type 0 where
  -- it asks for no less than it used
  pub no_less : (shape : Shape) (times : LeafTimes) → IsHost shape → 1 ≤ times.passed
      → (leaf_reading shape times).used ≤ (leaf_reading shape times).asked
  -- it is hungry if and only if it asks for more
  pub hungry : (shape : Shape) (times : LeafTimes)
      → ((leaf_reading shape times).is_hungry ≡ true)
      ↔ ((leaf_reading shape times).used < (leaf_reading shape times).asked)
  -- it had all where it was idle for more than a twentieth of the round
  pub idle : (shape : Shape) (times : LeafTimes)
      → 20 * (times.used + times.some_waited) < 19 * times.passed
      → ((leaf_reading shape times).asked ≡ (leaf_reading shape times).used)
      × ((leaf_reading shape times).is_hungry ≡ false)
  -- and where no task waited
  pub unwaited : (shape : Shape) (times : LeafTimes) → times.waited ≡ 0
      → ((leaf_reading shape times).asked ≡ (leaf_reading shape times).used)
      × ((leaf_reading shape times).is_hungry ≡ false)
  -- else it is hungry where its tasks waited for a slice of each period
  pub lacking : (shape : Shape) (times : LeafTimes) → IsHost shape → 1 ≤ times.passed
      → 19 * times.passed ≤ 20 * (times.used + times.some_waited)
      → times.passed * shape.slice_us ≤ times.waited * shape.period_us
      → (leaf_reading shape times).used < MAX_DEMAND
      → (leaf_reading shape times).is_hungry ≡ true
