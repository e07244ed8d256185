-- Readings of a group in a round: its hunger, and the slices that it asks for.
use Rattle.std.specs.Prelude.{ℕ, ◌+◌, ◌-◌, ◌*◌, ◌/◌, ◌^◌, ◌<◌, List, length, sum, sum_by}
use Rattle.std.specs.Prelude.{Bool, ◌&&◌, ◌||◌, not, nat_lt, nat_le, min, max, if◌then◌else◌}
use Rattle.std.specs.Prelude.{slice_index}
use Rattle.std.specs.List.{range_with_len}
use Rattle.bw_model.specs.Host.{Shape}
use Rattle.bw_model.specs.declared.limits.TheConstants.{MAX_DEMAND}
use Rattle.bw_questions.specs.declared.held.tasks.TaskSums.{TaskSums}
use Rattle.bw_questions.specs.declared.held.reading.RoundTimes.{RoundTimes}
use Rattle.bw_questions.specs.declared.held.reading.Reading.{Reading}

-- the nanoseconds in which a task neither ran nor waited for a processor
abbrev pub slept : ℕ → ℕ → ℕ → ℕ
slept passed ran waited = passed - ran - waited

-- A task is starved if it waited for a hundredth of the round or more, and slept for no longer than
-- that and than a twentieth of the round.
abbrev pub is_starved : ℕ → ℕ → ℕ → Bool
is_starved passed ran waited =
    nat_le passed (100 * waited) && nat_le (slept passed ran waited) waited
    && nat_le (20 * slept passed ran waited) passed

-- 1 for a starved task, and 0 for another
abbrev pub starved_one : ℕ → ℕ → ℕ → ℕ
starved_one passed ran waited = if is_starved passed ran waited then 1 else 0

-- the nanoseconds that a task could have run: the whole round if it is starved, else as it ran
abbrev pub could_run : ℕ → ℕ → ℕ → ℕ
could_run passed ran waited = if is_starved passed ran waited then passed else ran

-- a number of each task, added up
abbrev pub by_all : (ℕ → ℕ → ℕ) → List ℕ → List ℕ → ℕ
by_all each ran waited =
    sum_by (λ k. each (slice_index ran k) (slice_index waited k)) (range_with_len 0 (length ran))

-- the sums of the tasks of a group that were there at both readings, from what each ran and waited
unfoldable pub sums_of : ℕ → List ℕ → List ℕ → TaskSums
sums_of passed ran waited = record {
  count = length ran;
  ran = sum ran;
  could_run = by_all (could_run passed) ran waited;
  starved = by_all (starved_one passed) ran waited;
}

-- sums of fewer than 2 to the 32 tasks
pub record AreSums (tasks : TaskSums) : Type 0 where
  pub few : tasks.count < 2 ^ 32
  pub ran : tasks.ran < 2 ^ 96
  pub could_run : tasks.could_run < 2 ^ 96

-- whether the tasks ran for so many twentieths of what the group used, which is above 0
abbrev pub tell : ℕ → RoundTimes → TaskSums → Bool
tell parts times tasks =
    nat_lt 0 times.used_us && nat_le (parts * (1000 * times.used_us)) (20 * tasks.ran)

-- Whether a limit of its own stopped a group: it was throttled, or used all that the limit allowed.
abbrev pub is_stopped : RoundTimes → Bool
is_stopped times = times.is_throttled || nat_le times.allowed_us times.used_us

-- whether tasks of a group waited for a hundredth of the round
abbrev pub has_waited : RoundTimes → Bool
has_waited times = nat_le times.passed_ns (100 * (1000 * times.waited_us))

-- Whether it is a guess if a group would have used more: it was not stopped, its tasks waited, and
-- they do not tell of half of what was used.
abbrev pub is_guess : RoundTimes → TaskSums → Bool
is_guess times tasks = not (is_stopped times) && (has_waited times && not (tell 10 times tasks))

-- Whether a group would have used more. It would if it was stopped. Else not if its tasks did not
-- wait. Else if a task is starved. Where that is a guess, it is whether tasks waited for half of
-- the round.
abbrev pub is_hungry : RoundTimes → TaskSums → Bool
is_hungry times tasks =
    is_stopped times || (has_waited times
    && (if tell 10 times tasks then nat_lt 0 tasks.starved
    else nat_le times.passed_ns (2 * (1000 * times.waited_us))))

-- The most nanoseconds that a group could have used, and no less than it used. Of a stopped one
-- that is the whole round for each task. Else it is what each could have run, and the whole round
-- for one that came in it.
abbrev pub could_use : RoundTimes → TaskSums → ℕ
could_use times tasks = max (1000 * times.used_us)
    (if is_stopped times then times.tasks * times.passed_ns
    else tasks.could_run + (times.tasks - tasks.count) * times.passed_ns)

-- Whether a hungry group asks for everything: its tasks do not tell of 19 twentieths of what it
-- used, or they could have used all processors for the whole round.
abbrev pub asks_for_all : ℕ → RoundTimes → TaskSums → Bool
asks_for_all processors times tasks = not (tell 19 times tasks)
    || nat_le (processors * times.passed_ns) (could_use times tasks)

-- processor time of a round as slices of one period, rounded up, and at most the greatest demand
abbrev pub slices_of_time : Shape → ℕ → ℕ → ℕ
slices_of_time shape passed time =
    min MAX_DEMAND ((time * shape.period_us + (passed * shape.slice_us - 1))
    / (passed * shape.slice_us))

-- the slices that a group used
abbrev pub used_slices : Shape → RoundTimes → ℕ
used_slices shape times = slices_of_time shape times.passed_ns (1000 * times.used_us)

-- The slices that a group asks for. A hungry one asks for the most that it could have used or for
-- everything, another for what it used.
abbrev pub asked_slices : Shape → RoundTimes → TaskSums → ℕ
asked_slices shape times tasks =
    if is_hungry times tasks
    then (if asks_for_all shape.processors times tasks then MAX_DEMAND
    else slices_of_time shape times.passed_ns (could_use times tasks))
    else used_slices shape times

-- the reading of a group
abbrev pub reading_in : Shape → RoundTimes → TaskSums → Reading
reading_in shape times tasks = record {
  used = used_slices shape times;
  asked = asked_slices shape times tasks;
  is_hungry = is_hungry times tasks;
  is_guess = is_guess times tasks;
}
