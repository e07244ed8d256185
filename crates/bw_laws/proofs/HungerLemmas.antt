-- Readings of a group: its hunger, and what it asks for.
use Rattle.std.proofs.Common.{◌≡◌, ℕ, zero, suc, ◌+◌, ◌-◌, ◌*◌, ◌<◌, ◌≤◌, ◌⊎◌, Bool, true, false}
use Rattle.std.proofs.Common.{List, length, get_or, refl, ap, subst, sym, ◌∙◌, arith, inl, inr}
use Rattle.std.specs.Prelude.{max, sum, nat_lt, nat_le, not, ◌&&◌, ◌||◌, if◌then◌else◌}
use Rattle.std.proofs.lemmas.Bool.{cases_Bool, cases_eq, cases_lt, lt-ltb, le-ltb, le-leb, lt-leb}
use Rattle.std.proofs.lemmas.Bool.{leb-true, leb-false, ltb-false, and_from, and_left, and_right}
use Rattle.std.proofs.lemmas.Bool.{and_cases, and_parts, or_left, or_right, or_cases}
use Rattle.std.proofs.lemmas.Bool.{not-true, not_from_false}
use Rattle.bw_model.specs.Host.{Shape, IsHost, slices_per_processor}
use Rattle.bw_model.specs.declared.limits.TheConstants.{MAX_DEMAND}
use Rattle.bw_model.proofs.CallerLemmas.{sum_below, sum-is, sum_below-ap, sum_below-le}
use Rattle.bw_model.proofs.CallerLemmas.{sum_below-term, sum_below-zero, sum_by-range}
use Rattle.bw_questions.specs.declared.held.reading.RoundTimes.{RoundTimes}
use Rattle.bw_questions.specs.Hunger.{is_starved, starved_one, could_run, sums_of, tell, slept}
use Rattle.bw_questions.specs.Hunger.{is_stopped, has_waited, is_hungry, could_use, asks_for_all}
use Rattle.bw_questions.specs.Hunger.{slices_of_time, used_slices, asked_slices}
use Rattle.bw_laws.specs.Readings.{IsFree, TellOfHalf, IsLacking, IsRested, AreRested, AreTasks}
use Rattle.bw_laws.specs.Readings.{HungerIsLack}
use Rattle.bw_laws.specs.Readings.{TasksBoundUse, AskedCoversUse, EverythingHasAReason}
use Rattle.bw_laws.proofs.SliceLemmas.{slices_rise, slices_whole, slices_within}

-- Sums of tasks

ran_is : (passed : ℕ) (ran waited : List ℕ) → (sums_of passed ran waited).ran ≡ sum ran
unfolding sums_of
ran_is passed ran waited = refl

count_is : (passed : ℕ) (ran waited : List ℕ) → (sums_of passed ran waited).count ≡ length ran
unfolding sums_of
count_is passed ran waited = refl

-- the number of a task
abbrev each_task : (ℕ → ℕ → ℕ) → List ℕ → List ℕ → ℕ → ℕ
each_task each ran waited k = each (get_or ran k 0) (get_or waited k 0)

starved_is : (passed : ℕ) (ran waited : List ℕ) → (sums_of passed ran waited).starved
    ≡ sum_below (length ran) (each_task (starved_one passed) ran waited)
unfolding sums_of
starved_is passed ran waited = sum_by-range (each_task (starved_one passed) ran waited) (length ran)

could_run_is : (passed : ℕ) (ran waited : List ℕ) → (sums_of passed ran waited).could_run
    ≡ sum_below (length ran) (each_task (could_run passed) ran waited)
unfolding sums_of
could_run_is passed ran waited = sum_by-range (each_task (could_run passed) ran waited) (length ran)

sum_same : (n c : ℕ) → sum_below n (λ k. c) ≡ n * c
sum_same zero c = omega arith
sum_same (suc n) c = omega (arith, sum_same n c)

-- a task that never slept, and waited for a hundredth of the round, is starved
starved_yes : (passed ran waited : ℕ) → passed ≤ ran + waited → passed ≤ 100 * waited
    → is_starved passed ran waited ≡ true
starved_yes passed ran waited awake long =
    let none : slept passed ran waited ≡ 0 = omega (arith, awake) in
    and_from (nat_le passed (100 * waited) && nat_le (slept passed ran waited) waited)
    (nat_le (20 * slept passed ran waited) passed)
    (and_from (nat_le passed (100 * waited)) (nat_le (slept passed ran waited) waited)
    (le-leb passed (100 * waited) long)
    (le-leb (slept passed ran waited) waited (omega (arith, none))))
    (le-leb (20 * slept passed ran waited) passed (omega (arith, none)))

starved_no : (passed ran waited : ℕ) → IsRested passed ran waited
    → is_starved passed ran waited ≡ false
starved_no passed ran waited rested = elim rested [
  | inl short ↦ and_left (nat_le passed (100 * waited)
      && nat_le (slept passed ran waited) waited) (nat_le (20 * slept passed ran waited) passed)
      (and_left (nat_le passed (100 * waited)) (nat_le (slept passed ran waited) waited)
      (lt-leb passed (100 * waited) short))
  | inr (inl longer) ↦ and_left (nat_le passed (100 * waited)
      && nat_le (slept passed ran waited) waited) (nat_le (20 * slept passed ran waited) passed)
      (and_right (nat_le passed (100 * waited)) (nat_le (slept passed ran waited) waited)
      (lt-leb (slept passed ran waited) waited (omega (arith, longer))))
  | inr (inr long) ↦ and_right (nat_le passed (100 * waited)
      && nat_le (slept passed ran waited) waited) (nat_le (20 * slept passed ran waited) passed)
      (lt-leb (20 * slept passed ran waited) passed (omega (arith, long)))
]

-- Hunger

tells : (times : RoundTimes) (ran waited : List ℕ) → TellOfHalf times ran
    → tell 10 times (sums_of times.passed_ns ran waited) ≡ true
tells times ran waited half =
    let tasks = sums_of times.passed_ns ran waited in
    and_from (nat_lt 0 times.used_us) (nat_le (10 * (1000 * times.used_us)) (20 * tasks.ran))
    (lt-ltb 0 times.used_us half.some)
    (le-leb (10 * (1000 * times.used_us)) (20 * tasks.ran)
    (omega (arith, half.half, ran_is times.passed_ns ran waited)))

free : (times : RoundTimes) → IsFree times → is_stopped times ≡ false
free times is = ap (λ b. b || nat_le times.allowed_us times.used_us) is.not_throttled
    ∙ lt-leb times.allowed_us times.used_us is.below

-- the hunger of a group that was not stopped
abbrev unmet : RoundTimes → List ℕ → List ℕ → Bool
unmet times ran waited = has_waited times
    && (if tell 10 times (sums_of times.passed_ns ran waited)
    then nat_lt 0 (sums_of times.passed_ns ran waited).starved
    else nat_le times.passed_ns (2 * (1000 * times.waited_us)))

stopped_hungry : (times : RoundTimes) (ran waited : List ℕ) → is_stopped times ≡ true
    → is_hungry times (sums_of times.passed_ns ran waited) ≡ true
stopped_hungry times ran waited stopped =
    or_left (is_stopped times) (unmet times ran waited) stopped

unmet_hungry : (times : RoundTimes) (ran waited : List ℕ) → unmet times ran waited ≡ true
    → is_hungry times (sums_of times.passed_ns ran waited) ≡ true
unmet_hungry times ran waited lacks =
    or_right (is_stopped times) (unmet times ran waited) lacks

met_not : (times : RoundTimes) (ran waited : List ℕ) → IsFree times
    → unmet times ran waited ≡ false
    → is_hungry times (sums_of times.passed_ns ran waited) ≡ false
met_not times ran waited is met = ap (λ b. b || unmet times ran waited) (free times is) ∙ met

told : (times : RoundTimes) (ran waited : List ℕ)
    → tell 10 times (sums_of times.passed_ns ran waited) ≡ true
    → (if tell 10 times (sums_of times.passed_ns ran waited)
    then nat_lt 0 (sums_of times.passed_ns ran waited).starved
    else nat_le times.passed_ns (2 * (1000 * times.waited_us)))
    ≡ nat_lt 0 (sums_of times.passed_ns ran waited).starved
told times ran waited tell' =
    ap (λ b. if b then nat_lt 0 (sums_of times.passed_ns ran waited).starved
    else nat_le times.passed_ns (2 * (1000 * times.waited_us))) tell'

lacking_hungry : (times : RoundTimes) (ran waited : List ℕ) (k : ℕ) → TellOfHalf times ran
    → k < length ran → IsLacking times (get_or ran k 0) (get_or waited k 0)
    → is_hungry times (sums_of times.passed_ns ran waited) ≡ true
lacking_hungry times ran waited k half below lacks =
    let passed = times.passed_ns in
    let tasks = sums_of passed ran waited in
    let starved : is_starved passed (get_or ran k 0) (get_or waited k 0) ≡ true =
    starved_yes passed (get_or ran k 0) (get_or waited k 0) lacks.awake lacks.long in
    let one : each_task (starved_one passed) ran waited k ≡ 1 =
    ap (λ b. if b then 1 else 0) starved in
    let term = sum_below-term (length ran) k (each_task (starved_one passed) ran waited) below in
    let some : 0 < tasks.starved = omega (arith, one, term, starved_is passed ran waited) in
    unmet_hungry times ran waited (and_from (has_waited times) _
    (le-leb passed (100 * (1000 * times.waited_us)) (omega (arith, lacks.long, lacks.counted)))
    (told times ran waited (tells times ran waited half) ∙ lt-ltb 0 tasks.starved some))

unwaited_not : (times : RoundTimes) (ran waited : List ℕ) → IsFree times
    → 100 * (1000 * times.waited_us) < times.passed_ns
    → is_hungry times (sums_of times.passed_ns ran waited) ≡ false
unwaited_not times ran waited is less =
    met_not times ran waited is (and_left (has_waited times) _
    (lt-leb times.passed_ns (100 * (1000 * times.waited_us)) less))

none_starved : (times : RoundTimes) (ran waited : List ℕ) → AreRested times ran waited
    → (sums_of times.passed_ns ran waited).starved ≡ 0
none_starved times ran waited rested = starved_is times.passed_ns ran waited
    ∙ sum_below-zero (length ran) (each_task (starved_one times.passed_ns) ran waited)
    (λ k below. ap (λ b. if b then 1 else 0)
    (starved_no times.passed_ns (get_or ran k 0) (get_or waited k 0) (rested k below)))

rested_not : (times : RoundTimes) (ran waited : List ℕ) → IsFree times → TellOfHalf times ran
    → AreRested times ran waited → is_hungry times (sums_of times.passed_ns ran waited) ≡ false
rested_not times ran waited is half rested =
    let tasks = sums_of times.passed_ns ran waited in
    met_not times ran waited is (and_right (has_waited times) _
    (told times ran waited (tells times ran waited half)
    ∙ le-ltb 0 tasks.starved (omega (arith, none_starved times ran waited rested))))

tells_not : (times : RoundTimes) (ran waited : List ℕ)
    → (times.used_us ≡ 0) ⊎ (2 * sum ran < 1000 * times.used_us)
    → tell 10 times (sums_of times.passed_ns ran waited) ≡ false
tells_not times ran waited little =
    let tasks = sums_of times.passed_ns ran waited in
    elim little [
      | inl none ↦ and_left (nat_lt 0 times.used_us)
          (nat_le (10 * (1000 * times.used_us)) (20 * tasks.ran))
          (le-ltb 0 times.used_us (omega (arith, none)))
      | inr less ↦ and_right (nat_lt 0 times.used_us)
          (nat_le (10 * (1000 * times.used_us)) (20 * tasks.ran))
          (lt-leb (10 * (1000 * times.used_us)) (20 * tasks.ran)
          (omega (arith, less, ran_is times.passed_ns ran waited)))
    ]

-- whether tasks waited for half of the round
abbrev half_waited : RoundTimes → Bool
half_waited times = nat_le times.passed_ns (2 * (1000 * times.waited_us))

guess_is : (times : RoundTimes) (ran waited : List ℕ) → IsFree times
    → (times.used_us ≡ 0) ⊎ (2 * sum ran < 1000 * times.used_us)
    → is_hungry times (sums_of times.passed_ns ran waited)
    ≡ (has_waited times && half_waited times)
guess_is times ran waited is little =
    let tasks = sums_of times.passed_ns ran waited in
    ap (λ b. b || unmet times ran waited) (free times is)
    ∙ ap (λ b. has_waited times && (if b then nat_lt 0 tasks.starved else half_waited times))
    (tells_not times ran waited little)

guess_waited : (times : RoundTimes) → (has_waited times && half_waited times) ≡ true
    → times.passed_ns ≤ 2 * (1000 * times.waited_us)
guess_waited times e = leb-true times.passed_ns (2 * (1000 * times.waited_us))
    (and_parts (has_waited times) (half_waited times) e).1

waited_guess : (times : RoundTimes) → times.passed_ns ≤ 2 * (1000 * times.waited_us)
    → (has_waited times && half_waited times) ≡ true
waited_guess times long = and_from (has_waited times) (half_waited times)
    (le-leb times.passed_ns (100 * (1000 * times.waited_us)) (omega (arith, long)))
    (le-leb times.passed_ns (2 * (1000 * times.waited_us)) long)

pub hunger : HungerIsLack
hunger = record {
  at_limit = λ times ran waited all. stopped_hungry times ran waited
      (or_right times.is_throttled (nat_le times.allowed_us times.used_us)
      (le-leb times.allowed_us times.used_us all));
  throttled = λ times ran waited is. stopped_hungry times ran waited
      (or_left times.is_throttled (nat_le times.allowed_us times.used_us) is);
  lacking = lacking_hungry;
  unwaited = unwaited_not;
  rested = rested_not;
  guessed = λ times ran waited is little. (
    λ hungry. guess_waited times (sym (guess_is times ran waited is little) ∙ hungry),
    λ long. guess_is times ran waited is little ∙ waited_guess times long,
  );
}

-- What a group could have used

-- what a group could have used whose limit stopped it, or did not
abbrev most_of : Bool → RoundTimes → List ℕ → List ℕ → ℕ
most_of stopped times ran waited = if stopped then times.tasks * times.passed_ns
    else (sums_of times.passed_ns ran waited).could_run
    + (times.tasks - (sums_of times.passed_ns ran waited).count) * times.passed_ns

use_where : (times : RoundTimes) (ran waited : List ℕ) (stopped : Bool)
    → is_stopped times ≡ stopped → could_use times (sums_of times.passed_ns ran waited)
    ≡ max (1000 * times.used_us) (most_of stopped times ran waited)
use_where times ran waited stopped is =
    ap (λ b. max (1000 * times.used_us) (most_of b times ran waited)) is

could_run_le : (passed ran waited : ℕ) → ran ≤ passed → could_run passed ran waited ≤ passed
could_run_le passed ran waited within = elim (cases_Bool (is_starved passed ran waited)) [
  | inl yes' ↦ rw yes' (omega arith)
  | inr no' ↦ rw no' within
]

-- the whole round for each task that came
came_is : (times : RoundTimes) (ran waited : List ℕ) (came : ℕ) → AreTasks times ran came
    → (times.tasks - (sums_of times.passed_ns ran waited).count) * times.passed_ns
    ≡ came * times.passed_ns
came_is times ran waited came are = ap (λ n. n * times.passed_ns)
    (omega (arith, are.count, count_is times.passed_ns ran waited))

tasks_is : (times : RoundTimes) (ran : List ℕ) (came : ℕ) → AreTasks times ran came
    → length ran * times.passed_ns + came * times.passed_ns ≡ times.tasks * times.passed_ns
tasks_is times ran came are =
    let all : (length ran + came) * times.passed_ns ≡ times.tasks * times.passed_ns =
    ap (λ n. n * times.passed_ns) are.count in
    omega (arith, all)

all_could_run_le : (times : RoundTimes) (ran waited : List ℕ) (came : ℕ) → AreTasks times ran came
    → sum_below (length ran) (each_task (could_run times.passed_ns) ran waited)
    ≤ length ran * times.passed_ns
all_could_run_le times ran waited came are =
    let passed = times.passed_ns in
    let all = sum_below-le (length ran) (each_task (could_run passed) ran waited) (λ k. passed)
    (λ k below. could_run_le passed (get_or ran k 0) (get_or waited k 0) (are.each k below)) in
    omega (arith, all, sum_same (length ran) passed)

most_le : (times : RoundTimes) (ran waited : List ℕ) (came : ℕ) → AreTasks times ran came
    → most_of (is_stopped times) times ran waited ≤ times.tasks * times.passed_ns
most_le times ran waited came are = elim (cases_Bool (is_stopped times)) [
  | inl yes' ↦ rw yes' (omega arith)
  | inr no' ↦ rw no' (omega (
    arith,
    all_could_run_le times ran waited came are,
    could_run_is times.passed_ns ran waited,
    came_is times ran waited came are,
    tasks_is times ran came are,
  ))
]

use_le : (times : RoundTimes) (ran waited : List ℕ) (came : ℕ) → AreTasks times ran came
    → could_use times (sums_of times.passed_ns ran waited)
    ≤ max (1000 * times.used_us) (times.tasks * times.passed_ns)
use_le times ran waited came are = omega (arith, most_le times ran waited came are)

stopped_where : (times : RoundTimes)
    → (times.is_throttled ≡ true) ⊎ (times.allowed_us ≤ times.used_us)
    → is_stopped times ≡ true
stopped_where times why = elim why [
  | inl is ↦ or_left times.is_throttled (nat_le times.allowed_us times.used_us) is
  | inr all ↦ or_right times.is_throttled (nat_le times.allowed_us times.used_us)
      (le-leb times.allowed_us times.used_us all)
]

stopped_use : (times : RoundTimes) (ran waited : List ℕ) → is_stopped times ≡ true
    → times.tasks * times.passed_ns ≤ could_use times (sums_of times.passed_ns ran waited)
stopped_use times ran waited stopped = omega (arith, use_where times ran waited true stopped)

could_run_ge : (passed ran waited : ℕ) → ran ≤ passed → ran ≤ could_run passed ran waited
could_run_ge passed ran waited within = elim (cases_Bool (is_starved passed ran waited)) [
  | inl yes' ↦ rw yes' within
  | inr no' ↦ rw no' (omega arith)
]

-- A sum grows by what one term grows.
sum_gain : (n k d : ℕ) (f g : ℕ → ℕ) → ((i : ℕ) → i < n → f i ≤ g i) → k < n → f k + d ≤ g k
    → sum_below n f + d ≤ sum_below n g
sum_gain zero k d f g each below more = absurd (omega (arith, below))
sum_gain (suc n) k d f g each below more = elim (cases_eq k n) [
  | inl last ↦
      let front : sum_below n f ≤ sum_below n g =
      sum_below-le n f g (λ i i_in. each i (omega (arith, i_in))) in
      let here : f n + d ≤ g n = subst (λ (i : ℕ). f i + d ≤ g i) last more in
      omega (arith, front, here)
  | inr other ↦
      let front : sum_below n f + d ≤ sum_below n g =
      sum_gain n k d f g (λ i i_in. each i (omega (arith, i_in))) (omega (arith, below, other))
      more in
      let end : f n ≤ g n = each n (omega arith) in
      omega (arith, front, end)
]

-- what a group could have used is no less than what its tasks could have run, and came
run_use : (times : RoundTimes) (ran waited : List ℕ) (came : ℕ) → AreTasks times ran came
    → sum_below (length ran) (each_task (could_run times.passed_ns) ran waited)
    + came * times.passed_ns ≤ could_use times (sums_of times.passed_ns ran waited)
run_use times ran waited came are = elim (cases_Bool (is_stopped times)) [
  | inl yes' ↦ omega (
    arith,
    all_could_run_le times ran waited came are,
    tasks_is times ran came are,
    stopped_use times ran waited yes',
  )
  | inr no' ↦
      omega (
        arith,
        use_where times ran waited false no',
        could_run_is times.passed_ns ran waited,
        came_is times ran waited came are,
      )
]

came_use : (times : RoundTimes) (ran waited : List ℕ) (came : ℕ) → AreTasks times ran came
    → sum ran + came * times.passed_ns ≤ could_use times (sums_of times.passed_ns ran waited)
came_use times ran waited came are =
    let passed = times.passed_ns in
    let all = sum_below-le (length ran) (λ k. get_or ran k 0)
    (each_task (could_run passed) ran waited)
    (λ k below. could_run_ge passed (get_or ran k 0) (get_or waited k 0) (are.each k below)) in
    omega (arith, all, sum-is ran, run_use times ran waited came are)

lacking_use : (times : RoundTimes) (ran waited : List ℕ) (came k : ℕ) → AreTasks times ran came
    → k < length ran → IsLacking times (get_or ran k 0) (get_or waited k 0)
    → sum ran + came * times.passed_ns + times.passed_ns
    ≤ could_use times (sums_of times.passed_ns ran waited) + get_or ran k 0
lacking_use times ran waited came k are below lacks =
    let passed = times.passed_ns in
    let within : get_or ran k 0 ≤ passed = are.each k below in
    let whole : each_task (could_run passed) ran waited k ≡ passed =
    ap (λ b. if b then passed else get_or ran k 0)
    (starved_yes passed (get_or ran k 0) (get_or waited k 0) lacks.awake lacks.long) in
    let more : get_or ran k 0 + (passed - get_or ran k 0)
    ≤ each_task (could_run passed) ran waited k = omega (arith, whole, within) in
    let all = sum_gain (length ran) k (passed - get_or ran k 0) (λ i. get_or ran i 0)
    (each_task (could_run passed) ran waited)
    (λ i i_in. could_run_ge passed (get_or ran i 0) (get_or waited i 0) (are.each i i_in)) below
    more in
    omega (arith, all, sum-is ran, run_use times ran waited came are, within)

rested_use : (times : RoundTimes) (ran waited : List ℕ) → IsFree times → AreTasks times ran 0
    → sum ran ≤ 1000 * times.used_us → AreRested times ran waited
    → could_use times (sums_of times.passed_ns ran waited) ≡ 1000 * times.used_us
rested_use times ran waited is are within rested =
    let passed = times.passed_ns in
    let tasks = sums_of passed ran waited in
    let n = length ran in
    let same : sum_below n (each_task (could_run passed) ran waited)
    ≡ sum_below n (λ k. get_or ran k 0) =
    sum_below-ap n (each_task (could_run passed) ran waited) (λ k. get_or ran k 0)
    (λ k below. ap (λ b. if b then passed else get_or ran k 0)
    (starved_no passed (get_or ran k 0) (get_or waited k 0) (rested k below))) in
    let nothing : (times.tasks - tasks.count) * passed ≡ 0 =
    came_is times ran waited 0 are ∙ omega arith in
    let most : most_of false times ran waited ≡ sum ran =
    omega (arith, same, could_run_is passed ran waited, sum-is ran, nothing) in
    use_where times ran waited false (free times is) ∙ omega (arith, most, within)

pub use_bound : TasksBoundUse
use_bound = record {
  no_less = λ times ran waited. omega arith;
  no_more = use_le;
  stopped = λ times ran waited why. stopped_use times ran waited (stopped_where times why);
  came = came_use;
  lacking = lacking_use;
  rested = rested_use;
}

-- What a group asks for

-- what it asks for by its hunger, and by whether that is everything
abbrev asked_by : Bool → Bool → Shape → RoundTimes → List ℕ → List ℕ → ℕ
asked_by hungry all shape times ran waited =
    if hungry then (if all then MAX_DEMAND else slices_of_time shape times.passed_ns
    (could_use times (sums_of times.passed_ns ran waited)))
    else used_slices shape times

asked_where : (shape : Shape) (times : RoundTimes) (ran waited : List ℕ) (hungry all : Bool)
    → is_hungry times (sums_of times.passed_ns ran waited) ≡ hungry
    → asks_for_all shape.processors times (sums_of times.passed_ns ran waited) ≡ all
    → asked_slices shape times (sums_of times.passed_ns ran waited)
    ≡ asked_by hungry all shape times ran waited
asked_where shape times ran waited hungry all one two =
    let tasks = sums_of times.passed_ns ran waited in
    ap (λ b. asked_by b (asks_for_all shape.processors times tasks) shape times ran waited) one
    ∙ ap (λ b. asked_by hungry b shape times ran waited) two

others_ask : (shape : Shape) (times : RoundTimes) (ran waited : List ℕ)
    → is_hungry times (sums_of times.passed_ns ran waited) ≡ false
    → asked_slices shape times (sums_of times.passed_ns ran waited) ≡ used_slices shape times
others_ask shape times ran waited no' =
    asked_where shape times ran waited false
    (asks_for_all shape.processors times (sums_of times.passed_ns ran waited)) no' refl

-- The cases of what is asked.
asked_cases : (shape : Shape) (times : RoundTimes) (ran waited : List ℕ)
    → ((is_hungry times (sums_of times.passed_ns ran waited) ≡ false)
    × (asked_slices shape times (sums_of times.passed_ns ran waited) ≡ used_slices shape times))
    ⊎ ((is_hungry times (sums_of times.passed_ns ran waited) ≡ true)
    × (asks_for_all shape.processors times (sums_of times.passed_ns ran waited) ≡ true)
    × (asked_slices shape times (sums_of times.passed_ns ran waited) ≡ MAX_DEMAND))
    ⊎ ((is_hungry times (sums_of times.passed_ns ran waited) ≡ true)
    × (asks_for_all shape.processors times (sums_of times.passed_ns ran waited) ≡ false)
    × (asked_slices shape times (sums_of times.passed_ns ran waited)
    ≡ slices_of_time shape times.passed_ns
    (could_use times (sums_of times.passed_ns ran waited))))
asked_cases shape times ran waited =
    let tasks = sums_of times.passed_ns ran waited in
    elim (cases_Bool (is_hungry times tasks)) [
      | inr no' ↦ inl (no', others_ask shape times ran waited no')
      | inl yes' ↦ elim (cases_Bool (asks_for_all shape.processors times tasks)) [
        | inl all ↦ inr (inl (yes', all, asked_where shape times ran waited true true yes' all))
        | inr some ↦ inr (inr
            (yes', some, asked_where shape times ran waited true false yes' some))
      ]
    ]

asked_ge : (shape : Shape) (times : RoundTimes) (ran waited : List ℕ) → IsHost shape
    → 1 ≤ times.passed_ns
    → used_slices shape times ≤ asked_slices shape times (sums_of times.passed_ns ran waited)
asked_ge shape times ran waited host some = elim (asked_cases shape times ran waited) [
  | inl other ↦ omega (arith, other.1)
  | inr (inl all) ↦ omega (arith, all.2)
  | inr (inr most) ↦
      let more = slices_rise shape times.passed_ns (1000 * times.used_us)
      (could_use times (sums_of times.passed_ns ran waited)) host some (omega arith) in
      omega (arith, most.2, more)
]

asked_le : (shape : Shape) (times : RoundTimes) (ran waited : List ℕ) (came : ℕ) → IsHost shape
    → 1 ≤ times.passed_ns → AreTasks times ran came
    → (asked_slices shape times (sums_of times.passed_ns ran waited) ≡ MAX_DEMAND)
    ⊎ (asked_slices shape times (sums_of times.passed_ns ran waited)
    ≤ max (used_slices shape times) (times.tasks * slices_per_processor shape))
asked_le shape times ran waited came host some are =
    let tasks = sums_of times.passed_ns ran waited in
    elim (asked_cases shape times ran waited) [
      | inl other ↦ inr (omega (arith, other.1))
      | inr (inl all) ↦ inl all.2
      | inr (inr most) ↦
          let bound = use_le times ran waited came are in
          elim (cases_lt (1000 * times.used_us) (times.tasks * times.passed_ns)) [
            | inl less ↦
                let more = slices_rise shape times.passed_ns (could_use times tasks)
                (times.tasks * times.passed_ns) host some (omega (arith, bound, less)) in
                let whole = slices_whole shape times.passed_ns times.tasks host some in
                inr (omega (arith, most.2, more, whole))
            | inr above ↦
                let more = slices_rise shape times.passed_ns (could_use times tasks)
                (1000 * times.used_us) host some (omega (arith, bound, above)) in
                inr (omega (arith, most.2, more))
          ]
    ]

pub asked : AskedCoversUse
asked = record {
  no_less = λ shape times ran waited host some.
      asked_ge shape times ran waited host some;
  others = λ shape times ran waited no'.
      others_ask shape times ran waited no';
  no_more = asked_le;
}

-- Everything

-- why a group asks for everything, if it is hungry
abbrev Reasons : Shape → RoundTimes → List ℕ → List ℕ → Type 0
Reasons shape times ran waited = (times.used_us ≡ 0)
    ⊎ (20 * sum ran < 19 * (1000 * times.used_us))
    ⊎ (shape.processors * times.passed_ns
    ≤ could_use times (sums_of times.passed_ns ran waited))

reasons_of : (shape : Shape) (times : RoundTimes) (ran waited : List ℕ)
    → asks_for_all shape.processors times (sums_of times.passed_ns ran waited) ≡ true
    → Reasons shape times ran waited
reasons_of shape times ran waited all =
    let tasks = sums_of times.passed_ns ran waited in
    elim (or_cases (not (tell 19 times tasks))
    (nat_le (shape.processors * times.passed_ns) (could_use times tasks)) all) [
      | inr whole ↦ inr (inr (leb-true (shape.processors * times.passed_ns)
          (could_use times tasks) whole))
      | inl little ↦ elim (and_cases (nat_lt 0 times.used_us)
          (nat_le (19 * (1000 * times.used_us)) (20 * tasks.ran))
          (not-true (tell 19 times tasks) little)) [
            | inl none ↦ inl (let le = ltb-false 0 times.used_us none in omega (arith, le))
            | inr less ↦
                let lt = leb-false (19 * (1000 * times.used_us)) (20 * tasks.ran) less in
                inr (inl (omega (arith, lt, ran_is times.passed_ns ran waited)))
          ]
    ]

all_where : (shape : Shape) (times : RoundTimes) (ran waited : List ℕ)
    → Reasons shape times ran waited
    → asks_for_all shape.processors times (sums_of times.passed_ns ran waited) ≡ true
all_where shape times ran waited why =
    let tasks = sums_of times.passed_ns ran waited in
    let little : tell 19 times tasks ≡ false
    → asks_for_all shape.processors times tasks ≡ true =
    λ e. or_left (not (tell 19 times tasks))
    (nat_le (shape.processors * times.passed_ns) (could_use times tasks))
    (not_from_false (tell 19 times tasks) e) in
    elim why [
      | inl none ↦ little (and_left (nat_lt 0 times.used_us)
          (nat_le (19 * (1000 * times.used_us)) (20 * tasks.ran))
          (le-ltb 0 times.used_us (omega (arith, none))))
      | inr (inl less) ↦ little (and_right (nat_lt 0 times.used_us)
          (nat_le (19 * (1000 * times.used_us)) (20 * tasks.ran))
          (lt-leb (19 * (1000 * times.used_us)) (20 * tasks.ran)
          (omega (arith, less, ran_is times.passed_ns ran waited))))
      | inr (inr whole) ↦ or_right (not (tell 19 times tasks))
          (nat_le (shape.processors * times.passed_ns) (could_use times tasks))
          (le-leb (shape.processors * times.passed_ns) (could_use times tasks) whole)
    ]

whole_below : (shape : Shape) (times : RoundTimes) (ran waited : List ℕ)
    → asks_for_all shape.processors times (sums_of times.passed_ns ran waited) ≡ false
    → could_use times (sums_of times.passed_ns ran waited)
    < shape.processors * times.passed_ns
whole_below shape times ran waited some =
    let tasks = sums_of times.passed_ns ran waited in
    elim (cases_lt (could_use times tasks) (shape.processors * times.passed_ns)) [
      | inl less ↦ less
      | inr whole ↦ absurd
          (let all : asks_for_all shape.processors times tasks ≡ true =
          or_right (not (tell 19 times tasks))
          (nat_le (shape.processors * times.passed_ns) (could_use times tasks))
          (le-leb (shape.processors * times.passed_ns) (could_use times tasks) whole) in
          let clash : true ≡ false = sym all ∙ some in cc)
    ]

asked_all : (shape : Shape) (times : RoundTimes) (ran waited : List ℕ) → IsHost shape
    → 1 ≤ times.passed_ns → 1000 * times.used_us ≤ shape.processors * times.passed_ns
    → asked_slices shape times (sums_of times.passed_ns ran waited) ≡ MAX_DEMAND
    → (is_hungry times (sums_of times.passed_ns ran waited) ≡ true)
    × Reasons shape times ran waited
asked_all shape times ran waited host some within is =
    let tasks = sums_of times.passed_ns ran waited in
    elim (asked_cases shape times ran waited) [
      | inl other ↦ absurd
          (let below = slices_within shape times.passed_ns (1000 * times.used_us) host some within in
          omega (arith, below, other.1, is))
      | inr (inl all) ↦ (all.0, reasons_of shape times ran waited all.1)
      | inr (inr most) ↦ absurd
          (let less = whole_below shape times ran waited most.1 in
          let below = slices_within shape times.passed_ns (could_use times tasks) host some
          (omega (arith, less)) in
          omega (arith, below, most.2, is))
    ]

pub everything : EverythingHasAReason
everything shape times ran waited host some within = (
  asked_all shape times ran waited host some within,
  λ why. asked_where shape times ran waited true true why.0
      (all_where shape times ran waited why.1),
)
