-- Readings of a leaf that a scheduler serves.
use Rattle.std.specs.Prelude.{ℕ, ◌+◌, ◌*◌, Bool, nat_lt, false, if◌then◌else◌}
use Rattle.bw_model.specs.Host.{Shape}
use Rattle.bw_questions.specs.Hunger.{slices_of_time}
use Rattle.bw_questions.specs.declared.held.leaf.LeafTimes.{LeafTimes}
use Rattle.bw_questions.specs.declared.held.reading.Reading.{Reading}

-- Whether a leaf was idle for more than a twentieth of a round: it neither used a processor nor
-- waited for one.
abbrev pub was_idle : LeafTimes → Bool
was_idle times = nat_lt (20 * (times.used + times.some_waited)) (19 * times.passed)

-- The nanoseconds that a leaf asks for: what it used, and also how long its tasks waited if it was
-- not idle.
abbrev pub asked_ns : LeafTimes → ℕ
asked_ns times = if was_idle times then times.used else times.used + times.waited

-- the reading of a leaf, which is hungry if it asks for more slices than it used
abbrev pub leaf_reading : Shape → LeafTimes → Reading
leaf_reading shape times = record {
  used = slices_of_time shape times.passed times.used;
  asked = slices_of_time shape times.passed (asked_ns times);
  is_hungry =
      nat_lt (slices_of_time shape times.passed times.used)
      (slices_of_time shape times.passed (asked_ns times));
  is_guess = false;
}
