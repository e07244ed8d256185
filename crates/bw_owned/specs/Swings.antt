-- Numbers that go back and forth from round to round, such as limits.
use Rattle.std.specs.Prelude.{◌≡◌, ℕ, ◌+◌, ◌-◌, ◌*◌, ◌^◌, ◌<◌, ◌==◌, ◌&&◌, ◌||◌, not, min, max}
use Rattle.std.specs.Prelude.{List, Bool, length, nat_le, nat_lt, slice_index, if◌then◌else◌}

-- the distance of two numbers
abbrev pub apart : ℕ → ℕ → ℕ
apart one other = (one - other) + (other - one)

-- A number went back: it is that of two rounds before to a twentieth of the greater, and a quarter
-- of the greater or more off the last.
abbrev pub went_back : ℕ → ℕ → ℕ → Bool
went_back now last before = not (now == last)
    && (nat_le (20 * apart now before) (max now before)
    && nat_le (max now last) (4 * apart now last))

-- A number turned: it rose and falls, or it fell and rises.
abbrev pub has_turned : ℕ → ℕ → ℕ → Bool
has_turned now last before =
    (nat_lt before last && nat_lt now last) || (nat_lt last before && nat_lt last now)

-- the rounds in a row in which a number did something, after one more
abbrev pub in_a_row : Bool → ℕ → ℕ
in_a_row did rounds = if did then min (rounds + 1) (2 ^ 64 - 1) else 0

-- the rounds in a row in which each number went back, and in which it turned, after one more
pub record AreSwingsCounted (now last before backs turns more_backs more_turns : List ℕ) : Type 0
  where
    pub backs_are : (k : ℕ) → k < length now → slice_index more_backs k ≡ in_a_row
        (went_back (slice_index now k) (slice_index last k) (slice_index before k))
        (slice_index backs k)
    pub turns_are : (k : ℕ) → k < length now → slice_index more_turns k ≡ in_a_row
        (has_turned (slice_index now k) (slice_index last k) (slice_index before k))
        (slice_index turns k)
