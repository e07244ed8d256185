-- Demands in parts of a processor.
use Rattle.std.specs.Prelude.{ℕ, ◌+◌, ◌-◌, ◌*◌, ◌/◌}
use Rattle.bw_model.specs.Host.{Shape}

-- a ratio of processors as whole slices of one host period, rounded up
abbrev pub slices_for : Shape → ℕ → ℕ → ℕ
slices_for shape numerator denominator =
    (numerator * shape.period_us + (denominator * shape.slice_us - 1))
    / (denominator * shape.slice_us)
