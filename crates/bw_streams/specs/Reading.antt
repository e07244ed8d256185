-- Read calls counted against the bytes that they gave.
use Rattle.std.specs.Prelude.{ℕ, ◌≡◌, ◌≤◌, ◌<◌, ◌+◌, List, length, Bool, true, Option, Result, IfOk}
use Rattle.std.specs.Io.KnownBytes.{Consumes}

-- One read call gave bytes: at least one where it says that there may be more.
abbrev pub ReadGives : {E : Type 0} → Option (List ℕ) → Option (List ℕ) → Result Bool E → Type 0
ReadGives left_old left_new result =
    (bytes : List ℕ) × Consumes left_old left_new bytes
    × IfOk result (λ more. more ≡ true → 0 < length bytes)

-- Each of so many read calls gave at least one byte.
abbrev pub EachReadGives : Option (List ℕ) → Option (List ℕ) → ℕ → Type 0
EachReadGives left_old left_new calls =
    (bytes : List ℕ) × Consumes left_old left_new bytes × (calls ≤ length bytes)

-- Each of so many read calls gave at least one byte, but for one: the end is met once.
abbrev pub EndIsReadOnce : Option (List ℕ) → Option (List ℕ) → ℕ → Type 0
EndIsReadOnce left_old left_new calls =
    (bytes : List ℕ) × Consumes left_old left_new bytes × (calls ≤ length bytes + 1)
