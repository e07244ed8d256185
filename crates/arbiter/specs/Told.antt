-- The end of the program when its words give no job.
use Rattle.std.specs.Prelude.{ℕ, ◌≡◌, ◌⊎◌, List, Option, string_bytes}
use Rattle.std.specs.Io.KnownBytes.{Appends}
use Rattle.bw_streams.specs.Fronts.{AppendsFront}
use Rattle.bw_streams.specs.Watched.{inner_of}
use Rattle.bw_streams.specs.declared.watched.Watched.{Watched}
use Rattle.arbiter.specs.declared.words.WordsFault.{WordsFault}
use Rattle.arbiter.specs.declared.words.WordsFault.TheVariants.{Help, Usage, Memory}

-- A text was written and the exit status is 0, or a front of it was and the status is 1.
abbrev pub IsShown : {W : Type 0} → (W → Option (List ℕ)) → List ℕ → Watched W → Watched W → ℕ
    → Type 0
IsShown contents text old new status =
    ((status ≡ 0) × Appends (contents (inner_of old)) (contents (inner_of new)) text)
    ⊎ ((status ≡ 1) × AppendsFront (contents (inner_of old)) (contents (inner_of new)) text)

-- Help is written. The exit status is 2 for a refusal, 1 if memory was refused: nothing is written.
abbrev pub EndsWithoutJob : {W : Type 0} → (W → Option (List ℕ)) → WordsFault → Watched W
    → Watched W → ℕ → Type 0
EndsWithoutJob contents (Help text) old new status =
    IsShown contents (string_bytes text) old new status
EndsWithoutJob contents (Usage text) old new status = (status ≡ 2) × (new ≡ old)
EndsWithoutJob contents Memory old new status = (status ≡ 1) × (new ≡ old)
