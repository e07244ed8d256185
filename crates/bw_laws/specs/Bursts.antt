-- Bursts and quotas of all groups, over whole scripts.
use Rattle.std.specs.Prelude.{◌≡◌, ℕ, Bool, List, [], ◌∷◌}
use Rattle.bw_model.specs.Host.{Shape}
use Rattle.bw_hierarchy.specs.Bursts.{AreBurstsWithin}
use Rattle.bw_commands.specs.State.{State, start}
use Rattle.bw_commands.specs.Script.{IsAnswer}

-- a state that the lines of a script can leave, whatever each of them answers
abbrev pub Leaves : State → List (List ℕ) → State → Type 0
Leaves s [] after = after ≡ s
Leaves s (line ∷ lines) after =
    (answer : List ℕ) × (next : State) × IsAnswer s line answer next × Leaves next lines after

-- after the lines of any script the burst of each group is at most its quota
abbrev pub ScriptsKeepBurstsWithin : Type 0
ScriptsKeepBurstsWithin = (shape : Shape) (uses : ℕ → Bool) (lines : List (List ℕ)) (after : State)
    → Leaves (start shape uses) lines after → AreBurstsWithin after.hierarchy.tree
