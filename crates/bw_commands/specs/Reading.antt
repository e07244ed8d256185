-- A script that is read: the state after its lines, and the lines that are refused.
use Rattle.std.specs.Prelude.{ℕ, ◌≡◌, ◌+◌, ◌⊎◌, List, [], ◌∷◌, ◌++◌, true}
use Rattle.std.specs.Prelude.{Result, Ok, Err}
use Rattle.bw_model.specs.Host.{Shape}
use Rattle.bw_hierarchy.specs.State.{HierarchyState, new_hierarchy}
use Rattle.bw_commands.specs.State.{State, in_state}
use Rattle.bw_commands.specs.Lines.{lines_of}
use Rattle.bw_commands.specs.Period.{IsPeriod}
use Rattle.bw_commands.specs.Script as script
use Rattle.bw_commands.specs.Script.{Outcome, outcome_of, refused, ok_line, IsRefusedBy}
use Rattle.bw_commands.specs.declared.fault.ScriptFault.{ScriptFault}
use Rattle.bw_commands.specs.declared.reading.RefusedLine.{RefusedLine}

-- the state of a hierarchy whose leaves all use their slices
abbrev pub in_use : HierarchyState → State
in_use h = in_state (λ leaf. true) h

-- From s an outcome that is no refusal leads to this state. The answer to a change is `ok`. An
-- answer that is only printed changes nothing.
abbrev pub LeadsTo : State → Outcome → State → Type 0
LeadsTo s script.Silent next = next ≡ s
LeadsTo s (script.Says text after) next = (text ≡ ok_line) × (next ≡ after)
LeadsTo s (script.Prints text after) next = next ≡ after
LeadsTo s script.Total next = next ≡ s
LeadsTo s script.Plan next = next ≡ s
LeadsTo s script.Cert next = next ≡ s
LeadsTo s script.Period next =
    ((text : List ℕ) × IsPeriod s.hierarchy s.uses text next.hierarchy) × (next.uses ≡ s.uses)
LeadsTo s script.Report next = next ≡ s

-- The result of a call that makes a change, by the outcome of what it is asked for. At Err nothing
-- is changed.
abbrev pub Takes : {T : Type 0} → (State → Outcome) → HierarchyState → HierarchyState
    → Result T ScriptFault → Type 0
Takes outcome old new (Ok x) = LeadsTo (in_use old) (outcome (in_use old)) (in_use new)
Takes outcome old new (Err fault) =
    (new ≡ old) × IsRefusedBy (in_use old) (outcome (in_use old)) fault

-- From s a line leads to the state next, or it is refused and the state stays. These are the lines
-- refused, of which the first has this number.
abbrev pub TakesLine : State → ℕ → List ℕ → List RefusedLine → State → Type 0
TakesLine s number line refusals next =
    ((refusals ≡ []) × LeadsTo s (outcome_of s line) next)
    ⊎ ((fault : ScriptFault) × (refusals ≡ record { line = number; fault = fault } ∷ [])
    × (outcome_of s line ≡ refused s fault) × (next ≡ s))

-- From s these lines lead to the state last, and these of them are refused. The first has this
-- number.
unfoldable pub TakesLines : State → ℕ → List (List ℕ) → List RefusedLine → State → Type 0
TakesLines s number [] refusals last = (refusals ≡ []) × (last ≡ s)
TakesLines s number (line ∷ lines) refusals last = (first rest : List RefusedLine)
    × (next : State) × TakesLine s number line first next
    × TakesLines next (number + 1) lines rest last × (refusals ≡ first ++ rest)

-- The lines of a text lead from the root alone to this hierarchy, where each leaf uses its slices.
-- These of them are refused. The first line has the number 1.
abbrev pub IsRead : Shape → List ℕ → List RefusedLine → HierarchyState → Type 0
IsRead shape text refusals last =
    TakesLines (in_use (new_hierarchy shape)) 1 (lines_of text) refusals (in_use last)
