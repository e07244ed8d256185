-- The meaning of a line of a script: the text that it prints, and the state after it.
use Rattle.std.specs.Prelude.{ℕ, ◌≡◌, ◌≢◌, ◌⊎◌, List, [], ◌∷◌, ◌++◌, nat_lt, if◌then◌else◌, codes}
use Rattle.std.specs.Prelude.{length, Result, Ok, Err, Option, Some, None}
use Rattle.std.specs.Str.{is_utf8}
use Rattle.bw_text.specs.Number.{number_spelled}
use Rattle.bw_hierarchy.specs.State.{with_tree, rmdir_of, demand_set_of}
use Rattle.bw_hierarchy.specs.Calls.{mkdir_of}
use Rattle.bw_hierarchy.specs.Files.{read_of, write_of}
use Rattle.bw_hierarchy.specs.declared.fault.Fault.{Fault}
use Rattle.bw_commands.specs.State.{State, with_hierarchy}
use Rattle.bw_commands.specs.Total.{IsTotal}
use Rattle.bw_commands.specs.Planned.{IsPlanText}
use Rattle.bw_commands.specs.CertifiedPlan.{IsCertifiedPlan}
use Rattle.bw_commands.specs.Period.{IsPeriod}
use Rattle.bw_commands.specs.Reported.{IsReport}
use Rattle.bw_commands.specs.Command.{Command, command_of_line}
use Rattle.bw_commands.specs.Command as command
use Rattle.bw_commands.specs.Faults.{error_line, script_fault_number}
use Rattle.bw_commands.specs.declared.fault.ScriptFault.{ScriptFault}
use Rattle.bw_commands.specs.declared.fault.ScriptFault.TheVariants as fault

-- a line with more bytes is not kept
abbrev pub line_bytes : ℕ
line_bytes = 65536

-- The outcome of a line: nothing at all; a text and the state after it; the total, the plan, the
-- plan's certified text or the counters; or a period that is served. `Says` takes no memory for its
-- text, `Prints` may.
pub data Outcome : Type 0 where
  Silent : Outcome
  Says : (text : List ℕ) (after : State) → Outcome
  Prints : (text : List ℕ) (after : State) → Outcome
  Total : Outcome
  Plan : Outcome
  Cert : Outcome
  Period : Outcome
  Report : Outcome

-- a refusal takes no memory
abbrev pub refused : State → ScriptFault → Outcome
refused s f = Says (error_line f) s

-- ---- the commands

-- the answer to a change
abbrev pub ok_line : List ℕ
ok_line = codes "ok" ++ 10 ∷ []

-- a change of the hierarchy that takes no memory: its refusal, or `ok` and the state that it leaves
abbrev pub change_outcome : {A : Type 0} → State → (A → State) → Result A Fault → Outcome
change_outcome s after (Ok x) = Says ok_line (after x)
change_outcome s after (Err f) = refused s (fault.Call f)

-- a call on the hierarchy that takes memory: its refusal, or the text that its value prints and the
-- state that it leaves
abbrev pub call_outcome : {A : Type 0} → State → (A → List ℕ) → (A → State) → Result A Fault
    → Outcome
call_outcome s text after (Ok x) = Prints (text x) (after x)
call_outcome s text after (Err f) = refused s (fault.Call f)

-- `mkdir P`
unfoldable pub mkdir_outcome : State → List ℕ → Outcome
mkdir_outcome s path = call_outcome s (λ made. ok_line)
    (λ made. with_hierarchy s (with_tree s.hierarchy made.1)) (mkdir_of s.hierarchy.tree path)

-- `rmdir P`
unfoldable pub rmdir_outcome : State → List ℕ → Outcome
rmdir_outcome s path = change_outcome s (with_hierarchy s) (rmdir_of s.hierarchy path)

-- `demand P N`, where N spells this number
unfoldable pub demand_outcome : State → List ℕ → Option ℕ → Outcome
demand_outcome s path None = refused s fault.BadNumber
demand_outcome s path (Some demand) =
    change_outcome s (with_hierarchy s) (demand_set_of s.hierarchy path demand)

-- `read P FILE`
unfoldable pub read_outcome : State → List ℕ → List ℕ → Outcome
read_outcome s path file = call_outcome s (λ text. text) (λ text. s) (read_of s.hierarchy path file)

-- `write P FILE TEXT`
unfoldable pub write_outcome : State → List ℕ → List ℕ → List ℕ → Outcome
write_outcome s path file text =
    change_outcome s (λ tree. with_hierarchy s (with_tree s.hierarchy tree))
    (write_of s.hierarchy.tree path file text)

-- ---- lines

-- the outcome of a command
abbrev pub outcome_of_command : State → Command → Outcome
outcome_of_command s command.Nothing = Silent
outcome_of_command s (command.Mkdir path) = mkdir_outcome s path
outcome_of_command s (command.Rmdir path) = rmdir_outcome s path
outcome_of_command s (command.Demand path number) = demand_outcome s path (number_spelled number)
outcome_of_command s (command.Read path file) = read_outcome s path file
outcome_of_command s (command.Write path file text) = write_outcome s path file text
outcome_of_command s command.Total = Total
outcome_of_command s command.Plan = Plan
outcome_of_command s command.Cert = Cert
outcome_of_command s command.Period = Period
outcome_of_command s command.Report = Report

-- the part of a line that is kept: all of it, or nothing where it is too long
abbrev pub kept_of : List ℕ → Option (List ℕ)
kept_of line = (if nat_lt line_bytes (length line) then None else Some line)

-- the request of a kept line: a command, or the refusal of the line
unfoldable pub request_of_kept : Option (List ℕ) → Result Command ScriptFault
request_of_kept None = Err fault.LineTooLong
request_of_kept (Some line) = (if is_utf8 line then command_of_line line else Err fault.BadText)

-- the outcome of a request: its command's outcome, or the refusal
abbrev pub outcome_of_request : State → Result Command ScriptFault → Outcome
outcome_of_request s (Ok command) = outcome_of_command s command
outcome_of_request s (Err f) = refused s f

unfoldable pub outcome_of_kept : State → Option (List ℕ) → Outcome
outcome_of_kept s kept = outcome_of_request s (request_of_kept kept)

-- a line
abbrev pub outcome_of : State → List ℕ → Outcome
outcome_of s line = outcome_of_kept s (kept_of line)

-- ---- answers

-- From s the outcome is this text, with the state next after it.
abbrev pub Gives : State → Outcome → List ℕ → State → Type 0
Gives s Silent text next = (text ≡ []) × (next ≡ s)
Gives s (Says answer after) text next = (text ≡ answer) × (next ≡ after)
Gives s (Prints answer after) text next = (text ≡ answer) × (next ≡ after)
Gives s Total text next = IsTotal s.hierarchy text × (next ≡ s)
Gives s Plan text next = IsPlanText s.hierarchy text × (next ≡ s)
Gives s Cert text next = IsCertifiedPlan s.hierarchy text × (next ≡ s)
Gives s Period text next = IsPeriod s.hierarchy s.uses text next.hierarchy × (next.uses ≡ s.uses)
Gives s Report text next = IsReport s.hierarchy text × (next ≡ s)

-- The failures that may stand in place of an answer: `OutOfMemory` where memory is taken, and
-- `NotStarted` where a period is served. Nothing may stand in place of a refusal, or of the answers
-- to `rmdir`, `demand` and `write`.
abbrev pub IsAllowedFailure : Outcome → List ℕ → Type 0
IsAllowedFailure Silent text = ⊥
IsAllowedFailure (Says answer after) text = ⊥
IsAllowedFailure (Prints answer after) text = text ≡ error_line fault.OutOfMemory
IsAllowedFailure Total text = text ≡ error_line fault.OutOfMemory
IsAllowedFailure Plan text = text ≡ error_line fault.OutOfMemory
IsAllowedFailure Cert text = text ≡ error_line fault.OutOfMemory
IsAllowedFailure Period text =
    (text ≡ error_line fault.OutOfMemory) ⊎ (text ≡ error_line fault.NotStarted)
IsAllowedFailure Report text = text ≡ error_line fault.OutOfMemory

-- From s the answer to a line may be this text, with the state next after it. It is the meaning of
-- the line, or a failure that may stand in its place, with nothing changed.
abbrev pub IsOutcome : State → Outcome → List ℕ → State → Type 0
IsOutcome s outcome text next =
    Gives s outcome text next ⊎ (IsAllowedFailure outcome text × (next ≡ s))

abbrev pub IsAnswer : State → List ℕ → List ℕ → State → Type 0
IsAnswer s line text next = IsOutcome s (outcome_of s line) text next

-- The result of a call that forms the answer. At Ok the answer is in the buffer and the change is
-- made. At Err nothing is changed, and the refusal is the line's or may stand in its place.
abbrev pub Performs : {U : Type 0} → State → Outcome → Result U ScriptFault → List ℕ → State
    → Type 0
Performs s outcome (Ok u) text next = Gives s outcome text next
Performs s outcome (Err f) text next = (next ≡ s) × IsOutcome s outcome (error_line f) s

-- From s an outcome is the refusal by this fault, unless memory was refused, by the number 71.
abbrev pub IsRefusedBy : State → Outcome → ScriptFault → Type 0
IsRefusedBy s outcome fault = script_fault_number fault ≢ 71 → outcome ≡ refused s fault
