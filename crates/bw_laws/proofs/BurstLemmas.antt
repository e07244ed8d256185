-- Each line of a script keeps the burst of each group at most its quota.
use Rattle.std.proofs.Common.{inl, inr, ℕ, List, [], ◌∷◌, Option, Some, None, subst, sym}
use Rattle.std.specs.Prelude.{Result, Ok, Err, IfOk, ⊤}
use Rattle.bw_tree.specs.Snapshot.{instance_of, base_of}
use Rattle.bw_hierarchy.specs.Bursts.{AreBurstsWithin}
use Rattle.bw_hierarchy.specs.Calls.{mkdir_of}
use Rattle.bw_hierarchy.specs.Files.{read_of, write_of}
use Rattle.bw_hierarchy.specs.State.{with_tree, rmdir_of, demand_set_of}
use Rattle.bw_hierarchy.specs.declared.fault.Fault.{Fault}
use Rattle.bw_hierarchy.proofs.CallerLemmas.{mkdir_within, rmdir_within, demand_within}
use Rattle.bw_hierarchy.proofs.CallerLemmas.{write_within, booked_within}
use Rattle.bw_commands.specs.State.{State, with_hierarchy, start}
use Rattle.bw_commands.specs.Command.{Command}
use Rattle.bw_commands.specs.Command as command
use Rattle.bw_commands.specs.Period.{IsPeriod}
use Rattle.bw_commands.specs.Script.{Outcome, Silent, Says, Prints, Total, Plan, Cert, Period}
use Rattle.bw_commands.specs.Script.{Report, change_outcome, call_outcome, mkdir_outcome}
use Rattle.bw_commands.specs.Script.{rmdir_outcome, demand_outcome, read_outcome, write_outcome}
use Rattle.bw_commands.specs.Script.{outcome_of_command, outcome_of_request, outcome_of_kept}
use Rattle.bw_commands.specs.Script.{request_of_kept, kept_of, outcome_of, Gives, IsAnswer}
use Rattle.bw_commands.specs.declared.fault.ScriptFault.{ScriptFault}
use Rattle.bw_laws.specs.Bursts.{Leaves, ScriptsKeepBurstsWithin}

abbrev Kept : State → Type 0
Kept s = AreBurstsWithin s.hierarchy.tree

-- what an outcome says of the state after it; the others leave the state, or book a period
abbrev Keeps : Outcome → Type 0
Keeps (Says text after) = Kept after
Keeps (Prints text after) = Kept after
Keeps outcome = ⊤

changes : {A : Type 0} (s : State) (after : A → State) (r : Result A Fault) → Kept s
    → IfOk r (λ x. Kept (after x)) → Keeps (change_outcome s after r)
changes s after (Ok x) kept is = is
changes s after (Err f) kept is = kept

answers : {A : Type 0} (s : State) (text : A → List ℕ) (after : A → State) (r : Result A Fault)
    → Kept s → IfOk r (λ x. Kept (after x)) → Keeps (call_outcome s text after r)
answers s text after (Ok x) kept is = is
answers s text after (Err f) kept is = kept

mkdir_keeps : (s : State) (path : List ℕ) → Kept s → Keeps (mkdir_outcome s path)
unfolding mkdir_outcome
mkdir_keeps s path kept = answers s _ _ (mkdir_of s.hierarchy.tree path) kept
    (mkdir_within s.hierarchy.tree path kept)

rmdir_keeps : (s : State) (path : List ℕ) → Kept s → Keeps (rmdir_outcome s path)
unfolding rmdir_outcome
rmdir_keeps s path kept = changes s (with_hierarchy s) (rmdir_of s.hierarchy path) kept
    (rmdir_within s.hierarchy path kept)

demand_keeps : (s : State) (path : List ℕ) (o : Option ℕ) → Kept s
    → Keeps (demand_outcome s path o)
unfolding demand_outcome
demand_keeps s path None kept = kept
demand_keeps s path (Some n) kept =
    changes s (with_hierarchy s) (demand_set_of s.hierarchy path n) kept
    (demand_within s.hierarchy path n kept)

read_keeps : (s : State) (path file : List ℕ) → Kept s → Keeps (read_outcome s path file)
unfolding read_outcome
read_keeps s path file kept = by (read_of s.hierarchy path file)
  where
    by : (r : Result (List ℕ) Fault) → Keeps (call_outcome s (λ text. text) (λ text. s) r)
    by (Ok text) = kept
    by (Err f) = kept

write_keeps : (s : State) (path file text : List ℕ) → Kept s
    → Keeps (write_outcome s path file text)
unfolding write_outcome
write_keeps s path file text kept =
    changes s (λ tree. with_hierarchy s (with_tree s.hierarchy tree))
    (write_of s.hierarchy.tree path file text) kept
    (write_within s.hierarchy.tree path file text kept)

command_keeps : (s : State) (c : Command) → Kept s → Keeps (outcome_of_command s c)
command_keeps s command.Nothing kept = tt
command_keeps s (command.Mkdir path) kept = mkdir_keeps s path kept
command_keeps s (command.Rmdir path) kept = rmdir_keeps s path kept
command_keeps s (command.Demand path number) kept = demand_keeps s path _ kept
command_keeps s (command.Read path file) kept = read_keeps s path file kept
command_keeps s (command.Write path file text) kept = write_keeps s path file text kept
command_keeps s command.Total kept = tt
command_keeps s command.Plan kept = tt
command_keeps s command.Cert kept = tt
command_keeps s command.Period kept = tt
command_keeps s command.Report kept = tt

line_keeps : (s : State) (line : List ℕ) → Kept s → Keeps (outcome_of s line)
unfolding outcome_of_kept
line_keeps s line kept = by (request_of_kept (kept_of line))
  where
    by : (r : Result Command ScriptFault) → Keeps (outcome_of_request s r)
    by (Ok c) = command_keeps s c kept
    by (Err f) = kept

-- what an outcome gives
given : (s next : State) (text : List ℕ) (o : Outcome) → Kept s → Keeps o → Gives s o text next
    → Kept next
given s next text Silent kept keeps is = subst Kept (sym is.1) kept
given s next text (Says answer after) kept keeps is = subst Kept (sym is.1) keeps
given s next text (Prints answer after) kept keeps is = subst Kept (sym is.1) keeps
given s next text Total kept keeps is = subst Kept (sym is.1) kept
given s next text Plan kept keeps is = subst Kept (sym is.1) kept
given s next text Cert kept keeps is = subst Kept (sym is.1) kept
given s next text Period kept keeps is =
    let p : IsPeriod s.hierarchy s.uses text next.hierarchy = is.0 in
    subst (λ h. AreBurstsWithin h.tree) (sym p.state)
    (booked_within s.hierarchy (instance_of s.hierarchy.tree s.hierarchy.shape).rows
    (base_of s.hierarchy.tree.groups s.hierarchy.shape) p.demands.want p.drawn kept)
given s next text Report kept keeps is = subst Kept (sym is.1) kept

answered : (s next : State) (line text : List ℕ) → Kept s → IsAnswer s line text next → Kept next
answered s next line text kept (inl is) =
    given s next text (outcome_of s line) kept (line_keeps s line kept) is
answered s next line text kept (inr failed) = subst Kept (sym failed.1) kept

all_kept : (lines : List (List ℕ)) (s after : State) → Kept s → Leaves s lines after → Kept after
all_kept [] s after kept same = subst Kept (sym same) kept
all_kept (line ∷ lines) s after kept leaves =
    all_kept lines leaves.1 after (answered s leaves.1 line leaves.0 kept leaves.2) leaves.3

pub scripts_within : ScriptsKeepBurstsWithin
scripts_within shape uses lines after leaves =
    all_kept lines (start shape uses) after (tt, tt) leaves
