-- The lines of a script, taken one after another.
use Rattle.std.proofs.Common.{◌≡◌, ◌+◌, ◌++◌, ◌∷◌, ℕ, List, [], Result, Ok, Err, refl, sym, ap}
use Rattle.std.proofs.Common.{subst, ◌∙◌, IfErr}
use Rattle.bw_hierarchy.specs.State.{HierarchyState}
use Rattle.bw_commands.specs.Command.{Command}
use Rattle.bw_commands.specs.Lines.{lines_of}
use Rattle.bw_commands.specs.State.{State}
use Rattle.bw_commands.specs.Script.{Outcome, kept_of, request_of_kept, outcome_of_request}
use Rattle.bw_commands.specs.Script.{outcome_of, outcome_of_kept, ok_line, Gives, Performs}
use Rattle.bw_commands.specs.Script.{IsRefusedBy}
use Rattle.bw_commands.specs.Script.Outcome.{Silent, Says, Prints, Total, Plan, Cert, Period}
use Rattle.bw_commands.specs.Script.Outcome.{Report}
use Rattle.bw_commands.specs.declared.fault.ScriptFault.{ScriptFault}
use Rattle.bw_commands.specs.Reading.{in_use, LeadsTo, Takes, TakesLine, TakesLines}
use Rattle.bw_commands.specs.declared.reading.RefusedLine.{RefusedLine}

-- one line, and then the lines behind it
pub takes_more : (s next last : State) (number : ℕ) (text line rest : List ℕ)
    (first more : List RefusedLine) → lines_of text ≡ line ∷ lines_of rest
    → TakesLine s number line first next → TakesLines next (number + 1) (lines_of rest) more last
    → TakesLines s number (lines_of text) (first ++ more) last
unfolding TakesLines
takes_more s next last number text line rest first more e one then =
    subst (λ l. TakesLines s number l (first ++ more) last) (sym e)
    (first, more, next, one, then, refl)

-- no line
pub takes_none : (s : State) (number : ℕ) → TakesLines s number (lines_of []) [] s
unfolding TakesLines lines_of
takes_none s number = (refl, refl)

-- a call that makes the change of one outcome makes that of an equal one
pub takes_same : {T : Type 0} (f g : State → Outcome) (old new : HierarchyState)
    (r : Result T ScriptFault) → f (in_use old) ≡ g (in_use old) → Takes f old new r
    → Takes g old new r
takes_same f g old new (Ok x) e t = subst (λ o. LeadsTo (in_use old) o (in_use new)) e t
takes_same f g old new (Err fault) e t = (t.0, λ other. sym e ∙ t.1 other)

-- the outcome of a line is that of what it asks for
pub outcome_by : (s : State) (line : List ℕ) (asked : Result Command ScriptFault)
    → asked ≡ request_of_kept (kept_of line) → outcome_of_request s asked ≡ outcome_of s line
unfolding outcome_of_kept
outcome_by s line asked e = ap (outcome_of_request s) e

-- what is given leads on, where a text that takes no memory is `ok`
leads : (s : State) (o : Outcome) (next : State) → Gives s o ok_line next → LeadsTo s o next
leads s Silent next given = given.1
leads s (Says text after) next given = (sym given.0, given.1)
leads s (Prints text after) next given = given.1
leads s Total next given = given.1
leads s Plan next given = given.1
leads s Cert next given = given.1
leads s Period next given = ((ok_line, given.0), given.1)
leads s Report next given = given.1

-- a change that was made or refused
pub takes_change : {T : Type 0} (f : State → Outcome) (old new : HierarchyState)
    (r : Result T ScriptFault) → Performs (in_use old) (f (in_use old)) r ok_line (in_use new)
    → IfErr r (IsRefusedBy (in_use old) (f (in_use old))) → Takes f old new r
takes_change f old new (Ok x) done refused =
    leads (in_use old) (f (in_use old)) (in_use new) done
takes_change f old new (Err fault) done refused =
    (ap (λ (s : State). s.hierarchy) done.0, refused)
