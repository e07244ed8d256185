-- The responder, which answers whole lines, as contracts see it.
use Rattle.std.specs.Prelude.{ℕ, Bool, List}
use Rattle.bw_shell.specs.declared.responder.Responder.{Responder}
use Rattle.bw_commands.specs.ScriptState.{state_of}
use Rattle.bw_commands.specs.State.{State}

-- the state of its script, by which leaves a gate uses
abbrev pub responder_state : {G : Type 0} → (G → ℕ → Bool) → Responder G → State
responder_state used r = state_of used r.script

-- the answers that wait to be written
abbrev pub responder_waits : {G : Type 0} → Responder G → List ℕ
responder_waits r = r.waiting.items
