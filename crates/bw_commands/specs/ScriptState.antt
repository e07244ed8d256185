-- The state of a script, as contracts see it.
use Rattle.std.specs.Prelude.{ℕ, Bool}
use Rattle.bw_commands.specs.State.{State}
use Rattle.bw_commands.specs.declared.script_state.Script.{Script}

-- by which leaves a gate uses
abbrev pub state_of : {G : Type 0} → (G → ℕ → Bool) → Script G → State
state_of used script = record { hierarchy = script.hierarchy; uses = used script.gate.now }
