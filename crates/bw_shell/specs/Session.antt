-- A session as contracts see it.
use Rattle.std.specs.Prelude.{ℕ, Bool, List}
use Rattle.bw_shell.specs.declared.session.Session.{Session}
use Rattle.bw_shell.specs.Responder.{responder_state, responder_waits}
use Rattle.bw_commands.specs.Script.{kept_of}
use Rattle.bw_shell.specs.Scan.{Scan}

-- by which leaves a gate uses
abbrev pub scan_of : {G : Type 0} → (G → ℕ → Bool) → Session G → Scan
scan_of used s = record { state = responder_state used s.responder; kept = kept_of s.line.items }

-- the answers that wait to be written
abbrev pub session_waits : {G : Type 0} → Session G → List ℕ
session_waits s = responder_waits s.responder
