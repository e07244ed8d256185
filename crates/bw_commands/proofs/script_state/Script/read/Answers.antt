-- The goals of `Script::read` that are answered by hand.
use Rattle.std.proofs.Common.{refl}
use Rattle.std.proofs.lemmas.Result.{err_from_is_err_and}
use Rattle.bw_hierarchy.specs.Files.{read_of}
use Rattle.bw_commands.specs.ScriptState.{state_of}
use Rattle.bw_commands.specs.State.{State}
use Rattle.bw_commands.specs.Script.{read_outcome}
use Rattle.bw_commands.proofs.Refusals.{call_outcome-IsRefusal}
use Rattle.bw_commands.proofs.script_state.Script.read.Goals as goal

pub returns-in_err-read_file_into-clause-outcome : goal.returns-in_err-read_file_into-clause-outcome
unfolding read_outcome
returns-in_err-read_file_into-clause-outcome g c =
    let s : State = state_of g.G.Gate.used c.args.self.now in
    let p = err_from_is_err_and c.from_residual.result c.from_residual.ensures.1 in
    rw (p.1, p.2) (
      refl,
      call_outcome-IsRefusal s (λ text. text) (λ text. s)
          (read_of s.hierarchy c.args.path.now c.args.file.now)
          c.in_err-read_file_into.field-0.0
          c.in_err-read_file_into.ensures.refused c.in_err-read_file_into.ensures.memory,
    )
