-- The goals of `apply_change` that are answered by hand.
use Rattle.std.proofs.Common.{ap, subst, sym}
use Rattle.std.proofs.lemmas.Result.{err_from_is_err_and}
use Rattle.bw_hierarchy.specs.State.{with_tree}
use Rattle.bw_hierarchy.specs.Calls.{mkdir_of}
use Rattle.bw_commands.specs.Faults.{error_line}
use Rattle.bw_commands.specs.Parsed.{change_of}
use Rattle.bw_commands.specs.State.{State, in_state, with_hierarchy}
use Rattle.bw_commands.specs.Script.{mkdir_outcome, ok_line, IsOutcome, outcome_of_command}
use Rattle.bw_commands.specs.declared.fault.ScriptFault.TheVariants as fault
use Rattle.bw_commands.proofs.Refusals.{call_outcome-IsRefusal}
use Rattle.bw_commands.proofs.change.apply_change.Goals as goal

pub returns-in_err-_id-in-Mkdir-clause-performs : goal.returns-in_err-_id-in-Mkdir-clause-performs
unfolding mkdir_outcome
returns-in_err-_id-in-Mkdir-clause-performs c = λ uses.
    let s : State = in_state uses c.args.hierarchy.now in
    let f = c.in_err-_id-in-Mkdir.field-0.0 in
    let p = err_from_is_err_and c.from_residual.result c.from_residual.ensures.1 in
    let refused = call_outcome-IsRefusal s (λ made. ok_line)
    (λ made. with_hierarchy s (with_tree s.hierarchy made.1))
    (mkdir_of s.hierarchy.tree c.in-Mkdir.path.now) f c.in_err-_id-in-Mkdir.ensures.refused
    c.in_err-_id-in-Mkdir.ensures.memory in
    rw (p.1, p.2) (
      ap (in_state uses) c.in_err-_id-in-Mkdir.ensures.err,
      subst (λ m. IsOutcome s (outcome_of_command s (change_of m)) (error_line (fault.Call f)) s)
          (sym c.in-Mkdir.is) refused,
    )
