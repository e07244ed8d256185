-- The goals of `is_too_deep` that are answered by hand.
use Rattle.std.proofs.Common.{◌≡◌, ◌+◌, ◌<◌, Some, None, ℕ, sym, ap, ◌∙◌, subst, arith, refl}
use Rattle.std.specs.Prelude.{is_some}
use Rattle.bw_model.specs.declared.limits.TheConstants.{MAX_DEPTH}
use Rattle.bw_model.specs.declared.row.Row.{Row}
use Rattle.bw_model.specs.Groups.{parent_of, depth_of}
use Rattle.bw_model.proofs.CallerLemmas.{parent_lt}
use Rattle.bw_columns.specs.Asked.{table_of, rows_in}
use Rattle.bw_columns.proofs.RefusedRow.{shallow, deeper, at_last}
use Rattle.bw_columns.proofs.first_row.is_too_deep.Goals as goal

pub returns-in-None : goal.returns-in-None
returns-in-None c =
    let rows = rows_in (table_of c.args.columns.now) in
    let top : parent_of rows c.loop-step.at ≡ None =
    sym (ap (λ (r : Row). r.parent) c.row_at.ensures) ∙ c.in-None.is in
    sym (shallow rows c.requires.tree c.args.g c.loop-step.at c.loop-step.step
    c.loop-step.invariant.depth (omega arith) top)

pub loop-step-preserved : goal.loop-step-preserved
loop-step-preserved c =
    let rows = rows_in (table_of c.args.columns.now) in
    let up : parent_of rows c.loop-step.at ≡ Some c.in-Some.parent =
    sym (ap (λ (r : Row). r.parent) c.row_at.ensures) ∙ c.in-Some.is in
    let before : c.in-Some.parent < c.loop-step.at =
    parent_lt rows c.requires.tree c.loop-step.at c.in-Some.parent up in
    record {
      within = omega (arith, before, c.loop-step.invariant.within);
      depth = deeper rows c.requires.tree c.args.g c.loop-step.at c.in-Some.parent
          c.loop-step.step c.loop-step.invariant.depth up;
    }

pub returns : goal.returns
returns c =
    let rows = rows_in (table_of c.args.columns.now) in
    let last : c.loop-step.step ≡ MAX_DEPTH = omega arith in
    let depth : depth_of rows c.args.g ≡ depth_of rows c.loop-step.at + MAX_DEPTH =
    subst (λ (step : ℕ). depth_of rows c.args.g ≡ depth_of rows c.loop-step.at + step) last
    c.loop-step.invariant.depth in
    c.is_some.ensures
    ∙ ap (λ (r : Row). is_some r.parent) c.row_at-2.ensures
    ∙ at_last rows c.requires.tree c.args.g c.loop-step.at (parent_of rows c.loop-step.at) depth
    refl
