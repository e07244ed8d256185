-- The goal of `parent` that is answered by hand.
use Rattle.std.proofs.Common.{◌≡◌, ℕ, ◌<◌, List, Option, None, Some, ap, sym}
use Rattle.std.specs.Prelude.{IfSome}
use Rattle.bw_model.specs.declared.row.Row.{Row}
use Rattle.bw_model.specs.Groups.{AreTreeRows, parent_of}
use Rattle.bw_model.proofs.CallerLemmas.{parent_lt}
use Rattle.bw_check.proofs.readers.parent.Goals as goal

is_before : (rows : List Row) (g : ℕ) (o : Option ℕ) → AreTreeRows rows → parent_of rows g ≡ o
    → IfSome o (λ p. p < g)
is_before rows g None tree e = tt
is_before rows g (Some p) tree e = parent_lt rows tree g p e

pub returns-clause-before : goal.returns-clause-before
returns-clause-before c =
    is_before c.args.rows.now c.args.g c.row.result.parent c.requires.tree
    (sym (ap (λ (r : Row). r.parent) c.row.ensures))
