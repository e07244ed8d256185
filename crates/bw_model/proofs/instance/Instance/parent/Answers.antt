-- The goals of `Instance::parent` that are answered by hand.
use Rattle.std.proofs.Common.{◌≡◌, ℕ, ◌<◌, List, Option, None, Some, ap, sym}
use Rattle.std.specs.Option.{IfSome}
use Rattle.bw_model.specs.declared.row.Row.{Row}
use Rattle.bw_model.specs.Groups.{AreTreeRows, parent_of}
use Rattle.bw_model.proofs.tree.Under.{parent_lt}
use Rattle.bw_model.proofs.instance.Instance.parent.Goals as goal

before : (rows : List Row) (g : ℕ) → AreTreeRows rows → (o : Option ℕ) → parent_of rows g ≡ o
    → IfSome o (λ p. p < g)
before rows g tree None e = tt
before rows g tree (Some p) e = parent_lt rows tree g p e

pub returns-clause-before : goal.returns-clause-before
returns-clause-before c =
    before c.args.self.now.rows c.args.g c.rows-rows.ensures.valid.tree c.row.result.parent
    (sym (ap (λ (row : Row). row.parent) c.row.ensures))
