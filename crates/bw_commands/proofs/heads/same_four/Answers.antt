-- The goal of `same_four` that is answered by hand.
use Rattle.std.proofs.Common.{◌∙◌, sym}
use Rattle.std.proofs.Math.Facts.{Fits-lt-pow}
use Rattle.std.proofs.lemmas.Bool.{eqb-true}
use Rattle.bw_commands.proofs.FourBytes.{same_four}
use Rattle.bw_commands.proofs.heads.same_four.Goals as goal

pub returns-clause-same : goal.returns-clause-same
returns-clause-same c t =
    same_four c.args.one.now c.args.other.now c.args.at c.requires.one c.requires.other
    (λ i. Fits-lt-pow (c.type_inv.one i)) (λ i. Fits-lt-pow (c.type_inv.other i))
    (sym c.word_at.ensures ∙ eqb-true c.word_at.result c.word_at-2.result t ∙ c.word_at-2.ensures)
