-- The goals of `Books::counters_near` that are answered by hand.
use Rattle.std.proofs.Common.{◌∙◌, eqb, sym, ap}
use Rattle.indexmap.proofs.MapLemmas.{Found-position}
use Rattle.bw_stat.specs.Books.{or_zeros, stat_at}
use Rattle.bw_stat.proofs.books.Books.counters_near.Goals as goal

pub returns-then-is_at : goal.returns-then-is_at
returns-then-is_at c =
    let es = c.self.inside.stats.entries in
    let found = Found-position (eqb c.args.id) es c.args.likely
    (c.is_at.ensures c.if-is_at.true) in
    let there = found.value ∙ c.index.ensures in
    ap or_zeros (sym there) ∙ ap (λ b. or_zeros (stat_at b c.args.id)) c.self.view_is
