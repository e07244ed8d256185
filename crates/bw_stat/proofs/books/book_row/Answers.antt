-- The goals of `book_row` that are answered by hand.
use Rattle.std.proofs.Common.{sym, ap, ◌∙◌, eqb}
use Rattle.indexmap.specs.IndexMap.{insert_entry}
use Rattle.indexmap.proofs.MapLemmas.{Found-position, insert_entry-first}
use Rattle.bw_stat.specs.Books.{or_zeros, added, share_of}
use Rattle.bw_stat.proofs.books.book_row.Goals as goal

-- a value that is written at the group's place is inserted under its id
pub returns-then-is_at-clause-entries : goal.returns-then-is_at-clause-entries
returns-then-is_at-clause-entries c =
    let es = c.args.stats.now.entries in
    let share = share_of c.args.slice_us c.args.row.now c.args.quota c.args.want c.args.drawn in
    let found = Found-position (eqb c.args.id) es c.args.likely
    (c.is_at.ensures c.if-is_at.true) in
    let there = found.value ∙ c.index_mut-stat.ensures.value in
    sym (insert_entry-first eqb c.args.id c.add_period.new.stat es c.args.likely found.first)
    ∙ ap (insert_entry eqb es c.args.id)
    (c.add_period.ensures ∙ ap (λ o. added (or_zeros o) share) (sym there))
