-- The goals of `book` that are answered by hand.
use Rattle.std.proofs.Common.{rules, sym, ◌∙◌}
use Rattle.std.specs.Map.{keys_of}
use Rattle.bw_stat.proofs.BookLemmas.{shares_in_place}
use Rattle.bw_stat.proofs.books.Books.book.Goals as goal

pub returns-then-are_in_place-clause-booked : goal.returns-then-are_in_place-clause-booked
returns-then-are_in_place-clause-booked c =
    let shares = shares_in_place c.args.instance.now.shape.slice_us c.args.instance.now.rows
    (keys_of c.self.inside.stats.entries) c.args.ids.now c.args.base.now
    c.args.gathered.now.want.items c.args.drawn.now
    (sym c.are_in_place.ensures.in_place ∙ c.if-are_in_place.true) c.requires.ids in
    search rules
