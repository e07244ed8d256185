-- The place is lent until it is taken back, and its state is read anew in each turn.
use Rattle.std.proofs.Common.{◌≡◌, None}
use Rattle.bw_lend.proofs.lending.wait_for_place.Given as goal

abbrev pub invariant-loop : goal.invariant-loop
invariant-loop g l = (goal.iterator-loop g).can_next l.iterator'
    × (goal.iterator-loop g).is_finite l.iterator'
    × (l.token.table_id ≡ l.fn.token.table_id) × (l.token.me ≡ l.fn.token.me)
    × g.W.PlaceWord.exists l.word × (g.W.PlaceWord.state l.word ≡ None)
