-- The goals of `is_at` that are answered by hand.
use Rattle.std.proofs.Common.{ℕ, List, Some, slice_get, sym, ap, ◌∙◌, eqb}
use Rattle.std.proofs.lemmas.Bool.{eqb-true}
use Rattle.std.specs.Cmp.{nat_eq_equiv}
use Rattle.indexmap.proofs.MapLemmas.{index-first}
use Rattle.indexmap.proofs.RemoveLemmas.{own_first}
use Rattle.bw_model.specs.declared.stat.Stat.{Stat}
use Rattle.bw_stat.proofs.books.is_at.Goals as goal

pub returns-in-Some : goal.returns-in-Some
returns-in-Some c is =
    let es = c.args.stats.now.entries in
    let same = eqb-true c.in-Some.key.now c.args.id is in
    let at =
    ap (λ (xs : List (ℕ × Stat)). slice_get xs c.args.place) (sym c.as_slice.ensures.entries)
    ∙ sym c.in-Some.ensures.entry
    ∙ ap (λ (id : ℕ). Some (id, c.in-Some._stat.now)) same in
    index-first (eqb c.args.id) es c.args.place
    (own_first eqb nat_eq_equiv es c.args.place c.args.id c.in-Some._stat.now
    c.as_slice.ensures.unique at)
