-- The goals of `add_rows` that are answered by hand.
use Rattle.std.proofs.Common.{◌≡◌, ◌+◌, suc, length, drop, get_or, None, arith, sym, ap, ◌∙◌, subst}
use Rattle.std.proofs.Common.{eqb}
use Rattle.std.proofs.lemmas.List.{get_or_default}
use Rattle.std.proofs.lemmas.Map.Entries.{length-keys_of}
use Rattle.std.specs.List.{IsDistinct}
use Rattle.std.specs.Map.{keys_of}
use Rattle.indexmap.specs.IndexMap.{set_value_at}
use Rattle.indexmap.proofs.CallerLemmas.{keys-with_value_at}
use Rattle.bw_model.specs.declared.row.Row.{Row}
use Rattle.bw_stat.specs.Books.{booked, share_of, shares_of, with_share}
use Rattle.bw_stat.proofs.BookLemmas.{add_at, shares_more}
use Rattle.bw_stat.proofs.books.add_rows.Goals as goal

abbrev no_row : Row
no_row = record {
  parent = None;
  weight = 0;
  limit = None;
  demand = 0;
}

-- a share that is added at the place of its row is booked, and those of the rows after it are left
pub loop-i-preserved : goal.loop-i-preserved
loop-i-preserved c =
    let s = c.args.slice_us in
    let rows = c.args.rows.now in
    let qs = c.args.base.now in
    let ws = c.args.wants.now in
    let ds = c.args.drawn.now in
    let books = c.args.stats.now.entries in
    let ids = keys_of books in
    let es = c.loop-i.stats.entries in
    let i = c.loop-i.i in
    let stat = c.add_period.new.stat in
    let row : Row = get_or rows i no_row in
    let share = share_of s row (get_or qs i None) (get_or ws i 0) (get_or ds i 0) in
    let same : keys_of es ≡ ids = c.loop-i.invariant.ids in
    let few : length es ≡ length ids = sym (length-keys_of es) ∙ ap length same in
    let all : length ids ≡ length books = length-keys_of books in
    let apart : IsDistinct eqb (keys_of es) =
    subst (IsDistinct eqb) (sym same) c.requires.distinct in
    let put = add_at es i c.index_mut-stat.result.now share apart (omega (arith, few, all))
    c.index_mut-stat.ensures.value in
    let more = shares_more s i rows ids qs ws ds row (omega arith) (omega (arith, all))
    (omega arith) (omega arith) (omega arith) (get_or_default rows i no_row row (omega arith)) in
    let next : i + 1 ≡ suc i = omega arith in
    record {
      ids = keys-with_value_at c.loop-i.stats i stat ∙ same;
      rest =
          ap (λ n. booked (set_value_at es i stat)
          (shares_of s (drop n rows) (drop n ids) (drop n qs) (drop n ws) (drop n ds))) next
          ∙ ap (λ b. booked b (shares_of s (drop (suc i) rows) (drop (suc i) ids) (drop (suc i) qs)
          (drop (suc i) ws) (drop (suc i) ds)))
          (ap (set_value_at es i) c.add_period.ensures ∙ put
          ∙ ap (λ ks. with_share es (get_or ks i 0) share) same)
          ∙ sym (ap (booked es) more) ∙ c.loop-i.invariant.rest;
    }
