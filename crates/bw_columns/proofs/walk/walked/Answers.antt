-- The goals of `walked` that are answered by hand.
use Rattle.std.proofs.Common.{◌≡◌, ℕ, ◌+◌, ◌-◌, ◌<◌, List, [], ◌∷◌, ◌++◌, length, ap, sym, ◌∙◌}
use Rattle.std.proofs.Common.{arith, subst}
use Rattle.std.proofs.lemmas.List.{length-append}
use Rattle.std.proofs.lemmas.List.FromFn.{length-map-range_with_len}
use Rattle.bw_model.specs.declared.row.Row.{Row}
use Rattle.bw_model.specs.Host.{Shape}
use Rattle.bw_columns.specs.declared.tally.Tally.{Tally}
use Rattle.bw_columns.specs.Periods.{Period, IsToldPeriod, AreSuccessive, tally_at, left_at}
use Rattle.bw_columns.proofs.PeriodSums.{added_more, successive-more}
use Rattle.bw_columns.proofs.walk.walked.Goals as goal

-- the numbers of a period are as many as its rows
told_long : (shape : Shape) (slice_us : ℕ) (asked : List Row) (mosts carries : List ℕ)
    (tallies : List Tally) (after : List ℕ)
    → IsToldPeriod shape slice_us asked mosts carries tallies after
    → length tallies ≡ length asked
told_long shape slice_us asked mosts carries tallies after told =
    ap (length {A = Tally}) told.tallies_are
    ∙ length-map-range_with_len (tally_at slice_us asked told.period) 0 (length asked)

left_long : (shape : Shape) (slice_us : ℕ) (asked : List Row) (mosts carries : List ℕ)
    (tallies : List Tally) (after : List ℕ)
    → IsToldPeriod shape slice_us asked mosts carries tallies after
    → length after ≡ length asked
left_long shape slice_us asked mosts carries tallies after told =
    ap (length {A = ℕ}) (told.left_are ∙ told.held.left_are)
    ∙ length-map-range_with_len (left_at told.period.rows told.period.amounts) 0 (length asked)

-- one more is done
one_more : (ps : List Period) (p : Period) (left whole : ℕ) → 0 < left
    → length ps + left ≡ whole → length (ps ++ p ∷ []) + (left - 1) ≡ whole
one_more ps p left whole some count =
    let longer : length (ps ++ p ∷ []) ≡ length ps + 1 = length-append ps (p ∷ []) in
    omega (arith, longer, some, count)

pub added_up-requires : goal.added_up-requires
added_up-requires c =
    ap (length {A = Tally}) c.as_slice-tallies.ensures.value
    ∙ told_long c.args.asked.now.shape c.args.slice_us c.args.asked.now.rows c.args.mosts.now
    c.as_slice.result.now c.in_ok-period.period.tallies.items c.in_ok-period.period.carries.items
    c.in_ok-period.ensures
    ∙ sym (ap (length {A = Tally}) c.as_slice-2.ensures.value ∙ c.requires.sums)

pub added_up-requires-2 : goal.added_up-requires-2
added_up-requires-2 c =
    ap (length {A = Tally}) c.as_slice-tallies.ensures.value
    ∙ told_long c.args.asked.now.shape c.args.slice_us c.args.asked.now.rows c.args.mosts.now
    c.as_slice.result.now c.in_ok-period.period.tallies.items c.in_ok-period.period.carries.items
    c.in_ok-period.ensures
    ∙ sym (ap (length {A = Tally}) c.as_slice-3.ensures.value ∙ c.requires.turn)

pub returns-clause-way : goal.returns-clause-way
returns-clause-way c = λ times begin way.
    let shape : Shape = c.args.asked.now.shape in
    let rows : List Row = c.args.asked.now.rows in
    let mosts : List ℕ = c.args.mosts.now in
    let slice_us : ℕ = c.args.slice_us in
    let tallies : List Tally = c.in_ok-period.period.tallies.items in
    let after : List ℕ = c.in_ok-period.period.carries.items in
    let told : IsToldPeriod shape slice_us rows mosts c.args.walk.carries.items tallies after =
    subst (λ (b : List ℕ). IsToldPeriod shape slice_us rows mosts b tallies after)
    c.as_slice.ensures.value c.in_ok-period.ensures in
    let p : Period = told.period in
    record {
      carries_long = left_long shape slice_us rows mosts c.args.walk.carries.items tallies after
          told;
      done = way.done ++ p ∷ [];
      count = one_more way.done p c.args.walk.left times c.requires.left way.count;
      successive = subst
          (λ (a : List ℕ). AreSuccessive shape rows mosts begin (way.done ++ p ∷ []) a)
          (sym told.left_are)
          (successive-more shape rows mosts way.done p begin c.args.walk.carries.items
          way.successive told.held);
      sums = added_more slice_us rows way.done p c.as_slice-2.result.now
          c.as_slice-tallies.result.now c.in_ok-sums.sums.items c.in_ok-sums.ensures
          (c.as_slice-2.ensures.value ∙ way.sums)
          (c.as_slice-tallies.ensures.value ∙ told.tallies_are);
      turn = way.turn ++ p ∷ [];
      turn_count = one_more way.turn p c.args.walk.left c.args.walk.mark_left c.requires.left
          way.turn_count;
      turned = subst
          (λ (a : List ℕ). AreSuccessive shape rows mosts c.args.walk.mark.items
          (way.turn ++ p ∷ []) a)
          (sym told.left_are)
          (successive-more shape rows mosts way.turn p c.args.walk.mark.items
          c.args.walk.carries.items way.turned told.held);
      turn_sums = added_more slice_us rows way.turn p c.as_slice-3.result.now
          c.as_slice-tallies.result.now c.in_ok-turn.turn.items c.in_ok-turn.ensures
          (c.as_slice-3.ensures.value ∙ way.turn_sums)
          (c.as_slice-tallies.ensures.value ∙ told.tallies_are);
    }
