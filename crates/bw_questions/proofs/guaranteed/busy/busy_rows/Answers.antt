-- The goals of `busy_rows` that are answered by hand.
use Rattle.std.proofs.Common.{◌≡◌, ℕ, ◌<◌, ◌++◌, ◌∷◌, [], List, Bool, length, ap, sym, ◌∙◌}
use Rattle.std.proofs.Common.{arith, get_or}
use Rattle.std.proofs.lemmas.List.FromFn.{map-range_with_len_more, get_or-map-range_with_len}
use Rattle.std.proofs.lemmas.List.FromFn.{length-map-range_with_len}
use Rattle.bw_model.specs.declared.row.Row.{Row}
use Rattle.bw_model.specs.Groups.{is_under}
use Rattle.bw_questions.specs.Busy.{under_flags, busy_row}
use Rattle.bw_questions.proofs.guaranteed.busy.busy_rows.Goals as goal

-- The flag that is read.
flag_at : (rows others : List Row) (group g : ℕ) (flags : List Bool) (d : Bool) → others ≡ rows
    → flags ≡ under_flags others group → g < length others
    → get_or flags g d ≡ is_under rows group g
flag_at rows others group g flags d same are below =
    ap (λ xs. get_or xs g d) are
    ∙ get_or-map-range_with_len (is_under others group) 0 (length others) g g d below (omega arith)
    ∙ ap (λ xs. is_under xs group g) same

pub bounds-kept-g : goal.bounds-kept-g
bounds-kept-g c =
    let flags = c.as_slice-kept.ensures.value ∙ c.in_ok-flags.ensures in
    let long : length c.as_slice-kept.result.now ≡ length c.rows-rows.result.now =
    ap (length {A = Bool}) flags
    ∙ length-map-range_with_len (is_under c.rows-rows.result.now c.args.group) 0
    (length c.rows-rows.result.now) in
    omega (arith, long, c.loop-g-test.true)

pub loop-g-preserved : goal.loop-g-preserved
loop-g-preserved c =
    let rows = c.args.instance.now.rows in
    let flag = flag_at rows c.rows-rows.result.now c.args.group c.loop-g.g
    c.as_slice-kept.result.now _ c.rows-rows.ensures.rows
    (c.as_slice-kept.ensures.value ∙ c.in_ok-flags.ensures) c.loop-g-test.true in
    let is : c.busy_row.result
    ≡ busy_row rows c.loop-g.g (is_under rows c.args.group c.loop-g.g) =
    c.busy_row.ensures ∙ ap (busy_row rows c.loop-g.g) flag in
    record {
      done = c.in_ok-push.ensures.items ∙ ap (λ row. c.loop-g.busy.items ++ row ∷ []) is
          ∙ ap (λ xs. xs ++ busy_row rows c.loop-g.g (is_under rows c.args.group c.loop-g.g) ∷ [])
          c.loop-g.invariant.done
          ∙ sym (map-range_with_len_more (λ g. busy_row rows g (is_under rows c.args.group g)) 0
          c.loop-g.g c.loop-g.g (omega arith));
    }
