-- The goals of `groups` that are answered by hand.
use Rattle.std.proofs.Common.{sym, rules}
use Rattle.std.specs.Option.{option_map}
use Rattle.std.proofs.lemmas.Result.{err_from_is_err_and}
use Rattle.std.proofs.lemmas.List.{map_push}
use Rattle.bw_model.specs.Marks.{price_of}
use Rattle.bw_cert.specs.Spelling.{text_lines}
use Rattle.bw_cert.specs.Reading.{groups_at, group_view}
use Rattle.bw_cert.proofs.AllAgain.{group_line_again}
use Rattle.bw_cert.proofs.Loop.{columns_read, goes_on, group_ends, is_done}
use Rattle.bw_cert.proofs.groups.groups.Goals as goal

pub returns-in_err-next : goal.returns-in_err-next
returns-in_err-next c =
    let front = columns_read c.loop.rows.items c.loop.amounts.items c.loop.tight.items
    c.loop.levels.items in
    let p = err_from_is_err_and c.from_residual-in_err-next.result
    c.from_residual-in_err-next.ensures.1 in
    rw (p.1, p.2)
    (group_ends c.in_err-next.field-0.0 front c.args.count c.loop.counter
    (text_lines c.loop.rest.now)
    (groups_at c.args.count (text_lines c.args.text.now)) c.loop-test.true
    (sym c.in_err-next.ensures) c.loop.invariant.read)

pub loop-preserved-in-Some : goal.loop-preserved-in-Some
loop-preserved-in-Some c =
    let front = columns_read c.loop.rows.items c.loop.amounts.items c.loop.tight.items
    c.loop.levels.items in
    let again = group_line_again c.loop.rest.now c.in-Some.after.now c.in-Some.next.row
    c.in-Some.next.amount c.in-Some.next.flag (option_map price_of c.in-Some.next.level)
    c.in-Some.ensures.spelled c.in-Some.ensures.small_row c.in-Some.ensures.small_amount
    c.in-Some.ensures.small_level in
    record {
      read = rw (
        c.push_reserved.ensures.items,
        c.push_reserved-in-Some.ensures.items,
        c.push_reserved-in-Some-2.ensures.items,
        c.push_reserved-in-Some-3.ensures.items,
        map_push (option_map price_of) c.loop.levels.items c.in-Some.next.level,
      )
          (goes_on front c.args.count c.loop.counter (text_lines c.loop.rest.now)
          (text_lines c.in-Some.after.now) (group_view c.in-Some.next)
          (groups_at c.args.count (text_lines c.args.text.now))
          c.loop-test.true again c.loop.invariant.read);
      rows_len = search rules;
      rows_room = search rules;
      amounts_len = search rules;
      amounts_room = search rules;
      tight_len = search rules;
      tight_room = search rules;
      levels_len = search rules;
      levels_room = search rules;
    }

pub loop-preserved : goal.loop-preserved
loop-preserved c =
    let front = columns_read c.loop.rows.items c.loop.amounts.items c.loop.tight.items
    c.loop.levels.items in
    record {
      read = rw (
        c.push_reserved-in-loop.ensures.items,
        c.push_reserved-in-loop-2.ensures.items,
        c.push_reserved-in-loop-3.ensures.items,
        c.push_reserved-in-loop-4.ensures.items,
        map_push (option_map price_of) c.loop.levels.items c.in_ok-next.next.level,
      )
          (goes_on front c.args.count c.loop.counter (text_lines c.loop.rest.now)
          (text_lines c.in_ok-next.after.now) (group_view c.in_ok-next.next)
          (groups_at c.args.count (text_lines c.args.text.now))
          c.loop-test.true (sym c.in_ok-next.ensures) c.loop.invariant.read);
      rows_len = search rules;
      rows_room = search rules;
      amounts_len = search rules;
      amounts_room = search rules;
      tight_len = search rules;
      tight_room = search rules;
      levels_len = search rules;
      levels_room = search rules;
    }

pub returns : goal.returns
returns c =
    let front = columns_read c.loop.rows.items c.loop.amounts.items c.loop.tight.items
    c.loop.levels.items in
    is_done front c.args.count c.loop.counter (text_lines c.loop.rest.now)
    (groups_at c.args.count (text_lines c.args.text.now)) c.loop-test.false c.loop.invariant.read
