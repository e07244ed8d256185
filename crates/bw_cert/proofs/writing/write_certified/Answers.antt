-- The goals of `write_certified` that are answered by hand.
use Rattle.std.proofs.Common.{◌≡◌, ◌<◌, ◌≤◌, ◌^◌, ◌++◌, ◌∙◌, ap, refl, length, arith, rules}
use Rattle.std.specs.Prelude.{string_bytes}
use Rattle.std.proofs.lemmas.List.{length-map}
use Rattle.std.specs.Option.{option_map}
use Rattle.bw_model.specs.Marks.{price_of}
use Rattle.bw_cert.specs.Spelling.{certified_value, spelling, IsSmallRow}
use Rattle.bw_cert.proofs.Written.{rest_text, rest_step, rest_none, written_more, written_all}
use Rattle.bw_cert.proofs.Written.{first_none, first_more, first_all, all_levels, IsSmallMark}
use Rattle.bw_cert.proofs.writing.write_certified.Goals as goal

pub loop-i-init : goal.loop-i-init
loop-i-init c =
    let text : string_bytes c.push_head.new.out
    ++ rest_text c.args.instance.now.rows c.args.amounts.now c.args.certificate.now.tight.items
    c.args.certificate.now.levels.items 0
    ≡ spelling (certified_value c.args.instance.now c.args.amounts.now c.args.certificate.now) =
    search rules in (
      text,
      record {
        of_rows = first_none IsSmallRow _;
        of_amounts = first_none (λ n. n < 2 ^ 64) _;
        of_levels = first_none IsSmallMark _;
      },
    )

pub loop-i-preserved : goal.loop-i-preserved
loop-i-preserved c =
    let rows = c.args.instance.now.rows in
    let lt : c.loop-i.i < length rows = omega (arith, ap length c.rows-rows.ensures.rows) in
    let small = c.loop-i.invariant.1 in (
      written_more (string_bytes c.loop-i.out) (string_bytes c.push_group.new.out) _
          (rest_text rows c.args.amounts.now c.args.certificate.now.tight.items
          c.args.certificate.now.levels.items c.loop-i.i) _ _
          (rw c.rows-rows.ensures.rows at c.in_ok-push_group.ensures.text)
          (rest_step rows c.args.amounts.now c.args.certificate.now.tight.items
          c.args.certificate.now.levels.items c.loop-i.i _ _ _ _ _ _ _ _ lt
          (omega arith) (omega arith) (omega arith) refl refl c.index.ensures
          c.index-in-loop-i.ensures)
          c.loop-i.invariant.0,
      record {
        of_rows = first_more IsSmallRow rows c.loop-i.i _ _ refl
            (rw c.rows-rows.ensures.rows at c.in_ok-push_group.ensures.small_row) small.of_rows;
        of_amounts = first_more (λ n. n < 2 ^ 64) c.args.amounts.now c.loop-i.i _ _ refl
            c.in_ok-push_group.ensures.small_amount small.of_amounts;
        of_levels = first_more IsSmallMark c.args.certificate.now.levels.items c.loop-i.i _ _
            c.index-in-loop-i.ensures
            c.in_ok-push_group.ensures.small_level small.of_levels;
      },
    )

pub returns-clause-text : goal.returns-clause-text
returns-clause-text c =
    let rows = c.args.instance.now.rows in
    written_all (string_bytes c.loop-i.out)
    (rest_text rows c.args.amounts.now c.args.certificate.now.tight.items
    c.args.certificate.now.levels.items c.loop-i.i) _
    (rest_none rows c.args.amounts.now c.args.certificate.now.tight.items
    c.args.certificate.now.levels.items c.loop-i.i
    (omega (arith, ap length c.rows-rows.ensures.rows)))
    c.loop-i.invariant.0

pub returns-clause-valid : goal.returns-clause-valid
returns-clause-valid c =
    let rows = c.args.instance.now.rows in
    let small = c.loop-i.invariant.1 in
    let last : length rows ≤ c.loop-i.i = omega (arith, ap length c.rows-rows.ensures.rows) in
    record {
      instance = c.rows-rows.ensures.valid;
      amounts = c.requires.amounts;
      flags = c.requires.flags;
      levels = length-map c.args.certificate.now.levels.items (option_map price_of)
          ∙ c.requires.levels;
      small_rows = first_all IsSmallRow rows c.loop-i.i last small.of_rows;
      small_amounts = first_all (λ n. n < 2 ^ 64) c.args.amounts.now c.loop-i.i
          (omega (arith, last, c.requires.amounts)) small.of_amounts;
      small_levels = all_levels c.args.certificate.now.levels.items
          (first_all IsSmallMark c.args.certificate.now.levels.items c.loop-i.i
          (omega (arith, last, c.requires.levels)) small.of_levels);
    }
