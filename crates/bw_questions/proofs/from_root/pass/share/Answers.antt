-- The goals of `share` that are answered by hand.
use Rattle.std.proofs.Common.{◌≡◌, ℕ, List, length, get_or, ap, sym, ◌∙◌, arith}
use Rattle.std.specs.Prelude.{map, slice_index}
use Rattle.std.proofs.lemmas.List.{length-map, get_or_read}
use Rattle.bw_model.specs.Groups.{children_of, weight_of}
use Rattle.bw_questions.specs.Passes.{of_children}
use Rattle.bw_plan.proofs.CallerLemmas.{map_is}
use Rattle.bw_questions.proofs.AtGroup.{children_in, children_differ, not_listed}
use Rattle.bw_questions.proofs.from_root.pass.share.Goals as goal

pub write_at-requires-clause-within : goal.write_at-requires-clause-within
write_at-requires-clause-within c =
    rw c.requires.weights
    (children_in c.args.instance.now.rows c.args.g c.children-children.result.now
    c.children-children.ensures)

pub write_at-requires-clause-apart : goal.write_at-requires-clause-apart
write_at-requires-clause-apart c =
    children_differ c.args.instance.now.rows c.args.g c.children-children.result.now
    c.children-children.ensures

pub write_at-requires-2-clause-within : goal.write_at-requires-2-clause-within
write_at-requires-2-clause-within c =
    rw c.requires.amounts
    (children_in c.args.instance.now.rows c.args.g c.children-children.result.now
    c.children-children.ensures)

pub write_at-requires-2-clause-apart : goal.write_at-requires-2-clause-apart
write_at-requires-2-clause-apart c =
    children_differ c.args.instance.now.rows c.args.g c.children-children.result.now
    c.children-children.ensures

pub returns : goal.returns
returns c =
    let rows = c.args.instance.now.rows in
    let list : c.children-children.result.now ≡ children_of rows c.args.g =
    c.children-children.ensures in
    let long : length c.children-children.result.now ≡ length (children_of rows c.args.g) =
    ap (length {A = ℕ}) list in
    let weights : of_children rows c.write_at.new.values.items c.args.g
    ≡ c.in_ok-meeting.meeting.weights.items =
    ap (map (slice_index c.write_at.new.values.items)) (sym list)
    ∙ map_is (slice_index c.write_at.new.values.items) c.children-children.result.now
    c.in_ok-meeting.meeting.weights.items
    (omega (
      arith,
      long,
      c.in_ok-meeting.ensures.meets.between.one_each,
      length-map (children_of rows c.args.g) (weight_of rows),
    ))
    (λ k below. c.write_at.ensures.written k below
    ∙ ap (λ (xs : List ℕ). get_or xs k 0) c.as_slice.ensures.value) in
    let parts : of_children rows c.write_at-2.new.values.items c.args.g
    ≡ c.in_ok-meeting.meeting.parts.items =
    ap (map (slice_index c.write_at-2.new.values.items)) (sym list)
    ∙ map_is (slice_index c.write_at-2.new.values.items) c.children-children.result.now
    c.in_ok-meeting.meeting.parts.items
    (omega (
      arith,
      long,
      c.in_ok-meeting.ensures.meets.split.split.lengths,
      length-map (children_of rows c.args.g) (slice_index c.args.most.now),
    ))
    (λ k below. c.write_at-2.ensures.written k below
    ∙ ap (λ (xs : List ℕ). get_or xs k 0) c.as_slice-2.ensures.value) in
    let here : c.index-amount.result.now ≡ get_or c.args.passed.now.amounts.items c.args.g 0 =
    get_or_read c.args.passed.now.amounts.items c.args.g c.index-amount.result.now
    (omega (arith, c.requires.can.row, c.requires.amounts)) c.index-amount.ensures 0 in
    record {
      weights_each = c.write_at.ensures.len ∙ c.requires.weights;
      amounts_each = c.write_at-2.ensures.len ∙ c.requires.amounts;
      here = rw (weights, parts, ← here) c.in_ok-meeting.ensures;
      others = λ i other. (
        c.write_at.ensures.others i
            (not_listed rows c.args.g c.children-children.result.now list i other),
        c.write_at-2.ensures.others i
            (not_listed rows c.args.g c.children-children.result.now list i other),
      );
    }
