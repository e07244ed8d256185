-- The goals of `least_part` that are answered by hand.
use Rattle.std.proofs.Common.{◌≡◌, ℕ, ◌<◌, length, get_or, ap, ◌∙◌, arith}
use Rattle.bw_model.specs.Groups.{path_up}
use Rattle.bw_questions.specs.Served.{part_of}
use Rattle.bw_questions.proofs.Parts.{least_of_more, least_on_the_way, way_within}
use Rattle.bw_questions.proofs.held.served.least_part.Goals as goal

pub part_at-part-requires-clause-row : goal.part_at-part-requires-clause-row
part_at-part-requires-clause-row c =
    let rows = c.args.reading.now.rows in
    let way : c.as_slice-groups.result.now ≡ path_up rows c.args.leaf =
    c.as_slice-groups.ensures ∙ c.path_up-path.ensures in
    let below : c.loop-k.k < length (path_up rows c.args.leaf) =
    omega (arith, c.loop-k-test.true, ap (length {A = ℕ}) way) in
    rw way
    (way_within rows c.rows-rows.ensures.valid.tree c.args.leaf c.loop-k.k c.requires.row below)

pub loop-k-preserved : goal.loop-k-preserved
loop-k-preserved c = record {
  least = rw (c.lesser-found.ensures, c.part_at-part.ensures)
      (least_of_more _ c.loop-k.k c.loop-k.found c.loop-k.invariant.least);
}

pub returns : goal.returns
returns c =
    let rows = c.args.reading.now.rows in
    let planned = c.args.planned.now in
    let way : c.as_slice-groups.result.now ≡ path_up rows c.args.leaf =
    c.as_slice-groups.ensures ∙ c.path_up-path.ensures in
    let all : c.loop-k.k ≡ length (path_up rows c.args.leaf) =
    omega (arith, c.loop-k-test.false, c.loop-k.auto.k-end, ap (length {A = ℕ}) way) in
    least_on_the_way rows
    (λ a limit. part_of c.args.calm limit (get_or planned a 0) (get_or planned c.args.leaf 0)
    c.args.held) c.args.leaf c.loop-k.found (rw (way, all) at c.loop-k.invariant.least)
