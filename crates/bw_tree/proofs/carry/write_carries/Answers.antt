-- The goals of `write_carries` that are answered by hand.
use Rattle.std.proofs.Common.{◌≡◌, ◌+◌, ◌<◌, ℕ, suc, List, length, get_or, take, sym, ap, ◌∙◌}
use Rattle.std.proofs.Common.{arith}
use Rattle.std.proofs.lemmas.List.{take_all}
use Rattle.bw_model.specs.Groups.{Groups, no_row, row_of}
use Rattle.bw_tree.specs.Groups.{GroupFields}
use Rattle.bw_tree.specs.Snapshot.{left_of, left_over, carried, carried_at, rows_of}
use Rattle.bw_tree.proofs.CarryLemmas.{carry_next, length_carried, length_left_over, left_over_at}
use Rattle.bw_tree.proofs.KeptLemmas.{limit_still}
use Rattle.bw_tree.proofs.SnapshotLemmas.{length_rows}
use Rattle.bw_tree.proofs.carry.write_carries.Goals as goal

pub carry_at-requires-clause-within : goal.carry_at-requires-clause-within
carry_at-requires-clause-within c =
    let gs = c.args.groups.now.entries in
    let cs = left_over (rows_of gs c.args.shape) c.args.drawn.now in
    let same : length c.loop-place.groups.entries
    ≡ length (carried gs (take c.loop-place.place cs)) = ap length c.loop-place.invariant.carries in
    omega (
      arith,
      same,
      length_carried gs (take c.loop-place.place cs),
      c.loop-place-test.true,
      c.requires.drawn,
    )

pub loop-place-preserved : goal.loop-place-preserved
loop-place-preserved c =
    let gs = c.args.groups.now.entries in
    let shape = c.args.shape in
    let drawn = c.args.drawn.now in
    let rows = rows_of gs shape in
    let cs = left_over rows drawn in
    let i = c.loop-place.place in
    let invariant = c.loop-place.invariant in
    let within : i < length gs = omega (arith, c.loop-place-test.true, c.requires.drawn) in
    let each : length drawn ≡ length rows = c.requires.drawn ∙ sym (length_rows gs shape) in
    let long : i < length rows = omega (arith, within, length_rows gs shape) in
    let limit : (row_of c.loop-place.snapshot.instance.rows i).limit ≡ (row_of rows i).limit =
    ap (λ (g : Groups). (row_of g.rows i).limit) invariant.step
    ∙ ap (λ (es : List (ℕ × GroupFields)). (row_of (rows_of es shape) i).limit) invariant.carries
    ∙ limit_still gs cs i shape no_row within in
    let is : left_of (row_of c.loop-place.snapshot.instance.rows i).limit (get_or drawn i 0)
    ≡ get_or cs i 0 =
    ap (λ o. left_of o (get_or drawn i 0)) limit
    ∙ sym (left_over_at rows drawn i no_row long each) in
    let next : suc i ≡ i + 1 = omega arith in
    record {
      carries = c.carry_at.ensures.groups
          ∙ ap (carried_at c.loop-place.groups.entries i) is
          ∙ ap (λ (es : List (ℕ × GroupFields)). carried_at es i (get_or cs i 0))
          invariant.carries
          ∙ carry_next gs cs i within
          (omega (arith, long, length_left_over rows drawn each))
          ∙ ap (λ n. carried gs (take n cs)) next;
      step = c.carry_at.ensures.step;
      sound = c.carry_at.ensures.sound;
      ids = c.carry_at.ensures.ids ∙ invariant.ids;
      quotas = c.carry_at.ensures.quotas ∙ invariant.quotas;
    }

pub returns-clause-carries : goal.returns-clause-carries
returns-clause-carries c =
    let gs = c.args.groups.now.entries in
    let rows = rows_of gs c.args.shape in
    let cs = left_over rows c.args.drawn.now in
    let each : length c.args.drawn.now ≡ length rows =
    c.requires.drawn ∙ sym (length_rows gs c.args.shape) in
    let long = length_left_over rows c.args.drawn.now each in
    c.loop-place.invariant.carries
    ∙ ap (carried gs)
    (take_all c.loop-place.place cs (omega (arith, each, long, c.loop-place-test.false)))
