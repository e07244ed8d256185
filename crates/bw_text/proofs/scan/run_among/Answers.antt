-- The goals of `run_among` that are answered by hand.
use Rattle.std.proofs.Common.{sym, ap, ◌∙◌, arith}
use lib.Count.{count_trailing_zeros}
use lib.Lanes.{chunk}
use Rattle.std.proofs.lemmas.Simd.{length-chunk, leading_from_mask_l, trailing_mask_l}
use Rattle.bw_text.specs.Words.{is_either}
use Rattle.bw_text.proofs.scan.run_among.Goals as goal

pub returns-then-places-eq0 : goal.returns-then-places-eq0
returns-then-places-eq0 g c =
    let v = chunk c.args.at g.row.N c.args.text.now in
    let long = length-chunk c.args.at g.row.N c.args.text.now c.requires.room in
    sym (leading_from_mask_l (is_either c.args.one c.args.other) v
    (sym c.places_among-places.ensures ∙ c.if-places-eq0.true) ∙ long)

pub returns-else-places-eq0 : goal.returns-else-places-eq0
returns-else-places-eq0 g c =
    let v = chunk c.args.at g.row.N c.args.text.now in
    let long = length-chunk c.args.at g.row.N c.args.text.now c.requires.room in
    ap (count_trailing_zeros 64) c.places_among-places.ensures
    ∙ trailing_mask_l (is_either c.args.one c.args.other) 64 v
    (omega (arith, long, c.requires.few)) (omega arith)
