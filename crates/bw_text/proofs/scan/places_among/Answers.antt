-- The goals of `places_among` that are answered by hand.
use lib.Lanes.{chunk}
use Rattle.std.proofs.lemmas.Simd.{length-chunk}
use Rattle.bw_text.proofs.Lanes.{mask_of_either}
use Rattle.bw_text.proofs.scan.places_among.Goals as goal

pub returns : goal.returns
returns g c =
    let long = length-chunk c.args.at g.row.N c.args.text.now c.requires.room in
    mask_of_either c.args.one c.args.other (chunk c.args.at g.row.N c.args.text.now) g.row.N long
    c.requires.few
