-- What stands at each turn of the loop in `greatest_last`.
use Rattle.std.specs.Prelude.{map, slice_index}
use Rattle.bw_model.specs.Groups.{children_of}
use Rattle.bw_model.specs.Plan.{child_weights}
use Rattle.bw_cert.proofs.GreatestMark.{GreatestOf}
use Rattle.bw_cert.proofs.certifying.greatest_last.Given as goal

abbrev pub invariant-loop-place : goal.invariant-loop-place
invariant-loop-place l = GreatestOf (child_weights l.instance.rows l.g)
    (map (slice_index l.amounts) (children_of l.instance.rows l.g)) l.place l.level
