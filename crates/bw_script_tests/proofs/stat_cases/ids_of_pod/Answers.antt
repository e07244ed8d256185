-- The goals of `ids_of_pod` that are answered by hand.
use Rattle.std.proofs.Common.{refl}
use Rattle.std.specs.List.{IsDistinct}
use Rattle.bw_script_tests.proofs.stat_cases.ids_of_pod.Goals as goal

pub returns : goal.returns
unfolding IsDistinct
returns c = (
  (refl, (refl, (refl, (refl, tt)))),
  ((refl, (refl, (refl, tt))), ((refl, (refl, tt)), ((refl, tt), (tt, tt)))),
)
