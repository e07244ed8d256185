-- The goals of `rest_has_its_part` that are answered by hand.
use Rattle.std.proofs.Common.{refl}
use Rattle.bw_owned.proofs.Rests.{others_have_their_part, levels_have_their_parts, rest_is_exact}
use Rattle.bw_owned.proofs.Rests.{rest_grows}
use Rattle.bw_owned.proofs.laws.rest_has_its_part.Goals as goal

pub returns-clause-part : goal.returns-clause-part
returns-clause-part c = others_have_their_part

pub returns-clause-levels : goal.returns-clause-levels
returns-clause-levels c = levels_have_their_parts

pub returns-clause-exact : goal.returns-clause-exact
returns-clause-exact c = rest_is_exact

pub returns-clause-grow : goal.returns-clause-grow
returns-clause-grow c = rest_grows

pub returns-clause-twice : goal.returns-clause-twice
returns-clause-twice c = record { guarantee_is = refl; amount_is = refl }
