-- The goals of `ids_are_given_once` that are answered by hand.
use Rattle.bw_laws.proofs.IdLemmas.{given_once}
use Rattle.bw_laws.proofs.ids.ids_are_given_once.Goals as goal

pub returns : goal.returns
returns c = given_once
