-- The goals of `most_is_the_want_cut` that are answered by hand.
use Rattle.std.proofs.Common.{sym, ◌∙◌}
use Rattle.bw_model.specs.Groups.{limit_of}
use Rattle.bw_model.specs.Demand.{want_of}
use Rattle.bw_model.proofs.CallerLemmas.{IsMost-unique, AreMaxTotals-capped}
use Rattle.bw_demand.proofs.WantsGathered.{cut-capped}
use Rattle.bw_demand.proofs.laws.most_is_the_want_cut.Goals as goal

pub returns : goal.returns
returns c = record {
  unique = IsMost-unique;
  rule = λ groups most valid known g below.
      AreMaxTotals-capped groups valid.tree most known g below
      ∙ sym (cut-capped (limit_of groups g) (want_of groups most g));
}
