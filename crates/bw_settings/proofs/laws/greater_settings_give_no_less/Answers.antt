-- The goal of `greater_settings_give_no_less` that is answered by hand.
use Rattle.bw_settings.proofs.Rows.{settings_rise}
use Rattle.bw_settings.proofs.laws.greater_settings_give_no_less.Goals as goal

pub returns : goal.returns
returns c =
    settings_rise c.there_is_one_plan.ensures c.lighter_has_no_more.ensures
    c.weights_grow.ensures.grow
