-- The goals of `level_shows_best` that are answered by hand.
use Rattle.bw_model.proofs.split.Exchange.{level-IsBestSplit, IsBestSplit-unique}
use Rattle.bw_model.proofs.laws.level_shows_best.Goals as goal

pub returns-clause-level : goal.returns-clause-level
returns-clause-level c = λ level weights most parts amount den_pos same positive at_level split.
    level-IsBestSplit level weights most parts den_pos same positive at_level amount split

pub returns-clause-one : goal.returns-clause-one
returns-clause-one c = IsBestSplit-unique
