-- The goals of `write_max` that are answered by hand.
use Rattle.std.proofs.Common.{sym, ap, ◌∙◌}
use Rattle.bw_tree.specs.Tree.{with_setting, set_max, set_quota, set_period}
use Rattle.bw_tree.proofs.CallerLemmas.{settings_join}
use Rattle.bw_hierarchy.proofs.SettingLemmas.{never_refused}
use Rattle.bw_hierarchy.proofs.settings.write_max.Goals as goal

pub returns-in_err-set_period-in-Some-clause-never :
    goal.returns-in_err-set_period-in-Some-clause-never
returns-in_err-set_period-in-Some-clause-never c =
    absurd (never_refused (set_quota c.args.quota) c.args.tree.now c.set_limit.new.self c.args.id _
    c.requires.settable c.in_ok-set_limit.ensures.set.1
    c.in_err-set_period-in-Some.ensures.refused)

pub returns-in_ok-set_period-in-Some-clause-set : goal.returns-in_ok-set_period-in-Some-clause-set
returns-in_ok-set_period-in-Some-clause-set c =
    c.in_ok-set_period-in-Some.ensures.set.1
    ∙ ap (λ t. with_setting (set_period c.in-Some.n) t c.args.id) c.in_ok-set_limit.ensures.set.1
    ∙ settings_join (set_period c.in-Some.n) (set_quota c.args.quota) c.args.tree.now c.args.id
    ∙ ap (λ p. with_setting (set_max c.args.quota p) c.args.tree.now c.args.id) (sym c.in-Some.is)
