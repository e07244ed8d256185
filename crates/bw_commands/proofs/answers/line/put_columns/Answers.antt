-- The goals of `put_columns` that are answered by hand.
use Rattle.std.proofs.Common.{refl}
use Rattle.bw_stat.specs.Report.{counter_columns}
use Rattle.bw_commands.proofs.answers.line.put_columns.Goals as goal

pub returns-clause-ok : goal.returns-clause-ok
returns-clause-ok c =
    (counter_columns c.args.stat.now, c.in_ok-put_counters.ensures.ok, λ path. refl)
