-- The goals of `set_rows` that are answered by hand.
use Rattle.std.proofs.Common.{rules, length, arith, sym, inl}
use Rattle.bw_columns.specs.declared.refusal.Refusal.TheVariants.{Setting}
use Rattle.bw_files.specs.Faults.{file_fault_number}
use Rattle.bw_columns.specs.Periods.{Settings, settings_of, set_row, most_at, setting_number_at}
use Rattle.bw_columns.proofs.PeriodNumbers.{none_from, none_more, settings_refused}
use Rattle.bw_columns.proofs.PeriodNumbers.{settings_memory}
use Rattle.bw_columns.proofs.Questions.{refusal_positive}
use Rattle.bw_columns.proofs.Turns.{map_more}
use Rattle.bw_columns.proofs.set_rows.set_rows.Goals as goal

pub returns-in_err-allowed-clause-err : goal.returns-in_err-allowed-clause-err
returns-in_err-allowed-clause-err c =
    let fault = c.in_err-allowed.field-0.0 in
    let held = settings_refused c.args.shape (settings_of c.args.settings.now)
    (file_fault_number fault) (refusal_positive (Setting fault)) c.loop-g.g (omega arith)
    c.loop-g.invariant.fine (inl (sym c.in_err-allowed.ensures.err)) in
    search (held, rules)

pub returns-in_err-push-clause-err : goal.returns-in_err-push-clause-err
returns-in_err-push-clause-err c =
    search (settings_memory c.args.shape (settings_of c.args.settings.now), rules)

pub loop-g-preserved : goal.loop-g-preserved
loop-g-preserved c =
    let settings : Settings = settings_of c.args.settings.now in
    record {
      rows = search (map_more (set_row c.args.shape settings) c.loop-g.g, rules);
      mosts = search (map_more (most_at c.args.shape settings) c.loop-g.g, rules);
      fine = none_more (setting_number_at c.args.shape settings) c.loop-g.g c.loop-g.invariant.fine
          c.in_ok-allowed.ensures.none;
    }

pub returns-clause-none : goal.returns-clause-none
returns-clause-none c =
    none_from (setting_number_at c.args.shape (settings_of c.args.settings.now))
    (length c.args.settings.now.parents.now)
    (λ j below. c.loop-g.invariant.fine j (omega (arith, below)))
