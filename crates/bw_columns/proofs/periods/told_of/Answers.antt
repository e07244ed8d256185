-- The goals of `told_of` that are answered by hand.
use Rattle.std.proofs.Common.{rules, ◌≡◌, ◌*◌, ℕ, List, length, ap, sym, ◌∙◌, subst}
use Rattle.std.proofs.lemmas.List.FromFn.{length-map-range_with_len}
use Rattle.bw_model.specs.declared.row.Row.{Row}
use Rattle.bw_model.specs.Host.{Shape}
use Rattle.bw_columns.specs.Asked.{Answers}
use Rattle.bw_columns.specs.Numbers.{number_of_refusal}
use Rattle.bw_columns.specs.Periods.{Settings, settings_of, set_row, set_rows, samples_number}
use Rattle.bw_columns.proofs.PeriodNumbers.{periods_settings, periods_samples, periods_none}
use Rattle.bw_columns.proofs.PeriodNumbers.{periods_memory}
use Rattle.bw_columns.proofs.Questions.{refusal_positive}
use Rattle.bw_columns.proofs.periods.told_of.Goals as goal

-- as many rows as groups
set_count : (shape : Shape) (settings : Settings) (rows : List Row)
    → rows ≡ set_rows shape settings → length rows ≡ length settings.parents
set_count shape settings rows are =
    ap (length {A = Row}) are
    ∙ length-map-range_with_len (set_row shape settings) 0 (length settings.parents)

pub returns-in_err-groups-clause-err : goal.returns-in_err-groups-clause-err
returns-in_err-groups-clause-err c =
    let e = c.in_err-groups.field-0.0 in
    let known = periods_settings c.args.hosts.units (settings_of c.args.settings.now) c.args.count
    c.args.demands.now (number_of_refusal e) (refusal_positive e) c.in_err-groups.ensures.err in
    search (known, rules)

pub returns-in_err-before-clause-err : goal.returns-in_err-before-clause-err
returns-in_err-before-clause-err c =
    let known = periods_memory c.args.hosts.units (settings_of c.args.settings.now) c.args.count
    c.args.demands.now in
    search (known, rules)

pub samples_of-requires-clause-whole : goal.samples_of-requires-clause-whole
samples_of-requires-clause-whole c =
    ap (λ (n : ℕ). c.args.count * n)
    (set_count c.args.hosts.units (settings_of c.args.settings.now) c.in_ok-groups.groups.rows.items
    c.in_ok-groups.ensures.rows)
    ∙ c.requires.whole

pub samples_of-requires-clause-carries : goal.samples_of-requires-clause-carries
samples_of-requires-clause-carries c =
    ap (length {A = ℕ}) c.in_ok-before.ensures ∙ c.requires.carries
    ∙ sym (set_count c.args.hosts.units (settings_of c.args.settings.now)
    c.in_ok-groups.groups.rows.items c.in_ok-groups.ensures.rows)

pub returns-in_err-samples-clause-err : goal.returns-in_err-samples-clause-err
returns-in_err-samples-clause-err c =
    let e = c.in_err-samples.field-0.0 in
    let known = periods_samples c.args.hosts.units (settings_of c.args.settings.now) c.args.count
    c.args.demands.now (number_of_refusal e) c.in_ok-groups.ensures.none
    (subst (λ (rows : List Row). Answers (samples_number rows c.args.count c.args.demands.now)
    (number_of_refusal e)) c.in_ok-groups.ensures.rows c.in_err-samples.ensures.err) in
    search (known, rules)

pub returns-in_err-sum_columns-clause-err : goal.returns-in_err-sum_columns-clause-err
returns-in_err-sum_columns-clause-err c =
    let known = periods_memory c.args.hosts.units (settings_of c.args.settings.now) c.args.count
    c.args.demands.now in
    search (known, rules)

pub returns-clause-carries : goal.returns-clause-carries
returns-clause-carries c =
    c.in_ok-samples.ensures.carries
    ∙ set_count c.args.hosts.units (settings_of c.args.settings.now)
    c.in_ok-groups.groups.rows.items c.in_ok-groups.ensures.rows

pub returns-clause-none : goal.returns-clause-none
returns-clause-none c =
    periods_none c.args.hosts.units (settings_of c.args.settings.now) c.args.count
    c.args.demands.now c.in_ok-groups.ensures.none
    (ap (λ (rows : List Row). samples_number rows c.args.count c.args.demands.now)
    (sym c.in_ok-groups.ensures.rows) ∙ c.in_ok-samples.ensures.none)
