-- The goals of `periods_of` that are answered by hand.
use Rattle.std.proofs.Common.{rules, ◌≡◌, ℕ, Bool, true, false, List, ap, sym, ◌∙◌, subst}
use Rattle.std.proofs.Common.{inl, inr, ◌/◌, length}
use Rattle.std.proofs.lemmas.Result.{IfOk-weaker, on_ok_weaker, IfErr-weaker}
use Rattle.bw_model.specs.declared.row.Row.{Row}
use Rattle.bw_model.specs.Host.{Shape}
use Rattle.bw_columns.specs.declared.periods.PeriodColumns.{PeriodColumns}
use Rattle.bw_columns.specs.declared.refusal.Refusal.{Refusal}
use Rattle.bw_columns.specs.Asked.{Answers, shape_of}
use Rattle.bw_columns.specs.Numbers.{number_of_refusal}
use Rattle.bw_columns.specs.PlannedHosts.{cut}
use Rattle.bw_columns.specs.Periods.{Settings, settings_of, set_rows, mosts_of, AreSamples}
use Rattle.bw_columns.specs.Periods.{periods_number, IsFitAnswer, IsPeriodsAnswer}
use Rattle.bw_columns.specs.Periods.{ArePlannedSamples, AreToldSamples}
use Rattle.bw_columns.specs.Tallies.{Sums, sums_in}
use Rattle.bw_columns.proofs.PeriodNumbers.{set_rows_cut, mosts_cut, periods_cut}
use Rattle.bw_columns.proofs.periods.periods_of.Goals as goal

-- columns that fit
fit_answer : (fit : Bool) (shape : Shape) (settings : Settings) (count : ℕ) (demands : List ℕ)
    (number : ℕ) → fit ≡ true → IsFitAnswer shape settings count demands number
    → IsPeriodsAnswer fit shape settings count demands number
fit_answer true shape settings count demands number e held = held
fit_answer false shape settings count demands number e held = absurd (let clash : ⊥ = cc in clash)

-- the number of processors changes no conversion
samples_cut : (units shape planned : Shape) (settings : Settings) (times count : ℕ)
    (demands carries after : List ℕ) (sums : Sums) → units ≡ cut shape
    → ArePlannedSamples planned units settings times count demands carries after sums
    → ArePlannedSamples planned shape settings times count demands carries after sums
samples_cut units shape planned settings times count demands carries after sums same held =
    let known : ArePlannedSamples planned (cut shape) settings times count demands carries after
    sums =
    subst (λ (s : Shape). ArePlannedSamples planned s settings times count demands carries after
    sums) same held in
    record {
      tallies = known.tallies;
      samples = subst (λ (rows : List Row). AreSamples planned shape.slice_us rows
          (mosts_of shape settings) times count demands carries known.tallies after)
          (set_rows_cut shape settings)
          (subst (λ (mosts : List ℕ). AreSamples planned shape.slice_us
          (set_rows (cut shape) settings) mosts times count demands carries known.tallies after)
          (mosts_cut shape settings) known.samples);
      sums_are = known.sums_are;
    }

number_cut : (units shape : Shape) (settings : Settings) (count : ℕ) (demands : List ℕ)
    → units ≡ cut shape
    → periods_number units settings count demands ≡ periods_number shape settings count demands
number_cut units shape settings count demands same =
    ap (λ (s : Shape). periods_number s settings count demands) same
    ∙ periods_cut shape settings count demands

pub returns-clause-told : goal.returns-clause-told
returns-clause-told c =
    let shape : Shape = shape_of c.args.host in
    let settings : Settings = settings_of c.args.settings.now in
    let count : ℕ = length c.args.demands.now / length c.args.settings.now.parents.now in
    IfOk-weaker c.told_of.result
    (λ (p : PeriodColumns). ArePlannedSamples c.in-Ok.hosts.planned c.in-Ok.hosts.units settings
    c.args.times count c.args.demands.now c.args.carries.now p.carries.items (sums_in p.sums))
    (λ (p : PeriodColumns). AreToldSamples shape settings c.args.times c.args.demands.now
    c.args.carries.now p.carries.items (sums_in p.sums))
    (λ p held. record {
      planned = c.in-Ok.hosts.planned;
      host = c.in-Ok.ensures.planned;
      samples = samples_cut c.in-Ok.hosts.units shape c.in-Ok.hosts.planned settings c.args.times
          count c.args.demands.now c.args.carries.now p.carries.items (sums_in p.sums)
          c.in-Ok.ensures.units held;
    })
    c.told_of.ensures.samples

pub returns-clause-none : goal.returns-clause-none
returns-clause-none c =
    let shape : Shape = shape_of c.args.host in
    let settings : Settings = settings_of c.args.settings.now in
    let count : ℕ = length c.args.demands.now / length c.args.settings.now.parents.now in
    let fits : c.args.fit ≡ true = search rules in
    on_ok_weaker c.told_of.result
    (λ none. fit_answer c.args.fit shape settings count c.args.demands.now 0 fits
    (inr (
      c.in-Ok.hosts.planned,
      c.in-Ok.ensures.planned,
      inl (sym (sym (number_cut c.in-Ok.hosts.units shape settings count c.args.demands.now
          c.in-Ok.ensures.units) ∙ none)),
    )))
    c.told_of.ensures.none

pub returns-clause-err : goal.returns-clause-err
returns-clause-err c =
    let shape : Shape = shape_of c.args.host in
    let settings : Settings = settings_of c.args.settings.now in
    let count : ℕ = length c.args.demands.now / length c.args.settings.now.parents.now in
    let fits : c.args.fit ≡ true = search rules in
    IfErr-weaker c.told_of.result
    (λ (e : Refusal). Answers
    (periods_number c.in-Ok.hosts.units settings count c.args.demands.now) (number_of_refusal e))
    (λ (e : Refusal). IsPeriodsAnswer c.args.fit shape settings count c.args.demands.now
    (number_of_refusal e))
    (λ e held. fit_answer c.args.fit shape settings count c.args.demands.now (number_of_refusal e)
    fits
    (inr (
      c.in-Ok.hosts.planned,
      c.in-Ok.ensures.planned,
      subst (λ (n : ℕ). Answers n (number_of_refusal e))
          (number_cut c.in-Ok.hosts.units shape settings count c.args.demands.now c.in-Ok.ensures.units)
          held,
    )))
    c.told_of.ensures.err
