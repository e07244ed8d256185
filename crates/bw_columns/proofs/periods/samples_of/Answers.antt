-- The goals of `samples_of` that are answered by hand.
use Rattle.std.proofs.Common.{rules, ◌≡◌, ◌+◌, ◌*◌, ℕ, suc, List, ◌++◌, length, take, drop, arith}
use Rattle.std.proofs.Common.{ap, sym, ◌∙◌, subst}
use Rattle.std.specs.Option.{option_map_or}
use Rattle.std.proofs.Math.Nat.{suc-mul}
use Rattle.std.proofs.lemmas.List.{drop-drop, length-append}
use Rattle.bw_model.specs.declared.row.Row.{Row}
use Rattle.bw_model.specs.Refusal.{refusal}
use Rattle.bw_model.specs.Faults.{instance_fault_number}
use Rattle.bw_columns.specs.declared.tally.Tally.{Tally}
use Rattle.bw_columns.specs.Asked.{Answers}
use Rattle.bw_columns.specs.Numbers.{number_of_refusal}
use Rattle.bw_columns.specs.PlannedHosts.{groups_on}
use Rattle.bw_columns.specs.Periods.{rows_asking, demands_at, sample_number, AreSamples}
use Rattle.bw_columns.proofs.PeriodNumbers.{none_from, none_more, sample_refused, samples_memory}
use Rattle.bw_columns.proofs.PeriodSamples.{samples-more, asked_count, sample_of_rows}
use Rattle.bw_columns.proofs.Questions.{refusal_positive}
use Rattle.bw_columns.proofs.periods.samples_of.Goals as goal

-- the demands of a sample are the front of those that are left
asked_is : (rows seen : List Row) (demands rest asked : List ℕ) (k : ℕ) → seen ≡ rows
    → rest ≡ drop (k * length rows) demands → asked ≡ take (length seen) rest
    → asked ≡ demands_at (length rows) demands k
asked_is rows seen demands rest asked k same left front =
    front ∙ ap (λ (r : List Row). take (length r) rest) same
    ∙ ap (take (length rows)) left

one_width : (k w : ℕ) → k * w + w ≡ (k + 1) * w
one_width k w =
    let e : suc k ≡ k + 1 = omega arith in
    sym (suc-mul k w) ∙ ap (λ (n : ℕ). n * w) e

rest_is : (rows seen : List Row) (demands rest behind : List ℕ) (k : ℕ) → seen ≡ rows
    → rest ≡ drop (k * length rows) demands → behind ≡ drop (length seen) rest
    → behind ≡ drop ((k + 1) * length rows) demands
rest_is rows seen demands rest behind k same left back =
    back ∙ ap (λ (r : List Row). drop (length r) rest) same
    ∙ ap (drop (length rows)) left ∙ drop-drop (length rows) (k * length rows) demands
    ∙ ap (λ (n : ℕ). drop n demands) (one_width k (length rows))

longer : (told more whole : List Tally) (k w : ℕ) → whole ≡ told ++ more → length told ≡ k * w
    → length more ≡ w → length whole ≡ (k + 1) * w
longer told more whole k w same here there =
    ap (length {A = Tally}) same ∙ length-append told more
    ∙ ap (λ (n : ℕ). n + length more) here ∙ ap (λ (n : ℕ). k * w + n) there ∙ one_width k w

pub returns-in_err-tallies-clause-err : goal.returns-in_err-tallies-clause-err
returns-in_err-tallies-clause-err c =
    search (samples_memory c.args.groups.now.rows.items c.args.count c.args.demands.now, rules)

pub returns-in_err-instance-clause-err : goal.returns-in_err-instance-clause-err
returns-in_err-instance-clause-err c =
    let rows : List Row = c.args.groups.now.rows.items in
    let demands : List ℕ = c.args.demands.now in
    let e = c.in_err-instance.field-0.0 in
    let asked = asked_is rows c.as_slice-rows.result.now demands c.loop-k.rest.now
    c.split_at.result.0.now c.loop-k.k c.as_slice-rows.ensures.value c.loop-k.invariant.rest_is
    c.split_at.ensures.front in
    let held : Answers (sample_number rows demands c.loop-k.k) (number_of_refusal e) =
    subst (λ (d : List ℕ). Answers
    (option_map_or instance_fault_number (refusal (rows_asking rows d)) 0) (number_of_refusal e))
    asked
    (subst (λ (r : List Row). Answers
    (option_map_or instance_fault_number (refusal (rows_asking r c.split_at.result.0.now)) 0)
    (number_of_refusal e)) c.as_slice-rows.ensures.value c.in_err-instance.ensures.err) in
    let known = sample_refused rows c.args.count demands (number_of_refusal e) (refusal_positive e)
    c.loop-k.k (omega arith) c.loop-k.invariant.fine held in
    search (known, rules)

pub sample_of-requires-clause-mosts : goal.sample_of-requires-clause-mosts
sample_of-requires-clause-mosts c =
    ap (length {A = ℕ}) c.as_slice-mosts.ensures.value ∙ c.requires.mosts
    ∙ sym (asked_count c.in_ok-instance.instance c.args.planned c.as_slice-rows.result.now
    c.split_at.result.0.now c.in_ok-instance.ensures.groups
    ∙ ap (length {A = Row}) c.as_slice-rows.ensures.value)

pub sample_of-requires-clause-carries : goal.sample_of-requires-clause-carries
sample_of-requires-clause-carries c =
    c.loop-k.invariant.carries_long
    ∙ sym (asked_count c.in_ok-instance.instance c.args.planned c.as_slice-rows.result.now
    c.split_at.result.0.now c.in_ok-instance.ensures.groups
    ∙ ap (length {A = Row}) c.as_slice-rows.ensures.value)

pub returns-in_err-sample-clause-err : goal.returns-in_err-sample-clause-err
returns-in_err-sample-clause-err c =
    search (samples_memory c.args.groups.now.rows.items c.args.count c.args.demands.now, rules)

pub returns-in_err-extend_from_slice-clause-err : goal.returns-in_err-extend_from_slice-clause-err
returns-in_err-extend_from_slice-clause-err c =
    search (samples_memory c.args.groups.now.rows.items c.args.count c.args.demands.now, rules)

pub loop-k-preserved : goal.loop-k-preserved
loop-k-preserved c =
    let rows : List Row = c.args.groups.now.rows.items in
    let mosts : List ℕ = c.args.groups.now.mosts.items in
    let demands : List ℕ = c.args.demands.now in
    let k : ℕ = c.loop-k.k in
    let asked = asked_is rows c.as_slice-rows.result.now demands c.loop-k.rest.now
    c.split_at.result.0.now k c.as_slice-rows.ensures.value c.loop-k.invariant.rest_is
    c.split_at.ensures.front in
    let here : c.in_ok-instance.instance
    ≡ groups_on c.args.planned (rows_asking rows (demands_at (length rows) demands k)) =
    c.in_ok-instance.ensures.groups
    ∙ ap (λ (r : List Row). groups_on c.args.planned (rows_asking r c.split_at.result.0.now))
    c.as_slice-rows.ensures.value
    ∙ ap (λ (d : List ℕ). groups_on c.args.planned (rows_asking rows d)) asked in
    let sample = sample_of_rows c.in_ok-instance.instance c.args.planned c.args.slice_us
    (rows_asking rows (demands_at (length rows) demands k)) mosts c.as_slice-mosts.result.now
    c.args.times c.loop-k.before.items c.in_ok-sample.sample.tallies.items
    c.in_ok-sample.sample.carries.items c.in_ok-sample.ensures.sample here
    c.as_slice-mosts.ensures.value in
    let more : List Tally = c.in_ok-sample.sample.tallies.items in
    let all : c.extend_from_slice.new.self.items ≡ c.loop-k.tallies.items ++ more = search rules in
    let next : suc k ≡ k + 1 = omega arith in
    record {
      rest_is = rest_is rows c.as_slice-rows.result.now demands c.loop-k.rest.now
          c.split_at.result.1.now k c.as_slice-rows.ensures.value c.loop-k.invariant.rest_is
          c.split_at.ensures.back;
      samples = subst (λ (n : ℕ). AreSamples c.args.planned c.args.slice_us rows mosts c.args.times
          n demands c.args.carries.items c.extend_from_slice.new.self.items
          c.in_ok-sample.sample.carries.items) next
          (subst (λ (ts : List Tally). AreSamples c.args.planned c.args.slice_us rows mosts
          c.args.times (suc k) demands c.args.carries.items ts
          c.in_ok-sample.sample.carries.items) (sym all)
          (samples-more c.args.planned c.args.slice_us rows mosts c.args.times k demands
          c.args.carries.items c.loop-k.before.items c.in_ok-sample.sample.carries.items
          c.loop-k.tallies.items more c.loop-k.invariant.samples sample));
      tallies_long = longer c.loop-k.tallies.items more c.extend_from_slice.new.self.items k
          (length rows) all c.loop-k.invariant.tallies_long
          (c.in_ok-sample.ensures.tallies
          ∙ asked_count c.in_ok-instance.instance c.args.planned rows
          (demands_at (length rows) demands k) here);
      carries_long = c.in_ok-sample.ensures.carries
          ∙ asked_count c.in_ok-instance.instance c.args.planned rows
          (demands_at (length rows) demands k) here;
      fine = none_more (sample_number rows demands) k c.loop-k.invariant.fine
          (ap (λ o. option_map_or instance_fault_number o 0)
          (ap (λ (d : List ℕ). refusal (rows_asking rows d)) (sym asked)
          ∙ ap (λ (r : List Row). refusal (rows_asking r c.split_at.result.0.now))
          (sym c.as_slice-rows.ensures.value) ∙ c.in_ok-instance.ensures.none));
    }

pub returns-clause-none : goal.returns-clause-none
returns-clause-none c =
    none_from (sample_number c.args.groups.now.rows.items c.args.demands.now) c.args.count
    (λ j below. c.loop-k.invariant.fine j (omega (arith, below)))
