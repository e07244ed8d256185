-- The goals of `period_of` that are answered by hand.
use Rattle.std.proofs.Common.{◌≡◌, ℕ, List, length, map, refl, ap, sym, ◌∙◌, subst, slice_index}
use Rattle.std.specs.List.{range_with_len}
use Rattle.bw_model.specs.declared.row.Row.{Row}
use Rattle.bw_model.specs.Host.{Shape}
use Rattle.bw_model.specs.Groups.{Groups, IsInstance, row_of}
use Rattle.bw_model.specs.Plan.{IsPlan}
use Rattle.bw_demand.specs.Demands.{demands_of, IsGathered}
use Rattle.bw_questions.proofs.CallerLemmas.{one_each}
use Rattle.bw_columns.specs.declared.tally.Tally.{Tally}
use Rattle.bw_columns.specs.Booked.{carry_after}
use Rattle.bw_columns.specs.PlannedHosts.{groups_on}
use Rattle.bw_columns.specs.Periods.{period_rows}
use Rattle.bw_columns.specs.Tallies.{tally_of}
use Rattle.bw_columns.proofs.PeriodSamples.{period-IsInstance, period_rows-length, period_count}
use Rattle.bw_columns.proofs.one_period.period_of.Goals as goal

abbrev told : ℕ → List Row → List Row → List ℕ → List ℕ → List Tally
told slice_us rows asked wants amounts =
    map (λ g. tally_of slice_us (row_of rows g) (row_of asked g).limit (slice_index wants g)
    (slice_index amounts g)) (range_with_len 0 (length asked))

pub of_valid-requires : goal.of_valid-requires
of_valid-requires c =
    let a : Groups = c.args.asked.now in
    let mosts : List ℕ = c.args.mosts.now in
    let carries : List ℕ = c.args.carries.now in
    let are : c.in_ok-rows.rows.items ≡ period_rows a.rows mosts carries =
    c.in_ok-rows.ensures
    ∙ ap (λ (r : List Row). period_rows r mosts carries) c.rows-quotas.ensures.rows in
    subst (λ (s : Shape). IsInstance (groups_on s c.in_ok-rows.rows.items)) (sym c.shape.ensures)
    (subst (λ (r : List Row). IsInstance (groups_on a.shape r)) (sym are)
    (period-IsInstance a.rows mosts carries a.shape c.rows-quotas.ensures.valid))

pub tallies_of-requires-clause-rows : goal.tallies_of-requires-clause-rows
tallies_of-requires-clause-rows c =
    ap (length {A = Row}) c.rows.ensures.rows
    ∙ period_count c.in_ok-instance.instance c.shape.result c.in_ok-rows.rows.items
    c.rows-quotas.result.now c.args.mosts.now c.args.carries.now c.in_ok-instance.ensures
    c.in_ok-rows.ensures

pub tallies_of-requires-clause-wants : goal.tallies_of-requires-clause-wants
tallies_of-requires-clause-wants c =
    ap (length {A = ℕ}) c.as_slice-wants.ensures.value ∙ c.in_ok-gathered.ensures.wants_each
    ∙ period_count c.in_ok-instance.instance c.shape.result c.in_ok-rows.rows.items
    c.rows-quotas.result.now c.args.mosts.now c.args.carries.now c.in_ok-instance.ensures
    c.in_ok-rows.ensures

pub tallies_of-requires-clause-amounts : goal.tallies_of-requires-clause-amounts
tallies_of-requires-clause-amounts c =
    ap (length {A = ℕ}) c.as_slice-amounts.ensures.value
    ∙ one_each c.in_ok-instance.instance c.in_ok-plan.plan.amounts.items c.in_ok-plan.ensures
    ∙ period_count c.in_ok-instance.instance c.shape.result c.in_ok-rows.rows.items
    c.rows-quotas.result.now c.args.mosts.now c.args.carries.now c.in_ok-instance.ensures
    c.in_ok-rows.ensures

pub carries_after-requires : goal.carries_after-requires
carries_after-requires c =
    ap (length {A = ℕ}) c.as_slice-amounts.ensures.value
    ∙ one_each c.in_ok-instance.instance c.in_ok-plan.plan.amounts.items c.in_ok-plan.ensures

pub returns : goal.returns
returns c =
    let a : Groups = c.args.asked.now in
    let mosts : List ℕ = c.args.mosts.now in
    let carries : List ℕ = c.args.carries.now in
    let rows : List Row = period_rows a.rows mosts carries in
    let quotas : c.rows-quotas.result.now ≡ a.rows = c.rows-quotas.ensures.rows in
    let are : c.in_ok-rows.rows.items ≡ rows =
    c.in_ok-rows.ensures ∙ ap (λ (r : List Row). period_rows r mosts carries) quotas in
    let here : c.in_ok-instance.instance ≡ groups_on a.shape rows =
    c.in_ok-instance.ensures ∙ ap (λ (s : Shape). groups_on s c.in_ok-rows.rows.items)
    c.shape.ensures ∙ ap (λ (r : List Row). groups_on a.shape r) are in
    let served : c.rows.result.now ≡ rows =
    c.rows.ensures.rows ∙ ap (λ (g : Groups). g.rows) here in
    let wants : List ℕ = c.in_ok-gathered.gathered.want.items in
    let amounts : List ℕ = c.in_ok-plan.plan.amounts.items in
    record {
      period = record {
        rows = rows;
        wants = wants;
        amounts = amounts;
        left = c.in_ok-carries.carries.items;
      };
      held = record {
        rows_are = refl;
        demands = demands_of c.in_ok-gathered.gathered;
        gathered = subst (λ (g : Groups). IsGathered g (demands_of c.in_ok-gathered.gathered)) here
            c.in_ok-gathered.ensures;
        wants_are = refl;
        plan = subst (λ (g : Groups). IsPlan g amounts) here c.in_ok-plan.ensures;
        left_are = c.in_ok-carries.ensures
            ∙ ap (λ (g : Groups). map (carry_after g c.as_slice-amounts.result.now)
            (range_with_len 0 (length g.rows))) here
            ∙ ap (λ (d : List ℕ). map (carry_after (groups_on a.shape rows) d)
            (range_with_len 0 (length rows))) c.as_slice-amounts.ensures.value
            ∙ ap (λ (n : ℕ). map (carry_after (groups_on a.shape rows) amounts)
            (range_with_len 0 n)) (period_rows-length a.rows mosts carries);
      };
      tallies_are = c.in_ok-tallies.ensures
          ∙ ap (λ (r : List Row). told c.args.slice_us r c.rows-quotas.result.now
          c.as_slice-wants.result.now c.as_slice-amounts.result.now) served
          ∙ ap (λ (q : List Row). told c.args.slice_us rows q c.as_slice-wants.result.now
          c.as_slice-amounts.result.now) quotas
          ∙ ap (λ (w : List ℕ). told c.args.slice_us rows a.rows w c.as_slice-amounts.result.now)
          c.as_slice-wants.ensures.value
          ∙ ap (λ (d : List ℕ). told c.args.slice_us rows a.rows wants d)
          c.as_slice-amounts.ensures.value;
      left_are = refl;
    }
