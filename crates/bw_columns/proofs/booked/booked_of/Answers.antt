-- The goals of `booked_of` that are answered by hand.
use Rattle.std.proofs.Common.{◌≡◌, ℕ, List, length, map, ap, sym, ◌∙◌, subst}
use Rattle.std.specs.List.{range_with_len}
use Rattle.std.proofs.lemmas.List.{length-map}
use Rattle.std.proofs.lemmas.List.FromFn.{length-map-range_with_len}
use Rattle.bw_model.specs.declared.stat.Stat.{Stat}
use Rattle.bw_model.specs.Groups.{Groups}
use Rattle.bw_demand.specs.Demands.{demands_of}
use Rattle.bw_columns.specs.Requests.{row_count}
use Rattle.bw_columns.specs.Booked.{Counters, counters_of, counters_in, AreCounters}
use Rattle.bw_columns.specs.Booked.{AreCountersLong, stat_after, carry_after, IsBookedPeriod}
use Rattle.bw_columns.proofs.booked.booked_of.Goals as goal

-- columns of counters are as long as the list of them
counters_long : (stats : List Stat) (counters : Counters) (count : ℕ) → AreCounters stats counters
    → length stats ≡ count → AreCountersLong counters count
counters_long stats counters count are long =
    record {
      usage_usec = ap length are.usage_usec ∙ length-map stats (λ (s : Stat). s.usage_usec) ∙ long;
      nr_periods = ap length are.nr_periods ∙ length-map stats (λ (s : Stat). s.nr_periods) ∙ long;
      nr_throttled = ap length are.nr_throttled ∙ length-map stats (λ (s : Stat). s.nr_throttled)
          ∙ long;
      throttled_usec = ap length are.throttled_usec
          ∙ length-map stats (λ (s : Stat). s.throttled_usec) ∙ long;
      nr_bursts = ap length are.nr_bursts ∙ length-map stats (λ (s : Stat). s.nr_bursts) ∙ long;
      burst_usec = ap length are.burst_usec ∙ length-map stats (λ (s : Stat). s.burst_usec) ∙ long;
    }

pub stats_after-requires-clause-wants : goal.stats_after-requires-clause-wants
stats_after-requires-clause-wants c =
    ap (length {A = ℕ}) c.as_slice-wants.ensures.value ∙ c.in_ok-gathered.ensures.wants_each

pub stats_after-requires-clause-counters : goal.stats_after-requires-clause-counters
stats_after-requires-clause-counters c =
    subst (AreCountersLong (counters_of c.args.counters.now))
    (sym c.in_ok-instance.ensures.rows)
    (record {
      usage_usec = c.requires.usage_usec c.in_ok-instance.ensures.reply.0;
      nr_periods = c.requires.nr_periods c.in_ok-instance.ensures.reply.0;
      nr_throttled = c.requires.nr_throttled c.in_ok-instance.ensures.reply.0;
      throttled_usec = c.requires.throttled_usec c.in_ok-instance.ensures.reply.0;
      nr_bursts = c.requires.nr_bursts c.in_ok-instance.ensures.reply.0;
      burst_usec = c.requires.burst_usec c.in_ok-instance.ensures.reply.0;
    })

pub returns-clause-booked : goal.returns-clause-booked
returns-clause-booked c =
    let booked = c.in_ok-booked_columns.field-0 in
    let i : Groups = c.in_ok-instance.instance in
    let quotas = c.args.quotas.now in
    let drawn = c.args.drawn.now in
    let before : Counters = counters_of c.args.counters.now in
    let stats = c.as_slice.ensures.value ∙ c.in_ok-stats.ensures
    ∙ ap (λ (w : List ℕ). map (stat_after i w quotas drawn before)
    (range_with_len 0 (length i.rows))) c.as_slice-wants.ensures.value in
    subst
    (λ (g : Groups). IsBookedPeriod g quotas drawn booked.carries.items before (counters_in booked))
    c.in_ok-instance.ensures.groups
    (record {
      demands = demands_of c.in_ok-gathered.gathered;
      gathered = c.in_ok-gathered.ensures;
      counters = subst (λ (s : List Stat). AreCounters s (counters_in booked)) stats
          c.in_ok-booked_columns.ensures.counters;
      carries_are = c.in_ok-booked_columns.ensures.carries ∙ c.in_ok-carries.ensures;
    })

pub returns-clause-carries : goal.returns-clause-carries
returns-clause-carries c =
    let i : Groups = c.in_ok-instance.instance in
    ap (length {A = ℕ}) (c.in_ok-booked_columns.ensures.carries ∙ c.in_ok-carries.ensures)
    ∙ length-map-range_with_len (carry_after i c.args.drawn.now) 0 (length i.rows)
    ∙ c.in_ok-instance.ensures.rows

pub returns-clause-counters : goal.returns-clause-counters
returns-clause-counters c =
    let booked = c.in_ok-booked_columns.field-0 in
    let i : Groups = c.in_ok-instance.instance in
    let each = stat_after i c.as_slice-wants.result.now c.args.quotas.now c.args.drawn.now
    (counters_of c.args.counters.now) in
    counters_long c.as_slice.result.now (counters_in booked)
    (row_count c.args.request.now) c.in_ok-booked_columns.ensures.counters
    (ap (length {A = Stat}) (c.as_slice.ensures.value ∙ c.in_ok-stats.ensures)
    ∙ length-map-range_with_len each 0 (length i.rows)
    ∙ c.in_ok-instance.ensures.rows)
