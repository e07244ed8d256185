-- Hosts of one capacity: they have the same plans, and so many processors can share it.
use Rattle.std.proofs.Common.{◌≡◌, ◌<◌, ◌≤◌, ◌+◌, ◌*◌, ◌/◌, ◌%◌, ℕ, zero, suc, true, false}
use Rattle.std.proofs.Common.{List, Some, refl, sym, ap, subst, ◌∙◌, inl, inr, arith}
use Rattle.std.proofs.Math.Nat.{mul-mod_right, mul-div_cancel_left, div-le_of_le-mul, div-add-mod}
use Rattle.std.proofs.Math.Nat.{mul-le-mul_left, mul-div_cancel, min-eq_left}
use Rattle.std.proofs.lemmas.Nat.{le-div}
use Rattle.std.proofs.lemmas.Bool.{le-leb, cases_lt, true≢false}
use Rattle.bw_model.specs.declared.row.Row.{Row}
use Rattle.bw_model.specs.declared.limits.TheConstants.{MAX_PROCESSORS, MAX_PER_PROCESSOR}
use Rattle.bw_model.specs.declared.limits.TheConstants.{MAX_CAPACITY, MIN_SLICE_US}
use Rattle.bw_model.specs.declared.host.HostFault.TheVariants.{BadProcessors}
use Rattle.bw_model.specs.Host.{Shape, IsHost, capacity_of, slices_per_processor}
use Rattle.bw_model.specs.Groups.{limit_of}
use Rattle.bw_model.specs.Allocation.{total, IsWithin, IsGreatestTotal}
use Rattle.bw_model.specs.Plan.{IsBest, IsPlan}
use Rattle.bw_model.proofs.CallerLemmas.{IsHost-accepted, capacity_le}
use Rattle.bw_columns.specs.PlannedHosts.{groups_on, HaveSamePlans, can_share, cut}
use Rattle.bw_columns.specs.PlannedHosts.{IsPlannedHost, IsUnplannedHost}

-- the capacity of a host, by the slices of each processor of the host with at most 64 of them
pub capacity_by : (asked host : Shape) (each : ℕ) → host ≡ cut asked
    → each ≡ slices_per_processor host → asked.processors * each ≡ capacity_of asked
capacity_by asked host each same is =
    ap (λ (n : ℕ). asked.processors * n) (is ∙ ap slices_per_processor same)

-- hosts of one capacity have the same limit for each group
limit_same : (one other : Shape) (rows : List Row) → capacity_of one ≡ capacity_of other → (g : ℕ)
    → limit_of (groups_on one rows) g ≡ limit_of (groups_on other rows) g
limit_same one other rows even zero = ap (λ (n : ℕ). Some n) even
limit_same one other rows even (suc g) = refl

-- an allocation within the limits of one is within those of the other
within_same : (one other : Shape) (rows : List Row) → capacity_of one ≡ capacity_of other
    → (allocation : List ℕ) → IsWithin (groups_on one rows) allocation
    → IsWithin (groups_on other rows) allocation
within_same one other rows even allocation w = record {
  allots = w.allots;
  demands = w.demands;
  limits = λ g limit within at.
      w.limits g limit within (limit_same one other rows even g ∙ at);
}

-- the greatest total of one is that of the other
greatest_same : (one other : Shape) (rows : List Row) → capacity_of one ≡ capacity_of other
    → (n : ℕ) → IsGreatestTotal (groups_on one rows) n → IsGreatestTotal (groups_on other rows) n
greatest_same one other rows even n w = record {
  reached = (
    w.reached.0,
    within_same one other rows even w.reached.0 w.reached.1,
    w.reached.2,
  );
  none_more = λ allocation within.
      w.none_more allocation (within_same other one rows (sym even) allocation within);
}

-- a plan of one is a plan of the other
plan_same : (one other : Shape) (rows : List Row) → capacity_of one ≡ capacity_of other
    → (amounts : List ℕ) → IsPlan (groups_on one rows) amounts
    → IsPlan (groups_on other rows) amounts
plan_same one other rows even amounts p =
    let best : IsBest (groups_on other rows) p.allocation = record {
      within = within_same one other rows even p.allocation p.best.within;
      greatest = greatest_same one other rows even (total rows p.allocation 0) p.best.greatest;
      best = λ g below another within alike.
          p.best.best g below another
          (within_same other one rows (sym even) another within) alike;
    } in
    record { allocation = p.allocation; best = best; amounts_are = p.amounts_are }

-- hosts of one capacity have the same plans
pub same_plans : (one other : Shape) → capacity_of one ≡ capacity_of other
    → HaveSamePlans one other
same_plans one other even = record {
  there = λ rows amounts p. plan_same one other rows even amounts p;
  back = λ rows amounts p. plan_same other one rows (sym even) amounts p;
}

-- a host has at most 1000 slices on each processor
pub each_le : (shape : Shape) → IsHost shape → slices_per_processor shape ≤ MAX_PER_PROCESSOR
each_le shape host =
    let scaled : MAX_PER_PROCESSOR * MIN_SLICE_US ≤ MAX_PER_PROCESSOR * shape.slice_us =
    mul-le-mul_left MAX_PER_PROCESSOR host.long_slice in
    div-le_of_le-mul shape.slice_us (omega (arith, host.short_period, scaled))

-- the processors of a host can share its capacity
pub host_shares : (shape : Shape) → IsHost shape
    → can_share (capacity_of shape) shape.processors ≡ true
host_shares shape host =
    let whole : shape.processors * slices_per_processor shape % shape.processors ≡ 0 =
    mul-mod_right shape.processors (slices_per_processor shape) in
    let each : shape.processors * slices_per_processor shape / shape.processors
    ≡ slices_per_processor shape =
    mul-div_cancel_left (slices_per_processor shape) (omega (arith, host.some_processor)) in
    rw whole (rw each (le-leb (slices_per_processor shape) MAX_PER_PROCESSOR (each_le shape host)))

-- a host of this capacity whose processors cannot share it is none
no_sharer : (capacity : ℕ) (shape : Shape) → IsHost shape → capacity_of shape ≡ capacity
    → can_share capacity shape.processors ≡ false → ⊥
no_sharer capacity shape host even none =
    let shares : can_share capacity shape.processors ≡ true =
    subst (λ (n : ℕ). can_share n shape.processors ≡ true) even (host_shares shape host) in
    true≢false (sym shares ∙ none)

-- a host of at most 64 processors is planned itself
pub planned-itself : (asked : Shape) → IsHost (cut asked) → asked.processors ≤ MAX_PROCESSORS
    → IsPlannedHost asked (cut asked)
planned-itself asked host few =
    let same : cut asked ≡ asked =
    ap (λ (n : ℕ).
    record { processors = n; period_us = asked.period_us; slice_us = asked.slice_us })
    (min-eq_left few) in
    record {
      accepted = IsHost-accepted (cut asked) host;
      host = host;
      same_capacity = ap capacity_of same;
      same_plans = same_plans asked (cut asked) (ap capacity_of (sym same));
      itself = λ _. same;
      slice = λ many. absurd (omega (arith, few, many));
      most = λ many other valid even. absurd (omega (arith, few, many));
    }

-- a capacity on so many processors, in slices of a millisecond
abbrev pub shared_host : ℕ → ℕ → Shape
shared_host capacity most = record {
  processors = most;
  period_us = capacity / most * MIN_SLICE_US;
  slice_us = MIN_SLICE_US;
}

-- the most processors that can share the capacity are planned in place of a host of more than 64
pub planned-shared : (asked : Shape) (most : ℕ) → IsHost (cut asked)
    → MAX_PROCESSORS < asked.processors → IsHost (shared_host (capacity_of asked) most)
    → capacity_of asked % most ≡ 0
    → ((k : ℕ) → most < k → k ≤ MAX_PROCESSORS → can_share (capacity_of asked) k ≡ false)
    → IsPlannedHost asked (shared_host (capacity_of asked) most)
planned-shared asked most host many valid whole none =
    let capacity : ℕ = capacity_of asked in
    let each : capacity / most * MIN_SLICE_US / MIN_SLICE_US ≡ capacity / most =
    mul-div_cancel (capacity / most) (omega arith) in
    let shared : most * (capacity / most) + capacity % most ≡ capacity =
    div-add-mod capacity most in
    let even : capacity_of (shared_host capacity most) ≡ capacity =
    ap (λ (n : ℕ). most * n) each ∙ omega (arith, shared, whole) in
    record {
      accepted = IsHost-accepted (cut asked) host;
      host = valid;
      same_capacity = even;
      same_plans = same_plans asked (shared_host capacity most) (sym even);
      itself = λ few. absurd (omega (arith, few, many));
      slice = λ _. refl;
      most = λ _ other sound alike. elim (cases_lt most other.processors) [
        | inl more ↦ absurd (no_sharer capacity other sound alike
            (none other.processors more sound.few_processors))
        | inr no_more ↦ no_more
      ];
    }

-- a capacity that no 64 processors can share is of no host
pub unplanned-shared : (asked : Shape) → IsHost (cut asked) → MAX_PROCESSORS < asked.processors
    → ((k : ℕ) → 1 ≤ k → k ≤ MAX_PROCESSORS → can_share (capacity_of asked) k ≡ false)
    → IsUnplannedHost asked BadProcessors
unplanned-shared asked host many none = inr (
  record {
    accepted = IsHost-accepted (cut asked) host;
    many = many;
    none = λ other sound even. no_sharer (capacity_of asked) other sound even
        (none other.processors sound.some_processor sound.few_processors);
  },
  refl,
)

-- a host of more processors than the greatest capacity has a capacity of no host
pub unplanned-crowded : (asked : Shape) → IsHost (cut asked) → MAX_CAPACITY < asked.processors
    → IsUnplannedHost asked BadProcessors
unplanned-crowded asked host crowded =
    let one : 1 ≤ slices_per_processor asked =
    le-div 1 asked.period_us asked.slice_us (omega (arith, host.long_slice))
    (omega (arith, host.short_slice)) in
    let each : asked.processors * 1 ≤ asked.processors * slices_per_processor asked =
    mul-le-mul_left asked.processors one in
    inr (
      record {
        accepted = IsHost-accepted (cut asked) host;
        many = omega (arith, crowded);
        none = λ other sound even.
            absurd (omega (arith, capacity_le other sound, even, each, crowded));
      },
      refl,
    )
