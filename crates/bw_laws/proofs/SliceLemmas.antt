-- Processor time as slices of one period.
use Rattle.std.proofs.Common.{◌≡◌, ℕ, ◌+◌, ◌-◌, ◌*◌, ◌/◌, ◌<◌, ◌≤◌, ap, ◌∙◌, arith}
use Rattle.std.specs.Prelude.{min}
use Rattle.std.proofs.lemmas.Nat.{le-div, div-mul-add, mul-le}
use Rattle.std.proofs.Math.Nat.{div-mul-le_self, div-add-mod', mul-le-mul_right, one-le-mul}
use Rattle.bw_model.specs.Host.{Shape, IsHost, capacity_of, slices_per_processor}
use Rattle.bw_model.specs.declared.limits.TheConstants.{MAX_DEMAND}
use Rattle.bw_questions.specs.Hunger.{slices_of_time}
use Rattle.bw_questions.proofs.CallerLemmas.{div-mono}
use Rattle.bw_laws.specs.Readings.{SlicesCoverTime}
use Rattle.bw_laws.proofs.Quotients.{div-above, div-le}

-- a quotient that is rounded up
abbrev pub up : ℕ → ℕ → ℕ
up x d = (x + (d - 1)) / d

pub up-enough : (x d : ℕ) → 0 < d → x ≤ up x d * d
up-enough x d some =
    let more : x + (d - 1) < (up x d + 1) * d = div-above (x + (d - 1)) d some in
    omega (arith, more, some)

pub up-below : (x d : ℕ) → 0 < d → up x d * d < x + d
up-below x d some =
    let less : up x d * d ≤ x + (d - 1) = div-mul-le_self (x + (d - 1)) d in
    omega (arith, less, some)

pub up-rises : (x y d : ℕ) → 0 < d → x ≤ y → up x d ≤ up y d
up-rises x y d some within =
    div-mono (x + (d - 1)) (y + (d - 1)) d some (omega (arith, within))

pub up-one_more : (x y d : ℕ) → 0 < d → x + d ≤ y → up x d + 1 ≤ up y d
up-one_more x y d some within =
    let less : up x d * d ≤ x + (d - 1) = div-mul-le_self (x + (d - 1)) d in
    le-div (up x d + 1) (y + (d - 1)) d some (omega (arith, less, within))

pub up-whole : (k d : ℕ) → 0 < d → up (k * d) d ≡ k
up-whole k d some = div-mul-add k d (d - 1) (omega (arith, some))

-- of a host

pub slice-pos : (shape : Shape) (passed : ℕ) → IsHost shape → 1 ≤ passed
    → 0 < passed * shape.slice_us
slice-pos shape passed host some =
    let one : 1 ≤ passed * shape.slice_us =
    one-le-mul some (omega (arith, host.long_slice)) in
    omega (arith, one)

period_is : (shape : Shape) → IsHost shape
    → slices_per_processor shape * shape.slice_us ≡ shape.period_us
period_is shape host =
    let whole = div-add-mod' shape.period_us shape.slice_us in
    omega (arith, whole, host.whole)

pub slices_whole : (shape : Shape) (passed processors : ℕ) → IsHost shape → 1 ≤ passed
    → slices_of_time shape passed (processors * passed)
    ≡ min MAX_DEMAND (processors * slices_per_processor shape)
slices_whole shape passed processors host some =
    let slice = passed * shape.slice_us in
    let per = slices_per_processor shape in
    let times : processors * passed * (per * shape.slice_us)
    ≡ processors * passed * shape.period_us =
    ap (λ n. processors * passed * n) (period_is shape host) in
    let same : processors * passed * shape.period_us ≡ processors * per * slice =
    omega (arith, times) in
    ap (λ n. min MAX_DEMAND (up n slice)) same
    ∙ ap (λ n. min MAX_DEMAND n) (up-whole (processors * per) slice (slice-pos shape passed host some))

pub slices_rise : (shape : Shape) (passed time more : ℕ) → IsHost shape → 1 ≤ passed → time ≤ more
    → slices_of_time shape passed time ≤ slices_of_time shape passed more
slices_rise shape passed time more host some within =
    let times : time * shape.period_us ≤ more * shape.period_us =
    mul-le-mul_right shape.period_us within in
    let slices = up-rises (time * shape.period_us) (more * shape.period_us)
    (passed * shape.slice_us) (slice-pos shape passed host some) times in
    omega (arith, slices)

slices_enough : (shape : Shape) (passed time : ℕ) → IsHost shape → 1 ≤ passed
    → slices_of_time shape passed time < MAX_DEMAND
    → time * shape.period_us ≤ slices_of_time shape passed time * (passed * shape.slice_us)
slices_enough shape passed time host some less =
    let same : slices_of_time shape passed time
    ≡ up (time * shape.period_us) (passed * shape.slice_us) = omega (arith, less) in
    rw same (up-enough (time * shape.period_us) (passed * shape.slice_us)
    (slice-pos shape passed host some))

slices_below : (shape : Shape) (passed time : ℕ) → IsHost shape → 1 ≤ passed
    → slices_of_time shape passed time * (passed * shape.slice_us)
    < time * shape.period_us + passed * shape.slice_us
slices_below shape passed time host some =
    let least : slices_of_time shape passed time
    ≤ up (time * shape.period_us) (passed * shape.slice_us) = omega arith in
    let times : slices_of_time shape passed time * (passed * shape.slice_us)
    ≤ up (time * shape.period_us) (passed * shape.slice_us) * (passed * shape.slice_us) =
    mul-le-mul_right (passed * shape.slice_us) least in
    let below = up-below (time * shape.period_us) (passed * shape.slice_us)
    (slice-pos shape passed host some) in
    omega (arith, times, below)

-- a host has fewer slices than the greatest demand
pub capacity_below : (shape : Shape) → IsHost shape → capacity_of shape < MAX_DEMAND
capacity_below shape host =
    let few : slices_per_processor shape ≤ 1000 =
    div-le shape.period_us shape.slice_us 1000 (omega (arith, host.long_slice))
    (omega (arith, host.long_slice, host.short_period)) in
    let all : shape.processors * slices_per_processor shape ≤ 64 * 1000 =
    mul-le shape.processors (slices_per_processor shape) 64 1000 host.few_processors few in
    omega (arith, all)

-- time within the host is no more than all slices
pub slices_within : (shape : Shape) (passed time : ℕ) → IsHost shape → 1 ≤ passed
    → time ≤ shape.processors * passed → slices_of_time shape passed time < MAX_DEMAND
slices_within shape passed time host some within =
    let most = slices_rise shape passed time (shape.processors * passed) host some within in
    let all = slices_whole shape passed shape.processors host some in
    omega (arith, most, all, capacity_below shape host)

pub slices : SlicesCoverTime
slices = record {
  enough = slices_enough;
  none_too_many = slices_below;
  whole = slices_whole;
  rises = slices_rise;
}
