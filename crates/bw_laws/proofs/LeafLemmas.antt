-- Readings of a leaf that a scheduler serves.
use Rattle.std.proofs.Common.{◌≡◌, ◌+◌, ◌*◌, ◌<◌, ◌≤◌, true, false, refl, ap, arith, inl, inr}
use Rattle.std.specs.Prelude.{min, if◌then◌else◌}
use Rattle.std.proofs.lemmas.Bool.{cases_Bool, lt-ltb, le-ltb, ltb-true}
use Rattle.bw_model.specs.Host.{Shape, IsHost}
use Rattle.bw_model.specs.declared.limits.TheConstants.{MAX_DEMAND}
use Rattle.bw_questions.specs.declared.held.leaf.LeafTimes.{LeafTimes}
use Rattle.bw_questions.specs.Hunger.{slices_of_time}
use Rattle.bw_questions.specs.LeafReadings.{asked_ns, leaf_reading, was_idle}
use Rattle.bw_laws.specs.Readings.{LeafAsksForItsWaiting}
use Rattle.bw_laws.proofs.SliceLemmas.{up, up-one_more, slice-pos, slices_rise}

-- the nanoseconds that a leaf asks for are no fewer than it used
asked_ge : (times : LeafTimes) → times.used ≤ asked_ns times
asked_ge times = elim (cases_Bool (was_idle times)) [
  | inl yes' ↦ rw yes' (omega arith)
  | inr no' ↦ rw no' (omega arith)
]

-- a leaf that asks for what it used is not hungry
met : (shape : Shape) (times : LeafTimes) → asked_ns times ≡ times.used
    → ((leaf_reading shape times).asked ≡ (leaf_reading shape times).used)
    × ((leaf_reading shape times).is_hungry ≡ false)
met shape times e =
    let same : (leaf_reading shape times).asked ≡ (leaf_reading shape times).used =
    ap (slices_of_time shape times.passed) e in (
      same,
      le-ltb (leaf_reading shape times).used (leaf_reading shape times).asked
          (omega (arith, same)),
    )

unwaited : (times : LeafTimes) → times.waited ≡ 0 → asked_ns times ≡ times.used
unwaited times none = elim (cases_Bool (was_idle times)) [
  | inl yes' ↦ rw yes' refl
  | inr no' ↦ rw no' (omega (arith, none))
]

lacking : (shape : Shape) (times : LeafTimes) → IsHost shape → 1 ≤ times.passed
    → 19 * times.passed ≤ 20 * (times.used + times.some_waited)
    → times.passed * shape.slice_us ≤ times.waited * shape.period_us
    → (leaf_reading shape times).used < MAX_DEMAND → (leaf_reading shape times).is_hungry ≡ true
lacking shape times host some busy waited below =
    let slice = times.passed * shape.slice_us in
    let not_idle : was_idle times ≡ false =
    le-ltb (20 * (times.used + times.some_waited)) (19 * times.passed) busy in
    let all : asked_ns times ≡ times.used + times.waited =
    ap (λ b. if b then times.used else times.used + times.waited) not_idle in
    let asked : (leaf_reading shape times).asked
    ≡ min MAX_DEMAND (up ((times.used + times.waited) * shape.period_us) slice) =
    ap (slices_of_time shape times.passed) all in
    let more : up (times.used * shape.period_us) slice + 1
    ≤ up ((times.used + times.waited) * shape.period_us) slice =
    up-one_more (times.used * shape.period_us) ((times.used + times.waited) * shape.period_us)
    slice (slice-pos shape times.passed host some) (omega (arith, waited)) in
    lt-ltb (leaf_reading shape times).used (leaf_reading shape times).asked
    (omega (arith, below, asked, more))

pub leaf : LeafAsksForItsWaiting
leaf = record {
  no_less = λ shape times host some.
      slices_rise shape times.passed times.used (asked_ns times) host some (asked_ge times);
  hungry = λ shape times. (
    ltb-true (leaf_reading shape times).used (leaf_reading shape times).asked,
    lt-ltb (leaf_reading shape times).used (leaf_reading shape times).asked,
  );
  idle = λ shape times is. met shape times
      (ap (λ b. if b then times.used else times.used + times.waited)
      (lt-ltb (20 * (times.used + times.some_waited)) (19 * times.passed) is));
  unwaited = λ shape times none. met shape times (unwaited times none);
  lacking = lacking;
}
