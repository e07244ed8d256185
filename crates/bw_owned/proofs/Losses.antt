-- Losses of rounds: the least slices with which they are harmed no more.
use Rattle.std.proofs.Common.{ℕ, ◌+◌, ◌-◌, ◌*◌, ◌/◌, ◌%◌, ◌<◌, ◌≤◌, ◌≡◌, ◌≢◌, ◌==◌, Bool, true, false}
use Rattle.std.proofs.Common.{arith, inl, inr, refl, subst}
use Rattle.std.specs.Prelude.{min, max, if◌then◌else◌}
use Rattle.std.proofs.lemmas.Bool.{cases_lt, ne_eqb}
use Rattle.std.proofs.lemmas.Grind.{div_ceil_times}
use Rattle.std.proofs.Math.Nat.{mul-le-mul_left, mul-le-mul_right}
use Rattle.bw_owned.specs.declared.harm.ServedSlices.{ServedSlices}
use Rattle.bw_owned.specs.Harm.{served_part, whole_plan, IsHarmed, with_more, IsLost}
use Rattle.bw_owned.specs.Laws.{HarmIsHarm}

-- a part is no more than the whole
pub part_le_whole : (slices : ServedSlices) → served_part slices ≤ whole_plan slices
part_le_whole slices = parts (slices.planned == 0)
  where
    parts : (b : Bool)
        → (if b then 1 else min slices.used slices.planned) ≤ max slices.planned 1
    parts true = omega arith
    parts false = omega arith

-- harm of rounds with a plan, in numbers
harm_is : (free held : ServedSlices) (more : ℕ) → held.planned ≢ 0
    → IsHarmed free (with_more held more)
    → 20 * min (held.used + more) held.planned * whole_plan free + held.planned * whole_plan free
    < 20 * served_part free * held.planned
harm_is free held more some harmed =
    let first = rw (ne_eqb held.planned 0 some) at harmed in
    let same : max held.planned 1 ≡ held.planned = omega (arith, some) in
    rw same at first

is_harm : (free held : ServedSlices) (more : ℕ) → held.planned ≢ 0
    → 20 * min (held.used + more) held.planned * whole_plan free + held.planned * whole_plan free
    < 20 * served_part free * held.planned
    → IsHarmed free (with_more held more)
is_harm free held more some harmed =
    let same : max held.planned 1 ≡ held.planned = omega (arith, some) in
    rw (ne_eqb held.planned 0 some) (rw same harmed)

-- with what is lost, so much of a plan is served as is needed
enough : (used planned part whole needed served : ℕ) → part ≤ whole
    → 20 * part * planned - whole * planned ≤ needed * (20 * whole)
    → served ≡ min (used + (needed - used)) planned
    → 20 * served * whole + planned * whole < 20 * part * planned → ⊥
enough used planned part whole needed served within times same harmed =
    elim (cases_lt (used + (needed - used)) planned) [
      | inl less ↦
          let more : needed ≤ served = omega (arith, same, less) in
          let wholes : needed * whole ≤ served * whole = mul-le-mul_right whole more in
          omega (arith, wholes, times, harmed)
      | inr no_less ↦
          let all : planned ≤ served = omega (arith, same, no_less) in
          let wholes : planned * whole ≤ served * whole = mul-le-mul_right whole all in
          let parts : part * planned ≤ whole * planned = mul-le-mul_right planned within in
          omega (arith, parts, wholes, harmed)
    ]

-- with fewer slices a plan is served less than is needed
fewer_harm : (used planned part whole needed fewer : ℕ) → fewer < needed - used
    → needed * (20 * whole) < (20 * part * planned - whole * planned) + 20 * whole
    → 20 * min (used + fewer) planned * whole + planned * whole < 20 * part * planned
fewer_harm used planned part whole needed fewer few times =
    let below : min (used + fewer) planned + 1 ≤ needed = omega (arith, few) in
    let wholes : (min (used + fewer) planned + 1) * whole ≤ needed * whole =
    mul-le-mul_right whole below in
    omega (arith, wholes, times)

pub lost_is : (free held : ServedSlices) (needed : ℕ) → held.planned ≢ 0
    → needed
    ≡ (20 * served_part free * held.planned - whole_plan free * held.planned)
    / (20 * whole_plan free)
    + min 1 ((20 * served_part free * held.planned - whole_plan free * held.planned)
    % (20 * whole_plan free))
    → IsLost free held (needed - held.used)
lost_is free held needed some by =
    let least = 20 * served_part free * held.planned - whole_plan free * held.planned in
    let whole : 0 < 20 * whole_plan free = omega arith in
    let both = div_ceil_times least (20 * whole_plan free) whole in
    let most : least ≤ needed * (20 * whole_plan free) = rw by both.0 in
    let fits : needed * (20 * whole_plan free) < least + 20 * whole_plan free = rw by both.1 in
    record {
      enough = λ harmed.
          enough held.used held.planned (served_part free) (whole_plan free) needed _
          (part_le_whole free) most refl (harm_is free held (needed - held.used) some harmed);
      least = λ fewer few.
          is_harm free held fewer some
          (fewer_harm held.used held.planned (served_part free) (whole_plan free) needed fewer few
          fits);
    }

-- of rounds with a plan no more is served than was used
part_le_used : (slices : ServedSlices) → slices.planned ≢ 0 → served_part slices ≤ slices.used
part_le_used slices some = rw (ne_eqb slices.planned 0 some) (omega arith)

-- harm in numbers: less of a plan than of another one
less_served : (used planned served part other whole first : ℕ) → part ≤ other → part ≤ whole
    → first ≤ whole → served ≡ min used planned
    → 20 * served * whole + planned * whole < 20 * part * planned
    → used * first < other * planned
less_served used planned served part other whole first no_more within reach same harmed =
    let parts : part * planned ≤ other * planned = mul-le-mul_right planned no_more in
    let wholes : part * planned ≤ whole * planned = mul-le-mul_right planned within in
    elim (cases_lt used planned) [
      | inl less ↦
          let all : used ≤ served = omega (arith, same, less) in
          let one : used * whole ≤ served * whole = mul-le-mul_right whole all in
          let two : used * first ≤ used * whole = mul-le-mul_left used reach in
          omega (arith, parts, one, two, harmed)
      | inr no_less ↦
          let all : planned ≤ served = omega (arith, same, no_less) in
          let one : planned * whole ≤ served * whole = mul-le-mul_right whole all in
          absurd (omega (arith, wholes, one, harmed))
    ]

pub harm_is_harm : HarmIsHarm
harm_is_harm free held planned harmed =
    let within = part_le_whole free in
    elim (cases_lt 0 held.planned) [
      | inl some ↦
          let now = rw (ne_eqb held.planned 0 (omega (arith, some))) at harmed in
          let same : max held.planned 1 ≡ held.planned = omega (arith, some) in
          less_served held.used held.planned (min held.used held.planned) (served_part free)
          free.used (whole_plan free) free.planned (part_le_used free (omega (arith, planned)))
          within (omega arith) refl (rw same at now)
      | inr no_less ↦
          let none : held.planned ≡ 0 = omega (arith, no_less) in
          let now : 20 * 1 * whole_plan free + 1 * whole_plan free < 20 * served_part free * 1 =
          subst (λ (n : ℕ). 20 * (if n == 0 then 1 else min held.used n) * whole_plan free
          + max n 1 * whole_plan free < 20 * served_part free * max n 1) none harmed in
          absurd (omega (arith, now, within))
    ]
