-- No leaf past a level of its plan is picked while a leaf waits that is short of it.
use Rattle.std.proofs.Common.{◌≡◌, ◌≢◌, ℕ, ◌+◌, ◌*◌, ◌<◌, ◌≤◌, length, ap, sym}
use Rattle.std.proofs.Common.{subst, arith}
use Rattle.std.proofs.Math.Nat.{mul-le-mul_right, mul-lt-mul_of_pos_right, lt_of_mul-lt-mul_right}
use Rattle.dispatch.specs.Rule.{DispatchState, leaf_at}
use Rattle.dispatch.specs.Runs.{after_all, runs_of}
use Rattle.dispatch.specs.Runs.{NoneIsPickedPastItsPlan}
use Rattle.dispatch.proofs.Leads.{leads_of, leaves_kept, by_index}

short_of_level : (ui ci ai cj aj num den : ℕ) → ui ≤ ci → 0 < ai → 0 < aj → ci * aj ≤ cj * ai
    → cj * den < num * aj → ui * den < num * ai
short_of_level ui ci ai cj aj num den uses some_i some_j least short =
    let more = mul-le-mul_right den least in
    let less = mul-lt-mul_of_pos_right short some_i in
    let both : ci * den * aj < num * ai * aj = omega (arith, more, less) in
    let charge : ci * den < num * ai = lt_of_mul-lt-mul_right aj both in
    let used = mul-le-mul_right den uses in
    omega (arith, charge, used)

own_level : (u r num den a : ℕ) → (u + r) * den < num * a → u * den < num * a
own_level u r num den a h = omega (arith, h)

pub none_is_picked_past_its_plan : NoneIsPickedPastItsPlan
none_is_picked_past_its_plan s overrun j p i num den events start amounts run known waits here short
    may = by_index (λ (k : ℕ). (leaf_at t k).used * den < num * (leaf_at t k).amount) i j
    (own_level (leaf_at t j).used ((t.slice + 0) * runs_of j t.processors) num den
    (leaf_at t j).amount short) other where
      t : DispatchState
      t = after_all s events

      known_i : i < length s.leaves
      known_i = omega (arith, may.leaf.known, leaves_kept s overrun events run)

      other : i ≢ j → (leaf_at t i).used * den < num * (leaf_at t i).amount
      other ne =
          let l = leads_of s overrun i j events start run waits ne in
          let n = l.numbers in
          let slices : t.slice * runs_of j t.processors ≡ s.slice * runs_of j t.processors =
          ap (λ m. m * runs_of j t.processors) l.slice_is in
          let charge : (leaf_at t j).charged
          ≡ (leaf_at t j).used + (t.slice + 0) * runs_of j t.processors =
          omega (arith, n.charge_j, slices) in
          let less : (leaf_at t j).charged * den < num * (leaf_at t j).amount =
          subst (λ (m : ℕ). m * den < num * (leaf_at t j).amount) (sym charge) short in
          let some_i : 0 < (leaf_at t i).amount =
          subst (λ (m : ℕ). 0 < m) (sym l.amount_i) (amounts i known_i) in
          let some_j : 0 < (leaf_at t j).amount =
          subst (λ (m : ℕ). 0 < m) (sym l.amount_j) (amounts j known) in
          let uses : (leaf_at t i).used ≤ (leaf_at t i).charged = omega (arith, n.charge_i) in
          short_of_level (leaf_at t i).used (leaf_at t i).charged (leaf_at t i).amount
          (leaf_at t j).charged (leaf_at t j).amount num den uses some_i some_j
          (may.leaf.least j here) less
