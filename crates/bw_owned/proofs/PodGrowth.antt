-- Amounts of pods grow with those of their parts.
use Rattle.std.proofs.Common.{ℕ, ◌≡◌, ◌==◌, ◌<◌, ◌≤◌, List, Bool, true, false, length, arith}
use Rattle.std.proofs.Common.{inl, inr, sym, subst}
use Rattle.std.specs.Prelude.{slice_index, slice_set, if◌then◌else◌}
use Rattle.std.proofs.lemmas.Bool.{cases_eq}
use Rattle.std.proofs.lemmas.List.{length-set, get_or-set_same, get_or-set_other}
use Rattle.bw_model.proofs.CallerLemmas.{sum_below, sum_below-le, sum_by-range}
use Rattle.bw_owned.specs.Pods.{of_part, of_sidecar, of_init, of_lasting}
use Rattle.bw_owned.specs.Pods.{sidecars_before, while_starting, once_started, IsPodAmount}
use Rattle.bw_owned.specs.Laws.{PodAmountsGrow}

chosen_le : (b : Bool) (less more : ℕ) → less ≤ more
    → (if b then less else 0) ≤ (if b then more else 0)
chosen_le true less more within = within
chosen_le false less more within = omega arith

others_le : (b : Bool) (less more : ℕ) → less ≤ more
    → (if b then 0 else less) ≤ (if b then 0 else more)
others_le true less more within = omega arith
others_le false less more within = within

module _ (kinds amounts more : List ℕ)
    (each : (k : ℕ) → k < length amounts → slice_index amounts k ≤ slice_index more k) where
  sidecars_le : (k : ℕ) → k < length amounts
      → sidecars_before kinds amounts k ≤ sidecars_before kinds more k
  sidecars_le k below =
      let one : sidecars_before kinds amounts k ≡ sum_below k (of_part of_sidecar kinds amounts) =
      sum_by-range (of_part of_sidecar kinds amounts) k in
      let other : sidecars_before kinds more k ≡ sum_below k (of_part of_sidecar kinds more) =
      sum_by-range (of_part of_sidecar kinds more) k in
      let sums : sum_below k (of_part of_sidecar kinds amounts)
      ≤ sum_below k (of_part of_sidecar kinds more) =
      sum_below-le k (of_part of_sidecar kinds amounts) (of_part of_sidecar kinds more)
      (λ j before. chosen_le (slice_index kinds j == 2) (slice_index amounts j)
      (slice_index more j) (each j (omega (arith, before, below)))) in
      omega (arith, one, other, sums)

  starting_le : (k : ℕ) → k < length amounts
      → while_starting kinds amounts k ≤ while_starting kinds more k
  starting_le k below =
      let before = sidecars_le k below in
      let own : of_part of_init kinds amounts k ≤ of_part of_init kinds more k =
      chosen_le (slice_index kinds k == 1) (slice_index amounts k) (slice_index more k)
      (each k below) in
      omega (arith, before, own)

  started_le : length more ≡ length amounts
      → once_started kinds amounts ≤ once_started kinds more
  started_le same =
      let one : once_started kinds amounts
      ≡ sum_below (length amounts) (of_part of_lasting kinds amounts) =
      sum_by-range (of_part of_lasting kinds amounts) (length amounts) in
      let other : once_started kinds more
      ≡ sum_below (length more) (of_part of_lasting kinds more) =
      sum_by-range (of_part of_lasting kinds more) (length more) in
      let there : once_started kinds more
      ≡ sum_below (length amounts) (of_part of_lasting kinds more) =
      subst (λ (n : ℕ). once_started kinds more ≡ sum_below n (of_part of_lasting kinds more))
      same other in
      let sums : sum_below (length amounts) (of_part of_lasting kinds amounts)
      ≤ sum_below (length amounts) (of_part of_lasting kinds more) =
      sum_below-le (length amounts) (of_part of_lasting kinds amounts)
      (of_part of_lasting kinds more)
      (λ j below. others_le (slice_index kinds j == 1) (slice_index amounts j)
      (slice_index more j) (each j below)) in
      omega (arith, one, there, sums)

pub amounts_grow : PodAmountsGrow
amounts_grow kinds amounts more one other same each is_one is_other = elim is_one.reached [
  | inl all ↦
      let sums = started_le kinds amounts more each same in
      let most = is_other.started in
      omega (arith, all, sums, most)
  | inr at ↦
      let sums = starting_le kinds amounts more each at.0 at.1 in
      let below : at.0 < length more = subst (λ (n : ℕ). at.0 < n) (sym same) at.1 in
      let most = is_other.starting at.0 below in
      let reached = at.2 in
      omega (arith, reached, sums, most)
]

-- a greater amount of one part makes no lesser amount of the pod
pub part_grows : (kinds amounts : List ℕ) (part less more one other : ℕ) → part < length amounts
    → less ≤ more → IsPodAmount kinds (slice_set amounts part less) one
    → IsPodAmount kinds (slice_set amounts part more) other → one ≤ other
part_grows kinds amounts part less more one other there within is_one is_other =
    let same : length (slice_set amounts part more) ≡ length (slice_set amounts part less) =
    omega (arith, length-set amounts part more, length-set amounts part less) in
    amounts_grow kinds (slice_set amounts part less) (slice_set amounts part more) one other same
    each is_one is_other
  where
    each : (k : ℕ) → k < length (slice_set amounts part less)
        → slice_index (slice_set amounts part less) k
        ≤ slice_index (slice_set amounts part more) k
    each k below = elim (cases_eq k part) [
      | inl at ↦ rw (
        at,
        get_or-set_same amounts part less 0 there,
        get_or-set_same amounts part more 0 there,
      ) within
      | inr other_part ↦ rw (
        get_or-set_other amounts part k less 0 other_part,
        get_or-set_other amounts part k more 0 other_part,
      ) (omega arith)
    ]
