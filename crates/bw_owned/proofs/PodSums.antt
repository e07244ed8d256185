-- Sums of the parts of a pod, part by part.
use Rattle.std.proofs.Common.{ℕ, ◌≡◌, ◌+◌, ◌<◌, ◌≤◌, ◌⊎◌, List, length, arith, inl, inr}
use Rattle.std.proofs.Common.{subst, sym, ◌∙◌}
use Rattle.std.specs.Prelude.{max}
use Rattle.std.proofs.lemmas.Bool.{cases_lt}
use Rattle.bw_model.proofs.CallerLemmas.{sum_below, sum_by-range}
use Rattle.bw_owned.specs.Pods.{of_part, of_sidecar, of_init, of_lasting}
use Rattle.bw_owned.specs.Pods.{sidecars_before, while_starting, once_started, IsPodAmount}

-- the amount while a part starts, by the sum of the sidecars before it
starting_is : (kinds amounts : List ℕ) (k sidecars own : ℕ)
    → sidecars ≡ sum_below k (of_part of_sidecar kinds amounts)
    → own ≡ of_part of_init kinds amounts k → while_starting kinds amounts k ≡ sidecars + own
starting_is kinds amounts k sidecars own before part =
    let sum : sidecars_before kinds amounts k ≡ sum_below k (of_part of_sidecar kinds amounts) =
    sum_by-range (of_part of_sidecar kinds amounts) k in
    omega (arith, sum, before, part)

pub starting_more : (kinds amounts : List ℕ) (k most next sidecars own : ℕ)
    → ((j : ℕ) → j < k → while_starting kinds amounts j ≤ most)
    → sidecars ≡ sum_below k (of_part of_sidecar kinds amounts)
    → own ≡ of_part of_init kinds amounts k → next ≡ max most (sidecars + own)
    → (j : ℕ) → j < k + 1 → while_starting kinds amounts j ≤ next
starting_more kinds amounts k most next sidecars own earlier before part greatest j below =
    elim (cases_lt j k) [
      | inl less ↦ let within = earlier j less in omega (arith, within, greatest)
      | inr no_less ↦
          let same : j ≡ k = omega (arith, below, no_less) in
          let here = starting_is kinds amounts k sidecars own before part in
          let at_k : while_starting kinds amounts k ≤ next = omega (arith, here, greatest) in
          subst (λ (n : ℕ). while_starting kinds amounts n ≤ next) (sym same) at_k
    ]

pub reached_more : (kinds amounts : List ℕ) (k most next sidecars own : ℕ)
    → ((most ≡ 0) ⊎ ((j : ℕ) × (j < k) × (most ≡ while_starting kinds amounts j)))
    → sidecars ≡ sum_below k (of_part of_sidecar kinds amounts)
    → own ≡ of_part of_init kinds amounts k → next ≡ max most (sidecars + own)
    → (next ≡ 0) ⊎ ((j : ℕ) × (j < k + 1) × (next ≡ while_starting kinds amounts j))
reached_more kinds amounts k most next sidecars own earlier before part greatest =
    let here = starting_is kinds amounts k sidecars own before part in
    elim (cases_lt most (sidecars + own)) [
      | inl less ↦ inr (k, omega arith, omega (arith, here, greatest, less))
      | inr no_less ↦
          let same : next ≡ most = omega (arith, greatest, no_less) in
          elim earlier [
            | inl none ↦ inl (omega (arith, same, none))
            | inr at ↦ let below = at.1 in inr (at.0, omega (arith, below), same ∙ at.2)
          ]
    ]

pub amount_is : (kinds amounts : List ℕ) (k most lasting amount : ℕ) → k ≡ length amounts
    → ((j : ℕ) → j < k → while_starting kinds amounts j ≤ most)
    → ((most ≡ 0) ⊎ ((j : ℕ) × (j < k) × (most ≡ while_starting kinds amounts j)))
    → lasting ≡ sum_below k (of_part of_lasting kinds amounts) → amount ≡ max most lasting
    → IsPodAmount kinds amounts amount
amount_is kinds amounts k most lasting amount all earlier reached sums greatest =
    let started : once_started kinds amounts ≡ lasting =
    sum_by-range (of_part of_lasting kinds amounts) (length amounts)
    ∙ subst (λ (n : ℕ). sum_below n (of_part of_lasting kinds amounts) ≡ lasting) all (sym sums) in
    record {
      starting = λ j below.
          let within = earlier j (omega (arith, below, all)) in omega (arith, within, greatest);
      started = omega (arith, started, greatest);
      reached = elim (cases_lt lasting most) [
        | inl less ↦ elim reached [
          | inl none ↦ absurd (omega (arith, none, less))
          | inr at ↦
              let below = at.1 in
              let same : amount ≡ most = omega (arith, greatest, less) in
              inr (at.0, omega (arith, below, all), same ∙ at.2)
        ]
        | inr no_less ↦ inl (omega (arith, started, greatest, no_less))
      ];
    }
