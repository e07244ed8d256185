-- A deadline in whole nanoseconds: a quantum more is owed then, and not before.
use Rattle.std.proofs.Common.{ℕ, suc, ◌+◌, ◌-◌, ◌*◌, ◌/◌, ◌<◌, ◌≤◌}
use Rattle.std.proofs.Common.{arith}
use Rattle.std.proofs.Math.Nat.{mul-le-mul_left}
use Rattle.dispatch.proofs.Backlog.{by_order}

-- the parts of a division
record IsDivided (n r : ℕ) : Type 0 where
  pub below : r * (n / r) ≤ n
  pub above : n < r * (n / r) + r

divided : (n r : ℕ) → 0 < r → IsDivided n r
divided n r some = record { below = omega arith; above = omega arith }

-- q is what is owed at the deadline, o what is owed now, r the rate
module _ (q o r : ℕ) where
  -- what is owed by then, from the deadline
  pub owed_by : (h k : ℕ) → 0 < r
      → (q - o + (r - 1)) / r + k ≤ h + (o - q) / r → q + r * k ≤ o + r * h
  owed_by h k some less =
      let a = divided (q - o + (r - 1)) r some in
      let b = divided (o - q) r some in
      let scaled : r * ((q - o + (r - 1)) / r + k) ≤ r * (h + (o - q) / r) =
      mul-le-mul_left r less in
      let above = a.above in
      let below = b.below in
      omega (arith, scaled, above, below, some)

  -- the deadline, from what is owed by then
  pub deadline_by : (h k : ℕ) → 0 < r → q + r * k ≤ o + r * h
      → (q - o + (r - 1)) / r + k ≤ h + (o - q) / r
  deadline_by h k some owes =
      by_order ((q - o + (r - 1)) / r + k ≤ h + (o - q) / r) (h + (o - q) / r)
      ((q - o + (r - 1)) / r + k)
      (λ less. absurd (clash less)) (λ more. more) where
        clash : h + (o - q) / r < (q - o + (r - 1)) / r + k → ⊥
        clash less =
            let a = divided (q - o + (r - 1)) r some in
            let b = divided (o - q) r some in
            let scaled : r * suc (h + (o - q) / r) ≤ r * ((q - o + (r - 1)) / r + k) =
            mul-le-mul_left r
            (let l : suc (h + (o - q) / r) ≤ (q - o + (r - 1)) / r + k =
            omega (arith, less) in l) in
            by_order ⊥ q (suc o) (λ small. late small a b scaled)
            (λ large. early large a b scaled) where
              late : q < suc o → IsDivided (q - o + (r - 1)) r → IsDivided (o - q) r
                  → r * suc (h + (o - q) / r) ≤ r * ((q - o + (r - 1)) / r + k) → ⊥
              late small a b scaled =
                  let none : (q - o + (r - 1)) / r ≤ 0 =
                  by_order ((q - o + (r - 1)) / r ≤ 0) 0 ((q - o + (r - 1)) / r)
                  (λ one. absurd (let times : r * 1 ≤ r * ((q - o + (r - 1)) / r) =
                  mul-le-mul_left r one in
                  let below = a.below in
                  let c : ⊥ = omega (arith, times, below, small, some) in c))
                  (λ z. z) in
                  let zero_product : r * ((q - o + (r - 1)) / r) ≤ r * 0 = mul-le-mul_left r none in
                  let above = b.above in
                  omega (arith, scaled, zero_product, above, owes, small, some)

              early : suc o ≤ q → IsDivided (q - o + (r - 1)) r → IsDivided (o - q) r
                  → r * suc (h + (o - q) / r) ≤ r * ((q - o + (r - 1)) / r + k) → ⊥
              early large a b scaled =
                  let below = a.below in
                  omega (arith, scaled, below, owes, large, some)
