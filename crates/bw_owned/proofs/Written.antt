-- Columns that are written from the first entry on.
use Rattle.std.proofs.Common.{ℕ, ◌+◌, ◌<◌, ◌≤◌, ◌≡◌, ◌∙◌, List, length, get_or, set, arith}
use Rattle.std.proofs.Common.{inl, inr}
use Rattle.std.proofs.lemmas.Bool.{cases_eq}
use Rattle.std.proofs.lemmas.List.{get_or-set_same, get_or-set_other}

module _ (column : List ℕ) (k v : ℕ) (there : k < length column) where
  -- one entry more is that of a function
  pub written_more : (each : ℕ → ℕ) → v ≡ each k
      → ((j : ℕ) → j < k → get_or column j 0 ≡ each j)
      → (j : ℕ) → j < k + 1 → get_or (set column k v) j 0 ≡ each j
  written_more each here before j below = elim (cases_eq j k) [
    | inl same ↦ rw (same, get_or-set_same column k v 0 there) here
    | inr other ↦ rw (get_or-set_other column k j v 0 other)
        (before j (omega (arith, below, other)))
  ]

  -- and those behind it are as they were
  pub kept_behind : (was : ℕ → ℕ) → ((j : ℕ) → k ≤ j → get_or column j 0 ≡ was j)
      → (j : ℕ) → k + 1 ≤ j → get_or (set column k v) j 0 ≡ was j
  kept_behind was behind j above =
      get_or-set_other column k j v 0 (λ e. omega (arith, e, above))
      ∙ behind j (omega (arith, above))
