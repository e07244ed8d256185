-- Sums of owners' numbers at a row, where one of them is left open.
use Rattle.std.proofs.Common.{◌≡◌, ◌≢◌, ℕ, ◌+◌, ◌<◌, List, true, false, length, cond}
use Rattle.std.proofs.Common.{set, ap, sym, ◌∙◌, arith}
use Rattle.std.proofs.Common.{get_or-set_same, get_or-set_other}
use Rattle.std.specs.Prelude.{min, max}
use Rattle.bw_model.specs.declared.row.Row.{Row}
use Rattle.bw_model.proofs.CallerLemmas.{sum_by-range, sum_below-change}
use Rattle.bw_settings.specs.Several.{Aims, counts_in, part_in, summed}

module _ (rows : List Row) (aims : Aims) (numbers : List ℕ) (k : ℕ) (h : ℕ) where
  part_here : (n : ℕ) → k < length numbers
      → part_in rows aims (set numbers k n) h k ≡ cond (counts_in rows aims h k) n 0
  part_here n below =
      ap (λ v. cond (counts_in rows aims h k) v 0) (get_or-set_same numbers k n 0 below)

  part_there : (n m j : ℕ) → j ≢ k
      → part_in rows aims (set numbers k n) h j ≡ part_in rows aims (set numbers k m) h j
  part_there n m j other =
      ap (λ v. cond (counts_in rows aims h j) v 0)
      (get_or-set_other numbers k j n 0 other ∙ sym (get_or-set_other numbers k j m 0 other))

  changed : (n : ℕ) → k < length aims.owners
      → summed rows aims (set numbers k 0) h + part_in rows aims (set numbers k n) h k
      ≡ summed rows aims (set numbers k n) h + part_in rows aims (set numbers k 0) h k
  changed n below =
      omega (
        arith,
        sum_below-change (length aims.owners) k (part_in rows aims (set numbers k n) h)
            (part_in rows aims (set numbers k 0) h) below (λ j other. part_there n 0 j other),
        sum_by-range (part_in rows aims (set numbers k n) h) (length aims.owners),
        sum_by-range (part_in rows aims (set numbers k 0) h) (length aims.owners),
      )

  -- A row that sums the open number has that and what it has of the others.
  pub counts_more : (n : ℕ) → k < length aims.owners → k < length numbers
      → counts_in rows aims h k ≡ true
      → summed rows aims (set numbers k n) h ≡ summed rows aims (set numbers k 0) h + n
  counts_more n below within counts =
      omega (
        arith,
        changed n below,
        part_here n within ∙ ap (λ b. cond b n 0) counts,
        part_here 0 within ∙ ap (λ b. cond b 0 0) counts,
      )

  -- Another row has what it has of the others.
  pub counts_same : (n : ℕ) → k < length aims.owners → k < length numbers
      → counts_in rows aims h k ≡ false
      → summed rows aims (set numbers k n) h ≡ summed rows aims (set numbers k 0) h
  counts_same n below within out =
      omega (
        arith,
        changed n below,
        part_here n within ∙ ap (λ b. cond b n 0) out,
        part_here 0 within ∙ ap (λ b. cond b 0 0) out,
      )

-- A number that is added to a base that was cut at the greatest one.
pub added : (base sum more floor greatest cut : ℕ) → cut ≡ min (base + sum) greatest
    → max (min (cut + more) greatest) floor ≡ max (min (base + (sum + more)) greatest) floor
added base sum more floor greatest cut is = omega (arith, is)
