-- What stands at each turn of the loop in `write_parts`.
use Rattle.std.proofs.Common.{◌≡◌, ◌<◌, ℕ, length, get_or}
use Rattle.bw_plan.proofs.share.write_parts.Given as goal

abbrev pub invariant-loop-k : goal.invariant-loop-k
invariant-loop-k l = record {
  len : length l.amounts.items ≡ length l.initial.amounts.items;
  written : (j : ℕ) → j < l.k → get_or l.amounts.items (get_or l.places j 0) 0 ≡ get_or l.parts j 0;
  others : (i : ℕ) → ((j : ℕ) → j < l.k → get_or l.places j 0 ≡ i → ⊥)
      → get_or l.amounts.items i 0 ≡ get_or l.initial.amounts.items i 0;
}
