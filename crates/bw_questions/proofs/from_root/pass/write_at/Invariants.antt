-- What stands at each turn of the loop in `write_at`.
use Rattle.std.proofs.Common.{◌≡◌, ◌<◌, ℕ, length, get_or}
use Rattle.bw_questions.proofs.from_root.pass.write_at.Given as goal

abbrev pub invariant-loop-k : goal.invariant-loop-k
invariant-loop-k l = record {
  len : length l.values.items ≡ length l.initial.values.items;
  written : (j : ℕ) → j < l.k → get_or l.values.items (get_or l.places j 0) 0 ≡ get_or l.parts j 0;
  others : (i : ℕ) → ((j : ℕ) → j < l.k → get_or l.places j 0 ≡ i → ⊥)
      → get_or l.values.items i 0 ≡ get_or l.initial.values.items i 0;
}
