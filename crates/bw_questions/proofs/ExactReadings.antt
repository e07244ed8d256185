-- A reading whose groups want what they ask for is true.
use Rattle.std.proofs.Common.{◌≡◌, ◌∙◌, ℕ, ◌<◌, ◌≤◌, Bool, true, false, length, refl, sym, arith}
use Rattle.std.specs.Prelude.{nat_lt, if◌then◌else◌}
use Rattle.std.proofs.lemmas.Bool.{le-ltb, lt-ltb}
use Rattle.bw_model.specs.Groups.{is_leaf}
use Rattle.bw_questions.specs.Exact.{ExactReadingsAreTrue, is_for_all}
use Rattle.bw_questions.specs.Hunger.{used_slices, asked_slices}

-- what the rule is handed of a leaf, beside what it wants
record IsTrueOf (flag : Bool) (used want : ℕ) : Type 0 where
  no_more : used ≤ want
  marked : flag ≡ nat_lt used want

true_of : (all flag : Bool) (used want some asked : ℕ) → flag ≡ all
    → used ≡ (if all then some else asked) → (all ≡ false → want ≡ asked)
    → (all ≡ true → some < want) → IsTrueOf flag used want
true_of true flag used want some asked marked is exact more =
    let below : used < want = omega (arith, is, more refl) in
    record { no_more = omega (arith, below); marked = marked ∙ sym (lt-ltb used want below) }
true_of false flag used want some asked marked is exact more =
    let e : want ≡ used = exact refl ∙ sym is in
    let no_less : want ≤ used = omega (arith, e) in
    record { no_more = omega (arith, e); marked = marked ∙ sym (le-ltb used want no_less) }

pub exact_true : ExactReadingsAreTrue
exact_true wants used flags times tasks handed exact =
    let each = λ (l : ℕ) (within : l < length wants.rows) (leaf : is_leaf wants.rows l ≡ true).
    true_of (is_for_all used.shape (times l) (tasks l)) _ _ _
    (used_slices used.shape (times l)) (asked_slices used.shape (times l) (tasks l))
    (handed.marks l within leaf) (handed.demands l within leaf) (exact.some l within leaf)
    (exact.all l within leaf) in
    record {
      valid = handed.valid;
      same = handed.same;
      no_more = λ l within leaf. (each l within leaf).no_more;
      flags = λ l within leaf. (each l within leaf).marked;
    }
