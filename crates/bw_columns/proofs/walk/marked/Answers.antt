-- The goals of `marked` that are answered by hand.
use Rattle.std.proofs.Common.{ℕ, [], map, ap, sym, ◌∙◌, zero-add}
use Rattle.std.specs.List.{range_with_len}
use Rattle.bw_columns.specs.Tallies.{none}
use Rattle.bw_columns.proofs.walk.marked.Goals as goal

pub returns-clause-way : goal.returns-clause-way
returns-clause-way c = λ shape slice_us asked mosts times begin long way. record {
  carries_long = way.carries_long;
  done = way.done;
  count = way.count;
  successive = way.successive;
  sums = way.sums;
  turn = [];
  turn_count = zero-add c.args.walk.left;
  turned = sym (c.in_ok-copied.ensures ∙ c.as_slice.ensures.value);
  turn_sums = c.in_ok-no_tallies.ensures
      ∙ ap (λ (n : ℕ). map (λ (_ : ℕ). none) (range_with_len 0 n)) (sym long);
}
