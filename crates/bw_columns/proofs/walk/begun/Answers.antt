-- The goals of `begun` that are answered by hand.
use Rattle.std.proofs.Common.{ℕ, [], map, refl, ap, sym, ◌∙◌, zero-add}
use Rattle.std.specs.List.{range_with_len}
use Rattle.bw_columns.specs.Tallies.{none}
use Rattle.bw_columns.proofs.walk.begun.Goals as goal

pub returns : goal.returns
returns c = λ shape slice_us asked mosts long. record {
  carries_long = c.requires ∙ sym long;
  done = [];
  count = zero-add c.args.times;
  successive = refl;
  sums = c.in_ok-no_tallies.ensures
      ∙ ap (λ (n : ℕ). map (λ (_ : ℕ). none) (range_with_len 0 n)) (sym long);
  turn = [];
  turn_count = zero-add c.args.times;
  turned = sym (c.in_ok-mark.ensures ∙ c.as_slice.ensures.value);
  turn_sums = c.in_ok-no_tallies-2.ensures
      ∙ ap (λ (n : ℕ). map (λ (_ : ℕ). none) (range_with_len 0 n)) (sym long);
}
