-- The goal of `beside` that is answered by hand.
use Rattle.std.proofs.Common.{ℕ, ◌≡◌, ◌*◌, ◌^◌, ◌<◌, ◌∙◌, ap, sym, subst}
use Rattle.std.specs.Int.{div_ceil}
use Rattle.bw_owned.specs.Rest.{beside}
use Rattle.bw_owned.proofs.Rests.{beside_small}
use Rattle.bw_owned.proofs.rest.beside.Goals as goal

pub returns : goal.returns
returns c =
    let others = c.args.others in
    let slices = c.args.slices in
    let range = c.requires.range in
    let same : c.div_ceil.result ≡ beside c.args.own others slices =
    c.div_ceil.ensures
    ∙ ap (λ (n : ℕ). div_ceil (others * n) c.from-2.result) c.from.ensures
    ∙ ap (λ (n : ℕ). div_ceil (others * slices) n) c.from-2.ensures in
    record {
      value = same;
      range = subst (λ (n : ℕ). n < 2 ^ 96) (sym same)
          (beside_small c.args.own others slices range.0 range.1);
    }
