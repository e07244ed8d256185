-- The goal of `bases_with` that is answered by hand.
use Rattle.std.proofs.Common.{◌≡◌, ℕ, ◌+◌, ◌∷◌, ◌++◌, [], List, get_or, ◌∙◌, arith, inl, inr}
use Rattle.std.proofs.Common.{subst}
use Rattle.std.proofs.lemmas.Bool.{cases_eq}
use Rattle.std.proofs.lemmas.List.{get_or_append_left, get_or_push, length_push}
use Rattle.bw_model.specs.declared.row.Row.{Row}
use Rattle.bw_settings.specs.Columns.{AreBases, IsOfFormula, base_with}
use Rattle.bw_settings.specs.Following.{Follows, follows_of}
use Rattle.bw_settings.specs.Several.{Aims, aims_of}
use Rattle.bw_settings.proofs.columns.bases_with.Goals as goal

-- The base of one more row.
pushed : (rows : List Row) (follows : Follows) (aims : Aims) (numbers : List ℕ) (h base : ℕ)
    (bases : List ℕ) → AreBases rows follows aims numbers h bases
    → (IsOfFormula (get_or follows.formulas h 0) → base ≡ base_with rows follows aims numbers h)
    → AreBases rows follows aims numbers (h + 1) (bases ++ base ∷ [])
pushed rows follows aims numbers h base bases so_far last = record {
  one_each = omega (arith, length_push bases base, so_far.one_each);
  each = λ j below by. elim (cases_eq j h) [
    | inl here ↦ rw here (
        get_or_push bases base 0 h so_far.one_each
        ∙ last (subst (λ (n : ℕ). IsOfFormula (get_or follows.formulas n 0)) here by))
    | inr other ↦
        let before : get_or (bases ++ base ∷ []) j 0 ≡ get_or bases j 0 =
        get_or_append_left bases (base ∷ []) 0 j
        (omega (arith, below, other, so_far.one_each)) in
        before ∙ so_far.each j (omega (arith, below, other)) by
  ];
}

pub loop-h-preserved : goal.loop-h-preserved
loop-h-preserved c = record {
  so_far = rw c.in_ok-push.ensures.items
      (pushed c.args.instance.now.rows (follows_of c.args.following.now)
      (aims_of c.args.goals.now) c.args.numbers.now c.loop-h.h c.base_at.result
      c.loop-h.bases.items c.loop-h.invariant.so_far c.base_at.ensures);
}
