-- There is one answer of least weights from the root down.
use Rattle.std.proofs.Common.{◌≡◌, ℕ, ◌<◌, ◌≤◌, List, Bool, true, Some, length, ap}
use Rattle.std.proofs.Common.{sym, ◌∙◌, arith, inl, inr}
use Rattle.std.proofs.lemmas.Bool.{cases_lt}
use Rattle.std.proofs.lemmas.List.{get_or_past}
use Rattle.std.proofs.lemmas.Option.{same_Some}
use Rattle.bw_model.specs.declared.row.Row.{Row}
use Rattle.bw_model.specs.Groups.{Groups, AreTreeRows, no_row, parent_of, weight_of, is_under}
use Rattle.bw_questions.specs.changes.Tree.{IsSameTree}
use Rattle.bw_questions.proofs.changes.Trees.{from_the_root, under_same}
use Rattle.bw_questions.specs.FromRoot.{AgreesAbove}
use Rattle.bw_questions.specs.FromRoot.{IsReweightedAt, ThereIsOneFromRoot}
use Rattle.bw_questions.proofs.LeastLaw.{none_some}
use Rattle.bw_questions.proofs.Paths.{above_cases, above_top}

-- Two instances of one tree, each with the least weight of a row where they agree above it.
module _ (one two : Groups) (t1 : AreTreeRows one.rows) (t2 : AreTreeRows two.rows)
    (tree : IsSameTree one.rows two.rows)
    (up : (h : ℕ) → AgreesAbove one two h → weight_of one.rows h ≤ weight_of two.rows h)
    (down : (h : ℕ) → AgreesAbove two one h → weight_of two.rows h ≤ weight_of one.rows h) where
  -- equal weights of a row, of each above it, and of their siblings
  Agrees : ℕ → Type 0
  Agrees h = (a s p : ℕ) → is_under one.rows a h ≡ true → parent_of one.rows a ≡ Some p
      → parent_of one.rows s ≡ Some p → weight_of two.rows s ≡ weight_of one.rows s

  -- Where the weights agree above a row, they agree there.
  equal_at : (h : ℕ) → AgreesAbove one two h → weight_of two.rows h ≡ weight_of one.rows h
  equal_at h agrees =
      omega (
        arith,
        up h agrees,
        down h (λ a s p under apart e f.
            sym (agrees a s p (sym (under_same one.rows two.rows t1 t2 tree a h) ∙ under) apart
            (sym (tree.parents a) ∙ e) (sym (tree.parents s) ∙ f))),
      )

  below_root : (h : ℕ) → h < length one.rows → Agrees h
  unfolding Agrees
  below_root = from_the_root one.rows t1 Agrees
      (λ a s p under e f.
      let same : 0 ≡ a = above_top one.rows t1 a 0 t1.root_on_top under in
      absurd (none_some p (sym t1.root_on_top ∙ ap (parent_of one.rows) same ∙ e)))
      (λ h q below parent so_far a s p under e f.
      elim (above_cases one.rows t1 a h q parent under) [
        | inr above ↦ so_far a s p above e f
        | inl here ↦
            let same : q ≡ p =
            same_Some q p (sym parent ∙ ap (parent_of one.rows) here ∙ e) in
            equal_at s (λ b r o under_s apart eb fr.
            elim (above_cases one.rows t1 b s p f under_s) [
              | inl self ↦ absurd (apart (sym self))
              | inr high ↦ so_far b r o (ap (is_under one.rows b) same ∙ high) eb fr
            ])
      ])

  pub equal : (h : ℕ) → weight_of two.rows h ≡ weight_of one.rows h
  unfolding Agrees
  equal h = elim (cases_lt h (length one.rows)) [
    | inr past ↦
        ap (λ (r : Row). r.weight)
        (get_or_past two.rows h no_row (omega (arith, past, tree.as_many)))
        ∙ sym (ap (λ (r : Row). r.weight) (get_or_past one.rows h no_row past))
    | inl below ↦
        equal_at h (λ a s p under apart e f. below_root h below a s p under e f)
  ]

-- Two instances that differ from a third in weights alone are of one tree.
both_trees : (groups one two : Groups) (may : List Bool) → IsReweightedAt groups one may
    → IsReweightedAt groups two may → IsSameTree one.rows two.rows
both_trees groups one two may a b = record {
  as_many = b.tree.as_many ∙ sym a.tree.as_many;
  parents = λ g. b.tree.parents g ∙ sym (a.tree.parents g);
}

pub one_from_root : ThereIsOneFromRoot
one_from_root measure groups one two goals may (inl a) (inl b) =
    equal one two a.reweighted.valid.tree b.reweighted.valid.tree
    (both_trees groups one two may a.reweighted b.reweighted)
    (a.least two b.reweighted b.no_lighter b.met)
    (b.least one a.reweighted a.no_lighter a.met)
one_from_root measure groups one two goals may (inr a) (inr b) =
    equal one two a.reweighted.valid.tree b.reweighted.valid.tree
    (both_trees groups one two may a.reweighted b.reweighted)
    (a.least two b.reweighted b.met) (b.least one a.reweighted a.met)
one_from_root measure groups one two goals may (inl a) (inr b) =
    absurd (b.none_heavier one a.reweighted a.met a.no_lighter)
one_from_root measure groups one two goals may (inr a) (inl b) =
    absurd (a.none_heavier two b.reweighted b.met b.no_lighter)
