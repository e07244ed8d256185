-- A change below a group that leaves its most changes nothing that is not below it.
use Rattle.std.proofs.Common.{◌≡◌, ℕ, ◌<◌, List, true, length, get_or, ap}
use Rattle.std.proofs.Common.{sym, ◌∙◌, arith, inl, inr}
use Rattle.std.proofs.lemmas.Bool.{cases_eq}
use Rattle.bw_model.specs.Groups.{Groups, IsInstance, limit_of, is_under}
use Rattle.bw_model.specs.Demand.{want_of}
use Rattle.bw_model.specs.Plan.{IsPlan}
use Rattle.bw_model.proofs.CallerLemmas.{from_the_last, capped, AreMaxTotals-capped}
use Rattle.bw_model.proofs.CallerLemmas.{parent_lt}
use Rattle.bw_plan.specs.Shared.{IsPlanning}
use Rattle.bw_plan.proofs.CallerLemmas.{plan-IsPlanning}
use Rattle.bw_questions.specs.changes.Tree.{IsNotBelow}
use Rattle.bw_questions.specs.changes.Inside.{IsChangedInside, InsideStaysInside}
use Rattle.bw_questions.proofs.changes.Trees.{from_the_root, want_same, step_same, parent_not_below}
use Rattle.bw_questions.proofs.changes.Trees.{child_not_below}

module _ (a b : Groups) (group : ℕ) (ma mb xs ys : List ℕ) (va : IsInstance a) (vb : IsInstance b)
    (changed : IsChangedInside a b group ma mb) (is_plan : IsPlan a xs)
    (is_other : IsPlan b ys) where
  -- Another group that is not below the group is not above its own children's rows either.
  not_under : (h : ℕ) → IsNotBelow a.rows group h → (h ≡ group → ⊥)
      → is_under a.rows group h ≡ true → ⊥
  not_under h out other under = other (out under)

  most_same : (h : ℕ) → h < length a.rows → IsNotBelow a.rows group h
      → get_or mb h 0 ≡ get_or ma h 0
  most_same = from_the_last (length a.rows)
      (λ h. IsNotBelow a.rows group h → get_or mb h 0 ≡ get_or ma h 0)
      (λ h below later out. elim (cases_eq h group) [
        | inl here ↦ rw here changed.same_most
        | inr other ↦
            AreMaxTotals-capped b vb.tree mb changed.other_mosts h
            (omega (arith, below, changed.tree.as_many))
            ∙ ap (λ l. capped l (want_of b mb h)) (changed.limits h out)
            ∙ ap (capped (limit_of a h))
            (want_same a b va vb changed.tree ma mb h (changed.demands h out)
            (λ c c_in e. later c (parent_lt a.rows va.tree c h e) c_in
            (child_not_below a.rows va.tree group h c e (not_under h out other))))
            ∙ sym (AreMaxTotals-capped a va.tree ma changed.mosts h below)
      ])

  pa : IsPlanning a ma (λ _. true) xs
  pa = plan-IsPlanning a va ma (AreMaxTotals-capped a va.tree ma changed.mosts) xs is_plan

  pb : IsPlanning b mb (λ _. true) ys
  pb = plan-IsPlanning b vb mb (AreMaxTotals-capped b vb.tree mb changed.other_mosts) ys is_other

  amounts_same : (h : ℕ) → h < length a.rows → IsNotBelow a.rows group h
      → get_or ys h 0 ≡ get_or xs h 0
  amounts_same = from_the_root a.rows va.tree
      (λ h. IsNotBelow a.rows group h → get_or ys h 0 ≡ get_or xs h 0)
      (λ out. pb.top ∙ most_same 0 va.tree.has_root out ∙ sym pa.top)
      (λ h p below up same out.
      let apart : is_under a.rows group p ≡ true → ⊥ =
      parent_not_below a.rows va.tree group h p up out in
      let p_in : p < length a.rows = omega (arith, parent_lt a.rows va.tree h p up, below) in
      step_same a b va vb changed.tree ma mb xs ys pa pb h p below p_in up
      (same (λ under. absurd (apart under)))
      (λ s s_in e. changed.weights s (child_not_below a.rows va.tree group p s e apart))
      (λ s s_in e. most_same s s_in (child_not_below a.rows va.tree group p s e apart)))

pub inside_stays : InsideStaysInside
inside_stays a b group ma mb xs ys va vb changed is_plan is_other h below out =
    amounts_same a b group ma mb xs ys va vb changed is_plan is_other h below out
