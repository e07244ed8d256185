-- Lists of one entry for each row.
use Rattle.std.proofs.Common.{◌≡◌, ℕ, ◌<◌, List, true, false, Some, length}
use Rattle.std.proofs.Common.{get_or, ap, subst, sym, ◌∙◌, arith, inl, inr, ltb}
use Rattle.std.proofs.lemmas.Bool.{cases_eq, cases_lt, lt-ltb, le-ltb}
use Rattle.std.proofs.lemmas.List.FromFn.{length-map-range_with_len}
use Rattle.bw_model.specs.Allocation.{total}
use Rattle.bw_model.specs.Groups.{Groups, IsInstance, parent_of}
use Rattle.bw_model.specs.Plan.{IsPlan}
use Rattle.bw_demand.specs.Demands.{Demands, IsGathered}
use Rattle.bw_questions.specs.declared.why.reason.Reason.{Reason}
use Rattle.bw_questions.specs.Reasons.{IsBlamed, FitsReason}
use Rattle.bw_questions.proofs.Blame.{within_most, blamed_here, blamed_up, root_full}

-- A plan has an amount for each group.
pub one_each : (groups : Groups) (amounts : List ℕ) → IsPlan groups amounts
    → length amounts ≡ length groups.rows
one_each groups amounts plan =
    ap length plan.amounts_are
    ∙ length-map-range_with_len (total groups.rows plan.allocation) 0 (length groups.rows)

-- a reason by equal numbers
pub fits_at : (g w v a b c d : ℕ) (reason : Reason) → w ≡ v → a ≡ b → c ≡ d
    → FitsReason g w a c reason → FitsReason g v b d reason
fits_at g w v a b c d reason wants amounts blamed fits =
    subst (λ x. FitsReason g v b x reason) blamed
    (subst (λ x. FitsReason g v x c reason) amounts
    (subst (λ x. FitsReason g x a c reason) wants fits))

-- The group to blame for the next row.
pub next_blamed : (groups : Groups) (demands : Demands) (amounts : List ℕ) → IsInstance groups
    → IsGathered groups demands → IsPlan groups amounts → (g : ℕ) → g < length groups.rows
    → (blamed : List ℕ)
    → ((k : ℕ) → k < g → IsBlamed groups demands.most amounts k (get_or blamed k 0))
    → (value top group : ℕ) → value ≡ get_or amounts g 0 → top ≡ get_or demands.most g 0
    → (ltb value top ≡ false → group ≡ g)
    → (ltb value top ≡ true → (p : ℕ) → parent_of groups.rows g ≡ Some p
    → group ≡ get_or blamed p 0)
    → IsBlamed groups demands.most amounts g group
next_blamed groups demands amounts valid gathered is_plan g below blamed each value top group
    value_is top_is here above = elim (cases_lt value top) [
      | inr full ↦
          subst (λ b. IsBlamed groups demands.most amounts g b) (sym (here (le-ltb value top full)))
          (blamed_here groups demands amounts valid gathered is_plan g
          (omega (
            arith,
            full,
            value_is,
            top_is,
            within_most groups demands amounts valid gathered is_plan g below,
          )))
      | inl lacks ↦ elim (cases_eq g 0) [
        | inl root ↦ absurd
            (let less : get_or amounts g 0 < get_or demands.most g 0 =
            omega (arith, lacks, value_is, top_is) in
            let top_less : get_or amounts 0 0 < get_or demands.most 0 0 =
            subst (λ h. get_or amounts h 0 < get_or demands.most h 0) root less in
            omega (arith, top_less, root_full groups demands amounts valid gathered is_plan))
        | inr deeper ↦
            let known : (p : ℕ) × (parent_of groups.rows g ≡ Some p) × (p < g) =
            valid.tree.parent_before g (omega (arith, deeper)) below in
            subst (λ b. IsBlamed groups demands.most amounts g b)
            (sym (above (lt-ltb value top lacks) known.0 known.1))
            (blamed_up groups demands amounts valid gathered is_plan g known.0
            (get_or blamed known.0 0) known.1 (omega (arith, lacks, value_is, top_is))
            (each known.0 known.2))
      ]
    ]
