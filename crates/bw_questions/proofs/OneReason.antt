-- Each group has one reason.
use Rattle.std.proofs.Common.{◌≡◌, ℕ, ◌<◌, ◌≤◌, List, Some, length, get_or, refl, ap, sym, ◌∙◌}
use Rattle.std.proofs.Common.{arith, inl, inr, eqb, cond, subst}
use Rattle.std.proofs.lemmas.Bool.{cases_eq, cases_lt, eq-eqb, ne_eqb}
use Rattle.bw_model.specs.Groups.{Groups, IsInstance, parent_of}
use Rattle.bw_model.specs.Plan.{IsPlan}
use Rattle.bw_model.proofs.CallerLemmas.{strong}
use Rattle.bw_demand.specs.Demands.{Demands, IsGathered}
use Rattle.bw_questions.specs.declared.why.reason.Reason.{Reason}
use Rattle.bw_questions.specs.declared.why.reason.Reason.TheVariants.{NothingAsked, AllWanted}
use Rattle.bw_questions.specs.declared.why.reason.Reason.TheVariants.{OwnLimit}
use Rattle.bw_questions.specs.declared.why.reason.Reason.TheVariants.{LimitAbove, HostFull}
use Rattle.bw_questions.specs.Reasons.{IsBlamed, FitsReason}
use Rattle.bw_questions.specs.Laws.{ThereIsOneReason}
use Rattle.bw_questions.proofs.Blame.{within_most, within_want, blamed_here, blamed_up, root_full}
use Rattle.bw_questions.proofs.Blame.{one_blamed}

-- the reason by tests, in the order of the code
abbrev reason_by : ℕ → ℕ → ℕ → ℕ → Reason
reason_by g want amount blamed =
    cond (eqb want 0) NothingAsked (cond (eqb amount want) AllWanted
    (cond (eqb blamed 0) HostFull (cond (eqb blamed g) OwnLimit (LimitAbove blamed))))

fits-is : (g want amount blamed : ℕ) (reason : Reason) → FitsReason g want amount blamed reason
    → reason ≡ reason_by g want amount blamed
fits-is g want amount blamed NothingAsked f = rw (eq-eqb want 0 f) refl
fits-is g want amount blamed AllWanted f =
    rw (ne_eqb want 0 (λ e. omega (arith, e, f.0)), eq-eqb amount want f.1) refl
fits-is g want amount blamed HostFull f =
    rw (
      ne_eqb want 0 (λ e. omega (arith, e, f.0)),
      ne_eqb amount want (λ e. omega (arith, e, f.0)),
      eq-eqb blamed 0 f.1,
    ) refl
fits-is g want amount blamed OwnLimit f =
    rw (
      ne_eqb want 0 (λ e. omega (arith, e, f.0)),
      ne_eqb amount want (λ e. omega (arith, e, f.0)),
      ne_eqb blamed 0 (λ e. f.2 (sym f.1 ∙ e)),
      eq-eqb blamed g f.1,
    ) refl
fits-is g want amount blamed (LimitAbove h) f =
    rw (
      ne_eqb want 0 (λ e. omega (arith, e, f.0)),
      ne_eqb amount want (λ e. omega (arith, e, f.0)),
      ne_eqb blamed 0 (λ e. f.3 (sym f.1 ∙ e)),
      ne_eqb blamed g (λ e. f.2 (sym f.1 ∙ e)),
    ) (ap LimitAbove (sym f.1))

some_fits : (g want amount blamed : ℕ) → amount ≤ want
    → (reason : Reason) × FitsReason g want amount blamed reason
some_fits g want amount blamed within = elim (cases_eq want 0) [
  | inl nothing ↦ (NothingAsked, nothing)
  | inr some ↦ elim (cases_eq amount want) [
    | inl all ↦ (AllWanted, (omega (arith, some), all))
    | inr lacks ↦
        let less : amount < want = omega (arith, lacks, within) in
        elim (cases_eq blamed 0) [
          | inl root ↦ (HostFull, (less, root))
          | inr deeper ↦ elim (cases_eq blamed g) [
            | inl own ↦ (OwnLimit, (less, own, λ e. deeper (own ∙ e)))
            | inr above ↦ (LimitAbove blamed, (less, refl, above, deeper))
          ]
        ]
  ]
]

module _ (groups : Groups) (demands : Demands) (amounts : List ℕ) (valid : IsInstance groups)
    (gathered : IsGathered groups demands) (is_plan : IsPlan groups amounts) where
  some_blamed : (g : ℕ) → g < length groups.rows
      → (blamed : ℕ) × IsBlamed groups demands.most amounts g blamed
  some_blamed = strong
      (λ g. g < length groups.rows → (blamed : ℕ) × IsBlamed groups demands.most amounts g blamed)
      (λ g before below.
      elim (cases_lt (get_or amounts g 0) (get_or demands.most g 0)) [
        | inr full ↦ (
          g,
          blamed_here groups demands amounts valid gathered is_plan g
              (omega (
                arith,
                full,
                within_most groups demands amounts valid gathered is_plan g
                    below,
              )),
        )
        | inl lacks ↦ elim (cases_eq g 0) [
          | inl root ↦ absurd
              (let less : get_or amounts 0 0 < get_or demands.most 0 0 = rw root at lacks in
              omega (arith, less, root_full groups demands amounts valid gathered is_plan))
          | inr deeper ↦
              let known : (p : ℕ) × (parent_of groups.rows g ≡ Some p) × (p < g) =
              valid.tree.parent_before g (omega (arith, deeper)) below in
              let up : (blamed : ℕ) × IsBlamed groups demands.most amounts known.0 blamed =
              before known.0 known.2 (omega (arith, known.2, below)) in (
                up.0,
                blamed_up groups demands amounts valid gathered is_plan g known.0 up.0 known.1
                    lacks up.1,
              )
        ]
      ])

pub one_reason : ThereIsOneReason
one_reason groups demands amounts valid gathered is_plan g below =
    let known : (blamed : ℕ) × IsBlamed groups demands.most amounts g blamed =
    some_blamed groups demands amounts valid gathered is_plan g below in
    let found : (reason : Reason) × FitsReason g (get_or demands.want g 0) (get_or amounts g 0)
    known.0 reason =
    some_fits g (get_or demands.want g 0) (get_or amounts g 0) known.0
    (within_want groups demands amounts valid gathered is_plan g below) in
    record {
      reason = found.0;
      holds = (known.0, known.1, found.1);
      alone = λ other has.
          let same : has.0 ≡ known.0 =
          one_blamed groups demands amounts valid gathered is_plan g has.0 known.0 has.1
          known.1 in
          let fits : FitsReason g (get_or demands.want g 0) (get_or amounts g 0) known.0 other =
          subst (λ (b : ℕ). FitsReason g (get_or demands.want g 0) (get_or amounts g 0) b other)
          same has.2 in
          fits-is g (get_or demands.want g 0) (get_or amounts g 0) known.0 other fits
          ∙ sym (fits-is g (get_or demands.want g 0) (get_or amounts g 0) known.0 found.0
          found.1);
    }
