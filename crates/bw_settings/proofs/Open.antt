-- The instance of owners' numbers, of which one is open, beside that of the one.
use Rattle.std.proofs.Common.{◌≡◌, ℕ, ◌-◌, ◌^◌, ◌<◌, List, true, false, length, cond}
use Rattle.std.proofs.Common.{get_or, set, ap, sym, ◌∙◌, arith, inl, inr, subst}
use Rattle.std.proofs.Common.{get_or-set_same}
use Rattle.std.proofs.lemmas.Bool.{cases_Bool, and_parts}
use Rattle.std.proofs.lemmas.List.{set-set}
use Rattle.bw_model.specs.declared.row.Row.{Row}
use Rattle.bw_model.specs.Groups.{Groups, IsInstance, weight_of, is_under}
use Rattle.bw_owned.specs.Laws.{WeightsGrow}
use Rattle.bw_owned.specs.Weights.{IsOwnedWeight}
use Rattle.bw_questions.proofs.CallerLemmas.{under_same}
use Rattle.bw_settings.specs.Columns.{AreBases, AreFormulas, IsOfFormula}
use Rattle.bw_settings.specs.Following.{Follows, AreOnPath, IsNumbered}
use Rattle.bw_settings.specs.Following.{IsWeightBy, number_at}
use Rattle.bw_settings.specs.Settings.{GivesAt, IsLeastSetting}
use Rattle.bw_settings.specs.Several.{Aims, IsOnWay, IsMet, IsLeastNow}
use Rattle.bw_settings.specs.Several.{counts_in, number_with, summed}
use Rattle.bw_settings.specs.declared.least.Setting.{Setting}
use Rattle.bw_settings.specs.declared.least.Setting.TheVariants.{Least, NoNumber, Untold}
use Rattle.bw_settings.proofs.Formulas.{no_zero, one_weight}
use Rattle.bw_settings.proofs.Rows.{tree_kept}
use Rattle.bw_settings.proofs.Sums.{counts_more, counts_same, added}
use Rattle.bw_settings.proofs.Ways.{off_way}

-- the columns with other bases
abbrev pub based : Follows → List ℕ → Follows
based follows bases =
    record { formulas = follows.formulas; floors = follows.floors; bases = bases }

-- those with the formulas of some rows alone
abbrev pub opened : Follows → List ℕ → List ℕ → Follows
opened follows bases those =
    record { formulas = those; floors = follows.floors; bases = bases }

module _ (grow : WeightsGrow) (groups : Groups) (follows : Follows) (aims : Aims)
    (numbers : List ℕ) (k : ℕ) (k_in : k < length aims.owners) (number_in : k < length numbers)
    (bases those : List ℕ)
    (are_bases : AreBases groups.rows follows aims (set numbers k 0) (length groups.rows) bases)
    (are_those : AreFormulas groups.rows follows.formulas aims k (length groups.rows) those)
    (standing : Groups)
    (stands : IsNumbered groups follows.formulas (number_at (based follows bases) 0) standing)
  where
    those_in : (h : ℕ) → h < length groups.rows → counts_in groups.rows aims h k ≡ true
        → get_or those h 0 ≡ get_or follows.formulas h 0
    those_in h inside counts =
        are_those.each h inside ∙ ap (λ b. cond b (get_or follows.formulas h 0) 0) counts

    those_out : (h : ℕ) → h < length groups.rows → counts_in groups.rows aims h k ≡ false
        → get_or those h 0 ≡ 0
    those_out h inside out =
        are_those.each h inside ∙ ap (λ b. cond b (get_or follows.formulas h 0) 0) out

    -- The number of a row with the open one.
    with_open : (n h : ℕ) → h < length groups.rows → IsOfFormula (get_or follows.formulas h 0)
        → counts_in groups.rows aims h k ≡ true
        → number_at (opened follows bases those) n h
        ≡ number_with groups.rows follows aims (set numbers k n) h
    with_open n h inside by counts =
        rw (counts_more groups.rows aims numbers k h n k_in number_in counts)
        (added (get_or follows.bases h 0) (summed groups.rows aims (set numbers k 0) h) n
        (get_or follows.floors h 0) (2 ^ 64 - 1) (get_or bases h 0) (are_bases.each h inside by))

    -- The number of a row for the others alone.
    with_none : (h : ℕ) → h < length groups.rows → IsOfFormula (get_or follows.formulas h 0)
        → number_at (based follows bases) 0 h
        ≡ number_with groups.rows follows aims (set numbers k 0) h
    with_none h inside by =
        added (get_or follows.bases h 0) (summed groups.rows aims (set numbers k 0) h) 0
        (get_or follows.floors h 0) (2 ^ 64 - 1) (get_or bases h 0) (are_bases.each h inside by)
        ∙ ap (λ s. number_at follows s h) (omega arith)

    without_open : (n h : ℕ) → counts_in groups.rows aims h k ≡ false
        → number_with groups.rows follows aims (set numbers k 0) h
        ≡ number_with groups.rows follows aims (set numbers k n) h
    without_open n h out =
        ap (λ s. number_at follows s h)
        (sym (counts_same groups.rows aims numbers k h n k_in number_in out))

    at_standing : (h : ℕ) → 0 < h → h < length groups.rows
        → IsWeightBy (weight_of groups.rows h) (get_or follows.formulas h 0)
        (number_with groups.rows follows aims (set numbers k 0) h) (weight_of standing.rows h)
    at_standing h below_root inside = elim (stands.numbered.weights h below_root inside) [
      | inl by ↦ inl (
        by.0,
        by.1,
        subst (λ v. IsOwnedWeight by.0 v (weight_of standing.rows h))
            (with_none h inside (by.0, by.1)) by.2,
      )
      | inr none ↦ inr none
    ]

    -- A weight by the open number is one by all numbers.
    weight_of_all : (n h weight : ℕ) → 0 < h → h < length groups.rows
        → IsWeightBy (weight_of standing.rows h) (get_or those h 0)
        (number_at (opened follows bases those) n h) weight
        → IsWeightBy (weight_of groups.rows h) (get_or follows.formulas h 0)
        (number_with groups.rows follows aims (set numbers k n) h) weight
    weight_of_all n h weight below_root inside given =
        elim (cases_Bool (counts_in groups.rows aims h k)) [
          | inl counts ↦ elim given [
            | inl by ↦
                let code = by.1 ∙ those_in h inside counts in
                inl (
                  by.0,
                  code,
                  subst (λ v. IsOwnedWeight by.0 v weight)
                      (with_open n h inside (by.0, code) counts) by.2,
                )
            | inr none ↦ elim (at_standing h below_root inside) [
              | inl by ↦ absurd (none.0 by.0 (by.1 ∙ sym (those_in h inside counts)))
              | inr stays ↦ inr (stays.0, none.1 ∙ stays.1)
            ]
          ]
          | inr out ↦ elim given [
            | inl by ↦ absurd (no_zero by.0 (by.1 ∙ those_out h inside out))
            | inr none ↦
                subst (λ v. IsWeightBy (weight_of groups.rows h) (get_or follows.formulas h 0) v
                weight)
                (without_open n h out)
                (subst (λ w. IsWeightBy (weight_of groups.rows h) (get_or follows.formulas h 0)
                (number_with groups.rows follows aims (set numbers k 0) h) w)
                (sym none.1) (at_standing h below_root inside))
          ]
        ]

    -- A weight by all numbers is one by the open number.
    weight_of_open : (n h weight : ℕ) → 0 < h → h < length groups.rows
        → IsWeightBy (weight_of groups.rows h) (get_or follows.formulas h 0)
        (number_with groups.rows follows aims (set numbers k n) h) weight
        → IsWeightBy (weight_of standing.rows h) (get_or those h 0)
        (number_at (opened follows bases those) n h) weight
    weight_of_open n h weight below_root inside given =
        elim (cases_Bool (counts_in groups.rows aims h k)) [
          | inl counts ↦ elim given [
            | inl by ↦ inl (
              by.0,
              by.1 ∙ sym (those_in h inside counts),
              subst (λ v. IsOwnedWeight by.0 v weight)
                  (sym (with_open n h inside (by.0, by.1) counts)) by.2,
            )
            | inr none ↦ elim (at_standing h below_root inside) [
              | inl by ↦ absurd (none.0 by.0 by.1)
              | inr stays ↦ inr (
                λ formula is. none.0 formula (is ∙ those_in h inside counts),
                none.1 ∙ sym stays.1,
              )
            ]
          ]
          | inr out ↦ inr (
            λ formula is. no_zero formula (is ∙ those_out h inside out),
            one_weight grow (weight_of groups.rows h) (get_or follows.formulas h 0)
                (number_with groups.rows follows aims (set numbers k n) h) weight
                (weight_of standing.rows h) given
                (subst (λ v. IsWeightBy (weight_of groups.rows h) (get_or follows.formulas h 0) v
                (weight_of standing.rows h)) (without_open n h out)
                (at_standing h below_root inside)),
          )
        ]

    numbered_by_all : (n : ℕ) (others : Groups)
        → IsNumbered standing those (number_at (opened follows bases those) n) others
        → IsNumbered groups follows.formulas
        (number_with groups.rows follows aims (set numbers k n)) others
    numbered_by_all n others is = record {
      valid = is.valid;
      numbered = record {
        shape = is.numbered.shape ∙ stands.numbered.shape;
        as_many = is.numbered.as_many ∙ stands.numbered.as_many;
        alike = λ h. is.numbered.alike h
            ∙ ap (λ (r : Row). record r { weight = weight_of others.rows h })
            (stands.numbered.alike h);
        root = is.numbered.root ∙ stands.numbered.root;
        weights = λ h below_root inside.
            weight_of_all n h (weight_of others.rows h) below_root inside
            (is.numbered.weights h below_root (omega (arith, inside, stands.numbered.as_many)));
        later = λ h past.
            is.numbered.later h (omega (arith, past, stands.numbered.as_many))
            ∙ stands.numbered.later h past;
      };
    }

    numbered_by_one : (n : ℕ) (others : Groups)
        → IsNumbered groups follows.formulas
        (number_with groups.rows follows aims (set numbers k n)) others
        → IsNumbered standing those (number_at (opened follows bases those) n) others
    numbered_by_one n others is = record {
      valid = is.valid;
      numbered = record {
        shape = is.numbered.shape ∙ sym stands.numbered.shape;
        as_many = is.numbered.as_many ∙ sym stands.numbered.as_many;
        alike = λ h. is.numbered.alike h
            ∙ sym (ap (λ (r : Row). record r { weight = weight_of others.rows h })
            (stands.numbered.alike h));
        root = is.numbered.root ∙ sym stands.numbered.root;
        weights = λ h below_root inside.
            weight_of_open n h (weight_of others.rows h) below_root
            (omega (arith, inside, stands.numbered.as_many))
            (is.numbered.weights h below_root (omega (arith, inside, stands.numbered.as_many)));
        later = λ h past.
            is.numbered.later h (omega (arith, past, stands.numbered.as_many))
            ∙ sym (stands.numbered.later h (omega (arith, past, stands.numbered.as_many)));
      };
    }

    met : (n : ℕ)
        → GivesAt aims.measure standing (opened follows bases those) (get_or aims.groups k 0)
        (get_or aims.amounts k 0) n
        → IsMet groups follows aims (set numbers k n) k
    met n gives = record {
      others = gives.others;
      numbered = numbered_by_all n gives.others gives.numbered;
      reached = gives.reached;
    }

    gives : (n : ℕ) → IsMet groups follows aims (set numbers k n) k
        → GivesAt aims.measure standing (opened follows bases those) (get_or aims.groups k 0)
        (get_or aims.amounts k 0) n
    gives n met = record {
      others = met.others;
      numbered = numbered_by_one n met.others met.numbered;
      reached = met.reached;
    }

    -- The least of the open number is that of the goal beside the others.
    pub least_beside : (setting : Setting)
        → IsLeastSetting aims.measure standing (opened follows bases those) (get_or aims.groups k 0)
        (get_or aims.amounts k 0) (get_or aims.firsts k 0) (get_or aims.lasts k 0) setting
        → IsLeastNow groups follows aims numbers k setting
    least_beside (Least n) least =
        let here : get_or (set numbers k n) k 0 ≡ n = get_or-set_same numbers k n 0 number_in in
        record {
          first = omega (arith, here, least.0);
          last = omega (arith, here, least.1);
          met = met n least.2;
          least = λ lesser above below is_met.
              least.3 lesser above (omega (arith, below, here))
              (gives lesser (subst (λ (ns : List ℕ). IsMet groups follows aims ns k)
              (set-set numbers k n lesser) is_met));
        }
    least_beside NoNumber none = record {
      within = k_in;
      none = λ number above below is_met. none number above below (gives number is_met);
    }
    least_beside Untold untold = untold

    -- The rows that sum the open number are on its group's way.
    pub open_on_path : IsInstance groups
        → IsOnWay groups.rows (get_or aims.groups k 0) (get_or aims.owners k 0)
        → AreOnPath standing.rows those (get_or aims.groups k 0)
    open_on_path valid on h h_in beside =
        let inside : h < length groups.rows = omega (arith, h_in, stands.numbered.as_many) in
        let same : (g l : ℕ) → is_under standing.rows g l ≡ is_under groups.rows g l =
        under_same groups.rows standing.rows valid.tree stands.valid.tree
        (tree_kept groups follows.formulas (number_at (based follows bases) 0)
        (length groups.rows) standing stands.numbered) in
        elim (cases_Bool (counts_in groups.rows aims h k)) [
          | inr out ↦ absurd
              (no_zero beside.1.0 (beside.1.1 ∙ those_out h inside out))
          | inl counts ↦
              off_way groups.rows valid.tree h (get_or aims.groups k 0) (get_or aims.owners k 0)
              (and_parts (is_under groups.rows h (get_or aims.owners k 0))
              (is_under groups.rows (get_or aims.tops k 0) h) counts).0 on.way
              (sym (same h (get_or aims.groups k 0)) ∙ beside.2)
              (sym (same (get_or aims.groups k 0) h) ∙ beside.3)
        ]
