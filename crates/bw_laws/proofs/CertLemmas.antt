-- The certified text of a plan, read again and checked.
use native.Mathlib.Bridge.{le_prop}
use mathlib.Core.HLevel.{is_prop→PathP}
use Rattle.std.proofs.Common.{◌≡◌, ◌<◌, ℕ, List, [], ◌∷◌, Option, None, Some, refl, sym, ap, subst}
use Rattle.std.proofs.Common.{◌∙◌}
use Rattle.std.specs.Prelude.{map, Ok}
use Rattle.std.specs.Option.{option_map}
use Rattle.bw_model.specs.declared.mark.Mark.{Mark}
use Rattle.bw_model.specs.Certificate.{Certified, IsAccepted}
use Rattle.bw_model.specs.Marks.{price_of}
use Rattle.bw_cert.specs.Reading.{certified_of}
use Rattle.bw_cert.specs.Spelling.{Value, text_lines, groups_of}
use Rattle.bw_cert.proofs.CallerLemmas.{certified_again}
use Rattle.bw_check.proofs.CallerLemmas.{refused-not-accepted}
use Rattle.bw_check.specs.declared.verdict.Verdict.{Verdict}
use Rattle.bw_check.specs.declared.verdict.Verdict.TheVariants.{Accepted, Refused}
use Rattle.bw_tree.specs.Snapshot.{instance_of}
use Rattle.bw_hierarchy.specs.State.{HierarchyState}
use Rattle.bw_commands.specs.CertifiedPlan.{IsCertifiedPlan, value_with}
use Rattle.bw_laws.specs.Cert.{IsVerdictOf, IsAcceptedText}

-- marks of the same three numbers are one
same_mark : (a b : Mark) → price_of a ≡ price_of b → a ≡ b
same_mark a b e =
    let nums : a.num ≡ b.num = ap (λ m. m.num) e in
    let dens : a.den ≡ b.den = ap (λ m. m.den) e in
    let places : a.place ≡ b.place = ap (λ m. m.place) e in
    λ i. record {
      num = nums i;
      den = dens i;
      place = places i;
      num_positive = is_prop→PathP (λ j. 0 < nums j) (λ j. le_prop) a.num_positive b.num_positive i;
      den_positive = is_prop→PathP (λ j. 0 < dens j) (λ j. le_prop) a.den_positive b.den_positive i;
    }

same_level : (x y : Option Mark) → option_map price_of x ≡ option_map price_of y → x ≡ y
same_level None None e = refl
same_level None (Some b) e = cc
same_level (Some a) None e = cc
same_level (Some a) (Some b) e =
    let same : price_of a ≡ price_of b = cc in ap Some (same_mark a b same)

-- levels that are spelled alike are the same
same_levels : (xs ys : List (Option Mark))
    → map (option_map price_of) xs ≡ map (option_map price_of) ys → xs ≡ ys
same_levels [] [] e = refl
same_levels [] (y ∷ ys) e = cc
same_levels (x ∷ xs) [] e = cc
same_levels (x ∷ xs) (y ∷ ys) e =
    let first : option_map price_of x ≡ option_map price_of y = cc in
    let rest : map (option_map price_of) xs ≡ map (option_map price_of) ys = cc in
    ap (λ z. z ∷ xs) (same_level x y first) ∙ ap (λ zs. y ∷ zs) (same_levels xs ys rest)

same_certificate : (c d : Certified) → c.tight ≡ d.tight → c.levels ≡ d.levels → c ≡ d
same_certificate c d tight levels =
    ap (λ t. record { tight = t; levels = c.levels }) tight
    ∙ ap (λ l. record { tight = d.tight; levels = l }) levels

module _ (h : HierarchyState) (text : List ℕ) (p : IsCertifiedPlan h text) where
  abbrev value : Value
  value = value_with (instance_of h.tree h.shape) p.amounts p.certificate

  read_again : certified_of (text_lines text) ≡ Ok value
  read_again = ap (λ t. certified_of (text_lines t)) p.is ∙ certified_again value p.valid

  only_verdict : (verdict : Verdict) → IsVerdictOf value verdict → verdict ≡ Accepted
  only_verdict Accepted on = refl
  only_verdict (Refused fault group) on =
      let same : p.certificate ≡ on.certificate =
      same_certificate p.certificate on.certificate (sym on.flags)
      (same_levels p.certificate.levels on.certificate.levels (sym on.levels)) in
      absurd (refused-not-accepted (groups_of value) p.amounts on.certificate fault group
      p.valid.instance.tree on.given
      (subst (λ (c : Certified). IsAccepted (groups_of value) p.amounts c) same p.accepted))

  pub cert_IsAcceptedText : IsAcceptedText text
  cert_IsAcceptedText = record {
    value = value;
    read = read_again;
    accepted = record {
      certificate = p.certificate;
      flags = refl;
      levels = refl;
      given = p.accepted;
    };
    only = only_verdict;
  }
