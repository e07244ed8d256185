-- The goals of `is_next_mark_kept` that are answered by hand.
use Rattle.std.proofs.Common.{◌≡◌, ℕ, ◌<◌, get_or, subst, ap, sym, ◌∙◌, arith}
use Rattle.bw_model.specs.declared.mark.Mark.{Mark}
use Rattle.bw_model.specs.Groups.{weight_of}
use Rattle.bw_model.specs.Marks.{MarkValue, price_of, next_mark, IsBelow}
use Rattle.bw_model.specs.Certificate.{certified_of}
use Rattle.bw_check.proofs.MarksKept.{each_above, from_above}
use Rattle.bw_check.proofs.marks.is_next_mark_kept.Goals as goal

pub returns-else-bound-from : goal.returns-else-bound-from
returns-else-bound-from c =
    let rows = c.args.rows.now in
    let amounts = c.args.amounts.now in
    let certificate = certified_of c.args.certificate.now in
    let places = c.args.places.now in
    let claim : Mark → ℕ → Type 0 =
    λ level place. IsBelow (price_of level)
    (next_mark (get_or amounts c.args.c 0) (weight_of rows c.args.c) place) in
    let price : price_of c.next_mark.result ≡ next_mark (get_or amounts c.args.c 0)
    (weight_of rows c.args.c) (get_or places c.args.c 0) =
    c.next_mark.ensures
    ∙ ap (λ (w : ℕ). next_mark (get_or amounts c.args.c 0) w (get_or places c.args.c 0))
    c.weight-weight.ensures in
    let ordered = c.is_below.ensures in
    let room : get_or amounts c.args.c 0 < c.args.bound =
    omega (arith, c.from.ensures, c.if-bound-from.false) in (
      λ e g other up shares is _.
          each_above rows amounts certificate c.args.c places c.requires.places c.requires.within
          claim c.in-Some.level (sym c.in-Some.ensures)
          (subst (λ (p : MarkValue). IsBelow (price_of c.in-Some.level) p) price
          (ordered.0 e))
          g other up shares is,
      λ h. ordered.1 (subst (λ (p : MarkValue). IsBelow (price_of c.in-Some.level) p) (sym price)
          (from_above rows amounts certificate c.args.c places c.requires.places c.requires.within
          claim c.in-Some.level (sym c.in-Some.ensures)
          (λ g other up shares is. h g other up shares is room))),
    )
