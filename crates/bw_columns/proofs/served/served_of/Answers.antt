-- The goals of `served_of` that are answered by hand.
use Rattle.std.proofs.Common.{◌≡◌, ℕ, List, Bool, Option, length, map, ap, sym, ◌∙◌, subst}
use Rattle.std.proofs.lemmas.List.{length-map}
use Rattle.std.proofs.lemmas.List.FromFn.{length-map-range_with_len}
use Rattle.bw_model.specs.Groups.{Groups}
use Rattle.bw_questions.specs.Served.{IsServedRound, amount_in}
use Rattle.bw_columns.specs.Asked.{limit_number}
use Rattle.bw_columns.specs.Requests.{groups_for, row_count}
use Rattle.bw_columns.specs.Certificates.{flags_in}
use Rattle.bw_columns.proofs.Spelling.{long_by}
use Rattle.bw_columns.proofs.served.served_of.Goals as goal

pub serve-requires : goal.serve-requires
serve-requires c =
    ap (length {A = Bool}) (c.as_slice.ensures.value ∙ c.in_ok-tested.ensures)
    ∙ length-map c.args.hungry.now _
    ∙ c.requires c.in_ok-instance.ensures.reply.0 ∙ sym c.in_ok-instance.ensures.rows

-- What is given for groups and flags is given for equal ones.
moved : (g h : Groups) (xs ys : List Bool) (amounts : List ℕ) (limits : List (Option ℕ)) → g ≡ h
    → xs ≡ ys → IsServedRound g xs amounts limits → IsServedRound h ys amounts limits
moved g h xs ys amounts limits groups flags known =
    subst (λ (one : Groups). IsServedRound one ys amounts limits) groups
    (subst (λ (some : List Bool). IsServedRound g some amounts limits) flags known)

-- There are as many amounts as rows.
amount_each : (used : Groups) (hungry : List Bool) (amounts : List ℕ) (limits : List (Option ℕ))
    → IsServedRound used hungry amounts limits → length amounts ≡ length used.rows
amount_each used hungry amounts limits served =
    ap (length {A = ℕ}) served.amounts_are
    ∙ length-map-range_with_len (amount_in used.rows served.round.floors served.planned) 0
    (length used.rows)

pub returns-clause-served : goal.returns-clause-served
returns-clause-served c = record {
  limit_of_each = c.in_ok-served.served.limits.items;
  round = moved c.in_ok-instance.instance (groups_for c.args.request.now)
      c.as_slice.result.now (flags_in c.args.hungry.now) c.in_ok-served.served.amounts.items
      c.in_ok-served.served.limits.items c.in_ok-instance.ensures.groups
      (c.as_slice.ensures.value ∙ c.in_ok-tested.ensures) c.in_ok-served.ensures;
  limits_are = c.in_ok-limit_numbers.ensures
      ∙ ap (λ (l : List (Option ℕ)). map limit_number l) c.as_slice-2.ensures.value;
}

pub returns-clause-amounts : goal.returns-clause-amounts
returns-clause-amounts c =
    amount_each c.in_ok-instance.instance c.as_slice.result.now
    c.in_ok-served.served.amounts.items c.in_ok-served.served.limits.items c.in_ok-served.ensures
    ∙ c.in_ok-instance.ensures.rows

pub returns-clause-limits : goal.returns-clause-limits
returns-clause-limits c =
    long_by limit_number c.in_ok-served.served.limits.items
    c.in_ok-limit_numbers.field-0.items (row_count c.args.request.now)
    (c.in_ok-limit_numbers.ensures ∙ ap (λ (l : List (Option ℕ)). map limit_number l)
    c.as_slice-2.ensures.value)
    (c.in_ok-served.ensures.one_each
    ∙ c.in_ok-instance.ensures.rows)
