-- The goals of `certified_plan_of` that are answered by hand.
use Rattle.std.proofs.Common.{◌≡◌, ℕ, length, ◌∙◌, subst}
use Rattle.bw_model.specs.Groups.{Groups}
use Rattle.bw_model.specs.Plan.{IsPlan}
use Rattle.bw_model.specs.Certificate.{Certified, certified_of, IsAccepted}
use Rattle.bw_cert.specs.Levels.{AreTightFlags, AreLevels}
use Rattle.bw_columns.specs.Asked.{table_of}
use Rattle.bw_columns.specs.Requests.{groups_for, row_count}
use Rattle.bw_columns.specs.Certificates.{columns_in}
use Rattle.bw_columns.proofs.Asked.{rows_length}
use Rattle.bw_columns.proofs.Spelling.{columns_are_spelled, columns_long}
use Rattle.bw_columns.proofs.certified.certified_plan_of.Goals as goal

pub returns-clause-held : goal.returns-clause-held
returns-clause-held c =
    let groups = c.in_ok-instance.ensures.groups in
    let certificate : Certified = certified_of c.in_ok-certificate.certificate in
    let amounts = c.in_ok-plan.plan.amounts.items in
    record {
      plan = subst (λ (g : Groups). IsPlan g amounts) groups c.in_ok-plan.ensures;
      certificate = certificate;
      columns = c.in_ok-certificate_columns.ensures;
      spelled = columns_are_spelled certificate (columns_in c.in_ok-certificate_columns.field-0)
          c.in_ok-certificate_columns.ensures;
      accepted = subst (λ (g : Groups). IsAccepted g amounts certificate) groups
          c.in_ok-certificate.ensures.certified;
      flags = subst (λ (g : Groups). AreTightFlags g certificate) groups
          c.in_ok-certificate.ensures.flags;
      levels = subst (λ (g : Groups). AreLevels g amounts certificate) groups
          c.in_ok-certificate.ensures.levels;
    }

pub returns-clause-long : goal.returns-clause-long
returns-clause-long c =
    let rows : length (groups_for c.args.request.now).rows
    ≡ row_count c.args.request.now = rows_length (table_of c.args.request.now.columns) in
    let accepted : IsAccepted (groups_for c.args.request.now)
    c.in_ok-plan.plan.amounts.items (certified_of c.in_ok-certificate.certificate) =
    subst (λ (g : Groups). IsAccepted g c.in_ok-plan.plan.amounts.items
    (certified_of c.in_ok-certificate.certificate)) c.in_ok-instance.ensures.groups
    c.in_ok-certificate.ensures.certified in
    accepted.certified.amounts_each ∙ rows

pub returns-clause-certificate_long : goal.returns-clause-certificate_long
returns-clause-certificate_long c =
    let certificate : Certified = certified_of c.in_ok-certificate.certificate in
    let count : ℕ = row_count c.args.request.now in
    let rows : length (groups_for c.args.request.now).rows ≡ count =
    rows_length (table_of c.args.request.now.columns) in
    let accepted : IsAccepted (groups_for c.args.request.now)
    c.in_ok-plan.plan.amounts.items certificate =
    subst (λ (g : Groups). IsAccepted g c.in_ok-plan.plan.amounts.items certificate)
    c.in_ok-instance.ensures.groups c.in_ok-certificate.ensures.certified in
    columns_long certificate (columns_in c.in_ok-certificate_columns.field-0) count
    c.in_ok-certificate_columns.ensures (accepted.certified.flags_each ∙ rows)
    (accepted.certified.levels_each ∙ rows)
