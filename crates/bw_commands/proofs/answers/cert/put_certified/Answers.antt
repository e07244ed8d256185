-- The goals of `put_certified` that are answered by hand.
use Rattle.std.proofs.Common.{◌∙◌, ℕ, List, ap, sym, subst}
use Rattle.bw_model.specs.Certificate.{IsAccepted, certified_of}
use Rattle.bw_model.specs.Groups.{Groups}
use Rattle.bw_model.specs.Plan.{IsPlan}
use Rattle.bw_cert.specs.Levels.{AreLevels, AreTightFlags}
use Rattle.bw_cert.specs.Spelling.{IsValue, spelling}
use Rattle.bw_tree.specs.Kept.{IsSnapshotOf}
use Rattle.bw_hierarchy.specs.State.{HierarchyState}
use Rattle.bw_commands.specs.CertifiedPlan.{value_with}
use Rattle.bw_commands.proofs.answers.cert.put_certified.Goals as goal

pub keep-requires : goal.keep-requires
keep-requires g c =
    subst (λ (h : HierarchyState). IsSnapshotOf c.in_ok-snapshot.snapshot h.tree h.shape)
    (sym c.take_snapshot.ensures.same) c.in_ok-snapshot.ensures.taken

pub returns-clause-answers : goal.returns-clause-answers
returns-clause-answers g c =
    let instance = c.in_ok-snapshot.snapshot.instance in
    let made = c.in_ok-snapshot.ensures.taken.rows in
    let amounts = c.as_slice-amounts.result.now in
    let given = sym c.as_slice-amounts.ensures.value in
    let certificate = certified_of c.in_ok-certificate.certificate in
    let found = c.in_ok-certificate.ensures in
    record {
      ok = (
        c.as_bytes.result.now,
        record {
          amounts = amounts;
          certificate = certificate;
          plan = subst (λ (x : Groups). IsPlan x amounts) made
              (subst (IsPlan instance) given c.in_ok-plan.ensures);
          flags = subst (λ (x : Groups). AreTightFlags x certificate) made found.flags;
          levels = subst (λ (x : Groups). AreLevels x amounts certificate) made
              (subst (λ (a : List ℕ). AreLevels instance a certificate) given found.levels);
          accepted = subst (λ (x : Groups). IsAccepted x amounts certificate) made
              (subst (λ (a : List ℕ). IsAccepted instance a certificate) given found.certified);
          valid = subst (λ (x : Groups). IsValue (value_with x amounts certificate)) made
              c.in_ok-text.ensures.valid;
          is = c.as_bytes.ensures.value ∙ c.in_ok-text.ensures.text
              ∙ ap (λ (x : Groups). spelling (value_with x amounts certificate)) made;
        },
        c.in_ok-extend_from_slice.ensures.items,
      );
      err = tt;
      room = c.in_ok-extend_from_slice.ensures.capacity;
    }
