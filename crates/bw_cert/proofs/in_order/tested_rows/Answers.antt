-- The goal of `tested_rows` that is answered by hand.
use Rattle.bw_model.specs.Refusal.{refusal}
use Rattle.bw_model.proofs.CallerLemmas.{IsInstance-accepted}
use Rattle.bw_cert.proofs.Ordered.{late_none}
use Rattle.bw_cert.proofs.in_order.tested_rows.Goals as goal

pub returns-clause-err : goal.returns-clause-err
returns-clause-err c =
    late_none (refusal c.args.rows.items)
    (IsInstance-accepted (record { shape = c.args.shape; rows = c.args.rows.items })
    (rw c.in_ok-instance.ensures.groups at c.in_ok-instance.ensures.valid))
