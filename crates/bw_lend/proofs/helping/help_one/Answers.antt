-- The helper gives the place back that it claimed, and has what it had before.
use Rattle.std.proofs.Common.{◌∙◌, true, ap, sym}
use Rattle.bw_lend.specs.Visits.{Visiting}
use Rattle.bw_lend.proofs.Holding.{helped, had_back}
use Rattle.bw_lend.proofs.helping.help_one.Goals as goal

pub give_back-requires-clause-helper : goal.give_back-requires-clause-helper
give_back-requires-clause-helper g c κs within = (
  c.args.lock.now.lock_id,
  c.args.token.now.me,
  helped c.args.lock.now.lock_id c.in-Some.place c.ticket-ticket.result
      c.args.token.now.me c.claim.new.token.me c.make_at.new.token.me
      (g.V.Visit.state c.claim_to_help.new.self).ticket c.claim.result.won c.claim.ensures.claimed
      c.if-not-claim_to_help.ensures.claimed.1
      (ap (λ (v : Visiting). v.ticket) c.if-not-claim_to_help.ensures.claimed.0
      ∙ sym c.ticket-ticket.ensures) c.make_at.ensures.helper,
)

pub returns-then-make_at-clause-same : goal.returns-then-make_at-clause-same
returns-then-make_at-clause-same g c =
    let h = helped c.args.lock.now.lock_id c.in-Some.place c.ticket-ticket.result
    c.args.token.now.me c.claim.new.token.me c.make_at.new.token.me
    (g.V.Visit.state c.claim_to_help.new.self).ticket c.claim.result.won c.claim.ensures.claimed
    c.if-not-claim_to_help.ensures.claimed.1
    (ap (λ (v : Visiting). v.ticket) c.if-not-claim_to_help.ensures.claimed.0
    ∙ sym c.ticket-ticket.ensures) c.make_at.ensures.helper in
    had_back c.args.lock.now.lock_id c.in-Some.place c.ticket-ticket.result c.args.token.now.me
    c.claim.new.token.me c.make_at.new.token.me true c.give_back.new.token.me h c.give_back.ensures.back

pub give_back-requires-2-clause-helper : goal.give_back-requires-2-clause-helper
give_back-requires-2-clause-helper g c κs within = (
  c.args.lock.now.lock_id,
  c.args.token.now.me,
  helped c.args.lock.now.lock_id c.in-Some.place c.ticket-ticket.result
      c.args.token.now.me c.claim.new.token.me c.make_at.new.token.me
      (g.V.Visit.state c.claim_to_help.new.self).ticket c.claim.result.won c.claim.ensures.claimed
      c.if-not-claim_to_help.ensures.claimed.1
      (ap (λ (v : Visiting). v.ticket) c.if-not-claim_to_help.ensures.claimed.0
      ∙ sym c.ticket-ticket.ensures) c.make_at.ensures.helper,
)

pub returns-clause-same : goal.returns-clause-same
returns-clause-same g c =
    let h = helped c.args.lock.now.lock_id c.in-Some.place c.ticket-ticket.result
    c.args.token.now.me c.claim.new.token.me c.make_at.new.token.me
    (g.V.Visit.state c.claim_to_help.new.self).ticket c.claim.result.won c.claim.ensures.claimed
    c.if-not-claim_to_help.ensures.claimed.1
    (ap (λ (v : Visiting). v.ticket) c.if-not-claim_to_help.ensures.claimed.0
    ∙ sym c.ticket-ticket.ensures) c.make_at.ensures.helper in
    had_back c.args.lock.now.lock_id c.in-Some.place c.ticket-ticket.result c.args.token.now.me
    c.claim.new.token.me c.make_at.new.token.me true c.give_back-2.new.token.me h c.give_back-2.ensures.back
