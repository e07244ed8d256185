-- The rule allows the steps look and enter, and a seat that finds its own ticket has the slot.
use Rattle.std.proofs.Common.{arith, ◌≡◌, [], ◌∷◌, map, sym, ap, ◌∙◌, subst, ◌≤◌}
use Rattle.bw_ticket.specs.Rule.{Each}
use Rattle.bw_ticket.specs.Plays.{ticket_in, entered, goes, missed}
use Rattle.bw_ticket.proofs.Allowed.{may_look}
use Rattle.bw_ticket.proofs.KeptLemmas.{waits_is}
use Rattle.bw_ticket.proofs.sleeping.look.Goals as goal

pub load-found-requires : goal.load-found-requires
load-found-requires g c = let w = c.requires.waits in (
  c.requires.table.0,
  omega (arith, c.requires.table.1.0),
  may_look g.M.Machine.after
      g.M.Machine.answer _ _ _ c.args.seat.now.me w.0 c.args.ticket w.1 w.2,
)

pub returns-then-found-ticket-clause-looked : goal.returns-then-found-ticket-clause-looked
returns-then-found-ticket-clause-looked g c = let w = c.requires.waits in
    let mine : ticket_in c.args.seat.now.me.0 ≡ c.args.ticket =
    ap (λ m. ticket_in m.0) w.1 ∙ (waits_is c.args.ticket w.0.phase w.2).0 in
    let found : c.load-found.result ≡ c.args.ticket = c.if-found-ticket.true in
    let bare : c.args.seat.now.me.1 ≡ [] = ap (λ m. m.1) w.1 in
    let got = c.load-found.ensures.2.0 (found ∙ sym mine) in let y = got.0 in (
      subst (λ n. Each (λ p. p.reached ≤ n) c.args.seat.now.me.0) found got.4,
      (
        y,
        got.1 ∙ (λ i. (map (entered (found i) y) c.args.seat.now.me.0, (0, y) ∷ bare i)),
        got.2 ∙ found,
        omega (arith, got.3, found),
      ),
    )

pub returns-clause-looked : goal.returns-clause-looked
returns-clause-looked g c = let w = c.requires.waits in
    let mine : ticket_in c.args.seat.now.me.0 ≡ c.args.ticket =
    ap (λ m. ticket_in m.0) w.1 ∙ (waits_is c.args.ticket w.0.phase w.2).0 in
    let bare : c.args.seat.now.me.1 ≡ [] = ap (λ m. m.1) w.1 in
    let got = c.load-found.ensures.2.1 (λ h. c.if-found-ticket.false (h ∙ mine)) in
    (got.0 ∙ (λ i. (map (goes missed) c.args.seat.now.me.0, bare i)), omega (arith, got.1, mine))
