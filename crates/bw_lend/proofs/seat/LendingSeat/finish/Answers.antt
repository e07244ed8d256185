-- The seat that comes back is the one that was lent, with its call made.
use Rattle.std.proofs.Common.{◌≡◌, Some, sym, ap, ◌∙◌, subst}
use Rattle.bw_lend.specs.Parts.{IsTable, IsOwner, HasSeat, seat_in}
use Rattle.bw_lend.proofs.Finished.{finished_parts}
use Rattle.bw_lend.proofs.seat.LendingSeat.finish.Goals as goal

pub invariant_of-self : goal.invariant_of-self
invariant_of-self g c =
    let seat = c.in-Some.seat in
    let there : c.self.inside.seat ≡ Some seat = c.in-Some.is in
    let back = c.finish_visit.new.seat in
    let parts = finished_parts seat seat.pending c.finish_visit.result back
    c.finish_visit.ensures.finished in (
      subst IsTable (sym c.finish_visit.ensures.table) c.self.invariant.0,
      c.finish_visit.ensures.table ∙ c.self.invariant.1,
      c.self.invariant.2,
      subst (λ id. IsOwner id c.self.inside.place c.finish_visit.new.token.me) (sym parts.2)
          (subst (λ me. IsOwner seat.lock_id c.self.inside.place me)
          (sym c.finish_visit.ensures.same)
          (subst (λ s. HasSeat c.self.inside.place c.self.inside.token.me s) there
          c.self.invariant.3)),
    )

pub invariant_of-self-2 : goal.invariant_of-self-2
invariant_of-self-2 g c =
    let lent = c.of-lent.result.value in
    let there : c.self.inside.seat ≡ Some c.in-Some.seat = c.in-Some.is in
    let same : lent ≡ c.args.self.now =
    c.of-lent.ensures ∙ (sym (ap (seat_in c.self.inside.token.table_id) there) ∙ c.self.view_is) in
    let done = c.finish_away.ensures.finished in let back = done.0 in
    let parts = finished_parts lent lent.pending c.finish_away.result back done.2 in
    let lock : back.lock_id ≡ c.args.lock.now.lock_id =
    parts.2 ∙ (ap (λ s. s.lock_id) same ∙ c.requires.lock) in (
      subst IsTable (sym c.finish_away.ensures.table) c.self.invariant.0,
      c.finish_away.ensures.table ∙ c.self.invariant.1,
      c.self.invariant.2,
      subst (λ s. HasSeat c.self.inside.place c.finish_away.new.token.me s) (sym done.1)
          (subst (λ id. IsOwner id c.self.inside.place c.finish_away.new.token.me) (sym lock)
          c.finish_away.ensures.owner),
    )
