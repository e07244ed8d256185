-- One more seat that no longer lends itself.
use Rattle.std.proofs.Common.{rules, ◌≡◌, length, [], ◌∷◌, ◌++◌, sym, ap, ◌∙◌}
use Rattle.std.specs.Vec.Iter.{into_iter_items, into_iter_len}
use Rattle.bw_lend.proofs.Handed.{snoc_append, append_nothing, none_left}
use Rattle.bw_lend.proofs.visitor.move_home.Goals as goal

pub loop-seat-init : goal.loop-seat-init
loop-seat-init g c =
    let iter : into_iter_items c.into_iter-seat-iterator.result ≡ c.args.seats.items = search rules in
    let empty : c.args.home.items ≡ [] = c.requires.empty in
    record {
      room = search rules;
      same = ap (λ l. l ++ into_iter_items c.into_iter-seat-iterator.result) empty ∙ iter;
    }

pub loop-seat-preserved : goal.loop-seat-preserved
loop-seat-preserved g c =
    let was = c.loop-seat.invariant in
    let seat = c.in-Some.seat in
    let rest = into_iter_items c.loop-seat.seat-iterator in
    let left = into_iter_items c.next.new.self in
    let old = c.loop-seat.home.items in
    let shifted : rest ≡ seat ∷ left = search rules in
    let pushed : c.push_reserved.new.self.items ≡ old ++ seat ∷ [] =
    c.push_reserved.ensures.items
    ∙ ap (λ s. old ++ s ∷ []) (c.into_seat.ensures ∙ c.into_visitor.ensures) in
    record {
      room = search rules;
      same = ap (λ l. l ++ left) pushed ∙ (snoc_append old left seat
          ∙ (ap (λ l. old ++ l) (sym shifted) ∙ was.same));
    }

pub returns : goal.returns
returns g c =
    let none : into_iter_len c.loop-seat.seat-iterator ≡ 0 = c.in-None.ensures.steps.0 in
    let left = into_iter_items c.loop-seat.seat-iterator in
    let all : into_iter_len c.loop-seat.seat-iterator ≡ length left = search rules in
    let empty : left ≡ [] = none_left left (sym all ∙ none) in
    sym (append_nothing c.loop-seat.home.items left empty) ∙ c.loop-seat.invariant.same
