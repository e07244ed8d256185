-- One more seat that may lend itself.
use Rattle.std.proofs.Common.{rules, arith, ◌≡◌, ℕ, ◌+◌, suc, length, [], ◌∷◌, ◌++◌, get_or, sym, ap, ◌∙◌}
use Rattle.std.proofs.Common.{subst}
use Rattle.std.specs.List.{All}
use Rattle.std.specs.Vec.Iter.{into_iter_items, into_iter_len}
use Rattle.bw_lend.specs.Rule.{Each}
use Rattle.bw_lend.proofs.Handed.{snoc_append, append_nothing, none_left, each_init}
use Rattle.bw_lend.proofs.seat.lend.Goals as goal

pub loop-seat-init : goal.loop-seat-init
loop-seat-init g c =
    let lock = c.args.lock.now.lock_id in
    let iter : into_iter_items c.into_iter-seat-iterator.result ≡ c.args.seats.items = search rules in
    let empty : c.in-Ok-with_capacity.lending.items ≡ [] = search rules in
    let count : into_iter_len c.into_iter-seat-iterator.result ≡ length c.args.seats.items = search rules in
    record {
      belong = subst (All (λ s. s.lock_id ≡ lock)) (sym iter) c.requires.lock;
      berths = c.in-Ok.ensures.lock;
      many = search rules;
      room = search rules;
      same = ap (λ l. l ++ into_iter_items c.into_iter-seat-iterator.result) empty ∙ iter;
    }

pub of-requires-clause-lock : goal.of-requires-clause-lock
of-requires-clause-lock g c κs within =
    let was = c.loop-seat.invariant in
    let lock = c.args.lock.now.lock_id in
    let seat = c.in-Some.seat in
    let rest = into_iter_items c.loop-seat.seat-iterator in
    let first : get_or rest 0 seat ≡ seat = search rules in
    let all : into_iter_len c.loop-seat.seat-iterator ≡ length rest = search rules in
    let fewer : into_iter_len c.loop-seat.seat-iterator ≡ into_iter_len c.next.new.self + 1 =
    search rules in
    let belongs : seat.lock_id ≡ lock = ap (λ s. s.lock_id) (sym first)
    ∙ was.belong 0 seat (omega (arith, fewer, all)) in
    let berth = each_init (λ b. b ≡ lock) c.pop.new.self.items c.in-Some-pop.berth
    (subst (Each (λ b. b ≡ lock)) c.in-Some-pop.ensures.items was.berths) in
    belongs ∙ sym berth.1

pub loop-seat-preserved : goal.loop-seat-preserved
loop-seat-preserved g c =
    let was = c.loop-seat.invariant in
    let lock = c.args.lock.now.lock_id in
    let seat = c.in-Some.seat in
    let rest = into_iter_items c.loop-seat.seat-iterator in
    let left = into_iter_items c.next.new.self in
    let old = c.loop-seat.lending.items in
    let fewer : into_iter_len c.loop-seat.seat-iterator ≡ into_iter_len c.next.new.self + 1 =
    search rules in
    let many : into_iter_len c.next.new.self ≡ length left = search rules in
    let all : into_iter_len c.loop-seat.seat-iterator ≡ length rest = search rules in
    let shifted : rest ≡ seat ∷ left = search rules in
    let pushed : c.push_reserved.new.self.items ≡ old ++ seat ∷ [] =
    c.push_reserved.ensures.items ∙ ap (λ s. old ++ s ∷ []) c.of.ensures in
    record {
      belong = λ k d lt. let h = was.belong (k + 1) d (omega (arith, lt, fewer, all, many)) in
          let one : k + 1 ≡ suc k = omega arith in
          let e : get_or left k d ≡ get_or rest (k + 1) d = sym (ap (λ l. get_or l (k + 1) d) shifted
          ∙ ap (λ (j : ℕ). get_or (seat ∷ left) j d) one) in
          ap (λ s. s.lock_id) e ∙ h;
      berths = (each_init (λ b. b ≡ lock) c.pop.new.self.items c.in-Some-pop.berth
          (subst (Each (λ b. b ≡ lock)) c.in-Some-pop.ensures.items was.berths)).0;
      many = search rules;
      room = search rules;
      same = ap (λ l. l ++ left) pushed ∙ (snoc_append old left seat
          ∙ (ap (λ l. old ++ l) (sym shifted) ∙ was.same));
    }

pub returns-clause-ok : goal.returns-clause-ok
returns-clause-ok g c =
    let none : into_iter_len c.loop-seat.seat-iterator ≡ 0 = c.in-None.ensures.steps.0 in
    let left = into_iter_items c.loop-seat.seat-iterator in
    let all : into_iter_len c.loop-seat.seat-iterator ≡ length left = search rules in
    let empty : left ≡ [] = none_left left (sym all ∙ none) in
    sym (append_nothing c.loop-seat.lending.items left empty) ∙ c.loop-seat.invariant.same
