-- One more started thread keeps what all are to hand back.
use Rattle.bw_model.specs.Host.{slices_per_processor}
use Rattle.std.proofs.Common.{rules, arith, ◌≡◌, ℕ, ◌+◌, ◌*◌, length, [], ◌∷◌, ◌++◌, get_or}
use Rattle.std.proofs.Common.{vec_len, sym, ap, ◌∙◌, subst}
use Rattle.std.specs.Vec.Iter.{into_iter_items, into_iter_len}
use Rattle.bw_workers.specs.Serving.{IsReady}
use Rattle.bw_workers.proofs.DrainedHistories.{each_pushed}
use Rattle.bw_workers.proofs.threads.fn.at_once.scope.Goals as goal

pub loop-seat-preserved : goal.loop-seat-preserved
loop-seat-preserved g c =
    let was = c.loop-seat.invariant in
    let step = c.in-Some.ensures.steps in
    let n : ℕ = vec_len c.loop-seat.children in
    let old = c.loop-seat.children.items in
    let new = c.push_reserved.new.self.items in
    let child = c.in-Ok.child in
    let seat = c.in-Some.seat in
    let rest = into_iter_items c.loop-seat.seat-iterator in
    let left = into_iter_items c.next.new.self in
    let items : new ≡ old ++ child ∷ [] = search rules in
    let m : ℕ = vec_len c.push_reserved.new.self in
    let longer : m ≡ n + 1 = search rules in
    let fewer : into_iter_len c.loop-seat.seat-iterator ≡ into_iter_len c.next.new.self + 1 =
    search rules in
    let first : get_or rest 0 seat ≡ seat = search rules in
    let h = was.ready 0 seat (omega (arith, fewer)) in
    let numbered : seat.number ≡ n = ap (λ s. s.number) (sym first) ∙ h.number ∙ omega arith in
    let made = c.in-Ok.ensures.ok in
    let old_long : n ≡ length old = c.loop-seat.children.ok.0 in
    let new_long : m ≡ length new = c.push_reserved.new.self.ok.0 in
    record {
      long = omega (arith, longer, fewer, was.long);
      few = was.few;
      leaves = was.leaves;
      room = search rules;
      ready = λ k d lt. let z = was.ready (k + 1) d (omega (arith, fewer, lt)) in
          let e : n + (k + 1) ≡ m + k = omega (arith, longer) in
          let next : get_or left k d ≡ get_or rest (k + 1) d = search rules in
          subst (λ s. IsReady c.captures.lock.now.lock_id
          (slices_per_processor c.captures.instance.now.shape
          + 2 * length c.captures.leaves.now) (m + k)
          s) (sym next)
          (subst (λ (i : ℕ). IsReady c.captures.lock.now.lock_id
          (slices_per_processor c.captures.instance.now.shape
          + 2 * length c.captures.leaves.now) i
          (get_or rest (k + 1) d)) e z);
      lock = each_pushed old new child n m items old_long new_long
          (λ k x. x.promise.lock.now.lock_id ≡ c.captures.lock.now.lock_id) was.lock
          (ap (λ p. p.lock.now.lock_id) made
          ∙ ap (λ l. l.lock_id) c.promise_of-promise.ensures.lock);
      tree = each_pushed old new child n m items old_long new_long
          (λ k x. x.promise.instance.now.rows ≡ c.captures.instance.now.rows) was.tree
          (ap (λ p. p.instance.now.rows) made
          ∙ ap (λ n. n.rows) c.promise_of-promise.ensures.instance);
      slices = each_pushed old new child n m items old_long new_long
          (λ k x. slices_per_processor x.promise.instance.now.shape
          ≡ slices_per_processor c.captures.instance.now.shape) was.slices
          (ap (λ p. slices_per_processor p.instance.now.shape) made
          ∙ ap (λ n. slices_per_processor n.shape) c.promise_of-promise.ensures.instance);
      gate = each_pushed old new child n m items old_long new_long
          (λ k x. x.promise.gate.now ≡ c.captures.gate.now) was.gate
          (ap (λ p. p.gate.now) made ∙ c.promise_of-promise.ensures.gate);
      numbers = each_pushed old new child n m items old_long new_long (λ k x. x.promise.number ≡ k)
          was.numbers
          (ap (λ p. p.number) made ∙ c.promise_of-promise.ensures.number ∙ numbered);
    }
