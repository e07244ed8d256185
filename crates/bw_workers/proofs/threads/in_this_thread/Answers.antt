-- One more worked seat keeps that those before it are back, and that those after it are ready.
use Rattle.bw_model.specs.Host.{slices_per_processor}
use Rattle.std.proofs.Common.{rules, arith, ◌≡◌, ℕ, ◌+◌, ◌*◌, length, [], ◌∷◌, ◌++◌, get_or}
use Rattle.std.proofs.Common.{vec_len, sym, ap, ◌∙◌, subst}
use Rattle.std.specs.Vec.Iter.{into_iter_items, into_iter_len}
use Rattle.bw_workers.specs.Serving.{IsReady}
use Rattle.bw_workers.specs.Working.{IsDrainedSeat}
use Rattle.bw_workers.proofs.DrainedHistories.{each_pushed}
use Rattle.bw_workers.proofs.threads.in_this_thread.Goals as goal

pub loop-seat-preserved : goal.loop-seat-preserved
loop-seat-preserved g c =
    let was = c.loop-seat.invariant in
    let n : ℕ = vec_len c.loop-seat.done in
    let old = c.loop-seat.done.items in
    let new = c.push_reserved.new.self.items in
    let back = c.in_ok-seat.seat in
    let seat = c.in-Some.seat in
    let rest = into_iter_items c.loop-seat.seat-iterator in
    let left = into_iter_items c.next.new.self in
    let items : new ≡ old ++ back ∷ [] = search rules in
    let m : ℕ = vec_len c.push_reserved.new.self in
    let longer : m ≡ n + 1 = search rules in
    let fewer : into_iter_len c.loop-seat.seat-iterator ≡ into_iter_len c.next.new.self + 1 =
    search rules in
    let first : get_or rest 0 seat ≡ seat = search rules in
    let h = was.ready 0 seat (omega (arith, fewer)) in
    let numbered : seat.number ≡ n = ap (λ s. s.number) (sym first) ∙ h.number ∙ omega arith in
    let old_long : n ≡ length old = c.loop-seat.done.ok.0 in
    let new_long : m ≡ length new = c.push_reserved.new.self.ok.0 in
    record {
      long = omega (arith, longer, fewer, was.long);
      few = was.few;
      leaves = was.leaves;
      room = search rules;
      ready = λ k d lt. let z = was.ready (k + 1) d (omega (arith, fewer, lt)) in
          let e : n + (k + 1) ≡ m + k = omega (arith, longer) in
          let next : get_or left k d ≡ get_or rest (k + 1) d = search rules in
          subst (λ s. IsReady c.args.lock.now.lock_id
          (slices_per_processor c.args.instance.now.shape + 2 * length c.args.leaves.now) (m + k)
          s) (sym next)
          (subst (λ (i : ℕ). IsReady c.args.lock.now.lock_id
          (slices_per_processor c.args.instance.now.shape + 2 * length c.args.leaves.now) i
          (get_or rest (k + 1) d)) e z);
      back = each_pushed old new back n m items old_long new_long
          (λ k s. IsDrainedSeat (g.G.Gate.used c.args.gate.now) c.args.instance.now.rows
          (slices_per_processor c.args.instance.now.shape) c.args.lock.now.lock_id k s) was.back
          (subst (λ (i : ℕ). IsDrainedSeat (g.G.Gate.used c.args.gate.now)
          c.args.instance.now.rows (slices_per_processor c.args.instance.now.shape)
          c.args.lock.now.lock_id i back) numbered c.in_ok-seat.ensures);
    }

pub returns : goal.returns
returns g c =
    let was = c.loop-seat.invariant in
    let none : into_iter_len c.loop-seat.seat-iterator ≡ 0 = c.in-None.ensures.steps.0 in
    let long : vec_len c.loop-seat.done ≡ length c.loop-seat.done.items = c.loop-seat.done.ok.0 in
    let count : c.len-count.result ≡ length c.args.seats.items = search rules in (
      omega (arith, was.long, none, long, count),
      λ k d lt. was.back k d (omega (arith, lt, long)),
    )
