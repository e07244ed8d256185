-- The goals of `let_most_go` that are answered by hand.
use Rattle.std.proofs.Common.{ℕ, ◌≡◌, ◌<◌, ◌∙◌, Option, length, get_or, arith, rules, sym, subst}
use Rattle.bw_owned.specs.LetGo.{counted, gone, IsNext, IsNextOf}
use Rattle.bw_owned.proofs.Gone.{gone_none, gone_more, marked_only, marked_most, marked_few}
use Rattle.bw_owned.proofs.release.let_most_go.Goals as goal

pub loop-gone-init : goal.loop-gone-init
loop-gone-init c =
    let slices = c.args.slices.now in
    let go = c.hold_all.new.go in
    let room = c.requires.room in
    let each : (k : ℕ) → k < length slices → get_or go k 0 ≡ 0 =
    λ k below. c.hold_all.ensures.each k (omega (arith, below, room)) in
    record {
      lengths = search rules;
      gone_is = sym (gone_none slices go each);
      range = omega arith;
      only = λ k below goes. let held = each k below in absurd (omega (arith, goes, held));
      most = λ k other below under goes held may.
          let none = each k below in absurd (omega (arith, goes, none));
      few = λ k below goes. let held = each k below in absurd (omega (arith, goes, held));
    }

pub loop-gone-preserved : goal.loop-gone-preserved
loop-gone-preserved c =
    let kept = c.loop-gone.invariant in
    let needed = c.args.needed in
    let least = c.args.least in
    let counts = c.args.counts.now in
    let slices = c.args.slices.now in
    let go = c.loop-gone.go in
    let next = c.in-Some.next in
    let long : length go ≡ length slices = kept.lengths ∙ c.requires.room in
    let is : IsNext least counts slices go (length slices) next =
    subst (λ (found : Option ℕ). IsNextOf least counts slices go (length slices) found)
    c.in-Some.is c.next_of.ensures in
    let sum = gone_more slices go next is.below long is.held in
    let count : c.counted-gone.result ≡ counted (get_or slices next 0) = c.counted-gone.ensures in
    let so_far : c.loop-gone.gone ≡ gone slices go = kept.gone_is in
    let short : gone slices go < needed = omega (arith, so_far) in
    let fits = c.type_inv.slices next in
    record {
      lengths = search rules;
      gone_is = omega (arith, sum, count, so_far);
      range = omega (arith, count, so_far, short, fits);
      only = marked_only needed least counts slices go next long is kept.only;
      most = marked_most needed least counts slices go next long is kept.most;
      few = marked_few needed least counts slices go next long is kept.most short;
    }
