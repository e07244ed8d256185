-- The goals of `pass_once` that are answered by hand.
use Rattle.std.proofs.Common.{ℕ, List, set, ap, sym, ◌∙◌, arith, subst, true≢false, below_more}
use Rattle.std.proofs.lemmas.List.{set-get_or}
use Rattle.bw_settings.specs.Following.{follows_of}
use Rattle.bw_settings.specs.Several.{aims_of, IsLeastBeside}
use Rattle.bw_settings.proofs.pass.pass_once.Goals as goal
use Rattle.bw_settings.proofs.pass.pass_once.Goals.{then-number-numbers, in-Least-2}

pub loop-k-preserved : goal.loop-k-preserved
loop-k-preserved c =
    let found : IsLeastBeside c.args.instance.now (follows_of c.args.following.now)
    (aims_of c.args.goals.now) (set c.loop-k.numbers c.loop-k.k c.in-Least.number) c.loop-k.k =
    rw c.in-Least.is at c.in_ok-number.ensures in
    elim c.if-number-numbers.branch [
      | then-number-numbers w ↦ record {
        as_many = c.if-number-numbers.auto.numbers ∙ c.loop-k.invariant.as_many;
        so_far = λ same. rw w.numbers-is
            (below_more _ _ (c.loop-k.invariant.so_far (sym w.same-is ∙ same))
            (subst (λ (ns : List ℕ). IsLeastBeside c.args.instance.now
            (follows_of c.args.following.now) (aims_of c.args.goals.now) ns c.loop-k.k)
            (ap (set c.loop-k.numbers c.loop-k.k) w.if-number-numbers.true
            ∙ set-get_or c.loop-k.numbers c.loop-k.k 0) found));
      }
      | in-Least-2 w ↦ record {
        as_many = c.if-number-numbers.auto.numbers ∙ c.loop-k.invariant.as_many;
        so_far = λ same. absurd (true≢false (sym same ∙ w.same-is));
      }
    ]

pub returns-then-same : goal.returns-then-same
returns-then-same c = λ k below.
    c.loop-k.invariant.so_far c.if-same.true k (omega (arith, below, c.loop-k-test.false))
