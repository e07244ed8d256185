-- The goal of `follow` that is answered by hand.
use Rattle.std.proofs.Common.{subst}
use Rattle.std.specs.Prelude.{slice_index}
use Rattle.bw_model.specs.declared.row.Row.{Row}
use Rattle.bw_settings.specs.Following.{follows_of, number_at, IsWeightBy}
use Rattle.bw_settings.proofs.Rows.{one_more_follows}
use Rattle.bw_settings.proofs.numbered.follow.Goals as goal

pub returns-in-Some-clause-done : goal.returns-in-Some-clause-done
returns-in-Some-clause-done c = λ _.
    rw c.set_weight.ensures
    (one_more_follows c.args.instance.now c.args.following.now.formulas.now
    (number_at (follows_of c.args.following.now) c.args.number) c.args.h
    c.in-Some.weight c.args.other.now c.requires.so_far c.requires.row.0 c.requires.row.1
    (subst
    (λ (r : Row). IsWeightBy r.weight (slice_index c.args.following.now.formulas.now c.args.h)
    (number_at (follows_of c.args.following.now) c.args.number c.args.h) c.in-Some.weight)
    c.row-standing.ensures c.in-Some.ensures.some))
