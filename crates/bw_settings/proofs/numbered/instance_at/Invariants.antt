-- What stands at each turn of the loop in `instance_at`: the rows before it follow the number.
use Rattle.bw_settings.specs.Following.{follows_of, number_at, IsNumberedTo}
use Rattle.bw_settings.proofs.numbered.instance_at.Given as goal

abbrev pub invariant-loop-h : goal.invariant-loop-h
invariant-loop-h l = record {
  follow : IsNumberedTo l.instance l.following.formulas.now
      (number_at (follows_of l.following) l.number) l.h l.other;
}
