-- What stands at each turn of the loop in `search_level`.
use Rattle.std.proofs.Common.{◌≡◌, ◌+◌, ◌-◌, ◌^◌, ◌<◌, ◌≤◌}
use Rattle.bw_split.specs.Levels.{taken_by_all}
use Rattle.bw_split.proofs.level_search.search_level.Given as goal
use Rattle.bw_split.specs.declared.limits.TheConstants.{GREATEST_LEVEL, MAX_ROUNDS, WIDEST}

abbrev pub invariant-loop-round : goal.invariant-loop-round
invariant-loop-round l = record {
  apart : l.level < l.above;
  in_range : l.above ≤ GREATEST_LEVEL;
  rest_is : l.rest + taken_by_all l.level l.weights l.most ≡ l.amount;
  enough : l.amount ≤ taken_by_all l.above l.weights l.most;
  width : l.above ≤ l.level + 2 ^ (MAX_ROUNDS - l._round);
  reach : l.reach ≡ 2 ^ (MAX_ROUNDS - l._round);
  narrow : l.reach ≤ WIDEST;
  rounds : l.work.rounds ≡ l.fn.work.rounds + l._round;
  picks : l.work.picks ≡ l.fn.work.picks;
  first : l._round ≡ 0 → (l.level + 1 < l.above) × (0 < l.rest);
}
