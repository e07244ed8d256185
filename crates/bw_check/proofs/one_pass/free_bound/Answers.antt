-- The goals of `free_bound` that are answered by hand.
use Rattle.bw_check.proofs.one_pass.free_bound.Goals as goal

pub returns-then-is_free_row-clause-free : goal.returns-then-is_free_row-clause-free
returns-then-is_free_row-clause-free c =
    let kept = c.is_free_row.ensures in
    let free = c.if-is_free_row.true in
    record {
      within_limit = kept.limit free;
      within_demand = kept.demand free;
      summed = kept.sum free;
      flag_limited = kept.flag free;
      greatest = kept.greatest free;
      has_level = kept.level free;
      last_kept = kept.last free;
      next_kept = kept.next free;
    }
