-- What stands at each turn of the loop in `share_in_pieces`.
use Rattle.std.proofs.Common.{◌≡◌, ◌<◌, ℕ, length, get_or}
use Rattle.bw_plan.specs.Cost.{IsCounted}
use Rattle.bw_plan.specs.Shared.{IsPlanning, is_above}
use Rattle.bw_plan.proofs.Done.{done_at}
use Rattle.bw_plan.proofs.by_depth.share_in_pieces.Given as goal

abbrev pub invariant-loop-k : goal.invariant-loop-k
invariant-loop-k g l = record {
  planning : IsPlanning l.instance l.most (done_at l.instance.rows l.depth l.k) l.amounts.items;
  counted : IsCounted l.instance.rows (is_above l.instance.rows l.depth)
      (done_at l.instance.rows l.depth l.k) l.fn.work l.work;
  held : (j : ℕ) → j < length l.groups → get_or l.amounts.items (get_or l.groups j 0) 0
      ≡ get_or l.initial.amounts.items (get_or l.groups j 0) 0;
}
