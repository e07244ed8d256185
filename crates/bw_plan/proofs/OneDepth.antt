-- A depth that shares out what its groups have, one group after another.
use Rattle.std.proofs.Common.{◌≡◌, ℕ, ◌+◌, ◌<◌, ◌≤◌, List, length, get_or, ap, ◌∙◌, arith}
use Rattle.bw_model.specs.Groups.{Groups, IsInstance, depth_of}
use Rattle.bw_model.specs.Demand.{AreMaxTotals}
use Rattle.bw_model.proofs.CallerLemmas.{AreMaxTotals-capped}
use Rattle.bw_demand.specs.ByDepth.{rows_of_depth}
use Rattle.bw_demand.proofs.CallerLemmas.{IsListed, is_listed}
use Rattle.bw_plan.specs.Shared.{IsPlanning, CanShare, AreParts, IsGiven, is_above}
use Rattle.bw_plan.proofs.Shares.{can_share, given_more, same_done}
use Rattle.bw_plan.proofs.Done.{done_at, first_done, last_done, next_done, fresh, closed}
use Rattle.bw_plan.proofs.Done.{parent_done, not_deeper}
use Rattle.bw_plan.proofs.Costs.{counted_one, counted_none, counted_then, counted_more}
use Rattle.bw_plan.specs.Cost.{IsOneCounted, IsCounted}
use Rattle.bw_split.specs.Counts.{Done}
use Rattle.std.proofs.lemmas.Bool.{lt-ltb}

module _ (groups : Groups) (valid : IsInstance groups) (most : List ℕ)
    (mosts : AreMaxTotals groups most) (d : ℕ) where
  -- None of the depth's groups has shared out.
  pub none_shared : (amounts : List ℕ) → IsPlanning groups most (is_above groups.rows d) amounts
      → IsPlanning groups most (done_at groups.rows d 0) amounts
  none_shared amounts so_far =
      same_done groups valid most (AreMaxTotals-capped groups valid.tree most mosts)
      (is_above groups.rows d) (done_at groups.rows d 0) amounts
      (λ h _. first_done groups.rows d h) so_far

  -- Nothing of it is counted.
  pub none_counted : (work : Done)
      → IsCounted groups.rows (is_above groups.rows d) (done_at groups.rows d 0) work work
  none_counted work =
      counted_more groups.rows (is_above groups.rows d) (is_above groups.rows d)
      (done_at groups.rows d 0) (λ h e. first_done groups.rows d h ∙ e) work work
      (counted_none groups.rows (is_above groups.rows d) work)

  -- What is counted of some of its groups is within the count of all.
  pub all_counted : (k : ℕ) (before after : Done)
      → IsCounted groups.rows (is_above groups.rows d) (done_at groups.rows d k) before after
      → IsCounted groups.rows (is_above groups.rows d) (is_above groups.rows (d + 1)) before after
  all_counted k before after so_far =
      counted_more groups.rows (is_above groups.rows d) (done_at groups.rows d k)
      (is_above groups.rows (d + 1))
      (λ h e. let deep = not_deeper groups.rows d k h e in
      lt-ltb (depth_of groups.rows h) (d + 1) (omega (arith, deep))) before after so_far

  module _ (listed : List ℕ) (listed_is : listed ≡ rows_of_depth groups.rows d) (k : ℕ) where
    -- All of them have.
    pub all_shared : (amounts : List ℕ) → length listed ≤ k
        → IsPlanning groups most (done_at groups.rows d k) amounts
        → IsPlanning groups most (is_above groups.rows (d + 1)) amounts
    all_shared amounts whole so_far =
        let all : length (rows_of_depth groups.rows d) ≤ k =
        omega (arith, whole, ap (length {A = ℕ}) listed_is) in
        same_done groups valid most (AreMaxTotals-capped groups valid.tree most mosts)
        (done_at groups.rows d k) (is_above groups.rows (d + 1)) amounts
        (λ h below. last_done groups.rows d k h below all) so_far

    module _ (below : k < length listed) where
      next_is : IsListed groups.rows d k (get_or listed k 0)
      next_is = is_listed groups.rows d k listed listed_is below

      -- The next one may share out what it has.
      pub next_can_share : (amounts : List ℕ)
          → IsPlanning groups most (done_at groups.rows d k) amounts
          → CanShare groups most amounts (get_or listed k 0)
      next_can_share amounts so_far =
          can_share groups valid most (AreMaxTotals-capped groups valid.tree most mosts)
          mosts.one_each (done_at groups.rows d k) (get_or listed k 0) amounts next_is.inside so_far
          (λ p up. parent_done groups.rows valid.tree d k (get_or listed k 0) p next_is.deep up)

      -- It has shared it out.
      pub next_shared : (parts before after : List ℕ)
          → IsPlanning groups most (done_at groups.rows d k) before
          → AreParts groups most before (get_or listed k 0) parts
          → IsGiven groups.rows (get_or listed k 0) parts before after
          → IsPlanning groups most (done_at groups.rows d (k + 1)) after
      next_shared parts before after so_far are_parts given =
          given_more groups valid most (AreMaxTotals-capped groups valid.tree most mosts)
          (done_at groups.rows d k) (done_at groups.rows d (k + 1)) (get_or listed k 0)
          next_is.inside
          (fresh groups.rows d k (get_or listed k 0) next_is.here next_is.is)
          (λ h _. next_done groups.rows d k (get_or listed k 0) h next_is.here next_is.is)
          (λ h p _ e up. closed groups.rows valid.tree d k h p e up)
          (λ p up. parent_done groups.rows valid.tree d k (get_or listed k 0) p next_is.deep up)
          parts before after so_far are_parts given

      -- Its split is counted.
      pub next_counted : (first before after : Done)
          → IsCounted groups.rows (is_above groups.rows d) (done_at groups.rows d k) first before
          → IsOneCounted groups.rows (get_or listed k 0) before after
          → IsCounted groups.rows (is_above groups.rows d) (done_at groups.rows d (k + 1)) first
          after
      next_counted first before after so_far one =
          counted_then groups.rows (is_above groups.rows d) (done_at groups.rows d k)
          (done_at groups.rows d (k + 1)) first before after so_far
          (counted_one groups.rows (done_at groups.rows d k) (done_at groups.rows d (k + 1))
          (get_or listed k 0) (fresh groups.rows d k (get_or listed k 0) next_is.here next_is.is)
          (λ h. next_done groups.rows d k (get_or listed k 0) h next_is.here next_is.is)
          next_is.inside before after one)
