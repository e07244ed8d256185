-- The laws over allocations, from those of the base crate.
use Rattle.std.proofs.Common.{◌≡◌, ℕ, ◌<◌, ◌≤◌, List, Some, length, get_or, arith}
use Rattle.bw_model.specs.Groups.{Groups, IsInstance, parent_of}
use Rattle.bw_model.specs.Allocation.{IsWithinUnder, IsMost}
use Rattle.bw_model.proofs.CallerLemmas.{parent_from_is_child, reached, joined, joined_at}
use Rattle.bw_model.proofs.CallerLemmas.{length-joined, joined_zero, total-joined, is_under-self}
use Rattle.bw_model.proofs.CallerLemmas.{IsMost-unique, mosts, mosts-capped, capped-IsMost}
use Rattle.bw_demand.specs.Laws.{IsReached, IsJoined}

pub amount-IsReached : (groups : Groups) (g most amount : ℕ) → IsInstance groups
    → g < length groups.rows → IsMost groups g most →
    amount ≤ most → IsReached groups g amount
amount-IsReached groups g most amount valid below is small =
    let same : most ≡ get_or (mosts groups valid.tree) g 0 =
    IsMost-unique groups g most (get_or (mosts groups valid.tree) g 0) is
    (capped-IsMost groups valid.tree (mosts groups valid.tree) (mosts-capped groups valid.tree) g
    below) in
    reached groups valid.tree (mosts groups valid.tree) (mosts-capped groups valid.tree) g below
    amount (omega (arith, small, same))

pub parts-IsJoined : (groups : Groups) (g : ℕ) (parts : ℕ → List ℕ) → IsInstance groups →
    ((c : ℕ) → c < length groups.rows → parent_of groups.rows c ≡ Some g
    → IsWithinUnder groups c (parts c)) → IsJoined groups g parts
parts-IsJoined groups g parts valid within = record {
  allocation = joined groups.rows valid.tree g parts;
  within = λ c here e. record {
    allots = record {
      one_each = length-joined groups.rows valid.tree g parts;
      at_leaves = λ l below inner. joined_zero groups.rows valid.tree g parts l below
          (λ d there child.
          (within d there (parent_from_is_child groups.rows g d child)).allots.at_leaves l below
          inner);
    };
    demands = λ l below leaf u.
        rw (joined_at groups.rows valid.tree g parts c l here below e u)
        ((within c here e).demands l below leaf u);
    limits = λ h limit below u is.
        rw (total-joined groups.rows valid.tree g parts c h here e u)
        ((within c here e).limits h limit below u is);
  };
  totals = λ c here e. total-joined groups.rows valid.tree g parts c c here e
      (is_under-self groups.rows valid.tree c);
}
