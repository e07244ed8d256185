-- How many draws a list of calls has.
use Rattle.std.proofs.Common.{◌≡◌, ℕ, ◌+◌, List, [], ◌∷◌, ◌++◌, cond, ap, ◌∙◌, arith}
use Rattle.bw_pool.specs.Drained.{PoolEntry}
use Rattle.bw_workers.specs.Rounds.{is_draw, draws_in}
use Rattle.bw_workers.proofs.Rows.{later}

turned : (a : ℕ) → a + 0 ≡ 0 + a
turned a = omega arith

at_end : (es : List PoolEntry) (e : PoolEntry)
    → draws_in (es ++ e ∷ []) ≡ draws_in es + cond {A = ℕ} (is_draw e.call) 1 0
at_end [] e = turned (cond {A = ℕ} (is_draw e.call) 1 0)
at_end (x ∷ xs) e = later (cond {A = ℕ} (is_draw x.call) 1 0) (draws_in (xs ++ e ∷ []))
    (draws_in xs) (cond {A = ℕ} (is_draw e.call) 1 0) (at_end xs e)

-- one call more
pub draws_more : (es es' : List PoolEntry) (e : PoolEntry) → es' ≡ es ++ e ∷ []
    → draws_in es' ≡ draws_in es + cond {A = ℕ} (is_draw e.call) 1 0
draws_more es es' e h = ap draws_in h ∙ at_end es e
