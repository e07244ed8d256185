-- Weights that are written for limits, in an owner's words.
use Rattle.std.specs.Prelude.{◌≡◌, ℕ, ◌+◌, ◌*◌, ◌≤◌, min}
use Rattle.bw_model.specs.Host.{Shape, IsHost}
use Rattle.bw_questions.specs.Written.{slices_of_tasks, weight_of_limit}

-- A task of this weight has so much of its processor beside a task of weight 100, the usual one:
-- `weight` of `weight + 100` parts. That is the part `amount` of `most`, to a hundredth.
pub record IsNearPart (amount most weight : ℕ) : Type 0 where
  pub no_less : 100 * amount * (weight + 100) ≤ (100 * weight + (weight + 100)) * most
  pub no_more : 100 * weight * most ≤ (100 * amount + most) * (weight + 100)

-- The weight that is written for a limit of a leaf with so many tasks.
pub record WeightsGiveLimits : Type 0 where
  -- it is one that Linux takes
  pub taken : (shape : Shape) (limit tasks : ℕ)
      → (1 ≤ weight_of_limit shape limit tasks) × (weight_of_limit shape limit tasks ≤ 10000)
  -- beside tasks of weight 100 on each processor, the leaf has its limit to a hundredth
  pub near : (shape : Shape) (limit tasks : ℕ) → IsHost shape
      → IsNearPart (min limit (slices_of_tasks shape tasks)) (slices_of_tasks shape tasks)
      (weight_of_limit shape limit tasks)
  -- a limit of 0 has the least weight
  pub least : (shape : Shape) (tasks : ℕ) → IsHost shape → weight_of_limit shape 0 tasks ≡ 1
  -- a limit that allows a whole processor for each task has the greatest
  pub greatest : (shape : Shape) (limit tasks : ℕ) → IsHost shape
      → slices_of_tasks shape tasks ≤ limit → weight_of_limit shape limit tasks ≡ 10000
  -- a greater limit has no smaller weight
  pub rises : (shape : Shape) (limit more tasks : ℕ) → IsHost shape → limit ≤ more
      → weight_of_limit shape limit tasks ≤ weight_of_limit shape more tasks
  -- with more tasks it has no greater one
  pub falls_with_tasks : (shape : Shape) (limit tasks more : ℕ) → IsHost shape → tasks ≤ more
      → weight_of_limit shape limit more ≤ weight_of_limit shape limit tasks
