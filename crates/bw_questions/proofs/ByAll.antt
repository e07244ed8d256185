-- Sums over the tasks of two columns, task by task.
use Rattle.std.proofs.Common.{◌≡◌, ℕ, List, length, get_or}
use Rattle.bw_model.proofs.CallerLemmas.{sum_below, sum_by-range}
use Rattle.bw_questions.specs.Hunger.{by_all}

-- the number of a task
abbrev pub each_task : (ℕ → ℕ → ℕ) → List ℕ → List ℕ → ℕ → ℕ
each_task each ran waited k = each (get_or ran k 0) (get_or waited k 0)

pub by_all-is : (each : ℕ → ℕ → ℕ) (ran waited : List ℕ)
    → by_all each ran waited ≡ sum_below (length ran) (each_task each ran waited)
by_all-is each ran waited = sum_by-range (each_task each ran waited) (length ran)
