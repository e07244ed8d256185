-- A cut of the maxima at the amount changes no split.
use Rattle.std.proofs.Common.{◌≡◌, ℕ, suc, ◌<◌, ◌≤◌, List, [], ◌∷◌, length, get_or, refl, sym, ◌∙◌}
use Rattle.std.proofs.Common.{arith}
use Rattle.std.specs.Prelude.{sum, min}
use Rattle.std.proofs.lemmas.List.{length-map}
use Rattle.std.proofs.lemmas.List.Sums.{get_or-le-sum_by}
use Rattle.bw_model.specs.Split.{IsSplit, IsBestSplit}
use Rattle.bw_model.proofs.CallerLemmas.{get_or-map, sum-cons}
use Rattle.bw_split.specs.Conditions.{CanSplit, cut_at}

length-cut : (bound : ℕ) (xs : List ℕ) → length (cut_at bound xs) ≡ length xs
length-cut bound xs = length-map xs (λ n. min n bound)

at-cut : (bound : ℕ) (xs : List ℕ) (k : ℕ) → k < length xs
    → get_or (cut_at bound xs) k 0 ≡ min (get_or xs k 0) bound
at-cut bound xs k below = get_or-map (λ n. min n bound) xs k below

-- what the maxima can take of an amount, they can take when they are cut at it
sum-cut : (amount : ℕ) (xs : List ℕ) → min (sum xs) amount ≤ sum (cut_at amount xs)
sum-cut amount [] = omega arith
sum-cut amount (x ∷ xs) = rw (sum-cons x xs, sum-cons (min x amount) (cut_at amount xs))
    (let rest : min (sum xs) amount ≤ sum (cut_at amount xs) = sum-cut amount xs in
    omega (arith, rest))

-- no number is above the bound
pub cut-none : (bound : ℕ) (xs : List ℕ) → ((k : ℕ) → k < length xs → get_or xs k 0 ≤ bound)
    → cut_at bound xs ≡ xs
cut-none bound [] small = refl
cut-none bound (x ∷ xs) small =
    let head : min x bound ≡ x = omega (arith, small 0 (omega arith)) in
    let rest : cut_at bound xs ≡ xs = cut-none bound xs (λ k below. small (suc k) (omega arith)) in
    cc

pub cut-CanSplit : (amount : ℕ) (weights most : List ℕ) → CanSplit amount weights most
    → CanSplit amount weights (cut_at amount most)
cut-CanSplit amount weights most can = record {
  one_each = length-cut amount most ∙ can.one_each;
  few = can.few;
  weights_in_range = can.weights_in_range;
  enough = omega (arith, can.enough, sum-cut amount most);
  small = can.small;
}

-- a part is at most the amount
from-cut : (amount : ℕ) (most parts : List ℕ) → IsSplit amount (cut_at amount most) parts
    → IsSplit amount most parts
from-cut amount most parts split = record {
  lengths = split.lengths ∙ length-cut amount most;
  whole = split.whole;
  within = λ k below. omega (
    arith,
    split.within k below,
    at-cut amount most k (omega (arith, below, split.lengths, length-cut amount most)),
  );
}

to-cut : (amount : ℕ) (most parts : List ℕ) → IsSplit amount most parts
    → IsSplit amount (cut_at amount most) parts
to-cut amount most parts split = record {
  lengths = split.lengths ∙ sym (length-cut amount most);
  whole = split.whole;
  within = λ k below. omega (
    arith,
    split.within k below,
    split.whole,
    get_or-le-sum_by (λ n. n) parts k 0 below,
    at-cut amount most k (omega (arith, below, split.lengths)),
  );
}

pub cut-IsBestSplit : (amount : ℕ) (weights most parts : List ℕ)
    → IsBestSplit amount weights (cut_at amount most) parts → IsBestSplit amount weights most parts
cut-IsBestSplit amount weights most parts best = record {
  split = from-cut amount most parts best.split;
  best = λ others split. best.best others (to-cut amount most others split);
}
