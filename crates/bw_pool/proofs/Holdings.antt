-- What seats hold, added up by seat and by leaf, and what one change of a holding does to it.
use Rattle.std.proofs.Common.{◌≡◌, ◌≢◌, ℕ, suc, ◌+◌, ◌*◌, ◌<◌, ◌≤◌, List, length, inl, inr, get_or}
use Rattle.std.proofs.Common.{set, sym, ap, arith, get_or-set_same, get_or-set_other}
use Rattle.std.proofs.lemmas.Bool.{cases_lt}
use Rattle.std.proofs.lemmas.Bool.Decides.{eqb_tells}
use Rattle.std.proofs.Math.Nat.{mul-le-mul_right}
use Rattle.bw_model.proofs.CallerLemmas.{sum_below-change, sum_below, sum_below-ap, sum_by-range}
use Rattle.bw_pool.specs.Pool.{PoolState, held_of_seat, held_of_leaf}

-- two places of different seats differ
pub place_differs : (p q n l l' : ℕ) → q ≢ p → l < n → l' < n → q * n + l' ≢ p * n + l
place_differs p q n l l' ne lt lt' e = elim (cases_lt q p) [
  | inl less ↦ let m = mul-le-mul_right {m = suc q} {n = p} n less in
      let s : suc q * n ≡ q * n + n = grind arith in absurd (omega arith)
  | inr more ↦ let less : suc p ≤ q = omega arith in let m =
      mul-le-mul_right {m = suc p} {n = q} n less in let s : suc p * n ≡ p * n + n = grind arith in
      absurd (omega arith)
]

-- two places differ where the leaves do
place_apart : (p q n l l' : ℕ) → l < n → l' < n → l' ≢ l → q * n + l' ≢ p * n + l
place_apart p q n l l' lt lt' ne e = elim (eqb_tells q p) [
  | inl same ↦ let m : q * n ≡ p * n = ap (λ i. i * n) same.1 in absurd (ne (omega (arith, e, m)))
  | inr other ↦ place_differs p q n l l' other.1 lt lt' e
]

pub seat_sum : (s : PoolState) (p : ℕ)
    → held_of_seat s p ≡ sum_below (length s.rows) (λ l. get_or s.held (p * length s.rows + l) 0)
seat_sum s p = sum_by-range (λ l. get_or s.held (p * length s.rows + l) 0) (length s.rows)

pub leaf_sum : (s : PoolState) (l : ℕ)
    → held_of_leaf s l ≡ sum_below s.processors (λ p. get_or s.held (p * length s.rows + l) 0)
leaf_sum s l = sum_by-range (λ p. get_or s.held (p * length s.rows + l) 0) s.processors

-- a holding of n rows for each seat changes to v, that of one leaf by one seat
module _ (n : ℕ) (xs : List ℕ) (seat leaf v : ℕ) (ltl : leaf < n) where
  abbrev place : ℕ
  place = seat * n + leaf

  pub seat_other : (p : ℕ) → p ≢ seat → sum_below n (λ l. get_or (set xs place v) (p * n + l) 0)
      ≡ sum_below n (λ l. get_or xs (p * n + l) 0)
  seat_other p ne =
      sum_below-ap n (λ l. get_or (set xs place v) (p * n + l) 0) (λ l. get_or xs (p * n + l) 0)
      (λ l lt. get_or-set_other xs place (p * n + l) v 0 (place_differs seat p n leaf l ne ltl lt))

  pub leaf_other : (processors l : ℕ) → l < n → l ≢ leaf
      → sum_below processors (λ p. get_or (set xs place v) (p * n + l) 0)
      ≡ sum_below processors (λ p. get_or xs (p * n + l) 0)
  leaf_other processors l lt ne =
      sum_below-ap processors (λ p. get_or (set xs place v) (p * n + l) 0)
      (λ p. get_or xs (p * n + l) 0)
      (λ p ltp. get_or-set_other xs place (p * n + l) v 0 (place_apart seat p n leaf l ltl lt ne))

  module _ (inside : seat * n + leaf < length xs) where
    pub seat_own : sum_below n (λ l. get_or (set xs place v) (seat * n + l) 0) + get_or xs place 0
        ≡ sum_below n (λ l. get_or xs (seat * n + l) 0) + v
    seat_own =
        let change = sum_below-change n leaf (λ l. get_or xs (seat * n + l) 0)
        (λ l. get_or (set xs place v) (seat * n + l) 0) ltl
        (λ k ne. sym (get_or-set_other xs place (seat * n + k) v 0 (λ e. ne (omega (arith, e))))) in
        omega (arith, change, get_or-set_same xs place v 0 inside)

    pub leaf_own : (processors : ℕ) → seat < processors
        → sum_below processors (λ p. get_or (set xs place v) (p * n + leaf) 0) + get_or xs place 0
        ≡ sum_below processors (λ p. get_or xs (p * n + leaf) 0) + v
    leaf_own processors ltp =
        let change = sum_below-change processors seat (λ p. get_or xs (p * n + leaf) 0)
        (λ p. get_or (set xs place v) (p * n + leaf) 0) ltp
        (λ k ne. sym (get_or-set_other xs place (k * n + leaf) v 0
        (place_differs seat k n leaf leaf ne ltl ltl))) in
        omega (arith, change, get_or-set_same xs place v 0 inside)
