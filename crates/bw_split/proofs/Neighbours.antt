-- One slice moved between siblings: no such move gains in the best split, and a split in which none
-- gains is best.
use Rattle.std.proofs.Common.{◌≡◌, ℕ, zero, suc, ◌+◌, ◌-◌, ◌*◌, ◌<◌, ◌≤◌, List, Option, None}
use Rattle.std.proofs.Common.{Some, length, get_or, sym, ◌∙◌, arith, inl, inr}
use Rattle.std.proofs.lemmas.Bool.{cases_lt}
use Rattle.bw_model.specs.Marks.{last_mark, next_mark, IsBelow}
use Rattle.bw_model.specs.Split.{IsBestSplit}
use Rattle.bw_model.proofs.CallerLemmas.{level-IsBestSplit, none-IsAtLevel, move-marks-apart}
use Rattle.bw_model.proofs.CallerLemmas.{moved-IsSplit}
use Rattle.bw_split.specs.OneSlice.{moved, NoMoveGains, UnmovedIsBest, BestIsUnmoved}
use Rattle.bw_split.proofs.LastMarks.{LastOf, last_kept, last_first, last_taken, last_stays}

-- the last mark of the parts that is above no other, or no part is above 0
module _ (weights parts : List ℕ) (same_length : length weights ≡ length parts)
    (weights_pos : (k : ℕ) → k < length weights → 0 < get_or weights k 0) where
  last_of : (i : ℕ) → i ≤ length parts → (best : Option ℕ) × LastOf weights parts i best
  last_of zero le = (None, λ k lt. absurd (omega arith))
  last_of (suc i) le =
      let so_far : (best : Option ℕ) × LastOf weights parts i best = last_of i (omega arith) in
      more so_far.0 so_far.1
    where
      pos : (k : ℕ) → k < i + 1 → 0 < get_or weights k 0
      pos k lt = weights_pos k (omega (arith, same_length))

      at_next : (best : Option ℕ) → LastOf weights parts (i + 1) best
          → LastOf weights parts (suc i) best
      at_next best b = let n : i + 1 ≡ suc i = omega arith in rw n at b

      more : (best : Option ℕ) → LastOf weights parts i best
          → (best : Option ℕ) × LastOf weights parts (suc i) best
      more best b = elim (cases_lt 0 (get_or parts i 0)) [
        | inr none' ↦
            (best, at_next best (last_kept weights parts i pos best b (omega (arith, none'))))
        | inl some' ↦
            (elim best as (λ o. LastOf weights parts i o
            → (next : Option ℕ) × LastOf weights parts (suc i) next) [
              | None ↦ λ n. (Some i, at_next (Some i) (last_first weights parts i pos n some'))
              | Some b' ↦ λ s.
                  elim (cases_lt ((2 * get_or parts i 0 - 1) * get_or weights b' 0)
                  ((2 * get_or parts b' 0 - 1) * get_or weights i 0)) [
                    | inl cheaper ↦
                        (Some b', at_next (Some b') (last_stays weights parts i pos b' s cheaper))
                    | inr dearer ↦ (
                      Some i,
                      at_next (Some i)
                          (last_taken weights parts i pos b' s some' dearer),
                    )
                  ]
            ]) b
      ]

-- where no move gains, each next mark of a part with room is above each last mark
next_above : (weights most parts : List ℕ) → length weights ≡ length parts
    → ((k : ℕ) → k < length weights → 0 < get_or weights k 0) →
    NoMoveGains weights most parts → (i j : ℕ) → i < length parts → j < length parts
    → 0 < get_or parts i 0 → get_or parts j 0 < get_or most j 0 →
    IsBelow (last_mark (get_or parts i 0) (get_or weights i 0) i)
    (next_mark (get_or parts j 0) (get_or weights j 0) j)
next_above weights most parts same_length weights_pos unmoved i j i_in j_in some' room =
    move-marks-apart weights parts same_length weights_pos i j i_in j_in some'
    (λ apart. unmoved i j i_in j_in apart some' room)

pub unmoved_is_best : UnmovedIsBest
unmoved_is_best amount weights most parts each weights_pos split unmoved =
    let same_length : length weights ≡ length parts = each ∙ sym split.lengths in
    let last : (best : Option ℕ) × LastOf weights parts (length parts) best =
    last_of weights parts same_length weights_pos (length parts) (omega arith) in
    by_last same_length last.0 last.1
  where
    by_last : length weights ≡ length parts → (best : Option ℕ)
        → LastOf weights parts (length parts) best → IsBestSplit amount weights most parts
    by_last same_length None none' =
        level-IsBestSplit (record { num = 0; den = 1; place = 0 }) weights most parts (omega arith)
        same_length
        (λ k below. weights_pos k (omega (arith, same_length)))
        (none-IsAtLevel weights most parts none') amount split
    by_last same_length (Some b) s =
        level-IsBestSplit (last_mark (get_or parts b 0) (get_or weights b 0) b) weights most parts
        (weights_pos b (omega (arith, same_length, s.seen))) same_length
        (λ k below. weights_pos k (omega (arith, same_length)))
        (record {
          last = s.others;
          next = λ j below room. next_above weights most parts same_length weights_pos unmoved b j
              s.seen below s.some room;
        }) amount split

pub best_is_unmoved : BestIsUnmoved
best_is_unmoved amount weights most parts best i j i_in j_in apart some' room =
    best.best (moved parts i j)
    (moved-IsSplit parts i j (get_or parts i 0 - 1) (get_or parts j 0 + 1) i_in j_in apart
    (omega (arith, some')) (omega arith) amount most best.split room)
