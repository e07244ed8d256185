-- Amounts and limits of a round for a scheduler: one of each for each row.
use Rattle.std.specs.Prelude.{◌≡◌, ℕ, ◌*◌, ◌/◌, ◌<◌, ◌≤◌, ◌==◌, ◌||◌, ◌&&◌, not, List, Bool, true}
use Rattle.std.specs.Prelude.{false, Option, None, Some, length, map, min, max, slice_index, IsTrue}
use Rattle.std.specs.Prelude.{nat_lt, sum, if◌then◌else◌}
use Rattle.std.specs.List.{range_with_len}
use Rattle.bw_model.specs.declared.row.Row.{Row}
use Rattle.bw_model.specs.Groups.{Groups, IsInstance, row_of, is_leaf, is_under}
use Rattle.bw_questions.specs.Guarantee.{IsGuaranteed}
use Rattle.bw_questions.specs.HeldRule.{IsRound, is_hungry, own_limit, leaf_limit}
use Rattle.bw_questions.specs.Reading.{IsSameButDemands, limit_at}

-- The floors of a round are what the rows get where each leaf asks for everything.

-- the amount of a leaf that the plan gives no less than its floor, 0 of any other row
abbrev pub full_amount : List Row → List ℕ → List ℕ → List ℕ → ℕ → ℕ
full_amount rows floors planned amounts g =
    if is_leaf rows g && not (nat_lt (slice_index planned g) (slice_index floors g))
    then slice_index amounts g else 0

-- the amounts of such leaves, added up
abbrev pub sum_of_full : List Row → List ℕ → List ℕ → List ℕ → ℕ
sum_of_full rows floors planned amounts =
    sum (map (full_amount rows floors planned amounts) (range_with_len 0 (length rows)))

-- A floor beside leaves that are planned more than theirs in all: it is as many times as much.
abbrev pub beside : ℕ → ℕ → ℕ → ℕ
beside theirs given floor = if theirs == 0 then floor else floor * max theirs given / theirs

-- The amount of a row: its plan, or if its floor is more, its floor beside the leaves that are
-- planned no less than theirs.
abbrev pub served_amount : ℕ → ℕ → ℕ → ℕ → ℕ
served_amount theirs given floor amount =
    if nat_lt amount floor then beside theirs given floor else amount

-- the amount of a row among some rows
abbrev pub amount_in : List Row → List ℕ → List ℕ → ℕ → ℕ
amount_in rows floors planned g =
    served_amount (sum_of_full rows floors planned floors) (sum_of_full rows floors planned planned)
    (slice_index floors g) (slice_index planned g)

-- The part that a leaf has of a limit at or above it, and never more than the limit. In a calm
-- round, and where the plan gives the row of the limit nothing, it is all of it. Else it is the
-- part that the leaf has of that row's plan, or its limit of the round if that is more.
abbrev pub part_of : Bool → ℕ → ℕ → ℕ → ℕ → ℕ
part_of calm limit above amount held =
    if calm || above == 0 then limit else min limit (max (limit * amount / above) held)

-- the lesser of two parts, of which there may be none
abbrev pub lesser : Option ℕ → Option ℕ → Option ℕ
lesser None other = other
lesser (Some one) None = Some one
lesser (Some one) (Some other) = Some (min one other)

-- the part that leaf l has of the limit of row a
abbrev pub part_at : Groups → List Bool → Bool → List ℕ → List ℕ → ℕ → ℕ → ℕ → ℕ
part_at used hungry calm floors planned l a limit =
    part_of calm limit (slice_index planned a) (slice_index planned l)
    (leaf_limit (row_of used.rows l) (is_hungry hungry l) (slice_index floors l)
    (slice_index planned l))

-- The least part of a leaf over the limits at or above it, none where no row there has a limit.
pub record IsLeastPart (rows : List Row) (part : ℕ → ℕ → ℕ) (leaf : ℕ) (found : Option ℕ) : Type 0
  where
    pub none_less : (a limit : ℕ) → IsTrue (is_under rows a leaf)
        → own_limit rows a ≡ Some limit
        → (least : ℕ) × (found ≡ Some least) × (least ≤ part a limit)
    pub is_one : (least : ℕ) → found ≡ Some least
        → (a : ℕ) × (limit : ℕ) × IsTrue (is_under rows a leaf)
        × (own_limit rows a ≡ Some limit) × (part a limit ≡ least)

-- The limit that a row is given: a leaf's is its least part, that of another row its own.
pub record IsServedLimit (used : Groups) (hungry : List Bool) (calm : Bool)
    (floors planned : List ℕ) (g : ℕ) (limit : Option ℕ) : Type 0 where
  pub of_leaf : is_leaf used.rows g ≡ true
      → IsLeastPart used.rows (part_at used hungry calm floors planned g) g limit
  pub of_others : is_leaf used.rows g ≡ false → limit ≡ own_limit used.rows g

-- The amounts and limits that a scheduler is given for a round by the rule.
pub record IsServedRound (used : Groups) (hungry : List Bool) (amounts : List ℕ)
    (limits : List (Option ℕ)) : Type 0 where
  pub demands : List ℕ
  pub planned : List ℕ
  pub held : List (Option ℕ)
  pub round : IsRound used hungry demands planned held
  pub amounts_are : amounts
      ≡ map (amount_in used.rows round.floors planned) (range_with_len 0 (length used.rows))
  pub one_each : length limits ≡ length used.rows
  pub limits_are : (g : ℕ) → g < length used.rows
      → IsServedLimit used hungry round.calm round.floors planned g (limit_at limits g)

-- No leaf is given a limit above one that it or a group above it has of its own.
abbrev pub NoneServedAboveALimit : Type 0
NoneServedAboveALimit = (used : Groups) (hungry : List Bool) (amounts : List ℕ)
    (limits : List (Option ℕ)) (leaf above own : ℕ)
    → IsServedRound used hungry amounts limits
    → leaf < length used.rows → is_leaf used.rows leaf ≡ true
    → IsTrue (is_under used.rows above leaf) → own_limit used.rows above ≡ Some own
    → (limit : ℕ) × (limit_at limits leaf ≡ Some limit) × (limit ≤ own)

-- Whatever was read, a leaf is given an amount of at least its plan of the round, and of at least
-- its guarantee of what it wants.
abbrev pub NoneServedBelowItsGuarantee : Type 0
NoneServedBelowItsGuarantee = (used wants : Groups) (hungry : List Bool) (amounts : List ℕ)
    (limits : List (Option ℕ)) (leaf guaranteed : ℕ)
    → IsInstance used → (served : IsServedRound used hungry amounts limits)
    → IsInstance wants → IsSameButDemands wants used
    → leaf < length wants.rows → is_leaf wants.rows leaf ≡ true
    → IsGuaranteed wants leaf guaranteed
    → (slice_index served.planned leaf ≤ slice_index amounts leaf)
    × (guaranteed ≤ slice_index amounts leaf)
