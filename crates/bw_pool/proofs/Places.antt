-- What the code reads at a seat's places in the lists of a pool.
use Rattle.std.proofs.Common.{◌≡◌, ℕ, ◌+◌, ◌*◌, ◌<◌, length, get_or, ap, ◌∙◌, arith}
use Rattle.bw_model.proofs.CallerLemmas.{get_or_within}
use Rattle.bw_pool.specs.Pool.{PoolState, IsSound, held_place}
use Rattle.bw_pool.proofs.PoolSound.{place_in}

-- the slices of a seat's processor
pub counted_in : (s : PoolState) (seat x : ℕ) → IsSound s → seat < s.processors
    → x ≡ get_or s.by_processor seat x → x ≡ get_or s.by_processor seat 0
counted_in s seat x ok lt read =
    read ∙ get_or_within s.by_processor seat x (omega (arith, ok.by_processor, lt))

-- the place of a seat's holding of a leaf, by the number of parents
pub place_by : (s : PoolState) (seat leaf n : ℕ) → n ≡ length s.rows
    → seat * n + leaf ≡ held_place s seat leaf
place_by s seat leaf n many = ap (λ k. seat * k + leaf) many

-- a seat's holding of a leaf
pub holding_in : (s : PoolState) (seat leaf place x : ℕ) → IsSound s → seat < s.processors
    → leaf < length s.rows → place ≡ held_place s seat leaf → x ≡ get_or s.held place x
    → x ≡ get_or s.held (held_place s seat leaf) 0
holding_in s seat leaf place x ok lt below at read =
    read ∙ (ap (λ k. get_or s.held k x) at
    ∙ get_or_within s.held (held_place s seat leaf) x (place_in s seat leaf ok lt below))
