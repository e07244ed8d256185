-- The order of a worker's draws: a slice of each leaf in row order, round and round.
use Rattle.std.specs.Prelude.{◌≡◌, ℕ, zero, suc, ◌+◌, List, [], ◌∷◌, ◌++◌, length, Bool, true}
use Rattle.std.specs.Prelude.{false}
use Rattle.std.specs.Prelude.{Option, None, Some, if◌then◌else◌}
use Rattle.bw_model.specs.declared.row.Row.{Row}
use Rattle.bw_model.specs.Groups.{is_leaf}
use Rattle.bw_pool.specs.declared.calls.PoolCall.{PoolCall}
use Rattle.bw_pool.specs.declared.calls.PoolCall.TheVariants.{Draw, GiveBack, Lower, Look}
use Rattle.bw_pool.specs.Drained.{PoolEntry, got_one}

-- the leaves among the first rows, in row order
abbrev pub leaves_below : List Row → ℕ → List ℕ
leaves_below rows zero = []
leaves_below rows (suc g) = leaves_below rows g ++ (if is_leaf rows g then g ∷ [] else [])

-- all leaves, in row order
abbrev pub leaves_in : List Row → List ℕ
leaves_in rows = leaves_below rows (length rows)

-- whether the call is a draw
abbrev pub is_draw : PoolCall → Bool
is_draw (Draw leaf ask) = true
is_draw (GiveBack leaf n) = false
is_draw (Lower g to) = false
is_draw (Look g) = false

-- the number of draws among the calls
abbrev pub draws_in : List PoolEntry → ℕ
draws_in [] = 0
draws_in (e ∷ es) = (if is_draw e.call then 1 else 0) + draws_in es

-- the leaf whose slice is given back next, after a draw of it
abbrev pub owed_after : Bool → Bool → ℕ → Option ℕ
owed_after used true leaf = if used then None else Some leaf
owed_after used false leaf = None

-- the leaves that are still asked after a draw of the first one: a leaf whose slice is kept goes
-- behind the others, and one that was short or whose slice goes back is not asked again
abbrev pub asked_after : Bool → Bool → ℕ → List ℕ → List ℕ
asked_after used true leaf others = if used then others ++ leaf ∷ [] else others
asked_after used false leaf others = others

-- from here on the worker gives back what it owes, and else draws one slice of the first leaf that
-- is still asked
abbrev pub InRounds : (ℕ → Bool) → Option ℕ → List ℕ → List PoolEntry → Type 0
InRounds uses owed leaves [] = Unit {0}
InRounds uses (Some leaf) leaves (e ∷ es) =
    (e.call ≡ GiveBack leaf 1) × InRounds uses None leaves es
InRounds uses None [] (e ∷ es) = ⊥
InRounds uses None (leaf ∷ others) (e ∷ es) = (e.call ≡ Draw leaf 1)
    × InRounds uses (owed_after (uses leaf) (got_one e.reply) leaf)
    (asked_after (uses leaf) (got_one e.reply) leaf others) es
