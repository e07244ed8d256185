-- Workers that drain the pool: each draws slices one by one until its processor is spent or no leaf
-- has more for it,
-- and gives back at once what it got of a leaf whose slices aren't used.
use Rattle.std.specs.Prelude.{◌≡◌, ℕ, ◌+◌, ◌-◌, ◌*◌, ◌==◌, ◌<◌, ◌≤◌, ◌⊎◌, List}
use Rattle.std.specs.Prelude.{[], ◌∷◌, length, Bool, true, false, Option, None, Some, slice_index}
use Rattle.std.specs.Prelude.{if◌then◌else◌}
use Rattle.std.specs.List.{list_any}
use Rattle.bw_machine.specs.declared.history.Entry.{Entry}
use Rattle.bw_machine.specs.History.{replay, IsLegal, own}
use Rattle.bw_model.specs.declared.row.Row.{Row}
use Rattle.bw_model.specs.Groups.{Groups, IsInstance, AreTreeRows, is_leaf, sum_of_children}
use Rattle.bw_model.specs.Host.{slices_per_processor}
use Rattle.bw_model.specs.Plan.{IsPlan}
use Rattle.bw_pool.specs.declared.calls.PoolCall.{PoolCall}
use Rattle.bw_pool.specs.declared.calls.PoolCall.TheVariants.{Draw, GiveBack, Lower, Look}
use Rattle.bw_pool.specs.declared.calls.PoolReply.{PoolReply}
use Rattle.bw_pool.specs.declared.calls.PoolReply.TheVariants.{Granted, Returned, NotHeld, Lowered}
use Rattle.bw_pool.specs.declared.calls.PoolReply.TheVariants.{Drawn, Refused}
use Rattle.bw_pool.specs.Pool.{PoolState, new_pool, after, answer}

-- an entry of the pool's history
abbrev pub PoolEntry : Type 0
PoolEntry = Entry PoolCall PoolReply

-- whether x is in the list
abbrev pub among : ℕ → List ℕ → Bool
among x xs = list_any (λ y. y == x) xs

-- whether the call only looks
abbrev pub is_look : PoolCall → Bool
is_look (Draw leaf ask) = false
is_look (GiveBack leaf n) = false
is_look (Lower g to) = false
is_look (Look g) = true

-- the entries of other calls
abbrev pub without_looks : List PoolEntry → List PoolEntry
without_looks [] = []
without_looks (e ∷ es) = if is_look e.call then without_looks es else e ∷ without_looks es

-- the knowledge that a worker has from its own calls
pub record Worker : Type 0 where
  pub kept : ℕ  -- the slices that it got and didn't give back
  pub owes : Option ℕ  -- the leaf whose slice it has to give back next
  pub short : List ℕ  -- the leaves that answered less than was asked
  pub returned : List ℕ  -- the leaves of which a slice was given back

-- a worker that has made no call
abbrev pub fresh : Worker
fresh = record { kept = 0; owes = None; short = []; returned = [] }

-- whether the reply grants one slice
abbrev pub got_one : PoolReply → Bool
got_one (Granted got short) = got == 1
got_one Returned = false
got_one (NotHeld held) = false
got_one (Lowered ceiling) = false
got_one (Drawn n ceiling) = false
got_one (Refused r) = false

-- the worker after the reply to its draw of 1 from a leaf that is used, or isn't
abbrev pub drawn_one : Worker → ℕ → Bool → Bool → Worker
drawn_one w leaf used true = record w { kept = w.kept + 1; owes = if used then None else Some leaf }
drawn_one w leaf used false = record w { short = leaf ∷ w.short }

-- the worker after it gave one slice of a leaf back
abbrev pub returned_one : Worker → ℕ → Worker
returned_one w leaf = record w { kept = w.kept - 1; owes = None; returned = leaf ∷ w.returned }

-- the call may come next: a slice that is owed is given back, and else one slice is drawn of a leaf
-- of which none was given back
abbrev pub MayCall : List Row → Worker → Option ℕ → PoolCall → Type 0
MayCall rows w None (Draw leaf ask) =
    (ask ≡ 1) × (leaf < length rows) × (is_leaf rows leaf ≡ true) × (among leaf w.returned ≡ false)
MayCall rows w (Some owed) (GiveBack leaf n) = (n ≡ 1) × (leaf ≡ owed)
MayCall rows w None (GiveBack leaf n) = ⊥
MayCall rows w None (Lower g to) = ⊥
MayCall rows w None (Look g) = ⊥
MayCall rows w (Some owed) (Draw leaf ask) = ⊥
MayCall rows w (Some owed) (Lower g to) = ⊥
MayCall rows w (Some owed) (Look g) = ⊥

-- the worker after a call and its reply
abbrev pub worker_after : (ℕ → Bool) → Worker → PoolCall → PoolReply → Worker
worker_after uses w (Draw leaf ask) reply = drawn_one w leaf (uses leaf) (got_one reply)
worker_after uses w (GiveBack leaf n) reply = returned_one w leaf
worker_after uses w (Lower g to) reply = w
worker_after uses w (Look g) reply = w

-- the worker ends: it owes nothing, and its processor is spent or each leaf answered short or was
-- given back
pub record IsAtEnd (rows : List Row) (per_processor : ℕ) (w : Worker) : Type 0 where
  pub none_owed : w.owes ≡ None
  pub spent_or_no_leaf : (w.kept ≡ per_processor)
      ⊎ ((leaf : ℕ) → leaf < length rows → is_leaf rows leaf ≡ true
      → (among leaf w.short ≡ true) ⊎ (among leaf w.returned ≡ true))

-- from here on the worker makes these calls, gets these replies, and ends drained
abbrev pub Drains : (ℕ → Bool) → List Row → ℕ → Worker → List PoolEntry → Type 0
Drains uses rows per_processor w [] = IsAtEnd rows per_processor w
Drains uses rows per_processor w (e ∷ es) =
    MayCall rows w w.owes e.call
    × Drains uses rows per_processor (worker_after uses w e.call e.reply) es

-- amounts as a plan has them: each inner amount is the sum of its children's, and the root's is at
-- most what all processors have
pub record IsPlanned (processors per_processor : ℕ) (rows : List Row) (amounts : List ℕ)
    : Type 0 where
  pub tree : AreTreeRows rows
  pub one_each : length amounts ≡ length rows
  pub inner : (g : ℕ) → g < length rows → is_leaf rows g ≡ false
      → sum_of_children rows amounts g ≡ slice_index amounts g
  pub root : slice_index amounts 0 ≤ processors * per_processor

-- each processor has one drained worker, whatever it looked at, and no other seat calls but to look
pub record AreDrained (uses : ℕ → Bool) (processors per_processor : ℕ) (rows : List Row)
    (history : List PoolEntry) : Type 0 where
  pub workers : (p : ℕ) → p < processors
      → Drains uses rows per_processor fresh (without_looks (own p history))
  pub others : (p : ℕ) → processors ≤ p → without_looks (own p history) ≡ []

-- the slices drawn in the end: the amount at a leaf that is used, none at another leaf, and at an
-- inner group its children's sum
pub record IsDrawnOut (uses : ℕ → Bool) (rows : List Row) (amounts drawn : List ℕ) : Type 0 where
  pub one_each : length drawn ≡ length rows
  pub used : (g : ℕ) → g < length rows → is_leaf rows g ≡ true → uses g ≡ true
      → slice_index drawn g ≡ slice_index amounts g
  pub unused : (g : ℕ) → g < length rows → is_leaf rows g ≡ true → uses g ≡ false
      → slice_index drawn g ≡ 0
  pub inner : (g : ℕ) → g < length rows → is_leaf rows g ≡ false
      → slice_index drawn g ≡ sum_of_children rows drawn g

-- in every schedule, drained workers leave the same drawn amounts
abbrev pub DrainedWorkersDrawTheAmounts : Type 0
DrainedWorkersDrawTheAmounts =
    (uses : ℕ → Bool) (processors per_processor : ℕ) (rows : List Row) (amounts : List ℕ)
    (history : List PoolEntry)
    → IsPlanned processors per_processor rows amounts
    → IsLegal after answer (new_pool processors per_processor rows amounts) history
    → AreDrained uses processors per_processor rows history
    → IsDrawnOut uses rows amounts
    (replay after (new_pool processors per_processor rows amounts) history).drawn

-- a new pool of a host's groups, with the amounts as ceilings
abbrev pub opening : Groups → List ℕ → PoolState
opening groups amounts =
    new_pool groups.shape.processors (slices_per_processor groups.shape) groups.rows amounts

-- drained workers of a pool that opened with a plan draw the plan at the leaves that are used
abbrev pub DrainedWorkersDrawThePlan : Type 0
DrainedWorkersDrawThePlan =
    (uses : ℕ → Bool) (groups : Groups) (amounts : List ℕ) (history : List PoolEntry)
    → IsInstance groups → IsPlan groups amounts
    → IsLegal after answer (opening groups amounts) history
    → AreDrained uses groups.shape.processors (slices_per_processor groups.shape) groups.rows
    history
    → IsDrawnOut uses groups.rows amounts (replay after (opening groups amounts) history).drawn
