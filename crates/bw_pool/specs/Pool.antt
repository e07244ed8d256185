-- The pool: what is drawn per group and per processor, up to which ceilings, and what each seat
-- holds of each leaf.
-- The number of a seat is that of its processor.
use Rattle.std.specs.Prelude.{◌≡◌, ℕ, ◌+◌, ◌-◌, ◌*◌, ◌==◌, ◌≤◌, nat_lt, nat_le, min, max, List, []}
use Rattle.std.specs.Prelude.{◌∷◌, length, sum_by, replicate, true, false, ◌&&◌, ◌<◌, Option, None}
use Rattle.std.specs.Prelude.{Some, slice_index, slice_set, if◌then◌else◌}
use Rattle.std.specs.List.{range_with_len, AllByRecursion}
use Rattle.bw_machine.specs.declared.history.Entry.{Entry}
use Rattle.bw_machine.specs.History.{replay}
use Rattle.bw_model.specs.declared.row.Row.{Row}
use Rattle.bw_model.specs.declared.limits.TheConstants.{MAX_GROUPS, MAX_PROCESSORS}
use Rattle.bw_model.specs.declared.limits.TheConstants.{MAX_PER_PROCESSOR}
use Rattle.bw_model.specs.Groups.{AreTreeRows, path_up, is_leaf, sum_of_children}
use Rattle.bw_pool.specs.declared.calls.PoolCall.{PoolCall}
use Rattle.bw_pool.specs.declared.calls.PoolCall.TheVariants.{Draw, GiveBack, Lower, Look}
use Rattle.bw_pool.specs.declared.calls.PoolReply.{PoolReply}
use Rattle.bw_pool.specs.declared.calls.PoolReply.TheVariants.{Granted, Returned, NotHeld, Lowered}
use Rattle.bw_pool.specs.declared.calls.PoolReply.TheVariants.{Drawn, Refused}
use Rattle.bw_pool.specs.declared.calls.Refusal.{Refusal}
use Rattle.bw_pool.specs.declared.calls.Refusal.TheVariants.{NoProcessor, NoGroup, NotLeaf, ZeroAsk}
use Rattle.bw_pool.specs.declared.calls.Short.{Short}
use Rattle.bw_pool.specs.declared.calls.Short.TheVariants.{Group, Processor}

-- the pool of one period, in slices
pub record PoolState : Type 0 where
  pub processors : ℕ
  pub per_processor : ℕ  -- the slices of one period on one processor
  pub rows : List Row
  pub drawn : List ℕ  -- per group
  pub ceiling : List ℕ  -- per group
  pub by_processor : List ℕ
  pub held : List ℕ  -- seat after seat, one place for each group

-- a new pool: nothing is drawn or held, and the amounts are the ceilings
abbrev pub new_pool : ℕ → ℕ → List Row → List ℕ → PoolState
new_pool processors per_processor rows amounts = record {
  processors = processors;
  per_processor = per_processor;
  rows = rows;
  drawn = replicate (length rows) 0;
  ceiling = amounts;
  by_processor = replicate processors 0;
  held = replicate (processors * length rows) 0;
}

-- the slices of the period that a group has left: its ceiling less the drawn ones
abbrev pub left_at : PoolState → ℕ → ℕ
left_at s g = slice_index s.ceiling g - slice_index s.drawn g

-- the slices of the period that a processor has left
abbrev pub processor_left : PoolState → ℕ → ℕ
processor_left s p = s.per_processor - slice_index s.by_processor p

-- the place of a seat's holding of a leaf
abbrev pub held_place : PoolState → ℕ → ℕ → ℕ
held_place s seat leaf = seat * length s.rows + leaf

-- the slices that a seat holds of a leaf: 0 if there is no such seat or row
abbrev pub held_by : PoolState → ℕ → ℕ → ℕ
held_by s seat leaf = if nat_lt seat s.processors && nat_lt leaf (length s.rows)
    then slice_index s.held (held_place s seat leaf) else 0

-- the least of the bound and of f at each group
abbrev pub least : (ℕ → ℕ) → List ℕ → ℕ → ℕ
least f [] bound = bound
least f (g ∷ gs) bound = least f gs (min bound (f g))

-- the values with n more at each of the groups
abbrev pub raised : List ℕ → ℕ → List ℕ → List ℕ
raised [] n values = values
raised (g ∷ gs) n values = raised gs n (slice_set values g (slice_index values g + n))

-- the values with n less at each of the groups
abbrev pub lowered : List ℕ → ℕ → List ℕ → List ℕ
lowered [] n values = values
lowered (g ∷ gs) n values = lowered gs n (slice_set values g (slice_index values g - n))

-- the least of ask, of what is left at the leaf and at each ancestor, and of what the processor has
-- left
abbrev pub got_of : PoolState → ℕ → ℕ → ℕ → ℕ
got_of s seat leaf ask = least (left_at s) (path_up s.rows leaf) (min ask (processor_left s seat))

-- the first of the groups that has exactly this left, else the processor
abbrev pub first_with : (ℕ → ℕ) → ℕ → List ℕ → Short
first_with f got [] = Processor
first_with f got (g ∷ gs) = if f g == got then Group g else first_with f got gs

-- the group or the processor that kept a draw below the slices asked, if one did
abbrev pub short_of : PoolState → ℕ → ℕ → ℕ → Option Short
short_of s leaf ask got = if got == ask then None
    else Some (first_with (left_at s) got (path_up s.rows leaf))

-- the refusal of a call that names a group
abbrev pub group_refusal : PoolState → ℕ → Option Refusal
group_refusal s g = if nat_lt g (length s.rows) then None else Some NoGroup

-- the refusal of a call on a leaf
abbrev pub leaf_refusal : PoolState → ℕ → ℕ → Option Refusal
leaf_refusal s leaf n =
    if nat_lt leaf (length s.rows)
    then (if is_leaf s.rows leaf then (if n == 0 then Some ZeroAsk else None) else Some NotLeaf)
    else Some NoGroup

-- the first reason to refuse the call, if there is one
abbrev pub refusal : PoolState → ℕ → PoolCall → Option Refusal
refusal s seat (Draw leaf ask) =
    if nat_lt seat s.processors then leaf_refusal s leaf ask else Some NoProcessor
refusal s seat (GiveBack leaf n) = leaf_refusal s leaf n
refusal s seat (Lower g to) = group_refusal s g
refusal s seat (Look g) = group_refusal s g

-- n slices are drawn
abbrev pub drew : PoolState → ℕ → ℕ → ℕ → PoolState
drew s seat leaf n = record s {
  drawn = raised (path_up s.rows leaf) n s.drawn;
  by_processor = slice_set s.by_processor seat (slice_index s.by_processor seat + n);
  held = slice_set s.held (held_place s seat leaf)
      (slice_index s.held (held_place s seat leaf) + n);
}

-- n slices are given back
abbrev pub gave_back : PoolState → ℕ → ℕ → ℕ → PoolState
gave_back s seat leaf n = record s {
  drawn = lowered (path_up s.rows leaf) n s.drawn;
  by_processor = slice_set s.by_processor seat (slice_index s.by_processor seat - n);
  held = slice_set s.held (held_place s seat leaf)
      (slice_index s.held (held_place s seat leaf) - n);
}

-- the lowered ceiling, not below what is drawn
abbrev pub lowered_ceiling : PoolState → ℕ → ℕ → ℕ
lowered_ceiling s g to = min (slice_index s.ceiling g) (max to (slice_index s.drawn g))

-- the state after a call that isn't refused
abbrev pub state_after : PoolState → ℕ → PoolCall → PoolState
state_after s seat (Draw leaf ask) = drew s seat leaf (got_of s seat leaf ask)
state_after s seat (GiveBack leaf n) =
    if nat_le n (held_by s seat leaf) then gave_back s seat leaf n else s
state_after s seat (Lower g to) =
    record s { ceiling = slice_set s.ceiling g (lowered_ceiling s g to) }
state_after s seat (Look g) = s

-- the reply to a call that isn't refused
abbrev pub reply_to : PoolState → ℕ → PoolCall → PoolReply
reply_to s seat (Draw leaf ask) =
    Granted (got_of s seat leaf ask) (short_of s leaf ask (got_of s seat leaf ask))
reply_to s seat (GiveBack leaf n) =
    if nat_le n (held_by s seat leaf) then Returned else NotHeld (held_by s seat leaf)
reply_to s seat (Lower g to) = Lowered (lowered_ceiling s g to)
reply_to s seat (Look g) = Drawn (slice_index s.drawn g) (slice_index s.ceiling g)

-- the new state, or the old one where the call is refused
abbrev pub unless_refused : Option Refusal → PoolState → PoolState → PoolState
unless_refused None new old = new
unless_refused (Some r) new old = old

-- the reply, or the refusal where there is one
abbrev pub or_refused : Option Refusal → PoolReply → PoolReply
or_refused None reply = reply
or_refused (Some r) reply = Refused r

-- one step: the pool after a call of a seat
abbrev pub after : PoolState → ℕ → PoolCall → PoolState
after s seat call = unless_refused (refusal s seat call) (state_after s seat call) s

-- the reply to a call of a seat
abbrev pub answer : PoolState → ℕ → PoolCall → PoolReply
answer s seat call = or_refused (refusal s seat call) (reply_to s seat call)

-- the slices that a seat holds of all leaves
abbrev pub held_of_seat : PoolState → ℕ → ℕ
held_of_seat s seat =
    sum_by (λ leaf. slice_index s.held (held_place s seat leaf)) (range_with_len 0 (length s.rows))

-- the slices that all seats hold of a leaf
abbrev pub held_of_leaf : PoolState → ℕ → ℕ
held_of_leaf s leaf =
    sum_by (λ seat. slice_index s.held (held_place s seat leaf)) (range_with_len 0 s.processors)

-- the invariant of every pool: its rows are a tree; there is one place for each row, processor and
-- holding; the drawn slices are within their bounds; and the holdings add up to them, by processor,
-- by leaf and by group
pub record IsSound (s : PoolState) : Type 0 where
  pub tree : AreTreeRows s.rows
  pub few_rows : length s.rows ≤ MAX_GROUPS
  pub few_processors : s.processors ≤ MAX_PROCESSORS
  pub few_slices : s.per_processor ≤ MAX_PER_PROCESSOR
  pub drawn : length s.drawn ≡ length s.rows
  pub ceiling : length s.ceiling ≡ length s.rows
  pub by_processor : length s.by_processor ≡ s.processors
  pub held : length s.held ≡ s.processors * length s.rows
  pub within : (g : ℕ) → slice_index s.drawn g ≤ slice_index s.ceiling g
  pub cap : (p : ℕ) → slice_index s.by_processor p ≤ s.per_processor
  pub by_seat : (p : ℕ) → p < s.processors → slice_index s.by_processor p ≡ held_of_seat s p
  pub by_leaf : (l : ℕ) → l < length s.rows → is_leaf s.rows l ≡ true
      → slice_index s.drawn l ≡ held_of_leaf s l
  pub inner : (g : ℕ) → g < length s.rows → is_leaf s.rows g ≡ false
      → sum_of_children s.rows s.drawn g ≡ slice_index s.drawn g

-- at each group the slices drawn are at most the ceiling, and the ceiling at most the one that the
-- pool opened with
abbrev pub IsWithinCeilings : PoolState → PoolState → Type 0
IsWithinCeilings opened now = (g : ℕ) → (slice_index now.drawn g ≤ slice_index now.ceiling g)
    × (slice_index now.ceiling g ≤ slice_index opened.ceiling g)

-- no call takes a pool past its ceilings
abbrev pub NeverPastThePlan : Type 0
NeverPastThePlan = (s : PoolState) (h : List (Entry PoolCall PoolReply)) → IsSound s
    → IsWithinCeilings s (replay after s h)

-- the holdings add up after any calls
abbrev pub StaysSound : Type 0
StaysSound = (s : PoolState) (h : List (Entry PoolCall PoolReply)) → IsSound s
    → IsSound (replay after s h)

-- the slices that a seat holds of a leaf are drawn at its processor, at the leaf and at each group
-- above, so that giving them back takes no more than there is
abbrev pub CutsNothing : Type 0
CutsNothing = (s : PoolState) (seat leaf n : ℕ) → IsSound s
    → refusal s seat (GiveBack leaf n) ≡ None → n ≤ held_by s seat leaf
    → (n ≤ slice_index s.by_processor seat)
    × AllByRecursion (λ g. n ≤ slice_index s.drawn g) (path_up s.rows leaf)
