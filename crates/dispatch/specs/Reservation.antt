-- The rule of reservations and shares: its state, the events that it allows, and the state after
-- each. A leaf that is owed by its guarantee goes first, by deadlines; else clocks of shares
-- decide.
use Rattle.std.specs.Prelude.{◌≡◌, ℕ, ◌+◌, ◌-◌, ◌*◌, ◌/◌, ◌<◌, ◌≤◌, ◌==◌, ◌||◌, nat_lt, min, max}
use Rattle.std.specs.Prelude.{Bool, true, false}
use Rattle.std.specs.Prelude.{List, [], ◌∷◌, length, get_or, map, Option, None, Some}
use Rattle.std.specs.Prelude.{slice_get, slice_set, if◌then◌else◌}
use Rattle.dispatch.specs.declared.leaves.Leaf.{Leaf}
use Rattle.dispatch.specs.declared.reservation.Account.{Account}
use Rattle.dispatch.specs.declared.reservation.Terms.{Terms}
use Rattle.dispatch.specs.declared.reservation.Run.{Run}
use Rattle.dispatch.specs.declared.reservation.Step.{Step}
use Rattle.dispatch.specs.declared.reservation.Step.TheVariants.{Pass, Wake, Pick, End, Level}
use Rattle.dispatch.specs.declared.reservation.Step.TheVariants.{Give, Leave, Cut, Stop, Refill}
use Rattle.dispatch.specs.Rule.{new_leaf, has_tasks, settled}
use Rattle.dispatch.specs.Rule as shares

-- a whole processor, as a guarantee
abbrev pub WHOLE : ℕ
WHOLE = 1048576

-- slices, quanta, slacks and credits are in nanoseconds; a quantum is a slice with its longest
-- overrun; the level is the clock of all when the plan was made, a charge and an amount
pub record Reservations : Type 0 where
  pub slice : ℕ
  pub quantum : ℕ
  pub slack : ℕ
  pub credit : ℕ
  pub level : ℕ × ℕ
  pub accounts : List Account
  pub processors : List (Option Run)

abbrev pub no_account : Account
no_account = record {
  share = new_leaf 0;
  guarantee = 0;
  owed = 0;
  is_stopped = false;
  is_inside = false;
}

-- the leaf at an index, or one without a guarantee
abbrev pub account_at : Reservations → ℕ → Account
account_at s i = get_or s.accounts i no_account

-- the numbers that the rule goes by
abbrev pub terms_of : Reservations → Terms
terms_of s = record {
  slice = s.slice;
  quantum = s.quantum;
  slack = s.slack;
  credit = s.credit;
  processors = length s.processors;
}

-- the quantum, in 2^-20 ns
abbrev pub quantum_in : Terms → ℕ
quantum_in t = WHOLE * t.quantum

abbrev pub quantum_of : Reservations → ℕ
quantum_of s = WHOLE * s.quantum

-- the number of tasks that wait or run
abbrev pub tasks_of : Account → ℕ
tasks_of a = a.share.waiting + a.share.running

-- the number of tasks that wait, 0 of a leaf that a limit stops
abbrev pub ready_in : Account → ℕ
ready_in a = if a.is_stopped then 0 else a.share.waiting

-- the leaf as a pick and a level see it: tasks that a limit stops do not wait
abbrev pub seen_leaf : Account → Leaf
seen_leaf a = record a.share { waiting = ready_in a }

-- rate of a leaf for each nanosecond: its guarantee, but no more than its tasks could take
abbrev pub rate_of : Account → ℕ
rate_of a = min (tasks_of a * WHOLE) a.guarantee

-- part of a guarantee that is kept while nobody wants it, or a limit stops it
abbrev pub credit_in : Terms → Account → ℕ
credit_in t a = quantum_in t + a.guarantee * t.credit

abbrev pub credit_of : Reservations → Account → ℕ
credit_of s a = credit_in (terms_of s) a

-- the most that a leaf is owed; what is owed beyond is forgotten
abbrev pub most_in : Terms → Account → ℕ
most_in t a = 2 * t.processors * quantum_in t + a.guarantee * t.credit

abbrev pub most_of : Reservations → Account → ℕ
most_of s a = most_in (terms_of s) a

-- amount that the leaf is owed after so many nanoseconds
abbrev pub passed_owed : Terms → ℕ → Account → ℕ
passed_owed t ns a =
    if tasks_of a == 0 || a.is_stopped
    then max a.owed (min (a.owed + a.guarantee * ns) (credit_in t a))
    else a.owed + rate_of a * ns

abbrev pub passed_in : Terms → ℕ → Account → Account
passed_in t ns a = record a { owed = passed_owed t ns a }

abbrev pub passed : Reservations → ℕ → Account → Account
passed s ns a = passed_in (terms_of s) ns a

-- amount that the leaf is owed, no more than the most
abbrev pub capped_owed : Terms → Account → ℕ
capped_owed t a = min a.owed (most_in t a)

abbrev pub capped : Terms → Account → Account
capped t a = record a { owed = capped_owed t a }

-- the leaf with no more than its credit
abbrev pub cut_in : Terms → Account → Account
cut_in t a = record a { owed = min a.owed (credit_in t a) }

abbrev pub cut : Reservations → Account → Account
cut s a = cut_in (terms_of s) a

-- the leaf after a limit stops it, with no more than its credit, or stops it no longer
abbrev pub stopped_in : Terms → Bool → Account → Account
stopped_in t stops a =
    if stops then record (cut_in t a) { is_stopped = true } else record a { is_stopped = false }

abbrev pub stopped : Reservations → Bool → Account → Account
stopped s stops a = stopped_in (terms_of s) stops a

-- the leaf with what is beyond its credit cut, if its tasks can take less than before
abbrev pub cut_if_less : Terms → Account → Account → Account
cut_if_less t before a = if nat_lt (rate_of a) (rate_of before) then cut_in t a else a

abbrev pub leaves_of : List Account → List Leaf
leaves_of accounts = map (λ a. seen_leaf a) accounts

abbrev pub woken_in : Terms → List Account → ℕ → Account → Account
woken_in t accounts tasks a =
    record (capped t a) { share = shares.woken t.slice (leaves_of accounts) tasks a.share }

abbrev pub woken : Reservations → ℕ → Account → Account
woken s tasks a = woken_in (terms_of s) s.accounts tasks a

-- payment of a pick in advance: a quantum, unless less is there
abbrev pub paid_in : Terms → Account → ℕ
paid_in t a = min (capped_owed t a) (quantum_in t)

abbrev pub paid_by : Reservations → Account → ℕ
paid_by s a = paid_in (terms_of s) a

abbrev pub picked_in : Terms → Account → Account
picked_in t a = record a {
  share = shares.picked t.slice a.share;
  owed = capped_owed t a - paid_in t a;
}

abbrev pub picked : Reservations → Account → Account
picked s a = picked_in (terms_of s) a

-- amount owed after a run of this time, for which so much was paid: what was not used of the
-- quantum comes back, and an overrun beyond it is paid now
abbrev pub settled_owed : ℕ → ℕ → ℕ → ℕ → ℕ
settled_owed quantum paid time owed = owed + min (quantum - time) paid - (time - quantum)

-- The leaf after a run of a task. The time since the pick counts for what it is owed, and the
-- time that was used for the clock of its share.
abbrev pub ended_in : Terms → Run → ℕ → Bool → Account → Account
ended_in t run used remains a = cut_if_less t a (record a {
  share = shares.ended t.slice used remains a.share;
  owed = settled_owed (quantum_in t) run.paid (WHOLE * run.age) (capped_owed t a);
})

abbrev pub ended : Reservations → Run → ℕ → Bool → Account → Account
ended s run used remains a = ended_in (terms_of s) run used remains a

-- the leaf after a task of it that waits has gone
abbrev pub left_in : Terms → Account → Account
left_in t a = cut_if_less t a (record (capped t a) {
  share = record a.share { waiting = a.share.waiting - 1 };
})

abbrev pub left : Reservations → Account → Account
left s a = left_in (terms_of s) a

-- The charge that stands as far before the level of the new amount as the old one did before the
-- level of the old, but by no more than 32 slices. The level is a charge over an amount above 0.
abbrev pub moved : ℕ → ℕ × ℕ → ℕ → ℕ → ℕ → ℕ
moved slice level charged old new =
    level.0 * new / max 1 level.1 + min (charged - level.0 * old / max 1 level.1) (32 * slice)

abbrev pub given_in : Terms → ℕ × ℕ → ℕ → ℕ → Account → Account
given_in t level amount guarantee a = record (capped t a) {
  share = record a.share {
    charged = moved t.slice level a.share.charged a.share.amount amount;
    amount = amount;
  };
  guarantee = guarantee;
}

abbrev pub given : Reservations → ℕ → ℕ → Account → Account
given s amount guarantee a = given_in (terms_of s) s.level amount guarantee a

-- the lesser of two clocks, each a charge and an amount
abbrev pub lesser_clock : ℕ × ℕ → ℕ × ℕ → ℕ × ℕ
lesser_clock c d = if nat_lt (d.0 * c.1) (c.0 * d.1) then d else c

abbrev pub greater_clock : ℕ × ℕ → ℕ × ℕ → ℕ × ℕ
greater_clock c d = if nat_lt (c.0 * d.1) (d.0 * c.1) then d else c

-- the least settled clock of the leaves that have tasks, and of one that is known before
abbrev pub least_known : Option (ℕ × ℕ) → ℕ × ℕ → ℕ × ℕ
least_known None c = c
least_known (Some k) c = lesser_clock k c

abbrev pub least_clock : Option (ℕ × ℕ) → ℕ → List Account → Option (ℕ × ℕ)
least_clock known slice [] = known
least_clock known slice (a ∷ rest) =
    least_clock
    (if has_tasks (seen_leaf a)
    then Some (least_known known (settled slice (seen_leaf a), a.share.amount))
    else known)
    slice rest

-- the greatest clock, and one that is known before
abbrev pub greatest_clock : ℕ × ℕ → List Account → ℕ × ℕ
greatest_clock known [] = known
greatest_clock known (a ∷ rest) =
    greatest_clock (greater_clock known (a.share.charged, a.share.amount)) rest

abbrev pub clock_or : Option (ℕ × ℕ) → ℕ × ℕ → ℕ × ℕ
clock_or (Some c) other = c
clock_or None other = other

-- the clock of all: the least of the leaves that have tasks, or the greatest if none has
abbrev pub level_now : ℕ → List Account → ℕ × ℕ
level_now slice accounts =
    clock_or (least_clock None slice accounts) (greatest_clock (0, 1) accounts)

-- the run after so many nanoseconds
abbrev pub aged : ℕ → Option Run → Option Run
aged t None = None
aged t (Some run) = Some (record run { age = run.age + t })

abbrev pub with_account : Reservations → ℕ → Account → Reservations
with_account s i a = record s { accounts = slice_set s.accounts i a }

abbrev pub state_picked : Reservations → ℕ → ℕ → Reservations
state_picked s p i = record s {
  accounts = slice_set s.accounts i (picked s (account_at s i));
  processors = slice_set s.processors p
      (Some (record { leaf = i; paid = paid_by s (account_at s i); age = 0 }));
}

abbrev pub state_ended : Reservations → ℕ → ℕ → Bool → Option (Option Run) → Reservations
state_ended s p used remains (Some (Some run)) = record s {
  accounts = slice_set s.accounts run.leaf (ended s run used remains (account_at s run.leaf));
  processors = slice_set s.processors p None;
}
state_ended s p used remains (Some None) = s
state_ended s p used remains None = s

-- the state after an event that is allowed
abbrev pub after : Reservations → Step → Reservations
after s (Pass t) =
    record s { accounts = map (passed s t) s.accounts; processors = map (aged t) s.processors }
after s (Wake i tasks) = with_account s i (woken s tasks (account_at s i))
after s (Pick p i) = state_picked s p i
after s (End p used remains) = state_ended s p used remains (slice_get s.processors p)
after s Level = record s { level = level_now s.slice s.accounts }
after s (Give i amount guarantee) = with_account s i (given s amount guarantee (account_at s i))
after s (Leave i) = with_account s i (left s (account_at s i))
after s (Cut i) = with_account s i (cut s (account_at s i))
after s (Stop i stops) = with_account s i (stopped s stops (account_at s i))
after s Refill = s

-- the leaf is behind its guarantee by the slack
pub record IsDue (s : Reservations) (a : Account) : Type 0 where
  pub owes : 0 < rate_of a
  pub behind : quantum_of s + rate_of a * s.slack ≤ a.owed

-- The leaf is owed a whole quantum more so many nanoseconds ahead, less so many back. The first
-- such time is its deadline.
abbrev pub OwesWithin : Reservations → Account → ℕ → ℕ → Type 0
OwesWithin s a ahead back = 2 * quantum_of s + rate_of a * back ≤ a.owed + rate_of a * ahead

-- the deadline of the first, in whole nanoseconds, is not after that of the second
abbrev pub IsNoLater : Reservations → Account → Account → Type 0
IsNoLater s a b = (ahead back : ℕ) → OwesWithin s b ahead back → OwesWithin s a ahead back

-- the clock of the first leaf, its charge over its amount, is not above that of the second
abbrev pub IsNoFurther : Leaf → Leaf → Type 0
IsNoFurther l m = l.charged * m.amount ≤ m.charged * l.amount

-- a task of the leaf waits, and no limit stops it
abbrev pub Waits : Reservations → ℕ → Type 0
Waits s i = 0 < ready_in (account_at s i)

-- The rule allows a pick for a free processor, of a leaf that waits. If a leaf that waits is due,
-- it is one that is due with the earliest deadline; else it is one with the least clock.
pub record MayPick (s : Reservations) (p i : ℕ) : Type 0 where
  pub free : slice_get s.processors p ≡ Some None
  pub known : i < length s.accounts
  pub waits : Waits s i
  pub due : (k : ℕ) → Waits s k → IsDue s (account_at s k)
      → IsDue s (account_at s i) × IsNoLater s (account_at s i) (account_at s k)
  pub shares : ((k : ℕ) → Waits s k → IsDue s (account_at s k) → ⊥)
      → (k : ℕ) → Waits s k → IsNoFurther (account_at s i).share (account_at s k).share

-- the processor runs a task of a leaf
pub record Runs (s : Reservations) (p : ℕ) : Type 0 where
  pub run : Run
  pub runs : slice_get s.processors p ≡ Some (Some run)
  pub known : run.leaf < length s.accounts

-- the rule allows the event: time passes, tasks wake and end, and plans come as they like
abbrev pub Allows : Reservations → Step → Type 0
Allows s (Pass t) = Unit {0}
Allows s (Wake i tasks) = i < length s.accounts
Allows s (Pick p i) = MayPick s p i
Allows s (End p used remains) = Runs s p
Allows s Level = Unit {0}
Allows s (Give i amount guarantee) = (i < length s.accounts) × (0 < amount)
Allows s (Leave i) = (i < length s.accounts) × (0 < (account_at s i).share.waiting)
Allows s (Cut i) = i < length s.accounts
Allows s (Stop i stops) = i < length s.accounts
Allows s Refill = Unit {0}
