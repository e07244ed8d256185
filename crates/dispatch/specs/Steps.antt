-- Which event is refused, and why: the rule of reservations as a program decides it.
use Rattle.std.specs.Prelude.{◌≡◌, ℕ, ◌+◌, ◌-◌, ◌*◌, ◌/◌, ◌<◌, ◌^◌, ◌==◌, ◌&&◌, ◌||◌, ◌↔◌, not}
use Rattle.std.specs.Prelude.{nat_lt}
use Rattle.std.specs.Prelude.{max, Bool, true, false, List, Option, None, Some, slice_get}
use Rattle.std.specs.Prelude.{if◌then◌else◌, Result, Ok, Err, is_ok}
use Rattle.std.specs.List.{list_any, list_all, All, AllByRecursion}
use Rattle.dispatch.specs.declared.events.Refusal.{Refusal}
use Rattle.dispatch.specs.declared.events.Refusal.TheVariants as refusals
use Rattle.dispatch.specs.declared.reservation.Account.{Account}
use Rattle.dispatch.specs.declared.reservation.Terms.{Terms}
use Rattle.dispatch.specs.declared.reservation.Run.{Run}
use Rattle.dispatch.specs.declared.reservation.Step.{Step}
use Rattle.dispatch.specs.declared.reservation.Step.TheVariants.{Pass, Wake, Pick, End, Level}
use Rattle.dispatch.specs.declared.reservation.Step.TheVariants.{Give, Leave, Cut, Stop, Refill}
use Rattle.dispatch.specs.declared.scheduler.Scheduler.TheInside.{Inside as Fields}
use Rattle.dispatch.specs.Rule.{◌>>=◌, number, leaf_ended, without_value, waits_behind, new_leaf}
use Rattle.dispatch.specs.Reservation.{Reservations, WHOLE, terms_of, quantum_in, rate_of}
use Rattle.dispatch.specs.Reservation.{passed_owed, capped_owed, woken_in, picked_in, left_in}
use Rattle.dispatch.specs.Reservation.{cut_in, cut_if_less, given_in, settled_owed, after}
use Rattle.dispatch.specs.Reservation.{paid_in, account_at, Allows, ready_in, seen_leaf, stopped_in}
use Rattle.dispatch.specs.Rule as shares

-- the state that the program's fields stand for
abbrev pub state_of : Fields → Reservations
state_of a = record {
  slice = a.slice;
  quantum = a.quantum;
  slack = a.slack;
  credit = a.credit;
  level = (a.level_charge, a.level_amount);
  accounts = a.accounts.items;
  processors = a.processors.items;
}

-- each leaf has an amount
abbrev pub HasAmounts : Fields → Type 0
HasAmounts a = All (λ x. 0 < x.share.amount) a.accounts.items

-- a leaf of this amount and guarantee, inside the group with a limit or not, before its first task
abbrev pub new_account : Terms → ℕ → ℕ → Bool → Account
new_account t amount guarantee is_inside =
    record {
      share = new_leaf amount;
      guarantee = guarantee;
      owed = quantum_in t;
      is_stopped = false;
      is_inside = is_inside;
    }

-- ---- who is due

-- whether the leaf is behind its guarantee by the slack
abbrev pub is_due : Terms → Account → Bool
is_due t a =
    nat_lt 0 (rate_of a) && not (nat_lt a.owed (quantum_in t + rate_of a * t.slack))

-- the nanoseconds until a quantum more is owed, rounded up
abbrev pub ahead : Terms → Account → ℕ
ahead t a = (2 * quantum_in t - a.owed + (max 1 (rate_of a) - 1)) / max 1 (rate_of a)

-- the nanoseconds since it was owed, rounded down
abbrev pub back : Terms → Account → ℕ
back t a = (a.owed - 2 * quantum_in t) / max 1 (rate_of a)

-- whether the deadline of b is before that of a
abbrev pub is_earlier : Terms → Account → Account → Bool
is_earlier t a b = nat_lt (ahead t b + back t a) (ahead t a + back t b)

-- whether b waits, is due, and goes before a
abbrev pub is_passed_over : Terms → Account → Account → Bool
is_passed_over t a b =
    nat_lt 0 (ready_in b) && (is_due t b && (not (is_due t a) || is_earlier t a b))

-- ---- a leaf after an event of it, or the first refusal

abbrev pub owed_fits : Terms → ℕ → Account → Bool
owed_fits t ns a = nat_lt (passed_owed t ns a) (2 ^ 64)

abbrev pub age_fits : ℕ → Option Run → Bool
age_fits ns None = true
age_fits ns (Some run) = nat_lt (run.age + ns) (2 ^ 64)

abbrev pub account_woken : Terms → List Account → ℕ → Option Account → Result Account Refusal
account_woken t accounts tasks None = Err refusals.UnknownLeaf
account_woken t accounts tasks (Some a) = do
  _ ← number (woken_in t accounts tasks a).share.charged
  _ ← number (woken_in t accounts tasks a).share.waiting
  Ok (woken_in t accounts tasks a)

abbrev pub account_picked : Terms → List Account → Option Account → Result Account Refusal
account_picked t accounts None = Err refusals.UnknownLeaf
account_picked t accounts (Some a) =
    if ready_in a == 0 then Err refusals.NothingWaits
    else if list_any (is_passed_over t a) accounts then Err refusals.NotEarliest
    else if not (is_due t a) && list_any (λ b. waits_behind a.share (seen_leaf b)) accounts
    then Err refusals.NotLeast else do
      _ ← number (picked_in t a).share.charged
      _ ← number (picked_in t a).share.running
      Ok (picked_in t a)

-- payment of a pick of the leaf, if there is one
abbrev pub paid_at : Terms → Option Account → ℕ
paid_at t None = 0
paid_at t (Some a) = paid_in t a

abbrev pub account_ended : Terms → Run → ℕ → Bool → Option Account → Result Account Refusal
account_ended t run used remains None = Err refusals.UnknownLeaf
account_ended t run used remains (Some a) = do
  share ← leaf_ended t.slice used remains (Some a.share)
  owed ← number (settled_owed (quantum_in t) run.paid (WHOLE * run.age) (capped_owed t a))
  Ok (cut_if_less t a (record a { share = share; owed = owed }))

abbrev pub account_given : Terms → ℕ × ℕ → ℕ → ℕ → Option Account → Result Account Refusal
account_given t level amount guarantee None = Err refusals.UnknownLeaf
account_given t level amount guarantee (Some a) =
    if amount == 0 then Err refusals.TooGreat else do
      _ ← number (given_in t level amount guarantee a).share.charged
      Ok (given_in t level amount guarantee a)

abbrev pub account_left : Terms → Option Account → Result Account Refusal
account_left t None = Err refusals.UnknownLeaf
account_left t (Some a) =
    if a.share.waiting == 0 then Err refusals.NothingWaits else Ok (left_in t a)

abbrev pub account_cut : Terms → Option Account → Result Account Refusal
account_cut t None = Err refusals.UnknownLeaf
account_cut t (Some a) = Ok (cut_in t a)

abbrev pub account_stopped : Terms → Bool → Option Account → Result Account Refusal
account_stopped t stops None = Err refusals.UnknownLeaf
account_stopped t stops (Some a) = Ok (stopped_in t stops a)

-- ---- events

-- whether a task may be picked for the processor
abbrev pub free_processor : Option (Option Run) → Result (Unit {0}) Refusal
free_processor None = Err refusals.UnknownProcessor
free_processor (Some (Some run)) = Err refusals.ProcessorBusy
free_processor (Some None) = Ok tt

-- run of the processor
abbrev pub run_of : Option (Option Run) → Result Run Refusal
run_of None = Err refusals.UnknownProcessor
run_of (Some None) = Err refusals.ProcessorIdle
run_of (Some (Some run)) = Ok run

abbrev pub end_allowed : Reservations → ℕ → Bool → Result Run Refusal → Result (Unit {0}) Refusal
end_allowed s used remains (Err r) = Err r
end_allowed s used remains (Ok run) =
    without_value (account_ended (terms_of s) run used remains (slice_get s.accounts run.leaf))

abbrev pub and_then : Result (Unit {0}) Refusal → Result (Unit {0}) Refusal
    → Result (Unit {0}) Refusal
and_then (Ok u) second = second
and_then (Err r) second = Err r

-- the first refusal of an event, if there is one
abbrev pub allowed : Reservations → Step → Result (Unit {0}) Refusal
allowed s (Pass ns) =
    if list_all (owed_fits (terms_of s) ns) s.accounts && list_all (age_fits ns) s.processors
    then Ok tt else Err refusals.TooGreat
allowed s (Wake i tasks) =
    without_value (account_woken (terms_of s) s.accounts tasks (slice_get s.accounts i))
allowed s (Pick p i) =
    and_then (free_processor (slice_get s.processors p))
    (without_value (account_picked (terms_of s) s.accounts (slice_get s.accounts i)))
allowed s (End p used remains) =
    end_allowed s used remains (run_of (slice_get s.processors p))
allowed s Level = Ok tt
allowed s (Give i amount guarantee) =
    without_value
    (account_given (terms_of s) s.level amount guarantee (slice_get s.accounts i))
allowed s (Leave i) = without_value (account_left (terms_of s) (slice_get s.accounts i))
allowed s (Cut i) = without_value (account_cut (terms_of s) (slice_get s.accounts i))
allowed s (Stop i stops) =
    without_value (account_stopped (terms_of s) stops (slice_get s.accounts i))
allowed s Refill = Ok tt

-- the state after an event; a refused one changes nothing
abbrev pub happens : Reservations → Step → Reservations
happens s e = if is_ok (allowed s e) then after s e else s

-- ---- what is refused

-- room below 2^64 for each number that an event makes greater, where it makes one greater
abbrev pub AgeFits : ℕ → Option Run → Type 0
AgeFits ns None = Unit {0}
AgeFits ns (Some run) = run.age + ns < 2 ^ 64

abbrev pub HasRoomAtEnd : Reservations → ℕ → Bool → Option (Option Run) → Type 0
HasRoomAtEnd s used remains (Some (Some run)) =
    let a = account_at s run.leaf in
    ((shares.ended s.slice used remains a.share).charged < 2 ^ 64)
    × ((shares.ended s.slice used remains a.share).used < 2 ^ 64)
    × ((shares.ended s.slice used remains a.share).waiting < 2 ^ 64)
    × (settled_owed (quantum_in (terms_of s)) run.paid (WHOLE * run.age)
    (capped_owed (terms_of s) a) < 2 ^ 64)
HasRoomAtEnd s used remains _ = Unit {0}

abbrev pub HasRoom : Reservations → Step → Type 0
HasRoom s (Pass ns) =
    AllByRecursion (λ a. passed_owed (terms_of s) ns a < 2 ^ 64) s.accounts
    × AllByRecursion (AgeFits ns) s.processors
HasRoom s (Wake i tasks) =
    ((woken_in (terms_of s) s.accounts tasks (account_at s i)).share.charged < 2 ^ 64)
    × ((woken_in (terms_of s) s.accounts tasks (account_at s i)).share.waiting < 2 ^ 64)
HasRoom s (Pick p i) =
    ((picked_in (terms_of s) (account_at s i)).share.charged < 2 ^ 64)
    × ((picked_in (terms_of s) (account_at s i)).share.running < 2 ^ 64)
HasRoom s (End p used remains) = HasRoomAtEnd s used remains (slice_get s.processors p)
HasRoom s Level = Unit {0}
HasRoom s (Give i amount guarantee) =
    (given_in (terms_of s) s.level amount guarantee (account_at s i)).share.charged < 2 ^ 64
HasRoom s (Leave i) = Unit {0}
HasRoom s (Cut i) = Unit {0}
HasRoom s (Stop i stops) = Unit {0}
HasRoom s Refill = Unit {0}

-- An event is refused unless the rule allows it and its numbers have room.
abbrev pub RefusalIsExact : Type 0
RefusalIsExact = (s : Reservations) (e : Step)
    → (allowed s e ≡ Ok tt) ↔ (Allows s e × HasRoom s e)
