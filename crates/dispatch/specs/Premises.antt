-- Where the premises of the law of windows fail in a trace.
use Rattle.std.specs.Prelude.{◌≡◌, ℕ, ◌+◌, ◌-◌, ◌*◌, ◌^◌, ◌==◌, ◌&&◌, ◌||◌, ◌↔◌, not, nat_lt, min}
use Rattle.std.specs.Prelude.{Bool, true, false, List, [], ◌∷◌, ◌++◌, length, Option, None, Some}
use Rattle.std.specs.Prelude.{slice_get, if◌then◌else◌, Result, Ok, Err, codes}
use Rattle.std.specs.List.{list_all, slice_split}
use Rattle.std.specs.Fmt.{decimal}
use Rattle.bw_text.specs.Words.{words}
use Rattle.dispatch.specs.declared.budget.Group.{Group}
use Rattle.dispatch.specs.declared.fault.InputFault.{InputFault}
use Rattle.dispatch.specs.declared.input.Input.{Input}
use Rattle.dispatch.specs.declared.input.Input.TheVariants as lines
use Rattle.dispatch.specs.declared.premises.Premises.{Premises}
use Rattle.dispatch.specs.declared.replay.LineFault.{LineFault}
use Rattle.dispatch.specs.declared.reservation.Account.{Account}
use Rattle.dispatch.specs.declared.reservation.Run.{Run}
use Rattle.dispatch.specs.declared.reservation.Step.{Step}
use Rattle.dispatch.specs.declared.reservation.Step.TheVariants.{Pass, Wake, Pick, End, Level}
use Rattle.dispatch.specs.declared.reservation.Step.TheVariants.{Give, Leave, Cut, Stop, Refill}
use Rattle.dispatch.specs.declared.reservation.Terms.{Terms}
use Rattle.dispatch.specs.Input.{input_of}
use Rattle.dispatch.specs.Replay.{input_fault, input_after, nothing_set}
use Rattle.dispatch.specs.Reservation.{Reservations, WHOLE, terms_of, credit_in, tasks_of}
use Rattle.dispatch.specs.Reservation.{most_in, ready_in}
use Rattle.dispatch.specs.Windows.{FitsHost, IsFair, IsLost}
use Rattle.dispatch.specs.Groups.{group_after, inside_of, keeps_limit, fitted}

-- whether a leaf that is owed more than its credit has a task that waits
abbrev pub waits_beyond : Terms → Account → Bool
waits_beyond t a = not (nat_lt (credit_in t a) a.owed) || nat_lt 0 (ready_in a)

-- whether a leaf that waits has as many tasks as its guarantee has processors
abbrev pub has_tasks_for : Account → Bool
has_tasks_for a = not (nat_lt 0 (ready_in a)) || not (nat_lt (tasks_of a * WHOLE) a.guarantee)

-- whether no task of the leaf waits, or a limit stops it
abbrev pub is_still : Account → Bool
is_still a = not (nat_lt 0 (ready_in a))

-- whether the processor runs a task
abbrev pub is_busy : Option Run → Bool
is_busy None = false
is_busy (Some run) = true

-- whether the run takes no more than this, also if this much time passes
abbrev pub is_within : ℕ → ℕ → Option Run → Bool
is_within quantum ns None = true
is_within quantum ns (Some run) = not (nat_lt quantum (run.age + ns))

-- whether the leaf has this guarantee
abbrev pub has_guarantee : ℕ → Option Account → Bool
has_guarantee guarantee None = guarantee == 0
has_guarantee guarantee (Some a) = guarantee == a.guarantee

-- whether what the leaf is owed is not above the most
abbrev pub is_whole : Terms → Option Account → Bool
is_whole t None = true
is_whole t (Some a) = not (nat_lt (most_in t a) a.owed)

-- so it is of the leaf that a processor runs, if it runs one
abbrev pub is_whole_at : Reservations → Option (Option Run) → Bool
is_whole_at s (Some (Some run)) = is_whole (terms_of s) (slice_get s.accounts run.leaf)
is_whole_at s (Some None) = true
is_whole_at s None = true

-- whether the premises hold at an event
abbrev pub is_fair : Reservations → Step → Bool
is_fair s (Pass ns) = list_all (is_within s.quantum ns) s.processors
is_fair s (Wake i tasks) = is_whole (terms_of s) (slice_get s.accounts i)
is_fair s (Pick p i) =
    list_all (waits_beyond (terms_of s)) s.accounts
    && (list_all has_tasks_for s.accounts
    && is_whole (terms_of s) (slice_get s.accounts i))
is_fair s (End p used remains) =
    list_all (is_within s.quantum 0) s.processors
    && is_whole_at s (slice_get s.processors p)
is_fair s Level = true
is_fair s (Give i amount guarantee) =
    has_guarantee guarantee (slice_get s.accounts i)
    && is_whole (terms_of s) (slice_get s.accounts i)
is_fair s (Leave i) = is_whole (terms_of s) (slice_get s.accounts i)
is_fair s (Cut i) = true
is_fair s (Stop i stops) = true
is_fair s Refill = true

-- the processors' time that was lost after an event
abbrev pub lost_after : Reservations → ℕ → Step → ℕ
lost_after s lost (Pass ns) =
    if list_all is_busy s.processors then lost
    else if list_all is_still s.accounts && list_all (waits_beyond (terms_of s)) s.accounts then 0
    else lost + length s.processors * ns
lost_after s lost _ = lost

-- whether the guarantees add up to this at most
abbrev pub fit_in : ℕ → List Account → Bool
fit_in room [] = true
fit_in room (a ∷ rest) =
    if nat_lt room a.guarantee then false else fit_in (room - a.guarantee) rest

-- whether the host has room for the guarantees
abbrev pub fits_host : Reservations → Bool
fits_host s =
    nat_lt 0 (length s.processors)
    && (fit_in (WHOLE * length s.processors) s.accounts && not (nat_lt s.credit s.slack))

-- The tests tell exactly where the premises hold, and the time that is lost.
pub record PremisesAreTold : Type 0 where
  pub host : (s : Reservations) → (fits_host s ≡ true) ↔ FitsHost s
  pub event : (s : Reservations) (e : Step) → (is_fair s e ≡ true) ↔ IsFair s e
  pub lost : (s : Reservations) (lost : ℕ) (e : Step) → IsLost lost (lost_after s lost e) s e

-- ---- of a trace

-- one more, with a bound that no count of lines reaches
abbrev pub one_more : ℕ → ℕ
one_more n = min (n + 1) (2 ^ 64 - 1)

-- the premises so far, and those at an event of the line n
abbrev pub told_event : Premises → ℕ → Bool → ℕ → Premises
told_event p n holds lost =
    if holds then record p { events = one_more p.events; lost = lost }
    else record p {
      events = one_more p.events;
      unmet = one_more p.unmet;
      first = if p.unmet == 0 then n else p.first;
      lost = lost;
    }

-- The premises so far, and those at an event: the host fits, the event is fair, and no more than a
-- quantum is lost. If more is, it counts anew.
abbrev pub told_step : Reservations → ℕ → Premises → Step → ℕ → Premises
told_step s n p e lost =
    told_event p n (fits_host s && (is_fair s e && not (nat_lt s.quantum lost)))
    (if nat_lt s.quantum lost then 0 else lost)

-- the group after an event of the line n that passes its limit
abbrev pub passed_limit : Premises → ℕ → Group → Premises
passed_limit p n g = record p {
  group = g;
  over = one_more p.over;
  first_over = if p.over == 0 then n else p.first_over;
}

-- the group after an event that keeps its limit or not; one whose numbers have no 64 bits has
-- nothing from there on
abbrev pub told_limit : Premises → ℕ → Bool → Option Group → Premises
told_limit p n keeps None = passed_limit p n (record p.group { left = 0; debt = 0 })
told_limit p n keeps (Some g) = if keeps then record p { group = g } else passed_limit p n g

-- the premises so far, and those at an input
abbrev pub told : Reservations → ℕ → Premises → Input → Premises
told s n p (lines.Event e) =
    told_limit (told_step s n p e (lost_after s p.lost e)) n (keeps_limit s p.group e)
    (fitted (group_after (inside_of s) s p.group e))
told s n p (lines.Terms q w c) = record p { has_terms = true }
told s n p (lines.Group limit burst) =
    record p { group = record { limit = limit; burst = burst; left = limit; debt = 0 } }
told s n p _ = p

abbrev pub none_told : Premises
none_told = record {
  has_terms = false;
  events = 0;
  unmet = 0;
  first = 0;
  lost = 0;
  group = record { limit = 0; burst = 0; left = 0; debt = 0 };
  over = 0;
  first_over = 0;
}

-- result of a line that is read, if it has no fault
abbrev pub told_at : Option LineFault → Premises → Premises → Premises
told_at (Some f) here next = here
told_at None here next = next

abbrev pub told_line : Result Input InputFault → Premises → (Input → Premises) → Premises
told_line (Err f) here next = here
told_line (Ok i) here next = next i

-- the premises from the line n on, up to the first line that is refused
unfoldable pub premises_from : Reservations → ℕ → Premises → List (List ℕ) → Premises
premises_from s n p [] = p
premises_from s n p (part ∷ parts) =
    if length parts == 0 then p
    else told_line (input_of (words part)) p (λ i. told_at (input_fault s i) p
    (premises_from (input_after s i) (n + 1) (told s n p i) parts))

abbrev pub premises_of : List ℕ → Premises
premises_of text = premises_from nothing_set 1 none_told (slice_split (λ b. b == 10) text)

-- the line that is printed
abbrev pub events_text : List ℕ → Premises → List ℕ
events_text before p = (before ++ decimal p.events) ++ (codes " events" ++ 10 ∷ [])

abbrev pub first_text : Premises → List ℕ
first_text p =
    (codes "premises: fail first at line " ++ decimal p.first)
    ++ (codes ", in all at " ++ decimal p.unmet)

abbrev pub unmet_text : Premises → List ℕ
unmet_text p = first_text p ++ events_text (codes " of ") p

abbrev pub premises_text : Premises → List ℕ
premises_text p =
    if p.unmet == 0 then events_text (codes "premises: hold at each of ") p else unmet_text p

-- the line on the limit
abbrev pub passed_text : Premises → List ℕ
passed_text p =
    (codes "limit: passed first at line " ++ decimal p.first_over)
    ++ (codes ", in all at " ++ decimal p.over)

abbrev pub limit_text : Premises → List ℕ
limit_text p =
    if p.over == 0 then events_text (codes "limit: kept at each of ") p
    else passed_text p ++ events_text (codes " of ") p
