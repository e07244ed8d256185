-- The replay of a trace, line by line.
use Rattle.std.specs.Prelude.{◌≡◌, ◌<◌, ◌≤◌, ◌↔◌, ℕ, ◌+◌, ◌==◌, ◌||◌, nat_lt, List, [], ◌∷◌, ◌++◌}
use Rattle.std.specs.Prelude.{length, replicate}
use Rattle.std.specs.Prelude.{Bool, Option, None, Some, Result, Ok, Err, codes}
use Rattle.std.specs.Prelude.{if◌then◌else◌}
use Rattle.std.specs.List.{slice_split}
use Rattle.std.specs.Fmt.{decimal}
use Rattle.bw_text.specs.Words.{words}
use Rattle.bw_streams.specs.Answers.{refusal_line}
use Rattle.dispatch.specs.declared.reservation.Step.TheVariants.{Pick}
use Rattle.dispatch.specs.declared.events.Refusal.{Refusal}
use Rattle.dispatch.specs.declared.events.Refusal.TheVariants.{UnknownLeaf, UnknownProcessor}
use Rattle.dispatch.specs.declared.events.Refusal.TheVariants.{ProcessorBusy, ProcessorIdle}
use Rattle.dispatch.specs.declared.events.Refusal.TheVariants.{NothingWaits, NotEarliest, NotLeast}
use Rattle.dispatch.specs.declared.events.Refusal.TheVariants.{TooGreat}
use Rattle.dispatch.specs.declared.fault.InputFault.{InputFault}
use Rattle.dispatch.specs.declared.fault.InputFault.TheVariants.{NotFound, BadLine, BadField}
use Rattle.dispatch.specs.declared.fault.InputFault.TheVariants.{CutShort}
use Rattle.dispatch.specs.declared.input.Input.{Input}
use Rattle.dispatch.specs.declared.input.Input.TheVariants as lines
use Rattle.dispatch.specs.declared.limits.TheConstants.{MAX_PROCESSORS, MAX_SLICE_NS, MAX_AMOUNT}
use Rattle.dispatch.specs.declared.limits.TheConstants.{MAX_TERM_NS}
use Rattle.dispatch.specs.declared.replay.LineFault.{LineFault}
use Rattle.dispatch.specs.declared.replay.LineFault.TheVariants.{Bad, NotAllowed}
use Rattle.dispatch.specs.declared.replay.Finding.{Finding}
use Rattle.dispatch.specs.declared.replay.Finding.TheVariants.{Allowed, Refused}
use Rattle.dispatch.specs.Faults.{input_fault_number, input_fault_name}
use Rattle.dispatch.specs.Input.{input_of}
use Rattle.dispatch.specs.Reservation.{Reservations, after, terms_of, Allows}
use Rattle.dispatch.specs.Steps.{allowed, new_account, HasRoom}

-- the fault of a refused event: the input is bad, or the rule does not allow it
abbrev pub fault_of : Refusal → LineFault
fault_of UnknownLeaf = Bad NotFound
fault_of UnknownProcessor = Bad NotFound
fault_of TooGreat = Bad BadField
fault_of ProcessorBusy = NotAllowed ProcessorBusy
fault_of ProcessorIdle = NotAllowed ProcessorIdle
fault_of NothingWaits = NotAllowed NothingWaits
fault_of NotEarliest = NotAllowed NotEarliest
fault_of NotLeast = NotAllowed NotLeast

abbrev pub event_fault : Result (Unit {0}) Refusal → Option LineFault
event_fault (Ok u) = None
event_fault (Err r) = Some (fault_of r)

-- whether a number is not from 1 to the most
abbrev pub is_out : ℕ → ℕ → Bool
is_out most n = n == 0 || nat_lt most n

-- the first fault of a line: processors, slice and terms are set once, the terms before a leaf, the
-- slice before an event, and the leaves are numbered from 0
abbrev pub input_fault : Reservations → Input → Option LineFault
input_fault s (lines.Processors n) =
    if nat_lt 0 (length s.processors) then Some (Bad BadLine)
    else if is_out MAX_PROCESSORS n then Some (Bad BadField) else None
input_fault s (lines.Slice n) =
    if nat_lt 0 s.slice then Some (Bad BadLine)
    else if is_out MAX_SLICE_NS n then Some (Bad BadField) else None
input_fault s (lines.Terms q w c) =
    if nat_lt 0 s.quantum || nat_lt 0 (length s.accounts) then Some (Bad BadLine)
    else if is_out MAX_TERM_NS q || (nat_lt MAX_TERM_NS w || nat_lt MAX_TERM_NS c)
    then Some (Bad BadField) else None
input_fault s (lines.Leaf i a g inside) =
    if i == length s.accounts then (if is_out MAX_AMOUNT a then Some (Bad BadField) else None)
    else Some (Bad BadLine)
input_fault s (lines.Group limit burst) = None
input_fault s (lines.Event e) =
    if s.slice == 0 then Some (Bad BadLine) else event_fault (allowed s e)

-- the state after a line without a fault
abbrev pub input_after : Reservations → Input → Reservations
input_after s (lines.Processors n) = record s { processors = replicate n None }
input_after s (lines.Slice n) = record s { slice = n }
input_after s (lines.Terms q w c) = record s { quantum = q; slack = w; credit = c }
input_after s (lines.Leaf i a g inside) =
    record s { accounts = s.accounts ++ new_account (terms_of s) a g inside ∷ [] }
input_after s (lines.Group limit burst) = s
input_after s (lines.Event e) = after s e

-- 1 for a pick
abbrev pub picks_in : Input → ℕ
picks_in (lines.Event (Pick p i)) = 1
picks_in _ = 0

-- nothing is set
abbrev pub nothing_set : Reservations
nothing_set = record {
  slice = 0;
  quantum = 0;
  slack = 0;
  credit = 0;
  level = (0, 1);
  accounts = [];
  processors = [];
}

-- the finding at a line that is read
abbrev pub at_input : ℕ → Option LineFault → Finding → Finding
at_input n (Some f) next = Refused n f
at_input n None next = next

abbrev pub at_line : ℕ → Result Input InputFault → (Input → Finding) → Finding
at_line n (Err f) next = Refused n (Bad f)
at_line n (Ok i) next = next i

-- The finding from the line n on, after so many picks. The parts are the text between newlines: the
-- last is empty, and no line.
unfoldable pub finding_from : Reservations → ℕ → ℕ → List (List ℕ) → Finding
finding_from s n picks [] = Allowed picks
finding_from s n picks (part ∷ parts) =
    if length parts == 0
    then (if length part == 0 then Allowed picks else Refused n (Bad CutShort))
    else at_line n (input_of (words part)) (λ i. at_input n (input_fault s i)
    (finding_from (input_after s i) (n + 1) (picks + picks_in i) parts))

-- the finding on a text
abbrev pub finding_of : List ℕ → Finding
finding_of text = finding_from nothing_set 1 0 (slice_split (λ b. b == 10) text)

-- why the rule does not allow an event
abbrev pub reason : Refusal → List ℕ
reason ProcessorBusy = codes "the processor runs a task"
reason ProcessorIdle = codes "the processor runs no task"
reason NothingWaits = codes "no task of the leaf waits"
reason NotEarliest = codes "a leaf that is due has an earlier deadline"
reason NotLeast = codes "a leaf that waits has a lesser clock"
reason UnknownLeaf = codes "no such leaf"
reason UnknownProcessor = codes "no such processor"
reason TooGreat = codes "a number is too great"

abbrev pub fault_text : LineFault → List ℕ
fault_text (Bad f) = refusal_line (input_fault_number f) (input_fault_name f)
fault_text (NotAllowed r) = codes "not allowed:" ++ (codes " " ++ reason r ++ 10 ∷ [])

-- the line that is printed
abbrev pub finding_text : Finding → List ℕ
finding_text (Allowed picks) = (codes "allowed: " ++ decimal picks) ++ (codes " picks" ++ 10 ∷ [])
finding_text (Refused n f) = (codes "line " ++ decimal n) ++ (codes ": " ++ fault_text f)

-- the exit status
abbrev pub status_of : Finding → ℕ
status_of (Allowed picks) = 0
status_of (Refused n f) = 3

-- ---- the lines that are accepted

-- the parts of a text are the lines of these inputs, and nothing behind the last newline
abbrev pub Spells : List (List ℕ) → List Input → Type 0
Spells [] is = ⊥
Spells (part ∷ parts) [] = (part ≡ []) × (parts ≡ [])
Spells (part ∷ parts) (i ∷ is) = (input_of (words part) ≡ Ok i) × Spells parts is

-- the input may come next: an event, if the rule allows it and its numbers have room
abbrev pub MayFollow : Reservations → Input → Type 0
MayFollow s (lines.Processors n) = (s.processors ≡ []) × (0 < n) × (n ≤ MAX_PROCESSORS)
MayFollow s (lines.Slice n) = (s.slice ≡ 0) × (0 < n) × (n ≤ MAX_SLICE_NS)
MayFollow s (lines.Terms q w c) =
    (s.quantum ≡ 0) × (s.accounts ≡ []) × (0 < q) × (q ≤ MAX_TERM_NS) × (w ≤ MAX_TERM_NS)
    × (c ≤ MAX_TERM_NS)
MayFollow s (lines.Leaf i a g inside) =
    (i ≡ length s.accounts) × (0 < a) × (a ≤ MAX_AMOUNT)
MayFollow s (lines.Group limit burst) = Unit {0}
MayFollow s (lines.Event e) = (0 < s.slice) × Allows s e × HasRoom s e

-- each input may come next, after those before it
abbrev pub AllFollow : Reservations → List Input → Type 0
AllFollow s [] = Unit {0}
AllFollow s (i ∷ is) = MayFollow s i × AllFollow (input_after s i) is

-- the number of picks
abbrev pub picks_of : List Input → ℕ
picks_of [] = 0
picks_of (i ∷ is) = picks_in i + picks_of is

-- A text is accepted, with so many picks, if and only if it spells inputs that may each follow
-- those before it.
abbrev pub AcceptsExactly : Type 0
AcceptsExactly = (text : List ℕ) (picks : ℕ) → (finding_of text ≡ Allowed picks)
    ↔ ((is : List Input) × Spells (slice_split (λ b. b == 10) text) is
    × AllFollow nothing_set is × (picks ≡ picks_of is))
