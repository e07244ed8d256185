-- The line of a trace, by its words, or why it is none.
use Rattle.std.specs.Prelude.{ℕ, ◌==◌, List, [], ◌∷◌, Bool, true, false, Result, Ok, Err, codes}
use Rattle.std.specs.Prelude.{if◌then◌else◌}
use Rattle.std.specs.Str.{bytes_eq}
use Rattle.bw_text.specs.Number.{number_read}
use Rattle.dispatch.specs.declared.reservation.Step.{Step}
use Rattle.dispatch.specs.declared.reservation.Step.TheVariants.{Pass, Wake, Pick, End, Level}
use Rattle.dispatch.specs.declared.reservation.Step.TheVariants.{Give, Leave, Cut, Stop, Refill}
use Rattle.dispatch.specs.declared.fault.InputFault.{InputFault}
use Rattle.dispatch.specs.declared.fault.InputFault.TheVariants.{BadNumber, BadLine, BadField}
use Rattle.dispatch.specs.declared.input.Input.{Input}
use Rattle.dispatch.specs.declared.input.Input.TheVariants.{Processors, Slice, Terms}
use Rattle.dispatch.specs.declared.input.Input.TheVariants.{Leaf, Group, Event}

-- the first fault of two steps
infixl 10 ◌>>=◌
abbrev pub ◌>>=◌ : {A B : Type 0} → Result A InputFault → (A → Result B InputFault)
    → Result B InputFault
(Ok x) >>= f = f x
(Err e) >>= f = Err e

-- a function's result with its value seen by view
abbrev pub seen : {X Y : Type 0} → (X → Y) → Result X InputFault → Result Y InputFault
seen view (Ok x) = Ok (view x)
seen view (Err e) = Err e

abbrev pub or_bad : {E : Type 0} → Result ℕ E → Result ℕ InputFault
or_bad (Ok n) = Ok n
or_bad (Err e) = Err BadNumber

-- the number of 64 bits that a word spells
abbrev pub number_in : List ℕ → Result ℕ InputFault
number_in word = or_bad (number_read word)

-- the first word as a number, and the words after it
abbrev pub number_at : List (List ℕ) → Result (ℕ × List (List ℕ)) InputFault
number_at [] = Err BadLine
number_at (w ∷ ws) = number_in w >>= λ n. Ok (n, ws)

-- no word
abbrev pub is_over : List (List ℕ) → Result (Unit {0}) InputFault
is_over [] = Ok tt
is_over (w ∷ ws) = Err BadLine

abbrev pub one_number : List (List ℕ) → Result ℕ InputFault
one_number ws = do
  a ← number_at ws
  _ ← is_over a.1
  Ok a.0

abbrev pub two_numbers : List (List ℕ) → Result (ℕ × ℕ) InputFault
two_numbers ws = do
  a ← number_at ws
  b ← number_at a.1
  _ ← is_over b.1
  Ok (a.0, b.0)

abbrev pub three_numbers : List (List ℕ) → Result (ℕ × ℕ × ℕ) InputFault
three_numbers ws = do
  a ← number_at ws
  b ← number_at a.1
  c ← number_at b.1
  _ ← is_over c.1
  Ok (a.0, b.0, c.0)

-- 1 if the task waits again or the limit stops the leaf, 0 if it sleeps or the limit does not
abbrev pub remains_in : ℕ → Result Bool InputFault
remains_in n = if n == 0 then Ok false else if n == 1 then Ok true else Err BadField

-- the only word as a number, or 0 if there is none
abbrev pub last_or_zero : List (List ℕ) → Result ℕ InputFault
last_or_zero [] = Ok 0
last_or_zero (w ∷ ws) = one_number (w ∷ ws)

-- number, amount and guarantee of a leaf
abbrev pub leaf_numbers : List (List ℕ) → Result (ℕ × ℕ × ℕ) InputFault
leaf_numbers ws = do
  a ← number_at ws
  b ← number_at a.1
  g ← last_or_zero b.1
  Ok (a.0, b.0, g)

-- the event that a first word and the words behind it make: one of a plan or a limit
abbrev pub rare_step : List ℕ → List (List ℕ) → Result Step InputFault
rare_step verb ws =
    if bytes_eq verb (codes "level") then (is_over ws >>= λ u. Ok Level)
    else if bytes_eq verb (codes "give") then (three_numbers ws >>= λ p. Ok (Give p.0 p.1 p.2))
    else if bytes_eq verb (codes "leave") then (one_number ws >>= λ n. Ok (Leave n))
    else if bytes_eq verb (codes "cut") then (one_number ws >>= λ n. Ok (Cut n))
    else if bytes_eq verb (codes "stop")
    then (two_numbers ws >>= λ p. remains_in p.1 >>= λ r. Ok (Stop p.0 r))
    else if bytes_eq verb (codes "refill") then (is_over ws >>= λ u. Ok Refill)
    else Err BadLine

-- the event that a first word and the words behind it make
abbrev pub step_of : List ℕ → List (List ℕ) → Result Step InputFault
step_of verb ws =
    if bytes_eq verb (codes "pass") then (one_number ws >>= λ n. Ok (Pass n))
    else if bytes_eq verb (codes "wake") then (two_numbers ws >>= λ p. Ok (Wake p.0 p.1))
    else if bytes_eq verb (codes "pick") then (two_numbers ws >>= λ p. Ok (Pick p.0 p.1))
    else if bytes_eq verb (codes "end")
    then (three_numbers ws >>= λ p. remains_in p.2 >>= λ r. Ok (End p.0 p.1 r))
    else rare_step verb ws

-- the line that a first word and the words behind it make
abbrev pub input_behind : List ℕ → List (List ℕ) → Result Input InputFault
input_behind verb ws =
    if bytes_eq verb (codes "processors") then (one_number ws >>= λ n. Ok (Processors n))
    else if bytes_eq verb (codes "slice") then (one_number ws >>= λ n. Ok (Slice n))
    else if bytes_eq verb (codes "terms")
    then (three_numbers ws >>= λ p. Ok (Terms p.0 p.1 p.2))
    else if bytes_eq verb (codes "leaf")
    then (leaf_numbers ws >>= λ p. Ok (Leaf p.0 p.1 p.2 false))
    else if bytes_eq verb (codes "member")
    then (leaf_numbers ws >>= λ p. Ok (Leaf p.0 p.1 p.2 true))
    else if bytes_eq verb (codes "group") then (two_numbers ws >>= λ p. Ok (Group p.0 p.1))
    else (step_of verb ws >>= λ e. Ok (Event e))

abbrev pub input_of : List (List ℕ) → Result Input InputFault
input_of [] = Err BadLine
input_of (verb ∷ ws) = input_behind verb ws
