-- The finding on a text, by its first line.
use Rattle.std.proofs.Common.{◌≡◌, ℕ, ◌+◌, ◌≤◌, ◌==◌, List, ◌∷◌, length, Bool}
use Rattle.std.proofs.Common.{false, Option, None, Some, Result, Ok, Err, ap, ◌∙◌}
use Rattle.std.proofs.Common.{arith, if◌then◌else◌}
use Rattle.std.specs.List.{slice_split}
use Rattle.std.proofs.lemmas.List.Splits.{length-slice_split}
use Rattle.std.proofs.lemmas.List.Sums.{count_by-le-length}
use Rattle.std.proofs.lemmas.Bool.{ne_eqb}
use Rattle.bw_text.specs.Words.{words}
use Rattle.dispatch.specs.declared.fault.InputFault.{InputFault}
use Rattle.dispatch.specs.declared.fault.InputFault.TheVariants.{CutShort}
use Rattle.dispatch.specs.declared.reservation.Step.TheVariants.{Pass, Wake, Pick, End, Level}
use Rattle.dispatch.specs.declared.reservation.Step.TheVariants.{Give, Leave, Cut, Stop, Refill}
use Rattle.dispatch.specs.declared.input.Input.{Input}
use Rattle.dispatch.specs.declared.input.Input.TheVariants as lines
use Rattle.dispatch.specs.declared.replay.LineFault.{LineFault}
use Rattle.dispatch.specs.declared.replay.LineFault.TheVariants.{Bad}
use Rattle.dispatch.specs.declared.replay.Finding.{Finding}
use Rattle.dispatch.specs.declared.replay.Finding.TheVariants.{Allowed, Refused}
use Rattle.dispatch.specs.Input.{input_of}
use Rattle.dispatch.specs.Replay.{input_fault, input_after, picks_in, at_input, at_line}
use Rattle.dispatch.specs.Replay.{finding_from}
use Rattle.dispatch.specs.Reservation.{Reservations}

abbrev pub parts : List ℕ → List (List ℕ)
parts text = slice_split (λ b. b == 10) text

pub parts_some : (text : List ℕ) → (length (parts text) == 0) ≡ false
parts_some text =
    ne_eqb (length (parts text)) 0
    (λ e. omega (arith, e, length-slice_split (λ b. b == 10) text))

first_line : (s : Reservations) (n picks : ℕ) (rest line next : List ℕ)
    → parts rest ≡ line ∷ parts next
    → finding_from s n picks (parts rest)
    ≡ at_line n (input_of (words line)) (λ i. at_input n (input_fault s i)
    (finding_from (input_after s i) (n + 1) (picks + picks_in i) (parts next)))
unfolding finding_from
first_line s n picks rest line next split =
    let rec : Input → Finding = λ (i : Input). at_input n (input_fault s i)
    (finding_from (input_after s i) (n + 1) (picks + picks_in i) (parts next)) in
    ap (finding_from s n picks) split
    ∙ ap (λ (b : Bool). if b
    then (if length line == 0 then Allowed picks else Refused n (Bad CutShort))
    else at_line n (input_of (words line)) rec)
    (parts_some next)

pub refused_line : (s : Reservations) (n picks : ℕ) (rest line next : List ℕ) (f : InputFault)
    → parts rest ≡ line ∷ parts next → input_of (words line) ≡ Err f
    → finding_from s n picks (parts rest) ≡ Refused n (Bad f)
refused_line s n picks rest line next f split is =
    first_line s n picks rest line next split
    ∙ ap (λ (r : Result Input InputFault). at_line n r (λ i. at_input n (input_fault s i)
    (finding_from (input_after s i) (n + 1) (picks + picks_in i) (parts next)))) is

pub refused_input : (s : Reservations) (n picks : ℕ) (rest line next : List ℕ) (i : Input)
    (f : LineFault) → parts rest ≡ line ∷ parts next → input_of (words line) ≡ Ok i
    → input_fault s i ≡ Some f → finding_from s n picks (parts rest) ≡ Refused n f
refused_input s n picks rest line next i f split is faulty =
    let after : Finding =
    finding_from (input_after s i) (n + 1) (picks + picks_in i) (parts next) in
    first_line s n picks rest line next split
    ∙ ap (λ (r : Result Input InputFault). at_line n r (λ i. at_input n (input_fault s i)
    (finding_from (input_after s i) (n + 1) (picks + picks_in i) (parts next)))) is
    ∙ ap (λ (o : Option LineFault). at_input n o after) faulty

pub goes_on : (s : Reservations) (n picks : ℕ) (rest line next : List ℕ) (i : Input)
    → parts rest ≡ line ∷ parts next → input_of (words line) ≡ Ok i → input_fault s i ≡ None
    → finding_from s n picks (parts rest)
    ≡ finding_from (input_after s i) (n + 1) (picks + picks_in i) (parts next)
goes_on s n picks rest line next i split is fine =
    let after : Finding =
    finding_from (input_after s i) (n + 1) (picks + picks_in i) (parts next) in
    first_line s n picks rest line next split
    ∙ ap (λ (r : Result Input InputFault). at_line n r (λ i. at_input n (input_fault s i)
    (finding_from (input_after s i) (n + 1) (picks + picks_in i) (parts next)))) is
    ∙ ap (λ (o : Option LineFault). at_input n o after) fine

-- the number of a line is not above the length of the text
pub line_bound : (text rest line next : List ℕ) (n : ℕ) → parts rest ≡ line ∷ parts next
    → n + length (parts rest) ≡ 1 + length (parts text) → n ≤ length text
line_bound text rest line next n split lines =
    omega (
      arith,
      lines,
      ap length split,
      length-slice_split (λ b. b == 10) text,
      count_by-le-length (λ b. b == 10) text,
      length-slice_split (λ b. b == 10) next,
    )

pub lines_go_on : (text rest line next : List ℕ) (n : ℕ) → parts rest ≡ line ∷ parts next
    → n + length (parts rest) ≡ 1 + length (parts text)
    → n + 1 + length (parts next) ≡ 1 + length (parts text)
lines_go_on text rest line next n split lines = omega (arith, lines, ap length split)

pub one_pick : (i : Input) → picks_in i ≤ 1
one_pick (lines.Processors n) = omega arith
one_pick (lines.Slice n) = omega arith
one_pick (lines.Terms q w c) = omega arith
one_pick (lines.Leaf l a g inside) = omega arith
one_pick (lines.Group limit burst) = omega arith
one_pick (lines.Event (Pass n)) = omega arith
one_pick (lines.Event Level) = omega arith
one_pick (lines.Event (Give l a g)) = omega arith
one_pick (lines.Event (Leave l)) = omega arith
one_pick (lines.Event (Cut l)) = omega arith
one_pick (lines.Event (Stop l stops)) = omega arith
one_pick (lines.Event Refill) = omega arith
one_pick (lines.Event (Wake l n)) = omega arith
one_pick (lines.Event (Pick p l)) = omega arith
one_pick (lines.Event (End p u r)) = omega arith
