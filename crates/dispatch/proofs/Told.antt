-- What is told of a text, by its first line.
use Rattle.std.proofs.Common.{◌≡◌, ℕ, ◌+◌, List, ◌∷◌, Bool, Option, None, Some}
use Rattle.std.proofs.Common.{Result, Ok, Err, ap, ◌∙◌, if◌then◌else◌}
use Rattle.bw_text.specs.Words.{words}
use Rattle.dispatch.specs.declared.fault.InputFault.{InputFault}
use Rattle.dispatch.specs.declared.input.Input.{Input}
use Rattle.dispatch.specs.declared.premises.Premises.{Premises}
use Rattle.dispatch.specs.declared.replay.LineFault.{LineFault}
use Rattle.dispatch.specs.Input.{input_of}
use Rattle.dispatch.specs.Premises.{premises_from, told, told_at, told_line}
use Rattle.dispatch.specs.Replay.{input_fault, input_after}
use Rattle.dispatch.specs.Reservation.{Reservations}
use Rattle.dispatch.proofs.Lines.{parts, parts_some}

first_told : (s : Reservations) (n : ℕ) (p : Premises) (rest line next : List ℕ)
    → parts rest ≡ line ∷ parts next
    → premises_from s n p (parts rest)
    ≡ told_line (input_of (words line)) p (λ i. told_at (input_fault s i) p
    (premises_from (input_after s i) (n + 1) (told s n p i) (parts next)))
unfolding premises_from
first_told s n p rest line next split =
    let rec : Input → Premises = λ (i : Input). told_at (input_fault s i) p
    (premises_from (input_after s i) (n + 1) (told s n p i) (parts next)) in
    ap (premises_from s n p) split
    ∙ ap (λ (b : Bool). if b then p else told_line (input_of (words line)) p rec)
    (parts_some next)

pub bad_line : (s : Reservations) (n : ℕ) (p : Premises) (rest line next : List ℕ)
    (f : InputFault) → parts rest ≡ line ∷ parts next → input_of (words line) ≡ Err f
    → premises_from s n p (parts rest) ≡ p
bad_line s n p rest line next f split is =
    first_told s n p rest line next split
    ∙ ap (λ (r : Result Input InputFault). told_line r p (λ i. told_at (input_fault s i) p
    (premises_from (input_after s i) (n + 1) (told s n p i) (parts next)))) is

pub bad_input : (s : Reservations) (n : ℕ) (p : Premises) (rest line next : List ℕ) (i : Input)
    (f : LineFault) → parts rest ≡ line ∷ parts next → input_of (words line) ≡ Ok i
    → input_fault s i ≡ Some f → premises_from s n p (parts rest) ≡ p
bad_input s n p rest line next i f split is faulty =
    let after : Premises =
    premises_from (input_after s i) (n + 1) (told s n p i) (parts next) in
    first_told s n p rest line next split
    ∙ ap (λ (r : Result Input InputFault). told_line r p (λ i. told_at (input_fault s i) p
    (premises_from (input_after s i) (n + 1) (told s n p i) (parts next)))) is
    ∙ ap (λ (o : Option LineFault). told_at o p after) faulty

pub next_told : (s : Reservations) (n : ℕ) (p : Premises) (rest line next : List ℕ) (i : Input)
    → parts rest ≡ line ∷ parts next → input_of (words line) ≡ Ok i → input_fault s i ≡ None
    → premises_from s n p (parts rest)
    ≡ premises_from (input_after s i) (n + 1) (told s n p i) (parts next)
next_told s n p rest line next i split is fine =
    let after : Premises =
    premises_from (input_after s i) (n + 1) (told s n p i) (parts next) in
    first_told s n p rest line next split
    ∙ ap (λ (r : Result Input InputFault). told_line r p (λ i. told_at (input_fault s i) p
    (premises_from (input_after s i) (n + 1) (told s n p i) (parts next)))) is
    ∙ ap (λ (o : Option LineFault). told_at o p after) fine
