-- A text is accepted if and only if each of its lines may follow those before it.
use Rattle.std.proofs.Common.{◌≡◌, ◌↔◌, ℕ, suc, ◌+◌, ◌<◌, ◌≤◌, ◌==◌, ◌||◌, List, [], ◌∷◌, length}
use Rattle.std.proofs.Common.{Bool, true, false, Option, None, Some, Result, Ok, Err, refl, ap, sym}
use Rattle.std.proofs.Common.{◌∙◌, arith, if◌then◌else◌, nat_lt}
use Rattle.std.specs.List.{slice_split}
use Rattle.std.proofs.lemmas.Bool.{eqb-true, eq-eqb, ne_eqb, ltb-false, lt-ltb, le-ltb}
use Rattle.std.proofs.lemmas.List.Splits.{length-slice_split}
use Rattle.bw_text.specs.Words.{words}
use Rattle.dispatch.specs.declared.events.Refusal.{Refusal}
use Rattle.dispatch.specs.declared.fault.InputFault.{InputFault}
use Rattle.dispatch.specs.declared.fault.InputFault.TheVariants.{BadLine, BadField, CutShort}
use Rattle.dispatch.specs.declared.input.Input.{Input}
use Rattle.dispatch.specs.declared.input.Input.TheVariants as lines
use Rattle.dispatch.specs.declared.replay.LineFault.{LineFault}
use Rattle.dispatch.specs.declared.replay.LineFault.TheVariants.{Bad}
use Rattle.dispatch.specs.declared.replay.Finding.{Finding}
use Rattle.dispatch.specs.declared.replay.Finding.TheVariants.{Allowed, Refused}
use Rattle.dispatch.specs.Input.{input_of}
use Rattle.dispatch.specs.Replay.{input_fault, input_after, picks_in, at_input, at_line}
use Rattle.dispatch.specs.Replay.{finding_from}
use Rattle.dispatch.specs.Replay.{event_fault, is_out, Spells, MayFollow, AllFollow, picks_of}
use Rattle.dispatch.specs.Replay.{AcceptsExactly, nothing_set}
use Rattle.dispatch.specs.declared.reservation.Account.{Account}
use Rattle.dispatch.specs.declared.reservation.Run.{Run}
use Rattle.dispatch.specs.Reservation.{Reservations}
use Rattle.dispatch.specs.Steps.{allowed}
use Rattle.dispatch.specs.declared.limits.TheConstants.{MAX_PROCESSORS, MAX_SLICE_NS, MAX_AMOUNT}
use Rattle.dispatch.specs.declared.limits.TheConstants.{MAX_TERM_NS}
use Rattle.dispatch.proofs.Exact.{refusal_is_exact, some_not}

-- ---- one input

neither : (a b : Bool) → (a || b) ≡ false → (a ≡ false) × (b ≡ false)
neither true b is = absurd (let clash : true ≡ false = is in cc clash)
neither false b is = (refl, is)

within : (most n : ℕ) → is_out most n ≡ false → (0 < n) × (n ≤ most)
within most n is =
    let p = neither (n == 0) (nat_lt most n) is in
    (some_not n p.0, ltb-false most n p.1)

no_out : (most n : ℕ) → 0 < n → n ≤ most → is_out most n ≡ false
no_out most n some less =
    ap (λ (b : Bool). b || nat_lt most n)
    (ne_eqb n 0 (λ e. let clash : ⊥ = omega (arith, e, some) in clash))
    ∙ le-ltb most n less

empty_of : {X : Type 0} (xs : List X) → nat_lt 0 (length xs) ≡ false → xs ≡ []
empty_of [] is = refl
empty_of (x ∷ xs) is =
    let some : nat_lt 0 (length (x ∷ xs)) ≡ true = lt-ltb 0 (suc (length xs)) (omega arith) in
    absurd (let clash : true ≡ false = sym some ∙ is in cc clash)

made : (r : Result (Unit {0}) Refusal) → event_fault r ≡ None → r ≡ Ok tt
made (Ok u) ok = refl
made (Err f) ok = absurd (cc ok)

-- the two tests of a line that sets something up
two_tests : (a b : Bool) (f g : LineFault)
    → ◌≡◌ {A = Option LineFault} (if a then Some f else if b then Some g else None) None
    → (a ≡ false) × (b ≡ false)
two_tests true b f g ok = absurd (cc ok)
two_tests false true f g ok = absurd (cc ok)
two_tests false false f g ok = (refl, refl)

pass_tests : (a b : Bool) (f g : LineFault) → a ≡ false → b ≡ false
    → ◌≡◌ {A = Option LineFault} (if a then Some f else if b then Some g else None) None
pass_tests true b f g one two = absurd (cc one)
pass_tests false true f g one two = absurd (cc two)
pass_tests false false f g one two = refl

leaf_tests : (a b : Bool) (f g : LineFault)
    → ◌≡◌ {A = Option LineFault} (if a then (if b then Some g else None) else Some f) None
    → (a ≡ true) × (b ≡ false)
leaf_tests false b f g ok = absurd (cc ok)
leaf_tests true true f g ok = absurd (cc ok)
leaf_tests true false f g ok = (refl, refl)

pass_leaf : (a b : Bool) (f g : LineFault) → a ≡ true → b ≡ false
    → ◌≡◌ {A = Option LineFault} (if a then (if b then Some g else None) else Some f) None
pass_leaf false b f g one two = absurd (cc one)
pass_leaf true true f g one two = absurd (cc two)
pass_leaf true false f g one two = refl

event_tests : (a : Bool) (f : LineFault) (o : Option LineFault)
    → ◌≡◌ {A = Option LineFault} (if a then Some f else o) None → (a ≡ false) × (o ≡ None)
event_tests true f o ok = absurd (cc ok)
event_tests false f o ok = (refl, ok)

zero_from : (n : ℕ) → nat_lt 0 n ≡ false → n ≡ 0
zero_from n is = let none = ltb-false 0 n is in omega (arith, none)

follows : (s : Reservations) (i : Input) → input_fault s i ≡ None → MayFollow s i
follows s (lines.Processors n) ok =
    let p = two_tests (nat_lt 0 (length s.processors)) (is_out MAX_PROCESSORS n) (Bad BadLine)
    (Bad BadField) ok in
    let q = within MAX_PROCESSORS n p.1 in
    (empty_of s.processors p.0, q.0, q.1)
follows s (lines.Slice n) ok =
    let p = two_tests (nat_lt 0 s.slice) (is_out MAX_SLICE_NS n) (Bad BadLine) (Bad BadField) ok in
    let q = within MAX_SLICE_NS n p.1 in
    (zero_from s.slice p.0, q.0, q.1)
follows s (lines.Terms q w c) ok =
    let p = two_tests (nat_lt 0 s.quantum || nat_lt 0 (length s.accounts))
    (is_out MAX_TERM_NS q || (nat_lt MAX_TERM_NS w || nat_lt MAX_TERM_NS c)) (Bad BadLine)
    (Bad BadField) ok in
    let set = neither (nat_lt 0 s.quantum) (nat_lt 0 (length s.accounts)) p.0 in
    let out = neither (is_out MAX_TERM_NS q) (nat_lt MAX_TERM_NS w || nat_lt MAX_TERM_NS c) p.1 in
    let two = neither (nat_lt MAX_TERM_NS w) (nat_lt MAX_TERM_NS c) out.1 in
    let first = within MAX_TERM_NS q out.0 in (
      zero_from s.quantum set.0,
      empty_of s.accounts set.1,
      first.0,
      first.1,
      ltb-false MAX_TERM_NS w two.0,
      ltb-false MAX_TERM_NS c two.1,
    )
follows s (lines.Leaf i a g inside) ok =
    let p = leaf_tests (i == length s.accounts) (is_out MAX_AMOUNT a) (Bad BadLine) (Bad BadField)
    ok in
    let q = within MAX_AMOUNT a p.1 in
    (eqb-true i (length s.accounts) p.0, q.0, q.1)
follows s (lines.Group limit burst) ok = tt
follows s (lines.Event e) ok =
    let p = event_tests (s.slice == 0) (Bad BadLine) (event_fault (allowed s e)) ok in
    let q = (refusal_is_exact s e).0 (made (allowed s e) p.1) in
    (some_not s.slice p.0, q.0, q.1)

may_follow : (s : Reservations) (i : Input) → MayFollow s i → input_fault s i ≡ None
may_follow s (lines.Processors n) m =
    pass_tests (nat_lt 0 (length s.processors)) (is_out MAX_PROCESSORS n) (Bad BadLine)
    (Bad BadField) (ap (λ (xs : List (Option Run)). nat_lt 0 (length xs)) m.0)
    (no_out MAX_PROCESSORS n m.1 m.2)
may_follow s (lines.Slice n) m =
    pass_tests (nat_lt 0 s.slice) (is_out MAX_SLICE_NS n) (Bad BadLine) (Bad BadField)
    (ap (λ k. nat_lt 0 k) m.0) (no_out MAX_SLICE_NS n m.1 m.2)
may_follow s (lines.Terms q w c) m =
    pass_tests (nat_lt 0 s.quantum || nat_lt 0 (length s.accounts))
    (is_out MAX_TERM_NS q || (nat_lt MAX_TERM_NS w || nat_lt MAX_TERM_NS c)) (Bad BadLine)
    (Bad BadField)
    (ap (λ k. nat_lt 0 k || nat_lt 0 (length s.accounts)) m.0
    ∙ ap (λ (xs : List Account). nat_lt 0 (length xs)) m.1)
    (ap (λ (b : Bool). b || (nat_lt MAX_TERM_NS w || nat_lt MAX_TERM_NS c))
    (no_out MAX_TERM_NS q m.2 m.3)
    ∙ (ap (λ (b : Bool). b || nat_lt MAX_TERM_NS c) (le-ltb MAX_TERM_NS w m.4)
    ∙ le-ltb MAX_TERM_NS c m.5))
may_follow s (lines.Leaf i a g inside) m =
    pass_leaf (i == length s.accounts) (is_out MAX_AMOUNT a) (Bad BadLine) (Bad BadField)
    (eq-eqb i (length s.accounts) m.0) (no_out MAX_AMOUNT a m.1 m.2)
may_follow s (lines.Group limit burst) m = refl
may_follow s (lines.Event e) m =
    ap (λ (b : Bool). if◌then◌else◌ {A = Option LineFault} b (Some (Bad BadLine))
    (event_fault (allowed s e)))
    (ne_eqb s.slice 0 (λ e. let clash : ⊥ = omega (arith, e, m.0) in clash))
    ∙ ap event_fault ((refusal_is_exact s e).1 (m.1, m.2))

-- ---- all inputs

last_part : (part : List ℕ) (parts : List (List ℕ)) (n picks m : ℕ)
    → ◌≡◌ {A = Finding} (if length part == 0 then Allowed picks else Refused n (Bad CutShort))
    (Allowed m) → length parts ≡ 0 → (part ≡ []) × (parts ≡ []) × (m ≡ picks + 0)
last_part [] [] n picks m ok none =
    let e : picks ≡ m = cc ok in (refl, refl, omega (arith, e))
last_part [] (p ∷ ps) n picks m ok none =
    absurd (let clash : ⊥ = omega (arith, none) in clash)
last_part (x ∷ xs) parts n picks m ok none = absurd (refused (length (x ∷ xs) == 0) off ok) where
  off : (length (x ∷ xs) == 0) ≡ false
  off = ne_eqb (suc (length xs)) 0 (λ e. let clash : ⊥ = omega (arith, e) in clash)

  refused : (b : Bool) → b ≡ false
      → ◌≡◌ {A = Finding} (if b then Allowed picks else Refused n (Bad CutShort)) (Allowed m) → ⊥
  refused true is ok = absurd (cc is)
  refused false is ok = absurd (cc ok)

at_ok : (n m : ℕ) (r : Result Input InputFault) (next : Input → Finding)
    → at_line n r next ≡ Allowed m → (i : Input) × (r ≡ Ok i) × (next i ≡ Allowed m)
at_ok n m (Ok i) next ok = (i, refl, ok)
at_ok n m (Err f) next ok = absurd (cc ok)

input_ok : (n m : ℕ) (o : Option LineFault) (next : Finding) → at_input n o next ≡ Allowed m
    → (o ≡ None) × (next ≡ Allowed m)
input_ok n m None next ok = (refl, ok)
input_ok n m (Some f) next ok = absurd (cc ok)

more_parts : (q : List ℕ) (qs : List (List ℕ)) → (length (q ∷ qs) == 0) ≡ false
more_parts q qs = ne_eqb (suc (length qs)) 0 (λ e. let clash : ⊥ = omega (arith, e) in clash)

accepts : (s : Reservations) (n picks m : ℕ) (part : List ℕ) (parts : List (List ℕ))
    → finding_from s n picks (part ∷ parts) ≡ Allowed m
    → (is : List Input) × Spells (part ∷ parts) is × AllFollow s is × (m ≡ picks + picks_of is)
unfolding finding_from
accepts s n picks m part [] ok =
    let p = last_part part [] n picks m ok refl in
    ([], (p.0, p.1), tt, p.2)
accepts s n picks m part (q ∷ qs) ok =
    let next : Input → Finding = λ (i : Input). at_input n (input_fault s i)
    (finding_from (input_after s i) (n + 1) (picks + picks_in i) (q ∷ qs)) in
    let here : at_line n (input_of (words part)) next ≡ Allowed m =
    ap (λ (b : Bool). if b
    then (if length part == 0 then Allowed picks else Refused n (Bad CutShort))
    else at_line n (input_of (words part)) next) (sym (more_parts q qs))
    ∙ ok in
    let p = at_ok n m (input_of (words part)) next here in
    let i : Input = p.0 in
    let f = input_ok n m (input_fault s i)
    (finding_from (input_after s i) (n + 1) (picks + picks_in i) (q ∷ qs)) p.2 in
    let r = accepts (input_after s i) (n + 1) (picks + picks_in i) m q qs f.1 in
    (i ∷ r.0, (p.1, r.1), (follows s i f.0, r.2), omega (arith, r.3))

accepted : (s : Reservations) (n picks m : ℕ) (part : List ℕ) (parts : List (List ℕ))
    (is : List Input) → Spells (part ∷ parts) is → AllFollow s is → m ≡ picks + picks_of is
    → finding_from s n picks (part ∷ parts) ≡ Allowed m
unfolding finding_from
accepted s n picks m part [] [] spelled all count =
    let same : picks ≡ m = omega (arith, count) in
    ap (λ (xs : List ℕ). if length xs == 0 then Allowed picks else Refused n (Bad CutShort))
    spelled.0
    ∙ ap (λ k. Allowed k) same
accepted s n picks m part [] (i ∷ is) spelled all count = absurd spelled.1
accepted s n picks m part (q ∷ qs) [] spelled all count =
    let e : (q ∷ qs) ≡ [] = spelled.1 in absurd (cc e)
accepted s n picks m part (q ∷ qs) (i ∷ is) spelled all count =
    let rest : Finding =
    finding_from (input_after s i) (n + 1) (picks + picks_in i) (q ∷ qs) in
    let next : Input → Finding = λ (j : Input). at_input n (input_fault s j)
    (finding_from (input_after s j) (n + 1) (picks + picks_in j) (q ∷ qs)) in
    ap (λ (b : Bool). if b
    then (if length part == 0 then Allowed picks else Refused n (Bad CutShort))
    else at_line n (input_of (words part)) next) (more_parts q qs)
    ∙ ap (λ (r : Result Input InputFault). at_line n r next) spelled.0
    ∙ ap (λ (o : Option LineFault). at_input n o rest) (may_follow s i all.0)
    ∙ accepted (input_after s i) (n + 1) (picks + picks_in i) m q qs is spelled.1 all.1
    (omega (arith, count))

accepts_parts : (parts : List (List ℕ)) (m : ℕ) → 0 < length parts
    → (finding_from nothing_set 1 0 parts ≡ Allowed m)
    ↔ ((is : List Input) × Spells parts is × AllFollow nothing_set is × (m ≡ picks_of is))
accepts_parts [] m some = absurd (let clash : ⊥ = omega (arith, some) in clash)
accepts_parts (part ∷ parts) m some = (
  λ ok.
      let r = accepts nothing_set 1 0 m part parts ok in
      (r.0, r.1, r.2, omega (arith, r.3)),
  λ r. accepted nothing_set 1 0 m part parts r.0 r.1 r.2 (omega (arith, r.3)),
)

pub accepts_exactly : AcceptsExactly
accepts_exactly text picks =
    accepts_parts (slice_split (λ b. b == 10) text) picks
    (omega (arith, length-slice_split (λ b. b == 10) text))
