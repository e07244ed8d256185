-- Reading byte by byte gives the transcript of the lines.
use Rattle.std.proofs.Common.{◌≡◌, ◌≤◌, ◌+◌, ◌-◌, ◌==◌, false, min, ℕ, zero, suc, List, take}
use Rattle.std.proofs.Common.{[], ◌∷◌, ◌++◌, refl, sym, ◌∙◌, ap, subst, arith}
use Rattle.std.proofs.Common.{append_assoc, append-nil, length-append, length, Some, inl, inr}
use Rattle.std.specs.Prelude.{Result}
use Rattle.std.proofs.lemmas.Bool.{cases_lt, lt-ltb, le-ltb}
use Rattle.std.proofs.lemmas.Bool.Decides.{eqb_tells}
use Rattle.bw_commands.specs.State.{State}
use Rattle.bw_commands.specs.Script.{Outcome, IsAnswer, IsOutcome, outcome_of_kept, kept_of}
use Rattle.bw_commands.specs.Script.{outcome_of_request, request_of_kept}
use Rattle.bw_commands.specs.Command.{Command}
use Rattle.bw_commands.specs.Script.Outcome.{Silent, Says, Prints, Total, Plan, Cert, Period}
use Rattle.bw_commands.specs.Script.Outcome.{Report}
use Rattle.bw_commands.specs.Faults.{error_line}
use Rattle.bw_commands.specs.declared.fault.ScriptFault.TheVariants.{OutOfMemory}
use Rattle.bw_commands.specs.declared.fault.ScriptFault.{ScriptFault}
use Rattle.bw_shell.specs.Transcript.{Answers, IsTranscript}
use Rattle.bw_commands.specs.Lines.{lines_of, whole_lines_of}
use Rattle.bw_shell.specs.Scan.{Scan, TakesByte, TakesBytes, TakesLine, Finishes, kept_with}
use Rattle.bw_shell.specs.Scan.{kept_after, begin}
use Rattle.bw_commands.proofs.CallerLemmas.{kept_of-long, kept_of-short}
use Rattle.bw_shell.proofs.LineLemmas.{NoNewline, last_line, NoNewline-push, lines_of-cut}
use Rattle.bw_shell.proofs.LineLemmas.{whole_lines_of-cut, lines_of-newline, whole_lines_of-newline}

-- ---- runs of bytes

pub TakesBytes-append : (xs ys t u : List ℕ) (a b c : Scan) → TakesBytes a xs t b
    → TakesBytes b ys u c → TakesBytes a (xs ++ ys) (t ++ u) c
unfolding TakesBytes
TakesBytes-append [] ys t u a b c p q =
    subst (λ l. TakesBytes a ys (l ++ u) c) (sym p.0) (subst (λ m. TakesBytes m ys u c) p.1 q)
TakesBytes-append (x ∷ xs) ys t u a b c p q = (
  p.0,
  p.1 ++ u,
  p.2,
  p.3,
  TakesBytes-append xs ys p.1 u p.2 b c p.4 q,
  ap (λ l. l ++ u) p.5 ∙ append_assoc p.0 p.1 u,
)

pub TakesBytes-nil : (a : Scan) → TakesBytes a [] [] a
unfolding TakesBytes
TakesBytes-nil a = (refl, refl)

pub TakesBytes-one : (a b : Scan) (x : ℕ) (t : List ℕ) → TakesByte a x t b
    → TakesBytes a (x ∷ []) t b
unfolding TakesBytes
TakesBytes-one a b x t p = (t, [], b, p, (refl, refl), sym (append-nil t))

not_newline : (x : ℕ) → (x == 10) ≡ false → x ≡ 10 → ⊥
not_newline x f e = elim (eqb_tells x 10) [
  | inl h ↦ let bad = sym h.0 ∙ f in cc
  | inr h ↦ h.1 e
]

-- bytes without a newline are kept
pub TakesBytes-clean : (xs : List ℕ) (a : Scan) → NoNewline xs
    → TakesBytes a xs [] (record a { kept = kept_after a.kept xs })
unfolding TakesBytes
TakesBytes-clean [] a n = (refl, refl)
TakesBytes-clean (x ∷ xs) a n = (
  [],
  [],
  record a { kept = kept_with a.kept x },
  record { newline = λ e. absurd (not_newline x n.0 e); other = λ ne. (refl, refl) },
  TakesBytes-clean xs (record a { kept = kept_with a.kept x }) n.1,
  refl,
)

-- and with a newline behind them they end the line in hand
pub TakesBytes-line : (front text : List ℕ) (a b : Scan) → NoNewline front
    → TakesLine a front text b → TakesBytes a (front ++ 10 ∷ []) text b
TakesBytes-line front text a b n h =
    TakesBytes-append front (10 ∷ []) [] text a (record a { kept = kept_after a.kept front }) b
    (TakesBytes-clean front a n)
    (TakesBytes-one (record a { kept = kept_after a.kept front }) b 10 text
    (record { newline = λ e. h; other = λ ne. absurd (ne refl) }))

-- each line has an answer, since where it takes memory that may always be wanting
pub answered : (s : State) (o : Outcome) → (text : List ℕ) × (t : State) × IsOutcome s o text t
answered s Silent = ([], s, inl (refl, refl))
answered s (Says text after) = (text, after, inl (refl, refl))
answered s (Prints text after) = (text, after, inl (refl, refl))
answered s Total = (error_line OutOfMemory, s, inr (refl, refl))
answered s Plan = (error_line OutOfMemory, s, inr (refl, refl))
answered s Cert = (error_line OutOfMemory, s, inr (refl, refl))
answered s Period = (error_line OutOfMemory, s, inr (inl refl, refl))
answered s Report = (error_line OutOfMemory, s, inr (refl, refl))

-- the answer to what a line asks for is the line's
pub line_answers : (s : State) (line text : List ℕ) (t : State)
    (asked : Result Command ScriptFault) → asked ≡ request_of_kept (kept_of line)
    → IsOutcome s (outcome_of_request s asked) text t → IsAnswer s line text t
unfolding outcome_of_kept
line_answers s line text t asked e p =
    subst (λ r. IsOutcome s (outcome_of_request s r) text t) e p

-- so each byte can be taken
TakesByte-total : (a : Scan) (x : ℕ) → (t : List ℕ) × (b : Scan) × TakesByte a x t b
TakesByte-total a x =
    let o = answered a.state (outcome_of_kept a.state a.kept) in
    elim (eqb_tells x 10) [
      | inl h ↦ (
        o.0,
        record { state = o.1; kept = Some [] },
        record {
          newline = λ e. record { answer = o.2; empty = refl };
          other = λ ne. absurd (ne h.1);
        },
      )
      | inr h ↦ (
        [],
        record a { kept = kept_with a.kept x },
        record { newline = λ e. absurd (h.1 e); other = λ ne. (refl, refl) },
      )
    ]

pub TakesBytes-total : (xs : List ℕ) (a : Scan) → (t : List ℕ) × (b : Scan) × TakesBytes a xs t b
unfolding TakesBytes
TakesBytes-total [] a = ([], a, (refl, refl))
TakesBytes-total (x ∷ xs) a =
    let one = TakesByte-total a x in
    let more = TakesBytes-total xs one.1 in
    (one.0 ++ more.0, more.1, (one.0, more.0, one.1, one.2, more.2, refl))

-- ---- runs of lines

pub Answers-append : (xs ys : List (List ℕ)) (t u : List ℕ) (a b c : State) → Answers a xs t b
    → Answers b ys u c → Answers a (xs ++ ys) (t ++ u) c
unfolding Answers
Answers-append [] ys t u a b c p q =
    subst (λ l. Answers a ys (l ++ u) c) (sym p.0) (subst (λ m. Answers m ys u c) p.1 q)
Answers-append (x ∷ xs) ys t u a b c p q = (
  p.0,
  p.1 ++ u,
  p.2,
  p.3,
  Answers-append xs ys p.1 u p.2 b c p.4 q,
  ap (λ l. l ++ u) p.5 ∙ append_assoc p.0 p.1 u,
)

pub Answers-one : (s t : State) (line text : List ℕ) → IsAnswer s line text t
    → Answers s (line ∷ []) text t
unfolding Answers
Answers-one s t line text p = (text, [], t, p, (refl, refl), sym (append-nil text))

-- ---- what is kept of a line

kept_with-kept_of : (cur : List ℕ) (x : ℕ) → kept_with (kept_of cur) x ≡ kept_of (cur ++ x ∷ [])
kept_with-kept_of cur x =
    let len : length (cur ++ x ∷ []) ≡ length cur + 1 = length-append cur (x ∷ []) in
    elim (cases_lt 65536 (length cur)) [
      | inl h ↦ ap (λ k. kept_with k x) (kept_of-long cur h)
          ∙ sym (kept_of-long (cur ++ x ∷ []) (omega (arith, len)))
      | inr h ↦ ap (λ k. kept_with k x) (kept_of-short cur h) ∙ elim (cases_lt (length cur) 65536) [
        | inl lt ↦ rw (lt-ltb (length cur) 65536 lt)
            (sym (kept_of-short (cur ++ x ∷ []) (omega (arith, len))))
        | inr ge ↦ rw (le-ltb (length cur) 65536 ge)
            (sym (kept_of-long (cur ++ x ∷ []) (omega (arith, len))))
      ]
    ]

pub kept_of-cons : (x : ℕ) (xs : List ℕ) → kept_of (x ∷ xs) ≡ Some [] → ⊥
kept_of-cons x xs e = elim (cases_lt 65536 (length (x ∷ xs))) [
  | inl h ↦ let bad = sym (kept_of-long (x ∷ xs) h) ∙ e in cc
  | inr h ↦ let bad = sym (kept_of-short (x ∷ xs) h) ∙ e in cc
]

pub kept_after-kept_of : (line bytes : List ℕ)
    → kept_after (kept_of line) bytes ≡ kept_of (line ++ bytes)
kept_after-kept_of line [] = ap kept_of (sym (append-nil line))
kept_after-kept_of line (b ∷ bytes) =
    ap (λ k. kept_after k bytes) (kept_with-kept_of line b)
    ∙ kept_after-kept_of (line ++ b ∷ []) bytes
    ∙ ap kept_of (append_assoc line (b ∷ []) bytes)

take_all : (n : ℕ) (xs : List ℕ) → length xs ≤ n → take n xs ≡ xs
take_all zero [] h = refl
take_all zero (x ∷ xs) h = absurd (let bad : ⊥ = omega (arith, h) in bad)
take_all (suc n) [] h = refl
take_all (suc n) (x ∷ xs) h = ap (λ l. x ∷ l) (take_all n xs (omega (arith, h)))

length_take : (n : ℕ) (xs : List ℕ) → n ≤ length xs → length (take n xs) ≡ n
length_take zero xs h = refl
length_take (suc n) [] h = absurd (let bad : ⊥ = omega (arith, h) in bad)
length_take (suc n) (x ∷ xs) h = ap suc (length_take n xs (omega (arith, h)))

-- one byte more than a line may have tells as much as all of a line that is too long
pub kept_of-cut : (line bytes : List ℕ) (n : ℕ) → n ≡ min (length bytes) (65537 - length line)
    → length line ≤ 65537
    → kept_of (line ++ take n bytes) ≡ kept_after (kept_of line) bytes
kept_of-cut line bytes n e h = elim (cases_lt n (length bytes)) [
  | inl lt ↦
      let all : length (line ++ bytes) ≡ length line + length bytes = length-append line bytes in
      let cut : length (line ++ take n bytes) ≡ length line + length (take n bytes) =
      length-append line (take n bytes) in
      let some : length (take n bytes) ≡ n = length_take n bytes (omega (arith, lt)) in
      kept_of-long (line ++ take n bytes) (omega (arith, cut, some, e, h, lt))
      ∙ sym (kept_of-long (line ++ bytes) (omega (arith, all, e, h, lt)))
      ∙ sym (kept_after-kept_of line bytes)
  | inr ge ↦ ap (λ l. kept_of (line ++ l)) (take_all n bytes ge)
      ∙ sym (kept_after-kept_of line bytes)
]

-- the answer to what is kept ends the line in hand
pub TakesLine-kept : (s t : State) (whole line after front text : List ℕ)
    → kept_of whole ≡ kept_after (kept_of line) front → after ≡ []
    → IsAnswer s whole text t
    → TakesLine (record { state = s; kept = kept_of line }) front text
    (record { state = t; kept = kept_of after })
TakesLine-kept s t whole line after front text same empty p = record {
  answer = subst (λ k. IsOutcome s (outcome_of_kept s k) text t) same p;
  empty = ap kept_of empty;
}

-- ---- bytes and lines

-- From s, behind a front of a line, these bytes print this text: the answers to the whole lines,
-- with some of a last
-- line kept.
pub record Scanned (s : State) (cur xs text : List ℕ) (b : Scan) : Type 0 where
  pub cut : List ℕ
  pub kept : b.kept ≡ kept_of cut
  pub whole : Answers s (whole_lines_of (cur ++ xs)) text b.state
  pub all : lines_of (cur ++ xs) ≡ whole_lines_of (cur ++ xs) ++ last_line cut

at : State → List ℕ → Scan
at s cur = record { state = s; kept = kept_of cur }

scanned : (xs : List ℕ) (s : State) (cur text : List ℕ) (b : Scan) → NoNewline cur
    → TakesBytes (at s cur) xs text b → Scanned s cur xs text b
unfolding TakesBytes at Answers
scanned [] s cur text b clean p =
    let none : whole_lines_of (cur ++ []) ≡ [] = rw append-nil (whole_lines_of-cut cur clean) in
    let all : lines_of (cur ++ []) ≡ last_line cur = rw append-nil (lines_of-cut cur clean) in
    record {
      cut = cur;
      kept = ap (λ (m : Scan). m.kept) p.1;
      whole = rw none (p.0, ap (λ (m : Scan). m.state) p.1);
      all = rw (all, none) refl;
    }
scanned (x ∷ xs) s cur text b clean p = elim (eqb_tells x 10) [
  | inl h ↦
      let step = p.3.newline h.1 in
      let more : TakesBytes (at p.2.state []) xs p.1 b =
      subst (λ k. TakesBytes (record { state = p.2.state; kept = k }) xs p.1 b) step.empty p.4 in
      let next = scanned xs p.2.state [] p.1 b tt more in
      let whole : whole_lines_of (cur ++ x ∷ xs) ≡ cur ∷ whole_lines_of xs =
      rw h.1 (whole_lines_of-newline cur xs clean) in
      let all : lines_of (cur ++ x ∷ xs) ≡ cur ∷ lines_of xs =
      rw h.1 (lines_of-newline cur xs clean) in
      record {
        cut = next.cut;
        kept = next.kept;
        whole = rw whole (p.0, p.1, p.2.state, step.answer, next.whole, p.5);
        all = rw (all, whole) (ap (λ l. cur ∷ l) next.all);
      }
  | inr h ↦
      let step = p.3.other h.1 in
      let here : p.2 ≡ at s (cur ++ x ∷ []) =
      step.1 ∙ ap (λ k. record { state = s; kept = k }) (kept_with-kept_of cur x) in
      let more : TakesBytes (at s (cur ++ x ∷ [])) xs p.1 b =
      subst (λ m. TakesBytes m xs p.1 b) here p.4 in
      let next = scanned xs s (cur ++ x ∷ []) p.1 b (NoNewline-push cur x clean h.0) more in
      let same : text ≡ p.1 = p.5 ∙ ap (λ l. l ++ p.1) step.0 in
      let moved : (cur ++ x ∷ []) ++ xs ≡ cur ++ x ∷ xs = append_assoc cur (x ∷ []) xs in
      record {
        cut = next.cut;
        kept = next.kept;
        whole = subst (λ l. Answers s (whole_lines_of l) text b.state) moved
            (subst (λ l. Answers s (whole_lines_of ((cur ++ x ∷ []) ++ xs)) l b.state) (sym same)
            next.whole);
        all = subst (λ l. lines_of l ≡ whole_lines_of l ++ last_line next.cut) moved next.all;
      }
]

from_begin : (s : State) (xs text : List ℕ) (b : Scan) → TakesBytes (begin s) xs text b
    → Scanned s [] xs text b
unfolding at
from_begin s xs text b p = scanned xs s [] text b tt p

-- what was printed is the transcript of the whole lines
pub whole_transcript : (s : State) (xs text : List ℕ) (b : Scan) → TakesBytes (begin s) xs text b
    → IsTranscript s (whole_lines_of xs) text
whole_transcript s xs text b p = (b.state, (from_begin s xs text b p).whole)

last_answer : (cut : List ℕ) (b : Scan) (text : List ℕ) → b.kept ≡ kept_of cut → Finishes b text
    → (t : State) × Answers b.state (last_line cut) text t
unfolding Answers
last_answer [] b text k f = (b.state, (f.none k, refl))
last_answer (x ∷ xs) b text k f =
    let ends = f.last (λ e. kept_of-cons x xs (sym k ∙ e)) in (
      ends.0,
      Answers-one b.state ends.0 (x ∷ xs) text
          (subst (λ o. IsOutcome b.state (outcome_of_kept b.state o) text ends.0) k ends.1),
    )

-- at the end it is the transcript of all lines
pub all_transcript : (s : State) (xs text last : List ℕ) (b : Scan) → TakesBytes (begin s) xs text b
    → Finishes b last
    → IsTranscript s (lines_of xs) (text ++ last)
all_transcript s xs text last b p f =
    let whole = from_begin s xs text b p in
    let end = last_answer whole.cut b last whole.kept f in (
      end.0,
      subst (λ l. Answers s l (text ++ last) end.0) (sym whole.all)
          (Answers-append (whole_lines_of xs) (last_line whole.cut) text last s b.state end.0
          whole.whole end.1),
    )
