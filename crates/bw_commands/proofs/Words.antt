-- A text may be cut where a blank stands, and behind blanks.
use Rattle.std.proofs.Common.{◌≡◌, ◌<◌, not, ℕ, zero, suc, List, length, true, false, refl, subst}
use Rattle.std.proofs.Common.{arith, get_or, Option, Some, None, inl, inr, Bool, drop, ◌+◌, ◌-◌}
use Rattle.std.proofs.Common.{sym, ap, ◌∙◌}
use Rattle.std.specs.Prelude.{position, unwrap_or}
use Rattle.std.specs.Str.{IsUtf8, IsCharBoundary}
use Rattle.std.specs.List.{position_or_len}
use Rattle.std.proofs.lemmas.Bool.{cases_lt, lt-ltb, le-ltb}
use Rattle.std.proofs.lemmas.Bool.Decides.{eqb_tells}
use Rattle.std.proofs.lemmas.List.{drop_all, drop-drop, length-drop}
use Rattle.std.proofs.lemmas.List.Sums.{prefix_len-le-length}
use Rattle.std.proofs.lemmas.List.Quantifiers.{position-Some}
use Rattle.std.proofs.lemmas.Str.{IsCharBoundary-start, IsCharBoundary-end}
use Rattle.std.proofs.lemmas.Str.{IsCharBoundary-before_ascii, IsCharBoundary-after_ascii}
use Rattle.bw_commands.specs.Word.{is_blank, word_len_of, blank_len_of, after_word, end_of}

-- the place of the first byte that passes, or the length
pub position_or_len_is_word : (p : ℕ → Bool) (xs : List ℕ)
    → position_or_len p xs ≡ unwrap_or (position p xs) (length xs)
position_or_len_is_word p xs =
    let first = position_or_len p xs in
    elim (cases_lt first (length xs)) [
      | inl lt ↦ rw (lt-ltb first (length xs) lt) refl
      | inr past ↦ rw (le-ltb first (length xs) past)
          (omega (arith, prefix_len-le-length (λ x. not (p x)) xs))
    ]

pub blank-lt : (b : ℕ) → is_blank b ≡ true → b < 128
blank-lt b e = elim (eqb_tells b 32) [
  | inl h ↦ omega (arith, h.1)
  | inr h ↦ elim (eqb_tells b 9) [
    | inl k ↦ omega (arith, k.1)
    | inr k ↦ absurd (no (rw (h.0, k.0) at e))
  ]
]
  where
    no : false ≡ true → ⊥
    no e = cc

at_blank : (bs : List ℕ) (o : Option ℕ) → position is_blank bs ≡ o
    → IsCharBoundary bs (unwrap_or o (length bs))
at_blank bs None e = IsCharBoundary-end bs
at_blank bs (Some i) e =
    let p = position-Some is_blank bs i 0 e in
    IsCharBoundary-before_ascii bs i p.0 (blank-lt (get_or bs i 0) p.1)

pub IsCharBoundary-word_len_of : (bs : List ℕ) → IsCharBoundary bs (word_len_of bs)
IsCharBoundary-word_len_of bs = at_blank bs (position is_blank bs) refl

blank_from : (b : ℕ) → not (is_blank b) ≡ false → is_blank b ≡ true
blank_from b = go (is_blank b)
  where
    go : (t : Bool) → not t ≡ false → t ≡ true
    go true e = refl
    go false e = cc

behind : (bs : List ℕ) (i : ℕ) → IsUtf8 bs → i < length bs
    → ((k : ℕ) → k < i → not (is_blank (get_or bs k 0)) ≡ false) → IsCharBoundary bs i
behind bs zero u lt before = IsCharBoundary-start bs u
behind bs (suc j) u lt before =
    let at = blank-lt (get_or bs j 0) (blank_from (get_or bs j 0) (before j (omega arith))) in
    subst (IsCharBoundary bs) (omega arith)
    (IsCharBoundary-after_ascii bs j u (omega (arith, lt)) at)

behind_blanks : (bs : List ℕ) (o : Option ℕ) → IsUtf8 bs → position (λ b. not (is_blank b)) bs ≡ o
    → IsCharBoundary bs (unwrap_or o (length bs))
behind_blanks bs None u e = IsCharBoundary-end bs
behind_blanks bs (Some i) u e =
    let p = position-Some (λ b. not (is_blank b)) bs i 0 e in
    behind bs i u p.0 p.2

pub IsCharBoundary-blank_len_of : (bs : List ℕ) → IsUtf8 bs → IsCharBoundary bs (blank_len_of bs)
IsCharBoundary-blank_len_of bs u = behind_blanks bs (position (λ b. not (is_blank b)) bs) u refl

-- ---- the end of a text

drop_is_end : (k : ℕ) (xs : List ℕ) → drop k xs ≡ end_of (length (drop k xs)) xs
drop_is_end k xs = elim (cases_lt (length xs) k) [
  | inl past ↦ drop_all k xs (omega arith)
      ∙ sym (drop_all (length xs - length (drop k xs)) xs (omega (arith, length-drop k xs)))
  | inr within ↦ ap (λ j. drop j xs)
      (let at : k ≡ length xs - length (drop k xs) = omega (arith, length-drop k xs) in at)
]

behind_word : (text : List ℕ) → (k : ℕ) × (after_word text ≡ drop k text)
unfolding after_word
behind_word text =
    let blanks = blank_len_of text in
    let word = word_len_of (drop blanks text) in
    (blanks + word, drop-drop word blanks text)

-- what stands behind the second word
pub after_words_is_end : (line : List ℕ)
    → after_word (after_word line) ≡ end_of (length (after_word (after_word line))) line
after_words_is_end line =
    let one = behind_word line in
    let two = behind_word (after_word line) in
    let is : after_word (after_word line) ≡ drop (one.0 + two.0) line =
    two.1 ∙ ap (drop two.0) one.1 ∙ drop-drop two.0 one.0 line in
    subst (λ ys. ys ≡ end_of (length ys) line) (sym is) (drop_is_end (one.0 + two.0) line)
