-- What is spelled is read.
use Rattle.std.proofs.Common.{◌≡◌, ℕ, ◌<◌, ◌≤◌, ◌^◌, Bool, true, false, eqb, List, [], ◌∷◌, ◌++◌}
use Rattle.std.proofs.Common.{length, get_or, Option, Some, None, Ok, refl, ap, ◌∙◌}
use Rattle.std.proofs.Common.{append_assoc, inl, inr, arith}
use Rattle.std.specs.Prelude.{codes, IfSome}
use Rattle.std.specs.List.{slice_split, join_with_byte, AllByRecursion, All}
use Rattle.std.specs.Str.{bytes_eq}
use Rattle.std.specs.Fmt.{decimal}
use Rattle.std.proofs.lemmas.Bool.{lt-ltb, cases_Bool}
use Rattle.std.proofs.lemmas.Bool.Decides.{nat_tests}
use Rattle.std.proofs.lemmas.Fmt.{decimal_nonempty}
use Rattle.std.proofs.lemmas.List.{length-append}
use Rattle.std.proofs.lemmas.List.Elements.{All-append, All-from_recursion, recursion_from_All}
use Rattle.std.proofs.lemmas.List.Splits.{slice_split_at, slice_split_none}
use Rattle.std.proofs.lemmas.Slice.Eq.{bytes_eq-Decides}
use Rattle.bw_text.specs.Number.{number_read}
use Rattle.bw_text.proofs.CallerLemmas.{digit_range, decimal_is_read, digits_of_decimal}
use Rattle.bw_model.specs.Marks.{MarkValue}
use Rattle.bw_cert.specs.Spelling.{text_lines, words_of, line, parent_word, limit_word, flag_word}
use Rattle.bw_cert.specs.Spelling.{level_word, IsSmallLevel}
use Rattle.bw_cert.specs.Reading.{number_at, u32_at, parent_at, limit_at, flag_at, mark_at}
use Rattle.bw_cert.specs.Reading.{level_in_word}

pub number_again : (n : ℕ) → n < 2 ^ 64 → number_at (decimal n) ≡ Ok n
number_again n h = rw (decimal_is_read n h) refl

u32_again : (n : ℕ) → n < 2 ^ 32 → u32_at (decimal n) ≡ Ok n
u32_again n h = rw (number_again n (omega arith), lt-ltb n (2 ^ 32) h) refl

-- two words of which one is a number and the other is none
apart : (n : ℕ) (word : List ℕ) → n < 2 ^ 64 → (number_read word ≡ Ok n → ⊥)
    → bytes_eq (decimal n) word ≡ false
apart n word h none =
    elim (cases_Bool (bytes_eq (decimal n) word)) [
      | inl e ↦ absurd
          (none (rw ((bytes_eq-Decides (decimal n) word).0 e) at (decimal_is_read n h)))
      | inr e ↦ e
    ]

no_dash : (n : ℕ) → number_read (codes "-") ≡ Ok n → ⊥
no_dash n e = cc

no_max : (n : ℕ) → number_read (codes "max") ≡ Ok n → ⊥
no_max n e = cc

pub parent_again : (o : Option ℕ) → IfSome o (λ n. n < 2 ^ 32) → parent_at (parent_word o) ≡ Ok o
parent_again None h = refl
parent_again (Some n) h = rw (apart n (codes "-") (omega arith) (no_dash n), u32_again n h) refl

pub limit_again : (o : Option ℕ) → IfSome o (λ n. n < 2 ^ 64) → limit_at (limit_word o) ≡ Ok o
limit_again None h = refl
limit_again (Some n) h = rw (apart n (codes "max") h (no_max n), number_again n h) refl

pub flag_again : (flag : Bool) → flag_at (flag_word flag) ≡ Ok flag
flag_again true = refl
flag_again false = refl

-- no such byte stands in the word
abbrev pub IsFree : ℕ → List ℕ → Type 0
IsFree c word = All (λ b. eqb b c ≡ false) word

-- each byte is above a space
abbrev pub IsPlain : List ℕ → Type 0
IsPlain word = All (λ b. 33 ≤ b) word

differs : (b c : ℕ) → c < b → eqb b c ≡ false
differs b c h = grind (arith, nat_tests)

plain_free : (c : ℕ) (word : List ℕ) → c < 33 → IsPlain word → IsFree c word
plain_free c word small p = λ k d lt. differs (get_or word k d) c (omega (arith, p k d lt))

pub digits_plain : (n : ℕ) → n < 2 ^ 64 → IsPlain (decimal n)
digits_plain n h = λ k d lt. let r =
    digit_range (get_or (decimal n) k d) (digits_of_decimal n h k d lt) in omega (arith, r.0)

digits_free : (c n : ℕ) → n < 2 ^ 64 → c < 48 → IsFree c (decimal n)
digits_free c n h small = λ k d lt.
    let r = digit_range (get_or (decimal n) k d) (digits_of_decimal n h k d lt) in
    differs (get_or (decimal n) k d) c (omega (arith, r.0))

above : (b c : ℕ) → b < c → eqb b c ≡ false
above b c h = grind (arith, nat_tests)

digits_below : (c n : ℕ) → n < 2 ^ 64 → 57 < c → IsFree c (decimal n)
digits_below c n h great = λ k d lt.
    let r = digit_range (get_or (decimal n) k d) (digits_of_decimal n h k d lt) in
    above (get_or (decimal n) k d) c (omega (arith, r.1))

-- a byte and a word behind it
free_cons : (c b : ℕ) (word : List ℕ) → eqb b c ≡ false → IsFree c word → IsFree c (b ∷ word)
free_cons c b word e h = All-from_recursion (λ b. eqb b c ≡ false) (b ∷ word)
    (e, recursion_from_All (λ b. eqb b c ≡ false) word h)

two_parts : (c : ℕ) (front back : List ℕ) → eqb c c ≡ true → IsFree c front → IsFree c back
    → slice_split (λ b. eqb b c) (front ++ c ∷ back) ≡ front ∷ back ∷ []
two_parts c front back here f g =
    slice_split_at (λ b. eqb b c) front c back f here
    ∙ ap (λ (ps : List (List ℕ)). front ∷ ps) (slice_split_none (λ b. eqb b c) back g)

mark_again : (l : MarkValue) → IsSmallLevel l → mark_at (level_word (Some l)) ≡ Ok (Some l)
unfolding mark_at
mark_again l h =
    let grouped : level_word (Some l) ≡ decimal l.num
    ++ 47 ∷ (decimal l.den ++ 64 ∷ decimal l.place) = simp append_assoc in
    let tail : IsFree 47 (decimal l.den ++ 64 ∷ decimal l.place) =
    All-append (λ b. eqb b 47 ≡ false) (decimal l.den) (64 ∷ decimal l.place)
    (digits_free 47 l.den h.den (omega arith))
    (free_cons 47 64 (decimal l.place) refl
    (digits_free 47 l.place (omega (arith, h.place)) (omega arith))) in
    let outer = two_parts 47 (decimal l.num) (decimal l.den ++ 64 ∷ decimal l.place) refl
    (digits_free 47 l.num h.num (omega arith)) tail in
    let inner = two_parts 64 (decimal l.den) (decimal l.place) refl
    (digits_below 64 l.den h.den (omega arith))
    (digits_below 64 l.place (omega (arith, h.place)) (omega arith)) in
    ap mark_at grouped ∙ rw (
      outer,
      inner,
      number_again l.num h.num,
      number_again l.den h.den,
      u32_again l.place h.place,
      lt-ltb 0 l.num h.some_num,
      lt-ltb 0 l.den h.some_den,
    ) refl

no_level : (l : MarkValue) → level_word (Some l) ≡ codes "-" → 0 < length (decimal l.num) → ⊥
no_level l e some = omega (arith, some, simp length-append at (ap length e))

pub level_again : (o : Option MarkValue) → IfSome o IsSmallLevel
    → level_in_word (level_word o) ≡ Ok o
level_again None h = refl
level_again (Some l) h =
    elim (cases_Bool (bytes_eq (level_word (Some l)) (codes "-"))) [
      | inl e ↦ absurd
          (no_level l ((bytes_eq-Decides (level_word (Some l)) (codes "-")).0 e)
          (decimal_nonempty l.num h.num))
      | inr e ↦ rw e (mark_again l h)
    ]

-- words with spaces between them, cut at the spaces
cut_again : (c : ℕ) (first : List ℕ) (others : List (List ℕ)) → eqb c c ≡ true
    → AllByRecursion (IsFree c) (first ∷ others)
    → slice_split (λ b. eqb b c) (join_with_byte c (first ∷ others)) ≡ first ∷ others
cut_again c first [] here h = slice_split_none (λ b. eqb b c) first h.0
cut_again c first (second ∷ others) here h =
    slice_split_at (λ b. eqb b c) first c (join_with_byte c (second ∷ others)) h.0 here
    ∙ ap (λ (ps : List (List ℕ)). first ∷ ps) (cut_again c second others here h.1)

-- no newline among the words
join_free : (first : List ℕ) (others : List (List ℕ)) → AllByRecursion IsPlain (first ∷ others)
    → IsFree 10 (join_with_byte 32 (first ∷ others))
join_free first [] h = plain_free 10 first (omega arith) h.0
join_free first (second ∷ others) h =
    All-append (λ b. eqb b 10 ≡ false) first (32 ∷ join_with_byte 32 (second ∷ others))
    (plain_free 10 first (omega arith) h.0)
    (free_cons 10 32 (join_with_byte 32 (second ∷ others)) refl (join_free second others h.1))

spaces_free : (ws : List (List ℕ)) → AllByRecursion IsPlain ws → AllByRecursion (IsFree 32) ws
spaces_free [] h = tt
spaces_free (w ∷ ws) h = (plain_free 32 w (omega arith) h.0, spaces_free ws h.1)

pub words_again : (first : List ℕ) (others : List (List ℕ))
    → AllByRecursion IsPlain (first ∷ others)
    → words_of (join_with_byte 32 (first ∷ others)) ≡ first ∷ others
words_again first others h = cut_again 32 first others refl (spaces_free (first ∷ others) h)

pub line_again : (first : List ℕ) (others : List (List ℕ)) (rest : List ℕ)
    → AllByRecursion IsPlain (first ∷ others)
    → text_lines (line (first ∷ others) ++ rest)
    ≡ join_with_byte 32 (first ∷ others) ∷ text_lines rest
line_again first others rest h =
    ap text_lines (append_assoc (join_with_byte 32 (first ∷ others)) (10 ∷ []) rest)
    ∙ slice_split_at (λ b. eqb b 10) (join_with_byte 32 (first ∷ others)) 10 rest
    (join_free first others h) refl
