-- The command of a plain line, by its parts.
use Rattle.std.proofs.Common.{◌≡◌, ℕ, ◌+◌, ◌-◌, ◌<◌, ◌≤◌, ◌++◌, List, [], ◌∷◌, true, false, not}
use Rattle.std.proofs.Common.{suc, get_or, length-append, take, drop, length, Ok, refl, sym, ap}
use Rattle.std.proofs.Common.{◌∙◌, subst, arith, inl, inr}
use Rattle.std.specs.Prelude.{codes}
use Rattle.std.specs.List.{position_or_len}
use Rattle.std.proofs.lemmas.Bool.{cases_Bool, cases_lt}
use Rattle.std.proofs.lemmas.List.{take_at, drop_at, take_all, drop_all, length-take, drop-drop}
use Rattle.std.proofs.lemmas.List.{get_or-take}
use Rattle.std.proofs.lemmas.List.Sums.{prefix_len-le-length, split_at_first, passes_at_first}
use Rattle.std.proofs.lemmas.List.Sums.{position_or_len_is, fails_before_first}
use Rattle.std.specs.Str.{IsUtf8, IsCharBoundary}
use Rattle.std.proofs.lemmas.Str.{IsCharBoundary-after_ascii}
use Rattle.bw_commands.specs.Word.{is_blank, blanks_of, word_len_of, blank_len_of, first_word}
use Rattle.bw_commands.specs.Word.{after_word}
use Rattle.bw_commands.specs.Command.{command_of_line, command_of_words, forms}
use Rattle.bw_commands.specs.Command as command
use Rattle.bw_commands.specs.Plain.{IsWord, BeginsWith}
use Rattle.bw_commands.proofs.Words.{position_or_len_is_word, blank-lt}

word_len_is : (text : List ℕ) → word_len_of text ≡ position_or_len is_blank text
word_len_is text = sym (position_or_len_is_word is_blank text)

blank_len_is : (text : List ℕ) → blank_len_of text ≡ position_or_len (λ b. not (is_blank b)) text
blank_len_is text = sym (position_or_len_is_word (λ b. not (is_blank b)) text)

-- ---- words in front

-- no blank stands in front of a word
no_blank : (text : List ℕ) → 0 < position_or_len is_blank text
    → position_or_len (λ b. not (is_blank b)) text ≡ 0
no_blank [] some = refl
no_blank (b ∷ bs) some = elim (cases_Bool (is_blank b)) [
  | inl t ↦ absurd (let clash : 0 < 0 = rw t at some in omega arith)
  | inr f ↦ rw f refl
]

one_blank : (b : ℕ) (text : List ℕ) → is_blank b ≡ true → 0 < position_or_len is_blank text
    → position_or_len (λ b. not (is_blank b)) (b ∷ text) ≡ 1
one_blank b text t some = rw t (ap (λ n. 1 + n) (no_blank text some))

-- a word's length, where a blank stands behind it
ends_at_blank : (word : List ℕ) (b : ℕ) (rest : List ℕ)
    → position_or_len is_blank word ≡ length word → is_blank b ≡ true
    → position_or_len is_blank (word ++ (b ∷ rest)) ≡ length word
ends_at_blank [] b rest e t = rw t refl
ends_at_blank (x ∷ xs) b rest e t = elim (cases_Bool (is_blank x)) [
  | inl u ↦ absurd (let clash : 0 ≡ suc (length xs) = rw u at e in omega arith)
  | inr f ↦ rw f (omega (
    arith,
    ends_at_blank xs b rest
        (let same : 1 + position_or_len is_blank xs ≡ suc (length xs) = rw f at e in omega arith) t,
  ))
]

pub word_len-front : (word : List ℕ) (b : ℕ) (rest : List ℕ) → IsWord word → is_blank b ≡ true
    → word_len_of (word ++ (b ∷ rest)) ≡ length word
word_len-front word b rest w t =
    word_len_is (word ++ (b ∷ rest)) ∙ ends_at_blank word b rest (sym (word_len_is word) ∙ w.1) t

-- the first word, and what stands behind it, where the text begins with it
first_at : (text : List ℕ) → 0 < word_len_of text
    → first_word text ≡ take (word_len_of text) text
unfolding first_word
first_at text some = ap (λ k. take (word_len_of (drop k text)) (drop k text))
    (blank_len_is text ∙ no_blank text (subst (λ n. 0 < n) (word_len_is text) some))

after_at : (text : List ℕ) → 0 < word_len_of text
    → after_word text ≡ drop (word_len_of text) text
unfolding after_word
after_at text some = ap (λ k. drop (word_len_of (drop k text)) (drop k text))
    (blank_len_is text ∙ no_blank text (subst (λ n. 0 < n) (word_len_is text) some))

-- the same behind one blank
first_behind : (b : ℕ) (text : List ℕ) → is_blank b ≡ true → 0 < word_len_of text
    → first_word (b ∷ text) ≡ take (word_len_of text) text
unfolding first_word
first_behind b text t some =
    ap (λ k. take (word_len_of (drop k (b ∷ text))) (drop k (b ∷ text)))
    (blank_len_is (b ∷ text) ∙ one_blank b text t (subst (λ n. 0 < n) (word_len_is text) some))

after_behind : (b : ℕ) (text : List ℕ) → is_blank b ≡ true → 0 < word_len_of text
    → after_word (b ∷ text) ≡ drop (word_len_of text) text
unfolding after_word
after_behind b text t some =
    ap (λ k. drop (word_len_of (drop k (b ∷ text))) (drop k (b ∷ text)))
    (blank_len_is (b ∷ text) ∙ one_blank b text t (subst (λ n. 0 < n) (word_len_is text) some))

-- ---- whole lines

-- the words of a line: a first one, a path and a third one, with one blank between them
words_of_line : (verb : List ℕ) (a : ℕ) (path : List ℕ) (b : ℕ) (rest : List ℕ)
    → IsWord verb → is_blank a ≡ true → IsWord path → is_blank b ≡ true → 0 < word_len_of rest
    → command_of_line (verb ++ (a ∷ (path ++ (b ∷ rest))))
    ≡ command_of_words verb path (take (word_len_of rest) rest)
    (first_word (drop (word_len_of rest) rest)) (drop (word_len_of rest) rest)
unfolding command_of_line
words_of_line verb a path b rest v ta p tb some =
    let behind : List ℕ = path ++ (b ∷ rest) in
    let line : List ℕ = verb ++ (a ∷ behind) in
    let verb_len : word_len_of line ≡ length verb = word_len-front verb a behind v ta in
    let path_len : word_len_of behind ≡ length path = word_len-front path b rest p tb in
    let verb_some : 0 < word_len_of line = subst (λ n. 0 < n) (sym verb_len) v.0 in
    let path_some : 0 < word_len_of behind = subst (λ n. 0 < n) (sym path_len) p.0 in
    let one : first_word line ≡ verb =
    first_at line verb_some ∙ take_at verb (a ∷ behind) (word_len_of line) (sym verb_len) in
    let one_after : after_word line ≡ a ∷ behind =
    after_at line verb_some ∙ drop_at verb (a ∷ behind) (word_len_of line) (sym verb_len) in
    let two : first_word (after_word line) ≡ path =
    ap first_word one_after ∙ first_behind a behind ta path_some
    ∙ take_at path (b ∷ rest) (word_len_of behind) (sym path_len) in
    let two_after : after_word (after_word line) ≡ b ∷ rest =
    ap after_word one_after ∙ after_behind a behind ta path_some
    ∙ drop_at path (b ∷ rest) (word_len_of behind) (sym path_len) in
    let three : first_word (after_word (after_word line)) ≡ take (word_len_of rest) rest =
    ap first_word two_after ∙ first_behind b rest tb some in
    let three_after : after_word (after_word (after_word line)) ≡ drop (word_len_of rest) rest =
    ap after_word two_after ∙ after_behind b rest tb some in
    let c : List ℕ = after_word (after_word (after_word line)) in
    ap (λ w. command_of_words w (first_word (after_word line))
    (first_word (after_word (after_word line))) (first_word c) c) one
    ∙ ap (λ w. command_of_words verb w (first_word (after_word (after_word line)))
    (first_word c) c) two
    ∙ ap (λ w. command_of_words verb path w (first_word c) c) three
    ∙ ap (λ w. command_of_words verb path (take (word_len_of rest) rest) (first_word w) w)
    three_after

-- no word stands behind the third
last_word : (word : List ℕ) → IsWord word
    → (take (word_len_of word) word ≡ word) × (drop (word_len_of word) word ≡ [])
last_word word w = (
  take_all (word_len_of word) word (omega (arith, w.1)),
  drop_all (word_len_of word) word (omega (arith, w.1)),
)

some_word : (word : List ℕ) → IsWord word → 0 < word_len_of word
some_word word w = subst (λ n. 0 < n) (sym w.1) w.0

none_is : first_word [] ≡ []
unfolding first_word
none_is = refl

none_behind : after_word [] ≡ []
unfolding after_word
none_behind = refl

-- ---- the commands

mkdir_words : (path : List ℕ) → 0 < length path
    → command_of_words (codes "mkdir") path [] [] [] ≡ Ok (command.Mkdir path)
unfolding command_of_words forms
mkdir_words [] some = absurd (omega arith)
mkdir_words (p ∷ ps) some = refl

demand_words : (path number : List ℕ) → 0 < length path → 0 < length number
    → command_of_words (codes "demand") path number [] [] ≡ Ok (command.Demand path number)
unfolding command_of_words forms
demand_words [] number some least = absurd (omega arith)
demand_words (p ∷ ps) [] some least = absurd (omega arith)
demand_words (p ∷ ps) (n ∷ ns) some least = refl

read_words : (path file : List ℕ) → 0 < length path → 0 < length file
    → command_of_words (codes "read") path file [] [] ≡ Ok (command.Read path file)
unfolding command_of_words forms
read_words [] file some least = absurd (omega arith)
read_words (p ∷ ps) [] some least = absurd (omega arith)
read_words (p ∷ ps) (n ∷ ns) some least = refl

write_words : (path file third text : List ℕ) → 0 < length path → 0 < length file
    → command_of_words (codes "write") path file third text ≡ Ok (command.Write path file text)
unfolding command_of_words forms
write_words [] file third text some least = absurd (omega arith)
write_words (p ∷ ps) [] third text some least = absurd (omega arith)
write_words (p ∷ ps) (n ∷ ns) [] text some least = refl
write_words (p ∷ ps) (n ∷ ns) (t ∷ ts) text some least = refl

two_words : (verb path : List ℕ) (b : ℕ) (word : List ℕ) → IsWord verb → IsWord path
    → is_blank b ≡ true → IsWord word
    → command_of_line (verb ++ (32 ∷ (path ++ (b ∷ word)))) ≡ command_of_words verb path word [] []
two_words verb path b word v p tb w =
    let last = last_word word w in
    words_of_line verb 32 path b word v refl p tb (some_word word w)
    ∙ ap (λ x. command_of_words verb path x (first_word (drop (word_len_of word) word))
    (drop (word_len_of word) word)) last.0
    ∙ ap (λ x. command_of_words verb path word (first_word x) x) last.1
    ∙ ap (λ x. command_of_words verb path word x []) none_is

pub mkdir_line : (path : List ℕ) → IsWord path
    → command_of_line (codes "mkdir " ++ path) ≡ Ok (command.Mkdir path)
unfolding command_of_line
mkdir_line path p =
    let verb : List ℕ = codes "mkdir" in
    let line : List ℕ = verb ++ (32 ∷ path) in
    let len : word_len_of line ≡ length verb =
    word_len-front verb 32 path (omega arith, refl) refl in
    let some : 0 < word_len_of line = omega (arith, len) in
    let one : first_word line ≡ verb =
    first_at line some ∙ take_at verb (32 ∷ path) (word_len_of line) (sym len) in
    let one_after : after_word line ≡ 32 ∷ path =
    after_at line some ∙ drop_at verb (32 ∷ path) (word_len_of line) (sym len) in
    let two : first_word (after_word line) ≡ path =
    ap first_word one_after ∙ first_behind 32 path refl (some_word path p)
    ∙ (last_word path p).0 in
    let two_after : after_word (after_word line) ≡ [] =
    ap after_word one_after ∙ after_behind 32 path refl (some_word path p)
    ∙ (last_word path p).1 in
    let b : List ℕ = after_word (after_word line) in
    let c : List ℕ = after_word b in
    ap (λ w. command_of_words w (first_word (after_word line)) (first_word b) (first_word c) c) one
    ∙ ap (λ w. command_of_words verb w (first_word b) (first_word c) c) two
    ∙ ap (λ w. command_of_words verb path w (first_word c) c) (ap first_word two_after ∙ none_is)
    ∙ ap (λ w. command_of_words verb path [] (first_word w) w)
    (ap after_word two_after ∙ none_behind)
    ∙ ap (λ w. command_of_words verb path [] w []) none_is
    ∙ mkdir_words path p.0

pub demand_line : (path : List ℕ) (b : ℕ) (number : List ℕ) → IsWord path → is_blank b ≡ true
    → IsWord number
    → command_of_line (codes "demand " ++ (path ++ (b ∷ number))) ≡ Ok (command.Demand path number)
demand_line path b number p tb n =
    two_words (codes "demand") path b number (omega arith, refl) p tb n
    ∙ demand_words path number p.0 n.0

pub read_line : (path : List ℕ) (b : ℕ) (file : List ℕ) → IsWord path → is_blank b ≡ true
    → IsWord file
    → command_of_line (codes "read " ++ (path ++ (b ∷ file))) ≡ Ok (command.Read path file)
read_line path b file p tb f =
    two_words (codes "read") path b file (omega arith, refl) p tb f
    ∙ read_words path file p.0 f.0

pub write_line : (path : List ℕ) (b : ℕ) (rest : List ℕ) → IsWord path → is_blank b ≡ true
    → 0 < word_len_of rest
    → command_of_line (codes "write " ++ (path ++ (b ∷ rest)))
    ≡ Ok (command.Write path (take (word_len_of rest) rest) (drop (word_len_of rest) rest))
write_line path b rest p tb some =
    let most : word_len_of rest ≤ length rest =
    subst (λ n. n ≤ length rest) (sym (word_len_is rest))
    (prefix_len-le-length (λ x. not (is_blank x)) rest) in
    words_of_line (codes "write") 32 path b rest (omega arith, refl) refl p tb some
    ∙ write_words path (take (word_len_of rest) rest)
    (first_word (drop (word_len_of rest) rest)) (drop (word_len_of rest) rest) p.0
    (omega (arith, length-take (word_len_of rest) rest, some, most))

-- ---- a text that begins with a word

-- nothing in front of the first blank is a blank
front_is_word : (text : List ℕ) (n : ℕ) → n ≡ position_or_len is_blank text
    → position_or_len is_blank (take n text) ≡ length (take n text)
front_is_word text n is =
    let long : length (take n text) ≤ n = omega (arith, length-take n text) in
    position_or_len_is is_blank (take n text) (length (take n text)) 0 (omega arith)
    (λ k lt.
    let early : k < n = omega (arith, long, lt) in
    let before : k < position_or_len is_blank text = omega (arith, early, is) in
    subst (λ b. is_blank b ≡ false) (sym (get_or-take n text k 0 early))
    (fails_before_first is_blank text k 0 before))
    (λ lt. absurd (let clash : ⊥ = omega (arith, lt) in clash))

pub begins_from_len : (text : List ℕ) → 0 < word_len_of text → word_len_of text < length text
    → BeginsWith text (take (word_len_of text) text) (drop (word_len_of text + 1) text)
begins_from_len text some less =
    let at = position_or_len is_blank text in
    let is : word_len_of text ≡ at = word_len_is text in
    let within : at < length text = subst (λ n. n < length text) is less in
    let word : IsWord (take at text) = (
      (let long : 0 < length (take at text) = omega (arith, length-take at text, is, some, within) in
          long),
      word_len_is (take at text) ∙ front_is_word text at refl,
    ) in
    subst (λ n. BeginsWith text (take n text) (drop (n + 1) text)) (sym is) (
      word,
      (
        get_or text at 0,
        passes_at_first is_blank text 0 within,
        split_at_first is_blank text 0 within,
      ),
    )

pub len_from_begins : (text word rest : List ℕ) → BeginsWith text word rest
    → (word_len_of text ≡ length word) × (length word < length text)
len_from_begins text word rest begins =
    let b = begins.1.0 in
    let is : text ≡ word ++ (b ∷ rest) = begins.1.2 in (
      ap word_len_of is ∙ word_len-front word b rest begins.0 begins.1.1,
      omega (arith, ap length is, length-append word (b ∷ rest)),
    )

-- the word and the rest are the only ones
pub begins_once : (text word rest : List ℕ) → BeginsWith text word rest
    → (take (word_len_of text) text ≡ word) × (drop (word_len_of text + 1) text ≡ rest)
begins_once text word rest begins =
    let b = begins.1.0 in
    let is : text ≡ word ++ (b ∷ rest) = begins.1.2 in
    let len : word_len_of text ≡ length word = (len_from_begins text word rest begins).0 in (
      ap (λ (xs : List ℕ). take (word_len_of text) xs) is
          ∙ take_at word (b ∷ rest) (word_len_of text) (sym len),
      sym (drop-drop 1 (word_len_of text) text)
          ∙ ap (drop 1) (ap (λ (xs : List ℕ). drop (word_len_of text) xs) is
          ∙ drop_at word (b ∷ rest) (word_len_of text) (sym len)),
    )

-- ---- from the places of blanks

pub some_less : (text : List ℕ) (blanks : ℕ) → blanks ≡ blanks_of text → 0 < blanks
    → word_len_of text < length text
some_less text blanks is some = elim (cases_lt (word_len_of text) (length text)) [
  | inl less ↦ less
  | inr past ↦ absurd (let clash : ⊥ = omega (
    arith,
    no_place text
        (subst (λ n. length text ≤ n) (word_len_is text) past),
    is,
    some,
  ) in clash)
]
  where
    no_place : (xs : List ℕ) → length xs ≤ position_or_len is_blank xs → blanks_of xs ≡ 0
    no_place [] past = refl
    no_place (b ∷ bs) past = elim (cases_Bool (is_blank b)) [
      | inl t ↦ absurd (let clash : suc (length bs) ≤ 0 = rw t at past in omega arith)
      | inr f ↦ rw f (omega (
        arith,
        no_place bs
            (let more : suc (length bs) ≤ 1 + position_or_len is_blank bs = rw f at past in
            omega arith),
      ))
    ]

-- a text may be cut behind its first blank
pub cut_behind_blank : (text : List ℕ) → IsUtf8 text → word_len_of text < length text
    → IsCharBoundary text (word_len_of text + 1)
cut_behind_blank text u less =
    let within : position_or_len is_blank text < length text =
    subst (λ n. n < length text) (word_len_is text) less in
    IsCharBoundary-after_ascii text (word_len_of text) u less
    (subst (λ n. get_or text n 0 < 128) (sym (word_len_is text))
    (blank-lt (get_or text (position_or_len is_blank text) 0)
    (passes_at_first is_blank text 0 within)))

-- a text may be cut behind a front that ends with a space
pub cut_behind_space : (text front : List ℕ) → IsUtf8 text → take (length front) text ≡ front
    → 0 < length front → length front ≤ length text → get_or front (length front - 1) 0 ≡ 32
    → IsCharBoundary text (length front)
cut_behind_space text front u is some long space =
    let n : ℕ = length front in
    let last : get_or text (n - 1) 0 ≡ 32 =
    sym (get_or-take n text (n - 1) 0 (omega arith))
    ∙ ap (λ (l : List ℕ). get_or l (n - 1) 0) is ∙ space in
    subst (IsCharBoundary text) (let whole : n - 1 + 1 ≡ n = omega arith in whole)
    (IsCharBoundary-after_ascii text (n - 1) u (omega arith) (omega (arith, last)))

-- ---- the command by its parts

pub demand_from : (rest path number : List ℕ) → BeginsWith rest path number → IsWord number
    → command_of_line (codes "demand " ++ rest) ≡ Ok (command.Demand path number)
demand_from rest path number begins n =
    ap (λ (l : List ℕ). command_of_line (codes "demand " ++ l)) begins.1.2
    ∙ demand_line path begins.1.0 number begins.0 begins.1.1 n

pub read_from : (rest path file : List ℕ) → BeginsWith rest path file → IsWord file
    → command_of_line (codes "read " ++ rest) ≡ Ok (command.Read path file)
read_from rest path file begins n =
    ap (λ (l : List ℕ). command_of_line (codes "read " ++ l)) begins.1.2
    ∙ read_line path begins.1.0 file begins.0 begins.1.1 n

pub write_from : (rest path behind file text : List ℕ) → BeginsWith rest path behind
    → 0 < word_len_of behind → file ≡ take (word_len_of behind) behind
    → text ≡ drop (word_len_of behind) behind
    → command_of_line (codes "write " ++ rest) ≡ Ok (command.Write path file text)
write_from rest path behind file text begins some file_is text_is =
    ap (λ (l : List ℕ). command_of_line (codes "write " ++ l)) begins.1.2
    ∙ write_line path begins.1.0 behind begins.0 begins.1.1 some
    ∙ ap (λ (l : List ℕ). Ok (command.Write path l (drop (word_len_of behind) behind))) (sym file_is)
    ∙ ap (λ (l : List ℕ). Ok (command.Write path file l)) (sym text_is)

-- what stands behind the first word and a space
pub behind_is : (text path behind word rest : List ℕ) → BeginsWith text path behind → IsWord word
    → text ≡ word ++ (32 ∷ rest) → behind ≡ rest
behind_is text path behind word rest begins w is =
    sym (begins_once text path behind begins).1
    ∙ (begins_once text word rest (w, (32, refl, is))).1
