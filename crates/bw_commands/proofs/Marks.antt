-- The blanks of a text as the bits of a number.
use Rattle.std.proofs.Common.{◌≡◌, ℕ, zero, suc, ◌+◌, ◌-◌, ◌*◌, ◌/◌, ◌%◌, ◌^◌, ◌≤◌, ◌<◌, ◌++◌, cond}
use Rattle.std.proofs.Common.{List, [], ◌∷◌, Bool, true, false, not, map, length, take, drop}
use Rattle.std.proofs.Common.{get_or}
use Rattle.std.proofs.Common.{sym, ap, ◌∙◌, arith, inl, inr, subst}
use Rattle.std.proofs.Math.ListN.{get_or-eq_default}
use Rattle.std.proofs.Math.Nat.{pow-succ'}
use Rattle.std.proofs.lemmas.Nat.{shr-shr, div-mul-add, pow_below, or_shifted, shl_whole}
use Rattle.std.proofs.lemmas.Nat.{mod-mul-add}
use Rattle.std.proofs.lemmas.Nat.Bits.{bit_at-trailing_ones}
use Rattle.std.proofs.lemmas.Bool.{cases_lt, false≢true}
use Rattle.std.proofs.lemmas.List.{length-map, get_or-map, take-append-drop, take_all, drop-drop}
use Rattle.std.proofs.lemmas.List.{drop-map, take-map, length-take, length-drop, take-take}
use Rattle.std.proofs.lemmas.List.Sums.{position_or_len_is}
use Rattle.std.proofs.lemmas.Simd.{bit_mask_l, mask_l-lt, leading_from_mask_l, trailing_mask_l}
use lib.Count.{count_trailing_zeros}
use Rattle.std.specs.Int.{w64, trailing_ones}
use Rattle.std.specs.List.{position_or_len}
use Rattle.std.specs.Prelude.{bit_or}
use Rattle.std.specs.Simd.Lanes.{mask_l, chunk}
use Rattle.bw_model.proofs.CallerLemmas.{cond_zero, cond_one}
use Rattle.bw_commands.specs.Word.{is_blank, blanks_of, blank_len_of, word_len_of, end_of}
use Rattle.bw_commands.proofs.Words.{position_or_len_is_word}

one_below : (b : Bool) → cond b 1 0 < 2
one_below true = omega arith
one_below false = omega arith

halved : (b : Bool) (m : ℕ) → (cond b 1 0 + 2 * m) / 2 ≡ m
halved b m =
    let turned : cond b 1 0 + 2 * m ≡ m * 2 + cond b 1 0 = omega arith in
    ap (λ n. n / 2) turned ∙ div-mul-add m 2 (cond b 1 0) (one_below b)

-- the places from k on, as the number without its low bits
pub mask_l-drop : (k : ℕ) (bs : List Bool) → mask_l bs / 2 ^ k ≡ mask_l (drop k bs)
mask_l-drop zero bs = omega arith
mask_l-drop (suc k) [] = omega arith
mask_l-drop (suc k) (b ∷ bs) =
    let more : 1 + k ≡ suc k = omega arith in
    ap (λ j. (cond b 1 0 + 2 * mask_l bs) / 2 ^ j) (sym more)
    ∙ sym (shr-shr (cond b 1 0 + 2 * mask_l bs) 1 k)
    ∙ ap (λ n. n / 2 ^ k) (halved b (mask_l bs)) ∙ mask_l-drop k bs

-- the places of two lists, one behind the other
pub mask_l-append : (xs ys : List Bool)
    → mask_l (xs ++ ys) ≡ mask_l ys * 2 ^ length xs + mask_l xs
mask_l-append [] ys = omega arith
mask_l-append (x ∷ xs) ys =
    let more : mask_l (xs ++ ys) ≡ mask_l ys * 2 ^ length xs + mask_l xs = mask_l-append xs ys in
    omega (arith, more, ap (λ n. mask_l ys * n) (pow-succ' 2 (length xs)))

-- from the places of the first w and the last w bytes, which may overlap, those of the whole text
pub mask_of_two : (p : ℕ → Bool) (xs : List ℕ) (w n i k : ℕ) → length xs ≡ n → w ≤ n → i + w ≡ n
    → k + n ≡ w + w → w + w ≤ 64
    → bit_or (mask_l (map p (chunk i w xs)) / 2 ^ k * 2 ^ w % 2 ^ 64)
    (mask_l (map p (chunk 0 w xs)))
    ≡ mask_l (map p xs)
mask_of_two p xs w n i k long most last rest wide =
    let bs = map p xs in
    let long_bs : length bs ≡ n = length-map xs p ∙ long in
    let end : take w (drop i xs) ≡ drop i xs =
    take_all w (drop i xs) (omega (arith, length-drop i xs, long, last)) in
    let behind : mask_l (map p (chunk i w xs)) / 2 ^ k ≡ mask_l (drop w bs) =
    ap (λ ys. mask_l (map p ys) / 2 ^ k) end ∙ ap (λ l. mask_l l / 2 ^ k) (sym (drop-map p i xs))
    ∙ mask_l-drop k (drop i bs)
    ∙ ap mask_l (drop-drop k i bs ∙ ap (λ j. drop j bs) (let at : i + k ≡ w = omega arith in at)) in
    let front : mask_l (map p (chunk 0 w xs)) ≡ mask_l (take w bs) =
    ap mask_l (sym (take-map p w xs)) in
    let room : length (take w bs) ≡ w = omega (arith, length-take w bs, long_bs) in
    let low : mask_l (take w bs) < 2 ^ w =
    subst (λ j. mask_l (take w bs) < 2 ^ j) room (mask_l-lt (take w bs)) in
    let few : length (drop w bs) + w ≤ 64 = omega (arith, length-drop w bs, long_bs) in
    let whole : mask_l (drop w bs) * 2 ^ w % 2 ^ 64 ≡ mask_l (drop w bs) * 2 ^ w =
    shl_whole (mask_l (drop w bs)) (length (drop w bs)) w 64 (mask_l-lt (drop w bs)) few in
    rw (behind, front, whole) (or_shifted (mask_l (drop w bs)) w (mask_l (take w bs)) low
    ∙ ap (λ j. mask_l (drop w bs) * 2 ^ j + mask_l (take w bs)) (sym room)
    ∙ sym (mask_l-append (take w bs) (drop w bs)) ∙ ap mask_l (take-append-drop w bs))

-- ---- from the places to the first byte

-- the number of ones below the lowest zero is the number of bytes before the first that fails
pub trailing_ones-mask : (p : ℕ → Bool) (xs : List ℕ) → length xs < 64
    → trailing_ones w64 (mask_l (map p xs)) ≡ position_or_len (λ b. not (p b)) xs
trailing_ones-mask p xs short =
    let bs = map p xs in
    let m = mask_l bs in
    let at = trailing_ones w64 m in
    let long = length-map xs p in
    let bound : m < 2 ^ length xs = subst (λ j. m < 2 ^ j) long (mask_l-lt bs) in
    let low = bit_at-trailing_ones w64 m (omega (arith, bound, pow_below (length xs) 64 short)) in
    let is_false : get_or bs at false ≡ false =
    cond_zero (get_or bs at false) (sym (bit_mask_l bs at) ∙ low.1) in
    let are_true : (k : ℕ) → k < at → get_or bs k false ≡ true =
    λ k lt. cond_one (get_or bs k false) (sym (bit_mask_l bs k) ∙ low.2 k lt) in
    let within : at ≤ length xs = elim (cases_lt (length xs) at) [
      | inl past ↦ absurd (false≢true (sym (get_or-eq_default bs false (omega (arith, long)))
          ∙ are_true (length xs) past))
      | inr le ↦ le
    ] in
    sym (position_or_len_is (λ b. not (p b)) xs at 0 within
    (λ k lt. ap not (sym (get_or-map p xs k 0 false (omega (arith, lt, within))) ∙ are_true k lt))
    (λ lt. ap not (sym (get_or-map p xs at 0 false lt) ∙ is_false)))

-- ---- the blanks of one load

-- the number of bytes before the first blank, from the places of the blanks
pub word_len_of_none : (text : List ℕ) (blanks : ℕ) → blanks ≡ blanks_of text → blanks ≡ 0
    → length text ≡ word_len_of text
word_len_of_none text blanks is none =
    sym (leading_from_mask_l is_blank text (sym is ∙ none)) ∙ position_or_len_is_word is_blank text

pub word_len_of_some : (text : List ℕ) (blanks : ℕ) → blanks ≡ blanks_of text → 0 < blanks
    → length text ≤ 64 → count_trailing_zeros 64 blanks ≡ word_len_of text
word_len_of_some text blanks is some short =
    ap (count_trailing_zeros 64) is
    ∙ trailing_mask_l is_blank 64 text short (subst (λ n. 0 < n) is some)
    ∙ position_or_len_is_word is_blank text

-- the number of blanks before the first word
pub blank_len_of_marks : (text : List ℕ) (blanks : ℕ) → blanks ≡ blanks_of text
    → length text < 64 → trailing_ones w64 blanks ≡ blank_len_of text
blank_len_of_marks text blanks is short =
    ap (trailing_ones w64) is ∙ trailing_ones-mask is_blank text short
    ∙ position_or_len_is_word (λ b. not (is_blank b)) text

-- the places of the blanks from a byte on
pub blanks_of-drop : (k : ℕ) (text : List ℕ) → blanks_of text / 2 ^ k ≡ blanks_of (drop k text)
blanks_of-drop k text =
    mask_l-drop k (map is_blank text) ∙ ap mask_l (drop-map is_blank k text)

-- the places of the blanks of the end, from those of the last w bytes
pub blanks_of-end : (text : List ℕ) (w n : ℕ) → w ≤ length text → n ≤ w
    → blanks_of (chunk (length text - w) w text) / 2 ^ (w - n) ≡ blanks_of (end_of n text)
blanks_of-end text w n room few =
    let last = drop (length text - w) text in
    let whole : chunk (length text - w) w text ≡ last =
    take_all w last (omega (arith, length-drop (length text - w) text)) in
    ap (λ v. blanks_of v / 2 ^ (w - n)) whole ∙ blanks_of-drop (w - n) last
    ∙ ap blanks_of (drop-drop (w - n) (length text - w) text
    ∙ ap (λ j. drop j text)
    (let at : length text - w + (w - n) ≡ length text - n = omega arith in at))

-- the places of the blanks of the first n bytes, from those of the first w
pub blanks_of-front : (text : List ℕ) (w n : ℕ) → w ≤ length text → n ≤ w
    → blanks_of (chunk 0 w text) % 2 ^ n ≡ blanks_of (take n text)
blanks_of-front text w n room few =
    let bs = map is_blank (take w text) in
    let long : length bs ≡ w = length-map (take w text) is_blank
    ∙ (let all : length (take w text) ≡ w = omega (arith, length-take w text) in all) in
    let size : length (take n bs) ≡ n = omega (arith, length-take n bs, long) in
    let low : mask_l (take n bs) < 2 ^ n =
    subst (λ k. mask_l (take n bs) < 2 ^ k) size (mask_l-lt (take n bs)) in
    let parts : mask_l bs ≡ mask_l (drop n bs) * 2 ^ n + mask_l (take n bs) =
    ap mask_l (sym (take-append-drop n bs)) ∙ mask_l-append (take n bs) (drop n bs)
    ∙ ap (λ k. mask_l (drop n bs) * 2 ^ k + mask_l (take n bs)) size in
    ap (λ m. m % 2 ^ n) parts ∙ mod-mul-add (mask_l (drop n bs)) (2 ^ n) (mask_l (take n bs)) low
    ∙ ap mask_l (take-map is_blank n (take w text)
    ∙ ap (map is_blank) (take-take n w text few))
