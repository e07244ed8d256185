-- Numbers and lines that are read in one pass.
use Rattle.std.proofs.Common.{◌≡◌, ℕ, suc, ◌+◌, ◌-◌, ◌*◌, ◌^◌, ◌<◌, ◌≤◌, ◌||◌, true}
use Rattle.std.proofs.Common.{not, eqb, List, [], ◌∷◌, ◌++◌, length, get_or, take, drop, Ok}
use Rattle.std.proofs.Common.{refl, sym, ap, ◌∙◌, add-one, append_assoc, arith}
use Rattle.std.specs.Prelude.{codes}
use Rattle.std.specs.Char.{is_ascii_digit}
use Rattle.std.specs.List.{list_all}
use Rattle.std.specs.Fmt.{decimal, digits}
use Rattle.std.proofs.Math.Nat.{pow-suc, pow-le-pow_right}
use Rattle.std.proofs.lemmas.Bool.{lt-ltb}
use Rattle.std.proofs.lemmas.Bool.Decides.{nat_tests}
use Rattle.std.proofs.lemmas.List.{length-append, length-take-le, take_more, drop_more, get_or-take}
use Rattle.std.proofs.lemmas.List.{take-append-drop}
use Rattle.std.proofs.lemmas.List.Folds.{list_all-append}
use Rattle.bw_text.specs.Number.{value_of_digits, number_read}
use Rattle.bw_text.proofs.CallerLemmas.{digit_range, read_is_decimal}
use Rattle.bw_cert.specs.Spelling.{line}

carried : (d p v c : ℕ) → d * (p * 10) + (v * 10 + c) ≡ (d * p + v) * 10 + c
carried d p v c = omega arith

value_more : (ds : List ℕ) (b : ℕ)
    → value_of_digits (ds ++ b ∷ []) ≡ value_of_digits ds * 10 + (b - 48)
value_more [] b = omega arith
value_more (d ∷ ds) b =
    let more : value_of_digits (ds ++ b ∷ []) ≡ value_of_digits ds * 10 + (b - 48) =
    value_more ds b in
    let long : length (ds ++ b ∷ []) ≡ suc (length ds) =
    omega (arith, length-append ds (b ∷ [])) in
    rw (long, pow-suc 10 (length ds), more)
    (carried (d - 48) (10 ^ length ds) (value_of_digits ds) (b - 48))

-- the first i bytes are digits, and n stands for them
pub record IsRead (text : List ℕ) (i n : ℕ) : Type 0 where
  pub digits : list_all is_ascii_digit (take i text) ≡ true
  pub value : value_of_digits (take i text) ≡ n
  pub small : n < 10 ^ i

pub read_begins : (text : List ℕ) → IsRead text 0 0
read_begins text = record { digits = refl; value = refl; small = omega arith }

pub read_more : (text : List ℕ) (i b n : ℕ) → i < length text → b ≡ get_or text i 0
    → is_ascii_digit b ≡ true → IsRead text i n → IsRead text (i + 1) (n * 10 + (b - 48))
read_more text i b n within is digit r =
    let more : take (i + 1) text ≡ take i text ++ b ∷ [] =
    rw is (take_more text i 0 within) in
    let power : 10 ^ (i + 1) ≡ 10 ^ i * 10 = rw add-one (pow-suc 10 i) in
    record {
      digits = rw (more, list_all-append is_ascii_digit (take i text) (b ∷ []), r.digits, digit)
          refl;
      value = rw more (value_more (take i text) b ∙ ap (λ x. x * 10 + (b - 48)) r.value);
      small = rw power (omega (arith, r.small, digit_range b digit));
    }

pub zero_spelled : decimal 0 ≡ 48 ∷ []
unfolding digits
zero_spelled = refl

pub two_bytes : (text : List ℕ) (a b : ℕ) → 2 ≤ length text → get_or text 0 0 ≡ a
    → get_or text 1 0 ≡ b → text ≡ a ∷ b ∷ drop 2 text
two_bytes text a b long first second =
    let one : text ≡ get_or text 0 0 ∷ drop 1 text = drop_more text 0 0 (omega (arith, long)) in
    let more : drop 1 text ≡ get_or text 1 0 ∷ drop 2 text =
    drop_more text 1 0 (omega (arith, long)) in
    one ∙ rw (first, more, second) refl

-- a number of 18 digits has room for one more
pub read_small : (text : List ℕ) (i n : ℕ) → i ≤ 18 → IsRead text i n
    → n < 10 ^ 18
read_small text i n short r =
    let most : 10 ^ i ≤ 10 ^ 18 = pow-le-pow_right (omega arith) short in
    omega (arith, most, r.small)

leads : (word : List ℕ) → (1 < length word → get_or word 0 0 ≡ 48 → ⊥) → 0 < length word
    → (eqb (length word) 1 || not (eqb (get_or word 0 0) 48)) ≡ true
leads word leading some = grind (arith, nat_tests)

-- a word of digits is the spelling of their number
word_read : (word : List ℕ) (n : ℕ) → 0 < length word
    → (1 < length word → get_or word 0 0 ≡ 48 → ⊥) → list_all is_ascii_digit word ≡ true
    → value_of_digits word ≡ n → n < 2 ^ 64 → word ≡ decimal n
word_read word n some leading digits value small =
    let read : number_read word ≡ Ok n =
    rw (
      lt-ltb 0 (length word) some,
      digits,
      leads word leading some,
      value,
      lt-ltb n (2 ^ 64) small,
    )
    refl in
    (read_is_decimal word n read).0

-- digits with another byte behind them
pub read_ends : (text : List ℕ) (i n e : ℕ) → i < length text → 0 < i → i ≤ 18
    → (1 < i → get_or text 0 0 ≡ 48 → ⊥) → e ≡ get_or text i 0 → IsRead text i n
    → text ≡ decimal n ++ e ∷ drop (i + 1) text
read_ends text i n e within some short leading is r =
    let word = take i text in
    let long : length (take i text) ≡ i = length-take-le i text (omega arith) in
    let first : get_or (take i text) 0 0 ≡ get_or text 0 0 = get_or-take i text 0 0 some in
    let small : n < 2 ^ 64 = omega (arith, read_small text i n short r) in
    let spelled : take i text ≡ decimal n =
    word_read (take i text) n (omega (arith, long, some))
    (λ more zero'. leading (omega (arith, long, more)) (sym first ∙ zero'))
    r.digits r.value small in
    let rest : drop i text ≡ e ∷ drop (i + 1) text = rw is (drop_more text i 0 within) in
    sym (take-append-drop i text) ∙ rw (spelled, rest) refl

-- a row's words before a text
pub row_text : (p w l d rest : List ℕ) → p ++ 32 ∷ (w ++ 32 ∷ (l ++ 32 ∷ (d ++ 32 ∷ rest)))
    ≡ (p ++ codes " " ++ w ++ codes " " ++ l ++ codes " " ++ d ++ codes " ") ++ rest
row_text p w l d rest = simp append_assoc

pub level_text : (num den place rest : List ℕ) → num ++ 47 ∷ (den ++ 64 ∷ (place ++ 10 ∷ rest))
    ≡ (num ++ codes "/" ++ den ++ codes "@" ++ place) ++ 10 ∷ rest
level_text num den place rest = simp append_assoc

pub line_text : (p w l d a f m rest : List ℕ)
    → (p ++ codes " " ++ w ++ codes " " ++ l ++ codes " " ++ d ++ codes " ")
    ++ (a ++ 32 ∷ (f ++ 32 ∷ (m ++ 10 ∷ rest)))
    ≡ line (p ∷ w ∷ l ∷ d ∷ a ∷ f ∷ m ∷ []) ++ rest
line_text p w l d a f m rest = simp append_assoc
