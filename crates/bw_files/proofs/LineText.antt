-- A text in UTF-8 stays one where a number is appended.
use Rattle.std.proofs.Common.{ℕ, zero, suc, ◌<◌, ◌^◌, List, [], ◌∷◌, ◌++◌, Result, Ok, Err, OnOk}
use Rattle.std.proofs.Common.{◌≡◌, is_ok, if◌then◌else◌, append_assoc, refl, arith}
use Rattle.std.specs.Str.{IsUtf8, IsAscii}
use Rattle.std.specs.Fmt.{decimal}
use Rattle.std.proofs.lemmas.Fmt.{IsAscii-decimal}
use Rattle.std.proofs.lemmas.Str.{IsUtf8-append, IsUtf8-from_ascii}
use Rattle.bw_streams.specs.Answers.{number_line}
use Rattle.bw_model.specs.Quota.{IsValid}
use Rattle.bw_model.specs.declared.quota.Quota.{Quota}
use Rattle.bw_model.specs.declared.quota.Quota.TheVariants.{Max, Micros}
use Rattle.bw_files.specs.Writing.{quota_word}

pub IsUtf8-one : (b : ℕ) → b < 128 → IsUtf8 (b ∷ [])
IsUtf8-one b low = IsUtf8-from_ascii (b ∷ []) each
  where
    each : IsAscii (b ∷ [])
    each zero = low
    each (suc i) = omega arith

pub IsUtf8-decimal : (n : ℕ) → n < 2 ^ 64 → IsUtf8 (decimal n)
IsUtf8-decimal n small = IsUtf8-from_ascii (decimal n) (IsAscii-decimal n small)

-- the empty text is one, and so is `max`
pub IsUtf8-empty : IsUtf8 []
IsUtf8-empty = IsUtf8-from_ascii [] (λ i. omega arith)

pub IsUtf8-max : IsUtf8 (109 ∷ 97 ∷ 120 ∷ [])
IsUtf8-max = IsUtf8-append (109 ∷ []) (97 ∷ 120 ∷ []) (IsUtf8-one 109 (omega arith))
    (IsUtf8-append (97 ∷ []) (120 ∷ []) (IsUtf8-one 97 (omega arith))
    (IsUtf8-one 120 (omega arith)))

pub IsUtf8-quota_word : (quota : Quota) → IsValid quota → IsUtf8 (quota_word quota)
IsUtf8-quota_word Max valid = IsUtf8-max
IsUtf8-quota_word (Micros n) valid = IsUtf8-decimal n (omega (arith, valid.1))

-- a line with a number behind a word
pub IsUtf8-number_line : (xs word : List ℕ) (n : ℕ) → n < 2 ^ 64 → IsUtf8 xs → IsUtf8 word
    → IsUtf8 (xs ++ number_line word n)
IsUtf8-number_line xs word n small text w =
    IsUtf8-append xs (number_line word n) text
    (IsUtf8-append (word ++ decimal n) (10 ∷ [])
    (IsUtf8-append word (decimal n) w (IsUtf8-decimal n small)) (IsUtf8-one 10 (omega arith)))

-- what holds of an answer, from what else holds of it
pub on_ok : {T E : Type 0} (r : Result T E) {P Q : Type 0} → (P → Q) → OnOk r P → OnOk r Q
on_ok (Ok x) f h = f h
on_ok (Err e) f h = tt

pub on_items : {T E : Type 0} (r : Result T E) (xs ys zs : List ℕ)
    → xs ≡ (if is_ok r then ys else zs) → OnOk r (xs ≡ ys)
on_items (Ok x) xs ys zs h = h
on_items (Err e) xs ys zs h = tt

-- six lines that are appended one after another are appended together
pub six_lines : (xs a b c d e f : List ℕ)
    → (((((xs ++ a) ++ b) ++ c) ++ d) ++ e) ++ f ≡ xs ++ (((((a ++ b) ++ c) ++ d) ++ e) ++ f)
six_lines xs a b c d e f = simp append_assoc refl
