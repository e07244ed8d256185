-- A word that is read is the one spelling of its value.
use Rattle.std.proofs.Common.{◌≡◌, ℕ, ◌<◌, ◌^◌, Bool, true, false, ◌&&◌, cond, ltb, eqb, List, []}
use Rattle.std.proofs.Common.{◌∷◌, ◌++◌, Option, Some, None, Result, Ok, Err, refl, sym}
use Rattle.std.proofs.Common.{ap, ◌∙◌, append_assoc, ◌⊎◌, inl, inr}
use Rattle.std.specs.Prelude.{codes, IfSome}
use Rattle.std.specs.List.{slice_split, join_with_byte}
use Rattle.std.specs.Str.{bytes_eq}
use Rattle.std.specs.Fmt.{decimal}
use Rattle.std.proofs.lemmas.List.Splits.{join_with_byte-slice_split}
use Rattle.bw_text.specs.Number.{number_read}
use Rattle.bw_text.specs.declared.number.NumberFault.{NumberFault}
use Rattle.bw_text.proofs.CallerLemmas.{read_is_decimal}
use Rattle.bw_cert.specs.declared.fault.CertFault.{CertFault}
use Rattle.bw_cert.specs.declared.fault.CertFault.TheVariants as faults
use Rattle.bw_model.specs.Marks.{MarkValue}
use Rattle.bw_cert.specs.Spelling.{parent_word, limit_word, flag_word, level_word, IsSmallLevel}
use Rattle.bw_cert.specs.Reading.{◌>>=◌, or_field, number_at, u32_in, u32_at, parent_at, limit_at}
use Rattle.bw_cert.specs.Reading.{flag_at, in_two, level_in, mark_at, level_in_word}
use Rattle.std.proofs.lemmas.Bool.{ltb-true}
use Rattle.bw_model.proofs.CallerLemmas.{bytes_eq-true}

pub bind_ok : {A B : Type 0} (r : Result A CertFault) (f : A → Result B CertFault) (y : B)
    → (r >>= f) ≡ Ok y → (x : A) × (r ≡ Ok x) × (f x ≡ Ok y)
bind_ok (Ok x) f y e = (x, refl, e)
bind_ok (Err d) f y e = absurd cc

or_field_found : (r : Result ℕ NumberFault) (n : ℕ) → or_field r ≡ Ok n → r ≡ Ok n
or_field_found (Ok m) n e = cc
or_field_found (Err f) n e = absurd cc

pub number_found : (word : List ℕ) (n : ℕ) → number_at word ≡ Ok n
    → (word ≡ decimal n) × (n < 2 ^ 64)
number_found word n e = read_is_decimal word n (or_field_found (number_read word) n e)

small_parts : (b : Bool) (m n : ℕ) → cond b (Ok m) (Err faults.BadField) ≡ Ok n
    → (b ≡ true) × (m ≡ n)
small_parts true m n e = (refl, cc)
small_parts false m n e = absurd cc

pub u32_found : (word : List ℕ) (n : ℕ) → u32_at word ≡ Ok n → (word ≡ decimal n) × (n < 2 ^ 32)
u32_found word n e =
    let a = bind_ok (number_at word) u32_in n e in
    let p = small_parts (ltb a.0 (2 ^ 32)) a.0 n a.2 in
    rw (← p.1) ((number_found word a.0 a.1).0, ltb-true a.0 (2 ^ 32) p.0)

none_or : (b : Bool) (r : Result ℕ CertFault) (o : Option ℕ)
    → cond b (Ok None) (r >>= λ n. Ok (Some n)) ≡ Ok o
    → ((b ≡ true) × (o ≡ None)) ⊎ ((n : ℕ) × (r ≡ Ok n) × (o ≡ Some n))
none_or true r o e = inl (refl, cc)
none_or false (Ok n) o e = inr (n, refl, cc)
none_or false (Err f) o e = absurd cc

pub parent_found : (word : List ℕ) (o : Option ℕ) → parent_at word ≡ Ok o
    → (word ≡ parent_word o) × IfSome o (λ n. n < 2 ^ 32)
parent_found word o e =
    elim (none_or (bytes_eq word (codes "-")) (u32_at word) o e) [
      | inl p ↦ rw p.1 (bytes_eq-true word (codes "-") p.0, tt)
      | inr p ↦ rw p.2 (u32_found word p.0 p.1)
    ]

pub limit_found : (word : List ℕ) (o : Option ℕ) → limit_at word ≡ Ok o
    → (word ≡ limit_word o) × IfSome o (λ n. n < 2 ^ 64)
limit_found word o e =
    elim (none_or (bytes_eq word (codes "max")) (number_at word) o e) [
      | inl p ↦ rw p.1 (bytes_eq-true word (codes "max") p.0, tt)
      | inr p ↦ rw p.2 (number_found word p.0 p.1)
    ]

flag_parts : (a b : Bool) (flag : Bool)
    → cond a (Ok false) (cond b (Ok true) (Err faults.BadField)) ≡ Ok flag
    → ((a ≡ true) × (flag ≡ false)) ⊎ ((b ≡ true) × (flag ≡ true))
flag_parts true b flag e = inl (refl, cc)
flag_parts false true flag e = inr (refl, cc)
flag_parts false false flag e = absurd cc

pub flag_found : (word : List ℕ) (flag : Bool) → flag_at word ≡ Ok flag → word ≡ flag_word flag
flag_found word flag e =
    elim (flag_parts (bytes_eq word (codes "0")) (bytes_eq word (codes "1")) flag e) [
      | inl p ↦ rw p.1 (bytes_eq-true word (codes "0") p.0)
      | inr p ↦ rw p.1 (bytes_eq-true word (codes "1") p.0)
    ]

in_two_found : (parts : List (List ℕ)) (p : List ℕ × List ℕ) → in_two parts ≡ Ok p
    → parts ≡ p.0 ∷ p.1 ∷ []
in_two_found [] p e = absurd cc
in_two_found (a ∷ []) p e = absurd cc
in_two_found (a ∷ b ∷ []) p e = cc
in_two_found (a ∷ b ∷ c ∷ parts) p e = absurd cc

-- two parts with the byte between them
rejoined : (byte : ℕ) (word front back : List ℕ)
    → slice_split (λ b. eqb b byte) word ≡ front ∷ back ∷ [] → word ≡ front ++ byte ∷ back
rejoined byte word front back e =
    sym (join_with_byte-slice_split byte word) ∙ ap (join_with_byte byte) e

level_parts : (b c : Bool) (l : MarkValue) (o : Option MarkValue)
    → cond (b && c) (Ok (Some l)) (Err faults.BadField) ≡ Ok o
    → (b ≡ true) × (c ≡ true) × (o ≡ Some l)
level_parts true true l o e = (refl, refl, cc)
level_parts true false l o e = absurd cc
level_parts false c l o e = absurd cc

mark_found : (word : List ℕ) (o : Option MarkValue) → mark_at word ≡ Ok o
    → (word ≡ level_word o) × IfSome o IsSmallLevel
unfolding mark_at
mark_found word o e =
    let a = bind_ok (in_two (slice_split (λ b. eqb b 47) word))
    (λ outer. in_two (slice_split
    (λ b. eqb b 64) outer.1) >>= λ inner. number_at outer.0 >>= λ num. number_at inner.0 >>= λ den.
    u32_at inner.1 >>= λ place. level_in num den place) o e in
    let b = bind_ok (in_two (slice_split (λ b. eqb b 64) a.0.1))
    (λ inner. number_at a.0.0 >>= λ num. number_at inner.0 >>= λ den. u32_at inner.1 >>= λ place.
    level_in num den place) o a.2 in
    let n = bind_ok (number_at a.0.0)
    (λ num. number_at b.0.0 >>= λ den. u32_at b.0.1 >>= λ place. level_in num den place) o
    b.2 in
    let d = bind_ok (number_at b.0.0) (λ den. u32_at b.0.1 >>= λ place. level_in n.0 den place) o
    n.2 in
    let p = bind_ok (u32_at b.0.1) (λ place. level_in n.0 d.0 place) o d.2 in
    let l = level_parts (ltb 0 n.0) (ltb 0 d.0) (record { num = n.0; den = d.0; place = p.0 }) o
    p.2 in
    let outer = rejoined 47 word a.0.0 a.0.1
    (in_two_found (slice_split (λ b. eqb b 47) word) a.0 a.1) in
    let inner = rejoined 64 a.0.1 b.0.0 b.0.1
    (in_two_found (slice_split (λ b. eqb b 64) a.0.1) b.0 b.1) in
    let num = number_found a.0.0 n.0 n.1 in
    let den = number_found b.0.0 d.0 d.1 in
    let place = u32_found b.0.1 p.0 p.1 in
    let text : word ≡ decimal n.0 ++ 47 ∷ (decimal d.0 ++ 64 ∷ decimal p.0) =
    outer ∙ ap (λ (t : List ℕ). a.0.0 ++ 47 ∷ t) inner ∙ rw (← num.0, ← den.0, ← place.0) refl in
    let grouped : decimal n.0 ++ 47 ∷ (decimal d.0 ++ 64 ∷ decimal p.0) ≡ decimal n.0 ++ codes "/"
    ++ decimal d.0 ++ codes "@" ++ decimal p.0 =
    simp append_assoc in
    rw l.2 (
      text ∙ grouped,
      record {
        num = num.1;
        some_num = ltb-true 0 n.0 l.0;
        den = den.1;
        some_den = ltb-true 0 d.0 l.1;
        place = place.1;
      },
    )

none_mark : (b : Bool) (r : Result (Option MarkValue) CertFault) (o : Option MarkValue)
    → cond b (Ok None) r ≡ Ok o → ((b ≡ true) × (o ≡ None)) ⊎ (r ≡ Ok o)
none_mark true r o e = inl (refl, cc)
none_mark false r o e = inr e

pub level_found : (word : List ℕ) (o : Option MarkValue) → level_in_word word ≡ Ok o
    → (word ≡ level_word o) × IfSome o IsSmallLevel
level_found word o e =
    elim (none_mark (bytes_eq word (codes "-")) (mark_at word) o e) [
      | inl p ↦ rw p.1 (bytes_eq-true word (codes "-") p.0, tt)
      | inr p ↦ mark_found word o p
    ]
