-- How many parts there are.
use Rattle.std.proofs.Common.{◌≡◌, ℕ, ◌<◌, Bool, true, false, cond, eqb, List, [], ◌∷◌, length}
use Rattle.std.proofs.Common.{None, Ok, Err, refl, ap, arith}
use Rattle.std.specs.List.{slice_split, onto_first}
use Rattle.std.proofs.lemmas.List.Splits.{length-slice_split}
use Rattle.std.proofs.lemmas.Bool.Decides.{nat_tests}
use Rattle.bw_model.specs.Host.{Shape}
use Rattle.bw_model.specs.Refusal.{refusal}
use Rattle.bw_cert.specs.declared.fault.CertFault.TheVariants as faults
use Rattle.bw_cert.specs.Spelling.{Columns, text_lines, words_of}
use Rattle.bw_cert.specs.Reading.{in_two, line_at, head_of, group_of, groups_at, certified_of}
use Rattle.bw_cert.specs.Reading.{is_over}

pub some_parts : (byte : ℕ) (text : List ℕ) → 0 < length (slice_split (λ b. eqb b byte) text)
some_parts byte text = omega (arith, length-slice_split (λ b. eqb b byte) text)

not_zero : (n : ℕ) → 0 < n → eqb n 0 ≡ false
not_zero n h = grind (arith, nat_tests)

pub line_there : (text line rest : List ℕ) → text_lines text ≡ line ∷ text_lines rest
    → line_at (text_lines text) ≡ Ok (line, text_lines rest)
line_there text line rest e =
    rw e (rw (not_zero (length (text_lines rest)) (some_parts 10 rest)) refl)

first_of_parts : (parts : List (List ℕ)) → 0 < length parts
    → (part : List ℕ) × (others : List (List ℕ)) × (parts ≡ part ∷ others)
first_of_parts [] h = absurd (omega arith)
first_of_parts (part ∷ others) h = (part, others, refl)

pub not_two : (byte : ℕ) (text first second rest others : List ℕ)
    → slice_split (λ b. eqb b byte) text ≡ first ∷ slice_split (λ b. eqb b byte) others
    → slice_split (λ b. eqb b byte) others ≡ second ∷ slice_split (λ b. eqb b byte) rest
    → in_two (slice_split (λ b. eqb b byte) text) ≡ Err faults.BadField
not_two byte text first second rest others e f =
    let more = first_of_parts (slice_split (λ b. eqb b byte) rest) (some_parts byte rest) in
    rw (e, f, more.2) refl

pub not_seven : (ws : List (List ℕ)) → (length ws ≡ 7 → ⊥) → group_of ws ≡ Err faults.BadLine
unfolding group_of
not_seven [] h = refl
not_seven (a ∷ []) h = refl
not_seven (a ∷ b ∷ []) h = refl
not_seven (a ∷ b ∷ c ∷ []) h = refl
not_seven (a ∷ b ∷ c ∷ d ∷ []) h = refl
not_seven (a ∷ b ∷ c ∷ d ∷ e ∷ []) h = refl
not_seven (a ∷ b ∷ c ∷ d ∷ e ∷ f ∷ []) h = refl
not_seven (a ∷ b ∷ c ∷ d ∷ e ∷ f ∷ g ∷ []) h = absurd (h refl)
not_seven (a ∷ b ∷ c ∷ d ∷ e ∷ f ∷ g ∷ i ∷ ws) h = refl

pub not_six : (ws : List (List ℕ)) → (length ws ≡ 6 → ⊥) → head_of ws ≡ Err faults.BadLine
unfolding head_of
not_six [] h = refl
not_six (a ∷ []) h = refl
not_six (a ∷ b ∷ []) h = refl
not_six (a ∷ b ∷ c ∷ []) h = refl
not_six (a ∷ b ∷ c ∷ d ∷ []) h = refl
not_six (a ∷ b ∷ c ∷ d ∷ e ∷ []) h = refl
not_six (a ∷ b ∷ c ∷ d ∷ e ∷ f ∷ []) h = absurd (h refl)
not_six (a ∷ b ∷ c ∷ d ∷ e ∷ f ∷ g ∷ ws) h = refl

onto_some : (x : ℕ) (parts : List (List ℕ)) → 0 < length parts
    → is_over (onto_first x parts) ≡ false
onto_some x [] h = absurd (omega arith)
onto_some x (part ∷ others) h = refl

over_more : (parts : List (List ℕ)) → 0 < length parts → is_over ([] ∷ parts) ≡ false
over_more [] h = absurd (omega arith)
over_more (part ∷ others) h = refl

over_cons : (b : Bool) (x : ℕ) (parts : List (List ℕ)) → 0 < length parts
    → is_over (cond b ([] ∷ parts) (onto_first x parts)) ≡ false
over_cons true x parts h = over_more parts h
over_cons false x parts h = onto_some x parts h

-- a text with anything in it has more than the one empty part
pub not_over : (text : List ℕ) → 0 < length text → is_over (text_lines text) ≡ false
not_over [] h = absurd (omega arith)
not_over (x ∷ xs) h = over_cons (eqb x 10) x (text_lines xs) (some_parts 10 xs)

pub three_parts : (text first second others rest : List ℕ) → words_of text ≡ first ∷ words_of others
    → words_of others ≡ second ∷ words_of rest
    → length (words_of text) ≡ 2 → ⊥
three_parts text first second others rest e f h =
    omega (arith, ap length e, ap length f, some_parts 32 rest, h)

pub trailing : (parts after rest : List (List ℕ)) (line : List ℕ) (h : Shape) (count : ℕ)
    (groups : Columns) → line_at parts ≡ Ok (line, after)
    → head_of (words_of line) ≡ Ok (h, count)
    → groups_at count after ≡ Ok (groups, rest) → is_over rest ≡ false
    → certified_of parts ≡ Err faults.Trailing
unfolding certified_of
trailing parts after rest line h count groups a b d over = rw (a, b, d, over) refl

pub over : (text : List ℕ) → length text ≡ 0 → is_over (text_lines text) ≡ true
over [] h = refl
over (x ∷ xs) h = absurd (omega arith)

-- nothing trails, and no row is refused
pub whole : (parts after rest : List (List ℕ)) (line : List ℕ) (h : Shape) (count : ℕ)
    (groups : Columns) → line_at parts ≡ Ok (line, after)
    → head_of (words_of line) ≡ Ok (h, count)
    → groups_at count after ≡ Ok (groups, rest) → is_over rest ≡ true → refusal groups.rows ≡ None
    → certified_of parts ≡ Ok (record { shape = h; groups = groups })
unfolding certified_of
whole parts after rest line h count groups a b d end fine = rw (a, b, d, end, fine) refl
