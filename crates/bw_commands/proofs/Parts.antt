-- The lines of a text are its parts between newlines, but for an empty last one.
use Rattle.std.proofs.Common.{◌≡◌, ◌<◌, ◌+◌, ℕ, Bool, true, false, List, [], ◌∷◌, ◌==◌, ◌++◌, cond}
use Rattle.std.proofs.Common.{length, length-append, refl, sym, ◌∙◌, ap, arith, inl, inr}
use Rattle.std.specs.List.{slice_split, join_with_byte}
use Rattle.std.specs.List.{onto_first as first_onto}
use Rattle.std.proofs.lemmas.Bool.{cases_Bool}
use Rattle.std.proofs.lemmas.List.Splits.{join_with_byte-slice_split, length-slice_split}
use Rattle.std.proofs.lemmas.List.Splits.{slice_split-cons_yes, slice_split-cons_no}
use Rattle.bw_commands.specs.Lines.{lines_of, onto_first}

-- the parts between newlines
abbrev pub parts : List ℕ → List (List ℕ)
parts text = slice_split (λ b. b == 10) text

-- a last line, if it has a byte
abbrev last_line : List ℕ → List (List ℕ)
last_line [] = []
last_line (b ∷ bs) = (b ∷ bs) ∷ []

-- an empty last part is no line
abbrev trimmed : List (List ℕ) → List (List ℕ)
trimmed [] = []
trimmed (part ∷ []) = last_line part
trimmed (part ∷ next ∷ more) = part ∷ trimmed (next ∷ more)

parts-some : (text : List ℕ) → 0 < length (parts text)
parts-some text = omega (arith, length-slice_split (λ b. b == 10) text)

trimmed-cons : (part : List ℕ) (more : List (List ℕ)) → 0 < length more
    → trimmed (part ∷ more) ≡ part ∷ trimmed more
trimmed-cons part [] some = absurd (omega arith)
trimmed-cons part (next ∷ more) some = refl

onto : (b : ℕ) (more : List (List ℕ)) → 0 < length more
    → onto_first b (trimmed more) ≡ trimmed (first_onto b more)
onto b [] some = absurd (omega arith)
onto b ([] ∷ []) some = refl
onto b ((x ∷ xs) ∷ []) some = refl
onto b (part ∷ next ∷ more) some = refl

lines_are : (text : List ℕ) → lines_of text ≡ trimmed (parts text)
unfolding lines_of
lines_are [] = refl
lines_are (b ∷ bs) = elim (cases_Bool (b == 10)) [
  | inl t ↦ rw t (ap (λ l. [] ∷ l) (lines_are bs)
      ∙ sym (trimmed-cons [] (parts bs) (parts-some bs)))
  | inr f ↦ rw f (ap (onto_first b) (lines_are bs) ∙ onto b (parts bs) (parts-some bs))
]

-- a first part with a newline behind it is the first line
pub first_of_parts : (text line rest : List ℕ) → parts text ≡ line ∷ parts rest
    → lines_of text ≡ line ∷ lines_of rest
first_of_parts text line rest e =
    lines_are text ∙ ap trimmed e ∙ trimmed-cons line (parts rest) (parts-some rest)
    ∙ ap (λ l. line ∷ l) (sym (lines_are rest))

-- a text without a newline is a line, if it has a byte
pub only_part : (text : List ℕ) → parts text ≡ text ∷ [] → 0 < length text
    → lines_of text ≡ text ∷ lines_of []
unfolding lines_of
only_part [] e some = absurd (omega arith)
only_part (b ∷ bs) e some = lines_are (b ∷ bs) ∙ ap trimmed e

join-cons : (part : List ℕ) (more : List (List ℕ)) → 0 < length more
    → join_with_byte 10 (part ∷ more) ≡ part ++ 10 ∷ join_with_byte 10 more
join-cons part [] some = absurd (omega arith)
join-cons part (next ∷ more) some = refl

-- what stands behind the first part is shorter than the text
pub rest-lt : (text line rest : List ℕ) → parts text ≡ line ∷ parts rest
    → length rest < length text
rest-lt text line rest e =
    let joined : text ≡ line ++ 10 ∷ rest =
    sym (join_with_byte-slice_split 10 text) ∙ ap (join_with_byte 10) e
    ∙ join-cons line (parts rest) (parts-some rest)
    ∙ ap (λ l. line ++ 10 ∷ l) (join_with_byte-slice_split 10 rest) in
    omega (arith, ap length joined, length-append line (10 ∷ rest))
