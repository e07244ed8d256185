-- Texts that end with a line: the lines of what stands behind such a text are lines of their own.
use Rattle.std.proofs.Common.{◌≡◌, ℕ, Bool, true, false, cond, eqb, List, [], ◌∷◌, ◌++◌}
use Rattle.std.proofs.Common.{refl, sym, ap, subst, ◌∙◌, append_assoc, append-nil}
use Rattle.std.specs.Prelude.{codes}
use Rattle.std.specs.List.{list_any, flat_map, join_with_byte}
use Rattle.std.specs.Fmt.{decimal, digits}
use Rattle.std.proofs.lemmas.Bool.{or_parts}
use Rattle.std.proofs.lemmas.List.Folds.{list_any-append}
use Rattle.bw_cert.specs.Spelling.{line}
use Rattle.bw_streams.specs.Answers.{number_line}
use Rattle.bw_commands.specs.Faults.{error_line, script_fault_number, script_fault_name}
use Rattle.bw_commands.specs.GroupLines.{group_lines}
use Rattle.bw_commands.specs.Lines.{lines_of, onto_first}
use Rattle.bw_commands.specs.declared.fault.ScriptFault.{ScriptFault}
use Rattle.bw_commands.specs.declared.fault.ScriptFault.TheVariants.{NotStarted, OutOfMemory}
use Rattle.bw_laws.specs.Transcripts.{is_failure, IsWithoutFailure}

-- the lines of this text stand before those of any text behind it
pub record IsWhole (text : List ℕ) : Type 0 where
  pub before : (more : List ℕ) → lines_of (text ++ more) ≡ lines_of text ++ lines_of more

pub none_whole : IsWhole []
unfolding lines_of
none_whole = record { before = λ more. refl }

pub both_whole : (a b : List ℕ) → IsWhole a → IsWhole b → IsWhole (a ++ b)
both_whole a b first second = record {
  before = λ more. ap lines_of (append_assoc a b more) ∙ first.before (b ++ more)
      ∙ ap (λ xs. lines_of a ++ xs) (second.before more)
      ∙ sym (append_assoc (lines_of a) (lines_of b) (lines_of more))
      ∙ ap (λ xs. xs ++ lines_of more) (sym (first.before b));
}

-- what stands in front of a newline is the end of some lines, whatever stands behind it
to_newline : (front : List ℕ) → (first : List ℕ) × (rest : List (List ℕ))
    × ((more : List ℕ) → lines_of (front ++ 10 ∷ more) ≡ first ∷ (rest ++ lines_of more))
unfolding lines_of
to_newline [] = ([], [], λ more. refl)
to_newline (b ∷ front) = by (eqb b 10) refl (to_newline front)
  where
    by : (is : Bool) → eqb b 10 ≡ is
        → (first : List ℕ) × (rest : List (List ℕ))
        × ((more : List ℕ) → lines_of (front ++ 10 ∷ more) ≡ first ∷ (rest ++ lines_of more))
        → (first : List ℕ) × (rest : List (List ℕ))
        × ((more : List ℕ) → cond (eqb b 10) ([] ∷ lines_of (front ++ 10 ∷ more))
        (onto_first b (lines_of (front ++ 10 ∷ more))) ≡ first ∷ (rest ++ lines_of more))
    by true is on = (
      [],
      on.0 ∷ on.1,
      λ more. ap (λ t. cond t ([] ∷ lines_of (front ++ 10 ∷ more))
          (onto_first b (lines_of (front ++ 10 ∷ more)))) is
          ∙ ap (λ ls. [] ∷ ls) (on.2 more),
    )
    by false is on = (
      b ∷ on.0,
      on.1,
      λ more. ap (λ t. cond t ([] ∷ lines_of (front ++ 10 ∷ more))
          (onto_first b (lines_of (front ++ 10 ∷ more)))) is
          ∙ ap (onto_first b) (on.2 more),
    )

-- a text with a newline at its end
pub line_whole : (front : List ℕ) → IsWhole (front ++ 10 ∷ [])
unfolding lines_of
line_whole front =
    let on = to_newline front in
    record {
      before = λ more. ap lines_of (append_assoc front (10 ∷ []) more) ∙ on.2 more
          ∙ ap (λ rest. (on.0 ∷ rest) ++ lines_of more) (sym (append-nil on.1))
          ∙ ap (λ ls. ls ++ lines_of more) (sym (on.2 []));
    }

pub behind_whole : (front back : List ℕ) → IsWhole (front ++ (back ++ 10 ∷ []))
behind_whole front back = subst IsWhole (append_assoc front back (10 ∷ [])) (line_whole (front ++ back))

pub error_whole : (fault : ScriptFault) → IsWhole (error_line fault)
unfolding error_line
error_whole fault = line_whole
    (codes "error " ++ decimal (script_fault_number fault) ++ codes " " ++ script_fault_name fault)

-- a number behind a word
pub number_whole : (word : List ℕ) (n : ℕ) → IsWhole (number_line word n)
number_whole word n = line_whole (word ++ decimal n)

-- lines of groups
pub group_lines_whole : (text : ℕ → List ℕ → List ℕ)
    → ((g : ℕ) (path : List ℕ) → IsWhole (text g path)) → (gs : List ℕ) (paths : List (List ℕ))
    → IsWhole (group_lines text gs paths)
group_lines_whole text each [] paths = none_whole
group_lines_whole text each (g ∷ gs) [] = none_whole
group_lines_whole text each (g ∷ gs) (path ∷ paths) =
    both_whole (text g path) (group_lines text gs paths) (each g path)
    (group_lines_whole text each gs paths)

-- lines of words
pub word_lines_whole : (lines : List (List (List ℕ))) → IsWhole (flat_map line lines)
word_lines_whole [] = none_whole
word_lines_whole (words ∷ lines) =
    both_whole (line words) (flat_map line lines) (line_whole (join_with_byte 32 words))
    (word_lines_whole lines)

-- ---- no failure

-- a text without failures has none in its front, and none behind it
pub without_parts : (a b : List ℕ) → IsWhole a → IsWithoutFailure (a ++ b)
    → IsWithoutFailure a × IsWithoutFailure b
without_parts a b whole without =
    or_parts (list_any is_failure (lines_of a)) (list_any is_failure (lines_of b))
    (sym (list_any-append is_failure (lines_of a) (lines_of b))
    ∙ ap (list_any is_failure) (sym (whole.before b)) ∙ without)

pub memory_fails : IsWithoutFailure (error_line OutOfMemory) → ⊥
unfolding error_line digits lines_of
memory_fails without = let clash : true ≡ false = without in absurd (cc)

pub start_fails : IsWithoutFailure (error_line NotStarted) → ⊥
unfolding error_line digits lines_of
start_fails without = let clash : true ≡ false = without in absurd (cc)
