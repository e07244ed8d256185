-- A number that is written at the end of blanks is a column.
use Rattle.std.proofs.Common.{◌≡◌, ◌∙◌, ◌≤◌, ◌-◌, ◌++◌, [], ℕ, List, length}
use Rattle.std.proofs.Common.{take, drop, arith, sym, ap, codes, append_assoc, append-nil}
use Rattle.std.proofs.Common.{replicate}
use Rattle.std.specs.Fmt.{decimal}
use Rattle.std.proofs.lemmas.List.{take-append-drop, take-append-le, drop-append-le, drop-replicate}
use Rattle.std.proofs.lemmas.List.{take-replicate, length-replicate}
use Rattle.bw_stat.specs.Report.{column}

-- a text whose first bytes are so many blanks
fronted : (xs : List ℕ) (n : ℕ) → take n xs ≡ replicate n 32 → xs ≡ replicate n 32 ++ drop n xs
fronted xs n blank = sym (take-append-drop n xs) ∙ ap (λ ys. ys ++ drop n xs) blank

-- what is left of it behind fewer bytes
pub left_blank : (xs : List ℕ) (n m : ℕ) → m ≤ n → take n xs ≡ replicate n 32
    → drop m xs ≡ replicate (n - m) 32 ++ drop n xs
left_blank xs n m few blank =
    let long = length-replicate {A = ℕ} n 32 in
    ap (drop m) (fronted xs n blank)
    ∙ drop-append-le m (replicate n 32) (drop n xs) (omega (arith, few, long))
    ∙ ap (λ ys. ys ++ drop n xs) (drop-replicate m n 32)

-- fewer of its first bytes are blanks too
pub fewer_blank : (xs : List ℕ) (n m : ℕ) → m ≤ n → take n xs ≡ replicate n 32
    → take m xs ≡ replicate m 32
fewer_blank xs n m few blank =
    let long = length-replicate {A = ℕ} n 32 in
    ap (take m) (fronted xs n blank)
    ∙ take-append-le m (replicate n 32) (drop n xs) (omega (arith, few, long))
    ∙ take-replicate m n 32 few

-- digits that are written one byte before blanks end, with the blanks before them
pub column_is : (old new : List ℕ) (number width end d start : ℕ) → 1 ≤ end
    → take end old ≡ replicate end 32 → take d new ≡ take d old
    → drop d new ≡ decimal number ++ drop (end - 1) old → d ≤ end → start ≤ d
    → d - start ≡ width - length (decimal number)
    → drop start new ≡ column width number ++ drop end old
column_is old new number width end d start some blank before written low fits wide =
    let one : end - (end - 1) ≡ 1 = omega (arith, some) in
    left_blank new d start fits (before ∙ fewer_blank old end d low blank)
    ∙ ap (λ k. replicate k 32 ++ drop d new) wide
    ∙ ap (λ r. replicate (width - length (decimal number)) 32 ++ r)
    (written ∙ ap (λ r. decimal number ++ r)
    (left_blank old end (end - 1) (omega arith) blank
    ∙ ap (λ k. replicate k 32 ++ drop end old) one))
    ∙ one_column (replicate (width - length (decimal number)) 32) (decimal number) (codes " ")
    (drop end old)
  where
    one_column : (a b c r : List ℕ) → a ++ (b ++ (c ++ r)) ≡ ((a ++ b) ++ c) ++ r
    one_column a b c r = simp append_assoc

-- four columns, one before the other
pub four_columns : (a b c d : List ℕ)
    → (a ++ codes " ") ++ ((b ++ codes " ") ++ ((c ++ codes " ") ++ ((d ++ codes " ") ++ [])))
    ≡ a ++ codes " " ++ b ++ codes " " ++ c ++ codes " " ++ d ++ codes " "
four_columns a b c d = simp (append_assoc, append-nil)
