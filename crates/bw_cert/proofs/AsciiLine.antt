-- A group's line is ASCII.
use Rattle.std.proofs.Common.{ℕ, ◌<◌, ◌^◌, Bool, true, false, List, [], ◌∷◌, ◌++◌}
use Rattle.std.proofs.Common.{Option, Some, None, arith}
use Rattle.std.specs.Prelude.{IfSome, codes}
use Rattle.std.specs.Str.{IsAscii}
use Rattle.std.specs.Fmt.{decimal}
use Rattle.std.proofs.lemmas.Fmt.{IsAscii-decimal}
use Rattle.std.proofs.lemmas.Str.{IsAscii-append}
use Rattle.std.proofs.lemmas.Str.Ascii.{IsAscii-nil, IsAscii-cons}
use Rattle.bw_model.specs.declared.row.Row.{Row}
use Rattle.bw_model.specs.Marks.{MarkValue}
use Rattle.bw_cert.specs.Spelling.{parent_word, limit_word, flag_word, level_word}
use Rattle.bw_cert.specs.Spelling.{line, group_words, IsSmallRow, IsSmallLevel}

one : (b : ℕ) → b < 128 → IsAscii (b ∷ [])
one b lt = IsAscii-cons b [] lt IsAscii-nil

parent_ascii : (parent : Option ℕ) → IfSome parent (λ n. n < 2 ^ 32)
    → IsAscii (parent_word parent)
parent_ascii None small = one 45 (omega arith)
parent_ascii (Some n) small = IsAscii-decimal n (omega (arith, small))

limit_ascii : (limit : Option ℕ) → IfSome limit (λ n. n < 2 ^ 64) → IsAscii (limit_word limit)
limit_ascii None small =
    IsAscii-cons 109 (97 ∷ 120 ∷ []) (omega arith)
    (IsAscii-cons 97 (120 ∷ []) (omega arith) (one 120 (omega arith)))
limit_ascii (Some n) small = IsAscii-decimal n small

flag_ascii : (flag : Bool) → IsAscii (flag_word flag)
flag_ascii true = one 49 (omega arith)
flag_ascii false = one 48 (omega arith)

level_ascii : (level : Option MarkValue) → IfSome level IsSmallLevel → IsAscii (level_word level)
level_ascii None small = one 45 (omega arith)
level_ascii (Some l) small =
    IsAscii-append (decimal l.num ++ codes "/" ++ decimal l.den ++ codes "@") (decimal l.place)
    (IsAscii-append (decimal l.num ++ codes "/" ++ decimal l.den) (codes "@")
    (IsAscii-append (decimal l.num ++ codes "/") (decimal l.den)
    (IsAscii-append (decimal l.num) (codes "/") (IsAscii-decimal l.num small.num)
    (one 47 (omega arith)))
    (IsAscii-decimal l.den small.den))
    (one 64 (omega arith)))
    (IsAscii-decimal l.place (omega (arith, small.place)))

-- a word, and the text after the space behind it
spaced : (xs ys : List ℕ) → IsAscii xs → IsAscii ys → IsAscii (xs ++ 32 ∷ ys)
spaced xs ys x y = IsAscii-append xs (32 ∷ ys) x (IsAscii-cons 32 ys (omega arith) y)

pub group_ascii : (r : Row) (amount : ℕ) (flag : Bool) (level : Option MarkValue) → IsSmallRow r
    → amount < 2 ^ 64 → IfSome level IsSmallLevel → IsAscii (line (group_words r amount flag level))
group_ascii r amount flag level row small_amount small_level =
    IsAscii-append _ (10 ∷ [])
    (spaced _ _ (parent_ascii r.parent row.parent)
    (spaced _ _ (IsAscii-decimal r.weight row.weight)
    (spaced _ _ (limit_ascii r.limit row.limit)
    (spaced _ _ (IsAscii-decimal r.demand row.demand)
    (spaced _ _ (IsAscii-decimal amount small_amount)
    (spaced _ _ (flag_ascii flag) (level_ascii level small_level)))))))
    (one 10 (omega arith))
