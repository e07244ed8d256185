-- The lines that the first reader answers.
use Rattle.std.specs.Prelude.{ℕ, ◌≡◌, ◌<◌, ◌⊎◌, List, ◌∷◌, ◌++◌, true, length, codes}
use Rattle.bw_commands.specs.Word.{is_blank, word_len_of}

-- some bytes, none of them a blank
abbrev pub IsWord : List ℕ → Type 0
IsWord word = (0 < length word) × (word_len_of word ≡ length word)

-- The text begins with this word and a blank, and this stands behind the blank.
abbrev pub BeginsWith : List ℕ → List ℕ → List ℕ → Type 0
BeginsWith text word rest =
    IsWord word × ((b : ℕ) × (is_blank b ≡ true) × (text ≡ word ++ (b ∷ rest)))

-- `mkdir P`, `demand P N` or `read P FILE`, or `write P FILE` with a text behind its blank. One
-- space stands between the words.
abbrev pub IsPlain : List ℕ → Type 0
IsPlain line = (path : List ℕ) × IsWord path × ((line ≡ codes "mkdir " ++ path)
    ⊎ ((word : List ℕ) × IsWord word
    × ((line ≡ codes "demand " ++ (path ++ (32 ∷ word)))
    ⊎ ((line ≡ codes "read " ++ (path ++ (32 ∷ word)))
    ⊎ ((text : List ℕ) × (line ≡ codes "write " ++ (path ++ (32 ∷ (word ++ (32 ∷ text))))))))))
