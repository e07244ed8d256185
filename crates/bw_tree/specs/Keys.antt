-- Where the children of all groups are found: by the hash of a child's path, which is its key.
use Rattle.std.specs.Prelude.{ℕ, ◌+◌, ◌*◌, ◌%◌, ◌^◌, ◌<◌, nat_eq, nat_lt, ◌==◌, cond, List}
use Rattle.std.specs.Prelude.{if◌then◌else◌, Option, Some, None, IfSome}
use Rattle.std.specs.List.{fold}
use Rattle.std.specs.Int.{w32, from_be_bytes}
use Rattle.std.specs.HashMap.{HashMap, get}
use Rattle.std.specs.BTreeMap.{BTreeMap, get_by_text, btree_map_len}
use Rattle.std.specs.declared.string.String.{String}
use Rattle.std.specs.declared.alloc.Global.{Global}
use Rattle.std.specs.declared.hash.FoldHasher.{FoldHasher}
use Rattle.std.specs.declared.hash.BuildHasherDefault.{BuildHasherDefault}
use Rattle.bw_tree.specs.declared.path_hash.PathHash.{PathHash}
use Rattle.bw_tree.specs.declared.path_hash.TheConstants.{PRIME, FULL}

-- the value of a polynomial at a seed, with one more coefficient, modulo a prime in words of 64
-- bits
abbrev pub value_with : ℕ → ℕ → ℕ → ℕ
value_with seed value word = (value * seed % 2 ^ 64 + word) % 2 ^ 64 % PRIME

-- the bytes of a word that wait, and one more
abbrev pub waiting_with : ℕ → ℕ → ℕ
waiting_with waiting byte = (waiting * 256 % 2 ^ 32 + byte) % 2 ^ 32

-- the hash of a text and one more byte: the fourth byte of a word makes it a coefficient
unfoldable pub with_byte : ℕ → PathHash → ℕ → PathHash
with_byte seed hash byte =
    if nat_lt hash.waiting FULL
    then record { value = hash.value; waiting = waiting_with hash.waiting byte }
    else record { value = value_with seed hash.value (waiting_with hash.waiting byte); waiting = 1 }

-- the hash of a text and more bytes
unfoldable pub with_bytes : ℕ → PathHash → List ℕ → PathHash
with_bytes seed hash bytes = fold (with_byte seed) hash bytes

-- the value with more coefficients, which are words of four bytes
unfoldable pub with_words : ℕ → ℕ → List (List ℕ) → ℕ
with_words seed value words =
    fold (λ v word. value_with seed v (from_be_bytes w32 word)) value words

-- the number that stands for a whole text: the bytes that wait are a coefficient too
unfoldable pub number : ℕ → PathHash → ℕ
number seed hash = value_with seed (value_with seed hash.value hash.waiting) 0

-- the key of a child: the number of its path, which begins as those of all its siblings
abbrev pub child_key : ℕ → (ℕ → PathHash) → ℕ → List ℕ → ℕ
child_key seed fronts parent name = number seed (with_bytes seed (fronts parent) name)

-- the child with this name, among children whose keys others had before them
abbrev pub text_in : Option (BTreeMap (String Global) ℕ) → List ℕ → Option ℕ
text_in None name = None
text_in (Some children) name = get_by_text children name

-- the child of a group with this name, among those whose keys others had before them
abbrev pub text_at : HashMap ℕ (BTreeMap (String Global) ℕ) (BuildHasherDefault FoldHasher) → ℕ
    → List ℕ → Option ℕ
text_at others parent name = text_in (get nat_eq others parent) name

-- no parent has an empty map of names
abbrev pub NoneEmpty : HashMap ℕ (BTreeMap (String Global) ℕ) (BuildHasherDefault FoldHasher)
    → Type 0
NoneEmpty others = (p : ℕ) → IfSome (get nat_eq others p) (λ names. 0 < btree_map_len names)

-- the child that a key finds, after one more was given this key: the first stays
abbrev pub first_of : Option ℕ → ℕ → Option ℕ
first_of None id = Some id
first_of (Some first) id = Some first

-- the child that a key finds, after one was taken out
abbrev pub without : ℕ → Option ℕ → Option ℕ
without id None = None
without id (Some first) = cond (first == id) None (Some first)
