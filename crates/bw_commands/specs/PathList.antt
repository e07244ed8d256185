-- All paths of a tree, one after another in one text.
use Rattle.std.specs.Prelude.{ℕ, ◌≤◌, ⊤, List, [], ◌∷◌, ◌++◌, ◌==◌, map, if◌then◌else◌, Option}
use Rattle.std.specs.Prelude.{Some, None, codes, slice_index_or}
use Rattle.std.specs.List.{slice_range}
use Rattle.bw_commands.specs.declared.span.Span.{Span}

-- the bytes of the text from a span's start up to its end
abbrev pub cut : List ℕ → Span → List ℕ
cut text span = slice_range text span.start span.end

-- the bytes of the text at each span
abbrev pub cuts : List ℕ → List Span → List (List ℕ)
cuts text spans = map (cut text) spans

-- each span lies in a text of so many bytes
abbrev pub AreWithin : ℕ → List Span → Type 0
AreWithin bytes [] = ⊤
AreWithin bytes (span ∷ spans) =
    (span.start ≤ span.end) × (span.end ≤ bytes) × AreWithin bytes spans

-- the path of a group by its parent's row and its name, where the paths of all rows before it
-- stand: `.` for the root, the
-- name for the root's child, else the parent's path, `/` and the name
abbrev pub path_below : List (List ℕ) → Option ℕ → List ℕ → List ℕ
path_below paths None name = codes "."
path_below paths (Some parent) name =
    if parent == 0 then name else slice_index_or paths parent [] ++ 47 ∷ name
