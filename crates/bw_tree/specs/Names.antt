-- The bytes of a name, in place or on the heap.
use Rattle.std.specs.Prelude.{ℕ, List}
use Rattle.std.specs.String.{string_bytes}
use Rattle.bw_tree.specs.declared.name.Text.{Text}
use Rattle.bw_tree.specs.declared.name.Text.TheVariants.{Short, Long}

-- the bytes of a name
abbrev pub text_bytes : Text → List ℕ
text_bytes (Short text) = text.bytes
text_bytes (Long text) = string_bytes text
