-- A part of a script, as contracts see it.
use Rattle.std.specs.Prelude.{ℕ, List}
use Rattle.bw_commands.specs.Parsed.{marked_text}
use Rattle.bw_shell.specs.declared.piece.Piece.{Piece}
use Rattle.bw_shell.specs.declared.piece.Piece.TheVariants.{Text, Bytes, Line}

-- its bytes
abbrev pub bytes_of : Piece → List ℕ
bytes_of (Text text) = text.now
bytes_of (Bytes bytes) = bytes.now
bytes_of (Line line) = marked_text line
