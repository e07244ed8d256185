-- What is kept of a line, and what is asked by it.
use Rattle.std.proofs.Common.{◌≡◌, ◌≤◌, ◌<◌, ℕ, List, Some, None, Err, refl, inl, inr, length}
use Rattle.std.specs.Str.{IsUtf8, is_utf8}
use Rattle.std.proofs.lemmas.Str.{IsUtf8-from_is_utf8, is_utf8-from_IsUtf8}
use Rattle.std.proofs.lemmas.Bool.{cases_Bool, lt-ltb, le-ltb}
use Rattle.bw_commands.specs.Command.{command_of_line}
use Rattle.bw_commands.specs.Script.{kept_of, request_of_kept}
use Rattle.bw_commands.specs.declared.fault.ScriptFault.TheVariants as fault

pub kept_of-long : (line : List ℕ) → 65536 < length line → kept_of line ≡ None
kept_of-long line h = rw (lt-ltb 65536 (length line) h) refl

pub kept_of-short : (line : List ℕ) → length line ≤ 65536 → kept_of line ≡ Some line
kept_of-short line h = rw (le-ltb 65536 (length line) h) refl

pub request_of_kept-text : (line : List ℕ) → IsUtf8 line
    → request_of_kept (Some line) ≡ command_of_line line
unfolding request_of_kept
request_of_kept-text line h = rw (is_utf8-from_IsUtf8 line h) refl

pub request_of_kept-bad : (line : List ℕ) → (IsUtf8 line → ⊥)
    → request_of_kept (Some line) ≡ Err fault.BadText
unfolding request_of_kept
request_of_kept-bad line h = elim (cases_Bool (is_utf8 line)) [
  | inl t ↦ absurd (h (IsUtf8-from_is_utf8 line t))
  | inr f ↦ rw f refl
]

pub request_of_kept-long : request_of_kept None ≡ Err fault.LineTooLong
unfolding request_of_kept
request_of_kept-long = refl
