-- The goals of `newline` that are answered by hand.
use Rattle.std.proofs.Common.{◌<◌, Some, arith, subst, sym}
use Rattle.std.specs.Int.{w64, trailing_zeros}
use Rattle.memchr.specs.Find.{IsFirstByte, is_byte}
use Rattle.bw_shell.proofs.Newlines.{first_of_mask}
use Rattle.bw_shell.proofs.newline.newline.Goals as goal

pub returns-then-found-ne0 : goal.returns-then-found-ne0
returns-then-found-ne0 c =
    let bytes = c.args.bytes.now in
    let is = c.newlines_near-found.ensures in
    subst (λ m. IsFirstByte (is_byte 10) bytes (Some (trailing_zeros w64 m))) (sym is)
    (first_of_mask (is_byte 10) bytes (omega arith) (subst (λ n. 0 < n) is (omega arith)))
