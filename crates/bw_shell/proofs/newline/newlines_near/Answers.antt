-- The goals of `newlines_near` that are answered by hand.
use Rattle.std.proofs.Common.{arith, eqb, take, w8}
use Rattle.std.proofs.lemmas.List.{length-take}
use Rattle.std.proofs.lemmas.Simd.{bitmask_splat}
use Rattle.bw_shell.proofs.newline.newlines_near.Goals as goal

pub returns : goal.returns
returns c =
    let bytes = c.args.bytes.now in
    bitmask_splat w8 eqb (take 32 bytes) 32 10 (omega (arith, length-take 32 bytes)) (omega arith)
