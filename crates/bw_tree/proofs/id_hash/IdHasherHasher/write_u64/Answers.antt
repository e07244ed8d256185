-- The goals of `write_u64` that are answered by hand.
use Rattle.std.proofs.Common.{rules, ℕ, ◌<◌, ◌^◌, sym, ap}
use Rattle.std.proofs.lemmas.Nat.{from_le_bytes-to_le_bytes_8}
use Rattle.std.specs.Hash.{le_bytes}
use Rattle.bw_tree.specs.declared.id_hash.IdHasher.{IdHasher}
use Rattle.bw_tree.proofs.id_hash.IdHasherHasher.write_u64.Goals as goal

pub returns : goal.returns
unfolding le_bytes
returns c =
    let small : c.args.id < 2 ^ 64 = search rules in
    let made : ℕ → IdHasher = λ n. record { id = n } in
    ap made (sym (from_le_bytes-to_le_bytes_8 c.args.id small))
