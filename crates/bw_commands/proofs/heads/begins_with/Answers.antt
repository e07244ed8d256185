-- The goals of `begins_with` that are answered by hand.
use Rattle.std.proofs.Common.{rules, ◌≡◌, ◌+◌, ◌-◌, ℕ, length, take, arith, subst, sym}
use Rattle.std.specs.Simd.Lanes.{chunk}
use Rattle.bw_commands.proofs.FourBytes.{same_front, last_four}
use Rattle.bw_commands.proofs.heads.begins_with.Goals as goal

pub returns-clause-same : goal.returns-clause-same
returns-clause-same c t =
    let text = c.args.text.now in
    let front = c.args.front.now in
    let k : ℕ = length front - 4 in
    let whole : k + 4 ≡ length front = omega arith in
    let first : chunk 0 4 text ≡ chunk 0 4 front = search rules in
    subst (λ n. take n text ≡ front) whole
    (same_front text front k (omega arith) (sym whole) first (c.same_four-2.ensures.same t))

pub returns-clause-only : goal.returns-clause-only
returns-clause-only c is =
    let text = c.args.text.now in
    let front = c.args.front.now in
    let k : ℕ = length front - 4 in
    let whole : k + 4 ≡ length front = omega arith in
    c.same_four-2.ensures.only
    (last_four text front k (subst (λ n. take n text ≡ front) (sym whole) is))
