-- What the rest has by weights: level by level, and over all levels.
use Rattle.std.proofs.Common.{ℕ, zero, suc, ◌+◌, ◌-◌, ◌*◌, ◌/◌, ◌^◌, ◌<◌, ◌≤◌, ◌≡◌, List, length, get_or}
use Rattle.std.proofs.Common.{arith, ap, ◌∙◌, inl, inr}
use Rattle.std.specs.Prelude.{min}
use Rattle.std.proofs.lemmas.Bool.{cases_lt}
use Rattle.std.proofs.lemmas.Grind.{div_ceil_times}
use Rattle.std.proofs.lemmas.Nat.{mul-le}
use Rattle.std.proofs.Math.Nat.{mul-le-mul_left, mul-le-mul_right, div-le_self}
use Rattle.bw_owned.specs.Rest.{own_weight, weight_beside, beside, up_to}
use Rattle.bw_owned.specs.Laws.{OthersHaveTheirPart, LevelsHaveTheirParts, RestGrows}
use Rattle.bw_owned.specs.Laws.{own_parts, all_parts, RestIsExact}

pub beside_small : (own others slices : ℕ) → others < 2 ^ 65 → slices ≤ 1000000000
    → beside own others slices < 2 ^ 96
beside_small own others slices few some =
    let product : others * slices ≤ 2 ^ 65 * 1000000000 =
    mul-le others slices (2 ^ 65) 1000000000 (omega (arith, few)) some in
    let part : others * slices / own ≤ others * slices = div-le_self (others * slices) own in
    omega (arith, product, part)

-- one level more, where what the levels before came to was cut
pub cut_above : (whole level cut most : ℕ) (others : ℕ → ℕ) → cut ≡ min whole most
    → level ≡ min (cut + others cut) most → level ≡ min (whole + others whole) most
cut_above whole level cut most others here more =
    elim (cases_lt most whole) [
      | inl above ↦
          let same : cut ≡ most = omega (arith, here, above) in
          omega (arith, same, more, above)
      | inr no_more ↦
          let same : cut ≡ whole = omega (arith, here, no_more) in
          let beside_same : others cut ≡ others whole = ap others same in
          omega (arith, same, beside_same, more)
    ]

pub up_to-more : (slices : ℕ) (own others : List ℕ) (k : ℕ)
    → up_to slices own others (k + 1) ≡ up_to slices own others k
    + beside (own_weight own k) (weight_beside others k) (up_to slices own others k)
up_to-more slices own others k =
    let one : k + 1 ≡ suc k = omega arith in ap (λ (n : ℕ). up_to slices own others n) one

pub others_have_their_part : OthersHaveTheirPart
others_have_their_part own others slices some =
    let bounds = div_ceil_times (others * slices) own some in
    let least = bounds.0 in
    let greatest = bounds.1 in
    (omega (arith, least), omega (arith, greatest))

pub rest_is_exact : RestIsExact
rest_is_exact own others slices part some exact =
    let bounds = div_ceil_times (others * slices) own some in
    let least = bounds.0 in
    let greatest = bounds.1 in
    elim (cases_lt (beside own others slices) part) [
      | inl less ↦
          let short : own * (beside own others slices + 1) ≤ own * part =
          mul-le-mul_left own (omega (arith, less)) in
          absurd (omega (arith, least, short, exact, some))
      | inr no_less ↦ elim (cases_lt part (beside own others slices)) [
        | inl more ↦
            let long : own * (part + 1) ≤ own * beside own others slices =
            mul-le-mul_left own (omega (arith, more)) in
            absurd (omega (arith, greatest, long, exact, some))
        | inr no_more ↦ omega (arith, no_less, no_more)
      ]
    ]

pub levels_have_their_parts : LevelsHaveTheirParts
levels_have_their_parts slices own others zero = omega arith
levels_have_their_parts slices own others (suc k) =
    let before = levels_have_their_parts slices own others k in
    let whole = up_to slices own others k in
    let mine = own_weight own k in
    let theirs = weight_beside others k in
    let some : 0 < mine = omega arith in
    let part : theirs * whole ≤ mine * beside mine theirs whole =
    (others_have_their_part mine theirs whole some).0 in
    let wide : slices * all_parts own others k * (mine + theirs)
    ≤ whole * own_parts own k * (mine + theirs) = mul-le-mul_right (mine + theirs) before in
    let deep : theirs * whole * own_parts own k
    ≤ mine * beside mine theirs whole * own_parts own k =
    mul-le-mul_right (own_parts own k) part in
    omega (arith, wide, deep)

-- greater weights of others, a lesser own weight and more slices have no less beside them
beside_grows : (own lesser others more slices greater : ℕ) → 0 < lesser → lesser ≤ own
    → others ≤ more → slices ≤ greater → beside own others slices ≤ beside lesser more greater
beside_grows own lesser others more slices greater some less weights amounts =
    let one = beside own others slices in
    let other = beside lesser more greater in
    elim (cases_lt other one) [
      | inl above ↦
          let first = div_ceil_times (others * slices) own (omega (arith, some, less)) in
          let second = div_ceil_times (more * greater) lesser some in
          let products : others * slices ≤ more * greater =
          mul-le others slices more greater weights amounts in
          let enough = second.0 in
          let close = first.1 in
          let narrow : other * lesser ≤ other * own = mul-le-mul_left other less in
          let far : (other + 1) * own ≤ one * own = mul-le-mul_right own (omega (arith, above)) in
          absurd (omega (arith, products, enough, close, narrow, far))
      | inr no_less ↦ omega (arith, no_less)
    ]

grows_up_to : (slices : ℕ) (own others lesser more : List ℕ) (k : ℕ)
    → length more ≡ length others
    → ((j : ℕ) → j < k → get_or lesser j 0 ≤ get_or own j 0)
    → ((j : ℕ) → j < k → get_or others j 0 ≤ get_or more j 0)
    → up_to slices own others k ≤ up_to slices lesser more k
grows_up_to slices own others lesser more zero alike less weights = omega arith
grows_up_to slices own others lesser more (suc k) alike less weights =
    let before = grows_up_to slices own others lesser more k alike
    (λ j below. less j (omega (arith, below))) (λ j below. weights j (omega (arith, below))) in
    let lower = less k (omega arith) in
    let higher = weights k (omega arith) in
    let sums : weight_beside others k ≤ weight_beside more k =
    rw (alike) (omega (arith, higher)) in
    let level = beside_grows (own_weight own k) (own_weight lesser k) (weight_beside others k)
    (weight_beside more k) (up_to slices own others k) (up_to slices lesser more k)
    (omega arith) (omega (arith, lower)) sums before in
    omega (arith, before, level)

pub rest_grows : RestGrows
rest_grows slices planned own others lesser more share greater one other owns alike less weights =
    let levels : length lesser ≡ length own = owns in
    let grown = grows_up_to slices own others lesser more (length own) alike less weights in
    let first = one.guarantee_is in
    let second : greater.guarantee
    ≡ min (up_to slices lesser more (length own)) 1000000000 - slices =
    other.guarantee_is ∙ ap (λ (n : ℕ). min (up_to slices lesser more n) 1000000000 - slices) levels
    in
    let guaranteed : share.guarantee ≤ greater.guarantee = omega (arith, grown, first, second) in
    let amount = one.amount_is in
    let amount_more = other.amount_is in
    (guaranteed, omega (arith, guaranteed, amount, amount_more))
