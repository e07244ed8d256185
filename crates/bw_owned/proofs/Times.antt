-- Times that limits allow: they grow, and parts are allowed no more than the whole.
use Rattle.std.proofs.Common.{ℕ, ◌+◌, ◌*◌, ◌/◌, ◌≤◌, ◌≡◌, arith, ap, ◌∙◌}
use Rattle.std.proofs.lemmas.Nat.{mul-le, le-div}
use Rattle.std.proofs.Math.Nat.{mul-le-mul_left, div-mul-le_self, mul-div_left}
use Rattle.bw_owned.specs.Laws.{AllowedGrows, PartsAllowNoMore, PeriodsAllowQuotas}

pub allowed_grows : AllowedGrows
allowed_grows quota more period shorter burst higher passed longer some quotas periods bursts times =
    let part = quota * passed / period in
    let narrow : part * shorter ≤ part * period = mul-le-mul_left part periods in
    let whole : part * period ≤ quota * passed = div-mul-le_self (quota * passed) period in
    let wide : quota * passed ≤ more * longer = mul-le quota passed more longer quotas times in
    let parts : part ≤ more * longer / shorter =
    le-div part (more * longer) shorter some (omega (arith, narrow, whole, wide)) in
    omega (arith, parts, bursts)

pub parts_allow_no_more : PartsAllowNoMore
parts_allow_no_more quota period one other some =
    let first : quota * one / period * period ≤ quota * one = div-mul-le_self (quota * one) period in
    let second : quota * other / period * period ≤ quota * other =
    div-mul-le_self (quota * other) period in
    let both : (quota * one / period + quota * other / period) * period ≤ quota * (one + other) =
    omega (arith, first, second) in
    let parts : quota * one / period + quota * other / period ≤ quota * (one + other) / period =
    le-div (quota * one / period + quota * other / period) (quota * (one + other)) period some both
    in
    omega (arith, parts)

pub periods_allow_quotas : PeriodsAllowQuotas
periods_allow_quotas quota period many some =
    let turned : quota * (many * (period * 1000)) ≡ many * (quota * 1000) * period = omega arith in
    let whole : quota * (many * (period * 1000)) / period ≡ many * (quota * 1000) =
    ap (λ (n : ℕ). n / period) turned ∙ mul-div_left (many * (quota * 1000)) some in
    omega (arith, whole)
