-- The goals of `planned_host` that are answered by hand.
use Rattle.std.proofs.Common.{rules, ◌≡◌, ◌<◌, ◌≤◌, ◌%◌, ℕ, false, ap, sym, subst, ◌∙◌}
use Rattle.bw_model.specs.declared.limits.TheConstants.{MAX_PROCESSORS}
use Rattle.bw_model.specs.Host.{Shape, IsHost, capacity_of}
use Rattle.bw_columns.specs.Asked.{asked_host}
use Rattle.bw_columns.specs.PlannedHosts.{can_share, cut, IsPlannedHost}
use Rattle.bw_columns.proofs.PlannedHosts.{planned-shared, unplanned-shared, shared_host}
use Rattle.bw_columns.proofs.PlannedHosts.{capacity_by}
use Rattle.bw_columns.proofs.planned_hosts.planned_host.Goals as goal

pub returns-in-Some-clause-ok : goal.returns-in-Some-clause-ok
returns-in-Some-clause-ok c =
    let asked : Shape = asked_host c.args.processors c.args.period_us c.args.slice_us in
    let same : c.in_ok-host.host ≡ cut asked = search rules in
    let even = capacity_by asked _ _ same c.per_processor.ensures.value in
    let at : c.host_of.result ≡ shared_host (capacity_of asked) c.in-Some.most =
    c.host_of.ensures.value ∙ ap (λ (n : ℕ). shared_host n c.in-Some.most) even in
    subst (IsPlannedHost asked) (sym at)
    (planned-shared asked c.in-Some.most (subst IsHost same c.in_ok-host.ensures.valid)
    c.if-processors-le-MAX_PROCESSORS.false (subst IsHost at c.host_of.ensures.valid)
    (subst (λ (n : ℕ). n % c.in-Some.most ≡ 0) even c.in-Some.ensures.shared.0)
    (subst (λ (n : ℕ). (k : ℕ) → c.in-Some.most < k → k ≤ MAX_PROCESSORS → can_share n k ≡ false)
    even c.in-Some.ensures.most))

pub returns-in-None-clause-err : goal.returns-in-None-clause-err
returns-in-None-clause-err c =
    let asked : Shape = asked_host c.args.processors c.args.period_us c.args.slice_us in
    let same : c.in_ok-host.host ≡ cut asked = search rules in
    let even = capacity_by asked _ _ same c.per_processor.ensures.value in
    unplanned-shared asked (subst IsHost same c.in_ok-host.ensures.valid)
    c.if-processors-le-MAX_PROCESSORS.false
    (subst (λ (n : ℕ). (k : ℕ) → 1 ≤ k → k ≤ MAX_PROCESSORS → can_share n k ≡ false) even
    c.in-None.ensures.none)
