-- The gain of a leaf on another between two times of a run.
use Rattle.std.proofs.Common.{◌≡◌, ◌≢◌, ℕ, ◌+◌, ◌*◌, ◌≤◌, List, [], ◌∷◌, ◌++◌, length, sym}
use Rattle.std.proofs.Common.{subst, ◌∙◌}
use Rattle.std.proofs.Common.{arith}
use Rattle.dispatch.specs.declared.events.Event.{Event}
use Rattle.dispatch.specs.Rule.{DispatchState, leaf_at, after}
use Rattle.dispatch.specs.Runs.{after_all, IsRun, WaitsThroughout, GainIsBounded, runs_of}
use Rattle.dispatch.specs.Runs.{most_ahead}
use Rattle.dispatch.proofs.Leads.{lead_is_bounded, leads_of}

run_front : (s : DispatchState) (overrun : ℕ) (es fs : List Event) → IsRun overrun s (es ++ fs)
    → IsRun overrun s es
run_front s overrun [] fs run = tt
run_front s overrun (e ∷ es) fs run =
    (run.0, run.1, run_front (after s e) overrun es fs run.2)

waits_front : (j : ℕ) (s : DispatchState) (es fs : List Event) → WaitsThroughout j s (es ++ fs)
    → WaitsThroughout j s es
waits_front j s [] fs waits = tt
waits_front j s (e ∷ es) fs waits = (waits.0, waits_front j (after s e) es fs waits.1)

added : (ui uj ti tj ri rj a b ahead behind : ℕ) → (ui + ri) * b ≤ uj * a + ahead
    → (tj + rj) * a ≤ ti * b + behind → ui * b + tj * a ≤ uj * a + ti * b + (ahead + behind)
added ui uj ti tj ri rj a b ahead behind one two = omega (arith, one, two)

pub gain_is_bounded : GainIsBounded
gain_is_bounded s overrun i j before later start run waits_i waits_j ne =
    let t = after_all s before in
    let u = after_all s (before ++ later) in
    let front = run_front s overrun before later run in
    let waits = waits_front i s before later waits_i in
    let back : j ≢ i = λ e. ne (sym e) in
    let at_u = leads_of s overrun i j (before ++ later) start run waits_j ne in
    let at_t = leads_of s overrun j i before start front waits back in
    let same_a : (leaf_at t i).amount ≡ (leaf_at u i).amount = at_t.amount_j ∙ sym at_u.amount_i in
    let same_b : (leaf_at t j).amount ≡ (leaf_at u j).amount = at_t.amount_i ∙ sym at_u.amount_j in
    let behind =
    subst (λ (b : ℕ). ((leaf_at t j).used + (t.slice + overrun) * runs_of j t.processors)
    * (leaf_at u i).amount ≤ (leaf_at t i).used * b
    + most_ahead s.slice overrun (length s.processors) b (leaf_at u i).amount) same_b
    (subst (λ (a : ℕ). ((leaf_at t j).used + (t.slice + overrun) * runs_of j t.processors)
    * a ≤ (leaf_at t i).used * (leaf_at t j).amount
    + most_ahead s.slice overrun (length s.processors) (leaf_at t j).amount a) same_a
    (lead_is_bounded s overrun j i before start front waits back)) in
    added (leaf_at u i).used (leaf_at u j).used (leaf_at t i).used (leaf_at t j).used
    ((u.slice + overrun) * runs_of i u.processors) ((t.slice + overrun) * runs_of j t.processors)
    (leaf_at u i).amount (leaf_at u j).amount
    (most_ahead s.slice overrun (length s.processors) (leaf_at u i).amount (leaf_at u j).amount)
    (most_ahead s.slice overrun (length s.processors) (leaf_at u j).amount (leaf_at u i).amount)
    (lead_is_bounded s overrun i j (before ++ later) start run waits_j ne) behind
