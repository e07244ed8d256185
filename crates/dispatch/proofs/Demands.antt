-- The work that a leaf may still ask for by a time: what it will be owed by then, if that is a
-- quantum, with each of its runs as a quantum that may come back.
use Rattle.std.proofs.Common.{◌≡◌, ℕ, zero, suc, ◌+◌, ◌-◌, ◌*◌, ◌<◌, ◌≤◌, ◌⊎◌, inl, inr, nat_lt}
use Rattle.std.proofs.Common.{Bool, true, false, refl, min, arith, if◌then◌else◌}
use Rattle.std.proofs.lemmas.Bool.{ltb-false, ltb-true}

-- Of a guarantee, a quantum, the credit of the guarantee, what is owed and a quantum more, a
-- quantum for each run, and the guarantee until the time.
pub demand : (g q credit owed runs until : ℕ) → ℕ
demand zero q credit owed runs until = 0
demand (suc g) q credit owed runs until =
    if nat_lt (owed + runs + until) (2 * q + credit) then 0 else owed + until - (q + credit)

-- what a demand is
pub record Demand (g q credit owed runs until n : ℕ) : Type 0 where
  pub none : g ≡ 0 → n ≡ 0
  pub less : owed + runs + until < 2 * q + credit → n ≡ 0
  pub some : 0 < g → 2 * q + credit ≤ owed + runs + until → n ≡ owed + until - (q + credit)

tested : (b : Bool) (g q credit owed runs until : ℕ)
    → nat_lt (owed + runs + until) (2 * q + credit) ≡ b
    → Demand (suc g) q credit owed runs until
    (if◌then◌else◌ {A = ℕ} b 0 (owed + until - (q + credit)))
tested true g q credit owed runs until is =
    let l : owed + runs + until < 2 * q + credit =
    ltb-true (owed + runs + until) (2 * q + credit) is in
    record {
      none = λ e. refl;
      less = λ h. refl;
      some = λ h i. absurd (let clash : ⊥ = omega (arith, l, i) in clash);
    }
tested false g q credit owed runs until is =
    let l : 2 * q + credit ≤ owed + runs + until =
    ltb-false (owed + runs + until) (2 * q + credit) is in
    record {
      none = λ e. absurd (let clash : ⊥ = omega (arith, e) in clash);
      less = λ h. absurd (let clash : ⊥ = omega (arith, l, h) in clash);
      some = λ h i. refl;
    }

pub demand_is : (g q credit owed runs until : ℕ)
    → Demand g q credit owed runs until (demand g q credit owed runs until)
unfolding demand
demand_is zero q credit owed runs until = record {
  none = λ e. refl;
  less = λ h. refl;
  some = λ h i. absurd (let clash : ⊥ = omega (arith, h) in clash);
}
demand_is (suc g) q credit owed runs until =
    tested (nat_lt (owed + runs + until) (2 * q + credit)) g q credit owed runs until refl

-- ---- steps

-- what two demands are together
module _ (g q credit : ℕ) where
  -- less is owed, and time passes
  pub demand_less : (owed runs until owed' until' : ℕ) → owed' + until' ≤ owed + until
      → demand g q credit owed' runs until' ≤ demand g q credit owed runs until
  demand_less owed runs until owed' until' less =
      let d = demand_is g q credit owed runs until in
      let d' = demand_is g q credit owed' runs until' in
      let none = d'.none in
      let past = d'.less in
      let some' = d'.some in
      let some = d.some in
      grind (arith, less, none, past, some', some)

  -- a leaf without a guarantee asks for nothing
  pub demand_none : (owed runs until : ℕ) → g ≤ 0 → demand g q credit owed runs until ≡ 0
  demand_none owed runs until h =
      let d = demand_is g q credit owed runs until in
      d.none (omega (arith, h))

  -- a leaf that is owed no more than its credit asks for no more than its guarantee
  pub demand_within : (owed runs until : ℕ) → owed ≤ q + credit
      → demand g q credit owed runs until ≤ until
  demand_within owed runs until h =
      let d = demand_is g q credit owed runs until in
      let none = d.none in
      let past = d.less in
      let some = d.some in
      grind (arith, h, none, past, some)

  -- a leaf whose deadline is later asks for no more than its runs
  pub demand_later : (owed runs until : ℕ) → owed + until < 2 * q + credit
      → (runs ≡ 0) ⊎ (q ≤ runs) → demand g q credit owed runs until ≤ runs
  demand_later owed runs until h (inl none_runs) =
      let d = demand_is g q credit owed runs until in
      let none = d.none in
      let past = d.less in
      let some = d.some in
      grind (arith, h, none_runs, none, past, some)
  demand_later owed runs until h (inr some_run) =
      let d = demand_is g q credit owed runs until in
      let none = d.none in
      let past = d.less in
      let some = d.some in
      grind (arith, h, some_run, none, past, some)

  -- a quantum is paid that is owed by the time
  pub demand_paid : (owed capped runs until : ℕ) → 0 < g → capped ≤ owed → q ≤ capped
      → 2 * q + credit ≤ capped + until
      → demand g q credit (capped - min capped q) (runs + q) until + q
      ≤ demand g q credit owed runs until
  demand_paid owed capped runs until guaranteed less pays owes =
      let d = demand_is g q credit owed runs until in
      let d' = demand_is g q credit (capped - min capped q) (runs + q) until in
      let past = d'.less in
      let some' = d'.some in
      let some = d.some in
      grind (arith, guaranteed, less, pays, owes, past, some', some)

  -- a quantum is paid that is owed later
  pub demand_early : (capped runs until : ℕ)
      → (g ≡ 0) ⊎ ((capped < q) ⊎ (capped + until < 2 * q + credit))
      → demand g q credit (capped - min capped q) (runs + q) until ≤ until
  demand_early capped runs until (inl no_guarantee) =
      let d = demand_is g q credit (capped - min capped q) (runs + q) until in
      let none = d.none in
      omega (arith, no_guarantee, none)
  demand_early capped runs until (inr (inl short)) =
      demand_within (capped - min capped q) (runs + q) until (omega (arith, short))
  demand_early capped runs until (inr (inr later)) =
      let d = demand_is g q credit (capped - min capped q) (runs + q) until in
      let none = d.none in
      let past = d.less in
      let some = d.some in
      grind (arith, later, none, past, some)

  -- a part of a quantum comes back
  pub demand_back : (owed back runs until owed' : ℕ) → owed' ≤ owed + back → back ≤ q
      → demand g q credit owed' runs until ≤ demand g q credit owed (runs + q) until + back
  demand_back owed back runs until owed' less part =
      let d = demand_is g q credit owed (runs + q) until in
      let d' = demand_is g q credit owed' runs until in
      let none = d'.none in
      let past = d'.less in
      let some' = d'.some in
      let some = d.some in
      grind (arith, less, part, none, past, some', some)
