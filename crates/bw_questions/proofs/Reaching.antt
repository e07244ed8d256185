-- What the one plan says of what is reached.
use Rattle.std.proofs.Common.{◌≡◌, ℕ, ◌<◌, ◌≤◌, List, length, get_or, ap, arith, leb}
use Rattle.std.specs.Prelude.{IsTrue, ◌↔◌}
use Rattle.std.proofs.lemmas.Bool.{leb-true, le-leb}
use Rattle.bw_model.specs.Groups.{Groups, IsInstance, AreTreeRows}
use Rattle.bw_model.specs.Plan.{IsPlan}
use Rattle.bw_model.proofs.CallerLemmas.{IsPlan-unique, mosts, mosts-capped}
use Rattle.bw_plan.proofs.CallerLemmas.{plan-IsPlanning}
use Rattle.bw_questions.specs.Least.{Reaches}

-- A plan has an amount for each group.
pub inside_plan : (groups : Groups) → IsInstance groups → (amounts : List ℕ) → IsPlan groups amounts
    → (group : ℕ) → group < length groups.rows → group < length amounts
inside_plan groups valid amounts plan group below =
    omega (
      arith,
      below,
      (plan-IsPlanning groups valid (mosts groups valid.tree) (mosts-capped groups valid.tree)
          amounts plan).one_each,
    )

-- The amount of a plan tells what is reached.
pub reached_by : (groups : Groups) (group amount value : ℕ) (amounts : List ℕ)
    → AreTreeRows groups.rows → IsPlan groups amounts → value ≡ get_or amounts group 0
    → IsTrue (leb amount value) ↔ Reaches groups group amount
reached_by groups group amount value amounts tree plan is = (
  λ enough. record {
    amounts = amounts;
    plan = plan;
    enough = let h : amount ≤ value = leb-true amount value enough in omega (arith, h, is);
  },
  λ reached. le-leb amount value
      (let same : reached.amounts ≡ amounts =
      IsPlan-unique groups reached.amounts amounts tree reached.plan plan in
      let here : get_or reached.amounts group 0 ≡ get_or amounts group 0 =
      ap (λ xs. get_or xs group 0) same in
      omega (arith, reached.enough, here, is)),
)
