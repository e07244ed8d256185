-- Weights at the greatest level, and the law that they are one.
use Rattle.std.proofs.Common.{◌≡◌, ℕ, List, Bool, subst, arith, inl, inr}
use Rattle.std.proofs.lemmas.Bool.{cases_lt}
use Rattle.bw_model.specs.declared.limits.TheConstants.{MIN_WEIGHT, MAX_WEIGHT}
use Rattle.bw_model.specs.Groups.{Groups, IsInstance}
use Rattle.bw_plan.specs.Laws.{ThereIsOnePlan}
use Rattle.bw_questions.specs.changes.Weight.{OthersWeightsGiveNothing}
use Rattle.bw_questions.specs.FromRoot.{AreMet, AreMetUnder, AreNeverMet, IsReweightedAt}
use Rattle.bw_questions.specs.FromRoot.{IsTunedFromRoot}
use Rattle.bw_questions.specs.Lowered.{CanBeMetAt, IsGreatestLevel, IsTuned, ThereIsOneTuned}
use Rattle.bw_questions.specs.Lowered.{lowered, own_rows}
use Rattle.bw_questions.specs.declared.from_root.least.Tuned.{Tuned}
use Rattle.bw_questions.specs.declared.from_root.least.Tuned.TheVariants.{Met, Unmet}
use Rattle.bw_questions.specs.declared.from_root.measure.Measure.{Measure}
use Rattle.bw_questions.specs.declared.from_root.measure.Measure.TheVariants.{Planned, Guaranteed}
use Rattle.bw_questions.proofs.LoweredWeights.{met_at}
use Rattle.bw_questions.proofs.OneFromRoot.{one_from_root}

-- All goals are met, so those of a group and below it are.
pub met_under : (measure : Measure) (others : Groups) (goals : List ℕ) (top : ℕ)
    → AreMet measure others goals → AreMetUnder measure others goals top
met_under Planned others goals top reached = record {
  amounts = reached.amounts;
  plan = reached.plan;
  met = λ h below under. reached.met h below;
}
met_under Guaranteed others goals top kept = λ h below under. kept h below

-- Least weights from the root down are of rows that may change, and meet all goals.
pub met_reweighted : (measure : Measure) (groups : Groups) (goals : List ℕ) (may : List Bool)
    (tuned : Groups) → IsTunedFromRoot measure groups goals may (Met tuned)
    → IsReweightedAt groups tuned may
met_reweighted measure groups goals may tuned (inl raised) = raised.reweighted
met_reweighted measure groups goals may tuned (inr all) = all.reweighted

pub met_goals : (measure : Measure) (groups : Groups) (goals : List ℕ) (may : List Bool)
    (tuned : Groups) → IsTunedFromRoot measure groups goals may (Met tuned)
    → AreMet measure tuned goals
met_goals measure groups goals may tuned (inl raised) = raised.met
met_goals measure groups goals may tuned (inr all) = all.met

module _ (measure : Measure) (groups : Groups) (goals : List ℕ) (may : List Bool) where
  -- An answer of an instance at a level, and of its own rows.
  pub moved : (level : ℕ) (low : Groups) (own : List Bool) (told tuned : Tuned)
      → low ≡ lowered groups goals may level → own ≡ own_rows groups.rows goals may
      → told ≡ tuned → IsTunedFromRoot measure low goals own told
      → IsTunedFromRoot measure (lowered groups goals may level) goals
      (own_rows groups.rows goals may) tuned
  moved level low own told tuned same_low same_own is found =
      subst (λ (t : Tuned). IsTunedFromRoot measure (lowered groups goals may level) goals
      (own_rows groups.rows goals may) t) is
      (subst (λ (o : List Bool). IsTunedFromRoot measure (lowered groups goals may level) goals o
      told) same_own
      (subst (λ (g : Groups). IsTunedFromRoot measure g goals own told) same_low found))

  -- Least weights of the goals' own rows at a level tell that goals can be met there.
  pub can_at : (level : ℕ) (tuned : Groups)
      → IsTunedFromRoot measure (lowered groups goals may level) goals
      (own_rows groups.rows goals may) (Met tuned)
      → CanBeMetAt measure groups goals may level
  can_at level tuned found = record {
    others = tuned;
    reweighted =
        met_reweighted measure (lowered groups goals may level) goals
        (own_rows groups.rows goals may) tuned found;
    met =
        met_goals measure (lowered groups goals may level) goals
        (own_rows groups.rows goals may) tuned found;
  }

  -- A group whose goals are never met at a level tells that goals cannot be met there.
  pub cannot_at : (level top : ℕ) → AreNeverMet measure (lowered groups goals may level) goals
      (own_rows groups.rows goals may) top
      → ¬ CanBeMetAt measure groups goals may level
  cannot_at level top never can =
      never.never can.others can.reweighted (met_under measure can.others goals top can.met)

  -- Goals that are met where no weight is lowered.
  pub at_greatest : (tuned : Groups)
      → IsTunedFromRoot measure (lowered groups goals may MAX_WEIGHT) goals
      (own_rows groups.rows goals may) (Met tuned)
      → IsTuned measure groups goals may (Met tuned)
  at_greatest tuned found = record {
    level = MAX_WEIGHT;
    greatest = record {
      no_lower = omega arith;
      no_higher = omega arith;
      met = can_at MAX_WEIGHT tuned found;
      greatest = λ higher above within can.
          let clash : ⊥ = omega (arith, above, within) in clash;
    };
    own = found;
  }

  -- Goals that are met at the greatest level.
  pub at_level : (level : ℕ) → IsGreatestLevel measure groups goals may level → (tuned : Tuned)
      → IsTunedFromRoot measure (lowered groups goals may level) goals
      (own_rows groups.rows goals may) tuned
      → IsTuned measure groups goals may tuned
  at_level level greatest (Met tuned) found = record {
    level = level;
    greatest = greatest;
    own = found;
  }
  at_level level greatest (Unmet top) never =
      absurd (cannot_at level top never greatest.met)

  -- What some weights of rows that may change meet, can be met at the least level.
  pub at_least : IsInstance groups → ThereIsOnePlan → OthersWeightsGiveNothing
      → (tuned : Groups) → IsTunedFromRoot measure groups goals may (Met tuned)
      → CanBeMetAt measure groups goals may MIN_WEIGHT
  at_least valid one law tuned found =
      met_at measure groups valid goals may one law tuned
      (met_reweighted measure groups goals may tuned found)
      (met_goals measure groups goals may tuned found)

  -- There is one greatest level.
  one_level : (a b : ℕ) → IsGreatestLevel measure groups goals may a
      → IsGreatestLevel measure groups goals may b → a ≡ b
  one_level a b one two = elim (cases_lt a b) [
    | inl less ↦ absurd (one.greatest b less two.no_higher two.met)
    | inr no_less ↦ elim (cases_lt b a) [
      | inl more ↦ absurd (two.greatest a more one.no_higher one.met)
      | inr no_more ↦ omega (arith, no_less, no_more)
    ]
  ]

pub one_tuned : ThereIsOneTuned
one_tuned measure groups one two goals may a b =
    let same : b.level ≡ a.level =
    one_level measure groups goals may b.level a.level b.greatest a.greatest in
    one_from_root measure (lowered groups goals may a.level) one two goals
    (own_rows groups.rows goals may) a.own
    (subst (λ (l : ℕ). IsTunedFromRoot measure (lowered groups goals may l) goals
    (own_rows groups.rows goals may) (Met two)) same b.own)
