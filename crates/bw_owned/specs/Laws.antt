-- Laws of what owners set.
use Rattle.std.specs.Prelude.{◌≡◌, ◌≢◌, ℕ, zero, suc, ◌+◌, ◌*◌, ◌<◌, ◌≤◌, IfSome, List, Some}
use Rattle.std.specs.Prelude.{[], ◌∷◌, length, true, slice_index, max, sum, if◌then◌else◌, replicate}
use Rattle.bw_model.specs.declared.limits.TheConstants.{MIN_WEIGHT, MAX_WEIGHT, MAX_DEMAND}
use Rattle.bw_model.specs.declared.limits.TheConstants.{MIN_QUOTA_US, MAX_QUOTA_US}
use Rattle.bw_model.specs.declared.limits.TheConstants.{MIN_PERIOD_US, MAX_PERIOD_US}
use Rattle.bw_owned.specs.declared.allowed.TheConstants.{MICRO_NS}
use Rattle.bw_owned.specs.declared.harm.ServedSlices.{ServedSlices}
use Rattle.bw_owned.specs.declared.judged.TheConstants.{JUDGED_ROUNDS}
use Rattle.bw_owned.specs.declared.formula.WeightFormula.{WeightFormula}
use Rattle.bw_owned.specs.declared.formula.WeightFormula.TheVariants.{SharesLinear}
use Rattle.bw_owned.specs.declared.formula.WeightFormula.TheVariants.{SharesLogarithmic}
use Rattle.bw_owned.specs.declared.formula.WeightFormula.TheVariants.{RequestLinear}
use Rattle.bw_owned.specs.declared.formula.WeightFormula.TheVariants.{RequestLogarithmic}
use Rattle.bw_owned.specs.declared.formula.LimitFormula.{LimitFormula}
use Rattle.bw_owned.specs.declared.limit.OwnedLimit.{OwnedLimit}
use Rattle.bw_owned.specs.Allowed.{allowed_time}
use Rattle.bw_owned.specs.Harm.{IsHarmed}
use Rattle.bw_owned.specs.Judged.{IsJudged, last_rounds}
use Rattle.bw_owned.specs.declared.rest.RestShare.{RestShare}
use Rattle.bw_owned.specs.Requests.{number_for_request}
use Rattle.bw_owned.specs.Rest.{own_weight, weight_beside, beside, up_to, IsRestShare}
use Rattle.bw_owned.specs.LetGo.{AreLetGo}
use Rattle.bw_owned.specs.Round.{asked_column, asks_for_all, unserved}
use Rattle.bw_owned.specs.Swings.{went_back, has_turned}
use Rattle.bw_owned.specs.Weights.{IsOwnedWeight}
use Rattle.bw_owned.specs.Least.{first_number, last_number, IsLeastNumber}
use Rattle.bw_owned.specs.Limits.{limit_by}
use Rattle.bw_owned.specs.Pods.{IsPodAmount}

-- By each formula a greater number has no lesser weight.
abbrev pub WeightsGrow : Type 0
WeightsGrow = (formula : WeightFormula) (number more weight greater : ℕ) → number ≤ more
    → IsOwnedWeight formula number weight → IsOwnedWeight formula more greater → weight ≤ greater

-- By each formula a weight is 1 to 10000.
abbrev pub WeightsAreInRange : Type 0
WeightsAreInRange = (formula : WeightFormula) (number weight : ℕ)
    → IsOwnedWeight formula number weight → (MIN_WEIGHT ≤ weight) × (weight ≤ MAX_WEIGHT)

-- By each formula a number has one weight.
abbrev pub WeightsAreOne : Type 0
WeightsAreOne = (formula : WeightFormula) (number one other : ℕ)
    → IsOwnedWeight formula number one → IsOwnedWeight formula number other → one ≡ other

-- The first number that can be set has weight 1, and the last one weight 10000.
pub record WeightsAtTheEnds : Type 0 where
  pub first : (formula : WeightFormula) → IsOwnedWeight formula (first_number formula) MIN_WEIGHT
  pub last : (formula : WeightFormula) → IsOwnedWeight formula (last_number formula) MAX_WEIGHT

-- There is one least number.
abbrev pub LeastIsOne : Type 0
LeastIsOne = (formula : WeightFormula) (weight one other : ℕ) → IsLeastNumber formula weight one
    → IsLeastNumber formula weight other → one ≡ other

-- a quota within the kernel's range, or none, with a period within its range
pub record IsLimitInRange (set : OwnedLimit) : Type 0 where
  pub quota : IfSome set.quota (λ quota. (MIN_QUOTA_US ≤ quota) × (quota ≤ MAX_QUOTA_US))
  pub period : (MIN_PERIOD_US ≤ set.period_us) × (set.period_us ≤ MAX_PERIOD_US)

-- By each formula quota and period are within the kernel's range.
abbrev pub LimitsAreInRange : Type 0
LimitsAreInRange = (formula : LimitFormula) (number period : ℕ)
    → IsLimitInRange (limit_by formula number period)

-- By each formula a greater number has no lesser quota of one period.
abbrev pub LimitsGrow : Type 0
LimitsGrow = (formula : LimitFormula) (number more period quota greater : ℕ) → number ≤ more
    → (limit_by formula number period).period_us ≡ (limit_by formula more period).period_us
    → (limit_by formula number period).quota ≡ Some quota
    → (limit_by formula more period).quota ≡ Some greater → quota ≤ greater

-- Parts of a pod have one amount.
abbrev pub PodAmountIsOne : Type 0
PodAmountIsOne = (kinds amounts : List ℕ) (one other : ℕ) → IsPodAmount kinds amounts one
    → IsPodAmount kinds amounts other → one ≡ other

-- By each formula no lesser number is written for a greater request.
abbrev pub RequestsAreWritten : Type 0
RequestsAreWritten = (formula : WeightFormula) (request more : ℕ) → request ≤ more
    → number_for_request formula request ≤ number_for_request formula more

-- Shares that are written for a request weigh what the request weighs.
pub record SharesWeighAsRequests : Type 0 where
  pub linear : (request weight : ℕ) → IsOwnedWeight RequestLinear request weight
      → IsOwnedWeight SharesLinear (number_for_request SharesLinear request) weight
  pub logarithmic : (request weight : ℕ) → IsOwnedWeight RequestLogarithmic request weight
      → IsOwnedWeight SharesLogarithmic (number_for_request SharesLogarithmic request) weight

-- A greater quota, a shorter own period, a greater burst and a longer time allow no less.
abbrev pub AllowedGrows : Type 0
AllowedGrows = (quota more period shorter burst higher passed longer : ℕ) → 1 ≤ shorter
    → quota ≤ more → shorter ≤ period → burst ≤ higher → passed ≤ longer
    → allowed_time quota period burst passed ≤ allowed_time more shorter higher longer

-- Without a burst, parts of a time are allowed no more than the whole.
abbrev pub PartsAllowNoMore : Type 0
PartsAllowNoMore = (quota period one other : ℕ) → 1 ≤ period
    → allowed_time quota period 0 one + allowed_time quota period 0 other
    ≤ allowed_time quota period 0 (one + other)

-- Without a burst, whole own periods allow as many quotas.
abbrev pub PeriodsAllowQuotas : Type 0
PeriodsAllowQuotas = (quota period many : ℕ) → 1 ≤ period
    → allowed_time quota period 0 (many * (period * MICRO_NS)) ≡ many * (quota * MICRO_NS)

-- Where limits do harm, less of the plan was served under them than without them.
abbrev pub HarmIsHarm : Type 0
HarmIsHarm = (free held : ServedSlices) → 0 < free.planned → IsHarmed free held
    → held.used * free.planned < free.used * held.planned

-- Where rounds are told of slices that limits served too little, as many were held as judge them.
-- In these less of the plan was served than in the last ones without limits.
abbrev pub LostIsHarm : Type 0
LostIsHarm = (free_used free_planned held_used held_planned sure guesses : List ℕ)
    (lost guessed : ℕ)
    → IsJudged free_used free_planned held_used held_planned sure guesses lost guessed → 0 < lost
    → 0 < sum (last_rounds free_planned)
    → (JUDGED_ROUNDS ≤ length held_used)
    × (sum (last_rounds held_used) * sum (last_rounds free_planned)
    < sum (last_rounds free_used) * sum (last_rounds held_planned))

-- Where rounds are told of guesses, as many were held as judge them. In these more was used on a
-- guess than for sure.
abbrev pub GuessesAreMost : Type 0
GuessesAreMost = (free_used free_planned held_used held_planned sure guesses : List ℕ)
    (lost guessed : ℕ)
    → IsJudged free_used free_planned held_used held_planned sure guesses lost guessed
    → 0 < guessed
    → (JUDGED_ROUNDS ≤ length held_used)
    × (sum (last_rounds sure) < sum (last_rounds guesses))

-- A round asks for each leaf what its reading asks for: everything by its flag, else its slices.
abbrev pub RoundAsksAsRead : Type 0
RoundAsksAsRead = (used asked : ℕ) → asked ≤ MAX_DEMAND
    → (if asks_for_all asked then MAX_DEMAND else asked_column used asked) ≡ asked

-- A leaf that would not have used more lacks nothing. Another one used and lacks its plan together,
-- unless it used more.
pub record OnlyTheHungryLack : Type 0 where
  pub others : (planned used : ℕ) → unserved planned used 0 ≡ 0
  pub hungry : (planned used flag : ℕ) → flag ≢ 0
      → used + unserved planned used flag ≡ max used planned

-- A number that went back turned: one that only rises, only falls or stays never does.
abbrev pub BackHasTurned : Type 0
BackHasTurned = (now last before : ℕ) → went_back now last before ≡ true
    → has_turned now last before ≡ true

-- Where no part has a lesser amount, the pod has no lesser one.
abbrev pub PodAmountsGrow : Type 0
PodAmountsGrow = (kinds amounts more : List ℕ) (one other : ℕ) → length more ≡ length amounts
    → ((k : ℕ) → k < length amounts → slice_index amounts k ≤ slice_index more k)
    → IsPodAmount kinds amounts one → IsPodAmount kinds more other → one ≤ other

-- Others have at least their part by weights beside a group, and less than a slice more.
abbrev pub OthersHaveTheirPart : Type 0
OthersHaveTheirPart = (own others slices : ℕ) → 0 < own
    → (others * slices ≤ own * beside own others slices)
    × (own * beside own others slices < others * slices + own)

-- Where weights make whole slices, others have just these.
abbrev pub RestIsExact : Type 0
RestIsExact = (own others slices part : ℕ) → 0 < own → others * slices ≡ own * part
    → beside own others slices ≡ part

-- the product of the own weights of the first levels, and that of all weights
abbrev pub own_parts : List ℕ → ℕ → ℕ
own_parts own zero = 1
own_parts own (suc k) = own_parts own k * own_weight own k

abbrev pub all_parts : List ℕ → List ℕ → ℕ → ℕ
all_parts own others zero = 1
all_parts own others (suc k) =
    all_parts own others k * (own_weight own k + weight_beside others k)

-- Of what the levels come to, the slices are no more than the product of the parts by weights.
abbrev pub LevelsHaveTheirParts : Type 0
LevelsHaveTheirParts = (slices : ℕ) (own others : List ℕ) (k : ℕ)
    → slices * all_parts own others k ≤ up_to slices own others k * own_parts own k

-- With no greater weights of the planned groups, and no lesser ones of others, the rest has no
-- less.
abbrev pub RestGrows : Type 0
RestGrows = (slices planned : ℕ) (own others lesser more : List ℕ) (share greater : RestShare)
    → IsRestShare slices planned own others share → IsRestShare slices planned lesser more greater
    → length lesser ≡ length own → length more ≡ length others
    → ((k : ℕ) → k < length own → slice_index lesser k ≤ slice_index own k)
    → ((k : ℕ) → k < length own → slice_index others k ≤ slice_index more k)
    → (share.guarantee ≤ greater.guarantee) × (share.amount ≤ greater.amount)

-- Beside a group of weight 100 with 100 slices the rest is guaranteed twice as many: others of the
-- weight 100 are there, and the root's tasks.
abbrev pub TheRestHasTwice : Type 0
TheRestHasTwice = IsRestShare 100 80 (100 ∷ []) (100 ∷ [])
    (record { amount = 200; guarantee = 200 })

-- Of groups of which the first to go is enough, no two go.
abbrev pub OneSwings : Type 0
OneSwings = (least k other : ℕ) (counts slices go : List ℕ) → length go ≡ length slices
    → AreLetGo 1 least counts slices go
    → k < length slices → other < length slices → 0 < slice_index go k → 0 < slice_index go other
    → k ≡ other

-- Of two groups that swing for sixty rounds the one goes whose use changed by 7, and not by 5.
abbrev pub OneOfTwoGoes : Type 0
OneOfTwoGoes = AreLetGo 1 60 (60 ∷ 60 ∷ []) (7 ∷ 5 ∷ []) (1 ∷ 0 ∷ [])

-- Sixty rounds that serve half of a plan under limits, and all of it without, lost 19 parts of 20
-- less that half.
abbrev pub HalfIsLost : Type 0
HalfIsLost = IsJudged (replicate 60 10) (replicate 60 10) (replicate 60 5) (replicate 60 10)
    (replicate 60 0) (replicate 60 0) 270 0
