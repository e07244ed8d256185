-- Which values the texts of a group's files stand for.
use Rattle.std.specs.Prelude.{◌≡◌, ℕ, ◌≤◌, List, [], ◌∷◌, Option, Some, None, codes}
use Rattle.bw_text.specs.Words.{words}
use Rattle.bw_text.specs.Number.{number_spelled}
use Rattle.bw_model.specs.declared.limits.TheConstants.{MIN_WEIGHT, MAX_WEIGHT, MIN_QUOTA_US}
use Rattle.bw_model.specs.declared.limits.TheConstants.{MAX_QUOTA_US, MAX_BURST_US, MIN_PERIOD_US}
use Rattle.bw_model.specs.declared.limits.TheConstants.{MAX_PERIOD_US}
use Rattle.bw_model.specs.declared.quota.Quota.{Quota}
use Rattle.bw_model.specs.declared.quota.Quota.TheVariants.{Max, Micros}
use Rattle.bw_files.specs.declared.reading.MaxWrite.{MaxWrite}

-- a word spells a number
abbrev pub IsNumber : List ℕ → ℕ → Type 0
IsNumber word n = number_spelled word ≡ Some n

-- a text of `cpu.weight`: one number, a weight
abbrev pub IsWeightText : List ℕ → ℕ → Type 0
IsWeightText text n = (word : List ℕ) × (words text ≡ word ∷ []) × IsNumber word n
    × (MIN_WEIGHT ≤ n) × (n ≤ MAX_WEIGHT)

-- a text of `cpu.max.burst`: one number, a burst in microseconds
abbrev pub IsBurstText : List ℕ → ℕ → Type 0
IsBurstText text n = (word : List ℕ) × (words text ≡ word ∷ []) × IsNumber word n
    × (n ≤ MAX_BURST_US)

-- the first word of `cpu.max`: `max` for no limit, or a number, a limit in microseconds
abbrev pub IsQuotaWord : List ℕ → Quota → Type 0
IsQuotaWord word Max = word ≡ codes "max"
IsQuotaWord word (Micros n) = IsNumber word n × (MIN_QUOTA_US ≤ n) × (n ≤ MAX_QUOTA_US)

-- the words after it: none, or one number, a period in microseconds
abbrev pub ArePeriodWords : List (List ℕ) → Option ℕ → Type 0
ArePeriodWords ws None = ws ≡ []
ArePeriodWords ws (Some n) = (word : List ℕ) × (ws ≡ word ∷ []) × IsNumber word n
    × (MIN_PERIOD_US ≤ n) × (n ≤ MAX_PERIOD_US)

-- a text of `cpu.max`: a limit, and a period or none
abbrev pub IsMaxText : List ℕ → MaxWrite → Type 0
IsMaxText text m = (first : List ℕ) × (others : List (List ℕ)) × (words text ≡ first ∷ others)
    × IsQuotaWord first m.quota × ArePeriodWords others m.period
