-- The value read from the words of a text, or the first refusal.
use Rattle.std.specs.Prelude.{ℕ, ◌^◌, ◌-◌, min, ◌||◌, nat_lt, List, [], ◌∷◌, Option, Some, None}
use Rattle.std.specs.Prelude.{Result, Ok, Err, codes, if◌then◌else◌}
use Rattle.std.specs.Str.{bytes_eq}
use Rattle.bw_text.specs.Number.{number_spelled}
use Rattle.bw_model.specs.declared.limits.TheConstants.{MIN_WEIGHT, MAX_WEIGHT, MIN_QUOTA_US}
use Rattle.bw_model.specs.declared.limits.TheConstants.{MAX_QUOTA_US, MAX_BURST_US, MIN_PERIOD_US}
use Rattle.bw_model.specs.declared.limits.TheConstants.{MAX_PERIOD_US}
use Rattle.bw_model.specs.declared.quota.Quota.{Quota}
use Rattle.bw_model.specs.declared.quota.Quota.TheVariants.{Max, Micros}
use Rattle.bw_files.specs.declared.fault.FileFault.{FileFault}
use Rattle.bw_files.specs.declared.fault.FileFault.TheVariants.{BadNumber, WeightOutOfRange}
use Rattle.bw_files.specs.declared.fault.FileFault.TheVariants.{QuotaTooSmall, QuotaTooLarge}
use Rattle.bw_files.specs.declared.fault.FileFault.TheVariants.{PeriodOutOfRange, TooManyWords}
use Rattle.bw_files.specs.declared.fault.FileFault.TheVariants.{Empty}
use Rattle.bw_files.specs.declared.reading.MaxWrite.{MaxWrite}

-- the first refusal of two steps
infixl 10 ◌>>=◌
abbrev pub ◌>>=◌ : {A B : Type 0} → Result A FileFault → (A → Result B FileFault)
    → Result B FileFault
(Ok x) >>= f = f x
(Err e) >>= f = Err e

-- a word that spells no number is refused
abbrev pub or_bad : Option ℕ → Result ℕ FileFault
or_bad None = Err BadNumber
or_bad (Some n) = Ok n

-- the number that a word spells
abbrev pub number_at : List ℕ → Result ℕ FileFault
number_at word = or_bad (number_spelled word)

-- `max` asks for no limit
abbrev pub quota_at : List ℕ → Result (Option ℕ) FileFault
quota_at word = if bytes_eq word (codes "max") then Ok None
    else (number_at word >>= λ n. Ok (Some n))

-- a weight in range
abbrev pub weight_in : ℕ → Result ℕ FileFault
weight_in n = if nat_lt n MIN_WEIGHT || nat_lt MAX_WEIGHT n then Err WeightOutOfRange else Ok n

-- a limit in range, or none
abbrev pub quota_in : Option ℕ → Result Quota FileFault
quota_in None = Ok Max
quota_in (Some n) = if nat_lt n MIN_QUOTA_US then Err QuotaTooSmall
    else if nat_lt MAX_QUOTA_US n then Err QuotaTooLarge else Ok (Micros n)

-- a period in range
abbrev pub period_in : ℕ → Result ℕ FileFault
period_in n = if nat_lt n MIN_PERIOD_US || nat_lt MAX_PERIOD_US n then Err PeriodOutOfRange
    else Ok n

-- a burst in range
abbrev pub burst_in : ℕ → Result ℕ FileFault
burst_in n = if nat_lt MAX_BURST_US n then Err QuotaTooLarge else Ok n

-- the weight that the words of `cpu.weight` set
abbrev pub weight_of : List (List ℕ) → Result ℕ FileFault
weight_of [] = Err Empty
weight_of (first ∷ []) = number_at first >>= weight_in
weight_of (first ∷ second ∷ others) = Err TooManyWords

-- the burst that the words of `cpu.max.burst` set
abbrev pub burst_of : List (List ℕ) → Result ℕ FileFault
burst_of [] = Err Empty
burst_of (first ∷ []) = number_at first >>= burst_in
burst_of (first ∷ second ∷ others) = Err TooManyWords

-- a limit alone
abbrev pub one_word : List ℕ → Result MaxWrite FileFault
one_word first = do
  asked ← quota_at first
  quota ← quota_in asked
  Ok (record { quota = quota; period = None })

-- a limit and a period: both are numbers before either is in range
abbrev pub two_words : List ℕ → List ℕ → Result MaxWrite FileFault
two_words first second = do
  asked ← quota_at first
  n ← number_at second
  quota ← quota_in asked
  period ← period_in n
  Ok (record { quota = quota; period = Some period })

-- the setting that the words of `cpu.max` spell
abbrev pub max_of : List (List ℕ) → Result MaxWrite FileFault
max_of [] = Err Empty
max_of (first ∷ []) = one_word first
max_of (first ∷ second ∷ []) = two_words first second
max_of (first ∷ second ∷ third ∷ others) = Err TooManyWords

-- a number in 64 bits: the greatest of them in place of any greater one
abbrev pub capped : Result ℕ FileFault → Result ℕ FileFault
capped (Ok n) = Ok (min n (2 ^ 64 - 1))
capped (Err e) = Err e

-- a number in 64 bits, where one is asked for
abbrev pub capped_asked : Result (Option ℕ) FileFault → Result (Option ℕ) FileFault
capped_asked (Ok None) = Ok None
capped_asked (Ok (Some n)) = Ok (Some (min n (2 ^ 64 - 1)))
capped_asked (Err e) = Err e
