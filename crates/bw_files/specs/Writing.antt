-- The text that is written for each value.
use Rattle.std.specs.Prelude.{ℕ, List, ◌++◌, codes, Bool, true, false}
use Rattle.std.specs.Fmt.{decimal}
use Rattle.bw_model.specs.declared.quota.Quota.{Quota}
use Rattle.bw_model.specs.declared.quota.Quota.TheVariants.{Max, Micros}
use Rattle.bw_model.specs.declared.stat.Stat.{Stat}

-- the text of `cpu.weight`
abbrev pub weight_text : ℕ → List ℕ
weight_text n = decimal n ++ codes "\n"

-- the text of `cpu.max.burst`
abbrev pub burst_text : ℕ → List ℕ
burst_text n = decimal n ++ codes "\n"

-- a limit in microseconds, or `max`
abbrev pub quota_word : Quota → List ℕ
quota_word Max = codes "max"
quota_word (Micros n) = decimal n

-- the text of `cpu.max`: a limit, and the period
abbrev pub max_text : Quota → ℕ → List ℕ
max_text quota period = quota_word quota ++ codes " " ++ decimal period ++ codes "\n"

-- a line with a key and its value
abbrev pub line : List ℕ → ℕ → List ℕ
line key n = key ++ codes " " ++ decimal n ++ codes "\n"

-- the text of `cpu.stat`, of which the root has the first line alone
abbrev pub stat_text : Stat → Bool → List ℕ
stat_text s true = line (codes "usage_usec") s.usage_usec
stat_text s false =
    line (codes "usage_usec") s.usage_usec
    ++ line (codes "nr_periods") s.nr_periods
    ++ line (codes "nr_throttled") s.nr_throttled
    ++ line (codes "throttled_usec") s.throttled_usec
    ++ line (codes "nr_bursts") s.nr_bursts
    ++ line (codes "burst_usec") s.burst_usec
