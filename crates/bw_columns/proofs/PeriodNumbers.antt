-- The numbers that refuse settings and samples.
use Rattle.std.proofs.Common.{◌≡◌, ℕ, zero, suc, ◌+◌, ◌<◌, List, Option, None, Some, length}
use Rattle.std.proofs.Common.{Result, Ok, Err, refl, ap, sym, ◌∙◌, subst, arith, inl, inr, zero-add}
use Rattle.std.proofs.Common.{slice_index, map, unwrap_or}
use Rattle.std.specs.List.{range_with_len}
use Rattle.std.specs.Option.{option_map_or}
use Rattle.std.proofs.lemmas.Bool.{cases_eq}
use Rattle.bw_model.specs.declared.row.Row.{Row}
use Rattle.bw_model.specs.declared.instance_fault.InstanceFault.{InstanceFault}
use Rattle.bw_model.specs.declared.instance_fault.InstanceFault.TheVariants.{TooMany, BadParent}
use Rattle.bw_model.specs.declared.instance_fault.InstanceFault.TheVariants.{BadWeight, TooDeep}
use Rattle.bw_model.specs.declared.instance_fault.InstanceFault.TheVariants.{InnerDemand}
use Rattle.bw_model.specs.declared.instance_fault.InstanceFault.TheVariants.{DemandTooLarge}
use Rattle.bw_model.specs.declared.instance_fault.InstanceFault.TheVariants.{RootLimited}
use Rattle.bw_model.specs.declared.instance_fault.InstanceFault.TheVariants.{OutOfMemory}
use Rattle.bw_model.specs.Host.{Shape}
use Rattle.bw_model.specs.Refusal.{refusal, IsRefused}
use Rattle.bw_model.specs.Faults.{instance_fault_number}
use Rattle.bw_files.specs.declared.fault.FileFault.{FileFault}
use Rattle.bw_files.specs.declared.fault.FileFault.TheVariants.{BadNumber, WeightOutOfRange}
use Rattle.bw_files.specs.declared.fault.FileFault.TheVariants.{QuotaTooSmall, QuotaTooLarge}
use Rattle.bw_files.specs.declared.fault.FileFault.TheVariants.{PeriodOutOfRange, TooManyWords}
use Rattle.bw_files.specs.declared.fault.FileFault.TheVariants.{Empty}
use Rattle.bw_files.specs.Reading.{quota_in, period_in, burst_in, ◌>>=◌}
use Rattle.bw_model.specs.declared.quota.Quota.{Quota}
use Rattle.bw_model.specs.Quota.{in_slices, slices_of}
use Rattle.bw_tree.specs.Snapshot.{bursting}
use Rattle.bw_columns.specs.Asked.{Answers, IsAfterMemory, parent_in, limit_in, limit_number}
use Rattle.bw_columns.specs.PlannedHosts.{cut}
use Rattle.bw_columns.specs.PeriodLimits.{limit_by}
use Rattle.bw_columns.specs.Questions.{first_refusal}
use Rattle.bw_columns.specs.Periods.{Settings, refused_number, setting_number_at, settings_number}
use Rattle.bw_columns.specs.Periods.{set_rows, first_number, sample_number, samples_number}
use Rattle.bw_columns.specs.Periods.{periods_number, rows_asking, demands_at, set_row, most_at}
use Rattle.bw_columns.specs.Periods.{mosts_of, quota_named}
use Rattle.bw_columns.proofs.Asked.{after_memory}
use Rattle.bw_columns.proofs.Questions.{first_none, first_some, carried}

-- the number of a setting is above 3 and not 50, or none
setting_later : (r : Result ℕ FileFault) → IsAfterMemory (refused_number r)
setting_later (Ok value) = inl refl
setting_later (Err BadNumber) = inr (omega arith, λ e. omega (arith, e))
setting_later (Err WeightOutOfRange) = inr (omega arith, λ e. omega (arith, e))
setting_later (Err QuotaTooSmall) = inr (omega arith, λ e. omega (arith, e))
setting_later (Err QuotaTooLarge) = inr (omega arith, λ e. omega (arith, e))
setting_later (Err PeriodOutOfRange) = inr (omega arith, λ e. omega (arith, e))
setting_later (Err TooManyWords) = inr (omega arith, λ e. omega (arith, e))
setting_later (Err Empty) = inr (omega arith, λ e. omega (arith, e))

first_later : (a b : ℕ) → IsAfterMemory a → IsAfterMemory b → IsAfterMemory (first_refusal a b)
first_later a b one two = elim (cases_eq a 0) [
  | inl none ↦ subst IsAfterMemory (sym (first_none a b none)) two
  | inr some ↦ subst IsAfterMemory (sym (first_some a b some)) one
]

module _ (f : ℕ → ℕ) where
  -- no number
  pub range_none : (a n : ℕ) → ((k : ℕ) → k < n → f (a + k) ≡ 0)
      → first_number f (range_with_len a n) ≡ 0
  range_none a zero each = refl
  range_none a (suc n) each =
      let here : f a ≡ 0 = ap f (omega arith) ∙ each 0 (omega arith) in
      first_none (f a) (first_number f (range_with_len (a + 1) n)) here
      ∙ range_none (a + 1) n
      (λ k below. ap f (omega arith) ∙ each (suc k) (omega (arith, below)))

  range_later : ((k : ℕ) → IsAfterMemory (f k)) → (a n : ℕ)
      → IsAfterMemory (first_number f (range_with_len a n))
  range_later each a zero = inl refl
  range_later each a (suc n) =
      first_later (f a) (first_number f (range_with_len (a + 1) n)) (each a)
      (range_later each (a + 1) n)

  -- the first number, behind places without one
  range_answers : ((k : ℕ) → IsAfterMemory (f k)) → (answer : ℕ) → 0 < answer → (a n k : ℕ)
      → k < n → ((j : ℕ) → j < k → f (a + j) ≡ 0) → Answers (f (a + k)) answer
      → Answers (first_number f (range_with_len a n)) answer
  range_answers later answer positive a zero k within before held = absurd (omega (arith, within))
  range_answers later answer positive a (suc n) zero within before held =
      let same : a + 0 ≡ a = omega arith in
      carried (f a) (first_number f (range_with_len (a + 1) n)) answer positive
      (range_later later (a + 1) n)
      (subst (λ (m : ℕ). Answers (f m) answer) same held)
  range_answers later answer positive a (suc n) (suc k) within before held =
      let here : f a ≡ 0 = ap f (omega arith) ∙ before 0 (omega arith) in
      let same : a + suc k ≡ a + 1 + k = omega arith in
      subst (λ (m : ℕ). Answers m answer)
      (sym (first_none (f a) (first_number f (range_with_len (a + 1) n)) here))
      (range_answers later answer positive (a + 1) n k (omega (arith, within))
      (λ j below. ap f (omega arith) ∙ before (suc j) (omega (arith, below)))
      (subst (λ (m : ℕ). Answers (f m) answer) same held))

-- one place more
pub none_more : (f : ℕ → ℕ) (n : ℕ) → ((j : ℕ) → j < n → f j ≡ 0) → f n ≡ 0 → (j : ℕ) → j < n + 1
    → f j ≡ 0
none_more f n before here j below = elim (cases_eq j n) [
  | inl last ↦ ap f last ∙ here
  | inr other ↦ before j (omega (arith, other, below))
]

-- places from 0 on
pub none_from : (f : ℕ → ℕ) (n : ℕ) → ((k : ℕ) → k < n → f k ≡ 0)
    → first_number f (range_with_len 0 n) ≡ 0
none_from f n each =
    range_none f 0 n (λ k below. ap f (zero-add k) ∙ each k below)

answers_from : (f : ℕ → ℕ) → ((k : ℕ) → IsAfterMemory (f k)) → (answer : ℕ) → 0 < answer
    → (n k : ℕ) → k < n → ((j : ℕ) → j < k → f j ≡ 0) → Answers (f k) answer
    → Answers (first_number f (range_with_len 0 n)) answer
answers_from f later answer positive n k within before held =
    range_answers f later answer positive 0 n k within
    (λ j below. ap f (zero-add j) ∙ before j below)
    (subst (λ (m : ℕ). Answers (f m) answer) (sym (zero-add k)) held)

settings_later : (shape : Shape) (settings : Settings) (g : ℕ)
    → IsAfterMemory (setting_number_at shape settings g)
settings_later shape settings g =
    setting_later
    (limit_by shape (slice_index settings.quotas g) (slice_index settings.periods g)
    (slice_index settings.bursts g) 0)

samples_later : (rows : List Row) (demands : List ℕ) (k : ℕ)
    → IsAfterMemory (sample_number rows demands k)
samples_later rows demands k =
    after_memory (refusal (rows_asking rows (demands_at (length rows) demands k)))

-- the settings of a group are refused, those of the groups before are not
pub settings_refused : (shape : Shape) (settings : Settings) (answer : ℕ) → 0 < answer → (g : ℕ)
    → g < length settings.parents → ((j : ℕ) → j < g → setting_number_at shape settings j ≡ 0)
    → Answers (setting_number_at shape settings g) answer
    → Answers (settings_number shape settings) answer
settings_refused shape settings answer positive g within before held =
    answers_from (setting_number_at shape settings) (settings_later shape settings) answer positive
    (length settings.parents) g within before held

-- memory is refused after the settings
pub settings_memory : (shape : Shape) (settings : Settings)
    → Answers (settings_number shape settings) 71
settings_memory shape settings =
    inr (
      refl,
      range_later (setting_number_at shape settings) (settings_later shape settings) 0
          (length settings.parents),
    )

-- a sample is refused, those before are not
pub sample_refused : (rows : List Row) (count : ℕ) (demands : List ℕ) (answer : ℕ) → 0 < answer
    → (k : ℕ) → k < count → ((j : ℕ) → j < k → sample_number rows demands j ≡ 0)
    → Answers (sample_number rows demands k) answer
    → Answers (samples_number rows count demands) answer
sample_refused rows count demands answer positive k within before held =
    answers_from (sample_number rows demands) (samples_later rows demands) answer positive count k
    within before held

pub samples_memory : (rows : List Row) (count : ℕ) (demands : List ℕ)
    → Answers (samples_number rows count demands) 71
samples_memory rows count demands =
    inr (refl, range_later (sample_number rows demands) (samples_later rows demands) 0 count)

-- rows that are refused
pub rows_answer : (r : Option InstanceFault) (fault : InstanceFault) → IsRefused r fault
    → Answers (option_map_or instance_fault_number r 0) (instance_fault_number fault)
rows_answer r TooMany h = inl (ap (λ o. option_map_or instance_fault_number o 0) (sym h))
rows_answer r BadParent h = inl (ap (λ o. option_map_or instance_fault_number o 0) (sym h))
rows_answer r BadWeight h = inl (ap (λ o. option_map_or instance_fault_number o 0) (sym h))
rows_answer r TooDeep h = inl (ap (λ o. option_map_or instance_fault_number o 0) (sym h))
rows_answer r InnerDemand h = inl (ap (λ o. option_map_or instance_fault_number o 0) (sym h))
rows_answer r DemandTooLarge h = inl (ap (λ o. option_map_or instance_fault_number o 0) (sym h))
rows_answer r RootLimited h = inl (ap (λ o. option_map_or instance_fault_number o 0) (sym h))
rows_answer r OutOfMemory h = inr (refl, after_memory r)

pub rows_memory : (r : Option InstanceFault)
    → Answers (option_map_or instance_fault_number r 0) 71
rows_memory r = inr (refl, after_memory r)

module _ (shape : Shape) (settings : Settings) (count : ℕ) (demands : List ℕ) where
  -- the settings are refused
  pub periods_settings : (answer : ℕ) → 0 < answer → Answers (settings_number shape settings) answer
      → Answers (periods_number shape settings count demands) answer
  unfolding periods_number
  periods_settings answer positive held =
      carried (settings_number shape settings)
      (samples_number (set_rows shape settings) count demands) answer positive
      (range_later (sample_number (set_rows shape settings) demands)
      (samples_later (set_rows shape settings) demands) 0 count) held

  -- the settings are not refused, a sample is
  pub periods_samples : (answer : ℕ) → settings_number shape settings ≡ 0
      → Answers (samples_number (set_rows shape settings) count demands) answer
      → Answers (periods_number shape settings count demands) answer
  unfolding periods_number
  periods_samples answer none held =
      subst (λ (m : ℕ). Answers m answer)
      (sym (first_none (settings_number shape settings)
      (samples_number (set_rows shape settings) count demands) none)) held

  -- nothing is refused
  pub periods_none : settings_number shape settings ≡ 0
      → samples_number (set_rows shape settings) count demands ≡ 0
      → periods_number shape settings count demands ≡ 0
  unfolding periods_number
  periods_none none fine =
      first_none (settings_number shape settings)
      (samples_number (set_rows shape settings) count demands) none ∙ fine

-- memory is refused
pub periods_memory : (shape : Shape) (settings : Settings) (count : ℕ) (demands : List ℕ)
    → Answers (periods_number shape settings count demands) 71
unfolding periods_number
periods_memory shape settings count demands =
    inr (
      refl,
      first_later (settings_number shape settings)
          (samples_number (set_rows shape settings) count demands)
          (range_later (setting_number_at shape settings) (settings_later shape settings) 0
          (length settings.parents))
          (range_later (sample_number (set_rows shape settings) demands)
          (samples_later (set_rows shape settings) demands) 0 count),
    )

-- the number of processors changes no conversion
slices_cut : (shape : Shape) (period : ℕ) (o : Option ℕ)
    → slices_of (cut shape) period (quota_named o) ≡ slices_of shape period (quota_named o)
slices_cut shape period None = refl
slices_cut shape period (Some us) = refl

refused_cut : (shape : Shape) (quota : Result Quota FileFault) (period burst : Result ℕ FileFault)
    → refused_number (quota >>= λ q. period >>= λ p. burst >>= λ b. Ok (limit_number
    (bursting 0 (in_slices (cut shape) p b) (slices_of (cut shape) p q))))
    ≡ refused_number (quota >>= λ q. period >>= λ p. burst >>= λ b. Ok (limit_number
    (bursting 0 (in_slices shape p b) (slices_of shape p q))))
refused_cut shape (Err fault) period burst = refl
refused_cut shape (Ok q) (Err fault) burst = refl
refused_cut shape (Ok q) (Ok p) (Err fault) = refl
refused_cut shape (Ok q) (Ok p) (Ok b) = refl

module _ (shape : Shape) (settings : Settings) where
  set_row_cut : (g : ℕ) → set_row (cut shape) settings g ≡ set_row shape settings g
  set_row_cut g =
      ap (λ (limit : Option ℕ). record {
        parent = parent_in (slice_index settings.parents g);
        weight = slice_index settings.weights g;
        limit = limit;
        demand = 0;
      })
      (slices_cut shape (slice_index settings.periods g)
      (limit_in (slice_index settings.quotas g)))

  pub set_rows_cut : set_rows (cut shape) settings ≡ set_rows shape settings
  set_rows_cut =
      ap (λ (f : ℕ → Row). map f (range_with_len 0 (length settings.parents)))
      (λ i g. set_row_cut g i)

  most_cut : (g : ℕ) → most_at (cut shape) settings g ≡ most_at shape settings g
  most_cut g =
      ap (λ (quota : Option ℕ). unwrap_or quota 0
      + in_slices shape (slice_index settings.periods g) (slice_index settings.bursts g))
      (slices_cut shape (slice_index settings.periods g)
      (limit_in (slice_index settings.quotas g)))

  pub mosts_cut : mosts_of (cut shape) settings ≡ mosts_of shape settings
  mosts_cut =
      ap (λ (f : ℕ → ℕ). map f (range_with_len 0 (length settings.parents)))
      (λ i g. most_cut g i)

  setting_cut : (g : ℕ)
      → setting_number_at (cut shape) settings g ≡ setting_number_at shape settings g
  setting_cut g =
      refused_cut shape (quota_in (limit_in (slice_index settings.quotas g)))
      (period_in (slice_index settings.periods g)) (burst_in (slice_index settings.bursts g))

  settings_cut : settings_number (cut shape) settings ≡ settings_number shape settings
  settings_cut =
      ap (λ (f : ℕ → ℕ). first_number f (range_with_len 0 (length settings.parents)))
      (λ i g. setting_cut g i)

  pub periods_cut : (count : ℕ) (demands : List ℕ)
      → periods_number (cut shape) settings count demands
      ≡ periods_number shape settings count demands
  unfolding periods_number
  periods_cut count demands =
      ap (λ (n : ℕ). first_refusal n (samples_number (set_rows (cut shape) settings) count demands))
      settings_cut
      ∙ ap (λ (rows : List Row). first_refusal (settings_number shape settings)
      (samples_number rows count demands)) set_rows_cut
