-- What is read is a value of the text, and each value of the text is read.
use Rattle.std.proofs.Common.{◌≡◌, ℕ, ◌≤◌, Bool, true, false, ◌||◌, cond, ltb, List, [], ◌∷◌}
use Rattle.std.proofs.Common.{Option, Some, None, Result, Ok, Err, refl, sym, ap, ◌∙◌, ◌⊎◌, inl}
use Rattle.std.proofs.Common.{inr, arith}
use Rattle.std.specs.Prelude.{codes, IfOk, IfSome}
use Rattle.bw_model.specs.Quota.{IsValid}
use Rattle.std.specs.Str.{bytes_eq}
use Rattle.std.proofs.lemmas.Bool.{le-ltb, cases_Bool}
use Rattle.std.proofs.lemmas.Bool.Decides.{nat_tests}
use Rattle.std.proofs.lemmas.Slice.Eq.{bytes_eq-Decides}
use Rattle.bw_text.specs.Words.{words}
use Rattle.bw_text.specs.Number.{number_spelled}
use Rattle.bw_model.specs.declared.limits.TheConstants.{MIN_QUOTA_US, MAX_QUOTA_US, MIN_PERIOD_US}
use Rattle.bw_model.specs.declared.limits.TheConstants.{MAX_PERIOD_US}
use Rattle.bw_model.specs.declared.quota.Quota.{Quota}
use Rattle.bw_model.specs.declared.quota.Quota.TheVariants.{Max, Micros}
use Rattle.bw_files.specs.declared.fault.FileFault.{FileFault}
use Rattle.bw_files.specs.declared.fault.FileFault.TheVariants as faults
use Rattle.bw_files.specs.declared.reading.MaxWrite.{MaxWrite}
use Rattle.bw_files.specs.Values.{IsNumber, IsQuotaWord, ArePeriodWords, IsMaxText}
use Rattle.bw_files.specs.Reading.{◌>>=◌, or_bad, number_at, quota_at, quota_in, period_in, max_of}

bind_ok : {A B : Type 0} (r : Result A FileFault) (f : A → Result B FileFault) (y : B)
    → (r >>= f) ≡ Ok y → (x : A) × (r ≡ Ok x) × (f x ≡ Ok y)
bind_ok (Ok x) f y e = (x, refl, e)
bind_ok (Err d) f y e = absurd cc

or_bad_found : (o : Option ℕ) (n : ℕ) → or_bad o ≡ Ok n → o ≡ Some n
or_bad_found None n e = absurd cc
or_bad_found (Some m) n e = cc

number_found : (word : List ℕ) (n : ℕ) → number_at word ≡ Ok n → IsNumber word n
number_found word n e = or_bad_found (number_spelled word) n e

number_only : (word : List ℕ) (n : ℕ) → IsNumber word n → number_at word ≡ Ok n
number_only word n e = rw e refl

asked_parts : (b : Bool) (r : Result ℕ FileFault) (asked : Option ℕ)
    → cond b (Ok None) (r >>= λ n. Ok (Some n)) ≡ Ok asked
    → ((b ≡ true) × (asked ≡ None)) ⊎ ((n : ℕ) × (r ≡ Ok n) × (asked ≡ Some n))
asked_parts true r asked e = inl (refl, cc)
asked_parts false (Ok n) asked e = inr (n, refl, cc)
asked_parts false (Err f) asked e = absurd cc

is_max : (word : List ℕ) → bytes_eq word (codes "max") ≡ true → word ≡ codes "max"
is_max word e = (bytes_eq-Decides word (codes "max")).0 e

no_limit : (quota : Quota) → quota_in None ≡ Ok quota → quota ≡ Max
no_limit quota e = cc

in_range : (a b : Bool) (n : ℕ) (quota : Quota) → cond a (Err faults.QuotaTooSmall)
    (cond b (Err faults.QuotaTooLarge) (Ok (Micros n))) ≡ Ok quota
    → (a ≡ false) × (b ≡ false) × (quota ≡ Micros n)
in_range true b n quota e = absurd cc
in_range false true n quota e = absurd cc
in_range false false n quota e = (refl, refl, cc)

not_below : (a b : ℕ) → ltb a b ≡ false → b ≤ a
not_below a b e = grind (arith, nat_tests)

quota_found : (word : List ℕ) (asked : Option ℕ) (quota : Quota) → quota_at word ≡ Ok asked
    → quota_in asked ≡ Ok quota → IsQuotaWord word quota
quota_found word asked quota e f =
    elim (asked_parts (bytes_eq word (codes "max")) (number_at word) asked e) [
      | inl p ↦
          let q : quota ≡ Max = no_limit quota (rw p.1 at f) in
          rw q (is_max word p.0)
      | inr p ↦
          let r = in_range (ltb p.0 MIN_QUOTA_US) (ltb MAX_QUOTA_US p.0) p.0 quota (rw p.2 at f) in
          rw r.2 (
            number_found word p.0 p.1,
            not_below p.0 MIN_QUOTA_US r.0,
            not_below MAX_QUOTA_US p.0 r.1,
          )
    ]

no_number : (n : ℕ) → number_spelled (codes "max") ≡ Some n → ⊥
no_number n e = cc

-- no number is spelled `max`
not_max : (word : List ℕ) (n : ℕ) → IsNumber word n → bytes_eq word (codes "max") ≡ false
not_max word n e =
    elim (cases_Bool (bytes_eq word (codes "max"))) [
      | inl h ↦ absurd (no_number n (rw (is_max word h) at e))
      | inr h ↦ h
    ]

quota_only : (word : List ℕ) (quota : Quota) → IsQuotaWord word quota
    → (asked : Option ℕ) × (quota_at word ≡ Ok asked) × (quota_in asked ≡ Ok quota)
quota_only word Max e = (None, ap quota_at e, refl)
quota_only word (Micros n) e = (
  Some n,
  rw (not_max word n e.0, e.0) refl,
  rw (le-ltb n MIN_QUOTA_US e.1, le-ltb MAX_QUOTA_US n e.2) refl,
)

period_range : (b : Bool) (n m : ℕ) → cond b (Err faults.PeriodOutOfRange) (Ok n) ≡ Ok m
    → (b ≡ false) × (n ≡ m)
period_range true n m e = absurd cc
period_range false n m e = (refl, cc)

period_found : (n m : ℕ) → period_in n ≡ Ok m → (n ≡ m) × (MIN_PERIOD_US ≤ n) × (n ≤ MAX_PERIOD_US)
period_found n m e =
    let r = period_range (ltb n MIN_PERIOD_US || ltb MAX_PERIOD_US n) n m e in
    (r.1, grind (arith, nat_tests), grind (arith, nat_tests))

period_only : (n : ℕ) → MIN_PERIOD_US ≤ n → n ≤ MAX_PERIOD_US → period_in n ≡ Ok n
period_only n low high = rw (le-ltb n MIN_PERIOD_US low, le-ltb MAX_PERIOD_US n high) refl

abbrev made : MaxWrite → Result MaxWrite FileFault
made m = Ok m

made_is : (m n : MaxWrite) → made m ≡ made n → m ≡ n
made_is m n e = cc

-- what the words of `cpu.max` stand for
abbrev pub AreMaxWords : List (List ℕ) → MaxWrite → Type 0
AreMaxWords ws m = (first : List ℕ) × (others : List (List ℕ)) × (ws ≡ first ∷ others)
    × IsQuotaWord first m.quota × ArePeriodWords others m.period

max_words_found : (ws : List (List ℕ)) (m : MaxWrite) → max_of ws ≡ Ok m → AreMaxWords ws m
max_words_found [] m e = absurd cc
max_words_found (first ∷ []) m e =
    let a = bind_ok (quota_at first)
    (λ asked. quota_in asked >>= λ quota. Ok (record { quota = quota; period = None })) m e in
    let b = bind_ok (quota_in a.0) (λ quota. Ok (record { quota = quota; period = None })) m a.2 in
    rw (← made_is (record { quota = b.0; period = None }) m b.2)
    (first, [], refl, quota_found first a.0 b.0 a.1 b.1, refl)
max_words_found (first ∷ second ∷ []) m e =
    let a = bind_ok (quota_at first)
    (λ asked. number_at second >>= λ n. quota_in asked >>= λ quota. period_in n >>= λ period.
    Ok (record { quota = quota; period = Some period })) m e in
    let b = bind_ok (number_at second)
    (λ n. quota_in a.0 >>= λ quota. period_in n >>= λ period.
    Ok (record { quota = quota; period = Some period })) m a.2 in
    let d = bind_ok (quota_in a.0)
    (λ quota. period_in b.0 >>= λ period. Ok (record { quota = quota; period = Some period })) m
    b.2 in
    let p = bind_ok (period_in b.0) (λ period. Ok (record { quota = d.0; period = Some period })) m
    d.2 in
    let r = period_found b.0 p.0 p.1 in
    rw (← made_is (record { quota = d.0; period = Some p.0 }) m p.2, ← r.0) (
      first,
      second ∷ [],
      refl,
      quota_found first a.0 d.0 a.1 d.1,
      (second, refl, number_found second b.0 b.1, r.1, r.2),
    )
max_words_found (first ∷ second ∷ third ∷ others) m e = absurd cc

pub words_only : (first : List ℕ) (others : List (List ℕ)) (quota : Quota) (period : Option ℕ)
    → IsQuotaWord first quota → ArePeriodWords others period
    → max_of (first ∷ others) ≡ Ok (record { quota = quota; period = period })
words_only first others quota None q e =
    let a = quota_only first quota q in
    rw e (rw (a.1, a.2) refl)
words_only first others quota (Some n) q p =
    let a = quota_only first quota q in
    rw p.1 (rw (a.1, p.2, a.2, period_only n p.3 p.4) refl)

max_words_only : (ws : List (List ℕ)) (m : MaxWrite) → AreMaxWords ws m → max_of ws ≡ Ok m
max_words_only ws m h = rw h.2 (words_only h.0 h.1 m.quota m.period h.3 h.4)

pub max_found : (text : List ℕ) (r : Result MaxWrite FileFault) → r ≡ max_of (words text)
    → IfOk r (λ m. IsMaxText text m)
max_found text (Ok m) e = max_words_found (words text) m (sym e)
max_found text (Err f) e = tt

pub max_only : (text : List ℕ) (r : Result MaxWrite FileFault) → r ≡ max_of (words text)
    → (m : MaxWrite) → IsMaxText text m → r ≡ Ok m
max_only text r e m h = e ∙ max_words_only (words text) m h

-- a value of a text is in range
pub value_valid : (text : List ℕ) (m : MaxWrite) → IsMaxText text m
    → IsValid m.quota × IfSome m.period (λ n. (MIN_PERIOD_US ≤ n) × (n ≤ MAX_PERIOD_US))
value_valid text m h = (quota_valid h.0 m.quota h.3, period_valid h.1 m.period h.4)
  where
    quota_valid : (word : List ℕ) (quota : Quota) → IsQuotaWord word quota → IsValid quota
    quota_valid word Max e = tt
    quota_valid word (Micros n) e = (e.1, e.2)

    period_valid : (ws : List (List ℕ)) (period : Option ℕ) → ArePeriodWords ws period
        → IfSome period (λ n. (MIN_PERIOD_US ≤ n) × (n ≤ MAX_PERIOD_US))
    period_valid ws None e = tt
    period_valid ws (Some n) e = (e.3, e.4)

pub max_valid : (text : List ℕ) (r : Result MaxWrite FileFault) → r ≡ max_of (words text)
    → IfOk r (λ m. IsValid m.quota
    × IfSome m.period (λ n. (MIN_PERIOD_US ≤ n) × (n ≤ MAX_PERIOD_US)))
max_valid text (Ok m) e = value_valid text m (max_words_found (words text) m (sym e))
max_valid text (Err f) e = tt
