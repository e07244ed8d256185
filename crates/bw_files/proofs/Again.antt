-- What is written is read again.
use Rattle.std.proofs.Common.{◌≡◌, ℕ, ◌^◌, ◌<◌, ◌≤◌, false, List, [], ◌∷◌, ◌++◌, Some, Ok, refl, ap}
use Rattle.std.proofs.Common.{◌∙◌, append_assoc, arith}
use Rattle.std.specs.Prelude.{codes}
use Rattle.std.specs.Fmt.{decimal}
use Rattle.std.proofs.lemmas.Bool.{le-ltb}
use Rattle.std.proofs.lemmas.List.Elements.{All-from_recursion}
use Rattle.bw_text.specs.Words.{is_white, words}
use Rattle.bw_text.proofs.CallerLemmas.{IsWord, words_next, decimal_is_word, decimal_is_number}
use Rattle.bw_text.proofs.CallerLemmas.{decimal_value}
use Rattle.bw_model.specs.declared.limits.TheConstants.{MIN_WEIGHT, MAX_WEIGHT, MAX_BURST_US}
use Rattle.bw_model.specs.declared.limits.TheConstants.{MIN_PERIOD_US, MAX_PERIOD_US}
use Rattle.bw_model.specs.Quota.{IsValid}
use Rattle.bw_model.specs.declared.quota.Quota.{Quota}
use Rattle.bw_model.specs.declared.quota.Quota.TheVariants.{Max, Micros}
use Rattle.bw_files.specs.Values.{IsNumber, IsQuotaWord, IsWeightText, IsBurstText, IsMaxText}
use Rattle.bw_files.specs.Reading.{weight_of, burst_of, max_of}
use Rattle.bw_files.specs.Writing.{weight_text, burst_text, max_text, quota_word}
use Rattle.bw_files.proofs.Values.{words_only}

spelled : (n : ℕ) → n < 2 ^ 64 → IsNumber (decimal n) n
spelled n h = rw (decimal_is_number n h, decimal_value n h) refl

one_weight_word : (n : ℕ) → n ≤ MAX_WEIGHT → words (weight_text n) ≡ decimal n ∷ []
one_weight_word n high = words_next (decimal n) 10 [] (decimal_is_word n (omega arith)) refl

pub weight_written : (n : ℕ) → MIN_WEIGHT ≤ n → n ≤ MAX_WEIGHT → IsWeightText (weight_text n) n
weight_written n low high = (decimal n, one_weight_word n high, spelled n (omega arith), low, high)

pub weight_again : (n : ℕ) → MIN_WEIGHT ≤ n → n ≤ MAX_WEIGHT
    → weight_of (words (weight_text n)) ≡ Ok n
weight_again n low high =
    rw (
      one_weight_word n high,
      spelled n (omega arith),
      le-ltb n MIN_WEIGHT low,
      le-ltb MAX_WEIGHT n high,
    ) refl

one_burst_word : (n : ℕ) → n ≤ MAX_BURST_US → words (burst_text n) ≡ decimal n ∷ []
one_burst_word n high = words_next (decimal n) 10 [] (decimal_is_word n (omega arith)) refl

pub burst_written : (n : ℕ) → n ≤ MAX_BURST_US → IsBurstText (burst_text n) n
burst_written n high = (decimal n, one_burst_word n high, spelled n (omega arith), high)

pub burst_again : (n : ℕ) → n ≤ MAX_BURST_US → burst_of (words (burst_text n)) ≡ Ok n
burst_again n high =
    rw (one_burst_word n high, spelled n (omega arith), le-ltb MAX_BURST_US n high) refl

max_is_word : IsWord (codes "max")
max_is_word =
    record {
      some = omega arith;
      letters =
          All-from_recursion (λ b. is_white b ≡ false) (codes "max") (refl, (refl, (refl, tt)));
    }

quota_is_word : (quota : Quota) → IsValid quota → IsWord (quota_word quota)
quota_is_word Max v = max_is_word
quota_is_word (Micros n) v = decimal_is_word n (omega arith)

quota_spelled : (quota : Quota) → IsValid quota → IsQuotaWord (quota_word quota) quota
quota_spelled Max v = refl
quota_spelled (Micros n) v = (spelled n (omega arith), v.0, v.1)

two_max_words : (quota : Quota) (period : ℕ) → IsValid quota → period ≤ MAX_PERIOD_US
    → words (max_text quota period) ≡ quota_word quota ∷ decimal period ∷ []
two_max_words quota period v high =
    let grouped : max_text quota period ≡ quota_word quota ++ 32 ∷ (decimal period ++ 10 ∷ []) =
    simp append_assoc in
    ap words grouped
    ∙ words_next (quota_word quota) 32 (decimal period ++ 10 ∷ []) (quota_is_word quota v) refl
    ∙ ap (λ (ws : List (List ℕ)). quota_word quota ∷ ws)
    (words_next (decimal period) 10 [] (decimal_is_word period (omega arith)) refl)

pub max_written : (quota : Quota) (period : ℕ) → IsValid quota → MIN_PERIOD_US ≤ period
    → period ≤ MAX_PERIOD_US
    → IsMaxText (max_text quota period) (record { quota = quota; period = Some period })
max_written quota period v low high = (
  quota_word quota,
  decimal period ∷ [],
  two_max_words quota period v high,
  quota_spelled quota v,
  (decimal period, refl, spelled period (omega arith), low, high),
)

pub max_again : (quota : Quota) (period : ℕ) → IsValid quota → MIN_PERIOD_US ≤ period
    → period ≤ MAX_PERIOD_US
    → max_of (words (max_text quota period)) ≡ Ok (record { quota = quota; period = Some period })
max_again quota period v low high =
    rw (two_max_words quota period v high)
    (words_only (quota_word quota) (decimal period ∷ []) quota (Some period) (quota_spelled quota v)
    (decimal period, refl, spelled period (omega arith), low, high))
