-- The goal of `limits_of_periods` that is answered by hand.
use Rattle.std.proofs.Common.{◌≡◌, ◌||◌, ◌+◌, ◌<◌, ℕ, Bool, true, false, cond, Option, None, Some, Result}
use Rattle.std.proofs.Common.{Ok, Err, ap, ◌∙◌, refl, arith}
use Rattle.std.specs.Prelude.{nat_lt, unwrap_or}
use Rattle.bw_model.specs.Host.{Shape}
use Rattle.bw_model.specs.declared.quota.Quota.{Quota}
use Rattle.bw_model.specs.declared.quota.Quota.TheVariants.{Micros}
use Rattle.bw_model.specs.declared.limits.TheConstants.{MIN_QUOTA_US, MAX_QUOTA_US, MAX_BURST_US}
use Rattle.bw_model.specs.declared.limits.TheConstants.{MIN_PERIOD_US, MAX_PERIOD_US}
use Rattle.bw_model.specs.Quota.{in_slices, slices_of}
use Rattle.bw_files.specs.declared.fault.FileFault.{FileFault}
use Rattle.bw_files.specs.Faults.{file_fault_number}
use Rattle.bw_files.specs.Reading.{quota_in, period_in, burst_in, ◌>>=◌}
use Rattle.bw_tree.specs.Snapshot.{bursting}
use Rattle.bw_columns.specs.declared.refusal.Refusal.TheVariants.{Setting}
use Rattle.bw_columns.specs.Asked.{limit_in, limit_number}
use Rattle.bw_columns.specs.Periods.{quota_named, limit_with, refused_number}
use Rattle.bw_columns.proofs.Questions.{refusal_positive}
use Rattle.bw_columns.proofs.laws.limits_of_periods.Goals as goal

-- a test that lets a value pass gives the value
passed : (b : Bool) (fault : FileFault) (value found : ℕ)
    → Ok found ≡ cond {A = Result ℕ FileFault} b (Err fault) (Ok value) → found ≡ value
passed true fault value found e = absurd (let clash : ⊥ = cc in clash)
passed false fault value found e = cc

quota_is : (o : Option ℕ) (q : Quota) → Ok q ≡ quota_in o → q ≡ quota_named o
quota_is None q e = cc
quota_is (Some n) q e = twice (nat_lt n MIN_QUOTA_US) (nat_lt MAX_QUOTA_US n) e
  where
    twice : (a b : Bool) → Ok q ≡ cond {A = Result Quota FileFault} a
        (Err FileFault.QuotaTooSmall) (cond b (Err FileFault.QuotaTooLarge) (Ok (Micros n)))
        → q ≡ Micros n
    twice true b e = absurd (let clash : ⊥ = cc in clash)
    twice false true e = absurd (let clash : ⊥ = cc in clash)
    twice false false e = cc

refused : (fault : FileFault) → file_fault_number fault ≡ 0 → ⊥
refused fault e =
    let positive : 0 < file_fault_number fault = refusal_positive (Setting fault) in
    omega (arith, positive, e)

same_limit : (carry burst : ℕ) (quota : Option ℕ)
    → bursting carry burst quota ≡ limit_with carry (unwrap_or quota 0 + burst) quota
same_limit carry burst None = refl
same_limit carry burst (Some quota) = refl

joined : (shape : Shape) (o : Option ℕ) (period_us burst_us carry : ℕ) (q : Result Quota FileFault)
    (p b : Result ℕ FileFault) → q ≡ quota_in o → p ≡ period_in period_us → b ≡ burst_in burst_us
    → refused_number (q >>= λ quota. p >>= λ period. b >>= λ burst. Ok (limit_number
    (bursting 0 (in_slices shape period burst) (slices_of shape period quota)))) ≡ 0
    → (q >>= λ quota. p >>= λ period. b >>= λ burst. Ok (limit_number
    (bursting carry (in_slices shape period burst) (slices_of shape period quota))))
    ≡ Ok (limit_number (limit_with carry
    (unwrap_or (slices_of shape period_us (quota_named o)) 0 + in_slices shape period_us burst_us)
    (slices_of shape period_us (quota_named o))))
joined shape o period_us burst_us carry (Err fault) p b one two three fine =
    absurd (refused fault fine)
joined shape o period_us burst_us carry (Ok q) (Err fault) b one two three fine =
    absurd (refused fault fine)
joined shape o period_us burst_us carry (Ok q) (Ok p) (Err fault) one two three fine =
    absurd (refused fault fine)
joined shape o period_us burst_us carry (Ok q) (Ok p) (Ok b) one two three fine =
    let quota : q ≡ quota_named o = quota_is o q one in
    let period : p ≡ period_us =
    passed (nat_lt period_us MIN_PERIOD_US || nat_lt MAX_PERIOD_US period_us)
    FileFault.PeriodOutOfRange period_us p two in
    let burst : b ≡ burst_us =
    passed (nat_lt MAX_BURST_US burst_us) FileFault.QuotaTooLarge burst_us b three in
    ap (λ (l : Option ℕ). Ok (limit_number l))
    (ap (λ (x : Quota). bursting carry (in_slices shape p b) (slices_of shape p x)) quota
    ∙ ap (λ (x : ℕ). bursting carry (in_slices shape x b) (slices_of shape x (quota_named o))) period
    ∙ ap (λ (x : ℕ). bursting carry (in_slices shape period_us x)
    (slices_of shape period_us (quota_named o))) burst
    ∙ same_limit carry (in_slices shape period_us burst_us)
    (slices_of shape period_us (quota_named o)))

pub returns : goal.returns
returns c = λ shape quota_us period_us burst_us carry fine.
    joined shape (limit_in quota_us) period_us burst_us carry (quota_in (limit_in quota_us))
    (period_in period_us) (burst_in burst_us) refl refl refl fine
