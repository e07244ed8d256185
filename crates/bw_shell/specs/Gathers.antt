-- The result of a call that answers into a buffer in front of a watched writer.
use Rattle.std.specs.Prelude.{ℕ, ◌≡◌, List, ◌++◌, Option, Result, true, ◌||◌, OnOk, OnErr, IfErr}
use Rattle.std.specs.Io.KnownBytes.{Appends}
use Rattle.bw_streams.specs.Fronts.{AppendsFront}
use Rattle.bw_streams.specs.Watched.{inner_of, has_failed, has_stalled, HasNoFault}
use Rattle.bw_streams.specs.declared.fault.RunFault.{RunFault}
use Rattle.bw_streams.specs.declared.fault.RunFault.TheVariants.{Write}
use Rattle.bw_streams.specs.declared.watched.Watched.{Watched}

-- At Ok such a text was put behind what waits, and what was written is a front of both. No call of
-- the writer failed or took no bytes. At Err a front of both was written, for a text that might
-- have been formed. The writer is to blame, and the fault says so.
pub record Gathers {W T : Type 0} (contents : W → Option (List ℕ)) (old new : Watched W)
    (waits_old waits_new : List ℕ) (result : Result T RunFault)
    (IsText IsPossible : List ℕ → Type 0) : Type 0 where
  pub ok : OnOk result ((text sent : List ℕ) × IsText text
      × Appends (contents (inner_of old)) (contents (inner_of new)) sent
      × (waits_old ++ text ≡ sent ++ waits_new))
  pub quiet : OnOk result (HasNoFault new)
  pub err : OnErr result ((text : List ℕ) × IsPossible text
      × AppendsFront (contents (inner_of old)) (contents (inner_of new)) (waits_old ++ text))
  pub blame : OnErr result ((has_failed new || has_stalled new) ≡ true)
  pub fault : IfErr result (λ f. f ≡ Write)

-- The text is this one, formed or not.
abbrev pub GathersText : {W T : Type 0} → (W → Option (List ℕ)) → Watched W → Watched W → List ℕ
    → List ℕ → Result T RunFault → List ℕ → Type 0
GathersText contents old new waits_old waits_new result text =
    Gathers contents old new waits_old waits_new result (λ t. t ≡ text) (λ t. t ≡ text)
