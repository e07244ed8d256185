-- A call that went well leaves a watched writer quiet.
use Rattle.std.proofs.Common.{◌≡◌, ◌∙◌, ℕ, List, length, false, ◌||◌, ◌&&◌, ◌==◌, nat_lt, ap, inl}
use Rattle.std.proofs.Common.{inr}
use Rattle.std.proofs.Math.Bool.{and-false, or-false}
use Rattle.std.proofs.lemmas.Bool.Decides.{eqb_tells}
use Rattle.bw_streams.specs.declared.watched.Watched.{Watched}
use Rattle.bw_streams.specs.Watched.{has_failed, has_stalled, HasNoFault}

pub quiet_write : {T : Type 0} (w v : Watched T) (bytes : List ℕ) (n : ℕ) → HasNoFault w
    → has_failed v ≡ (has_failed w || false)
    → has_stalled v ≡ (has_stalled w || (nat_lt 0 (length bytes) && (n == 0))) → (n ≡ 0 → ⊥)
    → HasNoFault v
quiet_write w v bytes n q f s ne = record {
  not_failed = f ∙ or-false (has_failed w) ∙ q.not_failed;
  not_stalled = elim (eqb_tells n 0) [
    | inl h ↦ absurd (ne h.1)
    | inr h ↦ s ∙ ap (λ b. b || (nat_lt 0 (length bytes) && (n == 0))) q.not_stalled
        ∙ ap (λ b. nat_lt 0 (length bytes) && b) h.0
        ∙ and-false (nat_lt 0 (length bytes))
  ];
}

pub quiet_read : {T : Type 0} (w v : Watched T) → HasNoFault w
    → has_failed v ≡ (has_failed w || false) → has_stalled v ≡ has_stalled w → HasNoFault v
quiet_read w v q f s =
    record {
      not_failed = f ∙ or-false (has_failed w) ∙ q.not_failed;
      not_stalled = s ∙ q.not_stalled;
    }
