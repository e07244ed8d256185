-- What is known of a seat whose pending call was made.
use Rattle.std.proofs.Common.{◌≡◌, ℕ, ◌+◌, ◌≤◌, [], ◌∷◌, ◌++◌, ap, None, Some, Option, MatchOption}
use Rattle.bw_machine.specs.History.{made}
use Rattle.bw_ticket.specs.Holder.{Holder}
use Rattle.bw_ticket.specs.declared.lock.Answer.{Answer}

module _ {C R : Type 0} where
  -- the seat with the call of its ticket made
  abbrev pub after_call : Holder C R → ℕ × C → Answer R → Holder C R
  after_call h p a = record h {
    pending = None;
    reached = p.0 + 1;
    own = h.own ++ made p.1 a.reply a.at ∷ [];
  }

  pub finished_parts : (h : Holder C R) (o : Option (ℕ × C)) (a : Answer R) (s : Holder C R)
      → MatchOption o ⊥ (λ p. (a.at ≡ p.0) × (h.reached ≤ a.at) × (s ≡ after_call h p a))
      → (h.reached ≤ a.at) × MatchOption o ⊥ (λ p. (a.at ≡ p.0) × (s ≡ after_call h p a))
      × (s.lock_id ≡ h.lock_id)
  finished_parts h None a s f = absurd f
  finished_parts h (Some p) a s f = (f.1, (f.0, f.2), ap (λ x. x.lock_id) f.2)
