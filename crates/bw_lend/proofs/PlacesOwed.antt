-- The places of a set, as a list.
use Rattle.std.proofs.Common.{◌≡◌, ◌≢◌, ℕ, zero, suc, ◌+◌, ◌-◌, ◌==◌, ◌<◌, ◌≤◌, [], ◌∷◌}
use Rattle.std.proofs.Common.{Bool, true, false, if◌then◌else◌, refl, sym, ap, ◌∙◌, subst, arith}
use Rattle.std.proofs.Common.{eq-eqb, eqb-true, inl, inr, ⊎_elim}
use mathlib.Core.Logic.{dite}
use native.Mathlib.Decide.{ℕ_discrete}
use Rattle.std.specs.Int.{bit_at}
use Rattle.bw_lend.specs.Bells.{IsIn, IsWith}
use Rattle.bw_lend.specs.Crowd.{are_in}
use Rattle.bw_lend.specs.CrowdLaws.{IsIn as IsAmong}
use Rattle.bw_lend.specs.Visits.{places_from}
use Rattle.bw_lend.proofs.CrowdHands.{are_all}
use Rattle.bw_lend.proofs.CrowdWalks.{by_test}

places_none : (k set : ℕ) → places_from zero k set ≡ []
unfolding places_from
places_none k set = refl

places_more : (n k set : ℕ) → places_from (suc n) k set
    ≡ (if bit_at set k == 1 then k ∷ places_from n (k + 1) set else places_from n (k + 1) set)
unfolding places_from
places_more n k set = refl

among_of : (n k set i : ℕ) → k ≤ i → i < k + n → IsIn set i → IsAmong i (places_from n k set)
among_of zero k set i le lt is = absurd (omega arith)
among_of (suc n) k set i le lt is = subst (IsAmong i) (sym (places_more n k set))
    (by_test (IsAmong i) (bit_at set k == 1) (k ∷ places_from n (k + 1) set)
    (places_from n (k + 1) set)
    (λ on. dite (ℕ_discrete k i) (λ e. inl e)
    (λ ne. inr (among_of n (k + 1) set i (omega arith) (omega arith) is)))
    (λ off. let ne : k ≢ i = λ e. cc (sym off ∙ eq-eqb (bit_at set k) 1 (ap (bit_at set) e ∙ is)) in
    among_of n (k + 1) set i (omega arith) (omega arith) is))

abbrev IsFrom : ℕ → ℕ → ℕ → ℕ → Type 0
IsFrom n k set i = (k ≤ i) × (i < k + n) × IsIn set i

among_more : (n k set i : ℕ) (b : Bool) → (bit_at set k == 1) ≡ b
    → (IsAmong i (places_from n (k + 1) set) → IsFrom n (k + 1) set i)
    → IsAmong i (if b then k ∷ places_from n (k + 1) set else places_from n (k + 1) set)
    → IsFrom (suc n) k set i
among_more n k set i true on rest h = ⊎_elim
    (λ (e : k ≡ i). (
      omega arith,
      omega arith,
      subst (IsIn set) e (eqb-true (bit_at set k) 1 on),
    ))
    (λ (later : IsAmong i (places_from n (k + 1) set)). let f = rest later in
    let le = f.0 in let lt = f.1 in (omega arith, omega arith, f.2)) h
among_more n k set i false off rest h = let f = rest h in let le = f.0 in let lt = f.1 in
    (omega arith, omega arith, f.2)

of_among : (n k set i : ℕ) → IsAmong i (places_from n k set) → IsFrom n k set i
of_among zero k set i h = absurd (subst (IsAmong i) (places_none k set) h)
of_among (suc n) k set i h = among_more n k set i (bit_at set k == 1) refl
    (of_among n (k + 1) set i) (subst (IsAmong i) (places_more n k set) h)

-- a set with one more place has it, and all that were in it
pub all_owed : (owed j more : ℕ) → j < 64 → IsWith owed j more
    → are_in (j ∷ places_from 64 0 owed) (places_from 64 0 more) ≡ true
all_owed owed j more lt with_it = are_all (j ∷ places_from 64 0 owed) (places_from 64 0 more)
    (λ i h. ⊎_elim (λ (e : j ≡ i). subst (λ x. IsAmong x (places_from 64 0 more)) e
    (among_of 64 0 more j (omega arith) (omega arith) with_it.0))
    (λ (r : IsAmong i (places_from 64 0 owed)). let o = of_among 64 0 owed i r in
    let below = o.1 in
    among_of 64 0 more i (omega arith) (omega arith) (with_it.1 i o.2)) h)

-- the place is the first one, if it is in the set
pub next_place : (owed j : ℕ) → j < 64 → IsIn owed j
    → places_from (64 - j) j owed ≡ j ∷ places_from (64 - (j + 1)) (j + 1) owed
next_place owed j lt is =
    let e : 64 - j ≡ suc (64 - (j + 1)) = omega arith in
    ap (λ (n : ℕ). places_from n j owed) e ∙ places_more (64 - (j + 1)) j owed
    ∙ ap (λ (b : Bool). if b then j ∷ places_from (64 - (j + 1)) (j + 1) owed
    else places_from (64 - (j + 1)) (j + 1) owed) (eq-eqb (bit_at owed j) 1 is)
