-- How far a leaf gets ahead of one that waits throughout, beside guarantees.
use Rattle.std.proofs.Common.{◌≡◌, ◌≢◌, ℕ, suc, ◌+◌, ◌-◌, ◌*◌, ◌<◌, ◌≤◌, ◌==◌, ◌&&◌, ◌⊎◌, inl, inr}
use Rattle.std.proofs.Common.{List, [], ◌∷◌, length, Bool, true, false, Option, None, Some}
use Rattle.std.proofs.Common.{slice_get, refl, ap, sym, subst, ◌∙◌, arith}
use Rattle.std.proofs.Common.{if◌then◌else◌}
use Rattle.std.specs.List.{sum_by}
use Rattle.std.proofs.Math.Nat.{mul-le-mul_right}
use Rattle.std.proofs.lemmas.Bool.{eq-eqb, ne_eqb, eqb-true, eqb-false}
use Rattle.std.proofs.lemmas.List.{length-map}
use Rattle.dispatch.specs.declared.leaves.Leaf.{Leaf}
use Rattle.dispatch.specs.declared.reservation.Account.{Account}
use Rattle.dispatch.specs.declared.reservation.Run.{Run}
use Rattle.dispatch.specs.declared.reservation.Step.{Step}
use Rattle.dispatch.specs.declared.reservation.Step.TheVariants.{Pass, Wake, Pick, End, Level}
use Rattle.dispatch.specs.declared.reservation.Step.TheVariants.{Give, Leave, Cut, Stop, Refill}
use Rattle.dispatch.specs.Beside.{due_pick, due_picks, WaitsBeside, IsRunBeside, LeadIsDue}
use Rattle.dispatch.specs.Groups.{used_by, used_at, used_in}
use Rattle.dispatch.specs.Reservation.{Reservations, account_at, after, aged, terms_of}
use Rattle.dispatch.specs.Reservation.{cut, ended, given, left, passed, picked}
use Rattle.dispatch.specs.Reservation.{state_ended, stopped}
use Rattle.dispatch.specs.Reservation.{with_account, woken, Allows, IsDue, MayPick}
use Rattle.dispatch.specs.Reservation.{Waits, paid_by}
use Rattle.dispatch.specs.Runs.{most_ahead}
use Rattle.dispatch.specs.Steps.{is_due}
use Rattle.dispatch.specs.Windows.{of_run, over_runs}
use Rattle.dispatch.proofs.Backlog.{account_set, busy, free_one, one}
use Rattle.dispatch.proofs.BacklogPicks.{run_of_same, run_of_other}
use Rattle.dispatch.proofs.BacklogRuns.{none_run}
use Rattle.dispatch.proofs.BacklogTime.{aged_runs, passed_at}
use Rattle.dispatch.proofs.Counts.{length_set}
use Rattle.dispatch.proofs.Exact.{is_due_of}
use Rattle.dispatch.proofs.Leads.{lead_picked, lead_ended}
use Rattle.dispatch.proofs.Totals.{sum_set}
use Rattle.dispatch.proofs.BesideLeaves.{More, Same}
use Rattle.dispatch.proofs.BesideLeaves.{same_set, more_set, more_of, woken_more, ended_share}
use Rattle.dispatch.proofs.BesideLeaves.{left_same, stopped_same, few_runs}

-- ---- each state of a run, of a leaf i and of one j that waits

record Ahead (slice overrun n a b ci cj i j ui uj due : ℕ) (t : Reservations) : Type 0 where
  slice_is : t.slice ≡ slice
  quantum_is : t.quantum ≡ slice + overrun
  processors : length t.processors ≡ n
  known_i : i < length t.accounts
  known_j : j < length t.accounts
  amount_i : (account_at t i).share.amount ≡ a
  amount_j : (account_at t j).share.amount ≡ b
  charge_i : ci + ui + slice * over_runs i one t.processors ≤ (account_at t i).share.charged
  charge_j : (account_at t j).share.charged ≡ cj + uj + slice * over_runs j one t.processors
  lead : (ci + ui + (slice + overrun) * over_runs i one t.processors) * b
      ≤ (cj + uj) * a + (most_ahead slice overrun n a b + due * (slice + overrun) * b)

module _ (slice overrun n a b ci cj i j : ℕ) where
  -- an event that changes no run
  stays : (ui uj due : ℕ) (s t : Reservations) → Ahead slice overrun n a b ci cj i j ui uj due s
      → t.slice ≡ s.slice → t.quantum ≡ s.quantum → length t.processors ≡ length s.processors
      → length t.accounts ≡ length s.accounts
      → over_runs i one t.processors ≡ over_runs i one s.processors
      → over_runs j one t.processors ≡ over_runs j one s.processors
      → More (account_at s i) (account_at t i) → Same (account_at s j) (account_at t j)
      → Ahead slice overrun n a b ci cj i j (ui + 0) (uj + 0) (due + 0) t
  stays ui uj due s t h of_slice of_quantum of_processors of_accounts runs_i runs_j more same =
      let slices_i : slice * over_runs i one t.processors ≡ slice * over_runs i one s.processors =
      ap (λ m. slice * m) runs_i in
      let slices_j : slice * over_runs j one t.processors ≡ slice * over_runs j one s.processors =
      ap (λ m. slice * m) runs_j in
      let leads : (ci + ui + (slice + overrun) * over_runs i one t.processors) * b
      ≡ (ci + ui + (slice + overrun) * over_runs i one s.processors) * b =
      ap (λ m. (ci + ui + (slice + overrun) * m) * b) runs_i in
      record {
        slice_is = of_slice ∙ h.slice_is;
        quantum_is = of_quantum ∙ h.quantum_is;
        processors = of_processors ∙ h.processors;
        known_i = omega (arith, h.known_i, of_accounts);
        known_j = omega (arith, h.known_j, of_accounts);
        amount_i = more.amount ∙ h.amount_i;
        amount_j = same.amount ∙ h.amount_j;
        charge_i = omega (arith, h.charge_i, more.charged, slices_i);
        charge_j = omega (arith, h.charge_j, same.charged, slices_j);
        lead = omega (arith, h.lead, leads);
      }

  -- a leaf that is picked, or another one
  picked_same : (s : Reservations) (p k x : ℕ) → MayPick s p k → x ≢ k
      → Same (account_at s x) (account_at (after s (Pick p k)) x)
  picked_same s p k x may ne =
      elim (account_set s.accounts k x (picked s (account_at s k)) may.known) [
        | inl h ↦ absurd (ne h.0)
        | inr h ↦ record {
          amount = ap (λ (y : Account). y.share.amount) h.1;
          charged = ap (λ (y : Account). y.share.charged) h.1;
        }
      ]

  picked_amount : (s : Reservations) (p k x : ℕ) → MayPick s p k
      → (account_at (after s (Pick p k)) x).share.amount ≡ (account_at s x).share.amount
  picked_amount s p k x may =
      elim (account_set s.accounts k x (picked s (account_at s k)) may.known) [
        | inl h ↦ ap (λ (y : Account). y.share.amount) h.1
            ∙ ap (λ (y : ℕ). (account_at s y).share.amount) (sym h.0)
        | inr h ↦ ap (λ (y : Account). y.share.amount) h.1
      ]

  picked_charge : (s : Reservations) (p k : ℕ) → MayPick s p k
      → (account_at (after s (Pick p k)) k).share.charged
      ≡ (account_at s k).share.charged + s.slice
  picked_charge s p k may =
      elim (account_set s.accounts k k (picked s (account_at s k)) may.known) [
        | inl h ↦ ap (λ (y : Account). y.share.charged) h.1
        | inr h ↦ absurd (h.0 refl)
      ]

  picked_runs : (s : Reservations) (p k x : ℕ) → MayPick s p k
      → over_runs x one (after s (Pick p k)).processors
      ≡ over_runs x one s.processors + (if◌then◌else◌ {A = ℕ} (k == x) 1 0)
  picked_runs s p k x may =
      let run : Run = record { leaf = k; paid = paid_by s (account_at s k); age = 0 } in
      omega (arith, sum_set (of_run x one) s.processors p None (Some run) may.free)

  -- whether a leaf that is picked is due, or no further than one that waits
  due_or_least : (s : Reservations) (p : ℕ) → MayPick s p i → Waits s j
      → (is_due (terms_of s) (account_at s i) ≡ true)
      ⊎ ((is_due (terms_of s) (account_at s i) ≡ false)
      × ((account_at s i).share.charged * (account_at s j).share.amount
      ≤ (account_at s j).share.charged * (account_at s i).share.amount))
  due_or_least s p may waits = by_test (is_due (terms_of s) (account_at s i)) refl where
    by_test : (c : Bool) → is_due (terms_of s) (account_at s i) ≡ c
        → (is_due (terms_of s) (account_at s i) ≡ true)
        ⊎ ((is_due (terms_of s) (account_at s i) ≡ false)
        × ((account_at s i).share.charged * (account_at s j).share.amount
        ≤ (account_at s j).share.charged * (account_at s i).share.amount))
    by_test true is = inl is
    by_test false is = inr (is, may.shares none j waits) where
      none : (k : ℕ) → Waits s k → IsDue s (account_at s k) → ⊥
      none k here due =
          let own = may.due k here due in
          let test = is_due_of s (account_at s i) own.0 in
          let clash : true ≡ false = sym test ∙ is in
          absurd (cc clash)

  due_more : (ui ri m uj due : ℕ)
      → (ci + ui + (slice + overrun) * ri) * b ≤ (cj + uj) * a + (m + due * (slice + overrun) * b)
      → (ci + (ui + 0) + (slice + overrun) * (ri + 1)) * b
      ≤ (cj + (uj + 0)) * a + (m + (due + 1) * (slice + overrun) * b)
  due_more ui ri m uj due h = omega (arith, h)

  share_more : (ui ri uj rj due chi chj : ℕ) → ci + ui + slice * ri ≤ chi
      → chj ≡ cj + uj + slice * rj → chi * b ≤ chj * a → rj ≤ n - 1 → suc ri ≤ n
      → (ci + (ui + 0) + (slice + overrun) * (ri + 1)) * b
      ≤ (cj + (uj + 0)) * a
      + (most_ahead slice overrun n a b + (due + 0) * (slice + overrun) * b)
  share_more ui ri uj rj due chi chj of_i of_j least few all =
      let bound = lead_picked (ci + ui) ri chi chj (cj + uj) rj a b slice overrun n (n - 1) of_i
      of_j least few all in
      let nothing : 0 ≤ due * (slice + overrun) * b = omega arith in
      omega (arith, bound, nothing)

  picked_i : (ui uj due : ℕ) (s : Reservations) (p : ℕ) → i ≢ j → MayPick s p i → Waits s j
      → Ahead slice overrun n a b ci cj i j ui uj due s
      → Ahead slice overrun n a b ci cj i j (ui + 0) (uj + 0) (due + due_pick i s (Pick p i))
      (after s (Pick p i))
  picked_i ui uj due s p ne may waits h = by_case (due_or_least s p may waits) where
    t : Reservations
    t = after s (Pick p i)

    same : Same (account_at s j) (account_at t j)
    same = picked_same s p i j may (λ e. ne (sym e))

    runs_i : over_runs i one t.processors ≡ over_runs i one s.processors + 1
    runs_i =
        picked_runs s p i i may
        ∙ ap (λ m. over_runs i one s.processors + m) (run_of_same i i refl)

    runs_j : over_runs j one t.processors ≡ over_runs j one s.processors
    runs_j =
        let none = run_of_other i j (λ e. ne (sym e)) in
        let more = picked_runs s p i j may in
        let none' : (if◌then◌else◌ {A = ℕ} (i == j) 1 0) ≡ 0 = none in
        omega (arith, more, none')

    free : sum_by busy s.processors < n
    free = omega (arith, free_one s.processors p may.free, h.processors)

    slices_i : slice * over_runs i one t.processors ≡ slice * over_runs i one s.processors + slice
    slices_i =
        ap (λ m. slice * m) runs_i
        ∙ (let more : slice * (over_runs i one s.processors + 1)
        ≡ slice * over_runs i one s.processors + slice = omega arith in more)

    slices_j : slice * over_runs j one t.processors ≡ slice * over_runs j one s.processors
    slices_j = ap (λ m. slice * m) runs_j

    made : (d : ℕ) → (ci + (ui + 0) + (slice + overrun) * (over_runs i one s.processors + 1)) * b
        ≤ (cj + (uj + 0)) * a
        + (most_ahead slice overrun n a b + (due + d) * (slice + overrun) * b)
        → Ahead slice overrun n a b ci cj i j (ui + 0) (uj + 0) (due + d) t
    made d lead = record {
      slice_is = h.slice_is;
      quantum_is = h.quantum_is;
      processors = length_set s.processors p
          (Some (record { leaf = i; paid = paid_by s (account_at s i); age = 0 }))
          ∙ h.processors;
      known_i = omega (
        arith,
        h.known_i,
        length_set s.accounts i (picked s (account_at s i)),
      );
      known_j = omega (
        arith,
        h.known_j,
        length_set s.accounts i (picked s (account_at s i)),
      );
      amount_i = picked_amount s p i i may ∙ h.amount_i;
      amount_j = same.amount ∙ h.amount_j;
      charge_i = omega (arith, h.charge_i, picked_charge s p i may, h.slice_is, slices_i);
      charge_j = omega (arith, h.charge_j, same.charged, slices_j);
      lead = subst (λ (m : ℕ). (ci + (ui + 0) + (slice + overrun) * m) * b
          ≤ (cj + (uj + 0)) * a
          + (most_ahead slice overrun n a b + (due + d) * (slice + overrun) * b)) (sym runs_i)
          lead;
    }

    by_case : (is_due (terms_of s) (account_at s i) ≡ true)
        ⊎ ((is_due (terms_of s) (account_at s i) ≡ false)
        × ((account_at s i).share.charged * (account_at s j).share.amount
        ≤ (account_at s j).share.charged * (account_at s i).share.amount))
        → Ahead slice overrun n a b ci cj i j (ui + 0) (uj + 0) (due + due_pick i s (Pick p i)) t
    by_case (inl is) =
        let one_more : due_pick i s (Pick p i) ≡ 1 =
        ap (λ (c : Bool). if◌then◌else◌ {A = ℕ} (c && is_due (terms_of s) (account_at s i)) 1 0)
        (eq-eqb i i refl)
        ∙ ap (λ (c : Bool). if◌then◌else◌ {A = ℕ} c 1 0) is in
        subst (λ (d : ℕ). Ahead slice overrun n a b ci cj i j (ui + 0) (uj + 0) (due + d) t)
        (sym one_more)
        (made 1 (due_more ui (over_runs i one s.processors) (most_ahead slice overrun n a b) uj due
        h.lead))
    by_case (inr least) =
        let none : due_pick i s (Pick p i) ≡ 0 =
        ap (λ (c : Bool). if◌then◌else◌ {A = ℕ} (c && is_due (terms_of s) (account_at s i)) 1 0)
        (eq-eqb i i refl)
        ∙ ap (λ (c : Bool). if◌then◌else◌ {A = ℕ} c 1 0) least.0 in
        let clocks : (account_at s i).share.charged * b ≤ (account_at s j).share.charged * a =
        subst (λ (m : ℕ). (account_at s i).share.charged * m
        ≤ (account_at s j).share.charged * a) h.amount_j
        (subst (λ (m : ℕ). (account_at s i).share.charged * (account_at s j).share.amount
        ≤ (account_at s j).share.charged * m) h.amount_i least.1) in
        subst (λ (d : ℕ). Ahead slice overrun n a b ci cj i j (ui + 0) (uj + 0) (due + d) t)
        (sym none)
        (made 0 (share_more ui (over_runs i one s.processors) uj (over_runs j one s.processors) due
        (account_at s i).share.charged (account_at s j).share.charged h.charge_i h.charge_j clocks
        (omega (arith, few_runs j s.processors, free))
        (omega (arith, few_runs i s.processors, free))))

  -- a pick of another leaf
  picked_other : (ui uj due : ℕ) (s : Reservations) (p k : ℕ) → i ≢ j → k ≢ i → MayPick s p k
      → Ahead slice overrun n a b ci cj i j ui uj due s
      → Ahead slice overrun n a b ci cj i j (ui + 0) (uj + 0) (due + due_pick i s (Pick p k))
      (after s (Pick p k))
  picked_other ui uj due s p k ne other may h =
      subst (λ (d : ℕ). Ahead slice overrun n a b ci cj i j (ui + 0) (uj + 0) (due + d) t)
      (sym none) made where
        t : Reservations
        t = after s (Pick p k)

        none : due_pick i s (Pick p k) ≡ 0
        none =
            ap (λ (c : Bool). if◌then◌else◌ {A = ℕ}
            (c && is_due (terms_of s) (account_at s k)) 1 0) (ne_eqb k i other)

        same_i : Same (account_at s i) (account_at t i)
        same_i = picked_same s p k i may (λ e. other (sym e))

        runs_i : over_runs i one t.processors ≡ over_runs i one s.processors
        runs_i =
            let apart : (if◌then◌else◌ {A = ℕ} (k == i) 1 0) ≡ 0 =
            run_of_other k i (λ e. other (sym e)) in
            omega (arith, picked_runs s p k i may, apart)

        leads : (ci + ui + (slice + overrun) * over_runs i one t.processors) * b
            ≡ (ci + ui + (slice + overrun) * over_runs i one s.processors) * b
        leads = ap (λ m. (ci + ui + (slice + overrun) * m) * b) runs_i

        slices_i : slice * over_runs i one t.processors ≡ slice * over_runs i one s.processors
        slices_i = ap (λ m. slice * m) runs_i

        charge_j : (account_at t j).share.charged
            ≡ cj + (uj + 0) + slice * over_runs j one t.processors
        charge_j = by_test (k == j) refl where
          by_test : (c : Bool) → (k == j) ≡ c → (account_at t j).share.charged
              ≡ cj + (uj + 0) + slice * over_runs j one t.processors
          by_test true is =
              let e : k ≡ j = eqb-true k j is in
              let charge : (account_at t j).share.charged
              ≡ (account_at s j).share.charged + s.slice =
              subst (λ (x : ℕ). (account_at t x).share.charged
              ≡ (account_at s x).share.charged + s.slice) e (picked_charge s p k may) in
              let more : over_runs j one t.processors ≡ over_runs j one s.processors + 1 =
              picked_runs s p k j may
              ∙ ap (λ m. over_runs j one s.processors + m) (run_of_same k j (sym e)) in
              let slices : slice * over_runs j one t.processors
              ≡ slice * (over_runs j one s.processors + 1) =
              ap (λ m. slice * m) more in
              omega (arith, h.charge_j, charge, h.slice_is, slices)
          by_test false is =
              let apart : k ≢ j = eqb-false k j is in
              let same = picked_same s p k j may (λ e. apart (sym e)) in
              let runs : over_runs j one t.processors ≡ over_runs j one s.processors + 0 =
              picked_runs s p k j may
              ∙ ap (λ m. over_runs j one s.processors + m)
              (run_of_other k j (λ e. apart (sym e))) in
              let slices : slice * over_runs j one t.processors
              ≡ slice * (over_runs j one s.processors + 0) =
              ap (λ m. slice * m) runs in
              omega (arith, h.charge_j, same.charged, slices)

        made : Ahead slice overrun n a b ci cj i j (ui + 0) (uj + 0) (due + 0) t
        made = record {
          slice_is = h.slice_is;
          quantum_is = h.quantum_is;
          processors = length_set s.processors p
              (Some (record { leaf = k; paid = paid_by s (account_at s k); age = 0 }))
              ∙ h.processors;
          known_i = omega (
            arith,
            h.known_i,
            length_set s.accounts k (picked s (account_at s k)),
          );
          known_j = omega (
            arith,
            h.known_j,
            length_set s.accounts k (picked s (account_at s k)),
          );
          amount_i = same_i.amount ∙ h.amount_i;
          amount_j = picked_amount s p k j may ∙ h.amount_j;
          charge_i = omega (arith, h.charge_i, same_i.charged, slices_i);
          charge_j = charge_j;
          lead = omega (arith, h.lead, leads);
        }

  -- the leaf of a run that ends, or another one
  record Ended (s t : Reservations) (x used : ℕ) (run : Run) : Type 0 where
    amount : (account_at t x).share.amount ≡ (account_at s x).share.amount
    runs : over_runs x one t.processors + (if◌then◌else◌ {A = ℕ} (run.leaf == x) 1 0)
        ≡ over_runs x one s.processors
    charged : (run.leaf ≡ x)
        × ((account_at t x).share.charged ≡ (account_at s x).share.charged + used - s.slice)
        ⊎ ((run.leaf ≢ x) × ((account_at t x).share.charged ≡ (account_at s x).share.charged))

  ended_leaf : (s : Reservations) (p used : ℕ) (remains : Bool) (run : Run) (x : ℕ)
      → slice_get s.processors p ≡ Some (Some run) → run.leaf < length s.accounts
      → Ended s (state_ended s p used remains (Some (Some run))) x used run
  ended_leaf s p used remains run x is known =
      let now = ended s run used remains (account_at s run.leaf) in
      let share = ended_share s run used remains (account_at s run.leaf) in
      let runs = sum_set (of_run x one) s.processors p (Some run) None is in
      elim (account_set s.accounts run.leaf x now known) [
        | inl h ↦
            let from : account_at s x ≡ account_at s run.leaf = ap (account_at s) h.0 in
            record {
              amount = ap (λ (y : Account). y.share.amount) h.1
                  ∙ (ap (λ (l : Leaf). l.amount) share
                  ∙ ap (λ (y : Account). y.share.amount) (sym from));
              runs = omega (arith, runs);
              charged = inl (
                sym h.0,
                ap (λ (y : Account). y.share.charged) h.1
                    ∙ (ap (λ (l : Leaf). l.charged) share
                    ∙ ap (λ (y : Account). y.share.charged + used - s.slice) (sym from)),
              );
            }
        | inr h ↦ record {
          amount = ap (λ (y : Account). y.share.amount) h.1;
          runs = omega (arith, runs);
          charged = inr (
            (λ e. h.0 (sym e)),
            ap (λ (y : Account). y.share.charged) h.1,
          );
        }
      ]

  -- what a run that ends used, of a leaf
  used_same : (x used : ℕ) (run : Run) → run.leaf ≡ x
      → used_by (λ k. k == x) used (Some (Some run)) ≡ used
  used_same x used run e = ap (λ (c : Bool). if◌then◌else◌ {A = ℕ} c used 0) (eq-eqb run.leaf x e)

  used_other : (x used : ℕ) (run : Run) → run.leaf ≢ x
      → used_by (λ k. k == x) used (Some (Some run)) ≡ 0
  used_other x used run ne =
      ap (λ (c : Bool). if◌then◌else◌ {A = ℕ} c used 0) (ne_eqb run.leaf x ne)

  fewer : (x : ℕ) (run : Run) (r r' : ℕ) → run.leaf ≡ x
      → r' + (if◌then◌else◌ {A = ℕ} (run.leaf == x) 1 0) ≡ r → r ≡ r' + 1
  fewer x run r r' e is =
      sym is ∙ ap (λ (c : Bool). r' + (if◌then◌else◌ {A = ℕ} c 1 0)) (eq-eqb run.leaf x e)

  as_many : (x : ℕ) (run : Run) (r r' : ℕ) → run.leaf ≢ x
      → r' + (if◌then◌else◌ {A = ℕ} (run.leaf == x) 1 0) ≡ r → r' ≡ r
  as_many x run r r' ne is =
      let none : r' + (if◌then◌else◌ {A = ℕ} (run.leaf == x) 1 0) ≡ r' + 0 =
      ap (λ (c : Bool). r' + (if◌then◌else◌ {A = ℕ} c 1 0)) (ne_eqb run.leaf x ne) in
      omega (arith, is, none)

  -- the numbers of a leaf that j waits beside, after an end
  charge_ended_i : (ui used ri ri' ch ch' : ℕ) → ri ≡ ri' + 1 → ch' ≡ ch + used - slice
      → ci + ui + slice * ri ≤ ch → ci + (ui + used) + slice * ri' ≤ ch'
  charge_ended_i ui used ri ri' ch ch' less is h =
      let slices : slice * ri ≡ slice * (ri' + 1) = ap (λ m. slice * m) less in
      omega (arith, is, h, slices)

  charge_ended_j : (uj used rj rj' ch ch' : ℕ) → rj ≡ rj' + 1 → ch' ≡ ch + used - slice
      → ch ≡ cj + uj + slice * rj → ch' ≡ cj + (uj + used) + slice * rj'
  charge_ended_j uj used rj rj' ch ch' less is h =
      let slices : slice * rj ≡ slice * (rj' + 1) = ap (λ m. slice * m) less in
      omega (arith, is, h, slices)

  lead_ended_i : (ui used ri ri' m uj due : ℕ) → used ≤ slice + overrun → ri ≡ ri' + 1
      → (ci + ui + (slice + overrun) * ri) * b
      ≤ (cj + uj) * a + (m + due * (slice + overrun) * b)
      → (ci + (ui + used) + (slice + overrun) * ri') * b
      ≤ (cj + (uj + 0)) * a + (m + (due + 0) * (slice + overrun) * b)
  lead_ended_i ui used ri ri' m uj due short less h =
      let before : (ci + ui + (slice + overrun) * ri) * b
      ≡ (ci + ui + (slice + overrun) * suc ri') * b =
      ap (λ k. (ci + ui + (slice + overrun) * k) * b)
      (less ∙ (let e : ri' + 1 ≡ suc ri' = omega arith in e)) in
      let ended = lead_ended (ci + ui) ri' used b slice overrun
      ((cj + uj) * a + (m + due * (slice + overrun) * b)) short
      (omega (arith, before, h)) in
      omega (arith, ended)

  lead_ended_j : (ui uj used ri m due : ℕ)
      → (ci + ui + (slice + overrun) * ri) * b
      ≤ (cj + uj) * a + (m + due * (slice + overrun) * b)
      → (ci + (ui + 0) + (slice + overrun) * ri) * b
      ≤ (cj + (uj + used)) * a + (m + (due + 0) * (slice + overrun) * b)
  lead_ended_j ui uj used ri m due h =
      let more : 0 ≤ used * a = omega arith in
      omega (arith, h, more)

  ended_ahead : (ui uj due : ℕ) (s : Reservations) (p used : ℕ) (remains : Bool) (run : Run)
      → i ≢ j → slice_get s.processors p ≡ Some (Some run) → run.leaf < length s.accounts
      → used ≤ s.quantum → Ahead slice overrun n a b ci cj i j ui uj due s
      → Ahead slice overrun n a b ci cj i j
      (ui + used_by (λ k. k == i) used (Some (Some run)))
      (uj + used_by (λ k. k == j) used (Some (Some run))) (due + 0)
      (state_ended s p used remains (Some (Some run)))
  ended_ahead ui uj due s p used remains run ne is known short h =
      by_cases (run.leaf == i) (run.leaf == j) refl refl where
        t : Reservations
        t = state_ended s p used remains (Some (Some run))

        of_i : Ended s t i used run
        of_i = ended_leaf s p used remains run i is known

        of_j : Ended s t j used run
        of_j = ended_leaf s p used remains run j is known

        ri : ℕ
        ri = over_runs i one s.processors

        ri' : ℕ
        ri' = over_runs i one t.processors

        rj : ℕ
        rj = over_runs j one s.processors

        rj' : ℕ
        rj' = over_runs j one t.processors

        short_run : used ≤ slice + overrun
        short_run = omega (arith, short, h.quantum_is)

        now_charged : (x : ℕ) (e : Ended s t x used run) → run.leaf ≡ x
            → (account_at t x).share.charged ≡ (account_at s x).share.charged + used - slice
        now_charged x e here = elim e.charged [
          | inl q ↦ q.1 ∙ ap (λ m. (account_at s x).share.charged + used - m) h.slice_is
          | inr q ↦ absurd (q.0 here)
        ]

        still_charged : (x : ℕ) (e : Ended s t x used run) → run.leaf ≢ x
            → (account_at t x).share.charged ≡ (account_at s x).share.charged
        still_charged x e apart = elim e.charged [
          | inl q ↦ absurd (apart q.0)
          | inr q ↦ q.1
        ]

        made : (vi vj : ℕ)
            → ci + (ui + vi) + slice * ri' ≤ (account_at t i).share.charged
            → (account_at t j).share.charged ≡ cj + (uj + vj) + slice * rj'
            → (ci + (ui + vi) + (slice + overrun) * ri') * b
            ≤ (cj + (uj + vj)) * a
            + (most_ahead slice overrun n a b + (due + 0) * (slice + overrun) * b)
            → used_by (λ k. k == i) used (Some (Some run)) ≡ vi
            → used_by (λ k. k == j) used (Some (Some run)) ≡ vj
            → Ahead slice overrun n a b ci cj i j
            (ui + used_by (λ k. k == i) used (Some (Some run)))
            (uj + used_by (λ k. k == j) used (Some (Some run))) (due + 0) t
        made vi vj charge_i charge_j lead is_i is_j =
            subst (λ (v : ℕ). Ahead slice overrun n a b ci cj i j (ui + v)
            (uj + used_by (λ k. k == j) used (Some (Some run))) (due + 0) t) (sym is_i)
            (subst (λ (v : ℕ). Ahead slice overrun n a b ci cj i j (ui + vi) (uj + v) (due + 0) t)
            (sym is_j) (record {
              slice_is = h.slice_is;
              quantum_is = h.quantum_is;
              processors = length_set s.processors p None ∙ h.processors;
              known_i = omega (
                arith,
                h.known_i,
                length_set s.accounts run.leaf
                    (ended s run used remains (account_at s run.leaf)),
              );
              known_j = omega (
                arith,
                h.known_j,
                length_set s.accounts run.leaf
                    (ended s run used remains (account_at s run.leaf)),
              );
              amount_i = of_i.amount ∙ h.amount_i;
              amount_j = of_j.amount ∙ h.amount_j;
              charge_i = charge_i;
              charge_j = charge_j;
              lead = lead;
            }))

        by_cases : (c d : Bool) → (run.leaf == i) ≡ c → (run.leaf == j) ≡ d
            → Ahead slice overrun n a b ci cj i j
            (ui + used_by (λ k. k == i) used (Some (Some run)))
            (uj + used_by (λ k. k == j) used (Some (Some run))) (due + 0) t
        by_cases true true one two =
            absurd (ne (sym (eqb-true run.leaf i one) ∙ eqb-true run.leaf j two))
        by_cases true false one two =
            let e = eqb-true run.leaf i one in
            let apart = eqb-false run.leaf j two in
            let less = fewer i run ri ri' e of_i.runs in
            let same = as_many j run rj rj' apart of_j.runs in
            let slices : slice * rj' ≡ slice * rj = ap (λ m. slice * m) same in
            made used 0
            (charge_ended_i ui used ri ri' (account_at s i).share.charged
            (account_at t i).share.charged less (now_charged i of_i e) h.charge_i)
            (omega (arith, still_charged j of_j apart, h.charge_j, slices))
            (lead_ended_i ui used ri ri' (most_ahead slice overrun n a b) uj due short_run less
            h.lead) (used_same i used run e) (used_other j used run apart)
        by_cases false true one two =
            let apart = eqb-false run.leaf i one in
            let e = eqb-true run.leaf j two in
            let same = as_many i run ri ri' apart of_i.runs in
            let less = fewer j run rj rj' e of_j.runs in
            let slices : slice * ri' ≡ slice * ri = ap (λ m. slice * m) same in
            let leads : (ci + (ui + 0) + (slice + overrun) * ri') * b
            ≡ (ci + (ui + 0) + (slice + overrun) * ri) * b =
            ap (λ m. (ci + (ui + 0) + (slice + overrun) * m) * b) same in
            made 0 used
            (omega (arith, still_charged i of_i apart, h.charge_i, slices))
            (charge_ended_j uj used rj rj' (account_at s j).share.charged
            (account_at t j).share.charged less (now_charged j of_j e) h.charge_j)
            (omega (
              arith,
              leads,
              lead_ended_j ui uj used ri (most_ahead slice overrun n a b) due h.lead,
            )) (used_other i used run apart) (used_same j used run e)
        by_cases false false one two =
            let apart_i = eqb-false run.leaf i one in
            let apart_j = eqb-false run.leaf j two in
            let same_i = as_many i run ri ri' apart_i of_i.runs in
            let same_j = as_many j run rj rj' apart_j of_j.runs in
            let slices_i : slice * ri' ≡ slice * ri = ap (λ m. slice * m) same_i in
            let slices_j : slice * rj' ≡ slice * rj = ap (λ m. slice * m) same_j in
            let leads : (ci + (ui + 0) + (slice + overrun) * ri') * b
            ≡ (ci + (ui + 0) + (slice + overrun) * ri) * b =
            ap (λ m. (ci + (ui + 0) + (slice + overrun) * m) * b) same_i in
            made 0 0
            (omega (arith, still_charged i of_i apart_i, h.charge_i, slices_i))
            (omega (arith, still_charged j of_j apart_j, h.charge_j, slices_j))
            (omega (
              arith,
              leads,
              lead_ended_j ui uj 0 ri (most_ahead slice overrun n a b) due h.lead,
            )) (used_other i used run apart_i) (used_other j used run apart_j)

  -- ---- all events

  -- a step that sets one leaf
  set_ahead : (ui uj due : ℕ) (s : Reservations) (k : ℕ) (w : Account) → k < length s.accounts
      → More (account_at s i) (account_at (with_account s k w) i)
      → Same (account_at s j) (account_at (with_account s k w) j)
      → Ahead slice overrun n a b ci cj i j ui uj due s
      → Ahead slice overrun n a b ci cj i j (ui + 0) (uj + 0) (due + 0) (with_account s k w)
  set_ahead ui uj due s k w known more same h =
      stays ui uj due s (with_account s k w) h refl refl refl (length_set s.accounts k w) refl refl
      more same

  step : (ui uj due : ℕ) (s : Reservations) (e : Step) → i ≢ j → Allows s e → WaitsBeside i j s e
      → Ahead slice overrun n a b ci cj i j ui uj due s
      → Ahead slice overrun n a b ci cj i j (ui + used_at (λ k. k == i) s e)
      (uj + used_at (λ k. k == j) s e) (due + due_pick i s e) (after s e)
  step ui uj due s (Pass t) ne may waits h =
      stays ui uj due s (after s (Pass t)) h refl refl (length-map s.processors (aged t))
      (length-map s.accounts (passed s t)) (aged_runs i t s.processors)
      (aged_runs j t s.processors)
      (let at = passed_at s t s.accounts i h.known_i in
      record {
        amount = ap (λ (y : Account). y.share.amount) at;
        charged = omega (arith, ap (λ (y : Account). y.share.charged) at);
      })
      (let at = passed_at s t s.accounts j h.known_j in
      record {
        amount = ap (λ (y : Account). y.share.amount) at;
        charged = ap (λ (y : Account). y.share.charged) at;
      })
  step ui uj due s (Wake k tasks) ne may waits h =
      let w = woken s tasks (account_at s k) in
      let more = woken_more s tasks (account_at s k) in
      set_ahead ui uj due s k w may (more_set s k i w may more)
      (record { amount = (more_set s k j w may more).amount; charged = waits }) h
  step ui uj due s (Pick p k) ne may waits h = by_test (k == i) refl where
    by_test : (c : Bool) → (k == i) ≡ c
        → Ahead slice overrun n a b ci cj i j (ui + 0) (uj + 0) (due + due_pick i s (Pick p k))
        (after s (Pick p k))
    by_test true is =
        subst (λ (x : ℕ). MayPick s p x
        → Ahead slice overrun n a b ci cj i j (ui + 0) (uj + 0) (due + due_pick i s (Pick p x))
        (after s (Pick p x))) (sym (eqb-true k i is))
        (λ may_i. picked_i ui uj due s p ne may_i waits h) may
    by_test false is = picked_other ui uj due s p k ne (eqb-false k i is) may h
  step ui uj due s (End p used remains) ne may waits h =
      subst (λ (q : Option (Option Run)). Ahead slice overrun n a b ci cj i j
      (ui + used_by (λ k. k == i) used q) (uj + used_by (λ k. k == j) used q) (due + 0)
      (state_ended s p used remains q)) (sym may.runs)
      (ended_ahead ui uj due s p used remains may.run ne may.runs may.known waits h)
  step ui uj due s Level ne may waits h =
      stays ui uj due s (after s Level) h refl refl refl refl refl refl
      (record { amount = refl; charged = omega arith }) (record { amount = refl; charged = refl })
  step ui uj due s (Give k amount guarantee) ne may waits h =
      let w = given s amount guarantee (account_at s k) in
      let apart : (x : ℕ) → k ≢ x → Same (account_at s x) (account_at (with_account s k w) x) =
      λ x other. elim (account_set s.accounts k x w may.0) [
        | inl q ↦ absurd (other (sym q.0))
        | inr q ↦ record {
          amount = ap (λ (y : Account). y.share.amount) q.1;
          charged = ap (λ (y : Account). y.share.charged) q.1;
        }
      ] in
      set_ahead ui uj due s k w may.0
      (more_of (account_at s i) (account_at (with_account s k w) i) (apart i waits.0))
      (apart j waits.1) h
  step ui uj due s (Leave k) ne may waits h =
      let w = left s (account_at s k) in
      let same = left_same s (account_at s k) in
      set_ahead ui uj due s k w may.0
      (more_of (account_at s i) (account_at (with_account s k w) i) (same_set s k i w may.0 same))
      (same_set s k j w may.0 same) h
  step ui uj due s (Cut k) ne may waits h =
      let w = cut s (account_at s k) in
      let same : Same (account_at s k) w = record { amount = refl; charged = refl } in
      set_ahead ui uj due s k w may
      (more_of (account_at s i) (account_at (with_account s k w) i) (same_set s k i w may same))
      (same_set s k j w may same) h
  step ui uj due s (Stop k stops) ne may waits h =
      let w = stopped s stops (account_at s k) in
      let same = stopped_same s stops (account_at s k) in
      set_ahead ui uj due s k w may
      (more_of (account_at s i) (account_at (with_account s k w) i) (same_set s k i w may same))
      (same_set s k j w may same) h
  step ui uj due s Refill ne may waits h =
      stays ui uj due s s h refl refl refl refl refl refl
      (record { amount = refl; charged = omega arith }) (record { amount = refl; charged = refl })

  all_steps : (ui uj due : ℕ) (s : Reservations) (es : List Step) → i ≢ j
      → IsRunBeside i j s es → Ahead slice overrun n a b ci cj i j ui uj due s
      → (ci + (ui + used_in (λ k. k == i) s es)) * b
      ≤ (cj + (uj + used_in (λ k. k == j) s es)) * a
      + (most_ahead slice overrun n a b + (due + due_picks i s es) * (slice + overrun) * b)
  all_steps ui uj due s [] ne run h =
      let runs : (ci + ui) * b ≤ (ci + ui + (slice + overrun) * over_runs i one s.processors) * b =
      mul-le-mul_right b
      (let less : ci + ui ≤ ci + ui + (slice + overrun) * over_runs i one s.processors =
      omega arith in less) in
      omega (arith, runs, h.lead)
  all_steps ui uj due s (e ∷ es) ne run h =
      let next = step ui uj due s e ne run.0 run.1 h in
      let rest = all_steps (ui + used_at (λ k. k == i) s e) (uj + used_at (λ k. k == j) s e)
      (due + due_pick i s e) (after s e) es ne run.2 next in
      omega (arith, rest)

pub lead_is_due : LeadIsDue
lead_is_due s i j events idle short ne known_i known_j start run =
    subst (λ (q : ℕ). (ci + used_in (λ k. k == i) s events) * b
    ≤ (cj + used_in (λ k. k == j) s events) * a
    + (most_ahead s.slice overrun n a b + due_picks i s events * q * b)) (sym quantum_is)
    (omega (arith, bound)) where
      overrun : ℕ
      overrun = s.quantum - s.slice

      quantum_is : s.quantum ≡ s.slice + overrun
      quantum_is = omega (arith, short)

      n : ℕ
      n = length s.processors

      a : ℕ
      a = (account_at s i).share.amount

      b : ℕ
      b = (account_at s j).share.amount

      ci : ℕ
      ci = (account_at s i).share.charged

      cj : ℕ
      cj = (account_at s j).share.charged

      none_i : s.slice * over_runs i one s.processors ≡ s.slice * 0
      none_i = ap (λ m. s.slice * m) (none_run i s.processors idle)

      none_j : s.slice * over_runs j one s.processors ≡ s.slice * 0
      none_j = ap (λ m. s.slice * m) (none_run j s.processors idle)

      first : Ahead s.slice overrun n a b ci cj i j 0 0 0 s
      first = record {
        slice_is = refl;
        quantum_is = quantum_is;
        processors = refl;
        known_i = known_i;
        known_j = known_j;
        amount_i = refl;
        amount_j = refl;
        charge_i = omega (arith, none_i);
        charge_j = omega (arith, none_j);
        lead = subst (λ (r : ℕ). (ci + 0 + (s.slice + overrun) * r) * b
            ≤ (cj + 0) * a + (most_ahead s.slice overrun n a b + 0 * (s.slice + overrun) * b))
            (sym (none_run i s.processors idle)) (omega (arith, start));
      }

      bound : (ci + (0 + used_in (λ k. k == i) s events)) * b
          ≤ (cj + (0 + used_in (λ k. k == j) s events)) * a
          + (most_ahead s.slice overrun n a b
          + (0 + due_picks i s events) * (s.slice + overrun) * b)
      bound = all_steps s.slice overrun n a b ci cj i j 0 0 0 s events ne run first
