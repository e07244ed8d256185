-- A pick keeps the backlog of a run: a leaf that begins a run pays for a quantum of it.
use Rattle.std.proofs.Common.{◌≡◌, ◌≢◌, ℕ, zero, suc, ◌+◌, ◌-◌, ◌*◌, ◌<◌, ◌≤◌, ◌==◌, ◌⊎◌, inl, inr}
use Rattle.std.proofs.Common.{length, None, Some, slice_set, get_or, min, ap, sym, subst, ◌∙◌}
use Rattle.std.proofs.Common.{arith, if◌then◌else◌}
use Rattle.std.specs.List.{sum_by}
use Rattle.std.proofs.Math.Nat.{mul-le-mul_right, mul-le-mul_left}
use Rattle.std.proofs.lemmas.Bool.{eq-eqb, ne_eqb}
use Rattle.dispatch.specs.declared.reservation.Account.{Account}
use Rattle.dispatch.specs.declared.reservation.Run.{Run}
use Rattle.dispatch.specs.Reservation.{Reservations, WHOLE, account_at, no_account, quantum_of}
use Rattle.dispatch.specs.Reservation.{rate_of, credit_of, most_of, paid_by, picked, state_picked}
use Rattle.dispatch.specs.Reservation.{IsDue, OwesWithin, MayPick, Waits}
use Rattle.dispatch.specs.Windows.{over_runs, of_run, WaitsBeyondCredit, HasTasksForGuarantees}
use Rattle.dispatch.proofs.Counts.{length_set}
use Rattle.dispatch.proofs.Demands.{demand, demand_within, demand_later, demand_paid, demand_early}
use Rattle.dispatch.proofs.Demands.{demand_none}
use Rattle.dispatch.proofs.Totals.{sum_set, sum_set_each, sum_products}
use Rattle.dispatch.proofs.Backlog.{rest, busy, demand_by, one, Backlog, by_order, account_set}
use Rattle.dispatch.proofs.Backlog.{rest_at_most, free_one, known_at}

-- the pick of a leaf whose deadline is not later: it has a guarantee, pays a quantum, and is owed
-- it by then
record Pays (s : Reservations) (i e : ℕ) : Type 0 where
  pub guaranteed : 0 < (account_at s i).guarantee
  pub whole : quantum_of s ≤ min (account_at s i).owed (most_of s (account_at s i))
  pub owes : 2 * quantum_of s + (account_at s i).guarantee * s.credit
      ≤ min (account_at s i).owed (most_of s (account_at s i)) + (account_at s i).guarantee * e

-- why it is none
abbrev PaysLess : Reservations → ℕ → ℕ → Type 0
PaysLess s i e =
    ((account_at s i).guarantee ≡ 0)
    ⊎ ((min (account_at s i).owed (most_of s (account_at s i)) < quantum_of s)
    ⊎ (min (account_at s i).owed (most_of s (account_at s i)) + (account_at s i).guarantee * e
    < 2 * quantum_of s + (account_at s i).guarantee * s.credit))

pays_or_less : (s : Reservations) (i e : ℕ) (P : Type 0) → (Pays s i e → P)
    → (PaysLess s i e → P) → P
pays_or_less s i e P pays less =
    by_order P 0 (account_at s i).guarantee
    (λ some. by_order P (min (account_at s i).owed (most_of s (account_at s i))) (quantum_of s)
    (λ short. less (inr (inl short)))
    (λ whole. by_order P
    (min (account_at s i).owed (most_of s (account_at s i)) + (account_at s i).guarantee * e)
    (2 * quantum_of s + (account_at s i).guarantee * s.credit)
    (λ later. less (inr (inr later)))
    (λ owes. pays (record { guaranteed = some; whole = whole; owes = owes }))))
    (λ none. less (inl (omega (arith, none))))

product_of_runs : (r q : ℕ) → (r * q ≡ 0) ⊎ (q ≤ r * q)
product_of_runs zero q = inl (omega arith)
product_of_runs (suc r) q = inr (omega arith)

-- a rate is the whole guarantee of a leaf with as many tasks
full_rate : (s : Reservations) (k : ℕ) → HasTasksForGuarantees s → Waits s k
    → rate_of (account_at s k) ≡ (account_at s k).guarantee
full_rate s k all waits = omega (arith, all k waits)

-- it is due, if it waits, has a guarantee and is owed more than its credit
due_beyond : (s : Reservations) (k : ℕ) → s.slack ≤ s.credit → HasTasksForGuarantees s
    → Waits s k → 0 < (account_at s k).guarantee
    → credit_of s (account_at s k) < (account_at s k).owed → IsDue s (account_at s k)
due_beyond s k slack all waits some past =
    let full = full_rate s k all waits in
    let slacks : (account_at s k).guarantee * s.slack ≤ (account_at s k).guarantee * s.credit =
    mul-le-mul_left (account_at s k).guarantee slack in
    record {
      owes = omega (arith, full, some);
      behind = subst (λ (r : ℕ). quantum_of s + r * s.slack ≤ (account_at s k).owed) (sym full)
          (omega (arith, past, slacks));
    }

-- a leaf that is due and pays less than a quantum that is owed by the time owes it later
owes_later : (s : Reservations) (i e : ℕ) → 0 < length s.processors → HasTasksForGuarantees s
    → Waits s i → IsDue s (account_at s i) → PaysLess s i e
    → OwesWithin s (account_at s i) e s.credit → ⊥
owes_later s i e some all waits due less within =
    let full = full_rate s i all waits in
    let owes = due.owes in
    let behind = due.behind in
    let here : 2 * quantum_of s + (account_at s i).guarantee * s.credit
    ≤ (account_at s i).owed + (account_at s i).guarantee * e =
    subst (λ (r : ℕ). 2 * quantum_of s + r * s.credit ≤ (account_at s i).owed + r * e) full
    within in
    let one_processor : 1 * quantum_of s ≤ length s.processors * quantum_of s =
    mul-le-mul_right (quantum_of s) some in
    elim less [
      | inl none ↦ omega (arith, none, full, owes)
      | inr h ↦ elim h [
        | inl short ↦ omega (arith, short, behind, one_processor)
        | inr later ↦ omega (arith, later, here, one_processor)
      ]
    ]

-- amount that another leaf may ask for, where the pick pays less
other_demand : (s : Reservations) (p i e k : ℕ) → 0 < length s.processors → s.slack ≤ s.credit
    → WaitsBeyondCredit s → HasTasksForGuarantees s → MayPick s p i → PaysLess s i e
    → demand_by (quantum_of s) s.credit e (account_at s k)
    ≤ (account_at s k).guarantee * e + (account_at s k).share.running * quantum_of s
other_demand s p i e k some slack beyond all may less =
    by_order Goal (credit_of s (account_at s k)) (account_at s k).owed past within where
      Goal : Type 0
      Goal = demand_by (quantum_of s) s.credit e (account_at s k)
          ≤ (account_at s k).guarantee * e + (account_at s k).share.running * quantum_of s

      within : (account_at s k).owed ≤ credit_of s (account_at s k) → Goal
      within h =
          let most = demand_within (account_at s k).guarantee (quantum_of s)
          ((account_at s k).guarantee * s.credit) (account_at s k).owed
          ((account_at s k).share.running * quantum_of s) ((account_at s k).guarantee * e) h in
          omega (arith, most)

      later : (account_at s k).owed + (account_at s k).guarantee * e
          < 2 * quantum_of s + (account_at s k).guarantee * s.credit → Goal
      later h =
          let most = demand_later (account_at s k).guarantee (quantum_of s)
          ((account_at s k).guarantee * s.credit) (account_at s k).owed
          ((account_at s k).share.running * quantum_of s) ((account_at s k).guarantee * e) h
          (product_of_runs (account_at s k).share.running (quantum_of s)) in
          omega (arith, most)

      past : credit_of s (account_at s k) < (account_at s k).owed → Goal
      past h = by_order Goal 0 (account_at s k).guarantee guaranteed none where
        waits : Waits s k
        waits = beyond k h

        none : (account_at s k).guarantee ≤ 0 → Goal
        none g =
            let zero_demand = demand_none (account_at s k).guarantee (quantum_of s)
            ((account_at s k).guarantee * s.credit) (account_at s k).owed
            ((account_at s k).share.running * quantum_of s) ((account_at s k).guarantee * e) g in
            omega (arith, zero_demand)

        guaranteed : 0 < (account_at s k).guarantee → Goal
        guaranteed g = by_order Goal
            ((account_at s k).owed + (account_at s k).guarantee * e)
            (2 * quantum_of s + (account_at s k).guarantee * s.credit) later
            (λ owes. absurd (first owes)) where
              first : 2 * quantum_of s + (account_at s k).guarantee * s.credit
                  ≤ (account_at s k).owed + (account_at s k).guarantee * e → ⊥
              first owes =
                  let full = full_rate s k all waits in
                  let due = may.due k waits (due_beyond s k slack all waits g h) in
                  owes_later s i e some all may.waits due.0 less
                  (due.1 e s.credit
                  (subst
                  (λ (r : ℕ). 2 * quantum_of s + r * s.credit ≤ (account_at s k).owed + r * e)
                  (sym full) owes))

pub run_of_same : (i k : ℕ) → k ≡ i → (if◌then◌else◌ {A = ℕ} (i == k) 1 0) ≡ 1
run_of_same i k e = ap (λ b. if◌then◌else◌ {A = ℕ} b 1 0) (eq-eqb i k (sym e))

pub run_of_other : (i k : ℕ) → k ≢ i → (if◌then◌else◌ {A = ℕ} (i == k) 1 0) ≡ 0
run_of_other i k ne = ap (λ b. if◌then◌else◌ {A = ℕ} b 1 0) (ne_eqb i k (λ e. ne (sym e)))

-- the run that a pick begins
abbrev begun : Reservations → ℕ → Run
begun s i = record { leaf = i; paid = paid_by s (account_at s i); age = 0 }

picked_runs : (n w : ℕ) (s : Reservations) (p i : ℕ) → Backlog n w s → MayPick s p i → (k : ℕ)
    → k < length (slice_set s.accounts i (picked s (account_at s i)))
    → over_runs k one (slice_set s.processors p (Some (begun s i)))
    ≡ (get_or (slice_set s.accounts i (picked s (account_at s i))) k no_account).share.running
picked_runs n w s p i b may k inside =
    let more = sum_set (of_run k one) s.processors p None (Some (begun s i)) may.free in
    let known : k < length s.accounts =
    omega (arith, inside, length_set s.accounts i (picked s (account_at s i))) in
    let before = b.runs k known in
    elim (account_set s.accounts i k (picked s (account_at s i)) may.known) [
      | inl h ↦
          let now : (get_or (slice_set s.accounts i (picked s (account_at s i))) k
          no_account).share.running ≡ (account_at s i).share.running + 1 =
          ap (λ (x : Account). x.share.running) h.1 in
          let old : (account_at s k).share.running ≡ (account_at s i).share.running =
          ap (λ (x : ℕ). (account_at s x).share.running) h.0 in
          omega (arith, more, before, now, old, run_of_same i k h.0)
      | inr h ↦
          let now : (get_or (slice_set s.accounts i (picked s (account_at s i))) k
          no_account).share.running ≡ (account_at s k).share.running =
          ap (λ (x : Account). x.share.running) h.1 in
          omega (arith, more, before, now, run_of_other i k h.0)
    ]

-- the rooms after a pick: the leaf's demand pays for the run, or all demands are bounded
room_paid : (rests rests' demands demands' q room d d' : ℕ) → rests + demands + q ≤ room
    → rests' + 0 ≡ rests + q → demands' + d ≡ demands + d' → d' + q ≤ d
    → rests' + demands' + q ≤ room
room_paid rests rests' demands demands' q room d d' before more set paid =
    omega (arith, before, more, set, paid)

room_bounded : (rests demands guarantees runs busy n q e : ℕ) → rests ≤ n * q
    → demands ≤ guarantees * e + runs * q → guarantees ≤ WHOLE * n → runs ≡ busy → busy < n
    → rests + demands + q ≤ WHOLE * n * e + 2 * n * q
room_bounded rests demands guarantees runs busy n q e h1 h2 h3 h4 h5 =
    let until : guarantees * e ≤ WHOLE * n * e = mul-le-mul_right e h3 in
    let few : suc runs * q ≤ n * q = mul-le-mul_right q (omega (arith, h4, h5)) in
    omega (arith, h1, h2, until, few)

picked_demand : (s : Reservations) (i e : ℕ)
    → demand_by (quantum_of s) s.credit e (picked s (account_at s i))
    ≡ demand (account_at s i).guarantee (quantum_of s) ((account_at s i).guarantee * s.credit)
    (min (account_at s i).owed (most_of s (account_at s i))
    - min (min (account_at s i).owed (most_of s (account_at s i))) (quantum_of s))
    ((account_at s i).share.running * quantum_of s + quantum_of s)
    ((account_at s i).guarantee * e)
picked_demand s i e =
    ap (λ (r : ℕ). demand (account_at s i).guarantee (quantum_of s)
    ((account_at s i).guarantee * s.credit)
    (min (account_at s i).owed (most_of s (account_at s i))
    - min (min (account_at s i).owed (most_of s (account_at s i))) (quantum_of s)) r
    ((account_at s i).guarantee * e))
    (let more : ((account_at s i).share.running + 1) * quantum_of s
    ≡ (account_at s i).share.running * quantum_of s + quantum_of s = omega arith in more)

picked_room : (n w : ℕ) (s : Reservations) (p i e : ℕ) → 0 < n → Backlog n w s
    → WaitsBeyondCredit s → HasTasksForGuarantees s → MayPick s p i
    → sum_by (rest (quantum_of s)) (slice_set s.processors p (Some (begun s i)))
    + sum_by (demand_by (quantum_of s) s.credit e)
    (slice_set s.accounts i (picked s (account_at s i))) + quantum_of s
    ≤ WHOLE * n * e + 2 * n * quantum_of s + WHOLE * w
picked_room n w s p i e some b beyond all may = pays_or_less s i e Goal paid bounded where
  Goal : Type 0
  Goal = sum_by (rest (quantum_of s)) (slice_set s.processors p (Some (begun s i)))
      + sum_by (demand_by (quantum_of s) s.credit e)
      (slice_set s.accounts i (picked s (account_at s i))) + quantum_of s
      ≤ WHOLE * n * e + 2 * n * quantum_of s + WHOLE * w

  paid : Pays s i e → Goal
  paid pays =
      room_paid (sum_by (rest (quantum_of s)) s.processors)
      (sum_by (rest (quantum_of s)) (slice_set s.processors p (Some (begun s i))))
      (sum_by (demand_by (quantum_of s) s.credit e) s.accounts)
      (sum_by (demand_by (quantum_of s) s.credit e)
      (slice_set s.accounts i (picked s (account_at s i)))) (quantum_of s)
      (WHOLE * n * e + 2 * n * quantum_of s + WHOLE * w)
      (demand_by (quantum_of s) s.credit e (account_at s i))
      (demand_by (quantum_of s) s.credit e (picked s (account_at s i))) (b.room e)
      (let set : sum_by (rest (quantum_of s)) (slice_set s.processors p (Some (begun s i))) + 0
      ≡ sum_by (rest (quantum_of s)) s.processors + quantum_of s =
      omega (
        arith,
        sum_set (rest (quantum_of s)) s.processors p None (Some (begun s i)) may.free,
      ) in set)
      (sum_set (demand_by (quantum_of s) s.credit e) s.accounts i (account_at s i)
      (picked s (account_at s i)) (known_at s i may.known))
      (subst (λ (d : ℕ). d + quantum_of s
      ≤ demand_by (quantum_of s) s.credit e (account_at s i)) (sym (picked_demand s i e))
      (demand_paid (account_at s i).guarantee (quantum_of s)
      ((account_at s i).guarantee * s.credit) (account_at s i).owed
      (min (account_at s i).owed (most_of s (account_at s i)))
      ((account_at s i).share.running * quantum_of s) ((account_at s i).guarantee * e)
      pays.guaranteed (omega arith) pays.whole pays.owes))

  bounded : PaysLess s i e → Goal
  bounded less =
      let own : demand_by (quantum_of s) s.credit e (picked s (account_at s i))
      ≤ (account_at s i).guarantee * e =
      subst (λ (d : ℕ). d ≤ (account_at s i).guarantee * e) (sym (picked_demand s i e))
      (demand_early (account_at s i).guarantee (quantum_of s)
      ((account_at s i).guarantee * s.credit)
      (min (account_at s i).owed (most_of s (account_at s i)))
      ((account_at s i).share.running * quantum_of s) ((account_at s i).guarantee * e) less) in
      let demands = sum_set_each (demand_by (quantum_of s) s.credit e)
      (λ x. x.guarantee * e + x.share.running * quantum_of s) s.accounts i
      (picked s (account_at s i)) no_account (omega (arith, own))
      (λ k ne. other_demand s p i e k (omega (arith, some, b.processors_are)) b.slack beyond all
      may less) in
      let rests : sum_by (rest (quantum_of s)) (slice_set s.processors p (Some (begun s i)))
      ≤ n * quantum_of s =
      subst (λ (m : ℕ). sum_by (rest (quantum_of s))
      (slice_set s.processors p (Some (begun s i))) ≤ m * quantum_of s)
      (length_set s.processors p (Some (begun s i)) ∙ b.processors_are)
      (rest_at_most (quantum_of s) (slice_set s.processors p (Some (begun s i)))) in
      let room = room_bounded
      (sum_by (rest (quantum_of s)) (slice_set s.processors p (Some (begun s i))))
      (sum_by (demand_by (quantum_of s) s.credit e)
      (slice_set s.accounts i (picked s (account_at s i))))
      (sum_by (λ x. x.guarantee) s.accounts) (sum_by (λ x. x.share.running) s.accounts)
      (sum_by busy s.processors) n (quantum_of s) e rests
      (omega (
        arith,
        demands,
        sum_products (λ (x : Account). x.guarantee) (λ (x : Account). x.share.running) e
            (quantum_of s) s.accounts,
      ))
      b.guarantees b.total
      (omega (arith, free_one s.processors p may.free, b.processors_are)) in
      omega (arith, room)

pub backlog_picked : (n w : ℕ) (s : Reservations) (p i : ℕ) → 0 < n → Backlog n w s
    → WaitsBeyondCredit s → HasTasksForGuarantees s → MayPick s p i
    → Backlog n w (state_picked s p i)
backlog_picked n w s p i some b beyond all may = record {
  processors_are = length_set s.processors p (Some (begun s i)) ∙ b.processors_are;
  slack = b.slack;
  guarantees = omega (
    arith,
    b.guarantees,
    sum_set (λ x. x.guarantee) s.accounts i (account_at s i) (picked s (account_at s i))
        (known_at s i may.known),
  );
  total = omega (
    arith,
    b.total,
    sum_set (λ x. x.share.running) s.accounts i (account_at s i) (picked s (account_at s i))
        (known_at s i may.known),
    sum_set busy s.processors p None (Some (begun s i)) may.free,
  );
  runs = picked_runs n w s p i b may;
  room = λ e. picked_room n w s p i e some b beyond all may;
}
