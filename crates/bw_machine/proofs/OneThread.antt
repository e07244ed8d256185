-- Every schedule of a core is one thread's, in ticket order: an induction on the events.
use Rattle.std.proofs.Common.{◌≡◌, ◌≢◌, ℕ, zero, suc, ◌+◌, ◌≤◌, inl, inr, List, [], ◌∷◌, ◌++◌}
use Rattle.std.proofs.Common.{length, take, replicate, Bool, true, false, cond, Option, None}
use Rattle.std.proofs.Common.{Some, set, slice_get, refl, sym, ap, ◌∙◌, subst, arith, eqb, eqb-true}
use Rattle.std.proofs.Common.{append_assoc, append-nil}
use Rattle.std.proofs.lemmas.Bool.{cases_lt}
use Rattle.std.proofs.lemmas.Bool.Decides.{eqb_tells}
use Rattle.std.proofs.lemmas.List.{take-append-le}
use Rattle.std.specs.List.{count_by}
use Rattle.bw_machine.specs.declared.history.Entry.{Entry}
use Rattle.bw_machine.specs.declared.seats.Phase.{Phase}
use Rattle.bw_machine.specs.declared.seats.Phase.TheVariants.{Idle, Waiting, Inside, Done}
use Rattle.bw_machine.specs.declared.seats.CoreEvent.{CoreEvent}
use Rattle.bw_machine.specs.declared.seats.CoreEvent.TheVariants.{Take, Enter, Apply, Leave}
use Rattle.bw_machine.specs.History.{own, entry}
use Rattle.bw_machine.specs.Seats.{CoreState, start, is_idle, is_done, entered, applied, happens}
use Rattle.bw_machine.specs.Seats.{run, takes}
use Rattle.bw_machine.proofs.Histories.{replay-snoc, legal-snoc}
use Rattle.bw_machine.specs.Schedules.{is_in_lock, has_called, is_on_its_way, begun, calls_taken}
use Rattle.bw_machine.specs.Schedules.{calls_of, IsOneThread}
use Rattle.bw_machine.proofs.ListsByPlace.{get_same, get_other, get_kept, get_last, take_next}
use Rattle.bw_machine.proofs.ListsByPlace.{count_set, count_some, count_none, get_replicate}
use Rattle.bw_machine.proofs.ListsByPlace.{map_snoc, length_snoc}

module _ {C : Type 0} where
  -- the ticket of a seat: it drew it, and it is still to be served or it is served now
  abbrev pub HasTicket : List (ℕ × C) → ℕ → ℕ → ℕ → Phase C → Type 0
  HasTicket ts serving len seat Idle = Unit {0}
  HasTicket ts serving len seat (Waiting number call) =
      (len ≤ number) × (slice_get ts number ≡ Some (seat, call))
  HasTicket ts serving len seat (Inside call) =
      (len ≡ serving) × (slice_get ts serving ≡ Some (seat, call))
  HasTicket ts serving len seat Done =
      (len ≡ serving + 1) × ((call : C) × (slice_get ts serving ≡ Some (seat, call)))

  who : Option (ℕ × C) → ℕ
  who None = 0
  who (Some t) = t.0

  same_seat : (o : Option (ℕ × C)) (i j : ℕ) (c d : C) → o ≡ Some (i, c) → o ≡ Some (j, d) → i ≡ j
  unfolding who
  same_seat o i j c d e f = ap who (sym e ∙ f)

  in_lock_ticket : (ts : List (ℕ × C)) (sv len j : ℕ) (x : Phase C) → is_in_lock x ≡ true
      → HasTicket ts sv len j x →
      (call : C) × (slice_get ts sv ≡ Some (j, call))
  in_lock_ticket ts sv len j Idle on h = absurd (cc on)
  in_lock_ticket ts sv len j (Waiting k c) on h = absurd (cc on)
  in_lock_ticket ts sv len j (Inside c) on h = (c, h.1)
  in_lock_ticket ts sv len j Done on h = h.1

  ticket_taken : (ts : List (ℕ × C)) (t : ℕ × C) (sv len j : ℕ) (x : Phase C)
      → HasTicket ts sv len j x → HasTicket (ts ++ t ∷ []) sv len j x
  ticket_taken ts t sv len j Idle h = tt
  ticket_taken ts t sv len j (Waiting k c) h = (h.0, get_kept ts t k (j, c) h.1)
  ticket_taken ts t sv len j (Inside c) h = (h.0, get_kept ts t sv (j, c) h.1)
  ticket_taken ts t sv len j Done h = (h.0, let q = h.1 in (q.0, get_kept ts t sv (j, q.0) q.1))

  ticket_applied : (ts : List (ℕ × C)) (sv len len' j seat : ℕ) (c : C) (x : Phase C) → j ≢ seat
      → len ≡ sv → len' ≡ suc len → slice_get ts sv ≡ Some (seat, c)
      → HasTicket ts sv len j x → HasTicket ts sv len' j x
  ticket_applied ts sv len len' j seat c Idle ne e e' mine h = tt
  ticket_applied ts sv len len' j seat c (Waiting k d) ne e e' mine h =
      let differs : k ≢ sv =
      λ q. ne (same_seat (slice_get ts sv) j seat d c (ap (slice_get ts) (sym q) ∙ h.1) mine) in
      (omega (arith, h.0, differs), h.1)
  ticket_applied ts sv len len' j seat c (Inside d) ne e e' mine h =
      absurd (ne (same_seat (slice_get ts sv) j seat d c h.1 mine))
  ticket_applied ts sv len len' j seat c Done ne e e' mine h =
      absurd (ne (let q = h.1 in same_seat (slice_get ts sv) j seat q.0 c q.1 mine))

  ticket_left : (ts : List (ℕ × C)) (sv len j seat : ℕ) (c : C) (x : Phase C) → j ≢ seat
      → slice_get ts sv ≡ Some (seat, c) → HasTicket ts sv len j x →
      HasTicket ts (sv + 1) len j x
  ticket_left ts sv len j seat c Idle ne mine h = tt
  ticket_left ts sv len j seat c (Waiting k d) ne mine h = h
  ticket_left ts sv len j seat c (Inside d) ne mine h =
      absurd (ne (same_seat (slice_get ts sv) j seat d c h.1 mine))
  ticket_left ts sv len j seat c Done ne mine h =
      absurd (ne (let q = h.1 in same_seat (slice_get ts sv) j seat q.0 c q.1 mine))

  -- what holds of each seat, where one seat's phase changes
  phase_set : (xs : List (Phase C)) (seat : ℕ) (x y : Phase C) (T : ℕ → Phase C → Type 0)
      → slice_get xs seat ≡ Some x → T seat y
      → ((j : ℕ) → j ≢ seat → (z : Phase C) → slice_get xs j ≡ Some z → T j z)
      → (j : ℕ) (z : Phase C) → slice_get (set xs seat y) j ≡ Some z → T j z
  phase_set xs seat x y T is here others j z get = elim (eqb_tells j seat) [
    | inl e ↦
        let at : slice_get (set xs seat y) j ≡ Some y =
        ap (slice_get (set xs seat y)) e.1 ∙ get_same xs seat x y is in
        let same : y ≡ z = cc (at, get) in
        subst (λ i. T i z) (sym e.1) (subst (λ w. T seat w) same here)
    | inr e ↦ others j e.1 z (sym (get_other xs seat j y e.1) ∙ get)
  ]

  calls_taken_snoc : (j : ℕ) (ts : List (ℕ × C)) (t : ℕ × C)
      → calls_taken j (ts ++ t ∷ []) ≡ calls_taken j ts ++ cond (eqb t.0 j) (t.1 ∷ []) []
  calls_taken_snoc j [] t = refl_cond (eqb t.0 j) where
    refl_cond : (b : Bool) → cond b (t.1 ∷ []) [] ≡ [] ++ cond b (t.1 ∷ []) []
    refl_cond true = refl
    refl_cond false = refl
  calls_taken_snoc j (u ∷ ts) t =
      step (eqb u.0 j) u.1 (calls_taken j (ts ++ t ∷ [])) (calls_taken j ts)
      (cond (eqb t.0 j) (t.1 ∷ []) [])
      (calls_taken_snoc j ts t) where
        step : (b : Bool) (x : C) (l l' r : List C) → l ≡ l' ++ r
            → cond b (x ∷ l) l ≡ cond b (x ∷ l') l' ++ r
        step true x l l' r e = ap (λ k. x ∷ k) e
        step false x l l' r e = e

module _ {C R : Type 0} where
  own_calls_snoc : (j : ℕ) (es : List (Entry C R)) (e : Entry C R) →
      calls_of (own j (es ++ e ∷ [])) ≡ calls_of (own j es) ++ cond (eqb e.seat j) (e.call ∷ []) []
  own_calls_snoc j [] e = start_cond (eqb e.seat j) where
    start_cond : (b : Bool) → calls_of (cond b (e ∷ []) []) ≡ [] ++ cond b (e.call ∷ []) []
    start_cond true = refl
    start_cond false = refl
  own_calls_snoc j (x ∷ es) e = step (eqb x.seat j) (own j (es ++ e ∷ [])) (own j es)
      (cond (eqb e.seat j) (e.call ∷ []) []) (own_calls_snoc j es e) where
        step : (b : Bool) (l l' : List (Entry C R)) (r : List C) → calls_of l ≡ calls_of l' ++ r
            → calls_of (cond b (x ∷ l) l) ≡ calls_of (cond b (x ∷ l') l') ++ r
        step true l l' r q = ap (λ k. x.call ∷ k) q
        step false l l' r q = q

module _ {M C R : Type 0} (after : M → ℕ → C → M) (answer : M → ℕ → C → R) (m : M) where
  record Inv (ts : List (ℕ × C)) (s : CoreState M C R) : Type 0 where
    is_one : IsOneThread after answer m ts s
    tickets : (seat : ℕ) (x : Phase C) → slice_get s.phases seat ≡ Some x
        → HasTicket ts s.serving (length s.history) seat x

  starts : (seats : ℕ) → Inv [] (start seats m)
  starts seats = record {
    is_one = record {
      one_in_lock = omega (arith, count_none (is_in_lock {C = C}) seats Idle refl);
      next = refl;
      entries = omega (arith, count_none (has_called {C = C}) seats Idle refl);
      on_the_way = omega (arith, count_none (is_on_its_way {C = C}) seats Idle refl);
      ticket_order = refl;
      legal = tt;
      replayed = refl;
      own_calls = λ seat. none seat seats;
    };
    tickets = λ seat x is. let e = get_replicate seats seat Idle x is in
        subst (λ y. HasTicket [] 0 0 seat y) (sym e) tt;
  } where
    none : (seat n : ℕ) → [] ≡ begun (slice_get (replicate {A = Phase C} n Idle) seat)
    none seat zero = refl
    none zero (suc n) = refl
    none (suc seat) (suc n) = none seat n

  take_keeps : (ts : List (ℕ × C)) (s : CoreState M C R) (seat : ℕ) (call : C)
      → slice_get s.phases seat ≡ Some Idle → Inv ts s
      → Inv (ts ++ (seat, call) ∷ [])
      (record s { next = s.next + 1; phases = set s.phases seat (Waiting s.next call) })
  take_keeps ts s seat call is inv =
      let o = inv.is_one in
      let t : ℕ × C = (seat, call) in
      let y : Phase C = Waiting s.next call in
      let below : length s.history ≤ length ts = omega (arith, o.on_the_way, o.next) in
      record {
        is_one = record {
          one_in_lock =
              omega (arith, count_set (is_in_lock {C = C}) s.phases seat Idle y is, o.one_in_lock);
          next = omega (arith, o.next, length_snoc ts t);
          entries = omega
              (arith, count_set (has_called {C = C}) s.phases seat Idle y is, o.entries);
          on_the_way = omega
              (arith, count_set (is_on_its_way {C = C}) s.phases seat Idle y is, o.on_the_way);
          ticket_order = o.ticket_order ∙ sym (take-append-le (length s.history) ts (t ∷ []) below);
          legal = o.legal;
          replayed = o.replayed;
          own_calls = λ j. calls_taken_snoc j ts t ∙ (elim (eqb_tells seat j) [
            | inl e ↦
                let was : calls_taken j ts ≡ calls_of (own j s.history) ++ [] =
                o.own_calls j ∙ ap (λ p. calls_of (own j s.history) ++ begun p)
                (ap (slice_get s.phases) (sym e.1) ∙ is) in
                let now : begun (slice_get (set s.phases seat y) j) ≡ call ∷ [] =
                ap (λ i. begun (slice_get (set s.phases seat y) i)) (sym e.1)
                ∙ ap begun (get_same s.phases seat Idle y is) in
                ap (λ b. calls_taken j ts ++ cond b (call ∷ []) []) e.0
                ∙ (ap (λ l. l ++ call ∷ []) (was ∙ append-nil (calls_of (own j s.history)))
                ∙ ap (λ l. calls_of (own j s.history) ++ l) (sym now))
            | inr e ↦
                let same : slice_get (set s.phases seat y) j ≡ slice_get s.phases j =
                get_other s.phases seat j y (λ q. e.1 (sym q)) in
                ap (λ b. calls_taken j ts ++ cond b (call ∷ []) []) e.0
                ∙ (append-nil (calls_taken j ts)
                ∙ (o.own_calls j ∙ ap (λ p. calls_of (own j s.history) ++ begun p) (sym same)))
          ]);
        };
        tickets = phase_set s.phases seat Idle y
            (HasTicket (ts ++ t ∷ []) s.serving (length s.history)) is
            (omega (arith, o.on_the_way), ap (slice_get (ts ++ t ∷ [])) o.next ∙ get_last ts t)
            (λ j ne z get. ticket_taken ts t s.serving (length s.history) j z
            (inv.tickets j z get));
      }

  -- a phase changes, and the seat has begun as much as before
  same_begun : (ts : List (ℕ × C)) (s : CoreState M C R) (seat : ℕ) (x y : Phase C)
      → slice_get s.phases seat ≡ Some x → begun (Some x) ≡ begun (Some y)
      → (j : ℕ) → begun (slice_get s.phases j) ≡ begun (slice_get (set s.phases seat y) j)
  same_begun ts s seat x y is alike j = elim (eqb_tells j seat) [
    | inl e ↦ ap (λ i. begun (slice_get s.phases i)) e.1
        ∙ (ap begun is
        ∙ (alike ∙ (sym (ap begun (get_same s.phases seat x y is))
        ∙ ap (λ i. begun (slice_get (set s.phases seat y) i)) (sym e.1))))
    | inr e ↦ sym (ap begun (get_other s.phases seat j y e.1))
  ]

  nobody_in : (ts : List (ℕ × C)) (s : CoreState M C R) (seat : ℕ) (call : C)
      → slice_get s.phases seat ≡ Some (Waiting s.serving call) → Inv ts s →
      count_by is_in_lock s.phases ≡ 0
  nobody_in ts s seat call is inv = elim (cases_lt 0 (count_by is_in_lock s.phases)) [
    | inl some ↦
        let w = count_some is_in_lock s.phases some in
        let h = in_lock_ticket ts s.serving (length s.history) w.0 w.1 w.3
        (inv.tickets w.0 w.1 w.2) in
        let mine = inv.tickets seat (Waiting s.serving call) is in
        let same = same_seat (slice_get ts s.serving) w.0 seat h.0 call h.1 mine.1 in
        let at : Some w.1 ≡ Some (Waiting s.serving call) =
        sym w.2 ∙ (ap (slice_get s.phases) same ∙ is) in
        let x : w.1 ≡ Waiting s.serving call = cc at in
        let no_lock : false ≡ true = sym (ap is_in_lock x) ∙ w.3 in
        absurd (cc no_lock)
    | inr none ↦ omega arith
  ]

  enter_keeps : (ts : List (ℕ × C)) (s : CoreState M C R) (seat : ℕ) (call : C)
      → slice_get s.phases seat ≡ Some (Waiting s.serving call) → Inv ts s
      → Inv ts (record s { phases = set s.phases seat (Inside call) })
  enter_keeps ts s seat call is inv =
      let o = inv.is_one in
      let x : Phase C = Waiting s.serving call in
      let y : Phase C = Inside call in
      let mine = inv.tickets seat x is in
      record {
        is_one = record {
          one_in_lock =
              omega (
                arith,
                count_set (is_in_lock {C = C}) s.phases seat x y is,
                nobody_in ts s seat call is inv,
              );
          next = o.next;
          entries = omega (arith, count_set (has_called {C = C}) s.phases seat x y is, o.entries);
          on_the_way = omega
              (arith, count_set (is_on_its_way {C = C}) s.phases seat x y is, o.on_the_way);
          ticket_order = o.ticket_order;
          legal = o.legal;
          replayed = o.replayed;
          own_calls = λ j. o.own_calls j
              ∙ ap (λ l. calls_of (own j s.history) ++ l) (same_begun ts s seat x y is refl j);
        };
        tickets = phase_set s.phases seat x y (HasTicket ts s.serving (length s.history)) is
            (omega (arith, mine.0, o.entries), mine.1)
            (λ j ne z get. inv.tickets j z get);
      }

  apply_keeps : (ts : List (ℕ × C)) (s : CoreState M C R) (seat : ℕ) (call : C)
      → slice_get s.phases seat ≡ Some (Inside call) → Inv ts s
      → Inv ts (record s {
        phases = set s.phases seat Done;
        machine = after s.machine seat call;
        history =
            s.history ++ entry seat call (answer s.machine seat call) ∷ [];
      })
  apply_keeps ts s seat call is inv =
      let o = inv.is_one in
      let x : Phase C = Inside call in
      let y : Phase C = Done in
      let e = entry seat call (answer s.machine seat call) in
      let mine = inv.tickets seat x is in
      let long : length (s.history ++ e ∷ []) ≡ suc (length s.history) = length_snoc s.history e in
      let here : slice_get ts (length s.history) ≡ Some (seat, call) =
      ap (slice_get ts) mine.0 ∙ mine.1 in
      record {
        is_one = record {
          one_in_lock =
              omega (arith, count_set (is_in_lock {C = C}) s.phases seat x y is, o.one_in_lock);
          next = o.next;
          entries = omega
              (arith, count_set (has_called {C = C}) s.phases seat x y is, o.entries, long);
          on_the_way = omega
              (arith, count_set (is_on_its_way {C = C}) s.phases seat x y is, o.on_the_way, long);
          ticket_order = map_snoc (λ (v : Entry C R). (v.seat, v.call)) s.history e
              ∙ (ap (λ l. l ++ (seat, call) ∷ []) o.ticket_order
              ∙ sym (ap (λ n. take n ts) long
              ∙ take_next ts (length s.history) (seat, call) here));
          legal = legal-snoc after answer m s.history e o.legal
              (ap (λ v. answer v seat call) o.replayed);
          replayed = ap (λ v. after v seat call) o.replayed ∙ sym (replay-snoc after m s.history e);
          own_calls = λ j. o.own_calls j ∙ (elim (eqb_tells seat j) [
            | inl q ↦
                let was : begun (slice_get s.phases j) ≡ call ∷ [] =
                ap (λ i. begun (slice_get s.phases i)) (sym q.1) ∙ ap begun is in
                let now : begun (slice_get (set s.phases seat y) j) ≡ [] =
                ap (λ i. begun (slice_get (set s.phases seat y) i)) (sym q.1)
                ∙ ap begun (get_same s.phases seat x y is) in
                ap (λ l. calls_of (own j s.history) ++ l) was
                ∙ sym (ap (λ l. calls_of (own j (s.history ++ e ∷ [])) ++ l) now
                ∙ (append-nil (calls_of (own j (s.history ++ e ∷ [])))
                ∙ (own_calls_snoc j s.history e
                ∙ ap (λ b. calls_of (own j s.history) ++ cond b (call ∷ []) []) q.0)))
            | inr q ↦
                let same : slice_get (set s.phases seat y) j ≡ slice_get s.phases j =
                get_other s.phases seat j y (λ z. q.1 (sym z)) in
                sym (ap (λ p. calls_of (own j (s.history ++ e ∷ [])) ++ begun p) same
                ∙ ap (λ l. l ++ begun (slice_get s.phases j)) (own_calls_snoc j s.history e
                ∙ (ap (λ b. calls_of (own j s.history) ++ cond b (call ∷ []) []) q.0
                ∙ append-nil (calls_of (own j s.history)))))
          ]);
        };
        tickets = phase_set s.phases seat x y
            (HasTicket ts s.serving (length (s.history ++ e ∷ []))) is
            (omega (arith, mine.0, long), (call, mine.1))
            (λ j ne z get. ticket_applied ts s.serving (length s.history)
            (length (s.history ++ e ∷ [])) j seat call z ne mine.0 long mine.1
            (inv.tickets j z get));
      }

  leave_keeps : (ts : List (ℕ × C)) (s : CoreState M C R) (seat : ℕ)
      → slice_get s.phases seat ≡ Some Done → Inv ts s
      → Inv ts (record s { serving = s.serving + 1; phases = set s.phases seat Idle })
  leave_keeps ts s seat is inv =
      let o = inv.is_one in
      let x : Phase C = Done in
      let y : Phase C = Idle in
      let mine = inv.tickets seat x is in
      let ticket = mine.1 in
      record {
        is_one = record {
          one_in_lock =
              omega (arith, count_set (is_in_lock {C = C}) s.phases seat x y is, o.one_in_lock);
          next = o.next;
          entries = omega (arith, count_set (has_called {C = C}) s.phases seat x y is, o.entries);
          on_the_way = omega
              (arith, count_set (is_on_its_way {C = C}) s.phases seat x y is, o.on_the_way);
          ticket_order = o.ticket_order;
          legal = o.legal;
          replayed = o.replayed;
          own_calls = λ j. o.own_calls j
              ∙ ap (λ l. calls_of (own j s.history) ++ l) (same_begun ts s seat x y is refl j);
        };
        tickets = phase_set s.phases seat x y (HasTicket ts (s.serving + 1) (length s.history)) is
            tt
            (λ j ne z get. ticket_left ts s.serving (length s.history) j seat ticket.0 z ne ticket.1
            (inv.tickets j z get));
      }

  idle_is : (p : Option (Phase C)) → is_idle p ≡ true → p ≡ Some Idle
  idle_is (Some Idle) on = refl
  idle_is _ on = absurd (cc on)

  done_is : (p : Option (Phase C)) → is_done p ≡ true → p ≡ Some Done
  done_is (Some Done) on = refl
  done_is _ on = absurd (cc on)

  take_step : (ts : List (ℕ × C)) (s : CoreState M C R) (seat : ℕ) (call : C) → Inv ts s
      → (b : Bool) → is_idle (slice_get s.phases seat) ≡ b
      → Inv (ts ++ cond b ((seat, call) ∷ []) [])
      (cond b (record s { next = s.next + 1; phases = set s.phases seat (Waiting s.next call) })
      s)
  take_step ts s seat call inv true e =
      take_keeps ts s seat call (idle_is (slice_get s.phases seat) e) inv
  take_step ts s seat call inv false e = subst (λ us. Inv us s) (sym (append-nil ts)) inv

  leave_step : (ts : List (ℕ × C)) (s : CoreState M C R) (seat : ℕ) → Inv ts s → (b : Bool)
      → is_done (slice_get s.phases seat) ≡ b
      → Inv ts (cond b (record s { serving = s.serving + 1; phases = set s.phases seat Idle }) s)
  leave_step ts s seat inv true e = leave_keeps ts s seat (done_is (slice_get s.phases seat) e) inv
  leave_step ts s seat inv false e = inv

  enter_found : (ts : List (ℕ × C)) (s : CoreState M C R) (seat k : ℕ) (call : C) → Inv ts s
      → slice_get s.phases seat ≡ Some (Waiting k call) →
      (b : Bool) → eqb k s.serving ≡ b
      → Inv ts (cond b (record s { phases = set s.phases seat (Inside call) }) s)
  enter_found ts s seat k call inv is true e =
      enter_keeps ts s seat call (is ∙ ap (λ n. Some (Waiting n call)) (eqb-true k s.serving e)) inv
  enter_found ts s seat k call inv is false e = inv

  enter_step : (ts : List (ℕ × C)) (s : CoreState M C R) (seat : ℕ) → Inv ts s
      → (p : Option (Phase C)) → slice_get s.phases seat ≡ p →
      Inv ts (entered s seat p)
  enter_step ts s seat inv (Some (Waiting k call)) is =
      enter_found ts s seat k call inv is (eqb k s.serving) refl
  enter_step ts s seat inv _ is = inv

  apply_step : (ts : List (ℕ × C)) (s : CoreState M C R) (seat : ℕ) → Inv ts s
      → (p : Option (Phase C)) → slice_get s.phases seat ≡ p →
      Inv ts (applied after answer s seat p)
  apply_step ts s seat inv (Some (Inside call)) is = apply_keeps ts s seat call is inv
  apply_step ts s seat inv _ is = inv

  runs : (events : List (CoreEvent C)) (ts : List (ℕ × C)) (s : CoreState M C R) → Inv ts s →
      Inv (ts ++ takes after answer s events) (run after answer s events)
  runs [] ts s inv = subst (λ us. Inv us s) (sym (append-nil ts)) inv
  runs (Take seat call ∷ es) ts s inv =
      let b = is_idle (slice_get s.phases seat) in
      let s' = happens after answer s (Take seat call) in
      subst (λ us. Inv us (run after answer s' es))
      (append_assoc ts (cond b ((seat, call) ∷ []) []) (takes after answer s' es))
      (runs es (ts ++ cond b ((seat, call) ∷ []) []) s' (take_step ts s seat call inv b refl))
  runs (Enter seat ∷ es) ts s inv =
      runs es ts (happens after answer s (Enter seat))
      (enter_step ts s seat inv (slice_get s.phases seat) refl)
  runs (Apply seat ∷ es) ts s inv =
      runs es ts (happens after answer s (Apply seat))
      (apply_step ts s seat inv (slice_get s.phases seat) refl)
  runs (Leave seat ∷ es) ts s inv =
      runs es ts (happens after answer s (Leave seat))
      (leave_step ts s seat inv (is_done (slice_get s.phases seat)) refl)

  pub every_schedule_is_one_thread : (seats : ℕ) (events : List (CoreEvent C)) →
      IsOneThread after answer m (takes after answer (start seats m) events)
      (run after answer (start seats m) events)
  every_schedule_is_one_thread seats events =
      let inv = runs events [] (start seats m) (starts seats) in inv.is_one
