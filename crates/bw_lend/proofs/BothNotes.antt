-- A seat that has noted its call serves next, and no other thread changes that.
use Rattle.std.proofs.Common.{◌≡◌, ◌≢◌, ℕ, ◌+◌, ◌<◌, ◌⊎◌, Bool, true, false, List, []}
use Rattle.std.proofs.Common.{Option, Some, None, refl, sym, ap, ◌∙◌, subst, arith, inl, inr}
use Rattle.std.proofs.Common.{slice_get, slice_set}
use mathlib.Core.Logic.{dite}
use native.Mathlib.Decide.{ℕ_discrete}
use Rattle.bw_machine.proofs.CallerLemmas.{first_is, get_same, get_other}
use Rattle.bw_ticket.specs.declared.board.SeatView.{SeatView}
use Rattle.bw_ticket.specs.declared.board.Phase.{Phase as ViewPhase}
use Rattle.bw_ticket.specs.declared.board.Phase.TheVariants.{Inside as InsideIt, Done as DoneIt}
use Rattle.bw_ticket.specs.declared.board.Phase.TheVariants.{Idle, Served, Owes}
use Rattle.bw_ticket.specs.Rule.{waits, ticket_of}
use Rattle.bw_ticket.specs.Plays.{recorded, recorded_by}
use Rattle.bw_ticket.specs.Turns.{Hall as LockHall, Turn as LockTurn, IsTurn as IsLockTurn}
use Rattle.bw_ticket.specs.Turns.{Sitter, Doing, seated, maker as lock_seat}
use Rattle.bw_ticket.specs.Turns.Turn.{Draws, Looks as LooksIn, LooksAgain, Marks, MarksAgain}
use Rattle.bw_ticket.specs.Turns.Turn.{Records, Serves, PeeksNext, PeeksWord, TakesMark, Fronts}
use Rattle.bw_ticket.specs.Turns.Turn.{Sleeps as SleepsIn, SleepsInVain, Returns as ReturnsIn}
use Rattle.bw_ticket.specs.Turns.Turn.{Rings, RingsNobody, NotesWake}
use Rattle.bw_ticket.specs.Turns.Doing.{IsUp}
use Rattle.bw_lend.specs.Crowd.{or_same}
use Rattle.bw_lend.specs.BothTables.{Both, BothTurn, OnPlaces, OnLock, Calls, Ends, Glances}
use Rattle.bw_lend.specs.BothTables.{WakesUp, IsBothTurn, MayMake, made, event_of, thread_of}
use Rattle.bw_lend.specs.BothTables.{is_access, is_event}
use Rattle.bw_lend.proofs.CrowdKept.{put_else}
use Rattle.bw_lend.proofs.BothHeld.{IsInside, Agrees, Joined, agrees_at}
use Rattle.bw_lend.proofs.BothRuns.{leaves, is_never, never, no_glance}

module _ {M C R : Type 0} where
  -- the thread i is in a call with the seat j, which has noted its call
  abbrev pub IsNoted : Both M C R → ℕ → ℕ → Type 0
  IsNoted b i j = (p : SeatView M C R) × (t : ℕ) × (b.call i ≡ Some j)
      × (slice_get b.lock.seats j ≡ Some (seated IsUp p)) × (p.phase ≡ DoneIt t)

  kept : (l k : LockHall M C R) (j i : ℕ) (x : Sitter M C R) → j ≢ i
      → k.seats ≡ slice_set l.seats i x → slice_get k.seats j ≡ slice_get l.seats j
  kept l k j i x ne is = ap (λ (xs : List (Sitter M C R)). slice_get xs j) is
      ∙ get_other l.seats i j x ne

  abbrev phase_or : ViewPhase M C R → Option (Sitter M C R) → ViewPhase M C R
  phase_or f (Some x) = x.view.phase
  phase_or f None = f

module _ {M C R : Type 0} (b c : Both M C R) (m : Joined b) where
  -- a turn of another seat leaves this one as it was
  other_seat : (k : ℕ) (u : LockTurn) (j : ℕ) → is_never b c m k u ≡ false
      → IsLockTurn u b.lock c.lock → j ≢ lock_seat u
      → slice_get c.lock.seats j ≡ slice_get b.lock.seats j
  other_seat k (Draws i) j n turn ne =
      kept b.lock c.lock j i (seated IsUp turn.1) ne (ap (λ (y : LockHall M C R). y.seats) turn.6)
  other_seat k (LooksIn i) j n turn ne =
      kept b.lock c.lock j i (seated IsUp turn.1) ne (ap (λ (y : LockHall M C R). y.seats) turn.6)
  other_seat k (Records i) j n turn ne =
      kept b.lock c.lock j i (seated IsUp turn.1) ne (ap (λ (y : LockHall M C R). y.seats) turn.6)
  other_seat k (Serves i) j n turn ne =
      kept b.lock c.lock j i (seated IsUp turn.1) ne (ap (λ (y : LockHall M C R). y.seats) turn.6)
  other_seat k (PeeksNext i) j n turn ne = let st = turn.1 in
      kept b.lock c.lock j i (seated IsUp st.1) ne (ap (λ (y : LockHall M C R). y.seats) st.6)
  other_seat k (PeeksWord i) j n turn ne = let st = turn.1 in
      kept b.lock c.lock j i (seated IsUp st.1) ne (ap (λ (y : LockHall M C R). y.seats) st.6)
  other_seat k (Fronts i) j n turn ne = let st = turn.1 in
      kept b.lock c.lock j i (seated turn.0 st.1) ne (ap (λ (y : LockHall M C R). y.seats) st.6)
  other_seat k _ j n turn ne = absurd (cc n)

  -- the seat of another thread's turn is another one
  another : (k i j : ℕ) (u : LockTurn) → is_never b c m k u ≡ false → MayMake b k u → k ≢ i
      → b.call i ≡ Some j → j ≢ lock_seat u
  another k i j (Draws x) n may ne at = λ e. may.1 i (at ∙ ap Some e)
  another k i j (LooksIn x) n may ne at = λ e. ne (m.apart k i j (may ∙ ap Some (sym e)) at)
  another k i j (Records x) n may ne at = λ e. ne (m.apart k i j (may ∙ ap Some (sym e)) at)
  another k i j (Serves x) n may ne at = λ e. ne (m.apart k i j (may ∙ ap Some (sym e)) at)
  another k i j (PeeksNext x) n may ne at = λ e. ne (m.apart k i j (may ∙ ap Some (sym e)) at)
  another k i j (PeeksWord x) n may ne at = λ e. ne (m.apart k i j (may ∙ ap Some (sym e)) at)
  another k i j (Fronts x) n may ne at = λ e. may.1 i (at ∙ ap Some e)
  another k i j _ n may ne at = absurd (cc n)

  module _ (i j : ℕ) (at : IsNoted b i j) where
    -- the seat of the thread's call has noted it
    its_phase : (x : ℕ) (q : SeatView M C R) (d : Doing) → b.call i ≡ Some x
        → slice_get b.lock.seats x ≡ Some (seated d q) → q.phase ≡ DoneIt at.1
    its_phase x q d is there = let same : Some x ≡ Some j = sym is ∙ at.2 in
        let one : x ≡ j = cc same in
        ap (phase_or q.phase) (sym there ∙ (ap (slice_get b.lock.seats) one ∙ at.3)) ∙ at.4

    pub its_place : IsInside (b.hall.crowd.phase i) at.1
    its_place = subst (λ (f : ViewPhase M C R). Agrees (b.hall.crowd.phase i) f (b.looked i)) at.4
        (agrees_at b m i j at.0 IsUp at.2 at.3)

    nobody : b.call i ≡ None → ⊥
    nobody is = let e : None ≡ Some j = sym is ∙ at.2 in cc e

    -- its turn on the lock's table is to serve the next ticket
    then_serves : (u : LockTurn) → is_never b c m i u ≡ false → IsLockTurn u b.lock c.lock
        → MayMake b i u → b.hall.crowd.serving < (made b.hall (event_of i u)).crowd.serving
    then_serves (Draws x) n turn may = absurd (nobody may.0)
    then_serves (Fronts x) n turn may = absurd (nobody may.0)
    then_serves (LooksIn x) n turn may =
        let e = its_phase x turn.0 IsUp may turn.4 in
        let one : waits (ticket_of turn.0.phase) turn.0.phase ≡ 1 = turn.5.2.0 in
        let none_now : waits (ticket_of turn.0.phase) turn.0.phase ≡ 0 =
        ap (λ (f : ViewPhase M C R). waits (ticket_of f) f) e in absurd (omega arith)
    then_serves (Records x) n turn may =
        let by = turn.5.1.1.0 in
        let e : InsideIt (ticket_of turn.0.phase) by.0 ≡ DoneIt at.1 =
        sym by.1 ∙ its_phase x turn.0 IsUp may turn.4 in absurd (let bad : ⊥ = cc e in bad)
    then_serves (Serves x) n turn may =
        let s = b.hall.crowd in
        let is = leaves s m.meets.sound i at.1 its_place in
        let raised : (made b.hall (event_of i (Serves x))).crowd.serving ≡ s.serving + 1 =
        ap (λ o. (or_same s o).serving) is.1 in omega arith
    then_serves (PeeksNext x) n turn may = let st = turn.1 in
        let e : Served (ticket_of st.0.phase) ≡ DoneIt at.1 =
        sym st.5.2.0 ∙ its_phase x st.0 IsUp may st.4 in absurd (let bad : ⊥ = cc e in bad)
    then_serves (PeeksWord x) n turn may = let st = turn.1 in let by = st.5.2.0 in
        let e : Owes (ticket_of st.0.phase) by.0 ≡ DoneIt at.1 =
        sym by.1 ∙ its_phase x st.0 IsUp may st.4 in absurd (let bad : ⊥ = cc e in bad)
    then_serves _ n turn may = absurd (cc n)

    -- the lock is as before, and so is the call
    as_before : c.call i ≡ b.call i → c.lock ≡ b.lock → IsNoted c i j
    as_before call lock = (
      at.0,
      at.1,
      call ∙ at.2,
      ap (λ (l : LockHall M C R). slice_get l.seats j) lock ∙ at.3,
      at.4,
    )

    abbrev Onward : BothTurn → Type 0
    Onward t = (b.hall.crowd.serving < c.hall.crowd.serving)
        ⊎ (IsNoted c i j × (thread_of t ≡ i → is_access t ≡ true → ⊥))

    on_lock_of : (k : ℕ) (u : LockTurn) (never_is : Bool) → is_never b c m k u ≡ never_is
        → IsBothTurn (OnLock k u) b c → Onward (OnLock k u)
    on_lock_of k u true n turn = absurd (never b c m k u n turn.0 turn.1)
    on_lock_of k u false n turn = dite (ℕ_discrete k i)
        (λ (e : k ≡ i). inl (subst (λ x. b.hall.crowd.serving < x)
        (sym (ap (λ (z : Both M C R). z.hall.crowd.serving) turn.2
        ∙ ap (λ x. (made b.hall (event_of x u)).crowd.serving) e))
        (then_serves u (sym (ap (λ x. is_never b c m x u) e) ∙ n) turn.0
        (subst (λ x. MayMake b x u) e turn.1))))
        (λ (ne : k ≢ i). inr (
          (
            at.0,
            at.1,
            ap (λ (z : Both M C R). z.call i) turn.2 ∙ at.2,
            other_seat k u j n turn.0 (another k i j u n turn.1 ne at.2) ∙ at.3,
            at.4,
          ),
          λ mine is. ne mine,
        ))

    pub goes_on : (t : BothTurn) → IsBothTurn t b c → Onward t
    goes_on (OnPlaces t) turn = inr (
      as_before (ap (λ (z : Both M C R). z.call i) turn.3) (ap (λ (z : Both M C R). z.lock) turn.3),
      λ mine is. nobody (sym (ap b.call mine) ∙ turn.2),
    )
    goes_on (OnLock k u) turn = on_lock_of k u (is_never b c m k u) refl turn
    goes_on (Calls k x) turn = inr (
      as_before (ap (λ (z : Both M C R). z.call i) turn.5
          ∙ put_else b.call k i (Some x)
          (λ e. nobody (ap b.call e ∙ turn.1)))
          (ap (λ (z : Both M C R). z.lock) turn.5),
      λ mine is. absurd (cc is),
    )
    goes_on (Ends k) turn = inr (
      as_before (ap (λ (z : Both M C R). z.call i) turn.3
          ∙ put_else b.call k i None (λ e.
          let idle : Idle ≡ DoneIt at.1 = sym turn.2.2
          ∙ its_phase turn.0 turn.2.0 IsUp (ap b.call e ∙ turn.1) turn.2.1 in
          let bad : ⊥ = cc idle in bad))
          (ap (λ (z : Both M C R). z.lock) turn.3),
      λ mine is. absurd (cc is),
    )
    goes_on (Glances k) turn = absurd (no_glance b c m k turn)
    goes_on (WakesUp k) turn = inr (
      as_before (ap (λ (z : Both M C R). z.call i) turn.2) (ap (λ (z : Both M C R). z.lock) turn.2),
      λ mine is. absurd (cc is),
    )

  -- a seat that makes the step record has noted its call
  noted_by : (i j : ℕ) → IsBothTurn (OnLock i (Records j)) b c → IsNoted c i j
  noted_by i j both =
      let turn = both.0 in
      let p = turn.0 in let q = turn.1 in let o = turn.2 in let d = turn.3 in
      let told = turn.5 in
      let q_by : q ≡ recorded_by o p = first_is q (recorded_by o p) d [] told.1.0 in
      let q_is : q ≡ recorded told.0.0 p = q_by ∙ ap (λ l. recorded_by l p) told.0.1 in (
        q,
        ticket_of p.phase,
        ap (λ (z : Both M C R). z.call i) both.2 ∙ both.1,
        ap (λ (y : LockHall M C R). slice_get y.seats j) turn.6
            ∙ get_same b.lock.seats j (seated IsUp p) (seated IsUp q) turn.4,
        ap (λ (v : SeatView M C R). v.phase) q_is,
      )

  -- an access is an event, or a seat has noted its call
  abbrev Accesses : BothTurn → Type 0
  Accesses t = (is_access t ≡ true → is_event t ≡ true) ⊎ ((i : ℕ) × (j : ℕ) × IsNoted c i j)

  lock_accesses : (i : ℕ) (u : LockTurn) → IsBothTurn (OnLock i u) b c → Accesses (OnLock i u)
  lock_accesses i (Draws j) turn = inl (λ h. refl)
  lock_accesses i (LooksIn j) turn = inl (λ h. refl)
  lock_accesses i (Records j) turn = inr (i, j, noted_by i j turn)
  lock_accesses i (Serves j) turn = inl (λ h. refl)
  lock_accesses i (PeeksNext j) turn = inl (λ h. refl)
  lock_accesses i (PeeksWord j) turn = inl (λ h. refl)
  lock_accesses i (Fronts j) turn = inl (λ h. absurd (cc h))
  lock_accesses i (LooksAgain j) turn = absurd (never b c m i (LooksAgain j) refl turn.0 turn.1)
  lock_accesses i (Marks j) turn = absurd (never b c m i (Marks j) refl turn.0 turn.1)
  lock_accesses i (MarksAgain j) turn = absurd (never b c m i (MarksAgain j) refl turn.0 turn.1)
  lock_accesses i (TakesMark j) turn = absurd (never b c m i (TakesMark j) refl turn.0 turn.1)
  lock_accesses i (SleepsIn j) turn = absurd (never b c m i (SleepsIn j) refl turn.0 turn.1)
  lock_accesses i (SleepsInVain j) turn =
      absurd (never b c m i (SleepsInVain j) refl turn.0 turn.1)
  lock_accesses i (ReturnsIn j) turn = absurd (never b c m i (ReturnsIn j) refl turn.0 turn.1)
  lock_accesses i (Rings j k) turn = absurd (never b c m i (Rings j k) refl turn.0 turn.1)
  lock_accesses i (RingsNobody j) turn = absurd (never b c m i (RingsNobody j) refl turn.0 turn.1)
  lock_accesses i (NotesWake j) turn = absurd (never b c m i (NotesWake j) refl turn.0 turn.1)

  pub accesses : (t : BothTurn) → IsBothTurn t b c → Accesses t
  accesses (OnPlaces t) turn = inl (λ h. refl)
  accesses (OnLock i u) turn = lock_accesses i u turn
  accesses (Calls i j) turn = inl (λ h. absurd (cc h))
  accesses (Ends i) turn = inl (λ h. absurd (cc h))
  accesses (Glances i) turn = absurd (no_glance b c m i turn)
  accesses (WakesUp i) turn = inl (λ h. absurd (cc h))
