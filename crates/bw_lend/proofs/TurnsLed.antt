-- Each turn is one event of the crowd, and so is each list of turns.
use Rattle.std.proofs.Common.{◌≡◌, ℕ, suc, ◌+◌, ◌-◌, ◌*◌, ◌<◌, ◌≤◌, List, [], ◌∷◌, map, length}
use Rattle.std.proofs.Common.{refl, sym, ap, ◌∙◌, subst, arith, inl, inr, ⊎_elim}
use Rattle.bw_lend.specs.Crowd.{Crowd, Event, happens, start, run}
use Rattle.bw_lend.specs.CrowdLaws.{seat_of}
use Rattle.bw_lend.specs.CrowdRounds.{MakesOne, AreRounds, run_rounds}
use Rattle.bw_lend.specs.Turns.{Hall, Turn, LooksAhead, LendsItself, StoresHint, Reads, Looks}
use Rattle.bw_lend.specs.Turns.{TakesBack, Sleeps, Peeks, ClaimsToHelp}
use Rattle.bw_lend.specs.Turns.{ClaimsToReturn, Gives, GivesLast, Returns, RousesFirst, Rouses}
use Rattle.bw_lend.specs.Turns.{Makes, opened, IsTurn, Leads, maker, MakesTurn, LeadsInRounds}
use Rattle.bw_lend.specs.Turns.{TurnsAreEvents, TurnsLeaveDrawnTickets}
use Rattle.bw_lend.proofs.CrowdRises.{drawn_tickets_are_left}
use Rattle.bw_lend.proofs.Turned.{Meets, Goes, at_start}
use Rattle.bw_lend.proofs.TurnsRun.{makes, reads, looks, takes_back, sleeps}
use Rattle.bw_lend.proofs.TurnsLeave.{looks_ahead, lends_itself, stores_hint}
use Rattle.bw_lend.proofs.TurnsLeave.{peeks, claims_to_help, claims_to_return, gives, gives_last}
use Rattle.bw_lend.proofs.TurnsLeave.{returns, rouses_first, rouses}

pub one_turn : (h k : Hall) → Meets h → (t : Turn) → IsTurn t h k → Goes h k (maker t)
one_turn h k m (LooksAhead i) turn = looks_ahead h m i k turn
one_turn h k m (LendsItself i) turn = lends_itself h m i k turn
one_turn h k m (StoresHint i) turn = stores_hint h m i k turn
one_turn h k m (Reads i) turn = reads h m i k turn
one_turn h k m (Looks i) turn = looks h m i k turn
one_turn h k m (TakesBack i) turn = takes_back h m i k turn
one_turn h k m (Sleeps i) turn = sleeps h m i k turn
one_turn h k m (Peeks i) turn = peeks h m i k turn
one_turn h k m (ClaimsToHelp i) turn = claims_to_help h m i k turn
one_turn h k m (ClaimsToReturn i) turn = claims_to_return h m i k turn
one_turn h k m (Gives i) turn = gives h m i k turn
one_turn h k m (GivesLast i) turn = gives_last h m i k turn
one_turn h k m (Returns i) turn = returns h m i k turn
one_turn h k m (RousesFirst i) turn = rouses_first h m i k turn
one_turn h k m (Rouses i) turn = rouses h m i k turn
one_turn h k m (Makes e) turn = makes h k m e turn.1

-- the events of a list of turns
abbrev Led : Hall → List Turn → Hall → Type 0
Led h turns k = (events : List Event) × (map seat_of events ≡ map maker turns)
    × (run h.crowd events ≡ k.crowd) × Meets k
    × ((i : ℕ) → MakesTurn i turns → MakesOne i h.crowd events)

led : (h k : Hall) (turns : List Turn) → Meets h → Leads h turns k → Led h turns k
led h k [] m is = (
  [],
  refl,
  ap (λ (x : Hall). x.crowd) (sym is),
  subst Meets (sym is) m,
  λ i none. absurd none,
)
led h k (t ∷ ts) m l =
    let a = one_turn h l.0 m t l.1 in
    let b = led l.0 k ts a.4 l.2 in
    let to : l.0.crowd ≡ happens h.crowd a.0 = a.3 in (
      a.0 ∷ b.0,
      ap (λ (x : ℕ). x ∷ map seat_of b.0) a.1 ∙ ap (λ (xs : List ℕ). maker t ∷ xs) b.1,
      ap (λ (c : Crowd). run c b.0) (sym to) ∙ b.2,
      b.3,
      λ i made. ⊎_elim (λ (own : maker t ≡ i). inl (a.1 ∙ own, a.2))
          (λ (later : MakesTurn i ts).
          inr (subst (λ (c : Crowd). MakesOne i c b.0) to (b.4 i later))) made,
    )

pub turns_are_events : TurnsAreEvents
turns_are_events seats words turns h le leads =
    let a = led (opened seats words) h turns (at_start seats words le) leads in (a.0, a.1, a.2)

led_in_rounds : (h k : Hall) (rounds : List (List Turn)) → Meets h → LeadsInRounds h rounds k
    → (lists : List (List Event)) × (length lists ≡ length rounds) × AreRounds h.crowd lists
    × (run_rounds h.crowd lists ≡ k.crowd)
led_in_rounds h k [] m is = ([], refl, tt, ap (λ (x : Hall). x.crowd) (sym is))
led_in_rounds h k (r ∷ rs) m l =
    let a = led h l.0 r m l.1 in
    let b = led_in_rounds l.0 k rs a.3 l.3 in (
      a.0 ∷ b.0,
      ap suc b.1,
      (
        λ i up. a.4 i (l.2 i up),
        subst (λ (c : Crowd). AreRounds c b.0) (sym a.2) b.2,
      ),
      ap (λ (c : Crowd). run_rounds c b.0) a.2 ∙ b.3,
    )

pub turns_leave_drawn_tickets : TurnsLeaveDrawnTickets
turns_leave_drawn_tickets seats words turns rounds h k ticket le leads lt many in_rounds =
    let a = led (opened seats words) h turns (at_start seats words le) leads in
    let b = led_in_rounds h k rounds a.3 in_rounds in
    let s : Crowd = run (start seats words) a.0 in
    let same : s ≡ h.crowd = a.2 in
    let long = b.1 in
    subst (λ (c : Crowd). ticket < c.serving)
    (ap (λ (c : Crowd). run_rounds c b.0) same ∙ b.3)
    (drawn_tickets_are_left seats words a.0 b.0 ticket le
    (subst (λ (c : Crowd). ticket < c.next) (sym same) lt)
    (subst (λ (c : Crowd). 17 * (ticket + 1 - c.serving) ≤ length b.0) (sym same) (omega arith))
    (subst (λ (c : Crowd). AreRounds c b.0) (sym same) b.2))
