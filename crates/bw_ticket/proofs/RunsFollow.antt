-- Every list of turns of an opened lock is a run of the waiting protocol. It is an induction on
-- the turns.
use Rattle.std.proofs.Common.{◌≡◌, ℕ, zero, suc, ◌+◌, ◌*◌, ◌^◌, ◌<◌, ◌≤◌, List, [], ◌∷◌, ◌++◌, map}
use Rattle.std.proofs.Common.{replicate, refl, sym, ap, ◌∙◌, subst, arith, slice_index, slice_get}
use Rattle.std.proofs.Common.{◌-◌, true, length, inl, inr, ⊎_elim, Some}
use Rattle.std.proofs.Common.{suc-mul}
use Rattle.bw_wake.specs.declared.seats.Phase.{Phase as WaitPhase}
use Rattle.bw_wake.specs.declared.seats.Phase.TheVariants.{Idle as PIdle}
use Rattle.bw_wake.specs.declared.seats.Event.{Event}
use Rattle.bw_wake.specs.Protocol.{WaitState, happens, start, run}
use Rattle.bw_wake.specs.Progress.{is_still}
use Rattle.bw_wake.specs.Raises.{CanRaise}
use Rattle.bw_wake.specs.Rounds.{MakesOne, IsRound, AreRounds, run_rounds}
use Rattle.bw_wake.proofs.CallerLemmas.{Sound, wake_under_way, goes_on, not_stuck, happens_sound}
use Rattle.bw_wake.proofs.CallerLemmas.{start_sound, seven_events_raise_serving}
use Rattle.bw_wake.proofs.CallerLemmas.{drawn_tickets_are_served}
use Rattle.bw_ticket.specs.declared.limits.TheConstants.{MAX_SEATS, MAX_CALLS}
use Rattle.bw_ticket.specs.Rule.{views_from}
use Rattle.bw_ticket.specs.UnderWay.{SleepersAreSeen, NoWakeIsLostIn, state_with}
use Rattle.bw_ticket.specs.Turns.{Turn, Hall, seated, where_is, state_of, opened, Leads}
use Rattle.bw_ticket.specs.Turns.{Sitter, RunsFollowTheProtocol, maker, brings_on, MakesTurn}
use Rattle.bw_ticket.specs.Turns.{IsRoundOfTurns, LeadsInRounds, RunsServeDrawnTickets}
use Rattle.bw_ticket.specs.Turns.Doing.{IsUp}
use Rattle.bw_ticket.proofs.Allowed.{few_calls}
use Rattle.bw_ticket.proofs.Meets.{Meets, left_in}
use Rattle.bw_ticket.proofs.TurnsFollow.{one_turn}

run-append : (s : WaitState) (es fs : List Event) → run s (es ++ fs) ≡ run (run s es) fs
run-append s [] fs = refl
run-append s (e ∷ es) fs = run-append (happens s e) es fs

makes_first : (i : ℕ) (s : WaitState) (es fs : List Event) → MakesOne i s es
    → MakesOne i s (es ++ fs)
makes_first i s [] fs h = absurd h
makes_first i s (e ∷ es) fs (inl own) = inl own
makes_first i s (e ∷ es) fs (inr h) = inr (makes_first i (happens s e) es fs h)

makes_later : (i : ℕ) (s : WaitState) (es fs : List Event) → MakesOne i (run s es) fs
    → MakesOne i s (es ++ fs)
makes_later i s [] fs h = h
makes_later i s (e ∷ es) fs h = inr (makes_later i (happens s e) es fs h)

-- the events of a list of turns: a seat that makes a turn which brings it on makes an event
abbrev Led : {M C R : Type 0} → ℕ → Hall M C R → List Turn → WaitState → Type 0
Led total k turns s = (events : List Event) × Meets total k (run s events)
    × ((i : ℕ) → MakesTurn i turns → MakesOne i s events)

led : {M C R : Type 0} (total : ℕ) (h k : Hall M C R) (turns : List Turn) (s : WaitState)
    → Meets total h s → Leads h turns k → Led total k turns s
led total h k [] s m is = ([], subst (λ x. Meets total x s) (sym is) m, λ i h. absurd h)
led total h k (t ∷ ts) s m l = let a = one_turn total h l.0 s m t l.1 in
    let b = led total l.0 k ts (run s a.0) a.1 l.2 in (
      a.0 ++ b.0,
      subst (Meets total k) (sym (run-append s a.0 b.0)) b.1,
      λ i made. ⊎_elim
          (λ (own : (maker t ≡ i) × (brings_on t ≡ true)). makes_first i s a.0 b.0
          (subst (λ (x : ℕ). MakesOne x s a.0) own.0 (a.2 own.1)))
          (λ (later : MakesTurn i ts). makes_later i s a.0 b.0 (b.2 i later)) made,
    )

seat_there : {M C R : Type 0} (xs : List (Sitter M C R)) (i : ℕ) (p : WaitPhase)
    → slice_get (map where_is xs) i ≡ Some p
    → (x : Sitter M C R) × (slice_get xs i ≡ Some x) × (where_is x ≡ p)
seat_there [] i p e = absurd (cc e)
seat_there (x ∷ xs) zero p e = (x, refl, cc e)
seat_there (x ∷ xs) (suc i) p e = seat_there xs i p e

-- a round of turns is one of events
round_of : {M C R : Type 0} (total : ℕ) (h : Hall M C R) (turns : List Turn) (s : WaitState)
    (events : List Event) → Meets total h s → IsRoundOfTurns h turns
    → ((i : ℕ) → MakesTurn i turns → MakesOne i s events) → IsRound s events
round_of total h turns s events m round makes i p at up =
    let w = seat_there h.seats i p (ap (λ ps. slice_get ps i) (sym m.phases) ∙ at) in
    makes i (round i w.0 w.1 (ap is_still w.2 ∙ up))

led_in_rounds : {M C R : Type 0} (total : ℕ) (h k : Hall M C R) (rounds : List (List Turn))
    (s : WaitState) → Meets total h s → LeadsInRounds h rounds k
    → (lists : List (List Event)) × (length lists ≡ length rounds) × AreRounds s lists
    × Meets total k (run_rounds s lists)
led_in_rounds total h k [] s m is = ([], refl, tt, subst (λ x. Meets total x s) (sym is) m)
led_in_rounds total h k (r ∷ rs) s m l =
    let a = led total h l.0 r s m l.1 in
    let b = led_in_rounds total l.0 k rs (run s a.0) a.1 l.3 in (
      a.0 ∷ b.0,
      ap suc b.1,
      (round_of total h r s a.0 m l.2 a.2, b.2),
      b.3,
    )

-- the seats that `open` hands out
all_idle : (M C R : Type 0) (from n calls : ℕ) → replicate n PIdle
    ≡ map where_is (map (seated IsUp) (views_from {M = M} {C = C} {R = R} from n calls))
all_idle M C R from zero calls = refl
all_idle M C R from (suc n) calls =
    ap (λ ps. PIdle ∷ ps) (all_idle M C R (from + 1) n calls)

all_left : (M C R : Type 0) (from n calls : ℕ)
    → left_in (map (seated IsUp) (views_from {M = M} {C = C} {R = R} from n calls)) ≡ n * calls
all_left M C R from zero calls = omega arith
all_left M C R from (suc n) calls = let h = all_left M C R (from + 1) n calls in
    omega (arith, suc-mul n calls)

zeros_below : (n x : ℕ) → slice_index (replicate {A = ℕ} n 0) x < 2 ^ 32
zeros_below zero x = omega arith
zeros_below (suc n) zero = omega arith
zeros_below (suc n) (suc x) = zeros_below n x

words_below : (n x : ℕ) → slice_index (0 ∷ 0 ∷ replicate {A = ℕ} n 0) x < 2 ^ 32
words_below n zero = omega arith
words_below n (suc zero) = omega arith
words_below n (suc (suc x)) = zeros_below n x

at_start : (M C R : Type 0) (seats calls : ℕ) → seats ≤ MAX_SEATS → calls ≤ MAX_CALLS
    → Meets {M = M} {C = C} {R = R} (seats * calls) (opened seats calls) (start seats MAX_SEATS)
at_start M C R seats calls le few = record {
  words = refl;
  phases = all_idle M C R 0 seats calls;
  sound = start_sound seats MAX_SEATS le;
  long = refl;
  left = let h = all_left M C R 0 seats calls in omega arith;
  fits = words_below MAX_SEATS;
  bound = let h = few_calls seats calls le few in omega arith;
}

not_lost : (s : WaitState) → Sound s → NoWakeIsLostIn s
not_lost s r = record {
  under_way = wake_under_way s r;
  goes_on = goes_on s r;
  not_stuck = not_stuck s r;
  still_seen = λ e. (happens_sound s e r).mark_or_wake;
}

pub runs_serve : (M C R : Type 0) → RunsServeDrawnTickets M C R
runs_serve M C R seats calls turns rounds h k ticket le few leads lt many in_rounds =
    let from : WaitState = start seats MAX_SEATS in
    let got = led (seats * calls) (opened seats calls) h turns from
    (at_start M C R seats calls le few) leads in
    let s : WaitState = run from got.0 in let m = got.1 in
    let on = led_in_rounds (seats * calls) h k rounds s m in_rounds in
    let next : s.next ≡ slice_index h.words 0 = ap (λ ws. slice_index ws 0) m.words in
    let serving : s.serving ≡ slice_index h.words 1 = ap (λ ws. slice_index ws 1) m.words in
    let long = on.1 in
    let end : (run_rounds s on.0).serving ≡ slice_index k.words 1 =
    ap (λ ws. slice_index ws 1) on.3.words in
    let served = drawn_tickets_are_served seats MAX_SEATS got.0 on.0 ticket le (omega arith)
    (subst (λ (x : ℕ). 8 * (ticket + 1 - x) ≤ length on.0) (sym serving) (omega arith)) on.2 in
    omega arith

pub runs_follow : (M C R : Type 0) → RunsFollowTheProtocol M C R
runs_follow M C R seats calls turns h le few leads =
    let from : WaitState = start seats MAX_SEATS in
    let got = led (seats * calls) (opened seats calls) h turns from
    (at_start M C R seats calls le few) leads in
    let s : WaitState = run from got.0 in
    let m = got.1 in
    let is : s ≡ state_of h = λ j. state_with (m.words j) (m.phases j) in
    record {
      events = got.0;
      is_run = is;
      seen = subst SleepersAreSeen is m.sound.mark_or_wake;
      not_lost = subst NoWakeIsLostIn is (not_lost s m.sound);
      raises = subst (λ (x : WaitState). x.serving < x.next → CanRaise 7 x) is
          (seven_events_raise_serving seats MAX_SEATS got.0 le);
    }
