-- Each turn of the lock is an event of the waiting protocol, or none.
use Rattle.std.proofs.Common.{◌≡◌, ◌≢◌, ℕ, zero, suc, ◌+◌, ◌-◌, ◌^◌, ◌%◌, ◌<◌, ◌==◌}
use Rattle.std.proofs.Common.{Bool, true, false, List, [], ◌∷◌, map, length, refl, sym, ap}
use Rattle.std.proofs.Common.{◌∙◌, subst, arith, slice_get, slice_set, slice_index, Some, None}
use Rattle.std.proofs.Common.{Option, if◌then◌else◌, eq-eqb, ne_eqb, ◌||◌, inl, inr}
use Rattle.std.specs.List.{list_any}
use mathlib.Core.Logic.{dite}
use native.Mathlib.Decide.{ℕ_discrete}
use prog.Atomic.{either}
use Rattle.bw_machine.proofs.CallerLemmas.{first_is, get_other, set_map}
use Rattle.bw_wake.specs.declared.seats.Phase.TheVariants.{Waiting as PWaiting, Looked as PLooked}
use Rattle.bw_wake.specs.declared.seats.Phase.TheVariants.{Asleep as PAsleep, Wakes as PWakes}
use Rattle.bw_wake.specs.declared.seats.Event.{Event}
use Rattle.bw_wake.specs.declared.seats.Event.TheVariants.{Take, Look, Mark, Park, SpuriousWake}
use Rattle.bw_wake.specs.declared.seats.Event.TheVariants.{Apply, Leave, PeekNext, PeekWord}
use Rattle.bw_wake.specs.declared.seats.Event.TheVariants.{TakeMark, Wake}
use Rattle.bw_wake.specs.Protocol.{WaitState, after, run, moved, word_of, mark_at}
use Rattle.bw_wake.specs.Protocol.{park_by, spurious_wake_by, wake_by, sleeps_on}
use Rattle.bw_wake.specs.Protocol.{one_less as one_less_in}
use Rattle.bw_wake.specs.Progress.{one_if}
use Rattle.bw_wake.specs.Rounds.{MakesOne}
use Rattle.bw_wake.proofs.CallerLemmas.{waits as waits_there, to_next}
use Rattle.bw_wake.proofs.CallerLemmas.{count_at, same_words, index_here, index_else}
use Rattle.bw_ticket.specs.declared.limits.TheConstants.{MAX_SEATS}
use Rattle.bw_ticket.specs.declared.board.SeatView.{SeatView}
use Rattle.bw_ticket.specs.declared.board.Phase.{Phase}
use Rattle.bw_ticket.specs.declared.board.Phase.TheVariants.{Idle, Waiting, Marked, Looked, Inside}
use Rattle.bw_ticket.specs.declared.board.Phase.TheVariants.{Done, Served, Owes, Found, Wakes}
use Rattle.bw_ticket.specs.Rule.{waits, wake_word, ticket_of}
use Rattle.bw_ticket.specs.Plays.{waiting, entered, recorded, recorded_by, missed, marked, saw_next}
use Rattle.bw_ticket.specs.Plays.{saw_word, took, woke, one_less, MayMark, goes, has_served, seeing}
use Rattle.bw_ticket.specs.Follows.{in_protocol, StepsAreEvents}
use Rattle.bw_ticket.specs.Turns.{Doing, Turn, Sitter, Hall, seated, phase_while, where_is}
use Rattle.bw_ticket.specs.Turns.{NobodySleepsOn, IsTurn, slept, maker, brings_on}
use Rattle.bw_ticket.specs.Turns.Turn.{Draws, Looks, Marks, Records, Serves, PeeksNext, PeeksWord}
use Rattle.bw_ticket.specs.Turns.Turn.{TakesMark, Fronts, Sleeps, Returns, Rings, RingsNobody}
use Rattle.bw_ticket.specs.Turns.Turn.{NotesWake, LooksAgain, MarksAgain, SleepsInVain}
use Rattle.bw_ticket.specs.Turns.Doing.{IsUp, Sleeping, HasSlept, HasRung}
use Rattle.bw_ticket.proofs.Followed.{steps_are_events, index_past, small}
use Rattle.bw_ticket.proofs.Meets.{either_below, left_in, left_set, left_at, Follows}
use Rattle.bw_ticket.proofs.Meets.{Goes, next_is, at_place, by_event_of, by_event, no_event}
use Rattle.bw_ticket.proofs.Meets.{by_sleep, Meets}

-- no seat that is up sleeps on a word, and none that sleeps on another word
module _ {M C R : Type 0} (n b : ℕ) where
  up_awake : (f : Phase M C R) → sleeps_on n b (in_protocol f) ≡ false
  up_awake Idle = refl
  up_awake (Waiting t) = refl
  up_awake (Marked t) = refl
  up_awake (Looked t) = refl
  up_awake (Inside t y) = refl
  up_awake (Done t) = refl
  up_awake (Served t) = refl
  up_awake (Owes t c) = refl
  up_awake (Found t c) = refl
  up_awake (Wakes t c) = refl

  not_there : (d : Doing) (f : Phase M C R)
      → (d ≡ Sleeping → (t : ℕ) → f ≡ Looked t → t % n ≢ b)
      → sleeps_on n b (phase_while d f) ≡ false
  not_there IsUp f h = up_awake f
  not_there Sleeping Idle h = refl
  not_there Sleeping (Waiting t) h = refl
  not_there Sleeping (Marked t) h = refl
  not_there Sleeping (Looked t) h = ne_eqb (t % n) b (h refl t refl)
  not_there Sleeping (Inside t y) h = refl
  not_there Sleeping (Done t) h = refl
  not_there Sleeping (Served t) h = refl
  not_there Sleeping (Owes t c) h = refl
  not_there Sleeping (Found t c) h = refl
  not_there Sleeping (Wakes t c) h = refl
  not_there HasSlept f h = up_awake (slept f)
  not_there HasRung f h = up_awake (woke f)

  none_sleeps : (xs : List (Sitter M C R))
      → ((j : ℕ) (p : SeatView M C R) (t : ℕ) → slice_get xs j ≡ Some (seated Sleeping p)
      → p.phase ≡ Looked t → t % n ≢ b)
      → list_any (sleeps_on n b) (map where_is xs) ≡ false
  none_sleeps [] h = refl
  none_sleeps (x ∷ xs) h =
      let here = not_there x.doing x.view.phase
      (λ d t is. h 0 x.view t (ap (λ z. Some (seated z x.view)) d) is) in
      let rest = none_sleeps xs (λ j p t at is. h (suc j) p t at is) in
      ap (λ c. c || list_any (sleeps_on n b) (map where_is xs)) here ∙ rest

whole_word : (n : ℕ) → n < 2 ^ 32 → n % 2 ^ 32 ≡ n
whole_word n h = grind arith

may_waits : {M C R : Type 0} (t : ℕ) (f : Phase M C R) → MayMark t f
    → waits_there t (in_protocol f) ≡ 1
may_waits t Idle h = absurd h
may_waits t (Waiting u) h = ap one_if (eq-eqb u t h)
may_waits t (Marked u) h = absurd h
may_waits t (Looked u) h = ap one_if (eq-eqb u t h)
may_waits t (Inside u y) h = absurd h
may_waits t (Done u) h = absurd h
may_waits t (Served u) h = absurd h
may_waits t (Owes u n) h = absurd h
may_waits t (Found u n) h = absurd h
may_waits t (Wakes u n) h = absurd h

-- the first word, where another one is written or the same number
first_else : (ws : List ℕ) (w v : ℕ) → 0 ≢ w → slice_index (slice_set ws w v) 0 ≡ slice_index ws 0
first_else ws w v ne = index_else ws w 0 v ne

first_read : (ws : List ℕ) (w : ℕ)
    → slice_index (slice_set ws w (slice_index ws w)) 0 ≡ slice_index ws 0
first_read ws w = ap (λ vs. slice_index vs 0) (same_words ws w)

past_first : (t : ℕ) → 0 ≢ wake_word t
past_first t e = absurd (omega arith)

not_first : (n : ℕ) → n ≡ 1 → 0 ≢ n
not_first n is e = absurd (omega arith)

module _ {M C R : Type 0} (total : ℕ) (h k : Hall M C R) (s : WaitState) (m : Meets total h s) where
  steps : StepsAreEvents M C R
  steps = steps_are_events M C R

  draws : (i : ℕ) → IsTurn (Draws i) h k → Goes total i k s
  draws i turn =
      let p = turn.0 in let q = turn.1 in let c = turn.2 in let d = turn.3 in
      let at = turn.4 in let told = turn.5 in
      let n : ℕ = slice_index h.words 0 in
      let q_is : q ≡ waiting n p = first_is q (waiting n p) d c told.1.0 in
      let idle : p.phase ≡ Idle = told.1.2.0 in
      let some_left : 0 < p.left = told.0.0 in
      let one = left_at h.seats i (seated IsUp p) at in
      let all = m.left in let next = next_is total h s m in
      let bound = m.bound in
      let fit : n < 2 ^ 32 = m.fits 0 in
      let q_left : q.left ≡ p.left - 1 = ap (λ (v : SeatView M C R). v.left) q_is in
      let up : (n + 1) % 2 ^ 64 ≡ n + 1 = small n fit in
      let few : (n + 1) % 2 ^ 64 < 2 ^ 32 = omega arith in
      let long : suc (suc (length s.words)) ≡ length h.words = ap length m.words in
      let here : slice_index (slice_set h.words 0 ((n + 1) % 2 ^ 64)) 0 ≡ (n + 1) % 2 ^ 64 =
      index_here h.words 0 ((n + 1) % 2 ^ 64) (omega arith) in
      subst (λ (x : Hall M C R). Goes total i x s) (sym turn.6)
      (by_event total h s m i p q Take 0 (λ x. (x + 1) % 2 ^ 64) (λ x. Unit {0}) Idle
      (λ x. Waiting x) steps.ticket refl at idle tt (ap (λ (v : SeatView M C R). v.phase) q_is)
      few (omega arith))

  looks : (i : ℕ) → IsTurn (Looks i) h k → Goes total i k s
  looks i turn =
      let p = turn.0 in let q = turn.1 in let c = turn.2 in let d = turn.3 in
      let at = turn.4 in let told = turn.5 in
      let n : ℕ = slice_index h.words 1 in let t : ℕ = ticket_of p.phase in
      let waits_so : waits t p.phase ≡ 1 = told.2.0 in
      let same = first_read h.words 1 in
      dite (ℕ_discrete n t)
      (λ (e : n ≡ t). let got = told.0 e in let y = got.0 in
      let q_is : q ≡ entered n y p = first_is q (entered n y p) d ((0, y) ∷ c) got.1 in
      let q_left : q.left ≡ p.left = ap (λ (v : SeatView M C R). v.left) q_is in
      subst (λ (x : Hall M C R). Goes total i x s) (sym turn.6)
      (by_event total h s m i p q Look 1 (λ x. x) (λ x. x ≡ t) p.phase (λ x. Inside x y)
      (steps.enter p.phase t y waits_so) refl at refl e (ap (λ (v : SeatView M C R). v.phase) q_is)
      (m.fits 1) (omega arith)))
      (λ (ne : n ≢ t). let got = told.1 ne in
      let q_is : q ≡ goes missed p = first_is q (goes missed p) d c got.0 in
      let q_left : q.left ≡ p.left = ap (λ (v : SeatView M C R). v.left) q_is in
      subst (λ (x : Hall M C R). Goes total i x s) (sym turn.6)
      (by_event total h s m i p q Look 1 (λ x. x) (λ x. x ≢ t) p.phase (λ x. missed p.phase)
      (steps.look p.phase t waits_so) refl at refl ne (ap (λ (v : SeatView M C R). v.phase) q_is)
      (m.fits 1) (omega arith)))

  -- a seat that has slept waits as before its first look
  slept_waits : (t : ℕ) (f : Phase M C R) → waits t f ≡ 1 → waits t (slept f) ≡ 1
  slept_waits t Idle e = e
  slept_waits t (Waiting u) e = e
  slept_waits t (Marked u) e = e
  slept_waits t (Looked u) e = e
  slept_waits t (Inside u y) e = e
  slept_waits t (Done u) e = e
  slept_waits t (Served u) e = e
  slept_waits t (Owes u n) e = e
  slept_waits t (Found u n) e = e
  slept_waits t (Wakes u n) e = e

  slept_may : (t : ℕ) (f : Phase M C R) → MayMark t f → MayMark t (slept f)
  slept_may t Idle e = e
  slept_may t (Waiting u) e = e
  slept_may t (Marked u) e = e
  slept_may t (Looked u) e = e
  slept_may t (Inside u y) e = e
  slept_may t (Done u) e = e
  slept_may t (Served u) e = e
  slept_may t (Owes u n) e = e
  slept_may t (Found u n) e = e
  slept_may t (Wakes u n) e = e

  slept_mark : (t : ℕ) (f : Phase M C R) → MayMark t f → marked f ≡ marked (slept f)
  slept_mark t Idle e = absurd e
  slept_mark t (Waiting u) e = refl
  slept_mark t (Marked u) e = absurd e
  slept_mark t (Looked u) e = refl
  slept_mark t (Inside u y) e = absurd e
  slept_mark t (Done u) e = absurd e
  slept_mark t (Served u) e = absurd e
  slept_mark t (Owes u n) e = absurd e
  slept_mark t (Found u n) e = absurd e
  slept_mark t (Wakes u n) e = absurd e

  looks_again : (i : ℕ) → IsTurn (LooksAgain i) h k → Goes total i k s
  looks_again i (inl turn) =
      let p = turn.0 in let q = turn.1 in let c = turn.2 in let d = turn.3 in
      let at = turn.4 in let told = turn.5.0 in let ne = turn.5.1 in
      let n : ℕ = slice_index h.words 1 in let t : ℕ = ticket_of p.phase in
      let is : p.phase ≡ Looked t = turn.5.2.0 in
      let first : Phase M C R = Waiting t in
      let waits_so : waits t first ≡ 1 = ap one_if (eq-eqb t t refl) in
      let same = first_read h.words 1 in
      let q_is : q ≡ goes missed p = first_is q (goes missed p) d c (told.1 ne).0 in
      let q_left : q.left ≡ p.left = ap (λ (v : SeatView M C R). v.left) q_is in
      let q_phase : q.phase ≡ Looked t = ap (λ (v : SeatView M C R). v.phase) q_is ∙ ap missed is in
      subst (λ (x : Hall M C R). Goes total i x s) (sym turn.6)
      (by_event_of total h s m HasSlept HasSlept i p q Look 1 (λ x. x) (λ x. x ≢ t) first
      (λ x. first) (steps.look first t waits_so) refl at
      (ap (λ f. in_protocol (slept f)) is) ne (ap (λ f. in_protocol (slept f)) q_phase)
      (m.fits 1) (omega arith))
  looks_again i (inr turn) =
      let p = turn.0 in let q = turn.1 in let c = turn.2 in let d = turn.3 in
      let at = turn.4 in let told = turn.5.0 in let e = turn.5.1 in
      let n : ℕ = slice_index h.words 1 in let t : ℕ = ticket_of p.phase in
      let waits_so : waits t p.phase ≡ 1 = told.2.0 in
      let same = first_read h.words 1 in
      let got = told.0 e in let y = got.0 in
      let q_is : q ≡ entered n y p = first_is q (entered n y p) d ((0, y) ∷ c) got.1 in
      let q_left : q.left ≡ p.left = ap (λ (v : SeatView M C R). v.left) q_is in
      subst (λ (x : Hall M C R). Goes total i x s) (sym turn.6)
      (by_event_of total h s m HasSlept IsUp i p q Look 1 (λ x. x) (λ x. x ≡ t) (slept p.phase)
      (λ x. Inside x y) (steps.enter (slept p.phase) t y (slept_waits t p.phase waits_so)) refl at
      refl e (ap (λ (v : SeatView M C R). in_protocol v.phase) q_is) (m.fits 1) (omega arith))

  marks : (i : ℕ) → IsTurn (Marks i) h k → Goes total i k s
  marks i turn =
      let w = turn.0 in let v = turn.1 in let st = turn.2 in
      let p = st.0 in let q = st.1 in let c = st.2 in let d = st.3 in
      let at = st.4 in let told = st.5 in
      let t : ℕ = ticket_of p.phase in
      let may : MayMark t p.phase = told.3.0 in
      let q_is : q ≡ goes marked p = first_is q (goes marked p) d c told.2 in
      let q_left : q.left ≡ p.left = ap (λ (x : SeatView M C R). x.left) q_is in
      let here = count_at (waits_there t) s.phases i (in_protocol p.phase)
      (at_place total h s m i (seated IsUp p) at) in
      let one = may_waits t p.phase may in
      let drawn = to_next s m.sound t (omega arith) in
      let fit = m.fits 0 in let next = next_is total h s m in
      let same = first_else h.words (wake_word t) (t + 1) (past_first t) in
      let k_is : k ≡ record {
        words = slice_set h.words (wake_word t) (t + 1);
        seats = slice_set h.seats i (seated IsUp q);
      } = st.6 ∙ (λ j. record {
        words = slice_set h.words (told.0 j) (told.1 j);
        seats = slice_set h.seats i (seated IsUp q);
      }) in
      subst (λ (x : Hall M C R). Goes total i x s) (sym k_is)
      (by_event total h s m i p q Mark (wake_word t) (λ x. t + 1) (λ x. Unit {0}) p.phase
      (λ x. marked p.phase) (steps.mark p.phase t may) refl at refl tt
      (ap (λ (x : SeatView M C R). x.phase) q_is) (omega arith) (omega arith))

  marks_again : (i : ℕ) → IsTurn (MarksAgain i) h k → Goes total i k s
  marks_again i turn =
      let w = turn.0 in let v = turn.1 in let st = turn.2 in
      let p = st.0 in let q = st.1 in let c = st.2 in let d = st.3 in
      let at = st.4 in let told = st.5 in
      let t : ℕ = ticket_of p.phase in
      let may : MayMark t (slept p.phase) = slept_may t p.phase told.3.0 in
      let q_is : q ≡ goes marked p = first_is q (goes marked p) d c told.2 in
      let q_left : q.left ≡ p.left = ap (λ (x : SeatView M C R). x.left) q_is in
      let here = count_at (waits_there t) s.phases i (in_protocol (slept p.phase))
      (at_place total h s m i (seated HasSlept p) at) in
      let one = may_waits t (slept p.phase) may in
      let drawn = to_next s m.sound t (omega arith) in
      let fit = m.fits 0 in let next = next_is total h s m in
      let same = first_else h.words (wake_word t) (t + 1) (past_first t) in
      let k_is : k ≡ record {
        words = slice_set h.words (wake_word t) (t + 1);
        seats = slice_set h.seats i (seated IsUp q);
      } = st.6 ∙ (λ j. record {
        words = slice_set h.words (told.0 j) (told.1 j);
        seats = slice_set h.seats i (seated IsUp q);
      }) in
      subst (λ (x : Hall M C R). Goes total i x s) (sym k_is)
      (by_event_of total h s m HasSlept IsUp i p q Mark (wake_word t) (λ x. t + 1) (λ x. Unit {0})
      (slept p.phase) (λ x. marked (slept p.phase)) (steps.mark (slept p.phase) t may) refl at refl
      tt (ap (λ (x : SeatView M C R). in_protocol x.phase) q_is
      ∙ ap (λ f. in_protocol f) (slept_mark t p.phase told.3.0)) (omega arith) (omega arith))

  records : (i : ℕ) → IsTurn (Records i) h k → Goes total i k s
  records i turn =
      let p = turn.0 in let q = turn.1 in let c = turn.2 in let d = turn.3 in
      let at = turn.4 in let told = turn.5 in
      let z = told.0.0 in
      let t : ℕ = ticket_of p.phase in
      let by = told.1.1.0 in let y = by.0 in
      let q_by : q ≡ recorded_by c p = first_is q (recorded_by c p) d [] told.1.0 in
      let q_is : q ≡ recorded z p = q_by ∙ ap (λ l. recorded_by l p) told.0.1 in
      let q_left : q.left ≡ p.left = ap (λ (x : SeatView M C R). x.left) q_is in
      let same = first_read h.words 1 in
      subst (λ (x : Hall M C R). Goes total i x s) (sym turn.6)
      (by_event total h s m i p q Apply 1 (λ x. x) (λ x. Unit {0}) (Inside t y) (λ x. Done t)
      (steps.record_call t y) refl at by.1 tt (ap (λ (x : SeatView M C R). x.phase) q_is)
      (m.fits 1) (omega arith))

  serves : (i : ℕ) → IsTurn (Serves i) h k → Goes total i k s
  serves i turn =
      let p = turn.0 in let q = turn.1 in let c = turn.2 in let d = turn.3 in
      let at = turn.4 in let told = turn.5 in
      let n : ℕ = slice_index h.words 1 in
      let t : ℕ = ticket_of p.phase in
      let q_is : q ≡ has_served p = first_is q (has_served p) d c told.2 in
      let q_left : q.left ≡ p.left = ap (λ (x : SeatView M C R). x.left) q_is in
      let fit : n < 2 ^ 32 = m.fits 1 in
      let more : n + 1 < 2 ^ 32 = told.1 in
      let up : (n + 1) % 2 ^ 64 ≡ n + 1 = small n fit in
      let few : (n + 1) % 2 ^ 64 < 2 ^ 32 = omega arith in
      let same = first_else h.words 1 ((n + 1) % 2 ^ 64) (not_first 1 refl) in
      subst (λ (x : Hall M C R). Goes total i x s) (sym turn.6)
      (by_event total h s m i p q Leave 1 (λ x. (x + 1) % 2 ^ 64) (λ x. x ≡ t) (Done t)
      (λ x. Served t) (steps.serve t) refl at told.3.0 told.0
      (ap (λ (x : SeatView M C R). x.phase) q_is) few (omega arith))

  peeks_next : (i : ℕ) → IsTurn (PeeksNext i) h k → Goes total i k s
  peeks_next i turn =
      let w = turn.0 in let st = turn.1 in
      let p = st.0 in let q = st.1 in let c = st.2 in let d = st.3 in
      let at = st.4 in let told = st.5 in
      let t : ℕ = ticket_of p.phase in
      let is : p.phase ≡ Served t = told.2.0 in
      let q_is : q ≡ goes (saw_next (slice_index h.words w)) p =
      first_is q (goes (saw_next (slice_index h.words w)) p) d c told.1 in
      let q_left : q.left ≡ p.left = ap (λ (x : SeatView M C R). x.left) q_is in
      let q_phase : q.phase ≡ saw_next (slice_index h.words 0) (Served t) =
      ap (λ (x : SeatView M C R). x.phase) q_is
      ∙ (λ j. saw_next (slice_index h.words (told.0 j)) (is j)) in
      let same = first_read h.words 0 in
      let k_is : k ≡ record {
        words = slice_set h.words 0 (slice_index h.words 0);
        seats = slice_set h.seats i (seated IsUp q);
      } = st.6 ∙ (λ j. record {
        words = slice_set h.words (told.0 j) (slice_index h.words (told.0 j));
        seats = slice_set h.seats i (seated IsUp q);
      }) in
      subst (λ (x : Hall M C R). Goes total i x s) (sym k_is)
      (by_event total h s m i p q PeekNext 0 (λ x. x) (λ x. Unit {0}) (Served t)
      (λ x. saw_next x (Served t)) (steps.peek_next t) refl at is tt q_phase (m.fits 0) (omega arith))

  peeks_word : (i : ℕ) → IsTurn (PeeksWord i) h k → Goes total i k s
  peeks_word i turn =
      let w = turn.0 in let st = turn.1 in
      let p = st.0 in let q = st.1 in let c = st.2 in let d = st.3 in
      let at = st.4 in let told = st.5 in
      let t : ℕ = ticket_of p.phase in
      let by = told.2.0 in let n = by.0 in
      let is : p.phase ≡ Owes t n = by.1 in
      let q_is : q ≡ goes (saw_word (slice_index h.words w)) p =
      first_is q (goes (saw_word (slice_index h.words w)) p) d c told.1 in
      let q_left : q.left ≡ p.left = ap (λ (x : SeatView M C R). x.left) q_is in
      let q_phase : q.phase ≡ saw_word (slice_index h.words (wake_word t)) (Owes t n) =
      ap (λ (x : SeatView M C R). x.phase) q_is
      ∙ (λ j. saw_word (slice_index h.words (told.0 j)) (is j)) in
      let same = first_read h.words (wake_word t) in
      let k_is : k ≡ record {
        words = slice_set h.words (wake_word t) (slice_index h.words (wake_word t));
        seats = slice_set h.seats i (seated IsUp q);
      } = st.6 ∙ (λ j. record {
        words = slice_set h.words (told.0 j) (slice_index h.words (told.0 j));
        seats = slice_set h.seats i (seated IsUp q);
      }) in
      subst (λ (x : Hall M C R). Goes total i x s) (sym k_is)
      (by_event total h s m i p q PeekWord (wake_word t) (λ x. x) (λ x. Unit {0}) (Owes t n)
      (λ x. saw_word x (Owes t n)) (steps.peek_word t n) refl at is tt q_phase
      (m.fits (wake_word t)) (omega arith))

  takes_mark : (i : ℕ) → IsTurn (TakesMark i) h k → Goes total i k s
  takes_mark i turn =
      let w = turn.0 in let v = turn.1 in let u = turn.2 in let st = turn.3 in
      let p = st.0 in let q = st.1 in let c = st.2 in let d = st.3 in
      let at = st.4 in let told = st.5 in
      let t : ℕ = ticket_of p.phase in
      let by = told.4.0 in let n = by.0 in
      let is : p.phase ≡ Found t n = by.1 in
      let x : ℕ = slice_index h.words (wake_word t) in
      let q_is : q ≡ goes took p = first_is q (goes took p) d c told.3 in
      let q_left : q.left ≡ p.left = ap (λ (y : SeatView M C R). y.left) q_is in
      let q_phase : q.phase ≡ took (Found t n) =
      ap (λ (y : SeatView M C R). y.phase) q_is ∙ ap took is in
      let same = first_else h.words (wake_word t) (either (x == t + 1) 0 x) (past_first t) in
      let k_is : k ≡ record {
        words = slice_set h.words (wake_word t) (either (x == t + 1) 0 x);
        seats = slice_set h.seats i (seated IsUp q);
      } = st.6 ∙ (λ j. record {
        words = slice_set h.words (told.0 j)
            (either (slice_index h.words (told.0 j) == told.1 j) (told.2 j)
            (slice_index h.words (told.0 j)));
        seats = slice_set h.seats i (seated IsUp q);
      }) in
      subst (λ (y : Hall M C R). Goes total i y s) (sym k_is)
      (by_event total h s m i p q TakeMark (wake_word t) (λ y. either (y == t + 1) 0 y)
      (λ y. Unit {0}) (Found t n) (λ y. took (Found t n)) (steps.take_mark t n) refl at is tt q_phase
      (either_below (x == t + 1) x (2 ^ 32) (m.fits (wake_word t))) (omega arith))

  fronts : (i : ℕ) → IsTurn (Fronts i) h k → Follows total k s
  fronts i turn =
      let a = turn.0 in let st = turn.1 in
      let p = st.0 in let q = st.1 in let c = st.2 in let d = st.3 in
      let at = st.4 in let told = st.5 in
      let q_is : q ≡ seeing (slice_index h.words 1) p =
      first_is q (seeing (slice_index h.words 1) p) d c told.0 in
      subst (λ (x : Hall M C R). Follows total x s) (sym st.6)
      (no_event total h s m i (seated a p) (seated a q) 1 at
      (ap (λ (x : SeatView M C R). phase_while a x.phase) q_is)
      (ap (λ (x : SeatView M C R). x.left) q_is))

  notes_wake : (i : ℕ) → IsTurn (NotesWake i) h k → Follows total k s
  notes_wake i turn =
      let p = turn.0 in let q = turn.1 in let c = turn.2 in let d = turn.3 in
      let at = turn.4 in let told = turn.5 in
      let q_is : q ≡ goes woke p = first_is q (goes woke p) d c told.0 in
      subst (λ (x : Hall M C R). Follows total x s) (sym turn.6)
      (no_event total h s m i (seated HasRung p) (seated IsUp q) 1 at
      (ap (λ (x : SeatView M C R). in_protocol x.phase) q_is)
      (ap (λ (x : SeatView M C R). x.left) q_is))

  -- what stands in the wake word
  found : (t : ℕ) → mark_at s t ≡ slice_index h.words (wake_word t)
  found t = ap (λ (n : ℕ). slice_index s.words (t % n)) m.long
      ∙ (sym (index_past s.next s.serving (t % MAX_SEATS) s.words)
      ∙ ap (λ ws. slice_index ws (wake_word t)) m.words)

  -- one seat changes what it does, and no view changes
  resting : (i : ℕ) (p : SeatView M C R) (a b : Doing) → slice_get h.seats i ≡ Some (seated a p)
      → left_in (slice_set h.seats i (seated b p)) ≡ left_in h.seats
  resting i p a b at = let e = left_set h.seats i (seated a p) (seated b p) at in omega arith

  there : (i : ℕ) (x : Sitter M C R)
      → slice_set s.phases i (where_is x) ≡ map where_is (slice_set h.seats i x)
  there i x = ap (λ ps. slice_set ps i (where_is x)) m.phases ∙ set_map where_is h.seats i x

  sleeps : (i : ℕ) → IsTurn (Sleeps i) h k → Goes total i k s
  sleeps i turn =
      let p = turn.0 in let t = turn.1 in let at = turn.2 in
      let is : p.phase ≡ Looked t = turn.3 in
      let low : slice_index h.words (wake_word t) % 2 ^ 32 ≡ t + 1 = turn.4 in
      let whole = whole_word (slice_index h.words (wake_word t)) (m.fits (wake_word t)) in
      let mark : mark_at s t ≡ t + 1 = found t ∙ (sym whole ∙ low) in
      let here : slice_get s.phases i ≡ Some (PLooked t) =
      at_place total h s m i (seated IsUp p) at ∙ ap (λ f. Some (in_protocol f)) is in
      let after_is : after s (Park i) ≡ Some (moved s i (PAsleep t)) =
      ap (park_by s i) here
      ∙ ap (λ b. Some (moved s i (if b then PAsleep t else PWaiting t)))
      (eq-eqb (mark_at s t) (t + 1) mark) in
      let asleep : PAsleep t ≡ where_is (seated Sleeping p) =
      ap (λ f. phase_while Sleeping f) (sym is) in
      subst (λ (x : Hall M C R). Goes total i x s) (sym turn.5)
      (by_sleep total h s m i (moved s i (PAsleep t)) (Park i)
      (slice_set h.seats i (seated Sleeping p)) after_is refl refl
      (ap (slice_set s.phases i) asleep ∙ there i (seated Sleeping p))
      (resting i p IsUp Sleeping at))

  sleeps_in_vain : (i : ℕ) → IsTurn (SleepsInVain i) h k → Goes total i k s
  sleeps_in_vain i turn =
      let p = turn.0 in let t = turn.1 in let at = turn.2 in
      let is : p.phase ≡ Looked t = turn.3 in
      let whole = whole_word (slice_index h.words (wake_word t)) (m.fits (wake_word t)) in
      let gone : mark_at s t ≢ t + 1 = λ mark. turn.4 (whole ∙ (sym (found t) ∙ mark)) in
      let here : slice_get s.phases i ≡ Some (PLooked t) =
      at_place total h s m i (seated IsUp p) at ∙ ap (λ f. Some (in_protocol f)) is in
      let after_is : after s (Park i) ≡ Some (moved s i (PWaiting t)) =
      ap (park_by s i) here
      ∙ ap (λ b. Some (moved s i (if b then PAsleep t else PWaiting t)))
      (ne_eqb (mark_at s t) (t + 1) gone) in
      let up : PWaiting t ≡ where_is (seated HasSlept p) =
      ap (λ f. phase_while HasSlept f) (sym is) in
      subst (λ (x : Hall M C R). Goes total i x s) (sym turn.5)
      (by_sleep total h s m i (moved s i (PWaiting t)) (Park i)
      (slice_set h.seats i (seated HasSlept p)) after_is refl refl
      (ap (slice_set s.phases i) up ∙ there i (seated HasSlept p))
      (resting i p IsUp HasSlept at))

  -- what a seat does changes, and its phase in the protocol does not
  quiet : (i : ℕ) (x y : Sitter M C R) → slice_get h.seats i ≡ Some x → where_is y ≡ where_is x
      → y.view.left ≡ x.view.left
      → Follows total (record { words = h.words; seats = slice_set h.seats i y }) s
  quiet i x y at same left_same =
      subst (λ ws. Follows total (record { words = ws; seats = slice_set h.seats i y }) s)
      (same_words h.words 0) (no_event total h s m i x y 0 at same left_same)

  returned : (i : ℕ) (p : SeatView M C R) (f : Phase M C R) → p.phase ≡ f
      → slice_get h.seats i ≡ Some (seated Sleeping p)
      → Follows total (record {
        words = h.words;
        seats = slice_set h.seats i (seated HasSlept p);
      }) s
  returned i p (Looked t) is at =
      let here : slice_get s.phases i ≡ Some (PAsleep t) =
      at_place total h s m i (seated Sleeping p) at ∙ ap (λ f. Some (phase_while Sleeping f)) is in
      let up : PWaiting t ≡ where_is (seated HasSlept p) =
      ap (λ f. phase_while HasSlept f) (sym is) in
      let woke_up = by_sleep total h s m i (moved s i (PWaiting t)) (SpuriousWake i)
      (slice_set h.seats i (seated HasSlept p)) (ap (spurious_wake_by s i) here) refl refl
      (ap (slice_set s.phases i) up ∙ there i (seated HasSlept p))
      (resting i p Sleeping HasSlept at) in (woke_up.0, woke_up.1)
  returned i p Idle is at = quiet i (seated Sleeping p) (seated HasSlept p) at
      (ap (λ f. in_protocol (slept f)) is ∙ sym (ap (λ f. phase_while Sleeping f) is)) refl
  returned i p (Waiting t) is at = quiet i (seated Sleeping p) (seated HasSlept p) at
      (ap (λ f. in_protocol (slept f)) is ∙ sym (ap (λ f. phase_while Sleeping f) is)) refl
  returned i p (Marked t) is at = quiet i (seated Sleeping p) (seated HasSlept p) at
      (ap (λ f. in_protocol (slept f)) is ∙ sym (ap (λ f. phase_while Sleeping f) is)) refl
  returned i p (Inside t y) is at = quiet i (seated Sleeping p) (seated HasSlept p) at
      (ap (λ f. in_protocol (slept f)) is ∙ sym (ap (λ f. phase_while Sleeping f) is)) refl
  returned i p (Done t) is at = quiet i (seated Sleeping p) (seated HasSlept p) at
      (ap (λ f. in_protocol (slept f)) is ∙ sym (ap (λ f. phase_while Sleeping f) is)) refl
  returned i p (Served t) is at = quiet i (seated Sleeping p) (seated HasSlept p) at
      (ap (λ f. in_protocol (slept f)) is ∙ sym (ap (λ f. phase_while Sleeping f) is)) refl
  returned i p (Owes t n) is at = quiet i (seated Sleeping p) (seated HasSlept p) at
      (ap (λ f. in_protocol (slept f)) is ∙ sym (ap (λ f. phase_while Sleeping f) is)) refl
  returned i p (Found t n) is at = quiet i (seated Sleeping p) (seated HasSlept p) at
      (ap (λ f. in_protocol (slept f)) is ∙ sym (ap (λ f. phase_while Sleeping f) is)) refl
  returned i p (Wakes t n) is at = quiet i (seated Sleeping p) (seated HasSlept p) at
      (ap (λ f. in_protocol (slept f)) is ∙ sym (ap (λ f. phase_while Sleeping f) is)) refl

  returns : (i : ℕ) → IsTurn (Returns i) h k → Follows total k s
  returns i turn = let p = turn.0 in
      subst (λ (x : Hall M C R). Follows total x s) (sym turn.2) (returned i p p.phase refl turn.1)

  less_there : (a n : ℕ) → one_less_in a n ≡ in_protocol (one_less {M = M} {C = C} {R = R} a n)
  less_there a zero = refl
  less_there a (suc zero) = refl
  less_there a (suc (suc n)) = refl

  -- the phase of a seat that has made its wake
  rung : (p : SeatView M C R) (a n : ℕ) → p.phase ≡ Wakes a n
      → one_less_in a n ≡ where_is (seated HasRung p)
  rung p a n is = less_there a n ∙ ap (λ f. in_protocol (woke f)) (sym is)

  abbrev doing_of : Option (Sitter M C R) → Doing
  doing_of (Some x) = x.doing
  doing_of None = IsUp

  rings : (i j : ℕ) → IsTurn (Rings i j) h k → Goes total i k s
  rings i j turn =
      let p = turn.0 in let a = turn.1 in let n = turn.2 in let q = turn.3 in let t = turn.4 in
      let at : slice_get h.seats i ≡ Some (seated IsUp p) = turn.5 in
      let p_is : p.phase ≡ Wakes a n = turn.6 in
      let at_j : slice_get h.seats j ≡ Some (seated Sleeping q) = turn.7 in
      let q_is : q.phase ≡ Looked t = turn.8 in
      let word_is : wake_word t ≡ wake_word a = turn.9 in
      let here : slice_get s.phases i ≡ Some (PWakes a n) =
      at_place total h s m i (seated IsUp p) at ∙ ap (λ f. Some (in_protocol f)) p_is in
      let here_j : slice_get s.phases j ≡ Some (PAsleep t) =
      at_place total h s m j (seated Sleeping q) at_j
      ∙ ap (λ f. Some (phase_while Sleeping f)) q_is in
      let rest : t % MAX_SEATS ≡ a % MAX_SEATS = omega arith in
      let same : word_of s t ≡ word_of s a = ap (λ (l : ℕ). t % l) m.long
      ∙ (rest ∙ sym (ap (λ (l : ℕ). a % l) m.long)) in
      let next : WaitState = record s {
        phases = slice_set (slice_set s.phases i (one_less_in a n)) j (PWaiting t);
      } in
      let after_is : after s (Wake i j) ≡ Some next =
      ap (λ o. wake_by s i o j (slice_get s.phases j)) here
      ∙ (ap (wake_by s i (Some (PWakes a n)) j) here_j
      ∙ ap (λ b. if b then Some next else None) (eq-eqb (word_of s t) (word_of s a) same)) in
      let less = rung p a n p_is in
      let up : PWaiting t ≡ where_is (seated HasSlept q) =
      ap (λ f. phase_while HasSlept f) (sym q_is) in
      let mid : List (Sitter M C R) = slice_set h.seats i (seated HasRung p) in
      let ne : j ≢ i = λ e. absurd (cc (ap doing_of
      (sym at ∙ (ap (slice_get h.seats) (sym e) ∙ at_j)))) in
      let at_mid : slice_get mid j ≡ Some (seated Sleeping q) =
      get_other h.seats i j (seated HasRung p) ne ∙ at_j in
      let first = resting i p IsUp HasRung at in
      let second = left_set mid j (seated Sleeping q) (seated HasSlept q) at_mid in
      subst (λ (x : Hall M C R). Goes total i x s) (sym turn.10)
      (by_sleep total h s m i next (Wake i j) (slice_set mid j (seated HasSlept q)) after_is refl refl
      ((λ z. slice_set (slice_set s.phases i (less z)) j (up z))
      ∙ (ap (λ ps. slice_set ps j (where_is (seated HasSlept q))) (there i (seated HasRung p))
      ∙ set_map where_is mid j (seated HasSlept q))) (omega arith))

  rings_nobody : (i : ℕ) → IsTurn (RingsNobody i) h k → Goes total i k s
  rings_nobody i turn =
      let p = turn.0 in let a = turn.1 in let n = turn.2 in
      let at : slice_get h.seats i ≡ Some (seated IsUp p) = turn.3 in
      let p_is : p.phase ≡ Wakes a n = turn.4 in
      let nobody : NobodySleepsOn a h.seats = turn.5 in
      let here : slice_get s.phases i ≡ Some (PWakes a n) =
      at_place total h s m i (seated IsUp p) at ∙ ap (λ f. Some (in_protocol f)) p_is in
      let none : list_any (sleeps_on (length s.words) (word_of s a)) s.phases ≡ false =
      (λ z. list_any (sleeps_on (m.long z) (a % m.long z)) (m.phases z))
      ∙ none_sleeps MAX_SEATS (a % MAX_SEATS) h.seats
      (λ j v t at_j is e. nobody j v t at_j is (ap (λ (x : ℕ). 2 + x) e)) in
      let next : WaitState = moved s i (one_less_in a n) in
      let after_is : after s (Wake i i) ≡ Some next =
      (λ z. wake_by s i (here z) i (here z)) ∙ ap (λ b. if b then None else Some next) none in
      subst (λ (x : Hall M C R). Goes total i x s) (sym turn.6)
      (by_sleep total h s m i next (Wake i i) (slice_set h.seats i (seated HasRung p)) after_is refl
      refl
      (ap (slice_set s.phases i) (rung p a n p_is) ∙ there i (seated HasRung p))
      (resting i p IsUp HasRung at))

  -- the seat of a turn that brings it on makes an event
  abbrev pub Turned : Turn → Type 0
  Turned t = (events : List Event) × Meets total k (run s events)
      × (brings_on t ≡ true → MakesOne (maker t) s events)

  made : (i : ℕ) (b : Bool) → Goes total i k s
      → (events : List Event) × Meets total k (run s events) × (b ≡ true → MakesOne i s events)
  made i b g = (g.0, g.1, λ e. g.2)

  not_made : (i : ℕ) → Follows total k s
      → (events : List Event) × Meets total k (run s events)
      × (false ≡ true → MakesOne i s events)
  not_made i g = (g.0, g.1, λ e. absurd (cc e))

  pub one_turn : (t : Turn) → IsTurn t h k → Turned t
  one_turn (Draws i) turn = made i true (draws i turn)
  one_turn (Looks i) turn = made i true (looks i turn)
  one_turn (LooksAgain i) turn = made i true (looks_again i turn)
  one_turn (Marks i) turn = made i true (marks i turn)
  one_turn (MarksAgain i) turn = made i true (marks_again i turn)
  one_turn (Records i) turn = made i true (records i turn)
  one_turn (Serves i) turn = made i true (serves i turn)
  one_turn (PeeksNext i) turn = made i true (peeks_next i turn)
  one_turn (PeeksWord i) turn = made i true (peeks_word i turn)
  one_turn (TakesMark i) turn = made i true (takes_mark i turn)
  one_turn (Fronts i) turn = not_made i (fronts i turn)
  one_turn (Sleeps i) turn = made i true (sleeps i turn)
  one_turn (SleepsInVain i) turn = made i true (sleeps_in_vain i turn)
  one_turn (Returns i) turn = not_made i (returns i turn)
  one_turn (Rings i j) turn = made i true (rings i j turn)
  one_turn (RingsNobody i) turn = made i true (rings_nobody i turn)
  one_turn (NotesWake i) turn = not_made i (notes_wake i turn)
