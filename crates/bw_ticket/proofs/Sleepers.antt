-- What the table's rule holds of is a state that the waiting protocol's invariant holds of.
use Rattle.std.proofs.Common.{◌≡◌, ◌≢◌, ℕ, suc, ◌+◌, ◌%◌, ◌≤◌, ◌==◌, Bool, true, false, if◌then◌else◌}
use Rattle.std.proofs.Common.{List, [], ◌∷◌, ◌++◌, map, drop}
use Rattle.std.proofs.Common.{length, slice_index, refl, sym, ap, ◌∙◌, subst, inl, inr, ⊎_elim}
use Rattle.std.proofs.Common.{arith, ne_eqb, length-append, nat_lt}
use mathlib.Core.Logic.{dite}
use native.Mathlib.Decide.{ℕ_discrete}
use Rattle.atomic_table.specs.Table.{State}
use Rattle.bw_wake.specs.declared.seats.Phase.{Phase as WaitPhase}
use Rattle.bw_wake.specs.declared.seats.Phase.TheVariants.{Idle as PIdle, Waiting as PWaiting}
use Rattle.bw_wake.specs.declared.seats.Phase.TheVariants.{Marked as PMarked, Looked as PLooked}
use Rattle.bw_wake.specs.declared.seats.Phase.TheVariants.{Asleep as PAsleep}
use Rattle.bw_wake.specs.declared.seats.Phase.TheVariants.{Inside as PInside, Done as PDone}
use Rattle.bw_wake.specs.declared.seats.Phase.TheVariants.{Served as PServed, Owes as POwes}
use Rattle.bw_wake.specs.declared.seats.Phase.TheVariants.{Found as PFound, Wakes as PWakes}
use Rattle.bw_wake.specs.Protocol.{WaitState}
use Rattle.bw_wake.specs.Progress.{count, sleeps, busy}
use Rattle.bw_wake.specs.Progress.{one_if, will_peek as will_peek_there}
use Rattle.bw_wake.proofs.CallerLemmas.{Sound, wake_under_way, goes_on, not_stuck, happens_sound}
use Rattle.bw_wake.proofs.CallerLemmas.{waits as waits_there, holds as holds_there}
use Rattle.bw_wake.proofs.CallerLemmas.{may_sleep as may_sleep_there}
use Rattle.bw_ticket.specs.declared.board.SlotValue.{SlotValue}
use Rattle.bw_ticket.specs.declared.board.SeatView.{SeatView}
use Rattle.bw_ticket.specs.declared.board.About.{About}
use Rattle.bw_ticket.specs.declared.board.Phase.{Phase}
use Rattle.bw_ticket.specs.declared.board.Phase.TheVariants.{Idle, Waiting, Marked, Looked, Inside}
use Rattle.bw_ticket.specs.declared.board.Phase.TheVariants.{Done, Served, Owes, Found, Wakes}
use Rattle.bw_ticket.specs.declared.limits.TheConstants.{MAX_SEATS}
use Rattle.bw_ticket.specs.Rule.{weigh, weigh_all, waits, is_inside, is_done, holds, may_sleep}
use Rattle.bw_ticket.specs.Rule.{will_peek, wake_word, Each, EachView, is_seat, Ruled}
use Rattle.bw_ticket.proofs.Views.{each_map}
use Rattle.bw_ticket.proofs.KeptLemmas.{Fit, of_none}
use mathlib.Core.Option.{some}
use lib.ListN.{get_elem?}
use Rattle.bw_ticket.specs.Follows.{in_protocol}
use Rattle.bw_ticket.specs.UnderWay.{phases_of, phases_in, state_with, IsThere, AreThere}
use Rattle.bw_ticket.specs.UnderWay.{SleepersAreSeen, asleep_if_marked, NoWakeIsLostIn}
use Rattle.bw_ticket.specs.UnderWay.{NoWakeIsLostInLock}
use Rattle.bw_ticket.proofs.Followed.{index_past}

-- a seat that may sleep counts as one that sleeps, for what does not tell them apart
there_same : (g : WaitPhase → ℕ) → ((t : ℕ) → g (PLooked t) ≡ g (PAsleep t))
    → ((t : ℕ) → g (PLooked t) ≡ g (PWaiting t)) → (p q : WaitPhase) → IsThere p q → g p ≡ g q
there_same g h k p q w = ⊎_elim (λ (e : p ≡ q). ap g e)
    (λ z. ⊎_elim
    (λ (a : (t : ℕ) × (p ≡ PLooked t) × (q ≡ PAsleep t)). ap g a.1 ∙ (h a.0 ∙ sym (ap g a.2)))
    (λ (a : (t : ℕ) × (p ≡ PLooked t) × (q ≡ PWaiting t)). ap g a.1 ∙ (k a.0 ∙ sym (ap g a.2)))
    z) w

count_there : (g : WaitPhase → ℕ) → ((t : ℕ) → g (PLooked t) ≡ g (PAsleep t))
    → ((t : ℕ) → g (PLooked t) ≡ g (PWaiting t))
    → (ps qs : List WaitPhase) → AreThere ps qs → count g ps ≡ count g qs
count_there g h k [] [] w = refl
count_there g h k [] (q ∷ qs) w = absurd w
count_there g h k (p ∷ ps) [] w = absurd w
count_there g h k (p ∷ ps) (q ∷ qs) w =
    let a = there_same g h k p q w.0 in let b = count_there g h k ps qs w.1 in omega arith

-- a seat that has slept counts no more as one that may sleep
there_less : (x : ℕ) (p q : WaitPhase) → IsThere p q → may_sleep_there x q ≤ may_sleep_there x p
there_less x p q w = ⊎_elim (λ (e : p ≡ q). let a = ap (may_sleep_there x) e in omega arith)
    (λ z. ⊎_elim
    (λ (a : (t : ℕ) × (p ≡ PLooked t) × (q ≡ PAsleep t)).
    let b = ap (may_sleep_there x) a.1 in let c = ap (may_sleep_there x) a.2 in omega arith)
    (λ (a : (t : ℕ) × (p ≡ PLooked t) × (q ≡ PWaiting t)).
    let c = ap (may_sleep_there x) a.2 in omega arith) z) w

count_less : (x : ℕ) (ps qs : List WaitPhase) → AreThere ps qs
    → count (may_sleep_there x) qs ≤ count (may_sleep_there x) ps
count_less x [] [] w = omega arith
count_less x [] (q ∷ qs) w = absurd w
count_less x (p ∷ ps) [] w = absurd w
count_less x (p ∷ ps) (q ∷ qs) w =
    let a = there_less x p q w.0 in let b = count_less x ps qs w.1 in omega arith

length_there : (ps qs : List WaitPhase) → AreThere ps qs → length ps ≡ length qs
length_there [] [] w = refl
length_there [] (q ∷ qs) w = absurd w
length_there (p ∷ ps) [] w = absurd w
length_there (p ∷ ps) (q ∷ qs) w = ap suc (length_there ps qs w.1)

count-append : (g : WaitPhase → ℕ) (ps qs : List WaitPhase)
    → count g (ps ++ qs) ≡ count g ps + count g qs
count-append g [] qs = omega arith
count-append g (p ∷ ps) qs = let h = count-append g ps qs in omega arith

count-map : (g : WaitPhase → ℕ) (f : WaitPhase → WaitPhase) (ps : List WaitPhase)
    → count g (map f ps) ≡ count (λ p. g (f p)) ps
count-map g f [] = refl
count-map g f (p ∷ ps) = let h = count-map g f ps in omega arith

-- the seats that have their mark standing may all sleep
asleep_or_not : (t : ℕ) (b : Bool) → IsThere (PLooked t) (if b then PAsleep t else PLooked t)
asleep_or_not t true = inr (inl (t, refl, refl))
asleep_or_not t false = inl refl

marked_there : (ws : List ℕ) (p : WaitPhase) → IsThere p (asleep_if_marked ws p)
marked_there ws PIdle = inl refl
marked_there ws (PWaiting t) = inl refl
marked_there ws (PMarked t) = inl refl
marked_there ws (PLooked t) = asleep_or_not t (slice_index ws (t % length ws) == t + 1)
marked_there ws (PAsleep t) = inl refl
marked_there ws PInside = inl refl
marked_there ws PDone = inl refl
marked_there ws (PServed t) = inl refl
marked_there ws (POwes k n) = inl refl
marked_there ws (PFound k n) = inl refl
marked_there ws (PWakes k n) = inl refl

all_marked_there : (ws : List ℕ) (ps : List WaitPhase) → AreThere ps (map (asleep_if_marked ws) ps)
all_marked_there ws [] = tt
all_marked_there ws (p ∷ ps) = (marked_there ws p, all_marked_there ws ps)

other_awake : (t x : ℕ) (b : Bool) → t ≢ x → sleeps x (if b then PAsleep t else PLooked t) ≡ 0
other_awake t x true ne = ap one_if (ne_eqb t x ne)
other_awake t x false ne = refl

unmarked_awake : (ws : List ℕ) (x t : ℕ) → slice_index ws (x % length ws) ≢ x + 1
    → sleeps x (if slice_index ws (t % length ws) == t + 1 then PAsleep t else PLooked t) ≡ 0
unmarked_awake ws x t gone = dite (ℕ_discrete t x)
    (λ (e : t ≡ x). let no : slice_index ws (t % length ws) ≢ t + 1 =
    λ h. gone (subst (λ (y : ℕ). slice_index ws (y % length ws) ≡ y + 1) e h) in
    ap (λ b. sleeps x (if b then PAsleep t else PLooked t))
    (ne_eqb (slice_index ws (t % length ws)) (t + 1) no))
    (λ (ne : t ≢ x). other_awake t x (slice_index ws (t % length ws) == t + 1) ne)

count_if : (g : WaitPhase → ℕ) (b : Bool) (q : WaitPhase) (l : List WaitPhase) (n : ℕ) → g q ≡ n
    → (b ≡ false → n ≡ 0) → count g (if b then q ∷ l else l) ≡ n + count g l
count_if g true q l n e idle = omega arith
count_if g false q l n e idle = let z = idle refl in omega arith

length_if : (b : Bool) (q : WaitPhase) (l : List WaitPhase)
    → length (if b then q ∷ l else l) ≡ one_if b + length l
length_if true q l = omega arith
length_if false q l = omega arith

module _ {M C R : Type 0} where
  each_any : (P : SeatView M C R → Type 0) → ((p : SeatView M C R) → P p) → (v : List (SeatView M C R)) → Each P v
  each_any P h [] = tt
  each_any P h (p ∷ v) = (h p, each_any P h v)

  -- a view of no seat has no phase in the protocol, and counts as idle
  abbrev AsIdle : (Phase M C R → ℕ) → SeatView M C R → Type 0
  AsIdle f p = nat_lt p.number MAX_SEATS ≡ false → f p.phase ≡ 0

  count_of : (g : WaitPhase → ℕ) (f : Phase M C R → ℕ)
      → ((p : Phase M C R) → g (in_protocol p) ≡ f p) → (v : List (SeatView M C R))
      → Each (AsIdle f) v → count g (phases_of v) ≡ weigh (λ p. f p.phase) v
  count_of g f h [] idle = refl
  count_of g f h (p ∷ v) idle =
      let a = count_if g (nat_lt p.number MAX_SEATS) (in_protocol p.phase) (phases_of v)
      (f p.phase) (h p.phase) idle.0 in let b = count_of g f h v idle.1 in omega arith

  count_in : (g : WaitPhase → ℕ) (f : Phase M C R → ℕ)
      → ((p : Phase M C R) → g (in_protocol p) ≡ f p) → (vs : List (List (SeatView M C R)))
      → EachView (AsIdle f) vs → count g (phases_in vs) ≡ weigh_all (λ p. f p.phase) vs
  count_in g f h [] idle = refl
  count_in g f h (v ∷ vs) idle = let a = count-append g (phases_of v) (phases_in vs) in
      let b = count_of g f h v (idle 0 v refl) in
      let c = count_in g f h vs (λ j w e. idle (suc j) w e) in omega arith

  length_of : (v : List (SeatView M C R)) → length (phases_of v) ≡ weigh is_seat v
  length_of [] = refl
  length_of (p ∷ v) =
      let a = length_if (nat_lt p.number MAX_SEATS) (in_protocol p.phase) (phases_of v) in
      let b = length_of v in omega arith

  length_in : (vs : List (List (SeatView M C R))) → length (phases_in vs) ≡ weigh_all is_seat vs
  length_in [] = refl
  length_in (v ∷ vs) = let a = length-append (phases_of v) (phases_in vs) in let b = length_of v in
      let c = length_in vs in omega arith

  -- the counts of the protocol are the sums of the rule
  waits_in : (x : ℕ) (f : Phase M C R) → waits_there x (in_protocol f) ≡ waits x f
  waits_in x Idle = refl
  waits_in x (Waiting t) = refl
  waits_in x (Marked t) = refl
  waits_in x (Looked t) = refl
  waits_in x (Inside t y) = refl
  waits_in x (Done t) = refl
  waits_in x (Served t) = refl
  waits_in x (Owes k n) = refl
  waits_in x (Found k n) = refl
  waits_in x (Wakes k n) = refl

  busy_in : (f : Phase M C R) → busy (in_protocol f) ≡ is_inside f + is_done f
  busy_in Idle = refl
  busy_in (Waiting t) = refl
  busy_in (Marked t) = refl
  busy_in (Looked t) = refl
  busy_in (Inside t y) = refl
  busy_in (Done t) = refl
  busy_in (Served t) = refl
  busy_in (Owes k n) = refl
  busy_in (Found k n) = refl
  busy_in (Wakes k n) = refl

  holds_in : (f : Phase M C R) → holds_there (in_protocol f) ≡ holds f
  holds_in Idle = refl
  holds_in (Waiting t) = refl
  holds_in (Marked t) = refl
  holds_in (Looked t) = refl
  holds_in (Inside t y) = refl
  holds_in (Done t) = refl
  holds_in (Served t) = refl
  holds_in (Owes k n) = refl
  holds_in (Found k n) = refl
  holds_in (Wakes k n) = refl

  may_sleep_in : (x : ℕ) (f : Phase M C R) → may_sleep_there x (in_protocol f) ≡ may_sleep x f
  may_sleep_in x Idle = refl
  may_sleep_in x (Waiting t) = refl
  may_sleep_in x (Marked t) = refl
  may_sleep_in x (Looked t) = refl
  may_sleep_in x (Inside t y) = refl
  may_sleep_in x (Done t) = refl
  may_sleep_in x (Served t) = refl
  may_sleep_in x (Owes k n) = refl
  may_sleep_in x (Found k n) = refl
  may_sleep_in x (Wakes k n) = refl

  will_peek_in : (x : ℕ) (f : Phase M C R) → will_peek_there x (in_protocol f) ≡ will_peek x f
  will_peek_in x Idle = refl
  will_peek_in x (Waiting t) = refl
  will_peek_in x (Marked t) = refl
  will_peek_in x (Looked t) = refl
  will_peek_in x (Inside t y) = refl
  will_peek_in x (Done t) = refl
  will_peek_in x (Served t) = refl
  will_peek_in x (Owes k n) = refl
  will_peek_in x (Found k n) = refl
  will_peek_in x (Wakes k n) = refl

  weigh-add : (f g : SeatView M C R → ℕ) (v : List (SeatView M C R))
      → weigh (λ p. f p + g p) v ≡ weigh f v + weigh g v
  weigh-add f g [] = refl
  weigh-add f g (p ∷ v) = let h = weigh-add f g v in omega arith

  weigh_all-add : (f g : SeatView M C R → ℕ) (vs : List (List (SeatView M C R)))
      → weigh_all (λ p. f p + g p) vs ≡ weigh_all f vs + weigh_all g vs
  weigh_all-add f g [] = refl
  weigh_all-add f g (v ∷ vs) = let a = weigh-add f g v in let b = weigh_all-add f g vs in
      omega arith

  weigh-zero : (v : List (SeatView M C R)) → weigh (λ p. 0) v ≡ 0
  weigh-zero [] = refl
  weigh-zero (p ∷ v) = let h = weigh-zero v in omega arith

  weigh_all-zero : (vs : List (List (SeatView M C R))) → weigh_all (λ p. 0) vs ≡ 0
  weigh_all-zero [] = refl
  weigh_all-zero (v ∷ vs) = let a = weigh-zero v in let b = weigh_all-zero vs in omega arith

  none_asleep : (ws : List ℕ) (x : ℕ) → slice_index ws (x % length ws) ≢ x + 1 → (f : Phase M C R)
      → sleeps x (asleep_if_marked ws (in_protocol f)) ≡ 0
  none_asleep ws x gone Idle = refl
  none_asleep ws x gone (Waiting t) = refl
  none_asleep ws x gone (Marked t) = refl
  none_asleep ws x gone (Looked t) = unmarked_awake ws x t gone
  none_asleep ws x gone (Inside t y) = refl
  none_asleep ws x gone (Done t) = refl
  none_asleep ws x gone (Served t) = refl
  none_asleep ws x gone (Owes k n) = refl
  none_asleep ws x gone (Found k n) = refl
  none_asleep ws x gone (Wakes k n) = refl

  marked_seen : (a b : ℕ) (ws : List ℕ) (vs : List (List (SeatView M C R)))
      → SleepersAreSeen (state_with (a ∷ b ∷ ws) (map (asleep_if_marked ws) (phases_in vs)))
  marked_seen a b ws vs x some_asleep = dite (ℕ_discrete (slice_index ws (x % length ws)) (x + 1))
      (λ (e : slice_index ws (x % length ws) ≡ x + 1). inl e)
      (λ (gone : slice_index ws (x % length ws) ≢ x + 1). let m =
      count-map (sleeps x) (asleep_if_marked ws) (phases_in vs) in
      let n = count_in (λ p. sleeps x (asleep_if_marked ws p)) (λ f. 0) (none_asleep ws x gone)
      vs (λ j v e. each_any (AsIdle (λ f. 0)) (λ p h. refl) v) in let z = weigh_all-zero vs in absurd (omega arith))

not_lost : (w : WaitState) → Sound w → NoWakeIsLostIn w
not_lost w h = record {
  under_way = wake_under_way w h;
  goes_on = goes_on w h;
  not_stuck = not_stuck w h;
  still_seen = λ e. (happens_sound w e h).mark_or_wake;
}

module _ {M C R : Type 0} (after : M → ℕ → C → M) (answer : M → ℕ → C → R) (about : About M) where
  -- the rule gives the invariant of the protocol
  sound : (s : State (SlotValue M C R) (List (SeatView M C R))) (phases : List WaitPhase)
      (r : Ruled after answer about s)
      → AreThere (phases_in s.views) phases
      → SleepersAreSeen record {
        next = r.next;
        serving = r.serving;
        words = r.wake_words;
        phases = phases;
      }
      → Sound record { next = r.next; serving = r.serving; words = r.wake_words; phases = phases }
  sound s phases r there seen =
      let idle = λ (f : Phase M C R → ℕ) (zero_at : f Idle ≡ 0) (j : ℕ) (v : List (SeatView M C R))
      (at : get_elem? s.views j ≡ some v).
      each_map (Fit after about r.serving r.history) (AsIdle f) v
      (λ p fit no. let w = of_none about.seats p r.few fit.numbered no in ap f w.2 ∙ zero_at)
      (r.each j v at) in
      let waits_are =
      λ (x : ℕ). sym (count_there (waits_there x) (λ t. refl) (λ t. refl) (phases_in s.views) phases there)
      ∙ count_in (waits_there x) (waits x) (waits_in x) s.views (idle (waits x) refl) in
      let busy_are = sym (count_there busy (λ t. refl) (λ t. refl) (phases_in s.views) phases there)
      ∙ (count_in busy (λ f. is_inside f + is_done f) busy_in s.views
      (idle (λ f. is_inside f + is_done f) refl)
      ∙ weigh_all-add (λ p. is_inside p.phase) (λ p. is_done p.phase) s.views) in
      let holds_are = sym (count_there holds_there (λ t. refl) (λ t. refl) (phases_in s.views) phases there)
      ∙ count_in holds_there holds holds_in s.views (idle holds refl) in
      let in_one = r.inside_is in let done_one = r.done_is in
      record {
        drawn = omega (arith, holds_are, r.drawn);
        turn = λ lt. let a = waits_are r.serving in let b = r.queue.turn lt in
            omega (arith, busy_are);
        later = λ x gt lt. waits_are x ∙ r.queue.later x gt lt;
        past = λ x lt. waits_are x ∙ r.queue.past x lt;
        future = λ x le. waits_are x ∙ r.queue.future x le;
        quiet = λ e. let b = r.queue.quiet e in omega (arith, busy_are);
        words = let a = length_there (phases_in s.views) phases there in
            let b = length_in s.views in omega (arith, r.seats_are, r.few, r.one_each);
        mark_or_wake = seen;
        peek_owed = λ some_may stands.
            let less = count_less r.serving (phases_in s.views) phases there in
            let a = count_in (may_sleep_there r.serving) (may_sleep r.serving)
            (may_sleep_in r.serving) s.views (idle (may_sleep r.serving) refl) in
            let b = sym (count_there (will_peek_there r.serving) (λ t. refl) (λ t. refl) (phases_in s.views)
            phases there)
            ∙ count_in (will_peek_there r.serving) (will_peek r.serving) (will_peek_in r.serving)
            s.views (idle (will_peek r.serving) refl) in
            let here : slice_index s.words (wake_word r.serving) ≡ r.serving + 1 =
            ap (λ ws. slice_index ws (wake_word r.serving)) r.words
            ∙ (index_past r.next r.serving (r.serving % MAX_SEATS) r.wake_words
            ∙ (ap (λ (n : ℕ). slice_index r.wake_words (r.serving % n)) (sym r.one_each)
            ∙ stands)) in
            let z = r.owed (omega arith) here in omega arith;
      }

  of_sleepers : (s : State (SlotValue M C R) (List (SeatView M C R))) (phases : List WaitPhase)
      → Ruled after answer about s
      → AreThere (phases_in s.views) phases → SleepersAreSeen (state_with s.words phases)
      → NoWakeIsLostIn (state_with s.words phases)
  of_sleepers s phases r there =
      subst (λ ws. SleepersAreSeen (state_with ws phases) → NoWakeIsLostIn (state_with ws phases))
      (sym r.words)
      (λ seen. not_lost
      (record { next = r.next; serving = r.serving; words = r.wake_words; phases = phases })
      (sound s phases r there seen))

  of_marked : (s : State (SlotValue M C R) (List (SeatView M C R))) → Ruled after answer about s
      → NoWakeIsLostIn
      (state_with s.words (map (asleep_if_marked (drop 2 s.words)) (phases_in s.views)))
  of_marked s r = of_sleepers s (map (asleep_if_marked (drop 2 s.words)) (phases_in s.views)) r
      (all_marked_there (drop 2 s.words) (phases_in s.views))
      (subst (λ ws. SleepersAreSeen
      (state_with ws (map (asleep_if_marked (drop 2 ws)) (phases_in s.views)))) (sym r.words)
      (marked_seen r.next r.serving r.wake_words s.views))

pub no_wake_is_lost : {M C R : Type 0} (after : M → ℕ → C → M) (answer : M → ℕ → C → R)
    → NoWakeIsLostInLock after answer
no_wake_is_lost after answer = record {
  sleepers = λ about s phases r there seen. of_sleepers after answer about s phases r there seen;
  marked = λ about s r. of_marked after answer about s r;
}
