-- Rounds of accesses: each is a round of events, or a seat has noted its call in it. Then the next
-- round raises the ticket that is served.
use Rattle.std.proofs.Common.{◌≡◌, ℕ, zero, suc, ◌+◌, ◌-◌, ◌*◌, ◌<◌, ◌≤◌, ◌⊎◌, true, false}
use Rattle.std.proofs.Common.{List, [], ◌∷◌, length, refl, sym, ap, subst, arith, inl, inr}
use Rattle.std.proofs.Common.{⊎_elim, slice_index}
use mathlib.Core.Logic.{dite}
use native.Mathlib.Decide.{dec_le}
use Rattle.bw_lend.specs.Crowd.{Crowd, Event, Inside, Helping, Phase, Has, Leaves}
use Rattle.bw_lend.specs.CrowdLaws.{is_still}
use Rattle.bw_lend.specs.CrowdRounds.{AreRounds, run_rounds}
use Rattle.bw_lend.specs.BothTables.{Both, BothTurn, BothLead, thread_of, is_access, is_event}
use Rattle.bw_lend.specs.BothTables.{MakesPicked, opened_both, LeadInRoundsOf}
use Rattle.bw_lend.specs.BothTables.{AccessesServeDrawnTickets}
use Rattle.bw_lend.proofs.CrowdStages.{run_le, run_drawn}
use Rattle.bw_lend.proofs.CrowdRises.{seventeen_rounds}
use Rattle.bw_lend.proofs.BothHeld.{IsInside, Joined}
use Rattle.bw_lend.proofs.BothLed.{one_both, led, at_first}
use Rattle.bw_lend.proofs.BothNotes.{IsNoted, its_place, goes_on, accesses}

is_up : (q : Phase) (t : ℕ) → IsInside q t → is_still q ≡ false
is_up q t inside = ⊎_elim (λ (at : q ≡ Has t Inside). ap is_still at)
    (λ (x : (js : List ℕ) × (j : ℕ) × (q ≡ Leaves t js (Helping j))). ap is_still x.2) inside

module _ {M C R : Type 0} where
  -- neither number falls
  serving_le : (b c : Both M C R) (ts : List BothTurn) → Joined b → BothLead b ts c
      → b.hall.crowd.serving ≤ c.hall.crowd.serving
  serving_le b c ts m l = let a = led b c ts m l in
      subst (λ (x : Crowd). b.hall.crowd.serving ≤ x.serving) a.2
      (run_le b.hall.crowd a.0 m.meets.sound)

  next_le : (b c : Both M C R) (ts : List BothTurn) → Joined b → BothLead b ts c
      → b.hall.crowd.next ≤ c.hall.crowd.next
  next_le b c ts m l = let a = led b c ts m l in
      subst (λ (x : Crowd). b.hall.crowd.next ≤ x.next) a.2
      (run_drawn b.hall.crowd a.0 m.meets.sound)

  -- what the turns of a thread lead to that has noted its call: it makes no access, or serves
  noted_led : (b c : Both M C R) (ts : List BothTurn) (i j : ℕ) → Joined b → BothLead b ts c
      → IsNoted b i j → (b.hall.crowd.serving < c.hall.crowd.serving)
      ⊎ (IsNoted c i j × (MakesPicked is_access i ts → ⊥))
  noted_led b c [] i j m l at =
      inr (subst (λ (x : Both M C R). IsNoted x i j) (sym l) at, λ h. h)
  noted_led b c (t ∷ ts) i j m l at =
      let joined = (one_both b l.0 m t l.1).1 in
      ⊎_elim (λ (up : b.hall.crowd.serving < l.0.hall.crowd.serving).
      let le = serving_le l.0 c ts joined l.2 in inl (omega arith))
      (λ (k : IsNoted l.0 i j × (thread_of t ≡ i → is_access t ≡ true → ⊥)).
      let first = serving_le b l.0 (t ∷ []) m (l.0, l.1, refl) in
      ⊎_elim (λ (up : l.0.hall.crowd.serving < c.hall.crowd.serving). inl (omega arith))
      (λ (r : IsNoted c i j × (MakesPicked is_access i ts → ⊥)). inr (
        r.0,
        λ h. ⊎_elim (λ (own : (thread_of t ≡ i) × (is_access t ≡ true)). k.1 own.0 own.1)
            (λ (later : MakesPicked is_access i ts). r.1 later) h,
      ))
      (noted_led l.0 c ts i j joined l.2 k.0))
      (goes_on b l.0 m i j at t l.1)

  -- what a list of turns leads to: each access is an event, or the served ticket has been raised, or
  -- a seat has noted its call
  abbrev Ahead : Both M C R → List BothTurn → Both M C R → Type 0
  Ahead b ts c = ((i : ℕ) → MakesPicked is_access i ts → MakesPicked is_event i ts)
      ⊎ ((b.hall.crowd.serving < c.hall.crowd.serving) ⊎ ((i : ℕ) × (j : ℕ) × IsNoted c i j))

  ahead : (b c : Both M C R) (ts : List BothTurn) → Joined b → BothLead b ts c → Ahead b ts c
  ahead b c [] m l = inl (λ i h. absurd h)
  ahead b c (t ∷ ts) m l =
      let joined = (one_both b l.0 m t l.1).1 in
      let first = serving_le b l.0 (t ∷ []) m (l.0, l.1, refl) in
      ⊎_elim (λ (is : is_access t ≡ true → is_event t ≡ true).
      ⊎_elim (λ (k : (i : ℕ) → MakesPicked is_access i ts → MakesPicked is_event i ts).
      inl (λ i h. ⊎_elim (λ (own : (thread_of t ≡ i) × (is_access t ≡ true)).
      inl (own.0, is own.1)) (λ (later : MakesPicked is_access i ts). inr (k i later)) h))
      (λ z. ⊎_elim (λ (up : l.0.hall.crowd.serving < c.hall.crowd.serving).
      inr (inl (omega arith)))
      (λ (n : (i : ℕ) × (j : ℕ) × IsNoted c i j). inr (inr n)) z)
      (ahead l.0 c ts joined l.2))
      (λ (n : (i : ℕ) × (j : ℕ) × IsNoted l.0 i j).
      ⊎_elim (λ (up : l.0.hall.crowd.serving < c.hall.crowd.serving).
      inr (inl (omega arith)))
      (λ (r : IsNoted c n.0 n.1 × (MakesPicked is_access n.0 ts → ⊥)). inr (inr (n.0, n.1, r.0)))
      (noted_led l.0 c ts n.0 n.1 joined l.2 n.2))
      (accesses b l.0 m t l.1)

  -- the same of rounds
  rounds_le : (b c : Both M C R) (rs : List (List BothTurn)) → Joined b → LeadInRoundsOf is_access b rs c
      → b.hall.crowd.serving ≤ c.hall.crowd.serving
  rounds_le b c [] m l = subst (λ (x : Both M C R). b.hall.crowd.serving ≤ x.hall.crowd.serving)
      (sym l) (let same : b.hall.crowd.serving ≤ b.hall.crowd.serving = omega arith in same)
  rounds_le b c (r ∷ rs) m l = let first = serving_le b l.0 r m l.1 in
      let others = rounds_le l.0 c rs (led b l.0 r m l.1).1 l.3 in omega arith

  -- So many rounds of events, and one more of accesses: where a seat notes its call, the round after
  -- that is enough.
  events_or_up : (n : ℕ) (b c : Both M C R) (rs : List (List BothTurn)) → Joined b
      → n + 1 ≤ length rs → LeadInRoundsOf is_access b rs c
      → (b.hall.crowd.serving < c.hall.crowd.serving)
      ⊎ ((lists : List (List Event)) × (length lists ≡ n) × AreRounds b.hall.crowd lists
      × ((run_rounds b.hall.crowd lists).serving ≤ c.hall.crowd.serving))
  events_or_up zero b c rs m few l = inr ([], refl, tt, rounds_le b c rs m l)
  events_or_up (suc n) b c [] m few l = absurd (omega arith)
  events_or_up (suc n) b c (r ∷ []) m few l = absurd (omega arith)
  events_or_up (suc n) b c (r ∷ q ∷ rs) m few l =
      let a = led b l.0 r m l.1 in let s = b.hall.crowd in
      let first = serving_le b l.0 r m l.1 in
      let others = rounds_le l.0 c (q ∷ rs) a.1 l.3 in
      ⊎_elim (λ (k : (i : ℕ) → MakesPicked is_access i r → MakesPicked is_event i r).
      ⊎_elim (λ (up : l.0.hall.crowd.serving < c.hall.crowd.serving). inl (omega arith))
      (λ (d : (lists : List (List Event)) × (length lists ≡ n) × AreRounds l.0.hall.crowd lists
      × ((run_rounds l.0.hall.crowd lists).serving ≤ c.hall.crowd.serving)). inr (
        a.0 ∷ d.0,
        ap suc d.1,
        (
          λ i up. a.3 i (k i (l.2 i up)),
          subst (λ (x : Crowd). AreRounds x d.0) (sym a.2) d.2,
        ),
        subst (λ (x : Crowd). (run_rounds x d.0).serving ≤ c.hall.crowd.serving) (sym a.2) d.3,
      ))
      (events_or_up n l.0 c (q ∷ rs) a.1 (omega arith) l.3))
      (λ z. ⊎_elim (λ (up : s.serving < l.0.hall.crowd.serving). inl (omega arith))
      (λ (at : (i : ℕ) × (j : ℕ) × IsNoted l.0 i j). let next = l.3 in
      let later = rounds_le next.0 c rs (led l.0 next.0 q a.1 next.1).1 next.3 in
      ⊎_elim (λ (up : l.0.hall.crowd.serving < next.0.hall.crowd.serving). inl (omega arith))
      (λ (stays : IsNoted next.0 at.0 at.1 × (MakesPicked is_access at.0 q → ⊥)).
      absurd (stays.1 (next.2 at.0 (is_up (l.0.hall.crowd.phase at.0) at.2.1
      (its_place l.0 next.0 a.1 at.0 at.1 at.2)))))
      (noted_led l.0 next.0 q at.0 at.1 a.1 next.1 at.2)) z)
      (ahead b l.0 r m l.1)

  eighteen_rounds : (b c : Both M C R) (rs : List (List BothTurn)) → Joined b
      → b.hall.crowd.serving < b.hall.crowd.next → 18 ≤ length rs → LeadInRoundsOf is_access b rs c
      → b.hall.crowd.serving < c.hall.crowd.serving
  eighteen_rounds b c rs m lt few l =
      ⊎_elim (λ (up : b.hall.crowd.serving < c.hall.crowd.serving). up)
      (λ (d : (lists : List (List Event)) × (length lists ≡ 17) × AreRounds b.hall.crowd lists
      × ((run_rounds b.hall.crowd lists).serving ≤ c.hall.crowd.serving)).
      let long = d.1 in let le = d.3 in
      let up : b.hall.crowd.serving < (run_rounds b.hall.crowd d.0).serving =
      seventeen_rounds b.hall.crowd m.meets.sound lt [] d.0 (omega arith) d.2 in omega arith)
      (events_or_up 17 b c rs m few l)

  -- so many rounds, and the others
  first_rounds : (n : ℕ) (b c : Both M C R) (rs : List (List BothTurn)) → Joined b
      → n ≤ length rs → LeadInRoundsOf is_access b rs c
      → (x : Both M C R) × (early : List (List BothTurn))
      × (late : List (List BothTurn))
      × (length early ≡ n) × (n + length late ≡ length rs) × LeadInRoundsOf is_access b early x
      × LeadInRoundsOf is_access x late c × Joined x × (b.hall.crowd.next ≤ x.hall.crowd.next)
  first_rounds zero b c rs m few l =
      (b, [], rs, refl, omega arith, refl, l, m, same)
    where
      same : b.hall.crowd.next ≤ b.hall.crowd.next
      same = omega arith
  first_rounds (suc n) b c [] m few l = absurd (omega arith)
  first_rounds (suc n) b c (r ∷ rs) m few l =
      let f = first_rounds n l.0 c rs (led b l.0 r m l.1).1 (omega arith) l.3 in
      let long = f.3 in let all = f.4 in let up = next_le b l.0 r m l.1 in let on = f.8 in (
        f.0,
        r ∷ f.1,
        f.2,
        omega arith,
        omega arith,
        (l.0, l.1, l.2, f.5),
        f.6,
        f.7,
        omega arith,
      )

  in_time : (n : ℕ) (b c : Both M C R) (rs : List (List BothTurn)) (ticket : ℕ) → Joined b
      → ticket < b.hall.crowd.next → ticket + 1 - b.hall.crowd.serving ≤ n → 18 * n ≤ length rs
      → LeadInRoundsOf is_access b rs c → ticket < c.hall.crowd.serving
  in_time zero b c rs ticket m lt near few l = let le = rounds_le b c rs m l in omega arith
  in_time (suc n) b c rs ticket m lt near few l = dite (dec_le (suc ticket) b.hall.crowd.serving)
      (λ (past : ticket < b.hall.crowd.serving). let le = rounds_le b c rs m l in omega arith)
      (λ on. let f = first_rounds 18 b c rs m (omega arith) l in
      let long = f.3 in let all = f.4 in let drawn = f.8 in
      let up : b.hall.crowd.serving < f.0.hall.crowd.serving =
      eighteen_rounds b f.0 f.1 m (omega arith) (omega arith) f.5 in
      in_time n f.0 c f.2 ticket f.7 (omega arith) (omega arith) (omega arith) f.6)

module _ {M C R : Type 0} where
  joined_after : (b c : Both M C R) (rs : List (List BothTurn)) → Joined b
      → LeadInRoundsOf is_access b rs c → Joined c
  joined_after b c [] m l = subst (λ (x : Both M C R). Joined x) (sym l) m
  joined_after b c (r ∷ rs) m l = joined_after l.0 c rs (led b l.0 r m l.1).1 l.3

pub accesses_serve : (M C R : Type 0) → AccessesServeDrawnTickets M C R
accesses_serve M C R seats words calls turns rounds b c ticket le leads lt many in_rounds =
    let a = led (opened_both seats words calls) b turns (at_first seats words calls le) leads in
    let next = a.1.words.0 in let serving = a.1.words.1 in
    let served = in_time (ticket + 1 - b.hall.crowd.serving) b c rounds ticket a.1 (omega arith)
    (let same : b.hall.crowd.serving ≡ slice_index b.lock.words 1 = sym serving in omega arith)
    (subst (λ (x : ℕ). 18 * (ticket + 1 - x) ≤ length rounds) serving many) in_rounds in
    let end = (joined_after b c rounds a.1 in_rounds).words.1 in omega arith
