-- The invariant is kept where a ticket is drawn, where a hint is stored, and where a ticket is
-- left.
use Rattle.std.proofs.Common.{◌≡◌, ◌≢◌, ℕ, ◌+◌, ◌%◌, ◌<◌, ◌≤◌, ◌⊎◌, List, []}
use Rattle.std.proofs.Common.{Option, Some, refl, sym, ap}
use Rattle.std.proofs.Common.{◌∙◌, subst, arith, inl, inr, ⊎_elim, ◌-◌}
use mathlib.Core.Logic.{dite}
use native.Mathlib.Decide.{ℕ_discrete, dec_le}
use Rattle.bw_lend.specs.Crowd.{Stage, Drawn, Hinting, Reading}
use Rattle.bw_lend.specs.Crowd.{Inside}
use Rattle.bw_lend.specs.Crowd.{Peeking, Claiming, EnteringFor, Helping, Giving, GivingLast}
use Rattle.bw_lend.specs.Crowd.{Returning}
use Rattle.bw_lend.specs.Crowd.{Phase, Has, Leaves, Wakes, Place, Away, Posted, Claimed, Done, Back}
use Rattle.bw_lend.specs.Crowd.{Hint, Crowd, put, own_loads}
use Rattle.bw_lend.specs.CrowdLaws.{Notes, WakesFirst, Holds, Comes}
use Rattle.bw_lend.proofs.CrowdInvariant.{NotEarly, Hinted, Stands}
use Rattle.bw_lend.proofs.CrowdInvariant.{OkPlace, Ok, Sound}
use Rattle.bw_lend.proofs.CrowdKept.{put_here, put_else, Steps, ok_kept, carry}
use Rattle.bw_lend.proofs.CrowdWalks.{at_place}
use Rattle.bw_lend.proofs.CrowdTurns.{at_most}
use Rattle.bw_wake.proofs.CallerLemmas.{one_turn}
use Rattle.bw_lend.proofs.CrowdErrands.{IsOut, out_early, at_errand}

-- only the seat a is elsewhere, and all others rest on what they did
each_kept : (s z : Crowd) (a : ℕ) → Sound s
    → ((i : ℕ) → i ≢ a → z.phase i ≡ s.phase i) → ((i : ℕ) → z.place i ≡ s.place i)
    → Ok z a (z.phase a) (z.place a)
    → ((i : ℕ) → i ≢ a → Steps s z i (s.phase i) (s.place i) ⊎ Ok z i (z.phase i) (z.place i))
    → (i : ℕ) → Ok z i (z.phase i) (z.place i)
each_kept s z a y rest same here steps i = dite (ℕ_discrete i a)
    (λ e. subst (λ k. Ok z k (z.phase k) (z.place k)) (sym e) here)
    (λ ne. ⊎_elim (λ st. subst (λ p. Ok z i p (z.place i)) (sym (rest i ne))
    (subst (λ q. Ok z i (s.phase i) q) (sym (same i))
    (ok_kept s z i (s.phase i) (s.place i) st (y.each i)))) (λ ok. ok) (steps i ne))

-- the state where the seat a has drawn a ticket
abbrev took : Crowd → ℕ → Crowd
took s a = record s {
  next = s.next + 1;
  owner = put s.owner s.next a;
  phase = put s.phase a (Has s.next Drawn);
}

module _ (s : Crowd) (a : ℕ) (y : Sound s) (was : s.phase a ≡ Wakes []) where
  took_carry : (R : Phase → Type 0) → (R (Wakes []) → R (Has s.next Drawn)) → (h : ℕ)
      → R (s.phase h) → R ((took s a).phase h)
  took_carry R to h = carry s.phase (put s.phase a (Has s.next Drawn)) a (Wakes [])
      (Has s.next Drawn) was (put_here s.phase a (Has s.next Drawn))
      (λ k ne. put_else s.phase a k (Has s.next Drawn) ne) R to h

  took_owns : (t : ℕ) → t < s.next → (took s a).owner t ≡ s.owner t
  took_owns t lt = put_else s.owner s.next t a (λ e. omega arith)

  took_hinted : (x j : ℕ) → Hinted s x j → Hinted (took s a) x j
  took_hinted x j h = let lt = h.0 in (
    omega arith,
    took_owns x h.0 ∙ h.1,
    took_carry (λ p. NotEarly x p) (λ n m. omega arith) j h.2,
  )

  took_steps : (i : ℕ) → Steps s (took s a) i (s.phase i) (s.place i)
  took_steps i = record {
    more = omega arith;
    seated = omega arith;
    rises = omega arith;
    owns = took_owns;
    serves = λ t lt own. (λ h. h, λ h. h, λ h. h);
    stands = λ t lt own le h. h;
    comes = λ t lt own is_posted served st some. let w = some served in
        (w.0, took_carry (λ p. Comes p t i) (λ h. absurd h) w.0 w.1);
    holds = λ t h lt own. took_carry (λ p. Holds s.serving p t i) (λ k. absurd k) h;
    notes = λ t h asleep. took_carry (λ p. Notes p i) (λ k. absurd k) h;
    first = λ t h asleep. took_carry (λ p. WakesFirst p i) (λ k. absurd k) h;
    keeps = λ x j e. e;
    hinted = took_hinted;
  }

  took_held : (t : ℕ) → s.serving ≤ t → t < s.next + 1
      → (w : Stage) × ((took s a).phase ((took s a).owner t) ≡ Has t w)
  took_held t le lt = dite (ℕ_discrete t s.next)
      (λ e. (
        Drawn,
        subst (λ k. put s.phase a (Has s.next Drawn) (put s.owner s.next a k)
            ≡ Has k Drawn) (sym e)
            (ap (put s.phase a (Has s.next Drawn)) (put_here s.owner s.next a)
            ∙ put_here s.phase a (Has s.next Drawn)),
      ))
      (λ ne. let k = y.held t le (omega arith) in (
        k.0,
        ap (put s.phase a (Has s.next Drawn)) (took_owns t (omega arith))
            ∙ put_else s.phase a (s.owner t) (Has s.next Drawn) (not_a t k.0 k.1) ∙ k.1,
      ))
    where
      not_a : (t : ℕ) (w : Stage) → s.phase (s.owner t) ≡ Has t w → s.owner t ≢ a
      not_a t w e m = let x : Wakes [] ≡ Has t w = sym was ∙ ap s.phase (sym m) ∙ e in cc x

  pub take_sound : a < s.seats → Sound (took s a)
  take_sound lt = let home : s.place a ≡ Away =
      subst (λ p. Ok s a p (s.place a)) was (y.each a) in
      let le = y.drawn in record {
        drawn = omega arith;
        room = y.room;
        each = each_kept s (took s a) a y
            (λ i ne. put_else s.phase a i (Has s.next Drawn) ne) (λ i. refl)
            (subst (λ p. Ok (took s a) a p (s.place a))
            (sym (put_here s.phase a (Has s.next Drawn))) (
              (omega arith),
              put_here s.owner s.next a,
              lt,
              subst (λ q. OkPlace (took s a) a s.next Drawn q) (sym home) le,
            ))
            (λ i ne. inl (took_steps i));
        held = took_held;
        hints = λ b x j e. took_hinted x j (y.hints b x j e);
      }

-- Tickets that are drawn and not left have different hint words.
module _ (s : Crowd) (y : Sound s) where
  few_tickets : s.next ≤ s.serving + s.words
  few_tickets = let le = y.drawn in let room = y.room in
      let few = at_most s.seats (s.next - s.serving) (λ k. s.owner (s.serving + k)) below apart in
      omega arith
    where
      below : (k : ℕ) → k < s.next - s.serving → s.owner (s.serving + k) < s.seats
      below k lt = let h = y.held (s.serving + k) (omega arith) (omega arith) in
          let ok =
          subst (λ p. Ok s (s.owner (s.serving + k)) p (s.place (s.owner (s.serving + k)))) h.1
          (y.each (s.owner (s.serving + k))) in ok.2

      apart : (j k : ℕ) → j < s.next - s.serving → k < s.next - s.serving
          → s.owner (s.serving + j) ≡ s.owner (s.serving + k) → j ≡ k
      apart j k lj lk e = let h = y.held (s.serving + j) (omega arith) (omega arith) in
          let m = y.held (s.serving + k) (omega arith) (omega arith) in
          let x : Has (s.serving + j) h.0 ≡ Has (s.serving + k) m.0 =
          sym h.1 ∙ ap s.phase e ∙ m.1 in
          let same : s.serving + j ≡ s.serving + k = cc x in omega arith

  words_apart : (t u : ℕ) → s.serving ≤ t → t < s.next → s.serving ≤ u → u < s.next → u ≢ t
      → u % s.words ≢ t % s.words
  words_apart t u le lt ge gt ne e = let few = few_tickets in dite (dec_le u t)
      (λ (below : u ≤ t). ne (one_turn u t s.words below (omega arith) e))
      (λ above. ne (sym (one_turn t u s.words (omega arith) (omega arith) (sym e))))

-- the state where the seat a has stored its hint
abbrev stored : Crowd → ℕ → ℕ → Crowd
stored s a t = record s {
  phase = put s.phase a (Has t Reading);
  hint = put s.hint (t % s.words) (Some (record { ticket = t; seat = a }));
}

module _ (s : Crowd) (a t : ℕ) (y : Sound s) (was : s.phase a ≡ Has t Hinting) where
  stored_carry : (R : Phase → Type 0) → (R (Has t Hinting) → R (Has t Reading)) → (h : ℕ)
      → R (s.phase h) → R ((stored s a t).phase h)
  stored_carry R to h = carry s.phase (put s.phase a (Has t Reading)) a (Has t Hinting)
      (Has t Reading) was (put_here s.phase a (Has t Reading))
      (λ k ne. put_else s.phase a k (Has t Reading) ne) R to h

  stored_hinted : (x j : ℕ) → Hinted s x j → Hinted (stored s a t) x j
  stored_hinted x j h = (h.0, h.1, stored_carry (λ p. NotEarly x p) (λ n. tt) j h.2)

  is_posted_here : (q : Place) → s.place a ≡ q
      → (t < s.next) × (s.owner t ≡ a) × (a < s.seats) × (s.serving ≤ t) × (q ≡ Posted t)
  is_posted_here Away had = absurd ((at_place s a t y Hinting Away was had).3)
  is_posted_here (Posted u) had = let ok = at_place s a t y Hinting (Posted u) was had in
      (ok.0, ok.1, ok.2, ok.3.1, ap Posted ok.3.0)
  is_posted_here (Claimed u b) had =
      absurd ((at_place s a t y Hinting (Claimed u b) was had).3.1)
  is_posted_here (Done u b) had = absurd ((at_place s a t y Hinting (Done u b) was had).3.2)
  is_posted_here (Back u b) had = absurd ((at_place s a t y Hinting (Back u b) was had).3.2)

  stored_steps : (i : ℕ) → i ≢ a → Steps s (stored s a t) i (s.phase i) (s.place i)
  stored_steps i ne = let here = is_posted_here (s.place a) refl in record {
    more = omega arith;
    seated = omega arith;
    rises = omega arith;
    owns = λ u lt. refl;
    serves = λ u lt own. (λ h. h, λ h. h, λ h. h);
    stands = λ u lt own le h. stand u lt own le h;
    comes = λ u lt own is_posted served st some. let w = some served in
        (w.0, stored_carry (λ p. Comes p u i) (λ h. absurd h) w.0 w.1);
    holds = λ u h lt own. stored_carry (λ p. Holds s.serving p u i) (λ k. absurd k) h;
    notes = λ u h asleep. stored_carry (λ p. Notes p i) (λ k. absurd k) h;
    first = λ u h asleep. stored_carry (λ p. WakesFirst p i) (λ k. absurd k) h;
    keeps = λ x j e. e;
    hinted = stored_hinted;
  }
    where
      stand : (u : ℕ) → u < s.next → s.owner u ≡ i → s.serving ≤ u → Stands s u i
          → Stands (stored s a t) u i
      stand u lt own le h = let here = is_posted_here (s.place a) refl in
          put_else s.hint (t % s.words) (u % s.words) (Some (record { ticket = t; seat = a }))
          (words_apart s y t u here.3 here.0 le lt
          (λ e. ne (sym own ∙ ap s.owner e ∙ here.1))) ∙ h

  pub store_hint_sound : Sound (stored s a t)
  store_hint_sound = let here = is_posted_here (s.place a) refl in record {
    drawn = y.drawn;
    room = y.room;
    each = each_kept s (stored s a t) a y
        (λ i ne. put_else s.phase a i (Has t Reading) ne) (λ i. refl)
        (subst (λ p. Ok (stored s a t) a p (s.place a)) (sym (put_here s.phase a (Has t Reading)))
        (subst (λ q. Ok (stored s a t) a (Has t Reading) q) (sym here.4) (
          here.0,
          here.1,
          here.2,
          (refl, here.3, put_here s.hint (t % s.words) (Some (record { ticket = t; seat = a }))),
        )))
        (λ i ne. inl (stored_steps i ne));
    held = λ u le lt. let k = y.held u le lt in dite (ℕ_discrete (s.owner u) a)
        (λ e. (
          Reading,
          ap (put s.phase a (Has t Reading)) e ∙ put_here s.phase a (Has t Reading)
              ∙ ap (λ v. Has v Reading) (same u k.0 k.1 e),
        ))
        (λ ne. (k.0, put_else s.phase a (s.owner u) (Has t Reading) ne ∙ k.1));
    hints = λ b x j e. dite (ℕ_discrete b (t % s.words))
        (λ m. let n : Some (record { ticket = t; seat = a })
        ≡ Some (record { ticket = x; seat = j }) =
        sym (put_here s.hint (t % s.words) (Some (record { ticket = t; seat = a })))
        ∙ ap (put s.hint (t % s.words) (Some (record { ticket = t; seat = a }))) (sym m) ∙ e in
        of_hint x j n)
        (λ ne. stored_hinted x j (y.hints b x j
        (sym (put_else s.hint (t % s.words) b (Some (record { ticket = t; seat = a })) ne) ∙ e)));
  }
    where
      same : (u : ℕ) (w : Stage) → s.phase (s.owner u) ≡ Has u w → s.owner u ≡ a → t ≡ u
      same u w e m = let n : Has t Hinting ≡ Has u w = sym was ∙ ap s.phase (sym m) ∙ e in cc n

      of_hint : (x j : ℕ) → ◌≡◌ {A = Option Hint} (Some (record { ticket = t; seat = a }))
          (Some (record { ticket = x; seat = j })) → Hinted (stored s a t) x j
      of_hint x j n =
          let k : ◌≡◌ {A = Hint} (record { ticket = t; seat = a })
          (record { ticket = x; seat = j }) = cc n in
          let is_t : t ≡ x = ap (λ (h : Hint). h.ticket) k in
          let is_a : a ≡ j = ap (λ (h : Hint). h.seat) k in
          let here = is_posted_here (s.place a) refl in
          subst (λ v. Hinted (stored s a t) v j) is_t
          (subst (λ v. Hinted (stored s a t) t v) is_a (
            here.0,
            here.1,
            subst (λ p. NotEarly t p) (sym (put_here s.phase a (Has t Reading))) tt,
          ))

-- the state where the seat a has left with the ticket that was served
abbrev left_by : Crowd → ℕ → Phase → Crowd
left_by s a r = record s { serving = s.serving + 1; phase = put s.phase a r }

holds_on : (v u i : ℕ) (p : Phase) → u ≢ v → Holds v p u i → Holds (v + 1) p u i
holds_on v u i (Has t w) ne h = h
holds_on v u i (Leaves x js (Peeking k)) ne h = h
holds_on v u i (Leaves x js (Claiming j)) ne h = h
holds_on v u i (Leaves x js (EnteringFor j)) ne h = absurd (ne h.2)
holds_on v u i (Leaves x js (Helping j)) ne h = absurd (ne h.2)
holds_on v u i (Leaves x js (Giving j k)) ne h = (h.0, h.1, (let lt = h.2 in omega arith))
holds_on v u i (Leaves x js (GivingLast j)) ne h = (h.0, h.1, (let lt = h.2 in omega arith))
holds_on v u i (Leaves x js (Returning j)) ne h = absurd (ne h.2)
holds_on v u i (Wakes js) ne h = h

-- The seat a leaves; the ticket that was served is of the seat b.
module _ (s : Crowd) (a b : ℕ) (p r : Phase) (y : Sound s) (was : s.phase a ≡ p)
    (out : IsOut r) where
  left_carry : (R : Phase → Type 0) → (R p → R r) → (h : ℕ)
      → R (s.phase h) → R ((left_by s a r).phase h)
  left_carry R to h = carry s.phase (put s.phase a r) a p r was (put_here s.phase a r)
      (λ k ne. put_else s.phase a k r ne) R to h

  left_hinted : (x j : ℕ) → Hinted s x j → Hinted (left_by s a r) x j
  left_hinted x j h = (h.0, h.1, left_carry (λ q. NotEarly x q) (λ n. out_early r x out) j h.2)

  left_steps : (s.owner s.serving ≡ b) → ((t i : ℕ) → i ≢ b → Holds (s.serving + 1) p t i → ⊥)
      → ((i : ℕ) → Notes p i → Notes r i) → ((i : ℕ) → WakesFirst p i → WakesFirst r i)
      → ((i : ℕ) → Comes r (s.serving + 1) i)
      → (i : ℕ) → i ≢ b → Steps s (left_by s a r) i (s.phase i) (s.place i)
  left_steps mine gone notes first comes i ne = record {
    more = omega arith;
    seated = omega arith;
    rises = omega arith;
    owns = λ u lt. refl;
    serves = λ u lt own. let other = not_served u own in
        (λ h. omega arith, λ h. absurd (other h), λ h. omega arith);
    stands = λ u lt own le h. h;
    comes = λ u lt own is_posted served st some. (
      a,
      subst (λ q. Comes q u i) (sym (put_here s.phase a r))
          (subst (λ k. Comes r k i) (sym served) (comes i)),
    );
    holds = λ u h lt own k. left_carry (λ q. Holds (s.serving + 1) q u i)
        (λ m. absurd (gone u i ne m)) h
        (holds_on s.serving u i (s.phase h) (not_served u own) k);
    notes = λ u h asleep. left_carry (λ q. Notes q i) (notes i) h;
    first = λ u h asleep. left_carry (λ q. WakesFirst q i) (first i) h;
    keeps = λ x j e. e;
    hinted = left_hinted;
  }
    where
      not_served : (u : ℕ) → s.owner u ≡ i → u ≢ s.serving
      not_served u own e = ne (sym own ∙ ap s.owner e ∙ mine)

  pub left_sound : s.serving < s.next → (s.owner s.serving ≡ b)
      → ((t i : ℕ) → i ≢ b → Holds (s.serving + 1) p t i → ⊥)
      → ((i : ℕ) → Notes p i → Notes r i) → ((i : ℕ) → WakesFirst p i → WakesFirst r i)
      → ((i : ℕ) → Comes r (s.serving + 1) i)
      → ((t : ℕ) (w : Stage) → s.serving < t → p ≡ Has t w → ⊥)
      → Ok (left_by s a r) a r (s.place a)
      → Ok (left_by s a r) b ((left_by s a r).phase b) (s.place b)
      → Sound (left_by s a r)
  left_sound lt mine gone notes first comes no_more here there = record {
    drawn = omega arith;
    room = y.room;
    each = each_kept s (left_by s a r) a y (λ i ne. put_else s.phase a i r ne) (λ i. refl)
        (subst (λ q. Ok (left_by s a r) a q (s.place a)) (sym (put_here s.phase a r)) here)
        (λ i ne. dite (ℕ_discrete i b)
        (λ e. inr (subst (λ k. Ok (left_by s a r) k ((left_by s a r).phase k) (s.place k)) (sym e)
        there))
        (λ nb. inl (left_steps mine gone notes first comes i nb)));
    held = λ u le less. let k = y.held u (omega arith) less in dite (ℕ_discrete (s.owner u) a)
        (λ e. absurd (no_more u k.0 (omega arith) (sym was ∙ ap s.phase (sym e) ∙ k.1)))
        (λ ne. (k.0, put_else s.phase a (s.owner u) r ne ∙ k.1));
    hints = λ w x j e. left_hinted x j (y.hints w x j e);
  }

module _ (s : Crowd) (a : ℕ) (y : Sound s) where
  is_inside : (t : ℕ) → s.phase a ≡ Has t Inside → (q : Place) → s.place a ≡ q
      → (t < s.next) × (s.owner t ≡ a) × (q ≡ Away) × (t ≡ s.serving)
  is_inside t was Away had = let ok = at_place s a t y Inside Away was had in
      (ok.0, ok.1, refl, ok.3)
  is_inside t was (Posted u) had = absurd ((at_place s a t y Inside (Posted u) was had).3.2)
  is_inside t was (Claimed u b) had = absurd ((at_place s a t y Inside (Claimed u b) was had).3.1)
  is_inside t was (Done u b) had = absurd ((at_place s a t y Inside (Done u b) was had).3.2)
  is_inside t was (Back u b) had = absurd ((at_place s a t y Inside (Back u b) was had).3.2)

  pub leave_own : (t : ℕ) → s.phase a ≡ Has t Inside
      → Sound (left_by s a (Leaves (t + 1) [] (Peeking own_loads)))
  leave_own t was = let here = is_inside t was (s.place a) refl in
      let lt = here.0 in let is : t ≡ s.serving = here.3 in
      let ok : Ok (left_by s a (Leaves (t + 1) [] (Peeking own_loads))) a
      (Leaves (t + 1) [] (Peeking own_loads)) (s.place a) = (here.2, (omega arith, omega arith)) in
      left_sound s a a (Has t Inside) (Leaves (t + 1) [] (Peeking own_loads)) y was tt
      (omega arith) (ap s.owner (sym is) ∙ here.1) (λ u i ne h. h) (λ i h. absurd h)
      (λ i h. absurd h) (λ i. ap (λ k. k + 1) is)
      (λ u w less e. let same : t ≡ u = cc e in omega arith) ok
      (subst (λ q. Ok (left_by s a (Leaves (t + 1) [] (Peeking own_loads))) a q (s.place a))
      (sym (put_here s.phase a (Leaves (t + 1) [] (Peeking own_loads)))) ok)

  helped : (x : ℕ) (js : List ℕ) (j : ℕ) (p : Phase) → s.phase a ≡ Leaves x js (Helping j)
      → s.phase j ≡ p → s.place j ≡ Claimed x a → Ok s j p (Claimed x a)
      → Sound (left_by s a (Leaves x js (Giving j own_loads)))
  helped x js j (Has t w) was is had ok =
      let held = subst (λ k. Holds s.serving k t j) was ok.3.2 in
      let lt = ok.0 in let v : t ≡ s.serving = held.2 in let u : x ≡ t = held.0 in
      left_sound s a j (Leaves x js (Helping j)) (Leaves x js (Giving j own_loads)) y was tt
      (omega arith) (ap s.owner (sym v) ∙ ok.1) (λ m i ne h. ne (sym h.1)) (λ i h. h)
      (λ i h. absurd h) (λ i. ap (λ k. k + 1) (u ∙ v)) (λ m o less e. cc e)
      ((at_errand s a y x js (Helping j) was).0, (had, omega arith))
      (subst (λ q. Ok (left_by s a (Leaves x js (Giving j own_loads))) j
      (put s.phase a (Leaves x js (Giving j own_loads)) j) q) (sym had)
      (subst (λ q. Ok (left_by s a (Leaves x js (Giving j own_loads))) j q (Claimed x a))
      (sym (put_else s.phase a j (Leaves x js (Giving j own_loads)) apart ∙ is)) (
        ok.0,
        ok.1,
        ok.2,
        (
          ok.3.0,
          ok.3.1,
          subst (λ q. Holds (s.serving + 1) q t j)
              (sym (put_here s.phase a (Leaves x js (Giving j own_loads))))
              (u, refl, (omega arith)),
        ),
      )))
    where
      apart : j ≢ a
      apart e = let m : Has t w ≡ Leaves x js (Helping j) = sym is ∙ ap s.phase e ∙ was in cc m
  helped x js j (Leaves u ks k) was is had ok = absurd (cc ok.0)
  helped x js j (Wakes ks) was is had ok = absurd (cc ok)

  pub leave_helping : (x : ℕ) (js : List ℕ) (j : ℕ) → s.phase a ≡ Leaves x js (Helping j)
      → Sound (left_by s a (Leaves x js (Giving j own_loads)))
  leave_helping x js j was = let had = (at_errand s a y x js (Helping j) was).1 in
      helped x js j (s.phase j) was refl had
      (subst (λ o. Ok s j (s.phase j) o) had (y.each j))
