-- Where the waiting protocol and the lock meet, and one step of each from there.
use Rattle.std.proofs.Common.{◌≡◌, ℕ, zero, suc, ◌+◌, ◌^◌, ◌<◌, ◌≤◌}
use Rattle.std.proofs.Common.{Bool, true, false, List, [], ◌∷◌, map, length, sym, ap}
use Rattle.std.proofs.Common.{◌∙◌, subst, arith, slice_get, slice_set, slice_index, Some}
use Rattle.std.proofs.Common.{inl, is_some}
use Rattle.std.proofs.lemmas.List.{length-set}
use prog.Atomic.{either}
use Rattle.bw_machine.proofs.CallerLemmas.{set_map, set_mapped}
use Rattle.bw_wake.specs.declared.seats.Event.{Event}
use Rattle.bw_wake.specs.Protocol.{WaitState, after, happens, run, or_same}
use Rattle.bw_wake.specs.Progress.{seat_of}
use Rattle.bw_wake.specs.Rounds.{MakesOne}
use Rattle.bw_wake.proofs.CallerLemmas.{Sound, happens_sound}
use Rattle.bw_wake.proofs.CallerLemmas.{get_map, same_words}
use Rattle.bw_ticket.specs.declared.limits.TheConstants.{MAX_SEATS}
use Rattle.bw_ticket.specs.declared.board.SeatView.{SeatView}
use Rattle.bw_ticket.specs.declared.board.Phase.{Phase}
use Rattle.bw_ticket.specs.Follows.{words_of, IsLike, in_protocol, IsEvent}
use Rattle.bw_ticket.specs.Turns.{Doing, Sitter, Hall, seated, where_is}
use Rattle.bw_ticket.specs.Turns.Doing.{IsUp}

-- each number of the list stays below the bound
below_set : (ws : List ℕ) (b i v : ℕ) → ((x : ℕ) → slice_index ws x < b) → v < b → (x : ℕ)
    → slice_index (slice_set ws i v) x < b
below_set [] b i v h lt x = h x
below_set (w ∷ ws) b zero v h lt zero = lt
below_set (w ∷ ws) b zero v h lt (suc x) = h (suc x)
below_set (w ∷ ws) b (suc i) v h lt zero = h 0
below_set (w ∷ ws) b (suc i) v h lt (suc x) = below_set ws b i v (λ y. h (suc y)) lt x

pub either_below : (c : Bool) (n b : ℕ) → n < b → either c 0 n < b
either_below true n b h = omega arith
either_below false n b h = h

module _ {M C R : Type 0} where
  -- the calls that the seats have left
  abbrev pub left_in : List (Sitter M C R) → ℕ
  left_in [] = 0
  left_in (x ∷ xs) = x.view.left + left_in xs

  pub left_set : (xs : List (Sitter M C R)) (i : ℕ) (x y : Sitter M C R) → slice_get xs i ≡ Some x
      → left_in (slice_set xs i y) + x.view.left ≡ left_in xs + y.view.left
  left_set [] i x y e = absurd (cc e)
  left_set (z ∷ zs) zero x y e = let d : z ≡ x = cc e in
      let h = ap (λ (w : Sitter M C R). w.view.left) d in omega arith
  left_set (z ∷ zs) (suc i) x y e = let h = left_set zs i x y e in omega arith

  pub left_at : (xs : List (Sitter M C R)) (i : ℕ) (x : Sitter M C R) → slice_get xs i ≡ Some x
      → x.view.left ≤ left_in xs
  left_at [] i x e = absurd (cc e)
  left_at (z ∷ zs) zero x e = let d : z ≡ x = cc e in
      let h = ap (λ (w : Sitter M C R). w.view.left) d in omega arith
  left_at (z ∷ zs) (suc i) x e = let h = left_at zs i x e in omega arith

-- The protocol is where the lock is, all marks fit in half a word, and the calls left and the
-- tickets drawn are all calls
pub record Meets {M C R : Type 0} (total : ℕ) (h : Hall M C R) (s : WaitState) : Type 0 where
  pub words : words_of s ≡ h.words
  pub phases : s.phases ≡ map where_is h.seats
  pub sound : Sound s
  pub long : length s.words ≡ MAX_SEATS
  pub left : left_in h.seats + s.next ≡ total
  pub fits : (x : ℕ) → slice_index h.words x < 2 ^ 32
  pub bound : total < 2 ^ 32

-- some events lead the protocol where the turn leads the lock
abbrev pub Follows : {M C R : Type 0} → ℕ → Hall M C R → WaitState → Type 0
Follows total k s = (events : List Event) × Meets total k (run s events)

-- and the seat i makes one of them
abbrev pub Goes : {M C R : Type 0} → ℕ → ℕ → Hall M C R → WaitState → Type 0
Goes total i k s = (events : List Event) × Meets total k (run s events) × MakesOne i s events

module _ {M C R : Type 0} (total : ℕ) (h : Hall M C R) (s : WaitState) (m : Meets total h s) where
  pub next_is : s.next ≡ slice_index h.words 0
  next_is = ap (λ ws. slice_index ws 0) m.words

  serving_is : s.serving ≡ slice_index h.words 1
  serving_is = ap (λ ws. slice_index ws 1) m.words

  like : IsLike s
  like = let a = m.fits 0 in let b = m.fits 1 in let c = next_is in let d = serving_is in
      (m.long, omega arith, omega arith)

  pub at_place : (i : ℕ) (x : Sitter M C R) → slice_get h.seats i ≡ Some x
      → slice_get s.phases i ≡ Some (where_is x)
  at_place i x at = ap (λ ps. slice_get ps i) m.phases ∙ get_map where_is h.seats i x at

  -- a step of a seat is the event of its name
  pub by_event_of : (a b : Doing) (i : ℕ) (p q : SeatView M C R) (e : ℕ → Event) (w : ℕ) (g : ℕ → ℕ)
      (P : ℕ → Type 0) (f : Phase M C R) (then_f : ℕ → Phase M C R) → IsEvent e w g P f then_f
      → seat_of (e i) ≡ i → slice_get h.seats i ≡ Some (seated a p)
      → where_is (seated a p) ≡ in_protocol f → P (slice_index h.words w)
      → where_is (seated b q) ≡ in_protocol (then_f (slice_index h.words w))
      → g (slice_index h.words w) < 2 ^ 32
      → q.left + slice_index (slice_set h.words w (g (slice_index h.words w))) 0
      ≡ p.left + slice_index h.words 0
      → Goes total i (record {
        words = slice_set h.words w (g (slice_index h.words w));
        seats = slice_set h.seats i (seated b q);
      }) s
  by_event_of a b i p q e w g P f then_f is own at f_is found q_is few calls =
      let n : ℕ = slice_index h.words w in
      let here : slice_get s.phases i ≡ Some (in_protocol f) =
      at_place i (seated a p) at ∙ ap (λ z. Some z) f_is in
      let got = is s i like here
      (subst (λ ws. P (slice_index ws w)) (sym m.words) found) in
      let t : WaitState = got.0 in
      let t_is : happens s (e i) ≡ t = ap (or_same s) got.1 in
      let k : Hall M C R = record {
        words = slice_set h.words w (g n);
        seats = slice_set h.seats i (seated b q);
      } in
      let ws_are : words_of t ≡ k.words =
      got.2 ∙ ap (λ ws. slice_set ws w (g (slice_index ws w))) m.words in
      let ps_are : t.phases ≡ map where_is k.seats =
      got.3 ∙ (ap (λ ws. slice_set s.phases i (in_protocol (then_f (slice_index ws w)))) m.words
      ∙ (ap (λ z. slice_set s.phases i z) (sym q_is)
      ∙ (ap (λ ps. slice_set ps i (where_is (seated b q))) m.phases
      ∙ set_map where_is h.seats i (seated b q)))) in
      let size : length (words_of t) ≡ length (words_of s) =
      ap length got.2 ∙ length-set (words_of s) w (g (slice_index (words_of s) w)) in
      let new_next : t.next ≡ slice_index k.words 0 = ap (λ ws. slice_index ws 0) ws_are in
      let old_next = next_is in
      let lefts = left_set h.seats i (seated a p) (seated b q) at in
      let all = m.left in
      let long_was = m.long in
      let there : Meets total k t = record {
        words = ws_are;
        phases = ps_are;
        sound = subst Sound t_is (happens_sound s (e i) m.sound);
        long = omega arith;
        left = omega arith;
        fits = below_set h.words (2 ^ 32) w (g n) m.fits few;
        bound = m.bound;
      } in
      (e i ∷ [], subst (Meets total k) (sym t_is) there, inl (own, ap is_some got.1))

  -- where it is up before and after
  pub by_event : (i : ℕ) (p q : SeatView M C R) (e : ℕ → Event) (w : ℕ) (g : ℕ → ℕ) (P : ℕ → Type 0)
      (f : Phase M C R) (then_f : ℕ → Phase M C R) → IsEvent e w g P f then_f → seat_of (e i) ≡ i
      → slice_get h.seats i ≡ Some (seated IsUp p) → p.phase ≡ f → P (slice_index h.words w)
      → q.phase ≡ then_f (slice_index h.words w)
      → g (slice_index h.words w) < 2 ^ 32
      → q.left + slice_index (slice_set h.words w (g (slice_index h.words w))) 0
      ≡ p.left + slice_index h.words 0
      → Goes total i (record {
        words = slice_set h.words w (g (slice_index h.words w));
        seats = slice_set h.seats i (seated IsUp q);
      }) s
  by_event i p q e w g P f then_f is own at f_is found q_is few calls =
      by_event_of IsUp IsUp i p q e w g P f then_f is own at (ap (λ z. in_protocol z) f_is) found
      (ap (λ z. in_protocol z) q_is) few calls

  -- a step that the protocol does not have
  pub no_event : (i : ℕ) (x y : Sitter M C R) (w : ℕ) → slice_get h.seats i ≡ Some x
      → where_is y ≡ where_is x → y.view.left ≡ x.view.left
      → Follows total (record {
        words = slice_set h.words w (slice_index h.words w);
        seats = slice_set h.seats i y;
      }) s
  no_event i x y w at same left_same = let lefts = left_set h.seats i x y at in
      let all = m.left in (
        [],
        record {
          words = m.words ∙ sym (same_words h.words w);
          phases = m.phases ∙ sym (set_mapped where_is h.seats i x y at same);
          sound = m.sound;
          long = m.long;
          left = omega arith;
          fits = below_set h.words (2 ^ 32) w (slice_index h.words w) m.fits (m.fits w);
          bound = m.bound;
        },
      )

  -- the words stay, and so do the calls left
  pub by_sleep : (i : ℕ) (t : WaitState) (e : Event) (xs : List (Sitter M C R)) → after s e ≡ Some t
      → seat_of e ≡ i
      → words_of t ≡ words_of s → t.phases ≡ map where_is xs → left_in xs ≡ left_in h.seats
      → Goes total i (record { words = h.words; seats = xs }) s
  by_sleep i t e xs is own ws ps lefts =
      let t_is : happens s e ≡ t = ap (or_same s) is in
      let k : Hall M C R = record { words = h.words; seats = xs } in
      let size : length (words_of t) ≡ length (words_of s) = ap length ws in
      let next : t.next ≡ s.next = ap (λ vs. slice_index vs 0) ws in
      let all = m.left in let long_was = m.long in
      let there : Meets total k t = record {
        words = ws ∙ m.words;
        phases = ps;
        sound = subst Sound t_is (happens_sound s e m.sound);
        long = omega arith;
        left = omega arith;
        fits = m.fits;
        bound = m.bound;
      } in
      (e ∷ [], subst (Meets total k) (sym t_is) there, inl (own, ap is_some is))
