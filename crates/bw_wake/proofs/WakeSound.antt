-- The invariant holds at the start, and is kept by SpuriousWake, Take, a look that finds the ticket
-- served, and Wake.
use Rattle.std.proofs.Common.{◌≡◌, ◌≢◌, ℕ, zero, suc, ◌+◌, ◌<◌, ◌≤◌, ◌==◌, Bool, true, false, ◌||◌}
use Rattle.std.proofs.Common.{List, [], ◌∷◌, length, replicate}
use Rattle.std.proofs.Common.{refl, sym, ap, ◌∙◌, inl, inr, ⊎_elim, arith, eq-eqb, slice_get}
use Rattle.std.proofs.Common.{slice_set, Some}
use Rattle.std.specs.List.{list_any}
use mathlib.Core.Logic.{dite}
use native.Mathlib.Decide.{ℕ_discrete, dec_le}
use Rattle.std.proofs.lemmas.List.{length-set}
use Rattle.bw_wake.specs.declared.seats.Phase.{Phase}
use Rattle.bw_wake.specs.declared.seats.Phase.TheVariants.{Idle, Waiting, Marked, Looked, Asleep}
use Rattle.bw_wake.specs.declared.seats.Phase.TheVariants.{Inside, Done, Served, Owes, Found, Wakes}
use Rattle.bw_wake.specs.Protocol.{WaitState, one_less, sleeps_on, start, word_of}
use Rattle.bw_wake.specs.Progress.{one_if, busy, sleeps, will_peek, wakes, count}
use Rattle.bw_wake.proofs.Invariant.{waits, holds, may_sleep, Stands, Sound}
use Rattle.bw_wake.proofs.Counts.{count_set, count-le, count_at}
use Rattle.bw_machine.proofs.CallerLemmas.{equal_or_not, get_other}
use Rattle.bw_wake.proofs.WordsApart.{sleeps-waits, from_serving, to_next, words_apart}
use Rattle.bw_wake.proofs.OneSeatSound.{one_less_none, one_less-will_peek}

lower : {a b : ℕ} → a ≢ b → a ≤ b → a < b
lower ne le = omega arith

-- the event SpuriousWake
pub spurious_wake_sound : (s : WaitState) (i t : ℕ) → slice_get s.phases i ≡ Some (Asleep t)
    → Sound s
    → Sound record s { phases = slice_set s.phases i (Waiting t) }
spurious_wake_sound s i t at r =
    let M = λ (g : Phase → ℕ). count_set g s.phases i (Asleep t) (Waiting t) at in record {
      drawn = let a = M holds in omega (arith, r.drawn);
      turn = λ lt.
          let a = M (waits s.serving) in let b = M busy in let d = r.turn lt in omega arith;
      later = λ x gt lt. let a = M (waits x) in let d = r.later x gt lt in omega arith;
      past = λ x lt. let a = M (waits x) in let d = r.past x lt in omega arith;
      future = λ x le. let a = M (waits x) in let d = r.future x le in omega arith;
      quiet = λ e. let b = M busy in let d = r.quiet e in omega arith;
      words = omega (arith, r.words, length-set s.phases i (Waiting t));
      mark_or_wake = λ x some. let a = M (sleeps x) in let c = M (wakes x) in
          ⊎_elim (λ (h : Stands s x). inl h)
          (λ (h : 1 ≤ count (wakes x) s.phases). inr (omega arith))
          (r.mark_or_wake x (omega arith));
      peek_owed = λ some st. let a = M (may_sleep s.serving) in let c = M (will_peek s.serving) in
          let h = r.peek_owed (omega arith) st in omega arith;
    }

-- the event Take
pub take_sound : (s : WaitState) (i : ℕ) → slice_get s.phases i ≡ Some Idle → Sound s
    → Sound record s { next = s.next + 1; phases = slice_set s.phases i (Waiting s.next) }
take_sound s i at r = let M = λ (g : Phase → ℕ). count_set g s.phases i Idle (Waiting s.next) at in
    let ahead : s.serving ≤ s.next = omega (arith, r.drawn) in record {
      drawn = let a = M holds in omega (arith, r.drawn);
      turn = λ lt. let a = M (waits s.serving) in let b = M busy in
          ⊎_elim (λ (h : (s.next ≡ s.serving) × (one_if (s.next == s.serving) ≡ 1)). let q =
          r.quiet (sym h.0) in
          let f = r.future s.serving (omega arith) in let z = h.1 in omega arith)
          (λ (h : (s.next ≢ s.serving) × (one_if (s.next == s.serving) ≡ 0)). let z = h.1 in
          let d = r.turn (lower (λ e. h.0 (sym e)) ahead) in omega arith)
          (equal_or_not one_if s.next s.serving);
      later = λ x gt lt. let a = M (waits x) in
          ⊎_elim (λ (h : (s.next ≡ x) × (one_if (s.next == x) ≡ 1)). let f =
          r.future x (omega arith) in let z = h.1 in omega arith)
          (λ (h : (s.next ≢ x) × (one_if (s.next == x) ≡ 0)). let z =
          h.1 in let d = r.later x gt (lower
          (λ e. h.0 (sym e)) (omega arith)) in omega arith) (equal_or_not one_if s.next x);
      past = λ x lt. let a = M (waits x) in let d = r.past x lt in
          ⊎_elim (λ (h : (s.next ≡ x) × (one_if (s.next == x) ≡ 1)). absurd (omega arith))
          (λ (h : (s.next ≢ x) × (one_if (s.next == x) ≡ 0)). let z = h.1 in omega arith)
          (equal_or_not one_if s.next x);
      future = λ x le. let a = M (waits x) in let d = r.future x (omega arith) in ⊎_elim
          (λ (h : (s.next ≡ x) × (one_if (s.next == x) ≡ 1)). absurd (omega arith))
          (λ (h : (s.next ≢ x) × (one_if (s.next == x) ≡ 0)).
          let z = h.1 in omega arith) (equal_or_not one_if s.next x);
      quiet = λ e. absurd (omega arith);
      words = omega (arith, r.words, length-set s.phases i (Waiting s.next));
      mark_or_wake = λ x some. let a = M (sleeps x) in let c = M (wakes x) in
          ⊎_elim (λ (h : Stands s x). inl h)
          (λ (h : 1 ≤ count (wakes x) s.phases). inr (omega arith))
          (r.mark_or_wake x (omega arith));
      peek_owed = λ some st. let a = M (may_sleep s.serving) in let c = M (will_peek s.serving) in
          let h = r.peek_owed (omega arith) st in omega arith;
    }

-- a look that finds the ticket, from `Waiting`, `Marked` or `Looked`
pub enter_sound : (s : WaitState) (i : ℕ) (p : Phase) → slice_get s.phases i ≡ Some p
    → ((x : ℕ) → waits x p ≡ one_if (s.serving == x)) → busy p ≡ 0
    → holds p ≡ 1 → ((x : ℕ) → sleeps x p ≡ 0) → ((x : ℕ) → will_peek x p ≡ 0)
    → ((x : ℕ) → wakes x p ≡ 0)
    → Sound s → Sound record s { phases = slice_set s.phases i Inside }
enter_sound s i p at is_w is_b is_h is_s is_p is_k r =
    let M = λ (g : Phase → ℕ). count_set g s.phases i p Inside at in
    let one : one_if (s.serving == s.serving) ≡ 1 = ap one_if (eq-eqb s.serving s.serving refl) in
    let mine = count_at (waits s.serving) s.phases i p at in let w = is_w s.serving in
    let lt : s.serving < s.next = to_next s r s.serving (omega arith) in
    let t = r.turn lt in record {
      drawn = let a = M holds in omega (arith, r.drawn);
      turn = λ l. let a = M (waits s.serving) in let b = M busy in omega arith;
      later = λ x gt l. let a = M (waits x) in let c = is_w x in let d = r.later x gt l in ⊎_elim
          (λ (h : (s.serving ≡ x) × (one_if (s.serving == x) ≡ 1)). absurd (omega arith))
          (λ (h : (s.serving ≢ x) × (one_if (s.serving == x) ≡ 0)).
          let z = h.1 in omega arith) (equal_or_not one_if s.serving x);
      past = λ x l. let a = M (waits x) in let d = r.past x l in omega arith;
      future = λ x le. let a = M (waits x) in let d = r.future x le in omega arith;
      quiet = λ e. absurd (omega arith);
      words = omega (arith, r.words, length-set s.phases i Inside);
      mark_or_wake = λ x some. let a = M (sleeps x) in let c = M (wakes x) in let d = is_s x in
          let e = is_k x in
          ⊎_elim (λ (h : Stands s x). inl h)
          (λ (h : 1 ≤ count (wakes x) s.phases). inr (omega arith))
          (r.mark_or_wake x (omega arith));
      peek_owed = λ some st. let a = M (may_sleep s.serving) in let c = M (will_peek s.serving) in
          let d = is_p s.serving in
          let h = r.peek_owed (omega arith) st in omega arith;
    }

-- no two seats wait with one ticket
pub waits_once : (s : WaitState) → Sound s → (x : ℕ) → count (waits x) s.phases ≤ 1
waits_once s r x = dite (dec_le 1 (count (waits x) s.phases))
    (λ (le : 1 ≤ count (waits x) s.phases). let a =
    from_serving s r x le in let b = to_next s r x le in
    dite (ℕ_discrete s.serving x) (λ (e : s.serving ≡ x). let t =
    r.turn (omega arith) in let f = ap (λ y. count (waits y) s.phases) e in omega arith)
    (λ (ne : s.serving ≢ x). let l = r.later x (lower ne a) b in omega arith))
    (λ n. omega arith)

-- the event Wake, where the seat j sleeps on the wake word
pub wake_sound : (s : WaitState) (i j k n t : ℕ) → slice_get s.phases i ≡ Some (Wakes k n)
    → slice_get s.phases j ≡ Some (Asleep t)
    → word_of s t ≡ word_of s k → Sound s
    → Sound record s { phases = slice_set (slice_set s.phases i (one_less k n)) j (Waiting t) }
wake_sound s i j k n t at at_j same_word r =
    let ne : j ≢ i = λ e. apart (sym at_j ∙ (ap (slice_get s.phases) e ∙ at)) in
    let mid : List Phase = slice_set s.phases i (one_less k n) in
    let at_mid : slice_get mid j ≡ Some (Asleep t) =
    get_other s.phases i j (one_less k n) ne ∙ at_j in
    let A = λ (g : Phase → ℕ). count_set g s.phases i (Wakes k n) (one_less k n) at in
    let B = λ (g : Phase → ℕ). count_set g mid j (Asleep t) (Waiting t) at_mid in
    let zero_waits = λ (x : ℕ). one_less_none (waits x) refl (λ a b. refl) k n in
    let zero_busy = one_less_none busy refl (λ a b. refl) k n in
    let zero_holds = one_less_none holds refl (λ a b. refl) k n in record {
      drawn = let a = A holds in let b = B holds in omega (arith, r.drawn);
      turn = λ lt. let a = A (waits s.serving) in let b = B (waits s.serving) in
          let c = zero_waits s.serving in let d = A busy in let e = B busy in
          let f = r.turn lt in omega arith;
      later = λ x gt lt. let a = A (waits x) in let b = B (waits x) in let c = zero_waits x in
          let f = r.later x gt lt in omega arith;
      past = λ x lt. let a = A (waits x) in let b = B (waits x) in let c = zero_waits x in
          let f = r.past x lt in omega arith;
      future = λ x le. let a = A (waits x) in let b = B (waits x) in let c = zero_waits x in
          let f = r.future x le in omega arith;
      quiet = λ e. let a = A busy in let b = B busy in let f = r.quiet e in omega arith;
      words = omega
          (arith, r.words, length-set s.phases i (one_less k n), length-set mid j (Waiting t));
      mark_or_wake = λ x some. let a = A (sleeps x) in let b = B (sleeps x) in
          let c = one_less_none (sleeps x) refl (λ a b. refl) k n in
          let d = A (wakes x) in let e = B (wakes x) in
          let f = one_less_none (wakes x) refl (λ a b. refl) k n in
          let many = count-le (sleeps x) (waits x) s.phases (sleeps-waits x) in
          let once = waits_once s r x in
          ⊎_elim (λ (h : Stands s x). inl h)
          (λ (h : 1 ≤ count (wakes x) s.phases). ⊎_elim
          (λ (g : (k ≡ x) × (one_if (k == x) ≡ 1)).
          let mine = count_at (waits t) s.phases j (Asleep t) at_j in
          let one = ap one_if (eq-eqb t t refl) in
          let tx : t ≡ x =
          words_apart s r t x (omega arith) (omega arith) (same_word ∙ ap (word_of s) g.0) in
          let two = ap one_if (eq-eqb t x tx) in absurd (omega arith))
          (λ (g : (k ≢ x) × (one_if (k == x) ≡ 0)). let z = g.1 in inr (omega arith))
          (equal_or_not one_if k x))
          (r.mark_or_wake x (omega arith));
      peek_owed = λ some st. let a = A (may_sleep s.serving) in let b = B (may_sleep s.serving) in
          let c = one_less_none (may_sleep s.serving) refl (λ a b. refl) k n in
          let d = A (will_peek s.serving) in let e = B (will_peek s.serving) in
          let f = one_less-will_peek s.serving k n in
          let h = r.peek_owed (omega arith) st in omega arith;
    }
  where
    apart : Some (Asleep t) ≡ Some (Wakes k n) → ⊥
    apart e = cc e

sleeps-on : (s : WaitState) (x : ℕ) (p : Phase)
    → sleeps x p ≤ one_if (sleeps_on (length s.words) (word_of s x) p)
sleeps-on s x Idle = omega arith
sleeps-on s x (Waiting t) = omega arith
sleeps-on s x (Marked t) = omega arith
sleeps-on s x (Looked t) = omega arith
sleeps-on s x (Asleep t) = ⊎_elim (λ (h : (t ≡ x) × (one_if (t == x) ≡ 1)).
    let a = ap one_if (eq-eqb (word_of s t) (word_of s x) (ap (word_of s) h.0)) in
    omega (arith, h.1))
    (λ (h : (t ≢ x) × (one_if (t == x) ≡ 0)). omega (arith, h.1)) (equal_or_not one_if t x)
sleeps-on s x Inside = omega arith
sleeps-on s x Done = omega arith
sleeps-on s x (Served t) = omega arith
sleeps-on s x (Owes k n) = omega arith
sleeps-on s x (Found k n) = omega arith
sleeps-on s x (Wakes k n) = omega arith

pub none_any : (f : Phase → Bool) (ps : List Phase) → list_any f ps ≡ false
    → count (λ p. one_if (f p)) ps ≡ 0
none_any f [] e = refl
none_any f (p ∷ ps) e = first (f p) refl (none_any f ps)
  where
    first : (b : Bool) → f p ≡ b → (list_any f ps ≡ false → count (λ q. one_if (f q)) ps ≡ 0)
        → count (λ q. one_if (f q)) (p ∷ ps) ≡ 0
    first true h rest = absurd (cc (sym (ap (λ c. c || list_any f ps) h) ∙ e))
    first false h rest = let a = rest (sym (ap (λ c. c || list_any f ps) h) ∙ e) in
        let b = ap one_if h in omega arith

-- the event Wake, where nobody sleeps on the wake word
pub wake_none_sound : (s : WaitState) (i k n : ℕ) → slice_get s.phases i ≡ Some (Wakes k n)
    → list_any (sleeps_on (length s.words) (word_of s k)) s.phases ≡ false → Sound s
    → Sound record s { phases = slice_set s.phases i (one_less k n) }
wake_none_sound s i k n at none r =
    let A = λ (g : Phase → ℕ). count_set g s.phases i (Wakes k n) (one_less k n) at in
    let zero_waits = λ (x : ℕ). one_less_none (waits x) refl (λ a b. refl) k n in
    let zero_busy = one_less_none busy refl (λ a b. refl) k n in
    let zero_holds = one_less_none holds refl (λ a b. refl) k n in record {
      drawn = let a = A holds in omega (arith, r.drawn);
      turn = λ lt. let a = A (waits s.serving) in let c = zero_waits s.serving in let d = A busy in
          let f = r.turn lt in omega arith;
      later = λ x gt lt. let a = A (waits x) in let c = zero_waits x in let f = r.later x gt lt in
          omega arith;
      past = λ x lt. let a = A (waits x) in let c = zero_waits x in let f = r.past x lt in
          omega arith;
      future = λ x le. let a = A (waits x) in let c = zero_waits x in let f = r.future x le in
          omega arith;
      quiet = λ e. let a = A busy in let f = r.quiet e in omega arith;
      words = omega (arith, r.words, length-set s.phases i (one_less k n));
      mark_or_wake = λ x some. let a = A (sleeps x) in
          let c = one_less_none (sleeps x) refl (λ a b. refl) k n in let d = A (wakes x) in
          let f = one_less_none (wakes x) refl (λ a b. refl) k n in
          ⊎_elim (λ (h : Stands s x). inl h)
          (λ (h : 1 ≤ count (wakes x) s.phases). ⊎_elim
          (λ (g : (k ≡ x) × (one_if (k == x) ≡ 1)).
          let few = count-le (sleeps k) (λ p. one_if (sleeps_on (length s.words) (word_of s k) p))
          s.phases (sleeps-on s k) in
          let nobody = none_any (sleeps_on (length s.words) (word_of s k)) s.phases none in
          let same = ap (λ y. count (sleeps y) s.phases) g.0 in absurd (omega arith))
          (λ (g : (k ≢ x) × (one_if (k == x) ≡ 0)). let z = g.1 in inr (omega arith))
          (equal_or_not one_if k x))
          (r.mark_or_wake x (omega arith));
      peek_owed = λ some st. let a = A (may_sleep s.serving) in
          let c = one_less_none (may_sleep s.serving) refl (λ a b. refl) k n in
          let d = A (will_peek s.serving) in let f = one_less-will_peek s.serving k n in
          let h = r.peek_owed (omega arith) st in omega arith;
    }

-- the start
count_start : (g : Phase → ℕ) → g Idle ≡ 0 → (n : ℕ) → count g (replicate n Idle) ≡ 0
count_start g h zero = refl
count_start g h (suc n) = let a = count_start g h n in omega arith

replicated : {X : Type 0} (x : X) (n : ℕ) → length (replicate n x) ≡ n
replicated x zero = refl
replicated x (suc n) = ap suc (replicated x n)

pub start_sound : (seats words : ℕ) → seats ≤ words → Sound (start seats words)
start_sound seats words le = record {
  drawn = let a = count_start holds refl seats in omega arith;
  turn = λ lt. absurd (omega arith);
  later = λ x gt lt. absurd (omega arith);
  past = λ x lt. absurd (omega arith);
  future = λ x h. count_start (waits x) refl seats;
  quiet = λ e. count_start busy refl seats;
  words = let a = replicated Idle seats in let b = replicated {X = ℕ} 0 words in omega arith;
  mark_or_wake = λ x some. let a = count_start (sleeps x) refl seats in absurd (omega arith);
  peek_owed = λ some st. let a = count_start (may_sleep 0) refl seats in absurd (omega arith);
}
