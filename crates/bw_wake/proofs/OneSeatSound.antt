-- The invariant is kept by Apply, a look in vain, Park, PeekNext, PeekWord and TakeMark.
use Rattle.std.proofs.Common.{◌≡◌, ◌≢◌, ℕ, zero, suc, ◌+◌, ◌-◌, ◌%◌, ◌<◌, ◌≤◌, ◌⊎◌, ◌==◌, nat_lt}
use Rattle.std.proofs.Common.{nat_le, Bool, true, false, ◌&&◌, List}
use Rattle.std.proofs.Common.{length, refl, sym, ap, ◌∙◌, subst, inl, inr, ⊎_elim, arith, ne_eqb}
use Rattle.std.proofs.Common.{slice_get, slice_set, slice_index}
use Rattle.std.proofs.Common.{Some}
use mathlib.Core.Logic.{dite}
use native.Mathlib.Decide.{ℕ_discrete, dec_le}
use Rattle.std.proofs.lemmas.Bool.{le-leb}
use Rattle.std.proofs.lemmas.Bool.Decides.{leb_tells}
use Rattle.std.proofs.lemmas.List.{length-set}
use Rattle.std.proofs.lemmas.Nat.{mod_below}
use Rattle.bw_wake.specs.declared.seats.Phase.{Phase}
use Rattle.bw_wake.specs.declared.seats.Phase.TheVariants.{Idle, Waiting, Marked, Looked, Asleep, Inside}
use Rattle.bw_wake.specs.declared.seats.Phase.TheVariants.{Done, Served, Owes, Found, Wakes}
use Rattle.bw_wake.specs.Protocol.{WaitState, one_less, word_of, mark_at}
use Rattle.bw_wake.specs.Progress.{one_if, among, busy, sleeps, will_peek, wakes, count}
use Rattle.bw_wake.proofs.Invariant.{waits, holds, may_sleep, Stands, Sound}
use Rattle.bw_wake.proofs.Counts.{count_set, count-le}
use Rattle.bw_machine.proofs.CallerLemmas.{equal_or_not}
use Rattle.bw_wake.proofs.WakeWords.{index_here, index_else}
use Rattle.bw_wake.proofs.WordsApart.{may_sleep-waits, to_next}

-- an event of one seat that changes no ticket, and a wake word at most
pub still : (s : WaitState) (i : ℕ) (p q : Phase) (ws : List ℕ) → slice_get s.phases i ≡ Some p
    → length ws ≡ length s.words
    → ((x : ℕ) → waits x q ≡ waits x p) → busy q ≡ busy p → holds q ≡ holds p
    → ((x : ℕ) → 1 ≤ count (sleeps x) (slice_set s.phases i q)
    → (slice_index ws (x % length ws) ≡ x + 1) ⊎ (1 ≤ count (wakes x) (slice_set s.phases i q)))
    → (1 ≤ count (may_sleep s.serving) (slice_set s.phases i q)
    → slice_index ws (s.serving % length ws) ≡ s.serving + 1
    → 1 ≤ count (will_peek s.serving) (slice_set s.phases i q))
    → Sound s → Sound record s { words = ws; phases = slice_set s.phases i q }
still s i p q ws at len is_w is_b is_h mark_or_wake peek_owed r =
    let M = λ (g : Phase → ℕ). count_set g s.phases i p q at in record {
      drawn = let a = M holds in omega (arith, r.drawn);
      turn = λ lt. let a = M (waits s.serving) in let b = M busy in let c = is_w s.serving in
          let d = r.turn lt in omega arith;
      later = λ x gt lt. let a = M (waits x) in let c = is_w x in let d = r.later x gt lt in
          omega arith;
      past = λ x lt. let a = M (waits x) in let c = is_w x in let d = r.past x lt in omega arith;
      future = λ x le.
          let a = M (waits x) in let c = is_w x in let d = r.future x le in omega arith;
      quiet = λ e. let b = M busy in let d = r.quiet e in omega arith;
      words = omega (arith, r.words, length-set s.phases i q, len);
      mark_or_wake = mark_or_wake;
      peek_owed = peek_owed;
    }

pub among_none : (x k n : ℕ) → (x < k) ⊎ (k + n ≤ x) → among x k n ≡ 0
among_none x k n h =
    ⊎_elim (λ (a : (nat_le k x ≡ true) × (k ≤ x)).
    ⊎_elim (λ (b : (nat_lt x (k + n) ≡ true) × (suc x ≤ k + n)). ⊎_elim
    (λ (l : x < k). absurd (omega arith)) (λ (m : k + n ≤ x). absurd (omega arith)) h)
    (λ (b : (nat_lt x (k + n) ≡ false) × (k + n < suc x)).
    both_no (nat_le k x) (nat_lt x (k + n)) b.0) (leb_tells (suc x) (k + n)))
    (λ (a : (nat_le k x ≡ false) × (x < k)). ap (λ b. one_if (b && nat_lt x (k + n))) a.0)
    (leb_tells k x)
  where
    both_no : (a b : Bool) → b ≡ false → one_if (a && b) ≡ 0
    both_no true b e = ap one_if e
    both_no false b e = refl

pub among_in : (x k n : ℕ) → k ≤ x → x < k + n → among x k n ≡ 1
among_in x k n h l = let a : nat_le k x ≡ true = le-leb k x h in
    let b : nat_lt x (k + n) ≡ true = le-leb (suc x) (k + n) l in (λ i. one_if (a i && b i))

-- a ticket among those that are owed a wake, but the first, is among the others
pub among_rest : (x k n : ℕ) → x ≢ k → among x (k + 1) (n - 1) ≡ among x k n
among_rest x k zero ne = among_none x (k + 1) 0 (order x k) ∙ sym (among_none x k 0 (order2 x k))
  where
    order : (a b : ℕ) → (a < b + 1) ⊎ (b + 1 + 0 ≤ a)
    order a b = dite (dec_le (b + 1) a) (λ le. inr (omega arith)) (λ n. inl (omega arith))

    order2 : (a b : ℕ) → (a < b) ⊎ (b + 0 ≤ a)
    order2 a b = dite (dec_le b a) (λ le. inr (omega arith)) (λ n. inl (omega arith))
among_rest x k (suc n) ne = dite (dec_le (k + 1) x)
    (λ (le : k + 1 ≤ x). dite (dec_le (k + 1 + n) x)
    (λ (m : k + 1 + n ≤ x). among_none x (k + 1) (suc n - 1) (inr (omega arith))
    ∙ sym (among_none x k (suc n) (inr (omega arith))))
    (λ m. among_in x (k + 1) (suc n - 1) le (omega arith)
    ∙ sym (among_in x k (suc n) (omega arith) (omega arith))))
    (λ nle. among_none x (k + 1) (suc n - 1) (inl (omega arith))
    ∙ sym (among_none x k (suc n) (inl (lower ne (omega arith)))))
  where
    lower : {a b : ℕ} → a ≢ b → a ≤ b → a < b
    lower ne le = omega arith

-- what a seat counts for that owes one wake less
pub one_less_none : (g : Phase → ℕ) → g Idle ≡ 0 → ((k n : ℕ) → g (Owes k n) ≡ 0) → (k n : ℕ)
    → g (one_less k n) ≡ 0
one_less_none g a b k zero = a
one_less_none g a b k (suc zero) = a
one_less_none g a b k (suc (suc n)) = b (k + 1) (suc n)

pub one_less-will_peek : (x k n : ℕ) → will_peek x (one_less k n) ≡ among x (k + 1) (n - 1)
one_less-will_peek x k zero = sym (among_none x (k + 1) 0 (order x k))
  where
    order : (a b : ℕ) → (a < b + 1) ⊎ (b + 1 + 0 ≤ a)
    order a b = dite (dec_le (b + 1) a) (λ le. inr (omega arith)) (λ n. inl (omega arith))
one_less-will_peek x k (suc zero) = sym (among_none x (k + 1) 0 (order x k))
  where
    order : (a b : ℕ) → (a < b + 1) ⊎ (b + 1 + 0 ≤ a)
    order a b = dite (dec_le (b + 1) a) (λ le. inr (omega arith)) (λ n. inl (omega arith))
one_less-will_peek x k (suc (suc n)) =
    let e : suc n ≡ suc (suc n) - 1 = omega arith in ap (among x (k + 1)) e

-- the same for events that write no wake word, where the seat was not asleep and is not, owed no
-- wake and owes none
pub plain : (s : WaitState) (i : ℕ) (p q : Phase) → slice_get s.phases i ≡ Some p
    → ((x : ℕ) → waits x q ≡ waits x p) → busy q ≡ busy p → holds q ≡ holds p
    → ((x : ℕ) → sleeps x q ≡ sleeps x p) → ((x : ℕ) → wakes x q ≡ wakes x p)
    → (1 ≤ count (may_sleep s.serving) (slice_set s.phases i q) → Stands s s.serving
    → 1 ≤ count (will_peek s.serving) (slice_set s.phases i q))
    → Sound s → Sound record s { phases = slice_set s.phases i q }
plain s i p q at is_w is_b is_h is_s is_k peek_owed r = let M = λ (g : Phase
    → ℕ). count_set g s.phases i p q at in still s i p q s.words at refl is_w is_b is_h
    (λ x some. let a = M (sleeps x) in let b = is_s x in let c = M (wakes x) in let d = is_k x in
    ⊎_elim (λ (h : Stands s x). inl h)
    (λ (h : 1 ≤ count (wakes x) s.phases). inr (omega arith)) (r.mark_or_wake x (omega arith)))
    peek_owed r

-- the event Apply
pub apply_sound : (s : WaitState) (i : ℕ) → slice_get s.phases i ≡ Some Inside → Sound s
    → Sound record s { phases = slice_set s.phases i Done }
apply_sound s i at r = plain s i Inside Done at (λ x. refl) refl refl (λ x. refl) (λ x. refl)
    (λ some st. let a = count_set (may_sleep s.serving) s.phases i Inside Done at in
    let b = count_set (will_peek s.serving) s.phases i Inside Done at in
    let h = r.peek_owed (omega arith) st in omega arith) r

-- a look in vain after a mark
pub miss_sound : (s : WaitState) (i t : ℕ) → slice_get s.phases i ≡ Some (Marked t) → t ≢ s.serving
    → Sound s
    → Sound record s { phases = slice_set s.phases i (Looked t) }
miss_sound s i t at ne r =
    plain s i (Marked t) (Looked t) at (λ x. refl) refl refl (λ x. refl) (λ x. refl)
    (λ some st. let a = count_set (may_sleep s.serving) s.phases i (Marked t) (Looked t) at in
    let b = count_set (will_peek s.serving) s.phases i (Marked t) (Looked t) at in
    let z = ap one_if (ne_eqb t s.serving ne) in
    let h = r.peek_owed (omega arith) st in omega arith) r

-- the event Park, where the mark stands
pub park_sound : (s : WaitState) (i t : ℕ) → slice_get s.phases i ≡ Some (Looked t) → Stands s t
    → Sound s
    → Sound record s { phases = slice_set s.phases i (Asleep t) }
park_sound s i t at st r = still s i (Looked t) (Asleep t) s.words at refl (λ x. refl) refl refl
    (λ x some. let a = count_set (sleeps x) s.phases i (Looked t) (Asleep t) at in
    let c = count_set (wakes x) s.phases i (Looked t) (Asleep t) at in
    ⊎_elim (λ (h : (t ≡ x) × (one_if (t == x) ≡ 1)). inl (subst (Stands s) h.0 st))
    (λ (h : (t ≢ x) × (one_if (t == x) ≡ 0)). let z = h.1 in ⊎_elim (λ (k : Stands s x). inl k)
    (λ (k : 1 ≤ count (wakes x) s.phases). inr (omega arith)) (r.mark_or_wake x (omega arith)))
    (equal_or_not one_if t x))
    (λ some k. let a = count_set (may_sleep s.serving) s.phases i (Looked t) (Asleep t) at in
    let b = count_set (will_peek s.serving) s.phases i (Looked t) (Asleep t) at in
    let h = r.peek_owed (omega arith) k in omega arith) r

-- the event Park, where the mark is gone
pub vain_park_sound : (s : WaitState) (i t : ℕ) → slice_get s.phases i ≡ Some (Looked t) → Sound s
    → Sound record s { phases = slice_set s.phases i (Waiting t) }
vain_park_sound s i t at r =
    plain s i (Looked t) (Waiting t) at (λ x. refl) refl refl (λ x. refl) (λ x. refl)
    (λ some st. let a = count_set (may_sleep s.serving) s.phases i (Looked t) (Waiting t) at in
    let b = count_set (will_peek s.serving) s.phases i (Looked t) (Waiting t) at in
    let h = r.peek_owed (omega arith) st in omega arith) r

-- the event PeekNext
pub owes_sound : (s : WaitState) (i t : ℕ) → slice_get s.phases i ≡ Some (Served t) → Sound s
    → Sound record s { phases = slice_set s.phases i (Owes (t + 1) 3) }
owes_sound s i t at r =
    plain s i (Served t) (Owes (t + 1) 3) at (λ x. refl) refl refl (λ x. refl) (λ x. refl)
    (λ some st. let a = count_set (may_sleep s.serving) s.phases i (Served t) (Owes (t + 1) 3) at in
    let b = count_set (will_peek s.serving) s.phases i (Served t) (Owes (t + 1) 3) at in
    let h = r.peek_owed (omega arith) st in omega arith) r

pub none_next_sound : (s : WaitState) (i t : ℕ) → slice_get s.phases i ≡ Some (Served t)
    → s.next ≤ t + 1 → Sound s
    → Sound record s { phases = slice_set s.phases i Idle }
none_next_sound s i t at le r =
    plain s i (Served t) Idle at (λ x. refl) refl refl (λ x. refl) (λ x. refl)
    (λ some st. let a = count_set (may_sleep s.serving) s.phases i (Served t) Idle at in
    let b = count_set (will_peek s.serving) s.phases i (Served t) Idle at in
    let h = r.peek_owed (omega arith) st in
    let w = count-le (may_sleep s.serving) (waits s.serving) s.phases (may_sleep-waits s.serving) in
    let lt = to_next s r s.serving (omega arith) in
    let z = among_none s.serving (t + 1) 3 (inl (omega arith)) in omega arith) r

-- the event PeekWord
pub found_sound : (s : WaitState) (i k n : ℕ) → slice_get s.phases i ≡ Some (Owes k n) → Sound s
    → Sound record s { phases = slice_set s.phases i (Found k n) }
found_sound s i k n at r =
    plain s i (Owes k n) (Found k n) at (λ x. refl) refl refl (λ x. refl) (λ x. refl)
    (λ some st. let a = count_set (may_sleep s.serving) s.phases i (Owes k n) (Found k n) at in
    let b = count_set (will_peek s.serving) s.phases i (Owes k n) (Found k n) at in
    let h = r.peek_owed (omega arith) st in omega arith) r

pub not_found_sound : (s : WaitState) (i k n : ℕ) → slice_get s.phases i ≡ Some (Owes k n)
    → mark_at s k ≢ k + 1 → Sound s
    → Sound record s { phases = slice_set s.phases i (one_less k n) }
not_found_sound s i k n at gone r =
    plain s i (Owes k n) (one_less k n) at (λ x. one_less_none (waits x) refl
    (λ a b. refl) k n) (one_less_none busy refl (λ a b. refl) k n)
    (one_less_none holds refl (λ a b. refl) k n)
    (λ x. one_less_none (sleeps x) refl (λ a b. refl) k n)
    (λ x. one_less_none (wakes x) refl (λ a b. refl) k n)
    (λ some st. let a = count_set (may_sleep s.serving) s.phases i (Owes k n) (one_less k n) at in
    let b = count_set (will_peek s.serving) s.phases i (Owes k n) (one_less k n) at in
    let c = one_less_none (may_sleep s.serving) refl (λ a b. refl) k n in
    let ne : s.serving ≢ k = λ e. gone (subst (Stands s) e st) in
    let same = one_less-will_peek s.serving k n ∙ among_rest s.serving k n ne in
    let h = r.peek_owed (omega arith) st in omega arith) r

-- the event TakeMark
pub taken_sound : (s : WaitState) (i k n : ℕ) → slice_get s.phases i ≡ Some (Found k n) → Stands s k
    → 0 < length s.words → Sound s
    → Sound record s {
      words = slice_set s.words (word_of s k) 0;
      phases = slice_set s.phases i (Wakes k n);
    }
taken_sound s i k n at st some_words r =
    let ws : List ℕ = slice_set s.words (word_of s k) 0 in
    let len : length ws ≡ length s.words = length-set s.words (word_of s k) 0 in
    let here : slice_index ws (word_of s k) ≡ 0 =
    index_here s.words (word_of s k) 0 (mod_below k (length s.words) some_words) in
    let elsewhere = λ (x : ℕ) (ne : word_of s x ≢ word_of s k). (λ j. slice_index ws (x % len j))
    ∙ index_else s.words (word_of s k) (word_of s x) 0 ne in
    let at_one = λ (x : ℕ) (e : word_of s x ≡ word_of s k). (λ j. slice_index ws (x % len j))
    ∙ (ap (slice_index ws) e ∙ here) in
    still s i (Found k n) (Wakes k n) ws at len (λ x. refl) refl refl
    (λ x some. let a = count_set (sleeps x) s.phases i (Found k n) (Wakes k n) at in
    let c = count_set (wakes x) s.phases i (Found k n) (Wakes k n) at in
    ⊎_elim (λ (h : (k ≡ x) × (one_if (k == x) ≡ 1)). let z = h.1 in inr (omega arith))
    (λ (h : (k ≢ x) × (one_if (k == x) ≡ 0)). let z = h.1 in ⊎_elim
    (λ (m : Stands s x). dite (ℕ_discrete (word_of s x) (word_of s k))
    (λ (e : word_of s x ≡ word_of s k). let same : x + 1 ≡ k + 1 = sym m
    ∙ (ap (slice_index s.words) e ∙ st) in absurd (h.0 (omega arith)))
    (λ ne. inl (elsewhere x ne ∙ m)))
    (λ (m : 1 ≤ count (wakes x) s.phases). inr (omega arith)) (r.mark_or_wake x (omega arith)))
    (equal_or_not one_if k x))
    (λ some m. let a = count_set (may_sleep s.serving) s.phases i (Found k n) (Wakes k n) at in
    let b = count_set (will_peek s.serving) s.phases i (Found k n) (Wakes k n) at in
    dite (ℕ_discrete (word_of s s.serving) (word_of s k))
    (λ (e : word_of s s.serving ≡ word_of s k). let z =
    at_one s.serving e in absurd (omega arith))
    (λ ne. let old : Stands s s.serving =
    sym (elsewhere s.serving ne) ∙ m in let h = r.peek_owed (omega arith) old in
    let same = among_rest s.serving k n (λ e. ne (ap (word_of s) e)) in omega arith)) r

pub untaken_sound : (s : WaitState) (i k n : ℕ) → slice_get s.phases i ≡ Some (Found k n)
    → mark_at s k ≢ k + 1 → Sound s
    → Sound record s { phases = slice_set s.phases i (Wakes k n) }
untaken_sound s i k n at gone r =
    still s i (Found k n) (Wakes k n) s.words at refl (λ x. refl) refl refl
    (λ x some. let a = count_set (sleeps x) s.phases i (Found k n) (Wakes k n) at in
    let c = count_set (wakes x) s.phases i (Found k n) (Wakes k n) at in
    ⊎_elim (λ (h : Stands s x). inl h)
    (λ (h : 1 ≤ count (wakes x) s.phases). inr (omega arith)) (r.mark_or_wake x (omega arith)))
    (λ some st. let a = count_set (may_sleep s.serving) s.phases i (Found k n) (Wakes k n) at in
    let b = count_set (will_peek s.serving) s.phases i (Found k n) (Wakes k n) at in
    let h = r.peek_owed (omega arith) st in
    let same = among_rest s.serving k n (λ e. gone (subst (Stands s) e st)) in omega arith) r
