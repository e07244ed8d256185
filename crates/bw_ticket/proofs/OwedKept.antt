-- The steps look, mark, peek next, peek word, take mark and woken leave no wake of the served
-- ticket passed over.
use Rattle.std.proofs.Common.{◌≡◌, ◌≢◌, ℕ, zero, suc, ◌+◌, ◌-◌, ◌<◌, ◌≤◌, ◌==◌, nat_lt, Bool, true}
use Rattle.std.proofs.Common.{false, if◌then◌else◌, List, [], ◌∷◌, length}
use Rattle.std.proofs.Common.{set, slice_index, refl, sym, ap, ◌∙◌, subst, inl, arith, eq-eqb}
use Rattle.std.proofs.Common.{ne_eqb}
use Rattle.std.proofs.lemmas.Bool.{ltb-false}
use mathlib.Core.Option.{some}
use mathlib.Core.Logic.{dite}
use native.Mathlib.Decide.{ℕ_discrete}
use lib.ListN.{get_elem?}
use prog.Atomic.{either}
use Rattle.bw_wake.specs.Progress.{among}
use Rattle.bw_wake.proofs.CallerLemmas.{among_none, among_rest, one_less-will_peek, index_here, same_one}
use Rattle.bw_ticket.specs.declared.board.SeatView.{SeatView}
use Rattle.bw_ticket.specs.declared.board.Phase.{Phase}
use Rattle.bw_ticket.specs.declared.board.Phase.TheVariants.{Idle, Waiting, Marked, Looked, Inside}
use Rattle.bw_ticket.specs.declared.board.Phase.TheVariants.{Done, Served, Owes, Found, Wakes}
use Rattle.bw_wake.specs.Progress.{one_if}
use Rattle.bw_ticket.specs.Rule.{weigh_all, waits, may_sleep, will_peek, wake_word, IsOwed}
use Rattle.bw_ticket.specs.Plays.{placed, missed, marked, MayMark, saw_next, one_less, saw_word}
use Rattle.bw_ticket.specs.Plays.{took, woke}
use Rattle.bw_ticket.proofs.Views.{weigh_set, weigh_le_at, weigh_all-le}
use Rattle.bw_ticket.proofs.OwedCounts.{owed_still, read_stands, other_stands, waits-no_peek}
use Rattle.bw_ticket.proofs.KeptLemmas.{waits_only}

-- after an exchange for 0, the mark does not stand
not_mark : (n v : ℕ) → 0 < v → either (n == v) 0 n ≢ v
not_mark n v pos h = dite (ℕ_discrete n v)
    (λ (e : n ≡ v). let z : ◌≡◌ {A = ℕ} 0 v = sym (ap (λ b. either b 0 n) (eq-eqb n v e)) ∙ h in
    omega arith)
    (λ (ne : n ≢ v). ne (sym (ap (λ b. either b 0 n) (ne_eqb n v ne)) ∙ h))

-- a mark of another ticket that stands afterwards stood before
taken_stands : (ws : List ℕ) (w x : ℕ) (b : Bool) → w < length ws
    → slice_index (set ws w (either b 0 (slice_index ws w))) (wake_word x) ≡ x + 1
    → slice_index ws (wake_word x) ≡ x + 1
taken_stands ws w x true there h = other_stands ws w 0 x there (λ e. omega arith) h
taken_stands ws w x false there h = read_stands ws w x h

-- what is owed after the step peek next, and that nobody may sleep then who could not before; the
-- same of the steps peek word and woken
next_peeks : (M C R : Type 0) (x t : ℕ) (b : Bool) → (b ≡ false → among x (t + 1) 3 ≡ 0)
    → among x (t + 1) 3 ≤ will_peek {M = M} {C = C} {R = R} x (if b then Owes (t + 1) 3 else Idle)
next_peeks M C R x t true h = omega arith
next_peeks M C R x t false h = let z = h refl in omega arith

next_awake : (M C R : Type 0) (x t : ℕ) (b : Bool)
    → may_sleep {M = M} {C = C} {R = R} x (if b then Owes (t + 1) 3 else Idle) ≡ 0
next_awake M C R x t true = refl
next_awake M C R x t false = refl

less_peeks : (M C R : Type 0) (x k n : ℕ)
    → will_peek {M = M} {C = C} {R = R} x (one_less k n) ≡ among x (k + 1) (n - 1)
less_peeks M C R x k zero = one_less-will_peek x k zero
less_peeks M C R x k (suc zero) = one_less-will_peek x k (suc zero)
less_peeks M C R x k (suc (suc n)) = one_less-will_peek x k (suc (suc n))

less_awake : (M C R : Type 0) (x k n : ℕ) → may_sleep {M = M} {C = C} {R = R} x (one_less k n) ≡ 0
less_awake M C R x k zero = refl
less_awake M C R x k (suc zero) = refl
less_awake M C R x k (suc (suc n)) = refl

word_peeks : (M C R : Type 0) (x k c : ℕ) (b : Bool) → (b ≡ false → x ≢ k)
    → among x k c ≤ will_peek {M = M} {C = C} {R = R} x (if b then Found k c else one_less k c)
word_peeks M C R x k c true h = omega arith
word_peeks M C R x k c false h =
    let a = less_peeks M C R x k c in let b = among_rest x k c (h refl) in omega arith

word_awake : (M C R : Type 0) (x k c : ℕ) (b : Bool)
    → may_sleep {M = M} {C = C} {R = R} x (if b then Found k c else one_less k c) ≡ 0
word_awake M C R x k c true = refl
word_awake M C R x k c false = less_awake M C R x k c

true-false : true ≡ false → ⊥
true-false e = cc e

module _ {M C R : Type 0} where
  -- who may sleep waits
  may_sleep-waits : (x : ℕ) (f : Phase M C R) → may_sleep x f ≤ waits x f
  may_sleep-waits x Idle = omega arith
  may_sleep-waits x (Waiting t) = omega arith
  may_sleep-waits x (Marked t) = omega arith
  may_sleep-waits x (Looked t) = omega arith
  may_sleep-waits x (Inside t y) = omega arith
  may_sleep-waits x (Done t) = omega arith
  may_sleep-waits x (Served t) = omega arith
  may_sleep-waits x (Owes k n) = omega arith
  may_sleep-waits x (Found k n) = omega arith
  may_sleep-waits x (Wakes k n) = omega arith

  missed-waits : (x : ℕ) (f : Phase M C R) → may_sleep x (missed f) ≤ waits x f
  missed-waits x Idle = omega arith
  missed-waits x (Waiting t) = omega arith
  missed-waits x (Marked t) = omega arith
  missed-waits x (Looked t) = omega arith
  missed-waits x (Inside t y) = omega arith
  missed-waits x (Done t) = omega arith
  missed-waits x (Served t) = omega arith
  missed-waits x (Owes k n) = omega arith
  missed-waits x (Found k n) = omega arith
  missed-waits x (Wakes k n) = omega arith

  may_mark-waits : (t : ℕ) (f : Phase M C R) → MayMark t f → waits t f ≡ 1
  may_mark-waits t Idle h = absurd h
  may_mark-waits t (Waiting u) h = same_one u t h
  may_mark-waits t (Marked u) h = absurd h
  may_mark-waits t (Looked u) h = same_one u t h
  may_mark-waits t (Inside u y) h = absurd h
  may_mark-waits t (Done u) h = absurd h
  may_mark-waits t (Served u) h = absurd h
  may_mark-waits t (Owes k n) h = absurd h
  may_mark-waits t (Found k n) h = absurd h
  may_mark-waits t (Wakes k n) h = absurd h

  -- step look, in vain: the ticket of the seat is not the one that is served
  pub missed_owed : (views : List (List (SeatView M C R))) (id : ℕ) (p : SeatView M C R) (t x : ℕ)
      (ws : List ℕ) → get_elem? views id ≡ some (p ∷ [])
      → waits t p.phase ≡ 1 → t ≢ x → IsOwed x ws views
      → IsOwed x (set ws 1 (slice_index ws 1)) (set views id (placed (missed p.phase) p ∷ []))
  missed_owed views id p t x ws at is ne owed = let only = waits_only p.phase t is x in
      let none : one_if (t == x) ≡ 0 = ap one_if (ne_eqb t x ne) in
      let less = missed-waits x p.phase in let peeks = waits-no_peek t x p.phase is in
      owed_still views id p (placed (missed p.phase) p) x ws (set ws 1 (slice_index ws 1)) at
      (omega arith) (omega arith) (read_stands ws 1 x) owed

  -- step mark: the one seat that waits with the ticket has yet to look again, and a mark of another
  -- ticket is no mark of the served one
  pub marked_owed : (views : List (List (SeatView M C R))) (id : ℕ) (p : SeatView M C R) (t x : ℕ)
      (ws : List ℕ) (w v : ℕ) →
      get_elem? views id ≡ some (p ∷ []) → MayMark t p.phase → v ≡ t + 1 → w < length ws
      → weigh_all (λ y. waits x y.phase) views ≤ 1 → IsOwed x ws views
      → IsOwed x (set ws w v) (set views id (placed (marked p.phase) p ∷ []))
  marked_owed views id p t x ws w v at may mark there turn owed some_may stands =
      let is = may_mark-waits t p.phase may in
      let only = waits_only p.phase t is x in let q = placed (marked p.phase) p in
      dite (ℕ_discrete t x)
      (λ (e : t ≡ x). let a = weigh_set (λ y. may_sleep x y.phase) views id (p ∷ []) (q ∷ []) at in
      let gap = weigh_le_at (λ y. may_sleep x y.phase) (λ y. waits x y.phase) views id (p ∷ [])
      (λ y. may_sleep-waits x y.phase) at in
      let one = same_one t x e in absurd (omega arith))
      (λ (ne : t ≢ x). let peeks = waits-no_peek t x p.phase is in
      owed_still views id p q x ws (set ws w v) at (omega arith) (omega arith)
      (other_stands ws w v x there (λ h. ne (omega arith))) owed some_may stands)

  saw_next_peeks : (x t n : ℕ) (f : Phase M C R) → f ≡ Served t → x < n
      → will_peek x f ≤ will_peek x (saw_next n f)
  saw_next_peeks x t n f is lt =
      subst (λ g. will_peek x g ≤ will_peek x (saw_next n g)) (sym is)
      (next_peeks M C R x t (nat_lt (t + 1) n)
      (λ e. let le = ltb-false (t + 1) n e in among_none x (t + 1) 3 (inl (omega arith))))

  -- step peek next: where somebody may sleep with the served ticket, that is drawn
  pub next_owed : (views : List (List (SeatView M C R))) (id : ℕ) (p : SeatView M C R) (t x n : ℕ)
      (ws : List ℕ) → get_elem? views id ≡ some (p ∷ [])
      → p.phase ≡ Served t → (1 ≤ weigh_all (λ y. waits x y.phase) views → x < n)
      → IsOwed x ws views
      → IsOwed x (set ws 0 (slice_index ws 0)) (set views id (placed (saw_next n p.phase) p ∷ []))
  next_owed views id p t x n ws at is drawn owed some_may stands =
      let q = placed (saw_next n p.phase) p in
      let a = weigh_set (λ y. may_sleep x y.phase) views id (p ∷ []) (q ∷ []) at in
      let gone : may_sleep x (saw_next n p.phase) ≡ 0 =
      subst (λ g. may_sleep x (saw_next n g) ≡ 0) (sym is)
      (next_awake M C R x t (nat_lt (t + 1) n)) in
      let were = weigh_all-le (λ y. may_sleep x y.phase) (λ y. waits x y.phase) views
      (λ y. may_sleep-waits x y.phase) in
      let more = saw_next_peeks x t n p.phase is (drawn (omega arith)) in
      owed_still views id p q x ws (set ws 0 (slice_index ws 0)) at (omega (arith, gone)) more
      (read_stands ws 0 x) owed some_may stands

  -- step peek word: a mark of the served ticket that stands is found
  pub word_owed : (views : List (List (SeatView M C R))) (id : ℕ) (p : SeatView M C R) (k c x : ℕ)
      (ws : List ℕ) (w : ℕ) →
      get_elem? views id ≡ some (p ∷ []) → p.phase ≡ Owes k c → w ≡ wake_word k → IsOwed x ws views
      → IsOwed x (set ws w (slice_index ws w))
      (set views id (placed (saw_word (slice_index ws w) p.phase) p ∷ []))
  word_owed views id p k c x ws w at is word owed some_may stands =
      let n : ℕ = slice_index ws w in let q = placed (saw_word n p.phase) p in
      let before = read_stands ws w x stands in
      let other = λ (no : (n == k + 1) ≡ false) (same : x ≡ k). let seen
      : n ≡ k + 1 = ap (slice_index ws) (word ∙ sym (ap wake_word same))
      ∙ (before ∙ ap (λ (y : ℕ). y + 1) same) in true-false (sym (eq-eqb n (k + 1) seen) ∙ no) in
      let gone : may_sleep x (saw_word n p.phase) ≡ 0 =
      subst (λ g. may_sleep x (saw_word n g) ≡ 0) (sym is)
      (word_awake M C R x k c (n == k + 1)) in
      let more : will_peek x p.phase ≤ will_peek x (saw_word n p.phase) =
      subst (λ g. will_peek x g ≤ will_peek x (saw_word n g)) (sym is)
      (word_peeks M C R x k c (n == k + 1) other) in
      owed_still views id p q x ws (set ws w n) at (omega (arith, gone)) more (read_stands ws w x)
      owed some_may stands

  -- step take mark: a mark that is taken stands no more
  pub take_owed : (views : List (List (SeatView M C R))) (id : ℕ) (p : SeatView M C R) (k c x : ℕ)
      (ws : List ℕ) (w v : ℕ) →
      get_elem? views id ≡ some (p ∷ []) → p.phase ≡ Found k c → w ≡ wake_word k → v ≡ k + 1
      → w < length ws → IsOwed x ws views
      → IsOwed x (set ws w (either (slice_index ws w == v) 0 (slice_index ws w)))
      (set views id (placed (took p.phase) p ∷ []))
  take_owed views id p k c x ws w v at is word mark there owed some_may stands =
      let n : ℕ = slice_index ws w in let q = placed (took p.phase) p in
      let put : ℕ = either (n == v) 0 n in
      let other = λ (same : x ≡ k). let left
      : put ≡ v = sym (ap (slice_index (set ws w put)) (ap wake_word same ∙ sym word)
      ∙ index_here ws w put there)
      ∙ (stands ∙ (ap (λ (y : ℕ). y + 1) same ∙ sym mark)) in not_mark n v (omega arith) left in
      let rest = among_rest x k c other in
      let gone : may_sleep x (took p.phase) ≡ 0 =
      subst (λ g. may_sleep x (took g) ≡ 0) (sym is) refl in
      let more : will_peek x p.phase ≤ will_peek x (took p.phase) =
      subst (λ g. will_peek x g ≤ will_peek x (took g)) (sym is) (omega arith) in
      owed_still views id p q x ws (set ws w put) at (omega (arith, gone)) more
      (taken_stands ws w x (n == v) there) owed some_may stands

  -- step woken
  pub woken_owed : (views : List (List (SeatView M C R))) (id : ℕ) (p : SeatView M C R) (k c x : ℕ)
      (ws : List ℕ) → get_elem? views id ≡ some (p ∷ [])
      → p.phase ≡ Wakes k c → IsOwed x ws views
      → IsOwed x (set ws 1 (slice_index ws 1)) (set views id (placed (woke p.phase) p ∷ []))
  woken_owed views id p k c x ws at is owed =
      let q = placed (woke p.phase) p in let less = less_peeks M C R x k c in
      let gone : may_sleep x (woke p.phase) ≡ 0 =
      subst (λ g. may_sleep x (woke g) ≡ 0) (sym is) (less_awake M C R x k c) in
      let more : will_peek x p.phase ≤ will_peek x (woke p.phase) =
      subst (λ g. will_peek x g ≤ will_peek x (woke g)) (sym is) (omega arith) in
      owed_still views id p q x ws (set ws 1 (slice_index ws 1)) at (omega (arith, gone)) more
      (read_stands ws 1 x) owed
