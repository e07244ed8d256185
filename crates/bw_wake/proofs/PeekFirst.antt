-- Where a seat may sleep with the ticket that is served, and its mark stands, some seat looks for
-- that mark first of all, or has seen it. Every event keeps this.
use Rattle.std.proofs.Common.{◌≡◌, ◌≢◌, ℕ, zero, suc, ◌+◌, ◌%◌, ◌<◌, ◌≤◌, ◌==◌, nat_lt, Bool}
use Rattle.std.proofs.Common.{true, false, List, length, refl, sym, ap, ◌∙◌, subst, ⊎_elim}
use Rattle.std.proofs.Common.{arith, eq-eqb, ne_eqb, slice_get, slice_set, slice_index}
use Rattle.std.proofs.Common.{Some, None, Option, if◌then◌else◌}
use Rattle.std.specs.List.{list_any}
use Rattle.std.proofs.lemmas.Bool.{ltb-false}
use Rattle.std.proofs.lemmas.List.{length-set}
use Rattle.std.proofs.lemmas.Nat.{mod_below}
use Rattle.std.proofs.lemmas.Option.{slice_get_within}
use mathlib.Core.Logic.{dite}
use native.Mathlib.Decide.{ℕ_discrete}
use Rattle.bw_wake.specs.declared.seats.Phase.{Phase}
use Rattle.bw_wake.specs.declared.seats.Phase.TheVariants.{Idle, Waiting, Marked, Looked, Asleep}
use Rattle.bw_wake.specs.declared.seats.Phase.TheVariants.{Inside, Done, Served, Owes, Found, Wakes}
use Rattle.bw_wake.specs.declared.seats.Event.{Event}
use Rattle.bw_wake.specs.declared.seats.Event.TheVariants.{Take, Look, Mark, Park, SpuriousWake}
use Rattle.bw_wake.specs.declared.seats.Event.TheVariants.{Apply, Leave, PeekNext, PeekWord}
use Rattle.bw_wake.specs.declared.seats.Event.TheVariants.{TakeMark, Wake}
use Rattle.bw_wake.specs.Protocol.{WaitState, or_same, one_less, tickets_woken, sleeps_on}
use Rattle.bw_wake.specs.Protocol.{happens, moved, marked, take_by, look_by, mark_by, park_by}
use Rattle.bw_wake.specs.Protocol.{spurious_wake_by, apply_by, leave_by, peek_next_by, peek_word_by}
use Rattle.bw_wake.specs.Protocol.{take_mark_by, wake_by, word_of, mark_at}
use Rattle.bw_wake.specs.Progress.{one_if, count}
use Rattle.bw_machine.proofs.CallerLemmas.{equal_or_not, get_other}
use Rattle.bw_wake.proofs.Counts.{count_set, count-le, count_at, count_le_at}
use Rattle.bw_wake.proofs.Invariant.{waits, may_sleep, Stands, Sound}
use Rattle.bw_wake.proofs.WakeWords.{index_here, index_else}
use Rattle.std.proofs.lemmas.Bool.{eqb-false}
use Rattle.bw_wake.proofs.WordsApart.{may_sleep-waits, to_next, words_apart}

-- 1 of a seat that looks for the mark of x first of all, or has seen it and has yet to take it
abbrev pub peeks_first : ℕ → Phase → ℕ
peeks_first x (Served t) = one_if (t + 1 == x)
peeks_first x (Owes k n) = one_if (k == x)
peeks_first x (Found k n) = one_if (k == x)
peeks_first x _ = 0

abbrev pub PeekIsFirst : WaitState → Type 0
PeekIsFirst s = 1 ≤ count (may_sleep s.serving) s.phases → Stands s s.serving
    → 1 ≤ count (peeks_first s.serving) s.phases

-- a seat moves, and no word changes that it is about
kept : (s t : WaitState) (i : ℕ) (p q : Phase) → slice_get s.phases i ≡ Some p
    → t.phases ≡ slice_set s.phases i q → t.serving ≡ s.serving
    → may_sleep s.serving q ≤ may_sleep s.serving p
    → (1 ≤ count (may_sleep s.serving) s.phases → Stands t s.serving
    → Stands s s.serving × (peeks_first s.serving p ≤ peeks_first s.serving q))
    → PeekIsFirst s → PeekIsFirst t
kept s t i p q at ps same fewer more r some st =
    let a = count_set (may_sleep s.serving) s.phases i p q at in
    let b = count_set (peeks_first s.serving) s.phases i p q at in
    let there : 1 ≤ count (may_sleep s.serving) (slice_set s.phases i q) =
    subst (λ (x : ℕ). 1 ≤ count (may_sleep x) (slice_set s.phases i q)) same
    (subst (λ xs. 1 ≤ count (may_sleep t.serving) xs) ps some) in
    let m = more (omega arith) (subst (λ (x : ℕ). Stands t x) same st) in
    let h = r (omega arith) m.0 in
    let here : 1 ≤ count (peeks_first s.serving) (slice_set s.phases i q) =
    (let k = m.1 in omega arith) in
    subst (λ xs. 1 ≤ count (peeks_first t.serving) xs) (sym ps)
    (subst (λ (x : ℕ). 1 ≤ count (peeks_first x) (slice_set s.phases i q)) (sym same) here)

-- a seat alone moves
plain : (s : WaitState) (i : ℕ) (p q : Phase) → slice_get s.phases i ≡ Some p
    → may_sleep s.serving q ≤ may_sleep s.serving p
    → peeks_first s.serving p ≤ peeks_first s.serving q
    → PeekIsFirst s → PeekIsFirst (moved s i q)
plain s i p q at fewer more = kept s (moved s i q) i p q at refl refl fewer (λ some st. (st, more))

ifs : (x y : WaitState) (b : Bool) → (b ≡ true → PeekIsFirst x) → (b ≡ false → PeekIsFirst y)
    → PeekIsFirst (if b then x else y)
ifs x y true f g = f refl
ifs x y false f g = g refl

if_moved : (s : WaitState) (i : ℕ) (p q : Phase) (b : Bool) → (b ≡ true → PeekIsFirst (moved s i p))
    → (b ≡ false → PeekIsFirst (moved s i q))
    → PeekIsFirst (moved s i (if b then p else q))
if_moved s i p q true f g = f refl
if_moved s i p q false f g = g refl

if_words : (s : WaitState) (vs ws : List ℕ) (ps : List Phase) (b : Bool)
    → (b ≡ true → PeekIsFirst record s { words = vs; phases = ps }) → (b ≡ false
    → PeekIsFirst record s { words = ws; phases = ps })
    → PeekIsFirst record s { words = if b then vs else ws; phases = ps }
if_words s vs ws ps true f g = f refl
if_words s vs ws ps false f g = g refl

none_there : (t x : ℕ) → t ≢ x → one_if (t == x) ≡ 0
none_there t x ne = ap one_if (ne_eqb t x ne)

-- the served ticket's seat may sleep: then that ticket is drawn
drawn : (s : WaitState) → Sound s → 1 ≤ count (may_sleep s.serving) s.phases
    → (1 ≤ count (waits s.serving) s.phases) × (s.serving < s.next)
drawn s r some = let a = count-le (may_sleep s.serving) (waits s.serving) s.phases
    (may_sleep-waits s.serving) in
    let w : 1 ≤ count (waits s.serving) s.phases = omega arith in (w, to_next s r s.serving w)

take_first : (s : WaitState) (i : ℕ) (o : Option Phase) → slice_get s.phases i ≡ o → PeekIsFirst s
    → PeekIsFirst (or_same s (take_by s i o))
take_first s i (Some Idle) at f =
    kept s record s { next = s.next + 1; phases = slice_set s.phases i (Waiting s.next) } i Idle
    (Waiting s.next) at refl refl (omega arith) (λ some st. (st, omega arith)) f
take_first s i _ at f = f

look_first : (s : WaitState) (i : ℕ) (o : Option Phase) → slice_get s.phases i ≡ o → PeekIsFirst s
    → PeekIsFirst (or_same s (look_by s i o))
look_first s i (Some (Waiting t)) at f =
    ifs (moved s i Inside) s (t == s.serving)
    (λ e. plain s i (Waiting t) Inside at (omega arith) (omega arith) f)
    (λ e. f)
look_first s i (Some (Marked t)) at f =
    if_moved s i Inside (Looked t) (t == s.serving)
    (λ e. plain s i (Marked t) Inside at (omega arith) (omega arith) f)
    (λ e. let z = none_there t s.serving (eqb-false t s.serving e) in
    plain s i (Marked t) (Looked t) at (omega arith) (omega arith) f)
look_first s i (Some (Looked t)) at f =
    ifs (moved s i Inside) s (t == s.serving)
    (λ e. plain s i (Looked t) Inside at (omega arith) (omega arith) f)
    (λ e. f)
look_first s i _ at f = f

-- a seat that waits stores its mark: if its ticket is served, no other seat waits with that
marks_first : (s : WaitState) (i t : ℕ) (p : Phase) → slice_get s.phases i ≡ Some p
    → waits t p ≡ 1 → ((x : ℕ) → waits x p ≡ one_if (t == x)) → peeks_first s.serving p ≡ 0
    → Sound s → PeekIsFirst s → PeekIsFirst (marked s i t)
marks_first s i t p at mine is_w is_p r f some stands =
    let ws : List ℕ = slice_set s.words (word_of s t) (t + 1) in
    let len : length ws ≡ length s.words = length-set s.words (word_of s t) (t + 1) in
    let here = count_at (waits t) s.phases i p at in
    let elsewhere = λ (x : ℕ) (ne : word_of s x ≢ word_of s t). (λ j. slice_index ws (x % len j))
    ∙ index_else s.words (word_of s t) (word_of s x) (t + 1) ne in
    let a = count_set (may_sleep s.serving) s.phases i p (Marked t) at in
    let q = count_set (peeks_first s.serving) s.phases i p (Marked t) at in
    let gap = count_le_at (may_sleep s.serving) (waits s.serving) s.phases i p
    (may_sleep-waits s.serving) at in
    let w = is_w s.serving in
    let d = drawn s r (omega arith) in
    let one = r.turn d.1 in
    ⊎_elim (λ (h : (t ≡ s.serving) × (one_if (t == s.serving) ≡ 1)). let k = h.1 in
    absurd (omega arith))
    (λ (h : (t ≢ s.serving) × (one_if (t == s.serving) ≡ 0)).
    let old : Stands s s.serving =
    sym (elsewhere s.serving
    (λ same. h.0 (sym (words_apart s r s.serving t d.0 (omega arith) same)))) ∙ stands in
    let z = f (omega arith) old in omega arith) (equal_or_not one_if t s.serving)

mark_first : (s : WaitState) (i : ℕ) (o : Option Phase) → slice_get s.phases i ≡ o → Sound s
    → PeekIsFirst s → PeekIsFirst (or_same s (mark_by s i o))
mark_first s i (Some (Waiting t)) at r f =
    marks_first s i t (Waiting t) at (ap one_if (eq-eqb t t refl)) (λ x. refl) refl r f
mark_first s i (Some (Looked t)) at r f =
    marks_first s i t (Looked t) at (ap one_if (eq-eqb t t refl)) (λ x. refl) refl r f
mark_first s i _ at r f = f

park_first : (s : WaitState) (i : ℕ) (o : Option Phase) → slice_get s.phases i ≡ o → PeekIsFirst s
    → PeekIsFirst (or_same s (park_by s i o))
park_first s i (Some (Looked t)) at f =
    if_moved s i (Asleep t) (Waiting t) (mark_at s t == t + 1)
    (λ e. plain s i (Looked t) (Asleep t) at (omega arith) (omega arith) f)
    (λ e. plain s i (Looked t) (Waiting t) at (omega arith) (omega arith) f)
park_first s i _ at f = f

spurious_wake_first : (s : WaitState) (i : ℕ) (o : Option Phase) → slice_get s.phases i ≡ o
    → PeekIsFirst s → PeekIsFirst (or_same s (spurious_wake_by s i o))
spurious_wake_first s i (Some (Asleep t)) at f =
    plain s i (Asleep t) (Waiting t) at (omega arith) (omega arith) f
spurious_wake_first s i _ at f = f

apply_first : (s : WaitState) (i : ℕ) (o : Option Phase) → slice_get s.phases i ≡ o → PeekIsFirst s
    → PeekIsFirst (or_same s (apply_by s i o))
apply_first s i (Some Inside) at f = plain s i Inside Done at (omega arith) (omega arith) f
apply_first s i _ at f = f

-- the seat that leaves looks for the mark of the next ticket first
leave_first : (s : WaitState) (i : ℕ) (o : Option Phase) → slice_get s.phases i ≡ o → PeekIsFirst s
    → PeekIsFirst (or_same s (leave_by s i o))
leave_first s i (Some Done) at f = λ some st.
    let q = count_set (peeks_first (s.serving + 1)) s.phases i Done (Served s.serving) at in
    let one : one_if (s.serving + 1 == s.serving + 1) ≡ 1 =
    ap one_if (eq-eqb (s.serving + 1) (s.serving + 1) refl) in omega arith
leave_first s i _ at f = f

peek_next_first : (s : WaitState) (i : ℕ) (o : Option Phase) → slice_get s.phases i ≡ o → Sound s
    → PeekIsFirst s → PeekIsFirst (or_same s (peek_next_by s i o))
peek_next_first s i (Some (Served t)) at r f =
    if_moved s i (Owes (t + 1) tickets_woken) Idle (nat_lt (t + 1) s.next)
    (λ e. plain s i (Served t) (Owes (t + 1) tickets_woken) at (omega arith) (omega arith) f)
    (λ e. let le = ltb-false (t + 1) s.next e in
    kept s (moved s i Idle) i (Served t) Idle at refl refl (omega arith)
    (λ some st. let d = drawn s r some in
    let z = none_there (t + 1) s.serving (λ same. absurd (let lt = d.1 in omega arith)) in
    (st, omega arith)) f)
peek_next_first s i _ at r f = f

less_sleeps : (x k n : ℕ) → may_sleep x (one_less k n) ≡ 0
less_sleeps x k zero = refl
less_sleeps x k (suc zero) = refl
less_sleeps x k (suc (suc n)) = refl

peek_word_first : (s : WaitState) (i : ℕ) (o : Option Phase) → slice_get s.phases i ≡ o
    → PeekIsFirst s → PeekIsFirst (or_same s (peek_word_by s i o))
peek_word_first s i (Some (Owes k n)) at f =
    if_moved s i (Found k n) (one_less k n) (mark_at s k == k + 1)
    (λ e. plain s i (Owes k n) (Found k n) at (omega arith) (omega arith) f)
    (λ e. let z = less_sleeps s.serving k n in
    kept s (moved s i (one_less k n)) i (Owes k n) (one_less k n) at refl refl (omega arith)
    (λ some st. let gone = eqb-false (mark_at s k) (k + 1) e in
    let y = none_there k s.serving (λ same. gone (subst (Stands s) (sym same) st)) in
    (st, omega arith)) f)
peek_word_first s i _ at f = f

-- the mark is taken away: where it was the one of the served ticket, none stands there
taken_first : (s : WaitState) (i k n : ℕ) → slice_get s.phases i ≡ Some (Found k n) → Sound s
    → PeekIsFirst s
    → PeekIsFirst record s {
      words = slice_set s.words (word_of s k) 0;
      phases = slice_set s.phases i (Wakes k n);
    }
taken_first s i k n at r f =
    let some_words : 0 < length s.words =
    (let few = slice_get_within s.phases i (Found k n) at in omega (arith, r.words)) in
    let ws : List ℕ = slice_set s.words (word_of s k) 0 in
    let len : length ws ≡ length s.words = length-set s.words (word_of s k) 0 in
    let here : slice_index ws (word_of s k) ≡ 0 =
    index_here s.words (word_of s k) 0 (mod_below k (length s.words) some_words) in
    let elsewhere = λ (x : ℕ) (ne : word_of s x ≢ word_of s k). (λ j. slice_index ws (x % len j))
    ∙ index_else s.words (word_of s k) (word_of s x) 0 ne in
    let at_one = λ (x : ℕ) (e : word_of s x ≡ word_of s k). (λ j. slice_index ws (x % len j))
    ∙ (ap (slice_index ws) e ∙ here) in
    kept s record s {
      words = slice_set s.words (word_of s k) 0;
      phases = slice_set s.phases i (Wakes k n);
    } i (Found k n) (Wakes k n) at refl refl (omega arith)
    (λ some st. dite (ℕ_discrete (word_of s s.serving) (word_of s k))
    (λ (e : word_of s s.serving ≡ word_of s k). let z = at_one s.serving e in absurd (omega arith))
    (λ ne. let y = none_there k s.serving (λ same. ne (ap (word_of s) (sym same))) in
    (sym (elsewhere s.serving ne) ∙ st, omega arith))) f

take_mark_first : (s : WaitState) (i : ℕ) (o : Option Phase) → slice_get s.phases i ≡ o → Sound s
    → PeekIsFirst s → PeekIsFirst (or_same s (take_mark_by s i o))
take_mark_first s i (Some (Found k n)) at r f =
    if_words s (slice_set s.words (word_of s k) 0) s.words (slice_set s.phases i (Wakes k n))
    (mark_at s k == k + 1) (λ e. taken_first s i k n at r f)
    (λ e. kept s (moved s i (Wakes k n)) i (Found k n) (Wakes k n) at refl refl (omega arith)
    (λ some st. let gone = eqb-false (mark_at s k) (k + 1) e in
    let y = none_there k s.serving (λ same. gone (subst (Stands s) (sym same) st)) in
    (st, omega arith)) f)
take_mark_first s i _ at r f = f

if_possible : (s x : WaitState) (b : Bool) → PeekIsFirst x → PeekIsFirst s
    → PeekIsFirst (or_same s (if b then Some x else None))
if_possible s x true f r = f
if_possible s x false f r = r

if_nobody : (s x : WaitState) (b : Bool) → PeekIsFirst x → PeekIsFirst s
    → PeekIsFirst (or_same s (if b then None else Some x))
if_nobody s x true f r = r
if_nobody s x false f r = f

-- a seat that wakes another has taken the mark before
paid_first : (s : WaitState) (i k n : ℕ) → slice_get s.phases i ≡ Some (Wakes k n) → PeekIsFirst s
    → PeekIsFirst (moved s i (one_less k n))
paid_first s i k n at f = let z = less_sleeps s.serving k n in
    plain s i (Wakes k n) (one_less k n) at (omega arith) (omega arith) f

apart : (s : WaitState) (i j k n t : ℕ) → slice_get s.phases i ≡ Some (Wakes k n)
    → slice_get s.phases j ≡ Some (Asleep t) → j ≢ i
apart s i j k n t a b h = absurd (cc (sym a ∙ (ap (slice_get s.phases) (sym h) ∙ b)))

woken_first : (s : WaitState) (i j k n t : ℕ) → slice_get s.phases i ≡ Some (Wakes k n)
    → slice_get s.phases j ≡ Some (Asleep t) → PeekIsFirst s
    → PeekIsFirst record s {
      phases = slice_set (slice_set s.phases i (one_less k n)) j (Waiting t);
    }
woken_first s i j k n t at at_j f =
    plain (moved s i (one_less k n)) j (Asleep t) (Waiting t)
    (get_other s.phases i j (one_less k n) (apart s i j k n t at at_j) ∙ at_j) (omega arith)
    (omega arith) (paid_first s i k n at f)

wake_first : (s : WaitState) (i : ℕ) (o : Option Phase) (j : ℕ) (q : Option Phase)
    → slice_get s.phases i ≡ o → slice_get s.phases j ≡ q → PeekIsFirst s
    → PeekIsFirst (or_same s (wake_by s i o j q))
wake_first s i (Some (Wakes k n)) j (Some (Asleep t)) at at_j f =
    if_possible s record s {
      phases = slice_set (slice_set s.phases i (one_less k n)) j (Waiting t);
    } (word_of s t == word_of s k) (woken_first s i j k n t at at_j f) f
wake_first s i (Some (Wakes k n)) j _ at at_j f =
    if_nobody s (moved s i (one_less k n))
    (list_any (sleeps_on (length s.words) (word_of s k)) s.phases)
    (paid_first s i k n at f) f
wake_first s i _ j q at at_j f = f

pub happens_first : (s : WaitState) (e : Event) → Sound s → PeekIsFirst s
    → PeekIsFirst (happens s e)
happens_first s (Take i) r f = take_first s i (slice_get s.phases i) refl f
happens_first s (Look i) r f = look_first s i (slice_get s.phases i) refl f
happens_first s (Mark i) r f = mark_first s i (slice_get s.phases i) refl r f
happens_first s (Park i) r f = park_first s i (slice_get s.phases i) refl f
happens_first s (SpuriousWake i) r f = spurious_wake_first s i (slice_get s.phases i) refl f
happens_first s (Apply i) r f = apply_first s i (slice_get s.phases i) refl f
happens_first s (Leave i) r f = leave_first s i (slice_get s.phases i) refl f
happens_first s (PeekNext i) r f = peek_next_first s i (slice_get s.phases i) refl r f
happens_first s (PeekWord i) r f = peek_word_first s i (slice_get s.phases i) refl f
happens_first s (TakeMark i) r f = take_mark_first s i (slice_get s.phases i) refl r f
happens_first s (Wake i j) r f =
    wake_first s i (slice_get s.phases i) j (slice_get s.phases j) refl refl f
