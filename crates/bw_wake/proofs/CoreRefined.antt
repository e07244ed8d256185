-- The waiting protocol refines the interleaving core, event by event.
use Rattle.std.proofs.Common.{◌≡◌, ℕ, zero, suc, ◌+◌, ◌==◌, nat_lt, Bool, true, false, List, []}
use Rattle.std.proofs.Common.{◌∷◌, map, length, replicate, set, refl, sym, ap, ◌∙◌}
use Rattle.std.proofs.Common.{subst, slice_get, slice_set, Some, None, Option, is_some}
use Rattle.std.proofs.Common.{if◌then◌else◌}
use Rattle.std.specs.List.{list_any}
use Rattle.bw_machine.proofs.CallerLemmas.{set_map, set_mapped}
use Rattle.bw_machine.specs.Seats.{CoreState, is_idle, is_done}
use Rattle.bw_machine.specs.Seats.{happens as core_happens, entered as core_entered}
use Rattle.bw_machine.specs.Seats.{applied as core_applied}
use Rattle.bw_machine.specs.declared.seats.Phase.{Phase as CorePhase}
use Rattle.bw_machine.specs.declared.seats.Phase.TheVariants.{Idle as CoreIdle}
use Rattle.bw_machine.specs.declared.seats.Phase.TheVariants.{Waiting as CoreWaiting}
use Rattle.bw_machine.specs.declared.seats.Phase.TheVariants.{Inside as CoreInside}
use Rattle.bw_machine.specs.declared.seats.CoreEvent.TheVariants.{Take as CoreTake}
use Rattle.bw_machine.specs.declared.seats.CoreEvent.TheVariants.{Enter as CoreEnter}
use Rattle.bw_machine.specs.declared.seats.CoreEvent.TheVariants.{Apply as CoreApply}
use Rattle.bw_machine.specs.declared.seats.CoreEvent.TheVariants.{Leave as CoreLeave}
use Rattle.bw_wake.specs.declared.seats.Phase.{Phase}
use Rattle.bw_wake.specs.declared.seats.Phase.TheVariants.{Idle, Waiting, Marked, Looked, Asleep}
use Rattle.bw_wake.specs.declared.seats.Phase.TheVariants.{Inside, Done, Served, Owes, Found, Wakes}
use Rattle.bw_wake.specs.declared.seats.Event.{Event}
use Rattle.bw_wake.specs.declared.seats.Event.TheVariants.{Take, Look, Mark, Park, SpuriousWake}
use Rattle.bw_wake.specs.declared.seats.Event.TheVariants.{Apply, Leave, PeekNext, PeekWord}
use Rattle.bw_wake.specs.declared.seats.Event.TheVariants.{TakeMark, Wake}
use Rattle.bw_wake.specs.Protocol.{WaitState, is_possible, happens, or_same, moved, word_of}
use Rattle.bw_wake.specs.Protocol.{mark_at, one_less, tickets_woken, take_by}
use Rattle.bw_wake.specs.Protocol.{look_by, mark_by, park_by, spurious_wake_by, apply_by, leave_by}
use Rattle.bw_wake.specs.Protocol.{peek_next_by, peek_word_by, take_mark_by}
use Rattle.bw_wake.specs.Protocol.{sleeps_on, woken, ticket_asleep, wake_by}
use Rattle.bw_wake.specs.Refines.{phase_in_core, event_in_core, Matches, core_after, RefinesTheCore}

pub get_map : {X Y : Type 0} (f : X → Y) (xs : List X) (i : ℕ) (x : X) → slice_get xs i ≡ Some x
    → slice_get (map f xs) i ≡ Some (f x)
get_map f [] i x e = absurd (cc e)
get_map f (y ∷ ys) zero x e = let d : y ≡ x = cc e in ap (λ z. Some (f z)) d
get_map f (y ∷ ys) (suc i) x e = get_map f ys i x e

start_map : {C : Type 0} (call : C) (n : ℕ) → ◌≡◌ {A = List (CorePhase C)} (replicate n CoreIdle)
    (map (phase_in_core call) (replicate n Idle))
start_map call zero = refl
start_map call (suc n) = ap (λ zs. CoreIdle ∷ zs) (start_map call n)

module _ {M C R : Type 0} (after : M → ℕ → C → M) (answer : M → ℕ → C
    → R) (call : C) (s : WaitState) (k : CoreState M C R) (i : ℕ) (m : Matches call s k) where
  core_at : (p : Phase) → slice_get s.phases i ≡ Some p
      → slice_get k.phases i ≡ Some (phase_in_core call p)
  core_at p at = ap (λ ps. slice_get ps i) m.phases ∙ get_map (phase_in_core call) s.phases i p at

  core_set : (q : Phase) → slice_set k.phases i (phase_in_core call q)
      ≡ map (phase_in_core call) (slice_set s.phases i q)
  core_set q = ap (λ ps. slice_set ps i (phase_in_core call q)) m.phases
      ∙ set_map (phase_in_core call) s.phases i q

  silent : (p q : Phase) (ws : List ℕ) → slice_get s.phases i ≡ Some p
      → phase_in_core call q ≡ phase_in_core call p
      → Matches call (record s { words = ws; phases = slice_set s.phases i q }) k
  silent p q ws at h =
      record {
        next = m.next;
        serving = m.serving;
        phases = m.phases ∙ sym (set_mapped (phase_in_core call) s.phases i p q at h);
      }

  silent_if : (b : Bool) (p q r : Phase) → slice_get s.phases i ≡ Some p
      → phase_in_core call q ≡ phase_in_core call p
      → phase_in_core call r ≡ phase_in_core call p
      → Matches call (moved s i (if b then q else r)) k
  silent_if true p q r at h g = silent p q s.words at h
  silent_if false p q r at h g = silent p r s.words at g

  less_idle : (a n : ℕ) → phase_in_core call (one_less a n) ≡ CoreIdle
  less_idle a zero = refl
  less_idle a (suc zero) = refl
  less_idle a (suc (suc n)) = refl

  taken : slice_get s.phases i ≡ Some Idle
      → Matches call
      (record s { next = s.next + 1; phases = slice_set s.phases i (Waiting s.next) })
      (core_happens after answer k (CoreTake i call))
  taken at = subst
      (λ o. Matches call
      (record s { next = s.next + 1; phases = slice_set s.phases i (Waiting s.next) })
      (if is_idle o then record k {
        next = k.next + 1;
        phases = slice_set k.phases i (CoreWaiting k.next call);
      } else k)) (sym (core_at Idle at))
      (record {
        next = ap (λ (x : ℕ). x + 1) m.next;
        serving = m.serving;
        phases = ap (λ x. slice_set k.phases i (CoreWaiting x call)) m.next
            ∙ core_set (Waiting s.next);
      })

  went_in : (b : Bool) (x : WaitState) → Matches call x k
      → Matches call (if b then moved s i Inside else x)
      (if b then record k { phases = slice_set k.phases i (CoreInside call) } else k)
  went_in true x h = record { next = m.next; serving = m.serving; phases = core_set Inside }
  went_in false x h = h

  enters : (t : ℕ) (x : WaitState) → slice_get k.phases i ≡ Some (CoreWaiting t call)
      → Matches call x (if t == s.serving
      then record k { phases = slice_set k.phases i (CoreInside call) } else k)
      → Matches call x (core_happens after answer k (CoreEnter i))
  enters t x at h = subst (λ o. Matches call x (core_entered k i o)) (sym at)
      (subst (λ v. Matches call x
      (if t == v then record k { phases = slice_set k.phases i (CoreInside call) } else k))
      (sym m.serving) h)

  looked : (p : Phase) (t : ℕ) → slice_get s.phases i ≡ Some p
      → phase_in_core call p ≡ CoreWaiting t call
      → Matches call (if t == s.serving then moved s i Inside else s)
      (core_happens after answer k (CoreEnter i))
  looked p t at h = enters t (if t == s.serving then moved s i Inside else s)
      (core_at p at ∙ ap Some h) (went_in (t == s.serving) s m)

  in_or_looked : (b : Bool) (t : ℕ) → slice_get s.phases i ≡ Some (Marked t)
      → Matches call (moved s i (if b then Inside else Looked t))
      (if b then record k { phases = slice_set k.phases i (CoreInside call) } else k)
  in_or_looked true t at = record { next = m.next; serving = m.serving; phases = core_set Inside }
  in_or_looked false t at = silent (Marked t) (Looked t) s.words at refl

  looked_marked : (t : ℕ) → slice_get s.phases i ≡ Some (Marked t)
      → Matches call (moved s i (if t == s.serving then Inside else Looked t))
      (core_happens after answer k (CoreEnter i))
  looked_marked t at = enters t (moved s i (if t == s.serving then Inside else Looked t))
      (core_at (Marked t) at) (in_or_looked (t == s.serving) t at)

  applied_core : slice_get s.phases i ≡ Some Inside
      → Matches call (moved s i Done) (core_happens after answer k (CoreApply i))
  applied_core at = subst (λ o. Matches call (moved s i Done) (core_applied after answer k i o))
      (sym (core_at Inside at))
      (record { next = m.next; serving = m.serving; phases = core_set Done })

  left : slice_get s.phases i ≡ Some Done
      → Matches call
      (record s { serving = s.serving + 1; phases = slice_set s.phases i (Served s.serving) })
      (core_happens after answer k (CoreLeave i))
  left at = subst
      (λ o. Matches call
      (record s { serving = s.serving + 1; phases = slice_set s.phases i (Served s.serving) })
      (if is_done o then record k {
        serving = k.serving + 1;
        phases = slice_set k.phases i CoreIdle;
      } else k)) (sym (core_at Done at))
      (record {
        next = m.next;
        serving = ap (λ (x : ℕ). x + 1) m.serving;
        phases = core_set (Served s.serving);
      })

  take_refines : (o : Option Phase) → slice_get s.phases i ≡ o
      → Matches call (or_same s (take_by s i o))
      (core_after after answer k
      (if is_some (take_by s i o) then Some (CoreTake i call) else None))
  take_refines (Some Idle) at = taken at
  take_refines _ at = m

  look_refines : (o : Option Phase) → slice_get s.phases i ≡ o
      → Matches call (or_same s (look_by s i o))
      (core_after after answer k (if is_some (look_by s i o) then Some (CoreEnter i) else None))
  look_refines (Some (Waiting t)) at = looked (Waiting t) t at refl
  look_refines (Some (Marked t)) at = looked_marked t at
  look_refines (Some (Looked t)) at = looked (Looked t) t at refl
  look_refines _ at = m

  mark_refines : (o : Option Phase) → slice_get s.phases i ≡ o
      → Matches call (or_same s (mark_by s i o))
      (core_after after answer k (if is_some (mark_by s i o) then None else None))
  mark_refines (Some (Waiting t)) at =
      silent (Waiting t) (Marked t) (slice_set s.words (word_of s t) (t + 1)) at refl
  mark_refines (Some (Looked t)) at =
      silent (Looked t) (Marked t) (slice_set s.words (word_of s t) (t + 1)) at refl
  mark_refines _ at = m

  parked : (b : Bool) (t : ℕ)
      → phase_in_core call (if b then Asleep t else Waiting t) ≡ CoreWaiting t call
  parked true t = refl
  parked false t = refl

  park_refines : (o : Option Phase) → slice_get s.phases i ≡ o
      → Matches call (or_same s (park_by s i o))
      (core_after after answer k (if is_some (park_by s i o) then None else None))
  park_refines (Some (Looked t)) at =
      silent (Looked t) (if mark_at s t == t + 1 then Asleep t else Waiting t) s.words at
      (parked (mark_at s t == t + 1) t)
  park_refines _ at = m

  spurious_wake_refines : (o : Option Phase) → slice_get s.phases i ≡ o
      → Matches call (or_same s (spurious_wake_by s i o))
      (core_after after answer k (if is_some (spurious_wake_by s i o) then None else None))
  spurious_wake_refines (Some (Asleep t)) at = silent (Asleep t) (Waiting t) s.words at refl
  spurious_wake_refines _ at = m

  apply_refines : (o : Option Phase) → slice_get s.phases i ≡ o
      → Matches call (or_same s (apply_by s i o))
      (core_after after answer k
      (if is_some (apply_by s i o) then Some (CoreApply i) else None))
  apply_refines (Some Inside) at = applied_core at
  apply_refines _ at = m

  leave_refines : (o : Option Phase) → slice_get s.phases i ≡ o
      → Matches call (or_same s (leave_by s i o))
      (core_after after answer k
      (if is_some (leave_by s i o) then Some (CoreLeave i) else None))
  leave_refines (Some Done) at = left at
  leave_refines _ at = m

  peek_next_refines : (o : Option Phase) → slice_get s.phases i ≡ o
      → Matches call (or_same s (peek_next_by s i o))
      (core_after after answer k (if is_some (peek_next_by s i o) then None else None))
  peek_next_refines (Some (Served t)) at =
      silent_if (nat_lt (t + 1) s.next) (Served t) (Owes (t + 1) tickets_woken) Idle at refl refl
  peek_next_refines _ at = m

  peek_word_refines : (o : Option Phase) → slice_get s.phases i ≡ o
      → Matches call (or_same s (peek_word_by s i o))
      (core_after after answer k (if is_some (peek_word_by s i o) then None else None))
  peek_word_refines (Some (Owes a n)) at =
      silent_if (mark_at s a == a + 1) (Owes a n) (Found a n) (one_less a n) at refl (less_idle a n)
  peek_word_refines _ at = m

  take_mark_refines : (o : Option Phase) → slice_get s.phases i ≡ o
      → Matches call (or_same s (take_mark_by s i o))
      (core_after after answer k (if is_some (take_mark_by s i o) then None else None))
  take_mark_refines (Some (Found a n)) at =
      silent (Found a n) (Wakes a n)
      (if mark_at s a == a + 1 then slice_set s.words (word_of s a) 0 else s.words) at refl
  take_mark_refines _ at = m

  get_elsewhere : (xs : List Phase) (a b : ℕ) (x y : Phase) (q : Phase) → slice_get xs a ≡ Some x
      → slice_get xs b ≡ Some y
      → phase_in_core call q ≡ phase_in_core call x
      → (z : Phase) × (slice_get (set xs a q) b ≡ Some z)
      × (phase_in_core call z ≡ phase_in_core call y)
  get_elsewhere [] a b x y q e f h = absurd (cc e)
  get_elsewhere (w ∷ ws) zero zero x y q e f h = let d : w ≡ x = cc e in let g : w ≡ y = cc f in
      (q, refl, h ∙ ap (phase_in_core call) (sym d ∙ g))
  get_elsewhere (w ∷ ws) zero (suc b) x y q e f h = (y, f, refl)
  get_elsewhere (w ∷ ws) (suc a) zero x y q e f h = (y, f, refl)
  get_elsewhere (w ∷ ws) (suc a) (suc b) x y q e f h = get_elsewhere ws a b x y q e f h

  nobody : (a n : ℕ) → slice_get s.phases i ≡ Some (Wakes a n) → (b : Bool)
      → Matches call (or_same s (if b then None else Some (moved s i (one_less a n)))) k
  nobody a n at true = m
  nobody a n at false = silent (Wakes a n) (one_less a n) s.words at (less_idle a n)

  one : (a n j t : ℕ) → slice_get s.phases i ≡ Some (Wakes a n)
      → slice_get s.phases j ≡ Some (Asleep t) → (b : Bool)
      → Matches call
      (or_same s (if b
      then Some (record s {
        phases =
            slice_set (slice_set s.phases i (one_less a n)) j (Waiting t);
      }) else None)) k
  one a n j t at at_j false = m
  one a n j t at at_j true =
      let first = silent (Wakes a n) (one_less a n) s.words at (less_idle a n) in
      let z = get_elsewhere s.phases i j (Wakes a n) (Asleep t) (one_less a n) at at_j
      (less_idle a n) in
      record {
        next = m.next;
        serving = m.serving;
        phases = first.phases
            ∙ sym (set_mapped (phase_in_core call) (slice_set s.phases i (one_less a n)) j z.0
            (Waiting t) z.1 (sym z.2));
      }

  same_core : (b : Bool) (x : WaitState) → Matches call x k
      → Matches call x (core_after after answer k (if b then None else None))
  same_core true x h = h
  same_core false x h = h

  woken_matches : (a n j : ℕ) (q : Option Phase) → slice_get s.phases i ≡ Some (Wakes a n)
      → slice_get s.phases j ≡ q
      → Matches call (or_same s (woken s i a n j (ticket_asleep q))) k
  woken_matches a n j (Some (Asleep t)) at at_j = one a n j t at at_j (word_of s t == word_of s a)
  woken_matches a n j _ at at_j =
      nobody a n at (list_any (sleeps_on (length s.words) (word_of s a)) s.phases)

  wake_refines : (j : ℕ) (o q : Option Phase) → slice_get s.phases i ≡ o → slice_get s.phases j ≡ q
      → Matches call (or_same s (wake_by s i o j q))
      (core_after after answer k (if is_some (wake_by s i o j q) then None else None))
  wake_refines j (Some (Wakes a n)) q at at_j =
      same_core (is_some (woken s i a n j (ticket_asleep q)))
      (or_same s (woken s i a n j (ticket_asleep q))) (woken_matches a n j q at at_j)
  wake_refines j _ q at at_j = m

pub refines_the_core : {M C R : Type 0} (after : M → ℕ → C → M) (answer : M → ℕ → C → R)
    → RefinesTheCore after answer
refines_the_core after answer = record {
  at_start = λ call machine seats words.
      record { next = refl; serving = refl; phases = start_map call seats };
  each = λ call s k e m. each_event call s k m e;
}
  where
    each_event : (call : _) (s : WaitState) (k : _) → Matches call s k → (e : Event)
        → Matches call (happens s e)
        (core_after after answer k (if is_possible s e then event_in_core call e else None))
    each_event call s k m (Take i) =
        take_refines after answer call s k i m (slice_get s.phases i) refl
    each_event call s k m (Look i) =
        look_refines after answer call s k i m (slice_get s.phases i) refl
    each_event call s k m (Mark i) =
        mark_refines after answer call s k i m (slice_get s.phases i) refl
    each_event call s k m (Park i) =
        park_refines after answer call s k i m (slice_get s.phases i) refl
    each_event call s k m (SpuriousWake i) =
        spurious_wake_refines after answer call s k i m (slice_get s.phases i) refl
    each_event call s k m (Apply i) =
        apply_refines after answer call s k i m (slice_get s.phases i) refl
    each_event call s k m (Leave i) =
        leave_refines after answer call s k i m (slice_get s.phases i) refl
    each_event call s k m (PeekNext i) =
        peek_next_refines after answer call s k i m (slice_get s.phases i) refl
    each_event call s k m (PeekWord i) =
        peek_word_refines after answer call s k i m (slice_get s.phases i) refl
    each_event call s k m (TakeMark i) =
        take_mark_refines after answer call s k i m (slice_get s.phases i) refl
    each_event call s k m (Wake i j) =
        wake_refines after answer call s k i m j (slice_get s.phases i) (slice_get s.phases j) refl
        refl
