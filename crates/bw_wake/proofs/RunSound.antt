-- Every event keeps the invariant, so it holds after every list of events: the three laws.
use Rattle.std.proofs.Common.{◌≡◌, ◌≢◌, ℕ, ◌+◌, ◌==◌, nat_lt, Bool, true, false, List, [], ◌∷◌}
use Rattle.std.proofs.Common.{length, refl, sym, ap, ◌∙◌}
use Rattle.std.proofs.Common.{arith, eq-eqb, eqb-true, slice_get, slice_set, Some, None, Option}
use Rattle.std.proofs.Common.{if◌then◌else◌}
use Rattle.std.proofs.lemmas.Option.{slice_get_within}
use Rattle.std.specs.List.{list_any}
use Rattle.bw_wake.specs.declared.seats.Phase.{Phase}
use Rattle.bw_wake.specs.declared.seats.Phase.TheVariants.{Idle, Waiting, Marked, Looked, Asleep}
use Rattle.bw_wake.specs.declared.seats.Phase.TheVariants.{Inside, Done, Served, Owes, Found, Wakes}
use Rattle.bw_wake.specs.declared.seats.Event.{Event}
use Rattle.bw_wake.specs.declared.seats.Event.TheVariants.{Take, Look, Mark, Park, SpuriousWake}
use Rattle.bw_wake.specs.declared.seats.Event.TheVariants.{Apply, Leave, PeekNext, PeekWord}
use Rattle.bw_wake.specs.declared.seats.Event.TheVariants.{TakeMark, Wake}
use Rattle.bw_wake.specs.Protocol.{or_same, WaitState, one_less, tickets_woken, sleeps_on, start}
use Rattle.bw_wake.specs.Protocol.{run, happens, moved, take_by, look_by, mark_by}
use Rattle.bw_wake.specs.Protocol.{park_by, spurious_wake_by, apply_by, leave_by, peek_next_by}
use Rattle.bw_wake.specs.Protocol.{peek_word_by, take_mark_by, wake_by, word_of, mark_at}
use Rattle.bw_wake.specs.Progress.{NoneIsStuck, one_if, busy, sleeps, will_peek, wakes}
use Rattle.bw_wake.specs.Progress.{NoWakeIsLost, ServedTicketGoesOn}
use Rattle.bw_wake.proofs.Invariant.{waits, holds, Sound}
use Rattle.bw_wake.proofs.NotStuck.{wake_under_way, goes_on, not_stuck}
use Rattle.bw_wake.proofs.LeaveSound.{leave_sound}
use Rattle.bw_wake.proofs.MarkSound.{mark_waiting, mark_looked}
use Rattle.bw_wake.proofs.OneSeatSound.{apply_sound, miss_sound, park_sound, owes_sound}
use Rattle.bw_wake.proofs.OneSeatSound.{none_next_sound, found_sound, not_found_sound, taken_sound}
use Rattle.bw_wake.proofs.OneSeatSound.{untaken_sound, vain_park_sound}
use Rattle.bw_wake.proofs.WakeSound.{spurious_wake_sound, take_sound, enter_sound, wake_sound}
use Rattle.bw_wake.proofs.WakeSound.{wake_none_sound, start_sound}
use Rattle.std.proofs.lemmas.Bool.{eqb-false, ltb-false}

ifs : {x y : WaitState} (b : Bool) → (b ≡ true → Sound x) → (b ≡ false → Sound y)
    → Sound (if b then x else y)
ifs true f g = f refl
ifs false f g = g refl

if_moved : (s : WaitState) (i : ℕ) (p q : Phase) (b : Bool) → (b ≡ true → Sound (moved s i p))
    → (b ≡ false → Sound (moved s i q))
    → Sound (moved s i (if b then p else q))
if_moved s i p q true f g = f refl
if_moved s i p q false f g = g refl

if_words : (s : WaitState) (vs ws : List ℕ) (ps : List Phase) (b : Bool)
    → (b ≡ true → Sound record s { words = vs; phases = ps }) → (b ≡ false
    → Sound record s { words = ws; phases = ps })
    → Sound record s { words = if b then vs else ws; phases = ps }
if_words s vs ws ps true f g = f refl
if_words s vs ws ps false f g = g refl

entered : (s : WaitState) (i t : ℕ) (p : Phase) → slice_get s.phases i ≡ Some p
    → ((x : ℕ) → waits x p ≡ one_if (t == x)) → busy p ≡ 0 → holds p ≡ 1
    → ((x : ℕ) → sleeps x p ≡ 0) → ((x : ℕ) → will_peek x p ≡ 0) → ((x : ℕ) → wakes x p ≡ 0)
    → t ≡ s.serving → Sound s → Sound (moved s i Inside)
entered s i t p at is_w b h sl pe wa e r =
    enter_sound s i p at (λ x. is_w x ∙ ap (λ y. one_if (y == x)) e) b h sl pe wa r

take_keeps : (s : WaitState) (i : ℕ) (o : Option Phase) → slice_get s.phases i ≡ o → Sound s
    → Sound (or_same s (take_by s i o))
take_keeps s i (Some Idle) at r = take_sound s i at r
take_keeps s i _ at r = r

look_keeps : (s : WaitState) (i : ℕ) (o : Option Phase) → slice_get s.phases i ≡ o → Sound s
    → Sound (or_same s (look_by s i o))
look_keeps s i (Some (Waiting t)) at r =
    ifs (t == s.serving)
    (λ e. entered s i t (Waiting t) at (λ x. refl) refl refl (λ x. refl) (λ x. refl)
    (λ x. refl) (eqb-true t s.serving e) r) (λ e. r)
look_keeps s i (Some (Marked t)) at r =
    if_moved s i Inside (Looked t) (t == s.serving)
    (λ e. entered s i t (Marked t) at (λ x. refl) refl refl
    (λ x. refl) (λ x. refl) (λ x. refl) (eqb-true t s.serving e) r)
    (λ e. miss_sound s i t at (eqb-false t s.serving e) r)
look_keeps s i (Some (Looked t)) at r =
    ifs (t == s.serving)
    (λ e. entered s i t (Looked t) at (λ x. refl) refl refl (λ x. refl) (λ x. refl)
    (λ x. refl) (eqb-true t s.serving e) r) (λ e. r)
look_keeps s i _ at r = r

mark_keeps : (s : WaitState) (i : ℕ) (o : Option Phase) → slice_get s.phases i ≡ o → Sound s
    → Sound (or_same s (mark_by s i o))
mark_keeps s i (Some (Waiting t)) at r = mark_waiting s i t at r
mark_keeps s i (Some (Looked t)) at r = mark_looked s i t at r
mark_keeps s i _ at r = r

park_keeps : (s : WaitState) (i : ℕ) (o : Option Phase) → slice_get s.phases i ≡ o → Sound s
    → Sound (or_same s (park_by s i o))
park_keeps s i (Some (Looked t)) at r =
    if_moved s i (Asleep t) (Waiting t) (mark_at s t == t + 1)
    (λ e. park_sound s i t at (eqb-true (mark_at s t) (t + 1) e) r)
    (λ e. vain_park_sound s i t at r)
park_keeps s i _ at r = r

spurious_wake_keeps : (s : WaitState) (i : ℕ) (o : Option Phase) → slice_get s.phases i ≡ o
    → Sound s → Sound (or_same s (spurious_wake_by s i o))
spurious_wake_keeps s i (Some (Asleep t)) at r = spurious_wake_sound s i t at r
spurious_wake_keeps s i _ at r = r

apply_keeps : (s : WaitState) (i : ℕ) (o : Option Phase) → slice_get s.phases i ≡ o → Sound s
    → Sound (or_same s (apply_by s i o))
apply_keeps s i (Some Inside) at r = apply_sound s i at r
apply_keeps s i _ at r = r

leave_keeps : (s : WaitState) (i : ℕ) (o : Option Phase) → slice_get s.phases i ≡ o → Sound s
    → Sound (or_same s (leave_by s i o))
leave_keeps s i (Some Done) at r = leave_sound s i at r
leave_keeps s i _ at r = r

peek_next_keeps : (s : WaitState) (i : ℕ) (o : Option Phase) → slice_get s.phases i ≡ o → Sound s
    → Sound (or_same s (peek_next_by s i o))
peek_next_keeps s i (Some (Served t)) at r =
    if_moved s i (Owes (t + 1) tickets_woken) Idle (nat_lt (t + 1) s.next)
    (λ e. owes_sound s i t at r)
    (λ e. none_next_sound s i t at (ltb-false (t + 1) s.next e) r)
peek_next_keeps s i _ at r = r

peek_word_keeps : (s : WaitState) (i : ℕ) (o : Option Phase) → slice_get s.phases i ≡ o → Sound s
    → Sound (or_same s (peek_word_by s i o))
peek_word_keeps s i (Some (Owes k n)) at r =
    if_moved s i (Found k n) (one_less k n) (mark_at s k == k + 1) (λ e. found_sound s i k n at r)
    (λ e. not_found_sound s i k n at (eqb-false (mark_at s k) (k + 1) e) r)
peek_word_keeps s i _ at r = r

take_mark_keeps : (s : WaitState) (i : ℕ) (o : Option Phase) → slice_get s.phases i ≡ o → Sound s
    → Sound (or_same s (take_mark_by s i o))
take_mark_keeps s i (Some (Found k n)) at r =
    let few = slice_get_within s.phases i (Found k n) at in
    if_words s (slice_set s.words (word_of s k) 0) s.words (slice_set s.phases i (Wakes k n))
    (mark_at s k == k + 1)
    (λ e. taken_sound s i k n at (eqb-true (mark_at s k) (k + 1) e) (omega (arith, few, r.words)) r)
    (λ e. untaken_sound s i k n at (eqb-false (mark_at s k) (k + 1) e) r)
take_mark_keeps s i _ at r = r

if_possible : (s : WaitState) {x : WaitState} (b : Bool) → (b ≡ true → Sound x) → Sound s
    → Sound (or_same s (if b then Some x else None))
if_possible s true f r = f refl
if_possible s false f r = r

nobody_keeps : (s : WaitState) (i k n : ℕ) → slice_get s.phases i ≡ Some (Wakes k n) → Sound s
    → Sound (or_same s (if list_any (sleeps_on (length s.words) (word_of s k)) s.phases then None
    else Some (moved s i (one_less k n))))
nobody_keeps s i k n at r = by_any (list_any (sleeps_on (length s.words) (word_of s k)) s.phases)
    (λ e. wake_none_sound s i k n at e r)
  where
    by_any : (b : Bool) → (b ≡ false → Sound (moved s i (one_less k n)))
        → Sound (or_same s (if b then None else Some (moved s i (one_less k n))))
    by_any true f = r
    by_any false f = f refl

wake_keeps : (s : WaitState) (i : ℕ) (o : Option Phase) (j : ℕ) (q : Option Phase)
    → slice_get s.phases i ≡ o → slice_get s.phases j ≡ q → Sound s
    → Sound (or_same s (wake_by s i o j q))
wake_keeps s i (Some (Wakes k n)) j (Some (Asleep t)) at at_j r =
    if_possible s (word_of s t == word_of s k)
    (λ e. wake_sound s i j k n t at at_j (eqb-true (word_of s t) (word_of s k) e) r) r
wake_keeps s i (Some (Wakes k n)) j _ at at_j r = nobody_keeps s i k n at r
wake_keeps s i _ j q at at_j r = r

pub happens_sound : (s : WaitState) (e : Event) → Sound s → Sound (happens s e)
happens_sound s (Take i) r = take_keeps s i (slice_get s.phases i) refl r
happens_sound s (Look i) r = look_keeps s i (slice_get s.phases i) refl r
happens_sound s (Mark i) r = mark_keeps s i (slice_get s.phases i) refl r
happens_sound s (Park i) r = park_keeps s i (slice_get s.phases i) refl r
happens_sound s (SpuriousWake i) r = spurious_wake_keeps s i (slice_get s.phases i) refl r
happens_sound s (Apply i) r = apply_keeps s i (slice_get s.phases i) refl r
happens_sound s (Leave i) r = leave_keeps s i (slice_get s.phases i) refl r
happens_sound s (PeekNext i) r = peek_next_keeps s i (slice_get s.phases i) refl r
happens_sound s (PeekWord i) r = peek_word_keeps s i (slice_get s.phases i) refl r
happens_sound s (TakeMark i) r = take_mark_keeps s i (slice_get s.phases i) refl r
happens_sound s (Wake i j) r =
    wake_keeps s i (slice_get s.phases i) j (slice_get s.phases j) refl refl r

pub run_sound : (s : WaitState) (events : List Event) → Sound s → Sound (run s events)
run_sound s [] r = r
run_sound s (e ∷ es) r = run_sound (happens s e) es (happens_sound s e r)

pub no_wake_is_lost : NoWakeIsLost
no_wake_is_lost seats words events le =
    wake_under_way (run (start seats words) events)
    (run_sound (start seats words) events (start_sound seats words le))

pub served_ticket_goes_on : ServedTicketGoesOn
served_ticket_goes_on seats words events le =
    goes_on (run (start seats words) events)
    (run_sound (start seats words) events (start_sound seats words le))

pub none_is_stuck : NoneIsStuck
none_is_stuck seats words events le =
    not_stuck (run (start seats words) events)
    (run_sound (start seats words) events (start_sound seats words le))
