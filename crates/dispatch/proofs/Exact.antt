-- An event is refused if and only if the rule does not allow it, or a number has no room.
use Rattle.std.proofs.Common.{◌≡◌, ℕ, zero, suc, ◌+◌, ◌-◌, ◌*◌, ◌/◌, ◌<◌, ◌≤◌, ◌^◌, ◌==◌}
use Rattle.std.proofs.Common.{◌&&◌, ◌||◌}
use Rattle.std.proofs.Common.{◌⊎◌, inl, inr, not, nat_lt, Bool, true, false, List, [], ◌∷◌, length}
use Rattle.std.proofs.Common.{get_or, Option, None, Some, Result, Ok, Err, slice_get, refl, ap, sym}
use Rattle.std.proofs.Common.{subst, ◌∙◌, arith, max, if◌then◌else◌}
use Rattle.std.specs.List.{list_any, list_all, AllByRecursion}
use Rattle.std.proofs.lemmas.Bool.{ltb-true, ltb-false, lt-ltb, le-ltb, ne_eqb}
use Rattle.std.proofs.lemmas.List.Folds.{list_any_none, list_any_at}
use Rattle.std.proofs.lemmas.List.Elements.{All-from_get_or}
use Rattle.dispatch.specs.declared.leaves.Leaf.{Leaf}
use Rattle.dispatch.specs.declared.events.Refusal.{Refusal}
use Rattle.dispatch.specs.declared.events.Refusal.TheVariants as refusals
use Rattle.dispatch.specs.declared.reservation.Account.{Account}
use Rattle.dispatch.specs.declared.reservation.Terms.{Terms}
use Rattle.dispatch.specs.declared.reservation.Run.{Run}
use Rattle.dispatch.specs.declared.reservation.Step.TheVariants.{Pass, Wake, Pick, End, Level}
use Rattle.dispatch.specs.declared.reservation.Step.TheVariants.{Give, Leave, Cut, Stop, Refill}
use Rattle.dispatch.specs.Rule.{number, ◌>>=◌, leaf_ended, without_value, waits_behind, is_behind}
use Rattle.dispatch.specs.Rule as shares
use Rattle.dispatch.specs.Reservation.{Reservations, WHOLE, terms_of, account_at, no_account}
use Rattle.dispatch.specs.Reservation.{quantum_in, rate_of, capped_owed, settled_owed, cut_if_less}
use Rattle.dispatch.specs.Reservation.{woken_in, picked_in, given_in, left_in}
use Rattle.dispatch.specs.Reservation.{passed_owed, IsDue, OwesWithin, IsNoLater, IsNoFurther}
use Rattle.dispatch.specs.Reservation.{MayPick, Runs, Waits, Allows, ready_in, seen_leaf}
use Rattle.dispatch.specs.Steps.{is_due, ahead, back, is_earlier, is_passed_over, owed_fits}
use Rattle.dispatch.specs.Steps.{age_fits, AgeFits, account_woken, account_picked, account_ended}
use Rattle.dispatch.specs.Steps.{account_given, account_left, account_cut, account_stopped}
use Rattle.dispatch.specs.Steps.{free_processor, run_of}
use Rattle.dispatch.specs.Steps.{end_allowed, and_then, allowed, HasRoom, HasRoomAtEnd}
use Rattle.dispatch.specs.Steps.{RefusalIsExact}
use Rattle.dispatch.proofs.Backlog.{known_at}
use Rattle.dispatch.proofs.Deadlines.{owed_by, deadline_by}
use Rattle.dispatch.proofs.Happens.{ended_parts as end_parts}

-- ---- numbers

has_room : (n : ℕ) (b : Bool) → nat_lt n (2 ^ 64) ≡ b
    → (m : ℕ) → ◌≡◌ {A = Result ℕ Refusal} (if b then Ok n else Err refusals.TooGreat) (Ok m)
    → n < 2 ^ 64
has_room n true is m ok = ltb-true n (2 ^ 64) is
has_room n false is m ok = absurd (cc ok)

room_of : (n m : ℕ) → number n ≡ Ok m → n < 2 ^ 64
room_of n m ok = has_room n (nat_lt n (2 ^ 64)) refl m ok

number_of : (n : ℕ) → n < 2 ^ 64 → number n ≡ Ok n
number_of n less =
    ap (λ (b : Bool). if◌then◌else◌ {A = Result ℕ Refusal} b (Ok n) (Err refusals.TooGreat))
    (lt-ltb n (2 ^ 64) less)

both_ok : {A B : Type 0} (r : Result B Refusal) (next : Result A Refusal) (x : A)
    → (r >>= λ _. next) ≡ Ok x → ((n : B) × (r ≡ Ok n)) × (next ≡ Ok x)
both_ok (Ok n) next x ok = ((n, refl), ok)
both_ok (Err f) next x ok = absurd (cc ok)

value_of : {A : Type 0} (r : Result A Refusal) → without_value r ≡ Ok tt → (x : A) × (r ≡ Ok x)
value_of (Ok x) ok = (x, refl)
value_of (Err f) ok = absurd (cc ok)

two_numbers_fit : {A : Type 0} (x : A) (m n : ℕ) → m < 2 ^ 64 → n < 2 ^ 64
    → (number m >>= λ _. (number n >>= λ _. Ok x)) ≡ Ok x
two_numbers_fit {A} x m n less_m less_n =
    ap (λ (r : Result ℕ Refusal). r >>= λ _. (number n >>= λ _. Ok x)) (number_of m less_m)
    ∙ ap (λ (r : Result ℕ Refusal). r >>= λ _. Ok x) (number_of n less_n)

-- the rooms of two numbers
two_rooms : {A : Type 0} (x v : A) (m n : ℕ)
    → (number m >>= λ _. (number n >>= λ _. Ok x)) ≡ Ok v → (m < 2 ^ 64) × (n < 2 ^ 64)
two_rooms {A} x v m n ok =
    let one = both_ok (number m) (number n >>= λ _. Ok x) v ok in
    let two = both_ok (number n) (Ok x) v one.1 in
    (room_of m one.0.0 one.0.1, room_of n two.0.0 two.0.1)

pub some_not : (n : ℕ) → (n == 0) ≡ false → 0 < n
some_not zero is = absurd (let clash : true ≡ false = is in cc clash)
some_not (suc n) is = omega arith

not_zero : (n : ℕ) → 0 < n → (n == 0) ≡ false
not_zero n some = ne_eqb n 0 (λ e. let clash : ⊥ = omega (arith, e, some) in clash)

-- a leaf that is known, or none
found : (xs : List Account) (i : ℕ)
    → ((i < length xs) × (slice_get xs i ≡ Some (get_or xs i no_account)))
    ⊎ ((slice_get xs i ≡ None) × (length xs ≤ i))
found [] i = inr (refl, omega arith)
found (l ∷ xs) zero = inl (omega arith, refl)
found (l ∷ xs) (suc i) = up (found xs i) where
  up : ((i < length xs) × (slice_get xs i ≡ Some (get_or xs i no_account)))
      ⊎ ((slice_get xs i ≡ None) × (length xs ≤ i))
      → ((suc i < length (l ∷ xs)) × (slice_get xs i ≡ Some (get_or xs i no_account)))
      ⊎ ((slice_get xs i ≡ None) × (length (l ∷ xs) ≤ suc i))
  up (inl p) = inl (omega (arith, p.0), p.1)
  up (inr p) = inr (p.0, omega (arith, p.1))

-- what holds of a leaf of which an event is not refused
of_known : (P : Type 0) (s : Reservations) (i : ℕ) (f : Option Account → Result Account Refusal)
    → without_value (f (slice_get s.accounts i)) ≡ Ok tt → (without_value (f None) ≡ Ok tt → ⊥)
    → (i < length s.accounts → (v : Account) → f (Some (account_at s i)) ≡ Ok v → P) → P
of_known P s i f ok none some = by_case (found s.accounts i) where
  by_case : ((i < length s.accounts) × (slice_get s.accounts i ≡ Some (account_at s i)))
      ⊎ ((slice_get s.accounts i ≡ None) × (length s.accounts ≤ i)) → P
  by_case (inl p) =
      let here : without_value (f (Some (account_at s i))) ≡ Ok tt =
      subst (λ (o : Option Account). without_value (f o) ≡ Ok tt) p.1 ok in
      let v = value_of (f (Some (account_at s i))) here in
      some p.0 v.0 v.1
  by_case (inr p) =
      absurd (none (subst (λ (o : Option Account). without_value (f o) ≡ Ok tt) p.0 ok))

-- ---- time

pub both_tests : (a b : Bool) → (a && b) ≡ true → (a ≡ true) × (b ≡ true)
both_tests true b both = (refl, both)
both_tests false b both = absurd (cc both)

pub rooms_of : {X : Type 0} (p : X → Bool) (P : X → Type 0) → ((x : X) → p x ≡ true → P x)
    → (xs : List X) → list_all p xs ≡ true → AllByRecursion P xs
rooms_of p P sound [] all = tt
rooms_of p P sound (x ∷ xs) all =
    let parts = both_tests (p x) (list_all p xs) all in
    (sound x parts.0, rooms_of p P sound xs parts.1)

pub all_room : {X : Type 0} (p : X → Bool) (P : X → Type 0) → ((x : X) → P x → p x ≡ true)
    → (xs : List X) → AllByRecursion P xs → list_all p xs ≡ true
all_room p P complete [] all = refl
all_room p P complete (x ∷ xs) all =
    ap (λ (b : Bool). b && list_all p xs) (complete x all.0)
    ∙ all_room p P complete xs all.1

age_sound : (ns : ℕ) (q : Option Run) → age_fits ns q ≡ true → AgeFits ns q
age_sound ns None is = tt
age_sound ns (Some run) is = ltb-true (run.age + ns) (2 ^ 64) is

age_complete : (ns : ℕ) (q : Option Run) → AgeFits ns q → age_fits ns q ≡ true
age_complete ns None fits = refl
age_complete ns (Some run) fits = lt-ltb (run.age + ns) (2 ^ 64) fits

both_true : (a b : Bool) → ◌≡◌ {A = Result (Unit {0}) Refusal}
    (if a && b then Ok tt else Err refusals.TooGreat) (Ok tt) → (a ≡ true) × (b ≡ true)
both_true true true ok = (refl, refl)
both_true true false ok = absurd (cc ok)
both_true false b ok = absurd (cc ok)

pass_sound : (s : Reservations) (ns : ℕ) → allowed s (Pass ns) ≡ Ok tt → HasRoom s (Pass ns)
pass_sound s ns ok =
    let both = both_true (list_all (owed_fits (terms_of s) ns) s.accounts)
    (list_all (age_fits ns) s.processors) ok in (
      rooms_of (owed_fits (terms_of s) ns) (λ a. passed_owed (terms_of s) ns a < 2 ^ 64)
          (λ a is. ltb-true (passed_owed (terms_of s) ns a) (2 ^ 64) is) s.accounts both.0,
      rooms_of (age_fits ns) (AgeFits ns) (age_sound ns) s.processors both.1,
    )

pass_complete : (s : Reservations) (ns : ℕ) → HasRoom s (Pass ns) → allowed s (Pass ns) ≡ Ok tt
pass_complete s ns room =
    ap (λ (b : Bool). if◌then◌else◌ {A = Result (Unit {0}) Refusal}
    (b && list_all (age_fits ns) s.processors) (Ok tt) (Err refusals.TooGreat))
    (all_room (owed_fits (terms_of s) ns) (λ a. passed_owed (terms_of s) ns a < 2 ^ 64)
    (λ a fits. lt-ltb (passed_owed (terms_of s) ns a) (2 ^ 64) fits) s.accounts room.0)
    ∙ ap (λ (b : Bool). if◌then◌else◌ {A = Result (Unit {0}) Refusal} b (Ok tt)
    (Err refusals.TooGreat))
    (all_room (age_fits ns) (AgeFits ns) (age_complete ns) s.processors room.1)

-- ---- wake

wake_sound : (s : Reservations) (i tasks : ℕ) → allowed s (Wake i tasks) ≡ Ok tt
    → Allows s (Wake i tasks) × HasRoom s (Wake i tasks)
wake_sound s i tasks ok =
    of_known (Allows s (Wake i tasks) × HasRoom s (Wake i tasks)) s i
    (account_woken (terms_of s) s.accounts tasks) ok (λ none. absurd (cc none))
    (λ known v is. (
      known,
      two_rooms (woken_in (terms_of s) s.accounts tasks (account_at s i)) v
          (woken_in (terms_of s) s.accounts tasks (account_at s i)).share.charged
          (woken_in (terms_of s) s.accounts tasks (account_at s i)).share.waiting is,
    ))

wake_complete : (s : Reservations) (i tasks : ℕ)
    → Allows s (Wake i tasks) × HasRoom s (Wake i tasks) → allowed s (Wake i tasks) ≡ Ok tt
wake_complete s i tasks p =
    let w = woken_in (terms_of s) s.accounts tasks (account_at s i) in
    ap (λ (o : Option Account). without_value (account_woken (terms_of s) s.accounts tasks o))
    (known_at s i p.0)
    ∙ ap without_value (two_numbers_fit w w.share.charged w.share.waiting p.1.0 p.1.1)

-- ---- deadlines

due_parts : (a b : Bool) → (a && not b) ≡ true → (a ≡ true) × (b ≡ false)
due_parts true false is = (refl, refl)
due_parts true true is = absurd (cc is)
due_parts false b is = absurd (cc is)

due_is : (s : Reservations) (a : Account) → is_due (terms_of s) a ≡ true → IsDue s a
due_is s a is =
    let p = due_parts (nat_lt 0 (rate_of a))
    (nat_lt a.owed (quantum_in (terms_of s) + rate_of a * s.slack)) is in
    record {
      owes = ltb-true 0 (rate_of a) p.0;
      behind = ltb-false a.owed (quantum_in (terms_of s) + rate_of a * s.slack) p.1;
    }

pub is_due_of : (s : Reservations) (a : Account) → IsDue s a → is_due (terms_of s) a ≡ true
is_due_of s a due =
    ap (λ (b : Bool). b && not (nat_lt a.owed (quantum_in (terms_of s) + rate_of a * s.slack)))
    (lt-ltb 0 (rate_of a) due.owes)
    ∙ ap not (le-ltb a.owed (quantum_in (terms_of s) + rate_of a * s.slack) due.behind)

-- the rate of a leaf that is due, as a divisor
divisor : (a : Account) → 0 < rate_of a → max 1 (rate_of a) ≡ rate_of a
divisor a some = omega (arith, some)

owes_of : (s : Reservations) (a : Account) (h k : ℕ) → 0 < rate_of a
    → ahead (terms_of s) a + k ≤ h + back (terms_of s) a → OwesWithin s a h k
owes_of s a h k some less =
    owed_by (2 * quantum_in (terms_of s)) a.owed (rate_of a) h k some
    (subst (λ (r : ℕ). (2 * quantum_in (terms_of s) - a.owed + (r - 1)) / r + k
    ≤ h + (a.owed - 2 * quantum_in (terms_of s)) / r) (divisor a some) less)

deadline_of : (s : Reservations) (a : Account) (h k : ℕ) → 0 < rate_of a → OwesWithin s a h k
    → ahead (terms_of s) a + k ≤ h + back (terms_of s) a
deadline_of s a h k some owes =
    subst (λ (r : ℕ). (2 * quantum_in (terms_of s) - a.owed + (r - 1)) / r + k
    ≤ h + (a.owed - 2 * quantum_in (terms_of s)) / r) (sym (divisor a some))
    (deadline_by (2 * quantum_in (terms_of s)) a.owed (rate_of a) h k some owes)

no_later : (s : Reservations) (a b : Account) → 0 < rate_of a → 0 < rate_of b
    → is_earlier (terms_of s) a b ≡ false → IsNoLater s a b
no_later s a b some_a some_b is h k owes =
    let order = ltb-false (ahead (terms_of s) b + back (terms_of s) a)
    (ahead (terms_of s) a + back (terms_of s) b) is in
    let other = deadline_of s b h k some_b owes in
    owes_of s a h k some_a (omega (arith, order, other))

not_earlier : (s : Reservations) (a b : Account) → 0 < rate_of a → 0 < rate_of b
    → IsNoLater s a b → is_earlier (terms_of s) a b ≡ false
not_earlier s a b some_a some_b later =
    let own = owes_of s b (ahead (terms_of s) b) (back (terms_of s) b) some_b (omega arith) in
    let other = deadline_of s a (ahead (terms_of s) b) (back (terms_of s) b) some_a
    (later (ahead (terms_of s) b) (back (terms_of s) b) own) in
    le-ltb (ahead (terms_of s) b + back (terms_of s) a)
    (ahead (terms_of s) a + back (terms_of s) b) (omega (arith, other))

-- ---- who goes before

over_parts : (w d own e : Bool) → (w && (d && (not own || e))) ≡ false → w ≡ true → d ≡ true
    → (own ≡ true) × (e ≡ false)
over_parts false d own e is waits due = absurd (cc waits)
over_parts true false own e is waits due = absurd (cc due)
over_parts true true false e is waits due = absurd (let clash : true ≡ false = is in cc clash)
over_parts true true true true is waits due = absurd (let clash : true ≡ false = is in cc clash)
over_parts true true true false is waits due = (refl, refl)

over_none : (w d own e : Bool) → (w ≡ true → d ≡ true → (own ≡ true) × (e ≡ false))
    → (w && (d && (not own || e))) ≡ false
over_none false d own e h = refl
over_none true false own e h = refl
over_none true true own e h = both own e (h refl refl) where
  both : (own e : Bool) → (own ≡ true) × (e ≡ false) → (not own || e) ≡ false
  both true e p = p.1
  both false e p = absurd (cc p.0)

none_at : (p : Account → Bool) (xs : List Account) (k : ℕ) → list_any p xs ≡ false
    → k < length xs → p (get_or xs k no_account) ≡ false
none_at p xs k none known = by_test (p (get_or xs k no_account)) refl where
  by_test : (b : Bool) → p (get_or xs k no_account) ≡ b → p (get_or xs k no_account) ≡ false
  by_test false is = is
  by_test true is =
      let some : list_any p xs ≡ true = list_any_at p xs k no_account known is in
      absurd (let clash : true ≡ false = sym some ∙ none in cc clash)

in_range : (xs : List Account) (k : ℕ) → 0 < ready_in (get_or xs k no_account)
    → k < length xs
in_range [] k waits = absurd (let clash : ⊥ = omega (arith, waits) in clash)
in_range (l ∷ xs) zero waits = omega arith
in_range (l ∷ xs) (suc k) waits = omega (arith, in_range xs k waits)

due_before : (s : Reservations) (a : Account)
    → list_any (is_passed_over (terms_of s) a) s.accounts ≡ false → (k : ℕ) → Waits s k
    → IsDue s (account_at s k) → IsDue s a × IsNoLater s a (account_at s k)
due_before s a none k waits due =
    let t = terms_of s in
    let p = over_parts (nat_lt 0 (ready_in (account_at s k))) (is_due t (account_at s k))
    (is_due t a) (is_earlier t a (account_at s k))
    (none_at (is_passed_over t a) s.accounts k none (in_range s.accounts k waits))
    (lt-ltb 0 (ready_in (account_at s k)) waits) (is_due_of s (account_at s k) due) in
    let own = due_is s a p.0 in
    (own, no_later s a (account_at s k) own.owes due.owes p.1)

none_before : (s : Reservations) (a : Account)
    → ((k : ℕ) → Waits s k → IsDue s (account_at s k)
    → IsDue s a × IsNoLater s a (account_at s k))
    → list_any (is_passed_over (terms_of s) a) s.accounts ≡ false
none_before s a each =
    list_any_none (is_passed_over (terms_of s) a) s.accounts
    (All-from_get_or (λ m. is_passed_over (terms_of s) a m ≡ false) s.accounts no_account
    (λ k less. over_none (nat_lt 0 (ready_in (account_at s k)))
    (is_due (terms_of s) (account_at s k)) (is_due (terms_of s) a)
    (is_earlier (terms_of s) a (account_at s k))
    (λ waits due. (let d = due_is s (account_at s k) due in
    let p = each k (ltb-true 0 (ready_in (account_at s k)) waits) d in (
      is_due_of s a p.0,
      not_earlier s a (account_at s k) p.0.owes d.owes p.1,
    )))))

-- ---- shares

behind_false : (l m : Leaf) → waits_behind l m ≡ false → 0 < m.waiting → IsNoFurther l m
behind_false l m is waits =
    by_test (nat_lt (m.charged * l.amount) (l.charged * m.amount)) refl where
      by_test : (b : Bool) → nat_lt (m.charged * l.amount) (l.charged * m.amount) ≡ b
          → IsNoFurther l m
      by_test false test = ltb-false (m.charged * l.amount) (l.charged * m.amount) test
      by_test true test =
          let both : waits_behind l m ≡ true =
          ap (λ (b : Bool). b && nat_lt (m.charged * l.amount) (l.charged * m.amount))
          (lt-ltb 0 m.waiting waits)
          ∙ test in
          absurd (let clash : true ≡ false = sym both ∙ is in cc clash)

is_false : (l m : Leaf) → (0 < m.waiting → IsNoFurther l m) → waits_behind l m ≡ false
is_false l m least = by_test (nat_lt 0 m.waiting) refl where
  by_test : (b : Bool) → nat_lt 0 m.waiting ≡ b → waits_behind l m ≡ false
  by_test false test = ap (λ (b : Bool). b && is_behind l m) test
  by_test true test =
      ap (λ (b : Bool). b && is_behind l m) test
      ∙ le-ltb (m.charged * l.amount) (l.charged * m.amount) (least (ltb-true 0 m.waiting test))

-- whether a leaf that waits has a lesser clock
abbrev lesser : Account → List Account → Bool
lesser a xs = list_any (λ b. waits_behind a.share (seen_leaf b)) xs

none_lesser : (s : Reservations) (a : Account)
    → ((k : ℕ) → Waits s k → IsNoFurther a.share (account_at s k).share)
    → lesser a s.accounts ≡ false
none_lesser s a each =
    list_any_none (λ b. waits_behind a.share (seen_leaf b)) s.accounts
    (All-from_get_or (λ m. waits_behind a.share (seen_leaf m) ≡ false) s.accounts no_account
    (λ k less. is_false a.share (seen_leaf (account_at s k)) (each k)))

-- ---- pick

record IsPickable (t : Terms) (xs : List Account) (a : Account) : Type 0 where
  waits : 0 < ready_in a
  due : list_any (is_passed_over t a) xs ≡ false
  shares : (not (is_due t a) && lesser a xs) ≡ false
  charged : (picked_in t a).share.charged < 2 ^ 64
  running : (picked_in t a).share.running < 2 ^ 64

picked_ok : (t : Terms) (xs : List Account) (a v : Account) → account_picked t xs (Some a) ≡ Ok v
    → IsPickable t xs a
picked_ok t xs a v ok =
    by_tests (ready_in a == 0) (list_any (is_passed_over t a) xs)
    (not (is_due t a) && lesser a xs) refl refl refl ok where
      rest : Result Account Refusal
      rest = number (picked_in t a).share.charged
          >>= λ _. (number (picked_in t a).share.running >>= λ _. Ok (picked_in t a))

      by_tests : (b c d : Bool) → (ready_in a == 0) ≡ b
          → list_any (is_passed_over t a) xs ≡ c → (not (is_due t a) && lesser a xs) ≡ d
          → ◌≡◌ {A = Result Account Refusal} (if b then Err refusals.NothingWaits
          else if c then Err refusals.NotEarliest else if d then Err refusals.NotLeast else rest)
          (Ok v)
          → IsPickable t xs a
      by_tests true c d one two three is = absurd (cc is)
      by_tests false true d one two three is = absurd (cc is)
      by_tests false false true one two three is = absurd (cc is)
      by_tests false false false one two three is =
          let rooms = two_rooms (picked_in t a) v (picked_in t a).share.charged
          (picked_in t a).share.running is in
          record {
            waits = some_not (ready_in a) one;
            due = two;
            shares = three;
            charged = rooms.0;
            running = rooms.1;
          }

both_of : (a b : Result (Unit {0}) Refusal) → and_then a b ≡ Ok tt → (a ≡ Ok tt) × (b ≡ Ok tt)
both_of (Ok u) b ok = (refl, ok)
both_of (Err f) b ok = absurd (cc ok)

free_is : (q : Option (Option Run)) → free_processor q ≡ Ok tt → q ≡ Some None
free_is None ok = absurd (cc ok)
free_is (Some None) ok = refl
free_is (Some (Some run)) ok = absurd (cc ok)

-- the clocks count where no leaf that waits is due
by_shares : (s : Reservations) (i : ℕ) → IsPickable (terms_of s) s.accounts (account_at s i)
    → ((k : ℕ) → Waits s k → IsDue s (account_at s k) → ⊥) → (k : ℕ) → Waits s k
    → IsNoFurther (account_at s i).share (account_at s k).share
by_shares s i is none k waits =
    by_test (is_due (terms_of s) (account_at s i)) (lesser (account_at s i) s.accounts) refl refl
    is.shares where
      by_test : (d l : Bool) → is_due (terms_of s) (account_at s i) ≡ d
          → lesser (account_at s i) s.accounts ≡ l → (not d && l) ≡ false
          → IsNoFurther (account_at s i).share (account_at s k).share
      by_test true l due least both =
          absurd (none i is.waits (due_is s (account_at s i) due))
      by_test false true due least both =
          absurd (let clash : true ≡ false = both in cc clash)
      by_test false false due least both =
          behind_false (account_at s i).share (seen_leaf (account_at s k))
          (none_at (λ b. waits_behind (account_at s i).share (seen_leaf b)) s.accounts k least
          (in_range s.accounts k waits)) waits

pick_sound : (s : Reservations) (p i : ℕ) → allowed s (Pick p i) ≡ Ok tt
    → MayPick s p i × HasRoom s (Pick p i)
pick_sound s p i ok =
    let both = both_of (free_processor (slice_get s.processors p))
    (without_value (account_picked (terms_of s) s.accounts (slice_get s.accounts i))) ok in
    of_known (MayPick s p i × HasRoom s (Pick p i)) s i (account_picked (terms_of s) s.accounts)
    both.1 (λ none. absurd (cc none))
    (λ known v is. (let h = picked_ok (terms_of s) s.accounts (account_at s i) v is in (
      record {
        free = free_is (slice_get s.processors p) both.0;
        known = known;
        waits = h.waits;
        due = due_before s (account_at s i) h.due;
        shares = by_shares s i h;
      },
      (h.charged, h.running),
    )))

shares_pass : (s : Reservations) (p i : ℕ) → MayPick s p i
    → (not (is_due (terms_of s) (account_at s i)) && lesser (account_at s i) s.accounts) ≡ false
shares_pass s p i may = by_test (is_due (terms_of s) (account_at s i)) refl where
  by_test : (d : Bool) → is_due (terms_of s) (account_at s i) ≡ d
      → (not (is_due (terms_of s) (account_at s i)) && lesser (account_at s i) s.accounts) ≡ false
  by_test true is =
      ap (λ (b : Bool). not b && lesser (account_at s i) s.accounts) is
  by_test false is =
      ap (λ (b : Bool). not b && lesser (account_at s i) s.accounts) is
      ∙ none_lesser s (account_at s i)
      (may.shares (λ k waits due. (let own = may.due k waits due in
      let test = is_due_of s (account_at s i) own.0 in
      let clash : true ≡ false = sym test ∙ is in absurd (cc clash))))

pick_complete : (s : Reservations) (p i : ℕ) → MayPick s p i → HasRoom s (Pick p i)
    → allowed s (Pick p i) ≡ Ok tt
pick_complete s p i may room =
    let a = account_at s i in
    let t = terms_of s in
    let w = picked_in t a in
    ap (λ (q : Option (Option Run)). and_then (free_processor q)
    (without_value (account_picked t s.accounts (slice_get s.accounts i)))) may.free
    ∙ ap (λ (o : Option Account). without_value (account_picked t s.accounts o))
    (known_at s i may.known)
    ∙ ap (λ (b : Bool). without_value (if b then Err refusals.NothingWaits
    else if list_any (is_passed_over t a) s.accounts then Err refusals.NotEarliest
    else if not (is_due t a) && lesser a s.accounts then Err refusals.NotLeast
    else (number w.share.charged >>= λ _. (number w.share.running >>= λ _. Ok w))))
    (not_zero (ready_in a) may.waits)
    ∙ ap (λ (b : Bool). without_value (if b then Err refusals.NotEarliest
    else if not (is_due t a) && lesser a s.accounts then Err refusals.NotLeast
    else (number w.share.charged >>= λ _. (number w.share.running >>= λ _. Ok w))))
    (none_before s a may.due)
    ∙ ap (λ (b : Bool). without_value (if b then Err refusals.NotLeast
    else (number w.share.charged >>= λ _. (number w.share.running >>= λ _. Ok w))))
    (shares_pass s p i may)
    ∙ ap without_value (two_numbers_fit w w.share.charged w.share.running room.0 room.1)

-- ---- end

end_sound_at : (s : Reservations) (p used : ℕ) (remains : Bool) (q : Option (Option Run))
    → slice_get s.processors p ≡ q → end_allowed s used remains (run_of q) ≡ Ok tt
    → Runs s p × HasRoomAtEnd s used remains q
end_sound_at s p used remains None is ok = absurd (cc ok)
end_sound_at s p used remains (Some None) is ok = absurd (cc ok)
end_sound_at s p used remains (Some (Some run)) is ok =
    of_known (Runs s p × HasRoomAtEnd s used remains (Some (Some run))) s run.leaf
    (account_ended (terms_of s) run used remains) ok (λ none. absurd (cc none))
    (λ known v made. (let a = account_at s run.leaf in
    let owed : ℕ = settled_owed (quantum_in (terms_of s)) run.paid (WHOLE * run.age)
    (capped_owed (terms_of s) a) in
    let e = shares.ended s.slice used remains a.share in
    let parts = end_parts (terms_of s) a v (leaf_ended s.slice used remains (Some a.share))
    (number owed) made in
    let one = both_ok (number e.charged)
    (number e.used >>= λ _. (number e.waiting >>= λ _. Ok e)) parts.0 parts.2 in
    let rest = two_rooms e parts.0 e.used e.waiting one.1 in (
      record { run = run; runs = is; known = known },
      (room_of e.charged one.0.0 one.0.1, rest.0, rest.1, room_of owed parts.1 parts.3),
    )))

end_complete : (s : Reservations) (p used : ℕ) (remains : Bool) → Runs s p
    → HasRoomAtEnd s used remains (slice_get s.processors p)
    → allowed s (End p used remains) ≡ Ok tt
end_complete s p used remains on room' =
    let run = on.run in
    let a = account_at s on.run.leaf in
    let t = terms_of s in
    let e = shares.ended s.slice used remains a.share in
    let owed : ℕ = settled_owed (quantum_in t) run.paid (WHOLE * run.age) (capped_owed t a) in
    let room = subst (λ (q : Option (Option Run)). HasRoomAtEnd s used remains q) on.runs room' in
    let leaf : leaf_ended s.slice used remains (Some a.share) ≡ Ok e =
    ap (λ (r : Result ℕ Refusal). r >>= λ _. (number e.used >>= λ _.
    (number e.waiting >>= λ _. Ok e))) (number_of e.charged room.0)
    ∙ two_numbers_fit e e.used e.waiting room.1 room.2 in
    ap (λ (q : Option (Option Run)). end_allowed s used remains (run_of q)) on.runs
    ∙ ap (λ (o : Option Account). without_value (account_ended t run used remains o))
    (known_at s on.run.leaf on.known)
    ∙ ap (λ (r : Result Leaf Refusal). without_value (r >>= λ l. (number owed >>= λ n.
    Ok (cut_if_less t a (record a { share = l; owed = n }))))) leaf
    ∙ ap (λ (r : Result ℕ Refusal). without_value (r >>= λ n.
    Ok (cut_if_less t a (record a { share = e; owed = n })))) (number_of owed room.3)

-- ---- plans and limits

give_sound : (s : Reservations) (i amount guarantee : ℕ)
    → allowed s (Give i amount guarantee) ≡ Ok tt
    → Allows s (Give i amount guarantee) × HasRoom s (Give i amount guarantee)
give_sound s i amount guarantee ok =
    of_known (Allows s (Give i amount guarantee) × HasRoom s (Give i amount guarantee)) s i
    (account_given (terms_of s) s.level amount guarantee) ok (λ none. absurd (cc none))
    (λ known v is. by_test known v (amount == 0) refl is) where
      g : Account
      g = given_in (terms_of s) s.level amount guarantee (account_at s i)

      by_test : i < length s.accounts → (v : Account) → (b : Bool) → (amount == 0) ≡ b
          → ◌≡◌ {A = Result Account Refusal} (if b then Err refusals.TooGreat
          else (number g.share.charged >>= λ _. Ok g)) (Ok v)
          → Allows s (Give i amount guarantee) × HasRoom s (Give i amount guarantee)
      by_test known v true zero_is is = absurd (cc is)
      by_test known v false zero_is is =
          let one = both_ok (number g.share.charged) (Ok g) v is in
          ((known, some_not amount zero_is), room_of g.share.charged one.0.0 one.0.1)

give_complete : (s : Reservations) (i amount guarantee : ℕ)
    → Allows s (Give i amount guarantee) × HasRoom s (Give i amount guarantee)
    → allowed s (Give i amount guarantee) ≡ Ok tt
give_complete s i amount guarantee p =
    let g = given_in (terms_of s) s.level amount guarantee (account_at s i) in
    ap (λ (o : Option Account).
    without_value (account_given (terms_of s) s.level amount guarantee o)) (known_at s i p.0.0)
    ∙ ap (λ (b : Bool). without_value (if b then Err refusals.TooGreat
    else (number g.share.charged >>= λ _. Ok g))) (not_zero amount p.0.1)
    ∙ ap (λ (r : Result ℕ Refusal). without_value (r >>= λ _. Ok g))
    (number_of g.share.charged p.1)

leave_sound : (s : Reservations) (i : ℕ) → allowed s (Leave i) ≡ Ok tt → Allows s (Leave i)
leave_sound s i ok =
    of_known (Allows s (Leave i)) s i (account_left (terms_of s)) ok (λ none. absurd (cc none))
    (λ known v is. by_test known v ((account_at s i).share.waiting == 0) refl is) where
      by_test : i < length s.accounts → (v : Account) → (b : Bool)
          → ((account_at s i).share.waiting == 0) ≡ b
          → ◌≡◌ {A = Result Account Refusal} (if b then Err refusals.NothingWaits
          else Ok (left_in (terms_of s) (account_at s i))) (Ok v) → Allows s (Leave i)
      by_test known v true zero_is is = absurd (cc is)
      by_test known v false zero_is is = (known, some_not (account_at s i).share.waiting zero_is)

leave_complete : (s : Reservations) (i : ℕ) → Allows s (Leave i) → allowed s (Leave i) ≡ Ok tt
leave_complete s i p =
    ap (λ (o : Option Account). without_value (account_left (terms_of s) o)) (known_at s i p.0)
    ∙ ap (λ (b : Bool). without_value (if b then Err refusals.NothingWaits
    else Ok (left_in (terms_of s) (account_at s i))))
    (not_zero (account_at s i).share.waiting p.1)

cut_sound : (s : Reservations) (i : ℕ) → allowed s (Cut i) ≡ Ok tt → Allows s (Cut i)
cut_sound s i ok =
    of_known (Allows s (Cut i)) s i (account_cut (terms_of s)) ok (λ none. absurd (cc none))
    (λ known v is. known)

cut_complete : (s : Reservations) (i : ℕ) → Allows s (Cut i) → allowed s (Cut i) ≡ Ok tt
cut_complete s i known =
    ap (λ (o : Option Account). without_value (account_cut (terms_of s) o)) (known_at s i known)

stop_sound : (s : Reservations) (i : ℕ) (stops : Bool) → allowed s (Stop i stops) ≡ Ok tt
    → Allows s (Stop i stops)
stop_sound s i stops ok =
    of_known (Allows s (Stop i stops)) s i (account_stopped (terms_of s) stops) ok
    (λ none. absurd (cc none)) (λ known v is. known)

stop_complete : (s : Reservations) (i : ℕ) (stops : Bool) → Allows s (Stop i stops)
    → allowed s (Stop i stops) ≡ Ok tt
stop_complete s i stops known =
    ap (λ (o : Option Account). without_value (account_stopped (terms_of s) stops o))
    (known_at s i known)

pub refusal_is_exact : RefusalIsExact
refusal_is_exact s (Pass ns) = (λ ok. (tt, pass_sound s ns ok), λ p. pass_complete s ns p.1)
refusal_is_exact s (Wake i tasks) = (wake_sound s i tasks, wake_complete s i tasks)
refusal_is_exact s (Pick p i) = (pick_sound s p i, λ q. pick_complete s p i q.0 q.1)
refusal_is_exact s (End p used remains) = (
  λ ok. end_sound_at s p used remains (slice_get s.processors p) refl ok,
  λ q. end_complete s p used remains q.0 q.1,
)
refusal_is_exact s Level = (λ ok. (tt, tt), λ p. refl)
refusal_is_exact s (Give i amount guarantee) = (
  give_sound s i amount guarantee,
  give_complete s i amount guarantee,
)
refusal_is_exact s (Leave i) =
    (λ ok. (leave_sound s i ok, tt), λ p. leave_complete s i p.0)
refusal_is_exact s (Cut i) = (λ ok. (cut_sound s i ok, tt), λ p. cut_complete s i p.0)
refusal_is_exact s (Stop i stops) =
    (λ ok. (stop_sound s i stops ok, tt), λ p. stop_complete s i stops p.0)
refusal_is_exact s Refill = (λ ok. (tt, tt), λ p. refl)
