-- The state after a pick and after an end, by the leaf that it changes.
use Rattle.std.proofs.Common.{◌≡◌, ℕ, ◌<◌, ◌*◌, ◌^◌, ◌==◌, ◌&&◌, not}
use Rattle.std.proofs.Common.{List, Bool, true, false, Option, Some, None}
use Rattle.std.proofs.Common.{Result, Ok, Err, slice_get, slice_set, refl, ap, sym, subst, ◌∙◌}
use Rattle.std.proofs.Common.{if◌then◌else◌, is_ok, nat_lt, [], ◌∷◌, zero, suc, length, get_or}
use Rattle.std.proofs.Common.{map, arith, take, ◌++◌}
use Rattle.std.proofs.Math.Seq.{take-append_seam}
use Rattle.std.proofs.lemmas.List.{length-map}
use Rattle.std.specs.List.{list_any, All}
use Rattle.std.proofs.lemmas.Option.{get_or_from_slice_get}
use Rattle.std.proofs.lemmas.List.Elements.{All-set, All-get_or, All-from_get_or}
use Rattle.std.proofs.lemmas.Option.{slice_get_within}
use Rattle.dispatch.specs.declared.leaves.Leaf.{Leaf}
use Rattle.dispatch.specs.declared.events.Refusal.{Refusal}
use Rattle.dispatch.specs.declared.events.Refusal.TheVariants as refusals
use Rattle.dispatch.specs.declared.reservation.Account.{Account}
use Rattle.dispatch.specs.declared.reservation.Terms.{Terms}
use Rattle.dispatch.specs.declared.reservation.Run.{Run}
use Rattle.dispatch.specs.declared.reservation.Step.TheVariants.{Wake, Pick, End}
use Rattle.dispatch.specs.Rule.{number, ◌>>=◌, leaf_ended, without_value, waits_behind}
use Rattle.dispatch.specs.Rule as shares
use Rattle.dispatch.specs.Reservation.{Reservations, WHOLE, terms_of, account_at, no_account}
use Rattle.dispatch.specs.Reservation.{quantum_in, rate_of, cut_in, cut_if_less, capped_owed}
use Rattle.dispatch.specs.Reservation.{settled_owed, picked_in, ended_in, paid_in, state_ended}
use Rattle.dispatch.specs.Reservation.{woken_in, with_account, passed_in, ready_in, seen_leaf}
use Rattle.dispatch.specs.Steps.{account_picked, account_ended, is_passed_over, is_due, happens}
use Rattle.dispatch.specs.Steps.{free_processor, run_of, end_allowed, and_then, account_woken}
use Rattle.dispatch.specs.Steps.{paid_at}

-- a value that is tested, and then given
pub tested : {A B : Type 0} (r : Result B Refusal) (x w : A) (next : Result A Refusal)
    → (next ≡ Ok w → x ≡ w) → (r >>= λ _. next) ≡ Ok w → x ≡ w
tested (Ok n) x w next rest is = rest is
tested (Err f) x w next rest is = absurd (cc is)

given : {A : Type 0} (x w : A) → ◌≡◌ {A = Result A Refusal} (Ok x) (Ok w) → x ≡ w
given x w is = cc is

-- ---- a wake

pub woken_is : (t : Terms) (accounts : List Account) (tasks : ℕ) (o : Option Account)
    (w : Account) → account_woken t accounts tasks o ≡ Ok w
    → (a : Account) × (o ≡ Some a) × (woken_in t accounts tasks a ≡ w)
woken_is t accounts tasks None w is = absurd (cc is)
woken_is t accounts tasks (Some a) w is =
    let e = woken_in t accounts tasks a in (
      a,
      refl,
      tested (number e.share.charged) e w _ (tested (number e.share.waiting) e w _ (given e w)) is,
    )

pub wake_happens : (s : Reservations) (i tasks : ℕ) (w : Account)
    → account_woken (terms_of s) s.accounts tasks (slice_get s.accounts i) ≡ Ok w
    → happens s (Wake i tasks) ≡ with_account s i w
wake_happens s i tasks w is =
    let q = woken_is (terms_of s) s.accounts tasks (slice_get s.accounts i) w is in
    let at : account_at s i ≡ q.0 = get_or_from_slice_get s.accounts i q.0 no_account q.1 in
    ap (λ (r : Result Account Refusal). if is_ok (without_value r)
    then with_account s i (woken_in (terms_of s) s.accounts tasks (account_at s i)) else s) is
    ∙ ap (with_account s i) (ap (woken_in (terms_of s) s.accounts tasks) at ∙ q.2)

-- ---- a pick

picked_here : (t : Terms) (accounts : List Account) (a w : Account) (b c d : Bool)
    → ◌≡◌ {A = Result Account Refusal} (if b then Err refusals.NothingWaits
    else if c then Err refusals.NotEarliest else if d then Err refusals.NotLeast
    else (number (picked_in t a).share.charged >>= λ _. (number (picked_in t a).share.running
    >>= λ _. Ok (picked_in t a)))) (Ok w)
    → picked_in t a ≡ w
picked_here t accounts a w true c d is = absurd (cc is)
picked_here t accounts a w false true d is = absurd (cc is)
picked_here t accounts a w false false true is = absurd (cc is)
picked_here t accounts a w false false false is =
    tested (number (picked_in t a).share.charged) (picked_in t a) w _
    (tested (number (picked_in t a).share.running) (picked_in t a) w _
    (given (picked_in t a) w))
    is

pub picked_is : (t : Terms) (accounts : List Account) (o : Option Account) (w : Account)
    → account_picked t accounts o ≡ Ok w → (a : Account) × (o ≡ Some a) × (picked_in t a ≡ w)
picked_is t accounts None w is = absurd (cc is)
picked_is t accounts (Some a) w is = (
  a,
  refl,
  picked_here t accounts a w (ready_in a == 0) (list_any (is_passed_over t a) accounts)
      (not (is_due t a) && list_any (λ b. waits_behind a.share (seen_leaf b)) accounts) is,
)

pub pick_happens : (s : Reservations) (p i : ℕ) (w : Account)
    → free_processor (slice_get s.processors p) ≡ Ok tt
    → account_picked (terms_of s) s.accounts (slice_get s.accounts i) ≡ Ok w
    → happens s (Pick p i) ≡ record s {
      accounts = slice_set s.accounts i w;
      processors = slice_set s.processors p
          (Some (record {
            leaf = i;
            paid = paid_at (terms_of s) (slice_get s.accounts i);
            age = 0;
          }));
    }
pick_happens s p i w free is =
    let q = picked_is (terms_of s) s.accounts (slice_get s.accounts i) w is in
    let at : account_at s i ≡ q.0 = get_or_from_slice_get s.accounts i q.0 no_account q.1 in
    let made : and_then (free_processor (slice_get s.processors p))
    (without_value (account_picked (terms_of s) s.accounts (slice_get s.accounts i))) ≡ Ok tt =
    ap (λ (r : Result (Unit {0}) Refusal). and_then r
    (without_value (account_picked (terms_of s) s.accounts (slice_get s.accounts i)))) free
    ∙ ap without_value is in
    let run : Option Run =
    Some (record { leaf = i; paid = paid_in (terms_of s) (account_at s i); age = 0 }) in
    ap (λ (r : Result (Unit {0}) Refusal). if is_ok r then record s {
      accounts = slice_set s.accounts i (picked_in (terms_of s) (account_at s i));
      processors = slice_set s.processors p run;
    } else s) made
    ∙ ap (λ (a : Account). record s {
      accounts = slice_set s.accounts i a;
      processors = slice_set s.processors p run;
    }) (ap (picked_in (terms_of s)) at ∙ q.2)
    ∙ ap (λ (n : ℕ). record s {
      accounts = slice_set s.accounts i w;
      processors = slice_set s.processors p (Some (record { leaf = i; paid = n; age = 0 }));
    }) (ap (paid_in (terms_of s)) at ∙ sym (ap (paid_at (terms_of s)) q.1))

-- ---- an end

leaf_ended_is : (slice used : ℕ) (remains : Bool) (l w : Leaf)
    → leaf_ended slice used remains (Some l) ≡ Ok w → shares.ended slice used remains l ≡ w
leaf_ended_is slice used remains l w is =
    let e = shares.ended slice used remains l in
    tested (number e.charged) e w _
    (tested (number e.used) e w _ (tested (number e.waiting) e w _ (given e w)))
    is

number_is : (n m : ℕ) → number n ≡ Ok m → n ≡ m
number_is n m is = by_test (nat_lt n (2 ^ 64)) is where
  by_test : (b : Bool)
      → ◌≡◌ {A = Result ℕ Refusal} (if b then Ok n else Err refusals.TooGreat) (Ok m) → n ≡ m
  by_test true ok = cc ok
  by_test false ok = absurd (cc ok)

-- the parts of an end
pub ended_parts : (t : Terms) (a w : Account) (of_leaf : Result Leaf Refusal)
    (of_owed : Result ℕ Refusal)
    → (of_leaf >>= λ l. (of_owed >>= λ n. Ok (cut_if_less t a (record a { share = l; owed = n }))))
    ≡ Ok w
    → (l : Leaf) × (n : ℕ) × (of_leaf ≡ Ok l) × (of_owed ≡ Ok n)
    × (cut_if_less t a (record a { share = l; owed = n }) ≡ w)
ended_parts t a w (Ok l) (Ok n) is =
    (l, n, refl, refl, given (cut_if_less t a (record a { share = l; owed = n })) w is)
ended_parts t a w (Ok l) (Err f) is = absurd (cc is)
ended_parts t a w (Err f) of_owed is = absurd (cc is)

pub ended_is : (t : Terms) (run : Run) (used : ℕ) (remains : Bool) (o : Option Account)
    (w : Account) → account_ended t run used remains o ≡ Ok w
    → (a : Account) × (o ≡ Some a) × (ended_in t run used remains a ≡ w)
ended_is t run used remains None w is = absurd (cc is)
ended_is t run used remains (Some a) w is =
    let owed : ℕ = settled_owed (quantum_in t) run.paid (WHOLE * run.age) (capped_owed t a) in
    let p = ended_parts t a w (leaf_ended t.slice used remains (Some a.share)) (number owed) is in (
      a,
      refl,
      ap (λ (l : Leaf). cut_if_less t a (record a { share = l; owed = owed }))
          (leaf_ended_is t.slice used remains a.share p.0 p.2)
          ∙ (ap (λ (n : ℕ). cut_if_less t a (record a { share = p.0; owed = n }))
          (number_is owed p.1 p.3)
          ∙ p.4),
    )

run_is : (q : Option (Option Run)) (run : Run) → run_of q ≡ Ok run → q ≡ Some (Some run)
run_is None run is = absurd (cc is)
run_is (Some None) run is = absurd (cc is)
run_is (Some (Some k)) run is =
    let e : k ≡ run = cc is in
    ap (λ (r : Run). Some (Some r)) e

pub end_happens : (s : Reservations) (p used : ℕ) (remains : Bool) (run : Run) (w : Account)
    → run_of (slice_get s.processors p) ≡ Ok run
    → account_ended (terms_of s) run used remains (slice_get s.accounts run.leaf) ≡ Ok w
    → happens s (End p used remains) ≡ record s {
      accounts = slice_set s.accounts run.leaf w;
      processors = slice_set s.processors p None;
    }
end_happens s p used remains run w runs is =
    let q = ended_is (terms_of s) run used remains (slice_get s.accounts run.leaf) w is in
    let at : account_at s run.leaf ≡ q.0 =
    get_or_from_slice_get s.accounts run.leaf q.0 no_account q.1 in
    let on : slice_get s.processors p ≡ Some (Some run) =
    run_is (slice_get s.processors p) run runs in
    let fit : end_allowed s used remains (run_of (Some (Some run))) ≡ Ok tt =
    ap without_value is in
    subst
    (λ (o : Option (Option Run)).
    (if is_ok (end_allowed s used remains (run_of o)) then state_ended s p used remains o else s)
    ≡ record s {
      accounts = slice_set s.accounts run.leaf w;
      processors = slice_set s.processors p None;
    })
    (sym on)
    (subst
    (λ (r : Result (Unit {0}) Refusal).
    (if is_ok r then state_ended s p used remains (Some (Some run)) else s)
    ≡ record s {
      accounts = slice_set s.accounts run.leaf w;
      processors = slice_set s.processors p None;
    })
    (sym fit)
    (ap (λ (a : Account). record s {
      accounts = slice_set s.accounts run.leaf a;
      processors = slice_set s.processors p None;
    }) (ap (ended_in (terms_of s) run used remains) at ∙ q.2)))

-- ---- amounts

abbrev pub HasAmount : Account → Type 0
HasAmount a = 0 < a.share.amount

amount_at : (xs : List Account) (i : ℕ) (a : Account) → All HasAmount xs
    → slice_get xs i ≡ Some a → HasAmount a
amount_at xs i a all is =
    subst HasAmount (get_or_from_slice_get xs i a no_account is)
    (All-get_or HasAmount xs i no_account (slice_get_within xs i a is) all)

same_amount : (b : Bool) (t : Terms) (a : Account)
    → (if◌then◌else◌ {A = Account} b (cut_in t a) a).share.amount ≡ a.share.amount
same_amount true t a = refl
same_amount false t a = refl

pub picked_amounts : (t : Terms) (accounts xs : List Account) (i : ℕ) (w : Account)
    → All HasAmount xs → account_picked t accounts (slice_get xs i) ≡ Ok w
    → All HasAmount (slice_set xs i w)
picked_amounts t accounts xs i w all is =
    let q = picked_is t accounts (slice_get xs i) w is in
    All-set HasAmount xs i w
    (subst HasAmount q.2 (amount_at xs i q.0 all q.1)) all

pub ended_amounts : (t : Terms) (run : Run) (used : ℕ) (remains : Bool) (xs : List Account)
    (i : ℕ) (w : Account) → All HasAmount xs
    → account_ended t run used remains (slice_get xs i) ≡ Ok w
    → All HasAmount (slice_set xs i w)
ended_amounts t run used remains xs i w all is =
    let q = ended_is t run used remains (slice_get xs i) w is in
    let settled : Account = record q.0 {
      share = shares.ended t.slice used remains q.0.share;
      owed = settled_owed (quantum_in t) run.paid (WHOLE * run.age) (capped_owed t q.0);
    } in
    let same : (ended_in t run used remains q.0).share.amount ≡ q.0.share.amount =
    same_amount (nat_lt (rate_of settled) (rate_of q.0)) t settled in
    All-set HasAmount xs i w
    (subst HasAmount q.2
    (subst (λ (n : ℕ). 0 < n) (sym same) (amount_at xs i q.0 all q.1))) all

passed_amount : (t : Terms) (ns : ℕ) (xs : List Account) (i : ℕ) → i < length xs
    → get_or (map (passed_in t ns) xs) i no_account ≡ passed_in t ns (get_or xs i no_account)
passed_amount t ns [] i known = absurd (let clash : ⊥ = omega (arith, known) in clash)
passed_amount t ns (x ∷ xs) zero known = refl
passed_amount t ns (x ∷ xs) (suc i) known = passed_amount t ns xs i (omega (arith, known))

pub passed_amounts : (t : Terms) (ns : ℕ) (xs : List Account) → All HasAmount xs
    → All HasAmount (map (passed_in t ns) xs)
passed_amounts t ns xs all =
    All-from_get_or HasAmount (map (passed_in t ns) xs) no_account
    (λ i known. (let here : i < length xs = omega (arith, known, length-map xs (passed_in t ns)) in
    subst HasAmount (sym (passed_amount t ns xs i here))
    (All-get_or HasAmount xs i no_account here all)))

-- a vector of which all items are written
pub written : {X : Type 0} (xs ys : List X) (n : ℕ) → n ≡ length xs → take n (xs ++ ys) ≡ xs
written xs ys n is = ap (λ m. take m (xs ++ ys)) is ∙ take-append_seam xs ys
