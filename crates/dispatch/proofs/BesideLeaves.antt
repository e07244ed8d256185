-- Leaves after an event, and their runs on processors.
use Rattle.std.proofs.Common.{◌≡◌, ℕ, ◌-◌, ◌*◌, ◌<◌, ◌≤◌, ◌==◌, inl, inr}
use Rattle.std.proofs.Common.{List, [], ◌∷◌, length, Bool, true, false, Option, None, Some}
use Rattle.std.proofs.Common.{refl, ap, sym, ◌∙◌, arith, nat_lt}
use Rattle.std.proofs.Common.{if◌then◌else◌}
use Rattle.std.specs.List.{sum_by}
use Rattle.std.proofs.lemmas.List.Sums.{sum_by-cons}
use Rattle.dispatch.specs.declared.leaves.Leaf.{Leaf}
use Rattle.dispatch.specs.declared.reservation.Account.{Account}
use Rattle.dispatch.specs.declared.reservation.Run.{Run}
use Rattle.dispatch.specs.Reservation.{Reservations, WHOLE, account_at, terms_of}
use Rattle.dispatch.specs.Reservation.{capped, capped_owed, cut, ended, left}
use Rattle.dispatch.specs.Reservation.{quantum_of, rate_of, settled_owed, stopped}
use Rattle.dispatch.specs.Reservation.{with_account, woken, leaves_of}
use Rattle.dispatch.specs.Rule as shares
use Rattle.dispatch.specs.Windows.{of_run, over_runs}
use Rattle.dispatch.proofs.Backlog.{account_set, busy, one}

-- ---- leaves

-- the share of a leaf after an event: its amount stays, and its charge is no less
pub record More (was is : Account) : Type 0 where
  pub amount : is.share.amount ≡ was.share.amount
  pub charged : was.share.charged ≤ is.share.charged

-- its charge stays too
pub record Same (was is : Account) : Type 0 where
  pub amount : is.share.amount ≡ was.share.amount
  pub charged : is.share.charged ≡ was.share.charged

pub same_set : (s : Reservations) (k x : ℕ) (a : Account) → k < length s.accounts
    → Same (account_at s k) a → Same (account_at s x) (account_at (with_account s k a) x)
same_set s k x a known same = elim (account_set s.accounts k x a known) [
  | inl h ↦
      let from : account_at s x ≡ account_at s k = ap (account_at s) h.0 in
      record {
        amount = ap (λ (y : Account). y.share.amount) h.1
            ∙ (same.amount ∙ ap (λ (y : Account). y.share.amount) (sym from));
        charged = ap (λ (y : Account). y.share.charged) h.1
            ∙ (same.charged ∙ ap (λ (y : Account). y.share.charged) (sym from));
      }
  | inr h ↦ record {
    amount = ap (λ (y : Account). y.share.amount) h.1;
    charged = ap (λ (y : Account). y.share.charged) h.1;
  }
]

pub more_set : (s : Reservations) (k x : ℕ) (a : Account) → k < length s.accounts
    → More (account_at s k) a → More (account_at s x) (account_at (with_account s k a) x)
more_set s k x a known more = elim (account_set s.accounts k x a known) [
  | inl h ↦
      let from : account_at s x ≡ account_at s k = ap (account_at s) h.0 in
      record {
        amount = ap (λ (y : Account). y.share.amount) h.1
            ∙ (more.amount ∙ ap (λ (y : Account). y.share.amount) (sym from));
        charged = omega (
          arith,
          more.charged,
          ap (λ (y : Account). y.share.charged) h.1,
          ap (λ (y : Account). y.share.charged) from,
        );
      }
  | inr h ↦ record {
    amount = ap (λ (y : Account). y.share.amount) h.1;
    charged = omega (arith, ap (λ (y : Account). y.share.charged) h.1);
  }
]

pub more_of : (a b : Account) → Same a b → More a b
more_of a b same = record { amount = same.amount; charged = omega (arith, same.charged) }

lifted_more : (c : ℕ) (o : Option ℕ) (top : ℕ) → c ≤ shares.lifted c o top
lifted_more c None top = omega arith
lifted_more c (Some l) top = omega arith

pub woken_more : (s : Reservations) (tasks : ℕ) (a : Account) → More a (woken s tasks a)
woken_more s tasks a = record { amount = refl; charged = by_test (shares.has_tasks a.share) } where
  by_test : (b : Bool) → a.share.charged ≤ (if◌then◌else◌ {A = ℕ} b a.share.charged
      (shares.lifted a.share.charged
      (shares.level s.slice a.share.amount (leaves_of s.accounts))
      (shares.greatest a.share.amount (leaves_of s.accounts))))
  by_test true = omega arith
  by_test false =
      lifted_more a.share.charged (shares.level s.slice a.share.amount (leaves_of s.accounts))
      (shares.greatest a.share.amount (leaves_of s.accounts))

either_share : (b : Bool) (s : Reservations) (a : Account)
    → (if◌then◌else◌ {A = Account} b (cut s a) a).share ≡ a.share
either_share true s a = refl
either_share false s a = refl

pub ended_share : (s : Reservations) (run : Run) (used : ℕ) (remains : Bool) (a : Account)
    → (ended s run used remains a).share ≡ shares.ended s.slice used remains a.share
ended_share s run used remains a =
    let now : Account = record a {
      share = shares.ended s.slice used remains a.share;
      owed = settled_owed (quantum_of s) run.paid (WHOLE * run.age)
          (capped_owed (terms_of s) a);
    } in
    either_share (nat_lt (rate_of now) (rate_of a)) s now

pub left_same : (s : Reservations) (a : Account) → Same a (left s a)
left_same s a =
    let now : Account = record (capped (terms_of s) a) {
      share = record a.share { waiting = a.share.waiting - 1 };
    } in
    let is : (left s a).share ≡ now.share =
    either_share (nat_lt (rate_of now) (rate_of a)) s now in
    record {
      amount = ap (λ (l : Leaf). l.amount) is;
      charged = ap (λ (l : Leaf). l.charged) is;
    }

pub stopped_same : (s : Reservations) (stops : Bool) (a : Account) → Same a (stopped s stops a)
stopped_same s true a = record { amount = refl; charged = refl }
stopped_same s false a = record { amount = refl; charged = refl }

-- ---- runs

small_run : (k : ℕ) (q : Option Run) → of_run k one q ≤ busy q
small_run k None = omega arith
small_run k (Some run) = by_test (run.leaf == k) where
  by_test : (b : Bool) → (if◌then◌else◌ {A = ℕ} b 1 0) ≤ 1
  by_test true = omega arith
  by_test false = omega arith

pub few_runs : (k : ℕ) (ps : List (Option Run)) → over_runs k one ps ≤ sum_by busy ps
few_runs k [] = omega arith
few_runs k (q ∷ ps) =
    omega (
      arith,
      small_run k q,
      few_runs k ps,
      sum_by-cons (of_run k one) q ps,
      sum_by-cons busy q ps,
    )
