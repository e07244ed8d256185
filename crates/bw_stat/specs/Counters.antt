-- The counters as sums over the booked periods.
use Rattle.std.specs.Prelude.{◌≡◌, ℕ, nat_eq, List, [], ◌∷◌, length, sum_by, count_by, Option, Some}
use Rattle.std.specs.Prelude.{None, Contains}
use Rattle.std.specs.Map.{lookup}
use Rattle.bw_model.specs.declared.stat.Stat.{Stat}
use Rattle.bw_stat.specs.Books.{Share, cut, booked, forgotten, stat_at}

-- a period that is booked, with each group's share, or a group that is forgotten
pub data Call : Type 0 where
  Book : (shares : List (ℕ × Share)) → Call
  Forget : (id : ℕ) → Call

abbrev pub after_call : List (ℕ × Stat) → Call → List (ℕ × Stat)
after_call books (Book shares) = booked books shares
after_call books (Forget id) = forgotten books id

-- the counters after a list of calls
abbrev pub after_calls : List (ℕ × Stat) → List Call → List (ℕ × Stat)
after_calls books [] = books
after_calls books (c ∷ cs) = after_calls (after_call books c) cs

-- a group's share of a period
abbrev pub share_in : List (ℕ × Share) → ℕ → Option Share
share_in shares id = lookup (nat_eq id) shares

abbrev pub onto : Option Share → List Share → List Share
onto None shares = shares
onto (Some share) shares = share ∷ shares

-- a group's shares of the booked periods
abbrev pub shares_for : ℕ → List Call → List Share
shares_for id [] = []
shares_for id (Book shares ∷ cs) = onto (share_in shares id) (shares_for id cs)
shares_for id (Forget gone ∷ cs) = shares_for id cs

-- each group has one share of a period
abbrev pub HasOneEach : List (ℕ × Share) → Type 0
HasOneEach [] = Unit {0}
HasOneEach (e ∷ es) = (share_in es e.0 ≡ None) × HasOneEach es

-- each group has one share of a period, and none is booked after it was forgotten
abbrev pub AreCalls : List Call → Type 0
AreCalls [] = Unit {0}
AreCalls (Book shares ∷ cs) = HasOneEach shares × AreCalls cs
AreCalls (Forget id ∷ cs) = (shares_for id cs ≡ []) × AreCalls cs

-- the sums over the booked periods, each cut
abbrev pub sums_of : List Share → Stat
sums_of shares = record {
  usage_usec = cut (sum_by (λ (s : Share). s.usage_usec) shares);
  nr_periods = cut (length shares);
  nr_throttled = cut (count_by (λ (s : Share). s.is_throttled) shares);
  throttled_usec = cut (sum_by (λ (s : Share). s.withheld_usec) shares);
  nr_bursts = cut (count_by (λ (s : Share). s.is_burst) shares);
  burst_usec = cut (sum_by (λ (s : Share). s.burst_usec) shares);
}

-- the counters of a group with these shares of periods; it has none before its first share
abbrev pub counters_of : List Share → Option Stat
counters_of [] = None
counters_of (share ∷ shares) = Some (sums_of (share ∷ shares))

-- a group was forgotten
abbrev pub IsForgotten : List Call → ℕ → Type 0
IsForgotten calls id = Contains calls (Forget id)

-- Any list of calls from new books leaves the sums for each group that was not forgotten, and
-- nothing for one that was.
abbrev pub CountersAreSums : List Call → Type 0
CountersAreSums calls =
    AreCalls calls
    → ((id : ℕ) → (IsForgotten calls id → ⊥)
    → stat_at (after_calls [] calls) id ≡ counters_of (shares_for id calls))
    × ((id : ℕ) → IsForgotten calls id → stat_at (after_calls [] calls) id ≡ None)
