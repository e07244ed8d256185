-- The counters are the sums over the booked periods.
use Rattle.std.proofs.Common.{◌≡◌, ℕ, suc, zero, ◌+◌, ◌<◌, false, cond, List, [], ◌∷◌, length, fold}
use Rattle.std.proofs.Common.{Option, Some, None, Contains, slice_index_or, refl, sym}
use Rattle.std.proofs.Common.{ap, ◌∙◌, arith, eqb}
use Rattle.std.proofs.lemmas.Bool.{ne_eqb, eq-eqb}
use Rattle.bw_model.specs.declared.stat.Stat.{Stat}
use Rattle.bw_stat.specs.Books.{Share, added, or_zeros, stat_at, cut, periods_if, booked, forgotten}
use Rattle.bw_stat.specs.Counters.{Call, after_calls, share_in, onto, shares_for, AreCalls}
use Rattle.bw_stat.specs.Counters.{counters_of, IsForgotten, CountersAreSums}
use Rattle.bw_stat.specs.Counters.Call.{Book, Forget}
use Rattle.bw_stat.proofs.BookLemmas.{AreApart, cond_none, stat_remove, remove_AreApart, then_share}
use Rattle.bw_stat.proofs.BookLemmas.{booked_at, booked_AreApart}

abbrev six : ℕ → ℕ → ℕ → ℕ → ℕ → ℕ → Stat
six a b c d e f =
    record {
      usage_usec = a;
      nr_periods = b;
      nr_throttled = c;
      throttled_usec = d;
      nr_bursts = e;
      burst_usec = f;
    }

-- shares counted one after another
abbrev pub counted : Option Stat → List Share → Option Stat
counted o [] = o
counted o (share ∷ shares) = counted (Some (added (or_zeros o) share)) shares

cut_cut : (a x : ℕ) → cut (cut a + x) ≡ cut (a + x)
cut_cut a x = omega arith

added_six : (u p t w b x : ℕ) (s : Share)
    → added (six (cut u) (cut p) (cut t) (cut w) (cut b) (cut x)) s
    ≡ six (cut (u + s.usage_usec)) (cut (p + 1)) (cut (t + periods_if s.is_throttled))
    (cut (w + s.withheld_usec)) (cut (b + periods_if s.is_burst))
    (cut (x + s.burst_usec))
added_six u p t w b x s =
    ap (λ n. six n (cut (cut p + 1)) (cut (cut t + periods_if s.is_throttled))
    (cut (cut w + s.withheld_usec)) (cut (cut b + periods_if s.is_burst))
    (cut (cut x + s.burst_usec))) (cut_cut u s.usage_usec)
    ∙ ap (λ n. six (cut (u + s.usage_usec)) n (cut (cut t + periods_if s.is_throttled))
    (cut (cut w + s.withheld_usec)) (cut (cut b + periods_if s.is_burst))
    (cut (cut x + s.burst_usec))) (cut_cut p 1)
    ∙ ap (λ n. six (cut (u + s.usage_usec)) (cut (p + 1)) n (cut (cut w + s.withheld_usec))
    (cut (cut b + periods_if s.is_burst)) (cut (cut x + s.burst_usec)))
    (cut_cut t (periods_if s.is_throttled))
    ∙ ap (λ n. six (cut (u + s.usage_usec)) (cut (p + 1)) (cut (t + periods_if s.is_throttled)) n
    (cut (cut b + periods_if s.is_burst))
    (cut (cut x + s.burst_usec))) (cut_cut w s.withheld_usec)
    ∙ ap (λ n. six (cut (u + s.usage_usec)) (cut (p + 1)) (cut (t + periods_if s.is_throttled))
    (cut (w + s.withheld_usec)) n (cut (cut x + s.burst_usec)))
    (cut_cut b (periods_if s.is_burst))
    ∙ ap (λ n. six (cut (u + s.usage_usec)) (cut (p + 1)) (cut (t + periods_if s.is_throttled))
    (cut (w + s.withheld_usec)) (cut (b + periods_if s.is_burst)) n)
    (cut_cut x s.burst_usec)

counted_six : (ss : List Share) (u p t w b x : ℕ)
    → counted (Some (six (cut u) (cut p) (cut t) (cut w) (cut b) (cut x))) ss
    ≡ Some (six (cut (fold (λ a (s : Share). a + s.usage_usec) u ss)) (cut (p + length ss))
    (cut (fold (λ a (s : Share). a + cond s.is_throttled 1 0) t ss))
    (cut (fold (λ a (s : Share). a + s.withheld_usec) w ss))
    (cut (fold (λ a (s : Share). a + cond s.is_burst 1 0) b ss))
    (cut (fold (λ a (s : Share). a + s.burst_usec) x ss)))
counted_six [] u p t w b x = let e : p ≡ p + 0 = omega arith in
    ap (λ n. Some (six (cut u) (cut n) (cut t) (cut w) (cut b) (cut x))) e
counted_six (s ∷ ss) u p t w b x =
    let e : p + 1 + length ss ≡ p + suc (length ss) = omega arith in
    ap (λ y. counted (Some y) ss) (added_six u p t w b x s)
    ∙ counted_six ss (u + s.usage_usec) (p + 1) (t + cond s.is_throttled 1 0) (w + s.withheld_usec)
    (b + cond s.is_burst 1 0) (x + s.burst_usec)
    ∙ ap (λ n. Some (six (cut (fold (λ a (s : Share). a + s.usage_usec) (u + s.usage_usec) ss))
    (cut n)
    (cut (fold (λ a (s : Share). a + cond s.is_throttled 1 0) (t + cond s.is_throttled 1 0) ss))
    (cut (fold (λ a (s : Share). a + s.withheld_usec) (w + s.withheld_usec) ss))
    (cut (fold (λ a (s : Share). a + cond s.is_burst 1 0) (b + cond s.is_burst 1 0) ss))
    (cut (fold (λ a (s : Share). a + s.burst_usec) (x + s.burst_usec) ss)))) e

counted_sums : (ss : List Share) → counted None ss ≡ counters_of ss
counted_sums [] = refl
counted_sums (s ∷ ss) =
    let e : 1 + length ss ≡ suc (length ss) = omega arith in
    counted_six ss (0 + s.usage_usec) 1 (0 + cond s.is_throttled 1 0) (0 + s.withheld_usec)
    (0 + cond s.is_burst 1 0) (0 + s.burst_usec)
    ∙ ap (λ n. Some (six (cut (fold (λ a (s : Share). a + s.usage_usec) (0 + s.usage_usec) ss))
    (cut n)
    (cut (fold (λ a (s : Share). a + cond s.is_throttled 1 0) (0 + cond s.is_throttled 1 0) ss))
    (cut (fold (λ a (s : Share). a + s.withheld_usec) (0 + s.withheld_usec) ss))
    (cut (fold (λ a (s : Share). a + cond s.is_burst 1 0) (0 + cond s.is_burst 1 0) ss))
    (cut (fold (λ a (s : Share). a + s.burst_usec) (0 + s.burst_usec) ss)))) e

counted_onto : (o : Option Stat) (m : Option Share) (ss : List Share)
    → counted (then_share o m) ss ≡ counted o (onto m ss)
counted_onto o None ss = refl
counted_onto o (Some s) ss = refl

later : (c : Call) (cs : List Call) (x : Call) → Contains cs x → Contains (c ∷ cs) x
later c cs x h = (suc h.0, omega (arith, h.1), h.2)

-- a group that is not forgotten has its shares counted
kept : (cs : List Call) (b : List (ℕ × Stat)) (q : ℕ) → AreCalls cs → AreApart b
    → (IsForgotten cs q → ⊥)
    → stat_at (after_calls b cs) q ≡ counted (stat_at b q) (shares_for q cs)
kept [] b q ok apart no_forget = refl
kept (Book shares ∷ cs) b q ok apart no_forget =
    kept cs (booked b shares) q ok.1 (booked_AreApart shares b apart)
    (λ h. no_forget (later (Book shares) cs (Forget q) h))
    ∙ ap (λ o. counted o (shares_for q cs)) (booked_at shares b q ok.0)
    ∙ counted_onto (stat_at b q) (share_in shares q) (shares_for q cs)
kept (Forget id ∷ cs) b q ok apart no_forget =
    let other : eqb q id ≡ false =
    ne_eqb q id (λ e. no_forget (0, omega arith, ap Forget (sym e))) in
    kept cs (forgotten b id) q ok.1 (remove_AreApart b id apart)
    (λ h. no_forget (later (Forget id) cs (Forget q) h))
    ∙ ap (λ o. counted o (shares_for q cs))
    (stat_remove b id q apart ∙ ap (λ t. cond t None (stat_at b q)) other)

none_onto : (m : Option Share) (ss : List Share) → onto m ss ≡ [] → (m ≡ None) × (ss ≡ [])
none_onto None ss h = (refl, h)
none_onto (Some s) ss h = cc

-- a group that is not there, and not booked any more, stays away
away : (cs : List Call) (b : List (ℕ × Stat)) (q : ℕ) → AreCalls cs → AreApart b
    → stat_at b q ≡ None → shares_for q cs ≡ []
    → stat_at (after_calls b cs) q ≡ None
away [] b q ok apart none unbooked = none
away (Book shares ∷ cs) b q ok apart none unbooked =
    let parts = none_onto (share_in shares q) (shares_for q cs) unbooked in
    away cs (booked b shares) q ok.1 (booked_AreApart shares b apart)
    (booked_at shares b q ok.0 ∙ ap (then_share (stat_at b q)) parts.0 ∙ none) parts.1
away (Forget id ∷ cs) b q ok apart none unbooked =
    away cs (forgotten b id) q ok.1 (remove_AreApart b id apart)
    (stat_remove b id q apart ∙ cond_none (eqb q id) (stat_at b q) none) unbooked

same_id : (a b : ℕ) → Forget a ≡ Forget b → a ≡ b
same_id a b e = cc

gone : (cs : List Call) (b : List (ℕ × Stat)) (q k : ℕ) → AreCalls cs → AreApart b → k < length cs
    → slice_index_or cs k (Forget q) ≡ Forget q
    → stat_at (after_calls b cs) q ≡ None
gone [] b q k ok apart within at = absurd (omega arith)
gone (Book shares ∷ cs) b q zero ok apart within at = cc
gone (Book shares ∷ cs) b q (suc k) ok apart within at =
    gone cs (booked b shares) q k ok.1 (booked_AreApart shares b apart) (omega arith) at
gone (Forget id ∷ cs) b q zero ok apart within at =
    let same = same_id id q at in
    let taken : stat_at (forgotten b id) q ≡ None =
    stat_remove b id q apart ∙ ap (λ t. cond t None (stat_at b q)) (eq-eqb q id (sym same)) in
    away cs (forgotten b id) q ok.1 (remove_AreApart b id apart) taken
    (ap (λ i. shares_for i cs) (sym same) ∙ ok.0)
gone (Forget id ∷ cs) b q (suc k) ok apart within at =
    gone cs (forgotten b id) q k ok.1 (remove_AreApart b id apart) (omega arith) at

pub are_sums : (calls : List Call) → CountersAreSums calls
are_sums calls ok = (
  λ q no_forget. kept calls [] q ok tt no_forget ∙ counted_sums (shares_for q calls),
  λ q h. gone calls [] q h.0 ok tt h.1 h.2,
)
