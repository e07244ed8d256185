-- What books hold after each call.
use Rattle.std.proofs.Common.{◌≡◌, ◌≢◌, ◌⊎◌, inl, inr, ℕ, suc, ◌<◌, Bool, true, false, cond, List}
use Rattle.std.proofs.Common.{[], ◌∷◌, ◌++◌, length, drop, get_or, slice_get, Option, Some, None}
use Rattle.std.proofs.Common.{refl, sym, ap, ap₂, ◌∙◌, eqb, arith}
use Rattle.std.proofs.Math.Seq.{drop-cons}
use Rattle.std.proofs.lemmas.Bool.{eq-eqb, ne_eqb}
use Rattle.std.proofs.lemmas.Bool.Decides.{Decides-eqb, eqb_tells}
use Rattle.std.proofs.lemmas.Option.{get_or_from_slice_get, slice_get-get_or, slice_get-map}
use Rattle.std.proofs.lemmas.Slice.Eq.{starts_is}
use Rattle.std.specs.Cmp.{nat_eq_equiv}
use Rattle.std.specs.Map.{keys_of, values_of, remove_entry}
use Rattle.std.specs.Option.{option_map}
use Rattle.std.specs.List.{IsDistinct, AllByRecursion, starts_with}
use Rattle.std.proofs.lemmas.Map.Keys.{IsDistinct-head, IsDistinct-tail}
use Rattle.indexmap.specs.IndexMap.{insert_entry, set_value_at}
use Rattle.indexmap.proofs.MapLemmas.{Found-position, index-first, insert_entry-first}
use Rattle.indexmap.proofs.RemoveLemmas.{own_first}
use Rattle.bw_model.specs.declared.row.Row.{Row}
use Rattle.bw_model.specs.declared.stat.Stat.{Stat}
use Rattle.bw_stat.specs.Books.{Share, added, or_zeros, share_of, shares_of, stat_at, with_share}
use Rattle.bw_stat.specs.Books.{booked}
use Rattle.bw_stat.specs.Counters.{HasOneEach, share_in}

-- the next group's share, and those after it
pub shares_more
    : (s i : ℕ) (rows : List Row) (ids : List ℕ) (qs : List (Option ℕ)) (ws ds : List ℕ) (row : Row)
    → i < length rows → i < length ids → i < length qs → i < length ws → i < length ds
    → row ≡ get_or rows i row
    → shares_of s (drop i rows) (drop i ids) (drop i qs) (drop i ws) (drop i ds)
    ≡ (get_or ids i 0, share_of s row (get_or qs i None) (get_or ws i 0) (get_or ds i 0))
    ∷ shares_of s (drop (suc i) rows) (drop (suc i) ids) (drop (suc i) qs) (drop (suc i) ws)
    (drop (suc i) ds)
shares_more s i rows ids qs ws ds row hr hi hq hw hd is =
    ap (λ xs. shares_of s xs (drop i ids) (drop i qs) (drop i ws) (drop i ds))
    (drop-cons rows i row hr)
    ∙ ap (λ xs. shares_of s (get_or rows i row ∷ drop (suc i) rows) xs (drop i qs) (drop i ws)
    (drop i ds)) (drop-cons ids i 0 hi)
    ∙ ap (λ xs. shares_of s (get_or rows i row ∷ drop (suc i) rows)
    (get_or ids i 0 ∷ drop (suc i) ids) xs (drop i ws) (drop i ds)) (drop-cons qs i None hq)
    ∙ ap (λ xs. shares_of s (get_or rows i row ∷ drop (suc i) rows)
    (get_or ids i 0 ∷ drop (suc i) ids) (get_or qs i None ∷ drop (suc i) qs) xs
    (drop i ds)) (drop-cons ws i 0 hw)
    ∙ ap (λ xs. shares_of s (get_or rows i row ∷ drop (suc i) rows)
    (get_or ids i 0 ∷ drop (suc i) ids) (get_or qs i None ∷ drop (suc i) qs)
    (get_or ws i 0 ∷ drop (suc i) ws) xs) (drop-cons ds i 0 hd)
    ∙ ap (λ r. (get_or ids i 0, share_of s r (get_or qs i None) (get_or ws i 0) (get_or ds i 0))
    ∷ shares_of s (drop (suc i) rows) (drop (suc i) ids) (drop (suc i) qs) (drop (suc i) ws)
    (drop (suc i) ds)) (sym is)

-- counters at their place, once a share is added, are the books with that share
pub add_at : (es : List (ℕ × Stat)) (i : ℕ) (v : Stat) (share : Share)
    → IsDistinct eqb (keys_of es) → i < length es → slice_get (values_of es) i ≡ Some v
    → set_value_at es i (added v share) ≡ with_share es (get_or (keys_of es) i 0) share
add_at es i v share distinct within at =
    let e = get_or es i (0, v) in
    let here : slice_get es i ≡ Some e = slice_get-get_or es i (0, v) within in
    let key : get_or (keys_of es) i 0 ≡ e.0 =
    get_or_from_slice_get (keys_of es) i e.0 0
    (slice_get-map (λ (p : ℕ × Stat). p.0) es i ∙ ap (option_map (λ (p : ℕ × Stat). p.0)) here) in
    let first = own_first eqb nat_eq_equiv es i e.0 e.1 distinct here in
    let found = Found-position (eqb e.0) es i (index-first (eqb e.0) es i first) in
    sym (insert_entry-first eqb e.0 (added v share) es i first)
    ∙ ap (λ o. insert_entry eqb es e.0 (added (or_zeros o) share)) (sym (found.value ∙ at))
    ∙ ap (λ k. with_share es k share) (sym key)

-- ids behind those of the rows change no share
shares_front : (s : ℕ) (rows : List Row) (ids more : List ℕ) (qs : List (Option ℕ))
    (ws ds : List ℕ)
    → length ids ≡ length rows
    → shares_of s rows (ids ++ more) qs ws ds ≡ shares_of s rows ids qs ws ds
shares_front s [] ids more qs ws ds same = refl
shares_front s (r ∷ rs) [] more qs ws ds same = absurd (omega (arith, same))
shares_front s (r ∷ rs) (i ∷ is) more [] ws ds same = refl
shares_front s (r ∷ rs) (i ∷ is) more (q ∷ qs) [] ds same = refl
shares_front s (r ∷ rs) (i ∷ is) more (q ∷ qs) (w ∷ ws) [] same = refl
shares_front s (r ∷ rs) (i ∷ is) more (q ∷ qs) (w ∷ ws) (d ∷ ds) same =
    ap (λ xs. (i, share_of s r q w d) ∷ xs)
    (shares_front s rs is more qs ws ds (omega (arith, same)))

-- where the books begin with the ids of the rows, the shares go by the books' ids
pub shares_in_place : (s : ℕ) (rows : List Row) (keys ids : List ℕ) (qs : List (Option ℕ))
    (ws ds : List ℕ)
    → starts_with eqb keys ids ≡ true → length ids ≡ length rows
    → shares_of s rows keys qs ws ds ≡ shares_of s rows ids qs ws ds
shares_in_place s rows keys ids qs ws ds front same =
    ap (λ ks. shares_of s rows ks qs ws ds)
    ((starts_is Decides-eqb keys ids (starts_with eqb keys ids) refl).0 front)
    ∙ shares_front s rows ids (drop (length ids) keys) qs ws ds same

-- no id stands twice
abbrev pub AreApart : List (ℕ × Stat) → Type 0
AreApart [] = Unit {0}
AreApart (e ∷ es) = (stat_at es e.0 ≡ None) × AreApart es

pub stat_insert : (es : List (ℕ × Stat)) (k : ℕ) (v : Stat) (q : ℕ)
    → stat_at (insert_entry eqb es k v) q ≡ cond (eqb q k) (Some v) (stat_at es q)
stat_insert [] k v q = refl
stat_insert (e ∷ es) k v q = by (eqb_tells k e.0) (eqb_tells q e.0) (stat_insert es k v q)
  where
    by : ((eqb k e.0 ≡ true) × (k ≡ e.0)) ⊎ ((eqb k e.0 ≡ false) × (k ≢ e.0))
        → ((eqb q e.0 ≡ true) × (q ≡ e.0)) ⊎ ((eqb q e.0 ≡ false) × (q ≢ e.0))
        → stat_at (insert_entry eqb es k v) q ≡ cond (eqb q k) (Some v) (stat_at es q)
        → stat_at (cond (eqb k e.0) ((e.0, v) ∷ es) (e ∷ insert_entry eqb es k v)) q
        ≡ cond (eqb q k) (Some v) (cond (eqb q e.0) (Some e.1) (stat_at es q))
    by (inl a) (inl b) ih = let same : eqb q k ≡ true = eq-eqb q k (b.1 ∙ sym a.1) in
        rw (a.0, b.0, same)
    by (inl a) (inr b) ih = let apart : eqb q k ≡ false = ne_eqb q k (λ e. b.1 (e ∙ a.1)) in
        rw (a.0, b.0, apart)
    by (inr a) (inl b) ih = let apart : eqb q k ≡ false = ne_eqb q k (λ e. a.1 (sym e ∙ b.1)) in
        rw (a.0, b.0, apart)
    by (inr a) (inr b) ih = rw (a.0, b.0) ih

pub insert_AreApart : (es : List (ℕ × Stat)) (k : ℕ) (v : Stat) → AreApart es
    → AreApart (insert_entry eqb es k v)
insert_AreApart [] k v apart = (refl, tt)
insert_AreApart (e ∷ es) k v apart = by (eqb_tells k e.0) (insert_AreApart es k v apart.1)
  where
    by : ((eqb k e.0 ≡ true) × (k ≡ e.0)) ⊎ ((eqb k e.0 ≡ false) × (k ≢ e.0))
        → AreApart (insert_entry eqb es k v)
        → AreApart (cond (eqb k e.0) ((e.0, v) ∷ es) (e ∷ insert_entry eqb es k v))
    by (inl a) ih = rw a.0 (apart.0, apart.1)
    by (inr a) ih =
        rw a.0 (
          stat_insert es k v e.0 ∙ ap (λ b. cond b (Some v) (stat_at es e.0))
              (ne_eqb e.0 k (λ e. a.1 (sym e))) ∙ apart.0,
          ih,
        )

pub cond_none : (b : Bool) (o : Option Stat) → o ≡ None → cond b None o ≡ None
cond_none true o h = refl
cond_none false o h = h

pub stat_remove : (es : List (ℕ × Stat)) (id q : ℕ) → AreApart es
    → stat_at (remove_entry (eqb id) es) q ≡ cond (eqb q id) None (stat_at es q)
stat_remove [] id q apart = sym (cond_none (eqb q id) None refl)
stat_remove (e ∷ es) id q apart =
    by (eqb_tells id e.0) (eqb_tells q e.0) (stat_remove es id q apart.1)
  where
    by : ((eqb id e.0 ≡ true) × (id ≡ e.0)) ⊎ ((eqb id e.0 ≡ false) × (id ≢ e.0))
        → ((eqb q e.0 ≡ true) × (q ≡ e.0)) ⊎ ((eqb q e.0 ≡ false) × (q ≢ e.0))
        → stat_at (remove_entry (eqb id) es) q ≡ cond (eqb q id) None (stat_at es q)
        → stat_at (cond (eqb id e.0) es (e ∷ remove_entry (eqb id) es)) q
        ≡ cond (eqb q id) None (cond (eqb q e.0) (Some e.1) (stat_at es q))
    by (inl a) (inl b) ih = let same : eqb q id ≡ true = eq-eqb q id (b.1 ∙ sym a.1) in
        rw (a.0, same) (ap (stat_at es) b.1 ∙ apart.0)
    by (inl a) (inr b) ih = let other : eqb q id ≡ false = ne_eqb q id (λ e. b.1 (e ∙ a.1)) in
        rw (a.0, other, b.0)
    by (inr a) (inl b) ih = let other : eqb q id ≡ false = ne_eqb q id (λ e. a.1 (sym e ∙ b.1)) in
        rw (a.0, other, b.0)
    by (inr a) (inr b) ih = rw (a.0, b.0) ih

pub remove_AreApart : (es : List (ℕ × Stat)) (id : ℕ) → AreApart es
    → AreApart (remove_entry (eqb id) es)
remove_AreApart [] id apart = tt
remove_AreApart (e ∷ es) id apart = by (eqb id e.0) (remove_AreApart es id apart.1)
  where
    none : (b : Bool) → cond b None (stat_at es e.0) ≡ None
    none true = refl
    none false = apart.0

    by : (b : Bool) → AreApart (remove_entry (eqb id) es)
        → AreApart (cond b es (e ∷ remove_entry (eqb id) es))
    by true ih = apart.1
    by false ih = (stat_remove es id e.0 apart.1 ∙ none (eqb e.0 id), ih)

-- what a share of a period makes of a group's counters
abbrev pub then_share : Option Stat → Option Share → Option Stat
then_share o None = o
then_share o (Some share) = Some (added (or_zeros o) share)

pub booked_at : (shares : List (ℕ × Share)) (books : List (ℕ × Stat)) (q : ℕ) → HasOneEach shares
    → stat_at (booked books shares) q ≡ then_share (stat_at books q) (share_in shares q)
booked_at [] books q one = refl
booked_at (e ∷ es) books q one =
    by (eqb_tells q e.0) (booked_at es (with_share books e.0 e.1) q one.1)
    (stat_insert books e.0 (added (or_zeros (stat_at books e.0)) e.1) q)
  where
    by : ((eqb q e.0 ≡ true) × (q ≡ e.0)) ⊎ ((eqb q e.0 ≡ false) × (q ≢ e.0))
        → stat_at (booked (with_share books e.0 e.1) es) q
        ≡ then_share (stat_at (with_share books e.0 e.1) q) (share_in es q)
        → stat_at (with_share books e.0 e.1) q
        ≡ cond (eqb q e.0) (Some (added (or_zeros (stat_at books e.0)) e.1)) (stat_at books q)
        → stat_at (booked (with_share books e.0 e.1) es) q
        ≡ then_share (stat_at books q) (cond (eqb q e.0) (Some e.1) (share_in es q))
    by (inl a) ih put =
        ih ∙ ap₂ then_share put (ap (share_in es) a.1 ∙ one.0)
        ∙ ap (λ b. cond b (Some (added (or_zeros (stat_at books e.0)) e.1)) (stat_at books q)) a.0
        ∙ ap (λ k. Some (added (or_zeros (stat_at books k)) e.1)) (sym a.1)
        ∙ sym (ap (λ b. then_share (stat_at books q) (cond b (Some e.1) (share_in es q))) a.0)
    by (inr a) ih put =
        ih ∙ ap (λ o. then_share o (share_in es q))
        (put ∙ ap (λ b. cond b (Some (added (or_zeros (stat_at books e.0)) e.1))
        (stat_at books q)) a.0)
        ∙ sym (ap (λ b. then_share (stat_at books q) (cond b (Some e.1) (share_in es q))) a.0)

pub booked_AreApart : (shares : List (ℕ × Share)) (books : List (ℕ × Stat)) → AreApart books
    → AreApart (booked books shares)
booked_AreApart [] books apart = apart
booked_AreApart (e ∷ es) books apart =
    booked_AreApart es (with_share books e.0 e.1)
    (insert_AreApart books e.0 (added (or_zeros (stat_at books e.0)) e.1) apart)

absent_share : (s : ℕ) (rows : List Row) (ids : List ℕ) (qs : List (Option ℕ)) (ws ds : List ℕ)
    (id : ℕ) → AllByRecursion (λ y. eqb id y ≡ false) ids
    → share_in (shares_of s rows ids qs ws ds) id ≡ None
absent_share s [] ids qs ws ds id apart = refl
absent_share s (r ∷ rs) [] qs ws ds id apart = refl
absent_share s (r ∷ rs) (i ∷ is) [] ws ds id apart = refl
absent_share s (r ∷ rs) (i ∷ is) (q ∷ qs) [] ds id apart = refl
absent_share s (r ∷ rs) (i ∷ is) (q ∷ qs) (w ∷ ws) [] id apart = refl
absent_share s (r ∷ rs) (i ∷ is) (q ∷ qs) (w ∷ ws) (d ∷ ds) id apart =
    ap (λ b. cond b (Some (share_of s r q w d)) (share_in (shares_of s rs is qs ws ds) id)) apart.0
    ∙ absent_share s rs is qs ws ds id apart.1

-- where the ids are distinct, each group has one share
pub one_each : (s : ℕ) (rows : List Row) (ids : List ℕ) (qs : List (Option ℕ)) (ws ds : List ℕ)
    → IsDistinct eqb ids
    → HasOneEach (shares_of s rows ids qs ws ds)
one_each s [] ids qs ws ds apart = tt
one_each s (r ∷ rs) [] qs ws ds apart = tt
one_each s (r ∷ rs) (i ∷ is) [] ws ds apart = tt
one_each s (r ∷ rs) (i ∷ is) (q ∷ qs) [] ds apart = tt
one_each s (r ∷ rs) (i ∷ is) (q ∷ qs) (w ∷ ws) [] apart = tt
one_each s (r ∷ rs) (i ∷ is) (q ∷ qs) (w ∷ ws) (d ∷ ds) apart = (
  absent_share s rs is qs ws ds i (IsDistinct-head eqb i is apart),
  one_each s rs is qs ws ds (IsDistinct-tail eqb i is apart),
)
