-- The sums of periods, and periods that come again.
use Rattle.std.proofs.Common.{◌≡◌, ℕ, zero, suc, ◌+◌, ◌*◌, ◌-◌, ◌<◌, ◌≤◌, ◌^◌, List, [], ◌∷◌, ◌++◌}
use Rattle.std.proofs.Common.{length, map, refl, ap, sym, ◌∙◌, subst, arith, inl, inr, zero-add}
use Rattle.std.specs.List.{range_with_len}
use Rattle.std.proofs.Math.Nat.{mul-suc}
use Rattle.std.proofs.lemmas.Bool.{cases_lt}
use Rattle.std.proofs.lemmas.List.{length-append}
use Rattle.std.proofs.lemmas.List.FromFn.{fill_by_all, length-map-range_with_len}
use Rattle.std.proofs.lemmas.List.FromFn.{get_or-map-range_with_len}
use Rattle.bw_model.specs.declared.row.Row.{Row}
use Rattle.bw_model.specs.Host.{Shape}
use Rattle.bw_stat.specs.Books.{cut}
use Rattle.bw_columns.specs.declared.tally.Tally.{Tally}
use Rattle.bw_columns.specs.Tallies.{none, plus, repeated, cut_all, tally_in}
use Rattle.bw_columns.specs.Periods.{Period, IsPeriod, AreSuccessive, tally_at, summed, sums_of}

cut_full : (a x : ℕ) → 2 ^ 64 - 1 ≤ x → cut (a + x) ≡ 2 ^ 64 - 1
cut_full a x full = omega (arith, full)

at_least : (m t : ℕ) → m ≤ m * suc t
at_least m t = omega (arith, mul-suc m t)

-- a number that was cut counts as it would whole
cut_twice : (a b t : ℕ) → cut (cut a + cut b * t) ≡ cut (a + b * t)
cut_twice a b zero = omega arith
cut_twice a b (suc t) = elim (cases_lt b (2 ^ 64 - 1)) [
  | inl small ↦
      let e : cut b ≡ b = omega (arith, small) in
      let last : cut (cut a + b * suc t) ≡ cut (a + b * suc t) = omega arith in
      ap (λ (x : ℕ). cut (cut a + x * suc t)) e ∙ last
  | inr large ↦
      let e : cut b ≡ 2 ^ 64 - 1 = omega (arith, large) in
      let most : 2 ^ 64 - 1 ≤ (2 ^ 64 - 1) * suc t = at_least (2 ^ 64 - 1) t in
      let more : b ≤ b * suc t = at_least b t in
      ap (λ (x : ℕ). cut (cut a + x * suc t)) e
      ∙ cut_full (cut a) ((2 ^ 64 - 1) * suc t) most
      ∙ sym (cut_full a (b * suc t) (omega (arith, large, more)))
]

-- numbers that were cut count as they would whole
tallies_twice : (a b : Tally) (t : ℕ)
    → cut_all (plus (cut_all a) (repeated t (cut_all b))) ≡ cut_all (plus a (repeated t b))
tallies_twice a b t = λ i. record {
  amount = cut_twice a.amount b.amount t i;
  want = cut_twice a.want b.want t i;
  limit = cut_twice a.limit b.limit t i;
  nr_throttled = cut_twice a.nr_throttled b.nr_throttled t i;
  throttled_usec = cut_twice a.throttled_usec b.throttled_usec t i;
  nr_bursts = cut_twice a.nr_bursts b.nr_bursts t i;
  burst_usec = cut_twice a.burst_usec b.burst_usec t i;
  nr_short = cut_twice a.nr_short b.nr_short t i;
  nr_starved = cut_twice a.nr_starved b.nr_starved t i;
}

cut_once : (a b : ℕ) → cut (cut a + b * 1) ≡ cut (a + b)
cut_once a b = omega arith

tallies_once : (a b : Tally) → cut_all (plus (cut_all a) (repeated 1 b)) ≡ cut_all (plus a b)
tallies_once a b = λ i. record {
  amount = cut_once a.amount b.amount i;
  want = cut_once a.want b.want i;
  limit = cut_once a.limit b.limit i;
  nr_throttled = cut_once a.nr_throttled b.nr_throttled i;
  throttled_usec = cut_once a.throttled_usec b.throttled_usec i;
  nr_bursts = cut_once a.nr_bursts b.nr_bursts i;
  burst_usec = cut_once a.burst_usec b.burst_usec i;
  nr_short = cut_once a.nr_short b.nr_short i;
  nr_starved = cut_once a.nr_starved b.nr_starved i;
}

plus_none : (b : Tally) → plus none b ≡ b
plus_none b = λ i. record {
  amount = zero-add b.amount i;
  want = zero-add b.want i;
  limit = zero-add b.limit i;
  nr_throttled = zero-add b.nr_throttled i;
  throttled_usec = zero-add b.throttled_usec i;
  nr_bursts = zero-add b.nr_bursts i;
  burst_usec = zero-add b.burst_usec i;
  nr_short = zero-add b.nr_short i;
  nr_starved = zero-add b.nr_starved i;
}

right_zero : (a : ℕ) → a + 0 ≡ a
right_zero a = omega arith

grouped : (a b c : ℕ) → a + (b + c) ≡ a + b + c
grouped a b c = omega arith

plus_grouped : (a b c : Tally) → plus a (plus b c) ≡ plus (plus a b) c
plus_grouped a b c = λ i. record {
  amount = grouped a.amount b.amount c.amount i;
  want = grouped a.want b.want c.want i;
  limit = grouped a.limit b.limit c.limit i;
  nr_throttled = grouped a.nr_throttled b.nr_throttled c.nr_throttled i;
  throttled_usec = grouped a.throttled_usec b.throttled_usec c.throttled_usec i;
  nr_bursts = grouped a.nr_bursts b.nr_bursts c.nr_bursts i;
  burst_usec = grouped a.burst_usec b.burst_usec c.burst_usec i;
  nr_short = grouped a.nr_short b.nr_short c.nr_short i;
  nr_starved = grouped a.nr_starved b.nr_starved c.nr_starved i;
}

never : (a : ℕ) → 0 ≡ a * 0
never a = omega arith

repeated_never : (a : Tally) → none ≡ repeated 0 a
repeated_never a = λ i. record {
  amount = never a.amount i;
  want = never a.want i;
  limit = never a.limit i;
  nr_throttled = never a.nr_throttled i;
  throttled_usec = never a.throttled_usec i;
  nr_bursts = never a.nr_bursts i;
  burst_usec = never a.burst_usec i;
  nr_short = never a.nr_short i;
  nr_starved = never a.nr_starved i;
}

once_more : (a t : ℕ) → a + a * t ≡ a * suc t
once_more a t = omega (arith, mul-suc a t)

repeated_more : (a : Tally) (t : ℕ) → plus a (repeated t a) ≡ repeated (suc t) a
repeated_more a t = λ i. record {
  amount = once_more a.amount t i;
  want = once_more a.want t i;
  limit = once_more a.limit t i;
  nr_throttled = once_more a.nr_throttled t i;
  throttled_usec = once_more a.throttled_usec t i;
  nr_bursts = once_more a.nr_bursts t i;
  burst_usec = once_more a.burst_usec t i;
  nr_short = once_more a.nr_short t i;
  nr_starved = once_more a.nr_starved t i;
}

-- some periods again and again
abbrev pub again : List Period → ℕ → List Period
again ps zero = []
again ps (suc t) = ps ++ again ps t

pub length-again : (ps : List Period) (t : ℕ) → length (again ps t) ≡ length ps * t
length-again ps zero = omega arith
length-again ps (suc t) =
    length-append ps (again ps t) ∙ ap (λ (n : ℕ). length ps + n) (length-again ps t)
    ∙ once_more (length ps) t

-- the numbers that are added up
abbrev with_more : List Tally → List Tally → ℕ → List Tally
with_more sums more t =
    map (λ g. cut_all (plus (tally_in sums g) (repeated t (tally_in more g))))
    (range_with_len 0 (length sums))

with_more_at : (sums more : List Tally) (t g : ℕ) → g < length sums
    → tally_in (with_more sums more t) g
    ≡ cut_all (plus (tally_in sums g) (repeated t (tally_in more g)))
with_more_at sums more t g within =
    get_or-map-range_with_len
    (λ h. cut_all (plus (tally_in sums h) (repeated t (tally_in more h)))) 0 (length sums) g g
    none within (zero-add g)

module _ (slice_us : ℕ) (asked : List Row) where
  summed-append : (ps qs : List Period) (g : ℕ) → summed slice_us asked (ps ++ qs) g
      ≡ plus (summed slice_us asked ps g) (summed slice_us asked qs g)
  summed-append [] qs g = sym (plus_none (summed slice_us asked qs g))
  summed-append (p ∷ ps) qs g =
      ap (plus (tally_at slice_us asked p g)) (summed-append ps qs g)
      ∙ plus_grouped (tally_at slice_us asked p g) (summed slice_us asked ps g)
      (summed slice_us asked qs g)

  summed-again : (ps : List Period) (t g : ℕ) → summed slice_us asked (again ps t) g
      ≡ repeated t (summed slice_us asked ps g)
  summed-again ps zero g = repeated_never (summed slice_us asked ps g)
  summed-again ps (suc t) g =
      summed-append ps (again ps t) g
      ∙ ap (plus (summed slice_us asked ps g)) (summed-again ps t g)
      ∙ repeated_more (summed slice_us asked ps g) t

  pub sums_length : (ps : List Period) → length (sums_of slice_us asked ps) ≡ length asked
  sums_length ps =
      length-map-range_with_len (λ g. cut_all (summed slice_us asked ps g)) 0 (length asked)

  sums_at : (ps : List Period) (g : ℕ) → g < length asked
      → tally_in (sums_of slice_us asked ps) g ≡ cut_all (summed slice_us asked ps g)
  sums_at ps g within =
      get_or-map-range_with_len (λ h. cut_all (summed slice_us asked ps h)) 0 (length asked) g g
      none within (zero-add g)

  -- periods that come again so often
  sums_again : (ps qs : List Period) (t : ℕ)
      → with_more (sums_of slice_us asked ps) (sums_of slice_us asked qs) t
      ≡ sums_of slice_us asked (ps ++ again qs t)
  sums_again ps qs t =
      fill_by_all (λ g. cut_all (summed slice_us asked (ps ++ again qs t) g))
      (with_more (sums_of slice_us asked ps) (sums_of slice_us asked qs) t) (length asked) none
      (length-map-range_with_len
      (λ g. cut_all (plus (tally_in (sums_of slice_us asked ps) g)
      (repeated t (tally_in (sums_of slice_us asked qs) g)))) 0
      (length (sums_of slice_us asked ps)) ∙ sums_length ps)
      (λ g within.
      with_more_at (sums_of slice_us asked ps) (sums_of slice_us asked qs) t g
      (subst (λ (n : ℕ). g < n) (sym (sums_length ps)) within)
      ∙ ap (λ (a : Tally). cut_all (plus a (repeated t (tally_in (sums_of slice_us asked qs) g))))
      (sums_at ps g within)
      ∙ ap (λ (b : Tally). cut_all (plus (cut_all (summed slice_us asked ps g)) (repeated t b)))
      (sums_at qs g within)
      ∙ tallies_twice (summed slice_us asked ps g) (summed slice_us asked qs g) t
      ∙ ap (λ (b : Tally). cut_all (plus (summed slice_us asked ps g) b))
      (sym (summed-again qs t g))
      ∙ ap cut_all (sym (summed-append ps (again qs t) g)))

  told_at : (p : Period) (g : ℕ) → g < length asked
      → tally_in (map (tally_at slice_us asked p) (range_with_len 0 (length asked))) g
      ≡ tally_at slice_us asked p g
  told_at p g within =
      get_or-map-range_with_len (tally_at slice_us asked p) 0 (length asked) g g none within
      (zero-add g)

  -- one more period
  sums_more : (ps : List Period) (p : Period)
      → with_more (sums_of slice_us asked ps)
      (map (tally_at slice_us asked p) (range_with_len 0 (length asked))) 1
      ≡ sums_of slice_us asked (ps ++ p ∷ [])
  sums_more ps p =
      let told : List Tally = map (tally_at slice_us asked p) (range_with_len 0 (length asked)) in
      fill_by_all (λ g. cut_all (summed slice_us asked (ps ++ p ∷ []) g))
      (with_more (sums_of slice_us asked ps) told 1) (length asked) none
      (length-map-range_with_len
      (λ g. cut_all (plus (tally_in (sums_of slice_us asked ps) g)
      (repeated 1 (tally_in told g)))) 0
      (length (sums_of slice_us asked ps)) ∙ sums_length ps)
      (λ g within.
      with_more_at (sums_of slice_us asked ps) told 1 g
      (subst (λ (n : ℕ). g < n) (sym (sums_length ps)) within)
      ∙ ap (λ (a : Tally). cut_all (plus a (repeated 1 (tally_in told g)))) (sums_at ps g within)
      ∙ ap (λ (b : Tally). cut_all (plus (cut_all (summed slice_us asked ps g)) (repeated 1 b)))
      (told_at p g within)
      ∙ tallies_once (summed slice_us asked ps g) (tally_at slice_us asked p g)
      ∙ ap (λ (b : Tally). cut_all (plus (summed slice_us asked ps g) b))
      (sym (one_is p g))
      ∙ ap cut_all (sym (summed-append ps (p ∷ []) g)))
    where
      one_is : (p : Period) (g : ℕ)
          → summed slice_us asked (p ∷ []) g ≡ tally_at slice_us asked p g
      one_is p g = λ i. record {
        amount = right_zero (tally_at slice_us asked p g).amount i;
        want = right_zero (tally_at slice_us asked p g).want i;
        limit = right_zero (tally_at slice_us asked p g).limit i;
        nr_throttled = right_zero (tally_at slice_us asked p g).nr_throttled i;
        throttled_usec = right_zero (tally_at slice_us asked p g).throttled_usec i;
        nr_bursts = right_zero (tally_at slice_us asked p g).nr_bursts i;
        burst_usec = right_zero (tally_at slice_us asked p g).burst_usec i;
        nr_short = right_zero (tally_at slice_us asked p g).nr_short i;
        nr_starved = right_zero (tally_at slice_us asked p g).nr_starved i;
      }

-- numbers to which those of periods that come again so often were added
pub added_again : (slice_us : ℕ) (asked : List Row) (ps qs : List Period) (t : ℕ)
    (sums more out : List Tally) → out ≡ with_more sums more t → sums ≡ sums_of slice_us asked ps
    → more ≡ sums_of slice_us asked qs → out ≡ sums_of slice_us asked (ps ++ again qs t)
added_again slice_us asked ps qs t sums more out e one two =
    e ∙ ap (λ (s : List Tally). with_more s more t) one
    ∙ ap (λ (m : List Tally). with_more (sums_of slice_us asked ps) m t) two
    ∙ sums_again slice_us asked ps qs t

-- numbers to which those of a period were added
pub added_more : (slice_us : ℕ) (asked : List Row) (ps : List Period) (p : Period)
    (sums more out : List Tally) → out ≡ with_more sums more 1 → sums ≡ sums_of slice_us asked ps
    → more ≡ map (tally_at slice_us asked p) (range_with_len 0 (length asked))
    → out ≡ sums_of slice_us asked (ps ++ p ∷ [])
added_more slice_us asked ps p sums more out e one two =
    e ∙ ap (λ (s : List Tally). with_more s more 1) one
    ∙ ap (λ (m : List Tally). with_more (sums_of slice_us asked ps) m 1) two
    ∙ sums_more slice_us asked ps p

module _ (shape : Shape) (asked : List Row) (mosts : List ℕ) where
  pub successive-append : (ps qs : List Period) (begin between after : List ℕ)
      → AreSuccessive shape asked mosts begin ps between
      → AreSuccessive shape asked mosts between qs after
      → AreSuccessive shape asked mosts begin (ps ++ qs) after
  successive-append [] qs begin between after here rest =
      subst (λ (c : List ℕ). AreSuccessive shape asked mosts c qs after) here rest
  successive-append (p ∷ ps) qs begin between after here rest =
      (here.0, successive-append ps qs p.left between after here.1 rest)

  pub successive-again : (ps : List Period) (t : ℕ) (begin : List ℕ)
      → AreSuccessive shape asked mosts begin ps begin
      → AreSuccessive shape asked mosts begin (again ps t) begin
  successive-again ps zero begin here = refl
  successive-again ps (suc t) begin here =
      successive-append ps (again ps t) begin begin begin here (successive-again ps t begin here)

  pub successive-more : (ps : List Period) (p : Period) (begin between : List ℕ)
      → AreSuccessive shape asked mosts begin ps between → IsPeriod shape asked mosts between p
      → AreSuccessive shape asked mosts begin (ps ++ p ∷ []) p.left
  successive-more ps p begin between here held =
      successive-append ps (p ∷ []) begin between p.left here (held, refl)
