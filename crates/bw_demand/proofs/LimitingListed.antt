-- The list of the limiting groups, as far as the rows have been walked.
use Rattle.std.proofs.Common.{◌≡◌, ℕ, zero, suc, ◌+◌, ◌*◌, ◌<◌, ◌≤◌, List, [], ◌∷◌, ◌++◌, Bool}
use Rattle.std.proofs.Common.{true, false, cond, ◌&&◌, ◌||◌, not, None, Some, length, get_or, set}
use Rattle.std.proofs.Common.{replicate, refl, ap, sym, ◌∙◌, arith, inl, inr}
use Rattle.std.specs.Prelude.{sum_by, filter, unwrap_or}
use Rattle.std.specs.List.{range_with_len}
use Rattle.std.specs.Option.{option_map_or}
use Rattle.std.proofs.lemmas.Bool.{cases_Bool, cases_eq}
use Rattle.std.proofs.lemmas.List.{get_or-set_same, get_or-set_other, length-replicate}
use Rattle.std.proofs.Math.ListN.{length-set}
use Rattle.bw_model.specs.declared.limits.TheConstants.{MAX_DEMAND, MAX_GROUPS}
use Rattle.bw_model.specs.Groups.{Groups, IsInstance, parent_of, is_leaf, limit_of, demand_of}
use Rattle.bw_model.specs.Allocation.{IsGreatestTotal}
use Rattle.bw_model.specs.Demand.{is_tight, has_tight_above, limiting_groups, demand_outside}
use Rattle.bw_model.proofs.CallerLemmas.{parent_lt, limited-IsGreatestTotal, AreMaxTotals-capped}
use Rattle.bw_model.proofs.CallerLemmas.{sum_below}
use Rattle.bw_model.proofs.CallerLemmas.{above-child, above-top, demand_outside-is}
use Rattle.bw_demand.specs.Demands.{Demands, IsGathered}
use Rattle.bw_demand.proofs.WantsGathered.{sum_below-bound}

-- one number more of a filtered range
filter-more : (p : ℕ → Bool) (a n : ℕ) → filter p (range_with_len a (suc n))
    ≡ filter p (range_with_len a n) ++ cond (p (a + n)) ((a + n) ∷ []) []
filter-more p a zero = let e : a ≡ a + 0 = omega arith in elim (cases_Bool (p a)) [
  | inl h ↦ rw (← e) (rw h refl)
  | inr h ↦ rw (← e) (rw h refl)
]
filter-more p a (suc n) =
    let e : a + 1 + n ≡ a + suc n = omega arith in
    let more : filter p (range_with_len (a + 1) (suc n)) ≡ filter p (range_with_len (a + 1) n)
    ++ cond (p (a + suc n)) ((a + suc n) ∷ []) [] =
    filter-more p (a + 1) n
    ∙ ap (λ (k : ℕ). filter p (range_with_len (a + 1) n) ++ cond (p k) (k ∷ []) []) e in
    elim (cases_Bool (p a)) [
      | inl h ↦ rw h (ap (λ (xs : List ℕ). a ∷ xs) more)
      | inr h ↦ rw h more
    ]

-- a row that adds its demand need not be a leaf, since others have none
pub outside_alone : (leaf covered : Bool) (demand : ℕ) → (leaf ≡ false → demand ≡ 0)
    → cond covered 0 demand ≡ cond (leaf && not covered) demand 0
outside_alone true true demand idle = refl
outside_alone true false demand idle = refl
outside_alone false true demand idle = refl
outside_alone false false demand idle = idle refl

-- the rows before g are listed
pub record IsListing (groups : Groups) (d : Demands) (g : ℕ) (covered : List Bool) (list : List ℕ)
    (rest : ℕ) : Type 0 where
  pub one_each : length covered ≡ length groups.rows
  pub paths : (c : ℕ) → c < g → get_or covered c false
      ≡ (is_tight groups d.most c || has_tight_above groups d.most c)
  pub listed : list ≡ filter
      (λ h. is_tight groups d.most h && not (has_tight_above groups d.most h)) (range_with_len 0 g)
  pub added : rest ≡ sum_below g
      (λ l. cond (is_leaf groups.rows l
      && not (is_tight groups d.most l || has_tight_above groups d.most l))
      (demand_of groups.rows l) 0)

module _ (groups : Groups) (valid : IsInstance groups) (d : Demands)
    (known : IsGathered groups d) where
  -- what a row adds
  outside : ℕ → ℕ
  outside l = cond
      (is_leaf groups.rows l && not (is_tight groups d.most l || has_tight_above groups d.most l))
      (demand_of groups.rows l) 0

  limits_at : ℕ → Bool
  limits_at g = is_tight groups d.most g && not (has_tight_above groups d.most g)

  outside_le : (l : ℕ) → l < length groups.rows → outside l ≤ MAX_DEMAND
  unfolding outside
  outside_le l below =
      let s : demand_of groups.rows l ≤ MAX_DEMAND = valid.demands l below in
      elim (cases_Bool (is_leaf groups.rows l
      && not (is_tight groups d.most l || has_tight_above groups d.most l))) [
        | inl e ↦ rw e s
        | inr e ↦ rw e (omega arith)
      ]

  pub nothing_listed : (n : ℕ) → n ≡ length groups.rows → (covered : List Bool)
      → covered ≡ replicate n false → (list : List ℕ) → list ≡ []
      → IsListing groups d 0 covered list 0
  nothing_listed n e covered ec list el = record {
    one_each = ap length ec ∙ length-replicate n false ∙ e;
    paths = λ c lt. absurd (omega arith);
    listed = el;
    added = refl;
  }

  -- whether something above a row is tight, by its parent
  pub above_by_parent : (g : ℕ) (covered : List Bool) (list : List ℕ) (rest : ℕ)
      → IsListing groups d g covered list rest → (above : Bool) →
      above ≡ option_map_or (λ p. get_or covered p false) (parent_of groups.rows g) false
      → above ≡ has_tight_above groups d.most g
  above_by_parent g covered list rest so_far above e = e ∙
      (elim (parent_of groups.rows g) as (λ o. parent_of groups.rows g ≡ o →
      option_map_or (λ p. get_or covered p false) o false ≡ has_tight_above groups d.most g) [
        | None ↦ λ none. sym (above-top groups valid.tree d.most g none)
        | Some p ↦ λ some. so_far.paths p (parent_lt groups.rows valid.tree g p some)
            ∙ sym (above-child groups valid.tree d.most p g some)
      ]) refl

  pub listed_more : (g next : ℕ) (covered : List Bool) (list : List ℕ) (rest : ℕ) → next ≡ suc g
      → g < length groups.rows
      → IsListing groups d g covered list rest →
      (here : Bool) (list' : List ℕ) (rest' : ℕ) →
      here ≡ (is_tight groups d.most g || has_tight_above groups d.most g) →
      list' ≡ list ++ cond (is_tight groups d.most g && not (has_tight_above groups d.most g))
      (g ∷ []) [] →
      rest' ≡ rest + cond
      (is_leaf groups.rows g
      && not (is_tight groups d.most g || has_tight_above groups d.most g))
      (demand_of groups.rows g) 0 →
      IsListing groups d next (set covered g here) list' rest'
  listed_more g next covered list rest en below so_far here list' rest' eh el er = rw en (record {
    one_each = length-set covered g here ∙ so_far.one_each;
    paths = λ c lt. elim (cases_eq c g) [
      | inl same ↦ rw same
          (get_or-set_same covered g here false (omega (arith, so_far.one_each)) ∙ eh)
      | inr other ↦ get_or-set_other covered g c here false other
          ∙ so_far.paths c (omega (arith, other))
    ];
    listed = el ∙ ap (λ (xs : List ℕ).
        xs ++ cond (is_tight groups d.most g && not (has_tight_above groups d.most g)) (g ∷ []) [])
        so_far.listed
        ∙ at_zero
        ∙ sym (filter-more (λ h. is_tight groups d.most h && not (has_tight_above groups d.most h))
        0 g);
    added = omega (arith, er, so_far.added);
  })
    where
      at_zero : filter (λ h. is_tight groups d.most h && not (has_tight_above groups d.most h))
          (range_with_len 0 g)
          ++ cond (is_tight groups d.most g && not (has_tight_above groups d.most g)) (g ∷ []) []
          ≡ filter (λ h. is_tight groups d.most h && not (has_tight_above groups d.most h))
          (range_with_len 0 g)
          ++ cond (is_tight groups d.most (0 + g) && not (has_tight_above groups d.most (0 + g)))
          ((0 + g) ∷ []) []
      at_zero = let e : g ≡ 0 + g = omega arith in
          ap (λ (k : ℕ).
          filter (λ h. is_tight groups d.most h && not (has_tight_above groups d.most h))
          (range_with_len 0 g)
          ++ cond (is_tight groups d.most k && not (has_tight_above groups d.most k)) (k ∷ []) []) e

  -- the sum so far is small
  pub rest_small : (g : ℕ) (covered : List Bool) (list : List ℕ) (rest : ℕ) → g < length groups.rows
      → IsListing groups d g covered list rest
      → rest ≤ MAX_DEMAND * MAX_GROUPS
  rest_small g covered list rest below so_far =
      let s : sum_below g
      (λ l. cond (is_leaf groups.rows l
      && not (is_tight groups d.most l || has_tight_above groups d.most l))
      (demand_of groups.rows l) 0) ≤ MAX_DEMAND * g =
      sum_below-bound g _ (λ l lt. unfold outside in outside_le l (omega arith)) in
      let f = valid.few in
      omega (arith, s, f, so_far.added)

  pub all_listed : (g : ℕ) (covered : List Bool) (list : List ℕ) (rest : ℕ) → g ≡ length groups.rows
      → IsListing groups d g covered list rest →
      (list ≡ limiting_groups groups d.most) × (rest ≡ demand_outside groups.rows list)
      × IsGreatestTotal groups (sum_by (λ h. unwrap_or (limit_of groups h) 0) list + rest)
  unfolding limiting_groups
  all_listed g covered list rest e so_far =
      let whole : list
      ≡ filter (λ h. is_tight groups d.most h && not (has_tight_above groups d.most h))
      (range_with_len 0 (length groups.rows)) =
      so_far.listed
      ∙ ap (λ (n : ℕ).
      filter (λ h. is_tight groups d.most h && not (has_tight_above groups d.most h))
      (range_with_len 0 n)) e in
      let rests : rest ≡ demand_outside groups.rows
      (filter (λ h. is_tight groups d.most h && not (has_tight_above groups d.most h))
      (range_with_len 0 (length groups.rows))) =
      so_far.added ∙ ap (λ (n : ℕ). sum_below n
      (λ l. cond (is_leaf groups.rows l
      && not (is_tight groups d.most l || has_tight_above groups d.most l))
      (demand_of groups.rows l) 0)) e
      ∙ sym (demand_outside-is groups valid.tree d.most) in (
        whole,
        rw whole rests,
        rw (whole, rests)
            (limited-IsGreatestTotal groups valid.tree d.most
            (AreMaxTotals-capped groups valid.tree d.most known.mosts)),
      )
