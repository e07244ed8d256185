-- What the groups that are done have cost, group by group.
use Rattle.std.proofs.Common.{◌≡◌, ℕ, zero, suc, ◌+◌, ◌*◌, ◌<◌, ◌≤◌, ◌&&◌, ◌||◌, List, [], ◌∷◌, Bool, true}
use Rattle.std.proofs.Common.{false, true≢false, cond, eqb, length, get_or, Some, None, refl}
use Rattle.std.proofs.Common.{sym, ap, ◌∙◌, arith, inl, inr}
use Rattle.std.specs.Prelude.{filter, Option}
use Rattle.std.specs.List.{range_with_len}
use Rattle.std.specs.Option.{option_map_or}
use Rattle.std.proofs.lemmas.Bool.{cases_Bool, cases_lt, eq-eqb, eqb-true, lt-ltb}
use Rattle.std.proofs.lemmas.Bool.{and_parts, or_left, or_right, both_ways}
use Rattle.std.proofs.lemmas.List.FromFn.{length-range_with_len, get_or-range_with_len}
use Rattle.bw_model.specs.declared.row.Row.{Row}
use Rattle.bw_model.specs.Groups.{parent_of, is_child, children_of}
use Rattle.bw_demand.proofs.CallerLemmas.{passing_few}
use Rattle.bw_split.specs.declared.limits.TheConstants.{MAX_ROUNDS}
use Rattle.bw_split.specs.Counts.{Done}
use Rattle.bw_plan.specs.Cost.{is_wide, wide_groups, wide_among, children_among}
use Rattle.bw_plan.specs.Cost.{nothing_done, IsOneCounted, IsCounted}

-- 1 for what passes
abbrev pass : Bool → ℕ
pass b = cond {A = ℕ} b 1 0

passed : (p : ℕ → Bool) (x : ℕ) (xs : List ℕ)
    → length (filter p (x ∷ xs)) ≡ pass (p x) + length (filter p xs)
passed p x xs = elim (cases_Bool (p x)) [
  | inl e ↦ rw e (omega arith)
  | inr e ↦ rw e (omega arith)
]

pass_mono : (a b : Bool) → (a ≡ true → b ≡ true) → pass a ≤ pass b
pass_mono true true h = omega arith
pass_mono true false h = absurd (true≢false (sym (h refl)))
pass_mono false b h = omega arith

pass_apart : (a b c : Bool) → (a ≡ true → c ≡ true) → (b ≡ true → c ≡ true)
    → (a ≡ true → b ≡ true → ⊥) → pass a + pass b ≤ pass c
pass_apart true true c ac bc apart = absurd (apart refl refl)
pass_apart true false c ac bc apart = omega (arith, pass_mono true c ac)
pass_apart false b c ac bc apart = omega (arith, pass_mono b c bc)

-- a test that passes all that another one does
passes_more : (p q : ℕ → Bool) → ((x : ℕ) → p x ≡ true → q x ≡ true) → (xs : List ℕ)
    → length (filter p xs) ≤ length (filter q xs)
passes_more p q h [] = omega arith
passes_more p q h (x ∷ xs) =
    omega (
      arith,
      passed p x xs,
      passed q x xs,
      pass_mono (p x) (q x) (h x),
      passes_more p q h xs,
    )

-- a test that passes all that two others do, of which none passes what the other does
passes_both : (p q r : ℕ → Bool) → ((x : ℕ) → p x ≡ true → r x ≡ true)
    → ((x : ℕ) → q x ≡ true → r x ≡ true) → ((x : ℕ) → p x ≡ true → q x ≡ true → ⊥)
    → (xs : List ℕ) → length (filter p xs) + length (filter q xs) ≤ length (filter r xs)
passes_both p q r pr qr apart [] = omega arith
passes_both p q r pr qr apart (x ∷ xs) =
    omega (
      arith,
      passed p x xs,
      passed q x xs,
      passed r x xs,
      pass_apart (p x) (q x) (r x) (pr x) (qr x) (apart x),
      passes_both p q r pr qr apart xs,
    )

-- a test that passes an item passes one
passes_one : (p : ℕ → Bool) (xs : List ℕ) (k : ℕ) → k < length xs → p (get_or xs k 0) ≡ true
    → 1 ≤ length (filter p xs)
passes_one p [] k below e = absurd (omega arith)
passes_one p (x ∷ xs) zero below e =
    let one : pass (p x) ≡ 1 = rw e refl in omega (arith, passed p x xs, one)
passes_one p (x ∷ xs) (suc k) below e =
    omega (arith, passed p x xs, passes_one p xs k (omega arith) e)

-- a parent that is chosen by more
parent_more : (done next : ℕ → Bool) → ((h : ℕ) → done h ≡ true → next h ≡ true)
    → (above : Option ℕ) → option_map_or done above false ≡ true
    → option_map_or next above false ≡ true
parent_more done next more None e = e
parent_more done next more (Some p) e = more p e

parent_apart : (done : ℕ → Bool) (g : ℕ) → done g ≡ false → (above : Option ℕ)
    → option_map_or done above false ≡ true
    → option_map_or (λ p. eqb p g) above false ≡ true → ⊥
parent_apart done g fresh None e same = true≢false (sym e)
parent_apart done g fresh (Some p) e same =
    both_ways (done g) fresh (ap done (sym (eqb-true p g same)) ∙ e)

module _ (rows : List Row) where
  -- more groups have no fewer wide ones, and no fewer children
  wide_mono : (done next : ℕ → Bool) → ((h : ℕ) → done h ≡ true → next h ≡ true)
      → wide_among rows done ≤ wide_among rows next
  unfolding wide_among
  wide_mono done next more =
      passes_more (λ g. done g && is_wide rows g) (λ g. next g && is_wide rows g)
      (λ g e. let parts = and_parts (done g) (is_wide rows g) e in
      rw (more g parts.0) parts.1) (range_with_len 0 (length rows))

  children_mono : (done next : ℕ → Bool) → ((h : ℕ) → done h ≡ true → next h ≡ true)
      → children_among rows done ≤ children_among rows next
  unfolding children_among
  children_mono done next more =
      passes_more (λ c. option_map_or done (parent_of rows c) false)
      (λ c. option_map_or next (parent_of rows c) false)
      (λ c. parent_more done next more (parent_of rows c)) (range_with_len 0 (length rows))

  -- the wide groups among some are no more than all
  wide_all : (done : ℕ → Bool) → wide_among rows done ≤ wide_groups rows
  unfolding wide_among wide_groups
  wide_all done =
      passes_more (λ g. done g && is_wide rows g) (is_wide rows)
      (λ g e. (and_parts (done g) (is_wide rows g) e).1) (range_with_len 0 (length rows))

  -- the children of some groups are no more than the rows
  children_few : (done : ℕ → Bool) → children_among rows done ≤ length rows
  unfolding children_among
  children_few done =
      omega (
        arith,
        passing_few (λ c. option_map_or done (parent_of rows c) false)
            (range_with_len 0 (length rows)),
        length-range_with_len 0 (length rows),
      )

  module _ (done next : ℕ → Bool) (g : ℕ) (fresh : done g ≡ false)
      (more : (h : ℕ) → next h ≡ (done h || eqb g h)) where
    earlier : (h : ℕ) → done h ≡ true → next h ≡ true
    earlier h e = more h ∙ or_left (done h) (eqb g h) e

    -- one group more
    wide_one : g < length rows → is_wide rows g ≡ true
        → wide_among rows done + 1 ≤ wide_among rows next
    unfolding wide_among
    wide_one below wide =
        let xs = range_with_len 0 (length rows) in
        let here : get_or xs g 0 ≡ g =
        omega (arith, get_or-range_with_len 0 (length rows) g 0 below) in
        let one : 1 ≤ length (filter (eqb g) xs) =
        passes_one (eqb g) xs g (omega (arith, below, length-range_with_len 0 (length rows)))
        (rw here (eq-eqb g g refl)) in
        let both = passes_both (λ h. done h && is_wide rows h) (eqb g)
        (λ h. next h && is_wide rows h)
        (λ h e. let parts = and_parts (done h) (is_wide rows h) e in
        rw (earlier h parts.0) parts.1)
        (λ h e. rw (more h ∙ or_right (done h) (eqb g h) e)
        (ap (is_wide rows) (sym (eqb-true g h e)) ∙ wide))
        (λ h e same. both_ways (done g) fresh
        (ap done (eqb-true g h same) ∙ (and_parts (done h) (is_wide rows h) e).0)) xs in
        omega (arith, one, both)

    children_more : children_among rows done + length (children_of rows g)
        ≤ children_among rows next
    unfolding children_among children_of
    children_more =
        passes_both (λ c. option_map_or done (parent_of rows c) false) (is_child rows g)
        (λ c. option_map_or next (parent_of rows c) false)
        (λ c. parent_more done next earlier (parent_of rows c))
        (λ c. parent_more (λ p. eqb p g) next (λ p e. more p
        ∙ or_right (done p) (eqb g p) (eq-eqb g p (sym (eqb-true p g e)))) (parent_of rows c))
        (λ c. parent_apart done g fresh (parent_of rows c)) (range_with_len 0 (length rows))

    -- The count of one group more.
    pub counted_one : g < length rows → (before after : Done) → IsOneCounted rows g before after
        → IsCounted rows done next before after
    counted_one below before after one = record {
      rounds = elim (cases_lt 2 (length (children_of rows g))) [
        | inl wide ↦
            omega (
              arith,
              one.rounds,
              wide_one below (lt-ltb 2 (length (children_of rows g)) wide),
            )
        | inr few ↦ omega (arith, one.no_search few, wide_mono done next earlier)
      ];
      picks = omega (arith, one.picks, children_more);
      no_fewer_rounds = one.no_fewer_rounds;
      no_fewer_picks = one.no_fewer_picks;
    }

  -- The count of one group's split, added to another count.
  pub one_added : (g : ℕ) (before after piece : Done) → after.rounds ≡ before.rounds + piece.rounds
      → after.picks ≡ before.picks + piece.picks → IsOneCounted rows g nothing_done piece
      → IsOneCounted rows g before after
  one_added g before after piece rounds picks one = record {
    rounds = omega (arith, rounds, one.rounds);
    no_search = λ few. omega (arith, rounds, one.no_search few);
    picks = omega (arith, picks, one.picks);
    no_fewer_rounds = omega (arith, rounds);
    no_fewer_picks = omega (arith, picks);
  }

  -- Nothing is counted where nothing was done.
  pub counted_none : (done : ℕ → Bool) (work : Done) → IsCounted rows done done work work
  counted_none done work = record {
    rounds = omega arith;
    picks = omega arith;
    no_fewer_rounds = omega arith;
    no_fewer_picks = omega arith;
  }

  -- One count after another.
  pub counted_then : (done more most : ℕ → Bool) (before between after : Done)
      → IsCounted rows done more before between → IsCounted rows more most between after
      → IsCounted rows done most before after
  counted_then done more most before between after first second = record {
    rounds = omega (arith, first.rounds, second.rounds);
    picks = omega (arith, first.picks, second.picks);
    no_fewer_rounds = omega (arith, first.no_fewer_rounds, second.no_fewer_rounds);
    no_fewer_picks = omega (arith, first.no_fewer_picks, second.no_fewer_picks);
  }

  -- A count of some groups stands for more of them too.
  pub counted_more : (done more most : ℕ → Bool) → ((h : ℕ) → more h ≡ true → most h ≡ true)
      → (before after : Done) → IsCounted rows done more before after
      → IsCounted rows done most before after
  counted_more done more most wider before after so_far = record {
    rounds = omega (arith, so_far.rounds, wide_mono more most wider);
    picks = omega (arith, so_far.picks, children_mono more most wider);
    no_fewer_rounds = so_far.no_fewer_rounds;
    no_fewer_picks = so_far.no_fewer_picks;
  }

  -- The count of a walk is within that of all groups.
  pub counted_rounds : (done more : ℕ → Bool) (before after : Done)
      → IsCounted rows done more before after
      → after.rounds ≤ before.rounds + MAX_ROUNDS * wide_groups rows
  counted_rounds done more before after all = omega (arith, all.rounds, wide_all more)

  pub counted_picks : (done more : ℕ → Bool) (before after : Done)
      → IsCounted rows done more before after → after.picks ≤ before.picks + length rows
  counted_picks done more before after all = omega (arith, all.picks, children_few more)
