-- Rows with demands and limits, and samples one after another.
use Rattle.std.proofs.Common.{◌≡◌, ℕ, zero, suc, ◌+◌, ◌*◌, ◌<◌, List, [], ◌∷◌, ◌++◌, Option}
use Rattle.std.proofs.Common.{None, Some, length, take, drop, refl, ap, sym, ◌∙◌, subst, arith}
use Rattle.std.proofs.Common.{zero-add, false, inl, inr, slice_index}
use Rattle.std.specs.Option.{option_map_or}
use Rattle.std.proofs.Math.Nat.{suc-mul}
use Rattle.std.proofs.lemmas.Bool.{cases_lt}
use Rattle.std.proofs.lemmas.List.{drop-drop, get_or_past, append_assoc, append-nil}
use Rattle.std.proofs.lemmas.List.FromFn.{get_or-map-range_with_len, length-map-range_with_len}
use Rattle.bw_model.specs.declared.row.Row.{Row}
use Rattle.bw_model.specs.Host.{Shape}
use Rattle.bw_model.specs.Groups.{Groups, IsInstance, row_of, parent_of, no_row, path_up_within}
use Rattle.bw_model.specs.Groups.{weight_of, demand_of, is_leaf, depth_of, path_up}
use Rattle.bw_model.proofs.CallerLemmas.{inner_has_child, parent_not_leaf}
use Rattle.bw_columns.specs.declared.tally.Tally.{Tally}
use Rattle.bw_columns.specs.PlannedHosts.{groups_on}
use Rattle.bw_columns.specs.Periods.{period_row, period_rows, limit_with, rows_asking, demands_at}
use Rattle.bw_columns.specs.Periods.{row_asking}
use Rattle.bw_columns.specs.Periods.{IsSample, AreSamples}

-- one more sample
module _ (shape : Shape) (slice_us : ℕ) (rows : List Row) (mosts : List ℕ) (times : ℕ) where
  pub samples-more : (count : ℕ) (demands begin between after : List ℕ)
      (tallies more : List Tally)
      → AreSamples shape slice_us rows mosts times count demands begin tallies between
      → IsSample shape slice_us (rows_asking rows (demands_at (length rows) demands count)) mosts
      times between more after
      → AreSamples shape slice_us rows mosts times (suc count) demands begin (tallies ++ more) after
  samples-more zero demands begin between after tallies more here next =
      let none : demands_at (length rows) demands 0 ≡ take (length rows) demands =
      ap (λ (n : ℕ). take (length rows) (drop n demands)) (zero_times (length rows)) in (
        more,
        [],
        after,
        subst (λ (c : List ℕ). IsSample shape slice_us
            (rows_asking rows (take (length rows) demands)) mosts times c more after) here.1
            (subst (λ (d : List ℕ). IsSample shape slice_us (rows_asking rows d) mosts times between more
            after) none next),
        (refl, refl),
        ap (λ (ts : List Tally). ts ++ more) here.0 ∙ sym (append-nil more),
      )
    where
      zero_times : (n : ℕ) → 0 * n ≡ 0
      zero_times n = omega arith
  samples-more (suc count) demands begin between after tallies more here next =
      let width = length rows in
      let same : demands_at width demands (suc count)
      ≡ demands_at width (drop width demands) count =
      ap (λ (n : ℕ). take width (drop n demands)) (one_more width count)
      ∙ ap (take width) (sym (drop-drop (count * width) width demands)) in (
        here.0,
        here.1 ++ more,
        here.2,
        here.3,
        samples-more count (drop width demands) here.2 between after here.1 more here.4
            (subst (λ (d : List ℕ). IsSample shape slice_us (rows_asking rows d) mosts times between more
            after) same next),
        ap (λ (ts : List Tally). ts ++ more) here.5 ∙ append_assoc here.0 here.1 more,
      )
    where
      one_more : (w k : ℕ) → suc k * w ≡ w + k * w
      one_more w k = omega (arith, suc-mul k w)

-- the rows of a period
module _ (asked : List Row) (mosts carries : List ℕ) where
  pub period_rows-length : length (period_rows asked mosts carries) ≡ length asked
  period_rows-length = length-map-range_with_len (period_row asked mosts carries) 0 (length asked)

  -- a field that a period leaves as it was
  field_same : {A : Type 0} (f : Row → A)
      → ((h : ℕ) → f (period_row asked mosts carries h) ≡ f (row_of asked h)) → (g : ℕ)
      → f (row_of (period_rows asked mosts carries) g) ≡ f (row_of asked g)
  field_same f same g = elim (cases_lt g (length asked)) [
    | inl within ↦
        ap f (get_or-map-range_with_len (period_row asked mosts carries) 0 (length asked) g g
        no_row within (zero-add g)) ∙ same g
    | inr past ↦
        ap f (get_or_past (period_rows asked mosts carries) g no_row
        (omega (arith, past, period_rows-length)))
        ∙ sym (ap f (get_or_past asked g no_row past))
  ]

  parents_same : (g : ℕ) → parent_of (period_rows asked mosts carries) g ≡ parent_of asked g
  parents_same = field_same (λ (r : Row). r.parent) (λ h. refl)

  weights_same : (g : ℕ) → weight_of (period_rows asked mosts carries) g ≡ weight_of asked g
  weights_same = field_same (λ (r : Row). r.weight) (λ h. refl)

  demands_same : (g : ℕ) → demand_of (period_rows asked mosts carries) g ≡ demand_of asked g
  demands_same = field_same (λ (r : Row). r.demand) (λ h. refl)

  path_same : (steps g : ℕ) → path_up_within steps (period_rows asked mosts carries) g
      ≡ path_up_within steps asked g
  unfolding path_up_within
  path_same zero g = refl
  path_same (suc steps) g =
      ap (λ (path : List ℕ). g ∷ path)
      (ap (λ o. option_map_or (path_up_within steps (period_rows asked mosts carries)) o [])
      (parents_same g)
      ∙ onward (parent_of asked g) (path_same steps))
    where
      onward : (o : Option ℕ)
          → ((h : ℕ) → path_up_within steps (period_rows asked mosts carries) h
          ≡ path_up_within steps asked h)
          → option_map_or (path_up_within steps (period_rows asked mosts carries)) o []
          ≡ option_map_or (path_up_within steps asked) o []
      onward None e = refl
      onward (Some p) e = e p

  depth_same : (g : ℕ) → depth_of (period_rows asked mosts carries) g ≡ depth_of asked g
  unfolding depth_of path_up
  depth_same g = rw (path_same g g) refl

  inner_same : (g : ℕ) → is_leaf (period_rows asked mosts carries) g ≡ false
      → is_leaf asked g ≡ false
  inner_same g inner =
      let child : (c : ℕ) × (c < length (period_rows asked mosts carries))
      × (parent_of (period_rows asked mosts carries) c ≡ Some g) =
      inner_has_child (period_rows asked mosts carries) g inner in
      parent_not_leaf asked g child.0 (omega (arith, child.1, period_rows-length))
      (sym (parents_same child.0) ∙ child.2)

  unlimited : (o : Option ℕ) (carry most : ℕ) → o ≡ None → limit_with carry most o ≡ None
  unlimited None carry most e = refl
  unlimited (Some limit) carry most e = absurd (some_none limit e)
    where
      some_none : (limit : ℕ) → Some limit ≡ None → ⊥
      some_none limit e = cc

  -- the limits of a period leave an instance one
  pub period-IsInstance : (shape : Shape) → IsInstance (groups_on shape asked)
      → IsInstance (groups_on shape (period_rows asked mosts carries))
  period-IsInstance shape valid = record {
    host = valid.host;
    tree = record {
      has_root = omega (arith, period_rows-length, valid.tree.has_root);
      root_on_top = parents_same 0 ∙ valid.tree.root_on_top;
      parent_before = λ g inner below.
          let known = valid.tree.parent_before g inner (omega (arith, below, period_rows-length)) in
          (known.0, parents_same g ∙ known.1, known.2);
    };
    few = omega (arith, period_rows-length, valid.few);
    weights = λ g below.
        rw (weights_same g) (valid.weights g (omega (arith, below, period_rows-length)));
    shallow = λ g below.
        rw (depth_same g) (valid.shallow g (omega (arith, below, period_rows-length)));
    inner_idle = λ g below inner. demands_same g
        ∙ valid.inner_idle g (omega (arith, below, period_rows-length)) (inner_same g inner);
    demands = λ g below.
        rw (demands_same g) (valid.demands g (omega (arith, below, period_rows-length)));
    root_unlimited =
        ap (λ (r : Row). r.limit)
        (get_or-map-range_with_len (period_row asked mosts carries) 0 (length asked) 0 0 no_row
        valid.tree.has_root refl)
        ∙ unlimited (row_of asked 0).limit (slice_index carries 0) (slice_index mosts 0)
        valid.root_unlimited;
  }

-- as many rows as before
pub period_count : (i : Groups) (shape : Shape) (rows asked : List Row) (mosts carries : List ℕ)
    → i ≡ groups_on shape rows → rows ≡ period_rows asked mosts carries
    → length i.rows ≡ length asked
period_count i shape rows asked mosts carries here are =
    ap (λ (g : Groups). length g.rows) here ∙ ap (length {A = Row}) are
    ∙ period_rows-length asked mosts carries

-- as many rows as without demands
pub asked_count : (i : Groups) (shape : Shape) (rows : List Row) (demands : List ℕ)
    → i ≡ groups_on shape (rows_asking rows demands) → length i.rows ≡ length rows
asked_count i shape rows demands here =
    ap (λ (g : Groups). length g.rows) here
    ∙ length-map-range_with_len (row_asking rows demands) 0 (length rows)

-- a sample of an instance
pub sample_of_rows : (i : Groups) (shape : Shape) (slice_us : ℕ) (rows : List Row)
    (mosts seen : List ℕ) (times : ℕ) (carries : List ℕ) (tallies : List Tally) (after : List ℕ)
    → IsSample i.shape slice_us i.rows seen times carries tallies after
    → i ≡ groups_on shape rows → seen ≡ mosts
    → IsSample shape slice_us rows mosts times carries tallies after
sample_of_rows i shape slice_us rows mosts seen times carries tallies after sample here same =
    subst (λ (m : List ℕ). IsSample shape slice_us rows m times carries tallies after) same
    (subst (λ (g : Groups). IsSample g.shape slice_us g.rows seen times carries tallies after) here
    sample)
