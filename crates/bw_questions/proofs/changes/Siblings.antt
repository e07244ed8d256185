-- Siblings by their places, and their weights and mosts in two instances.
use Rattle.std.proofs.Common.{◌≡◌, ◌≢◌, ℕ, ◌<◌, ◌≤◌, List, Some, length, get_or, ap, sym, ◌∙◌}
use Rattle.std.proofs.Common.{arith, inl, inr}
use Rattle.std.specs.Prelude.{map}
use Rattle.std.proofs.lemmas.Bool.{cases_lt}
use Rattle.std.proofs.lemmas.List.{length-map}
use Rattle.bw_model.specs.declared.row.Row.{Row}
use Rattle.bw_model.specs.Groups.{parent_of, children_of}
use Rattle.bw_model.specs.Certificate.{sibling_place}
use Rattle.bw_model.proofs.CallerLemmas.{get_or-map, child_at}
use Rattle.bw_questions.specs.changes.OneSplit.{IsRaised}
use Rattle.bw_questions.proofs.changes.Lists.{outside}

module _ (rows : List Row) (g : ℕ) where
  -- Children at two places are two groups.
  pub apart_at : (k l : ℕ) → k < length (children_of rows g) → l < length (children_of rows g)
      → k ≢ l → get_or (children_of rows g) k 0 ≢ get_or (children_of rows g) l 0
  apart_at k l k_in l_in other same =
      other (sym (child_at rows g k k_in).place ∙ ap (sibling_place rows g) same
      ∙ (child_at rows g l l_in).place)

  -- A number is 0 past the last child.
  past : (f : ℕ → ℕ) (k : ℕ) → length (children_of rows g) ≤ k
      → get_or (map f (children_of rows g)) k 0 ≡ 0
  past f k h = outside (map f (children_of rows g)) k
      (omega (arith, h, length-map (children_of rows g) f))

  -- Numbers that are no less at each child are no less at each place.
  pub no_less_at : (f h : ℕ → ℕ)
      → ((c : ℕ) → c < length rows → parent_of rows c ≡ Some g → f c ≤ h c) → (k : ℕ)
      → get_or (map f (children_of rows g)) k 0 ≤ get_or (map h (children_of rows g)) k 0
  no_less_at f h less k = elim (cases_lt k (length (children_of rows g))) [
    | inl within ↦
        rw (
          get_or-map f (children_of rows g) k within,
          get_or-map h (children_of rows g) k within,
        )
        (less (get_or (children_of rows g) k 0) (child_at rows g k within).within
        (child_at rows g k within).parent)
    | inr out ↦ rw (past f k out, past h k out) (omega arith)
  ]

  -- Siblings whose weights and mosts differ at one of them alone, where they are greater.
  pub raised_child : (w v m n : ℕ → ℕ) (place c : ℕ) → place < length (children_of rows g)
      → get_or (children_of rows g) place 0 ≡ c → w c ≤ v c → m c ≤ n c
      → ((s : ℕ) → s < length rows → parent_of rows s ≡ Some g → s ≢ c → v s ≡ w s)
      → ((s : ℕ) → s < length rows → parent_of rows s ≡ Some g → s ≢ c → n s ≡ m s)
      → IsRaised (map w (children_of rows g)) (map m (children_of rows g))
      (map v (children_of rows g)) (map n (children_of rows g)) place
  raised_child w v m n place c inside here weight most weights mosts = record {
    as_many = length-map (children_of rows g) n ∙ sym (length-map (children_of rows g) m);
    weight = rw (
      get_or-map w (children_of rows g) place inside,
      get_or-map v (children_of rows g) place inside,
      here,
    ) weight;
    maximum = rw (
      get_or-map m (children_of rows g) place inside,
      get_or-map n (children_of rows g) place inside,
      here,
    ) most;
    others = λ k other. elim (cases_lt k (length (children_of rows g))) [
      | inl within ↦
          let apart : get_or (children_of rows g) k 0 ≢ c =
          (λ same. apart_at k place within inside other (same ∙ sym here)) in (
            rw (
              get_or-map w (children_of rows g) k within,
              get_or-map v (children_of rows g) k within,
            )
                (weights (get_or (children_of rows g) k 0) (child_at rows g k within).within
                (child_at rows g k within).parent apart),
            rw (
              get_or-map m (children_of rows g) k within,
              get_or-map n (children_of rows g) k within,
            )
                (mosts (get_or (children_of rows g) k 0) (child_at rows g k within).within
                (child_at rows g k within).parent apart),
          )
      | inr out ↦ (past v k out ∙ sym (past w k out), past n k out ∙ sym (past m k out))
    ];
  }
