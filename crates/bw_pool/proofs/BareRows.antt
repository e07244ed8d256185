-- Rows with the parents alone go up as the rows themselves do.
use Rattle.std.proofs.Common.{◌≡◌, ℕ, zero, suc, ◌<◌, List, [], ◌∷◌, Option, None, Some, length}
use Rattle.std.proofs.Common.{get_or, refl, ap, sym, ◌∙◌, subst}
use Rattle.std.specs.Option.{option_map_or}
use Rattle.std.proofs.lemmas.List.{length-map}
use Rattle.bw_model.specs.declared.row.Row.{Row}
use Rattle.bw_model.specs.Groups.{AreTreeRows, no_row, parent_of, path_up_within, path_up}
use Rattle.bw_pool.specs.Parents.{parents_of, bare_rows}

-- a bare row has the parent that it was given
pub parent_bare : (parents : List (Option ℕ)) (g : ℕ)
    → parent_of (bare_rows parents) g ≡ get_or parents g None
parent_bare [] zero = refl
parent_bare [] (suc g) = refl
parent_bare (parent ∷ parents) zero = refl
parent_bare (parent ∷ parents) (suc g) = parent_bare parents g

parents_at : (rows : List Row) (g : ℕ) → get_or (parents_of rows) g None ≡ parent_of rows g
parents_at [] zero = refl
parents_at [] (suc g) = refl
parents_at (row ∷ rows) zero = refl
parents_at (row ∷ rows) (suc g) = parents_at rows g

bare_length : (parents : List (Option ℕ)) → length (bare_rows parents) ≡ length parents
bare_length parents = length-map parents (λ parent. record no_row { parent = parent })

parents_length : (rows : List Row) → length (parents_of rows) ≡ length rows
parents_length rows = length-map rows (λ r. r.parent)

-- rows with the same parents have the same paths
path_within_same : (steps : ℕ) (rows other : List Row)
    → ((g : ℕ) → parent_of rows g ≡ parent_of other g) → (g : ℕ) →
    path_up_within steps rows g ≡ path_up_within steps other g
unfolding path_up_within
path_within_same zero rows other same g = refl
path_within_same (suc steps) rows other same g =
    ap (λ (rest : List ℕ). g ∷ rest)
    (ap (λ o. option_map_or (path_up_within steps rows) o []) (same g)
    ∙ above (path_up_within steps rows) (path_up_within steps other)
    (path_within_same steps rows other same) (parent_of other g))
  where
    above : (f f' : ℕ → List ℕ) → ((p : ℕ) → f p ≡ f' p) → (o : Option ℕ)
        → option_map_or f o [] ≡ option_map_or f' o []
    above f f' each None = refl
    above f f' each (Some p) = each p

-- what the bare rows share with the rows whose parents they have
module _ (rows : List Row) (parents : List (Option ℕ)) (are : parents ≡ parents_of rows) where
  parent_same : (g : ℕ) → parent_of (bare_rows parents) g ≡ parent_of rows g
  parent_same g = parent_bare parents g ∙ ap (λ ps. get_or ps g None) are ∙ parents_at rows g

  pub as_many : length parents ≡ length rows
  as_many = ap length are ∙ parents_length rows

  -- the way up is the same
  pub path_bare : (g : ℕ) → path_up (bare_rows parents) g ≡ path_up rows g
  unfolding path_up
  path_bare g = path_within_same g (bare_rows parents) rows parent_same g

  -- and they are of one tree too
  pub tree_bare : AreTreeRows rows → AreTreeRows (bare_rows parents)
  tree_bare tree =
      let many : length (bare_rows parents) ≡ length rows = bare_length parents ∙ as_many in
      record {
        has_root = subst (λ n. 0 < n) (sym many) tree.has_root;
        root_on_top = parent_same 0 ∙ tree.root_on_top;
        parent_before = λ g above within.
            let known : (p : ℕ) × (parent_of rows g ≡ Some p) × (p < g) =
            tree.parent_before g above (subst (λ n. g < n) many within) in
            (known.0, parent_same g ∙ known.1, known.2);
      }
