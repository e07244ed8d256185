-- A tree with one row more is one that the shorter tree is carried into.
use Rattle.std.proofs.Common.{◌≡◌, ℕ, suc, ◌<◌, ◌≤◌, List, [], ◌∷◌, ◌++◌, Option, cond}
use Rattle.std.proofs.Common.{false, None, Some, length, refl, ap, ◌∙◌, arith, eqb}
use Rattle.std.specs.Prelude.{map}
use Rattle.std.specs.Option.{option_map, option_map_or}
use Rattle.bw_model.specs.declared.row.Row.{Row}
use Rattle.bw_model.specs.Groups.{row_of, parent_of, is_child, children_of, weight_of, demand_of}
use Rattle.bw_questions.specs.changes.Places.{later}
use Rattle.bw_questions.proofs.changes.Places.{later-in, parts}
use Rattle.bw_questions.proofs.changes.Carried.{IsCarried}

-- A tree with one row more. The face of each group is its later number.
pub record IsLonger (rows longer : List Row) (place : ℕ) (number : ℕ → ℕ) : Type 0 where
  pub one_more : length longer ≡ suc (length rows)
  pub inside : place ≤ length rows
  pub numbers : (x : ℕ) → x < length rows → number x < length longer
  pub upward : (x : ℕ) → x ≤ number x
  pub alike : (x y : ℕ) → eqb (number x) (number y) ≡ eqb x y
  pub parents : (x : ℕ) → x < length rows
      → parent_of longer (later place x) ≡ option_map number (parent_of rows x)
  pub weights : (x : ℕ) → x < length rows → weight_of longer (later place x) ≡ weight_of rows x
  pub demands : (x : ℕ) → x < length rows → demand_of longer (number x) ≡ demand_of rows x
  pub limits : (x : ℕ) → x < length rows
      → (row_of longer (number x)).limit ≡ (row_of rows x).limit

through : (number : ℕ → ℕ) (q : ℕ) → ((x y : ℕ) → eqb (number x) (number y) ≡ eqb x y)
    → (o : Option ℕ) → option_map_or (λ p. eqb p (number q)) (option_map number o) false
    ≡ option_map_or (λ p. eqb p q) o false
through number q alike None = refl
through number q alike (Some p) = alike p q

module _ (rows longer : List Row) (place : ℕ) (number : ℕ → ℕ)
    (is : IsLonger rows longer place number) where
  later_number : (x : ℕ) → x < length rows → later place x < length longer
  later_number x below = omega (arith, later-in place x (length rows) below, is.one_more)

  child_same : (q x : ℕ) → x < length rows
      → is_child longer (number q) (later place x) ≡ is_child rows q x
  child_same q x below =
      ap (λ o. option_map_or (λ p. eqb p (number q)) o false) (is.parents x below)
      ∙ through number q is.alike (parent_of rows x)

  child_parts : (q : ℕ) → (left : List ℕ) × (right : List ℕ)
      × (children_of rows q ≡ left ++ right)
      × (children_of longer (number q) ≡ map (later place) left
      ++ (cond (is_child longer (number q) place) (place ∷ []) [] ++ map (later place) right))
  unfolding children_of
  child_parts q =
      rw is.one_more
      (parts (is_child longer (number q)) (is_child rows q) place 0 (length rows) (omega arith)
      (omega (arith, is.inside)) (λ x below. child_same q x (omega (arith, below))))

  pub longer-IsCarried : IsCarried rows longer place number (later place)
  longer-IsCarried = record {
    numbers = is.numbers;
    faces = later_number;
    deeper = λ x below deeper. omega (arith, deeper, is.upward x);
    parents = is.parents;
    weights = is.weights;
    demands = is.demands;
    limits = is.limits;
    children = λ q below. child_parts q;
  }
