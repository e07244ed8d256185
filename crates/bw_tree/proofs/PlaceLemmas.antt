-- A group at its place: read, written and removed there.
use Rattle.std.proofs.Common.{◌≡◌, ℕ, zero, suc, ◌<◌, Bool, true, false, cond, List, [], ◌∷◌}
use Rattle.std.proofs.Common.{length, slice_get}
use Rattle.std.proofs.Common.{get_or, Option, Some, None, position, refl, sym, ap, ◌∙◌, eqb, arith}
use Rattle.std.proofs.Common.{◌+◌, is_some, ltb, not}
use Rattle.std.proofs.lemmas.Bool.{lt-ltb, eqb-true}
use Rattle.std.proofs.lemmas.Bool.Decides.{nat_tests}
use Rattle.std.specs.List.{position_or_len}
use Rattle.std.specs.Prelude.{slice_set}
use Rattle.std.proofs.lemmas.List.{length-map, get_or-map, get_or_default}
use Rattle.std.proofs.lemmas.Option.{get_or_from_slice_get}
use Rattle.std.proofs.lemmas.List.Quantifiers.{position-Some}
use Rattle.std.specs.Map.{keys_of, values_of, set_value}
use Rattle.indexmap.specs.IndexMap.{set_value_at}
use Rattle.bw_tree.specs.Groups.{GroupFields, group_at, has_group}
use Rattle.bw_tree.specs.Tree.{changed, changed_at}

-- where an id stands, and that it does not stand before
pub record StandsAt (gs : List (ℕ × GroupFields)) (id i : ℕ) : Type 0 where
  pub here : eqb id (get_or (keys_of gs) i 0) ≡ true
  pub before : (k : ℕ) → k < i → eqb id (get_or (keys_of gs) k 0) ≡ false
  pub within : i < length gs

pub stands_at : (gs : List (ℕ × GroupFields)) (id i : ℕ)
    → position (eqb id) (keys_of gs) ≡ Some i → StandsAt gs id i
stands_at gs id i at =
    let first = position-Some (eqb id) (keys_of gs) i 0 at in
    record {
      here = first.1;
      before = first.2;
      within = omega (arith, first.0, length-map gs (λ (e : ℕ × GroupFields). e.0));
    }

-- what is read there is its group
pub key_there : (gs : List (ℕ × GroupFields)) (id i : ℕ) (d : ℕ × GroupFields) → StandsAt gs id i
    → (get_or gs i d).0 ≡ id
key_there gs id i d at =
    sym (eqb-true id (get_or gs i d).0
    (ap (eqb id) (sym (get_or-map (λ (e : ℕ × GroupFields). e.0) gs i d 0 at.within))
    ∙ at.here))

pub stands_later : (e : ℕ × GroupFields) (es : List (ℕ × GroupFields)) (id i : ℕ)
    → StandsAt (e ∷ es) id (suc i) → StandsAt es id i
stands_later e es id i at = record {
  here = at.here;
  before = λ k lt. at.before (suc k) (omega (arith, lt));
  within = omega (arith, at.within);
}

-- an id has a place where there is a group with it
next_to : (a b : ℕ) → ltb (1 + a) (suc b) ≡ ltb a b
next_to a b = grind (arith, nat_tests)

placed : (gs : List (ℕ × GroupFields)) (id : ℕ)
    → ltb (position_or_len (eqb id) (keys_of gs)) (length (keys_of gs)) ≡ has_group gs id
placed [] id = refl
placed (e ∷ es) id = onto (eqb id e.0) (placed es id)
  where
    onto : (b : Bool)
        → ltb (position_or_len (eqb id) (keys_of es)) (length (keys_of es)) ≡ has_group es id
        → ltb (cond (not b) (1 + position_or_len (eqb id) (keys_of es)) 0)
        (suc (length (keys_of es))) ≡ is_some (cond b (Some e.1) (group_at es id))
    onto true rest = lt-ltb 0 (suc (length (keys_of es))) (omega arith)
    onto false rest =
        next_to (position_or_len (eqb id) (keys_of es)) (length (keys_of es)) ∙ rest

some_if : (b : Bool) (n : ℕ) → is_some (cond b (Some n) None) ≡ b
some_if true n = refl
some_if false n = refl

pub some_place : (gs : List (ℕ × GroupFields)) (id : ℕ)
    → is_some (position (eqb id) (keys_of gs)) ≡ has_group gs id
some_place gs id =
    some_if (ltb (position_or_len (eqb id) (keys_of gs)) (length (keys_of gs)))
    (position_or_len (eqb id) (keys_of gs)) ∙ placed gs id

-- a change past an entry with another id leaves that entry
changed_past : (f : GroupFields → GroupFields) (e : ℕ × GroupFields) (es : List (ℕ × GroupFields))
    (id : ℕ) (o : Option GroupFields) → eqb id e.0 ≡ false
    → changed f (e ∷ es) id o ≡ e ∷ changed f es id o
changed_past f e es id None apart = refl
changed_past f e es id (Some g) apart =
    ap (λ b. cond b ((e.0, f g) ∷ es) (e ∷ set_value (eqb id) es (f g))) apart

-- what is written at the place is written by its id
written_there : (f : GroupFields → GroupFields) (gs : List (ℕ × GroupFields)) (id i : ℕ)
    (x : ℕ × GroupFields) → StandsAt gs id i → x ≡ get_or gs i x
    → slice_set gs i (x.0, f x.1) ≡ changed_at f gs id
written_there f [] id i x at is = absurd (omega (arith, at.within))
written_there f (e ∷ es) id zero x at is =
    ap (λ (y : ℕ × GroupFields). (y.0, f y.1) ∷ es) is
    ∙ sym (ap (λ b. changed f (e ∷ es) id (cond b (Some e.1) (group_at es id))) at.here
    ∙ ap (λ b. cond b ((e.0, f e.1) ∷ es) (e ∷ set_value (eqb id) es (f e.1))) at.here)
written_there f (e ∷ es) id (suc i) x at is =
    let apart : eqb id e.0 ≡ false = at.before 0 (omega arith) in
    ap (λ (xs : List (ℕ × GroupFields)). e ∷ xs)
    (written_there f es id i x (stands_later e es id i at) is)
    ∙ sym (ap (λ b. changed f (e ∷ es) id (cond b (Some e.1) (group_at es id))) apart
    ∙ changed_past f e es id (group_at es id) apart)

pub written_place : (f : GroupFields → GroupFields) (gs : List (ℕ × GroupFields)) (id i : ℕ)
    (x : ℕ × GroupFields) → position (eqb id) (keys_of gs) ≡ Some i → x ≡ get_or gs i x
    → slice_set gs i (x.0, f x.1) ≡ changed_at f gs id
written_place f gs id i x place is = written_there f gs id i x (stands_at gs id i place) is

-- a value that is read at a place: its entry there, and what a write at the place makes of it
pub record ValueAt (gs : List (ℕ × GroupFields)) (i : ℕ) (g : GroupFields) : Type 0 where
  pub id : ℕ
  pub read : (id, g) ≡ get_or gs i (id, g)
  pub written : (h : GroupFields) → set_value_at gs i h ≡ slice_set gs i (id, h)

value_set : (gs : List (ℕ × GroupFields)) (i : ℕ) (h : GroupFields) (d : ℕ × GroupFields)
    → set_value_at gs i h ≡ slice_set gs i ((get_or gs i d).0, h)
value_set [] i h d = refl
value_set (e ∷ es) zero h d = refl
value_set (e ∷ es) (suc i) h d = ap (λ (xs : List (ℕ × GroupFields)). e ∷ xs) (value_set es i h d)

pub value_there : (gs : List (ℕ × GroupFields)) (i : ℕ) (g : GroupFields) → i < length gs
    → slice_get (values_of gs) i ≡ Some g → ValueAt gs i g
value_there gs i g within at =
    let x : ℕ × GroupFields = get_or gs i (0, g) in
    let value : x.1 ≡ g = sym (get_or-map (λ (e : ℕ × GroupFields). e.1) gs i (0, g) g within)
    ∙ get_or_from_slice_get (values_of gs) i g g at in
    record {
      id = x.0;
      read = sym (ap (λ (h : GroupFields). (x.0, h)) value)
          ∙ get_or_default gs i (0, g) (x.0, g) within;
      written = λ h. value_set gs i h (0, g);
    }

pub written_value : (f : GroupFields → GroupFields) (gs : List (ℕ × GroupFields)) (id i : ℕ)
    (g : GroupFields) → position (eqb id) (keys_of gs) ≡ Some i
    → slice_get (values_of gs) i ≡ Some g → set_value_at gs i (f g) ≡ changed_at f gs id
written_value f gs id i g place at =
    let there = value_there gs i g (stands_at gs id i place).within at in
    there.written (f g) ∙ written_place f gs id i (there.id, g) place there.read
