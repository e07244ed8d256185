-- The least part of a leaf over the limits at or above it.
use Rattle.std.proofs.Common.{◌≡◌, ℕ, suc, ◌+◌, ◌<◌, ◌≤◌, ◌⊎◌, List, [], ◌∷◌, Option, None, Some}
use Rattle.std.proofs.Common.{true, false, length, get_or, eqb, refl, ap, sym, ◌∙◌, arith, inl, inr}
use Rattle.std.specs.Option.{option_map}
use Rattle.std.specs.List.{list_any}
use Rattle.std.specs.Prelude.{min}
use Rattle.std.proofs.lemmas.Bool.{cases_lt, eq-eqb, eqb-true, or_cases}
use Rattle.std.proofs.lemmas.List.Folds.{list_any_at}
use Rattle.std.proofs.lemmas.Option.{same_Some, none-some}
use Rattle.bw_model.specs.declared.row.Row.{Row}
use Rattle.bw_model.specs.Groups.{AreTreeRows, path_up, is_under}
use Rattle.bw_questions.specs.HeldRule.{own_limit}
use Rattle.bw_questions.specs.Served.{IsLeastPart, lesser}
use Rattle.bw_questions.proofs.Paths.{above_le}

-- The least of the first parts, of which each may be none.
pub record IsLeastOf (part : ℕ → Option ℕ) (count : ℕ) (found : Option ℕ) : Type 0 where
  pub none_less : (k some : ℕ) → k < count → part k ≡ Some some
      → (least : ℕ) × (found ≡ Some least) × (least ≤ some)
  pub is_one : (least : ℕ) → found ≡ Some least → (k : ℕ) × (k < count) × (part k ≡ Some least)

pub least_of_none : (part : ℕ → Option ℕ) → IsLeastOf part 0 None
least_of_none part = record {
  none_less = λ k some below e. absurd (omega (arith, below));
  is_one = λ least e. absurd (none-some least e);
}

-- The lesser of two parts is one of them, and no more than either.
lesser_le_one : (found other : Option ℕ) (some : ℕ) → found ≡ Some some
    → (least : ℕ) × (lesser found other ≡ Some least) × (least ≤ some)
lesser_le_one found None some e = (some, rw e refl, omega arith)
lesser_le_one found (Some other) some e =
    let some_is : lesser found (Some other) ≡ lesser (Some some) (Some other) =
    ap (λ f. lesser f (Some other)) e in
    elim (cases_lt some other) [
      | inl less ↦ (some, some_is ∙ ap Some (omega (arith, less)), omega arith)
      | inr more ↦ (other, some_is ∙ ap Some (omega (arith, more)), omega (arith, more))
    ]

lesser_le_other : (found other : Option ℕ) (some : ℕ) → other ≡ Some some
    → (least : ℕ) × (lesser found other ≡ Some least) × (least ≤ some)
lesser_le_other None other some e = (some, e, omega arith)
lesser_le_other (Some one) other some e =
    let some_is : lesser (Some one) other ≡ lesser (Some one) (Some some) =
    ap (λ o. lesser (Some one) o) e in
    elim (cases_lt one some) [
      | inl less ↦ (one, some_is ∙ ap Some (omega (arith, less)), omega (arith, less))
      | inr more ↦ (some, some_is ∙ ap Some (omega (arith, more)), omega arith)
    ]

lesser_is_one : (found other : Option ℕ) (least : ℕ) → lesser found other ≡ Some least
    → (found ≡ Some least) ⊎ (other ≡ Some least)
lesser_is_one None other least e = inr e
lesser_is_one (Some one) None least e = inl e
lesser_is_one (Some one) (Some other) least e =
    let same : min one other ≡ least = same_Some _ _ e in
    elim (cases_lt one other) [
      | inl less ↦ inl (ap Some (omega (arith, less, same)))
      | inr more ↦ inr (ap Some (omega (arith, more, same)))
    ]

-- One more part.
pub least_of_more : (part : ℕ → Option ℕ) (count : ℕ) (found : Option ℕ)
    → IsLeastOf part count found → IsLeastOf part (count + 1) (lesser found (part count))
least_of_more part count found known = record {
  none_less = λ k some below e. elim (cases_lt k count) [
    | inl before ↦
        let least : (n : ℕ) × (found ≡ Some n) × (n ≤ some) = known.none_less k some before e in
        let less : (n : ℕ) × (lesser found (part count) ≡ Some n) × (n ≤ least.0) =
        lesser_le_one found (part count) least.0 least.1 in
        (less.0, less.1, omega (arith, less.2, least.2))
    | inr last ↦
        let here : k ≡ count = omega (arith, below, last) in
        lesser_le_other found (part count) some (ap part (sym here) ∙ e)
  ];
  is_one = λ least e. elim (lesser_is_one found (part count) least e) [
    | inl before ↦
        let one : (k : ℕ) × (k < count) × (part k ≡ Some least) = known.is_one least before in
        (one.0, omega (arith, one.1), one.2)
    | inr last ↦ (count, omega arith, last)
  ];
}

in_list : (a : ℕ) (path : List ℕ) → list_any (λ h. eqb h a) path ≡ true
    → (k : ℕ) × (k < length path) × (get_or path k 0 ≡ a)
in_list a [] any = absurd (let clash : false ≡ true = any in cc)
in_list a (h ∷ path) any = elim (or_cases (eqb h a) (list_any (λ g. eqb g a) path) any) [
  | inl here ↦ (0, omega arith, eqb-true h a here)
  | inr later ↦
      let at : (k : ℕ) × (k < length path) × (get_or path k 0 ≡ a) = in_list a path later in
      (suc at.0, omega (arith, at.1), at.2)
]

-- The groups on the way up from a leaf are those at or above it.
pub on_the_way : (rows : List Row) (l k : ℕ) → k < length (path_up rows l)
    → is_under rows (get_or (path_up rows l) k 0) l ≡ true
unfolding is_under
on_the_way rows l k below =
    list_any_at (λ h. eqb h (get_or (path_up rows l) k 0)) (path_up rows l) k 0 below
    (eq-eqb (get_or (path_up rows l) k 0) (get_or (path_up rows l) k 0) refl)

pub way_has : (rows : List Row) (a l : ℕ) → is_under rows a l ≡ true
    → (k : ℕ) × (k < length (path_up rows l)) × (get_or (path_up rows l) k 0 ≡ a)
unfolding is_under
way_has rows a l under = in_list a (path_up rows l) under

pub way_within : (rows : List Row) → AreTreeRows rows → (l k : ℕ) → l < length rows
    → k < length (path_up rows l) → get_or (path_up rows l) k 0 < length rows
way_within rows tree l k below k_in =
    let up : get_or (path_up rows l) k 0 ≤ l =
    above_le rows tree (get_or (path_up rows l) k 0) l (on_the_way rows l k k_in) in
    omega (arith, up, below)

some_limit : (limit : Option ℕ) (part : ℕ → ℕ) (least : ℕ) → option_map part limit ≡ Some least
    → (own : ℕ) × (limit ≡ Some own) × (part own ≡ least)
some_limit None part least e = absurd (none-some least e)
some_limit (Some own) part least e = (own, refl, same_Some _ _ e)

-- The least of the parts on the way up is the least part of the leaf.
pub least_on_the_way : (rows : List Row) (part : ℕ → ℕ → ℕ) (l : ℕ) (found : Option ℕ)
    → IsLeastOf (λ k. option_map (part (get_or (path_up rows l) k 0))
    (own_limit rows (get_or (path_up rows l) k 0))) (length (path_up rows l)) found
    → IsLeastPart rows part l found
least_on_the_way rows part l found known = record {
  none_less = λ a limit under e.
      let at : (k : ℕ) × (k < length (path_up rows l)) × (get_or (path_up rows l) k 0 ≡ a) =
      way_has rows a l under in
      known.none_less at.0 (part a limit) at.1
      (ap (λ h. option_map (part h) (own_limit rows h)) at.2 ∙ ap (option_map (part a)) e);
  is_one = λ least e.
      let one : (k : ℕ) × (k < length (path_up rows l))
      × (option_map (part (get_or (path_up rows l) k 0))
      (own_limit rows (get_or (path_up rows l) k 0)) ≡ Some least) = known.is_one least e in
      let own : (limit : ℕ) × (own_limit rows (get_or (path_up rows l) one.0 0) ≡ Some limit)
      × (part (get_or (path_up rows l) one.0 0) limit ≡ least) =
      some_limit (own_limit rows (get_or (path_up rows l) one.0 0))
      (part (get_or (path_up rows l) one.0 0)) least one.2 in
      (get_or (path_up rows l) one.0 0, own.0, on_the_way rows l one.0 one.1, own.1, own.2);
}
