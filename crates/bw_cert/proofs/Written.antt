-- Lines as they are put together.
use Rattle.std.proofs.Common.{◌≡◌, ℕ, ◌+◌, ◌<◌, ◌≤◌, ◌^◌, inl, inr, Bool, List, [], ◌∷◌, ◌++◌}
use Rattle.std.proofs.Common.{length, get_or, map, drop, Option, None, refl, sym, ap, subst}
use Rattle.std.proofs.Common.{◌∙◌, append_assoc, arith}
use Rattle.std.specs.Prelude.{codes, IfSome}
use Rattle.std.specs.List.{flat_map, All}
use Rattle.std.specs.Option.{option_map}
use Rattle.std.proofs.lemmas.List.{drop_more, drop_all, append-nil, get_or_default, get_or-map}
use Rattle.std.proofs.lemmas.List.{length-map}
use Rattle.std.proofs.lemmas.Bool.{cases_lt}
use Rattle.bw_model.specs.declared.row.Row.{Row}
use Rattle.bw_model.specs.declared.mark.Mark.{Mark}
use Rattle.bw_model.specs.Marks.{price_of}
use Rattle.bw_cert.specs.Spelling.{line, group_words, groups_words, IsSmallRow, IsSmallLevel}

pub head_text : (old p us s n : List ℕ)
    → ((((((((old ++ codes "bw 1 ") ++ p) ++ codes " ") ++ us) ++ codes " ") ++ s) ++ codes " ")
    ++ n) ++ codes "\n"
    ≡ old ++ line (codes "bw" ∷ codes "1" ∷ p ∷ us ∷ s ∷ n ∷ [])
head_text old p us s n = simp append_assoc

pub group_text : (p w l d a f m : List ℕ)
    → (p ++ codes " " ++ w ++ codes " " ++ l ++ codes " " ++ d ++ codes " ")
    ++ (a ++ 32 ∷ (f ++ 32 ∷ (m ++ 10 ∷ [])))
    ≡ line (p ∷ w ∷ l ∷ d ∷ a ∷ f ∷ m ∷ [])
group_text p w l d a f m = simp append_assoc

-- the lines from a group on
abbrev pub rest_text : List Row → List ℕ → List Bool → List (Option Mark) → ℕ → List ℕ
rest_text rows amounts flags levels i =
    flat_map line
    (groups_words (drop i rows) (drop i amounts) (drop i flags)
    (map (option_map price_of) (drop i levels)))

at_front : {A : Type 0} (xs : List A) (i : ℕ) (x d : A) → i < length xs → x ≡ get_or xs i d
    → drop i xs ≡ x ∷ drop (i + 1) xs
at_front {A} xs i x d lt e = drop_more xs i d lt ∙ ap (λ (y : A). y ∷ drop (i + 1) xs) (sym e)

pub rest_step : (rows : List Row) (amounts : List ℕ) (flags : List Bool)
    (levels : List (Option Mark)) (i : ℕ) (r d1 : Row) (a d2 : ℕ) (f d3 : Bool)
    (m d4 : Option Mark)
    → i < length rows → i < length amounts → i < length flags → i < length levels
    → r ≡ get_or rows i d1 → a ≡ get_or amounts i d2 → f ≡ get_or flags i d3
    → m ≡ get_or levels i d4
    → rest_text rows amounts flags levels i ≡ line (group_words r a f (option_map price_of m))
    ++ rest_text rows amounts flags levels (i + 1)
rest_step rows amounts flags levels i r d1 a d2 f d3 m d4 l1 l2 l3 l4 e1 e2 e3 e4 =
    rw (
      at_front rows i r d1 l1 e1,
      at_front amounts i a d2 l2 e2,
      at_front flags i f d3 l3 e3,
      at_front levels i m d4 l4 e4,
    ) refl

-- one line more
pub written_more : (old new text rest after whole : List ℕ) → new ≡ old ++ text
    → rest ≡ text ++ after → old ++ rest ≡ whole → new ++ after ≡ whole
written_more old new text rest after whole e f g =
    rw e (append_assoc old text after ∙ ap (λ (t : List ℕ). old ++ t) (sym f) ∙ g)

pub written_all : (old rest whole : List ℕ) → rest ≡ [] → old ++ rest ≡ whole → old ≡ whole
written_all old rest whole e f = sym (append-nil old) ∙ ap (λ (t : List ℕ). old ++ t) (sym e) ∙ f

pub rest_none : (rows : List Row) (amounts : List ℕ) (flags : List Bool)
    (levels : List (Option Mark)) (i : ℕ) → length rows ≤ i
    → rest_text rows amounts flags levels i ≡ []
rest_none rows amounts flags levels i le = rw (drop_all i rows le) refl

-- what holds of the first elements of a list
abbrev pub AllFirst : {A : Type 0} → (A → Type 0) → List A → ℕ → Type 0
AllFirst {A} P xs i = (k : ℕ) (d : A) → k < i → k < length xs → P (get_or xs k d)

pub first_none : {A : Type 0} (P : A → Type 0) (xs : List A) → AllFirst P xs 0
first_none P xs k d lt within = absurd (omega (arith, lt))

-- one element more
pub first_more : {A : Type 0} (P : A → Type 0) (xs : List A) (i : ℕ) (x d : A) → x ≡ get_or xs i d
    → P x → AllFirst P xs i → AllFirst P xs (i + 1)
first_more {A} P xs i x d e p before k d' lt within =
    elim (cases_lt k i) [
      | inl early ↦ before k d' early within
      | inr late ↦
          let same : k ≡ i = omega (arith, lt, late) in
          let here : get_or xs k d' ≡ x =
          get_or_default xs k d' d within ∙ ap (λ (j : ℕ). get_or xs j d) same ∙ sym e in
          subst P (sym here) p
    ]

pub first_all : {A : Type 0} (P : A → Type 0) (xs : List A) (i : ℕ) → length xs ≤ i
    → AllFirst P xs i → All P xs
first_all P xs i le first k d lt = first k d (omega (arith, le, lt)) lt

-- the level of a mark
abbrev pub IsSmallMark : Option Mark → Type 0
IsSmallMark mark = IfSome (option_map price_of mark) IsSmallLevel

pub all_levels : (levels : List (Option Mark)) → All IsSmallMark levels
    → All (λ o. IfSome o IsSmallLevel) (map (option_map price_of) levels)
all_levels levels small k d lt =
    let within : k < length levels = omega (arith, lt, length-map levels (option_map price_of)) in
    let here : get_or (map (option_map price_of) levels) k d
    ≡ option_map price_of (get_or levels k None) =
    get_or-map (option_map price_of) levels k None d within in
    subst (λ o. IfSome o IsSmallLevel) (sym here) (small k None within)

-- the numbers of the first groups are small
pub record AreSmall (rows : List Row) (amounts : List ℕ) (levels : List (Option Mark)) (i : ℕ)
    : Type 0 where
  pub of_rows : AllFirst IsSmallRow rows i
  pub of_amounts : AllFirst (λ n. n < 2 ^ 64) amounts i
  pub of_levels : AllFirst IsSmallMark levels i
