-- The numbers of a longer list's groups: inserted rows, filtered ranges, lists joined from two
-- parts.
use Rattle.std.proofs.Common.{◌≡◌, ℕ, zero, suc, ◌+◌, ◌-◌, ◌<◌, ◌≤◌, List, [], ◌∷◌, ◌++◌, Bool}
use Rattle.std.proofs.Common.{Option, None, Some, cond, true, false, length, get_or, refl, ap}
use Rattle.std.proofs.Common.{sym, subst, ◌∙◌, arith}
use Rattle.std.proofs.Common.{◌⊎◌, inl, inr, eqb}
use Rattle.std.specs.Prelude.{filter, insert, map, remove, sum}
use Rattle.std.specs.List.{range_with_len}
use Rattle.std.proofs.lemmas.Bool.{cases_eq, cases_lt, cases_Bool, lt-ltb, le-ltb, eq-eqb, ne_eqb}
use Rattle.std.specs.Option.{option_map}
use Rattle.std.proofs.lemmas.Option.{same_Some}
use Rattle.std.proofs.lemmas.List.{ext_get_or}
use Rattle.std.proofs.lemmas.List.Edits.{length-insert, get_or-insert_below, get_or-insert_at}
use Rattle.std.proofs.lemmas.List.Edits.{get_or-insert_above}
use Rattle.std.proofs.lemmas.List.Sums.{sum_by-append, sum_by-cons}
use Rattle.bw_model.specs.Split.{IsBestSplit}
use Rattle.bw_questions.specs.changes.OneSplit.{AreWeighted}
use Rattle.bw_questions.proofs.changes.Removed.{rest_stays}
use Rattle.bw_questions.specs.changes.Places.{later}

pub later-below : (k x : ℕ) → x < k → later k x ≡ x
unfolding later
later-below k x below = rw (lt-ltb x k below) refl

pub later-from : (k x : ℕ) → k ≤ x → later k x ≡ x + 1
unfolding later
later-from k x from = rw (le-ltb x k from) refl

pub later-le : (k x : ℕ) → x ≤ later k x
later-le k x = elim (cases_lt x k) [
  | inl below ↦ omega (arith, later-below k x below)
  | inr from ↦ omega (arith, later-from k x from)
]

pub later-in : (k x n : ℕ) → x < n → later k x < suc n
later-in k x n inside = elim (cases_lt x k) [
  | inl below ↦ omega (arith, later-below k x below, inside)
  | inr from ↦ omega (arith, later-from k x from, inside)
]

-- The place itself is nobody's number.
pub later-free : (k x : ℕ) → later k x ≡ k → ⊥
later-free k x here = elim (cases_lt x k) [
  | inl below ↦ omega (arith, later-below k x below, here, below)
  | inr from ↦ omega (arith, later-from k x from, here, from)
]

pub later_taken : (k : ℕ) (o : Option ℕ) → option_map (later k) o ≡ Some k → ⊥
later_taken k None e = let clash : None ≡ Some k = e in cc
later_taken k (Some p) e = later-free k p (same_Some (later k p) k e)

later-one : (k x y : ℕ) → later k x ≡ later k y → x ≡ y
later-one k x y same = elim (cases_lt x k) [
  | inl low ↦ elim (cases_lt y k) [
    | inl below ↦ omega (arith, same, later-below k x low, later-below k y below)
    | inr from ↦ omega (arith, same, low, from, later-below k x low, later-from k y from)
  ]
  | inr high ↦ elim (cases_lt y k) [
    | inl below ↦ omega (arith, same, high, below, later-from k x high, later-below k y below)
    | inr from ↦ omega (arith, same, later-from k x high, later-from k y from)
  ]
]

pub later-alike : (k x y : ℕ) → eqb (later k x) (later k y) ≡ eqb x y
later-alike k x y = elim (cases_eq x y) [
  | inl same ↦ eq-eqb (later k x) (later k y) (ap (later k) same) ∙ sym (eq-eqb x y same)
  | inr other ↦
      ne_eqb (later k x) (later k y) (λ e. other (later-one k x y e)) ∙ sym (ne_eqb x y other)
]

-- Each number but one is the same whether the numbers go up from it or from the next.
pub later-beside : (k x : ℕ) → (x ≡ k → ⊥) → later (k + 1) x ≡ later k x
later-beside k x other = elim (cases_lt x k) [
  | inl below ↦ later-below (k + 1) x (omega (arith, below)) ∙ sym (later-below k x below)
  | inr from ↦
      later-from (k + 1) x (omega (arith, from, other)) ∙ sym (later-from k x from)
]

later_back_high : (k n i : ℕ) → i < suc n → k < i → (x : ℕ) × (x < n) × (later k x ≡ i)
later_back_high k n zero below after = absurd (omega (arith, after))
later_back_high k n (suc i) below after =
    (i, omega (arith, below), later-from k i (omega (arith, after)) ∙ omega arith)

-- Each number but the place is the later number of one group.
pub later_back : (k n i : ℕ) → i < suc n → (i ≡ k → ⊥) → k ≤ n
    → (x : ℕ) × (x < n) × (later k x ≡ i)
later_back k n i below beside inside = elim (cases_lt i k) [
  | inl low ↦ (i, omega (arith, low, inside), later-below k i low)
  | inr high ↦ later_back_high k n i below (omega (arith, high, beside))
]

pub inserted_old : {X : Type 0} (xs : List X) (k : ℕ) (y d : X) (x : ℕ) → k ≤ length xs
    → get_or (insert xs k y) (later k x) d ≡ get_or xs x d
inserted_old xs k y d x inside = elim (cases_lt x k) [
  | inl below ↦
      ap (λ i. get_or (insert xs k y) i d) (later-below k x below)
      ∙ get_or-insert_below xs k y d x below inside
  | inr from ↦
      ap (λ i. get_or (insert xs k y) i d) (later-from k x from)
      ∙ get_or-insert_above xs k y d x from inside
]

map_cond : (f : ℕ → ℕ) (b : Bool) (x y : ℕ) (xs ys : List ℕ) → y ≡ f x → ys ≡ map f xs
    → cond b (y ∷ ys) ys ≡ map f (cond b (x ∷ xs) xs)
map_cond f true x y xs ys first rest = cc
map_cond f false x y xs ys first rest = rest

-- A range after the place, each number one more than before.
filter_after : (p q : ℕ → Bool) (k a m : ℕ) → k ≤ a
    → ((x : ℕ) → x < a + m → p (later k x) ≡ q x)
    → filter p (range_with_len (a + 1) m) ≡ map (later k) (filter q (range_with_len a m))
filter_after p q k a zero from same = refl
filter_after p q k a (suc m) from same =
    let here : p (a + 1) ≡ q a = ap p (sym (later-from k a from)) ∙ same a (omega arith) in
    rw here
    (map_cond (later k) (q a) a (a + 1) (filter q (range_with_len (a + 1) m))
    (filter p (range_with_len (a + 1 + 1) m)) (sym (later-from k a from))
    (filter_after p q k (a + 1) m (omega (arith, from))
    (λ x below. same x (omega (arith, below)))))

cond_front : (b : Bool) (k : ℕ) (xs ys : List ℕ) → xs ≡ ys
    → cond b (k ∷ xs) xs ≡ cond b (k ∷ []) [] ++ ys
cond_front true k xs ys same = ap (λ zs. k ∷ zs) same
cond_front false k xs ys same = same

-- A filtered range in two parts, and that of the longer range with the place between them.
abbrev pub AreParts : (ℕ → Bool) → (ℕ → Bool) → ℕ → ℕ → ℕ → Type 0
AreParts p q k a m = (left : List ℕ) × (right : List ℕ)
    × (filter q (range_with_len a m) ≡ left ++ right)
    × (filter p (range_with_len a (suc m))
    ≡ map (later k) left ++ (cond (p k) (k ∷ []) [] ++ map (later k) right))

parts_here : (p q : ℕ → Bool) (k m : ℕ) → ((x : ℕ) → x < k + m → p (later k x) ≡ q x)
    → AreParts p q k k m
parts_here p q k m same = (
  [],
  filter q (range_with_len k m),
  refl,
  cond_front (p k) k (filter p (range_with_len (k + 1) m))
      (map (later k) (filter q (range_with_len k m)))
      (filter_after p q k k m (omega arith) same),
)

parts_step : (p q : ℕ → Bool) (k a m : ℕ) → a < k → p a ≡ q a → AreParts p q k (a + 1) m
    → AreParts p q k a (suc m)
parts_step p q k a m below same rest = elim (cases_Bool (q a)) [
  | inl kept ↦ (
    a ∷ rest.0,
    rest.1,
    rw kept (ap (λ xs. a ∷ xs) rest.2),
    rw (same, kept, later-below k a below) (ap (λ xs. a ∷ xs) rest.3),
  )
  | inr left_out ↦ (rest.0, rest.1, rw left_out rest.2, rw (same, left_out) rest.3)
]

pub parts : (p q : ℕ → Bool) (k a m : ℕ) → a ≤ k → k ≤ a + m
    → ((x : ℕ) → x < a + m → p (later k x) ≡ q x) → AreParts p q k a m
parts p q k a zero low high same =
    let here : k ≡ a = omega (arith, low, high) in
    subst (λ b. AreParts p q k b 0) here
    (parts_here p q k zero (λ x below. same x (omega (arith, below, here))))
parts p q k a (suc m) low high same = elim (cases_eq k a) [
  | inl here ↦
      subst (λ b. AreParts p q k b (suc m)) here
      (parts_here p q k (suc m) (λ x below. same x (omega (arith, below, here))))
  | inr other ↦
      let less : a < k = omega (arith, low, other) in
      parts_step p q k a m less (ap p (sym (later-below k a less)) ∙ same a (omega arith))
      (parts p q k (a + 1) m (omega (arith, less)) (omega (arith, high))
      (λ x below. same x (omega (arith, below))))
]

pub map-map : (f h : ℕ → ℕ) (xs : List ℕ) → map f (map h xs) ≡ map (λ x. f (h x)) xs
map-map f h [] = refl
map-map f h (x ∷ xs) = ap (λ rest. f (h x) ∷ rest) (map-map f h xs)

pub filter_no : (xs : List ℕ) → filter (λ _. false) xs ≡ []
filter_no [] = refl
filter_no (x ∷ xs) = filter_no xs

pub both_empty : (xs ys : List ℕ) → xs ++ ys ≡ [] → (xs ≡ []) × (ys ≡ [])
both_empty [] ys e = (refl, e)
both_empty (x ∷ xs) ys e = absurd (let clash : x ∷ (xs ++ ys) ≡ [] = e in cc)

remove_between : (xs ys : List ℕ) (x : ℕ) → remove (xs ++ x ∷ ys) (length xs) ≡ xs ++ ys
remove_between [] ys x = refl
remove_between (y ∷ xs) ys x = ap (λ rest. y ∷ rest) (remove_between xs ys x)

between_at : (xs ys : List ℕ) (x : ℕ) → get_or (xs ++ x ∷ ys) (length xs) 0 ≡ x
between_at [] ys x = refl
between_at (y ∷ xs) ys x = between_at xs ys x

between_in : (xs ys : List ℕ) (x : ℕ) → length xs < length (xs ++ x ∷ ys)
between_in [] ys x = omega arith
between_in (y ∷ xs) ys x = omega (arith, between_in xs ys x)

-- Nothing between two parts adds nothing.
pub sum_between : (b : Bool) (xs ys : List ℕ) (x : ℕ) → (b ≡ false) ⊎ (x ≡ 0)
    → sum (xs ++ (cond b (x ∷ []) [] ++ ys)) ≡ sum (xs ++ ys)
sum_between false xs ys x nothing = refl
sum_between true xs ys x (inl clash) = absurd (let no_more : true ≡ false = clash in cc)
sum_between true xs ys x (inr none) =
    omega (
      arith,
      sum_by-append (λ y. y) xs (x ∷ ys),
      sum_by-append (λ y. y) xs ys,
      sum_by-cons (λ y. y) x ys,
      none,
    )

-- Without a child between the others that can be given nothing, their parts are the best split.
without_one : (amount : ℕ) (ws wt ms mt ps pt : List ℕ) (w p : ℕ)
    → length ws ≡ length ps → length ms ≡ length ps → AreWeighted (ws ++ w ∷ wt) (ms ++ 0 ∷ mt)
    → IsBestSplit amount (ws ++ w ∷ wt) (ms ++ 0 ∷ mt) (ps ++ p ∷ pt)
    → IsBestSplit amount (ws ++ wt) (ms ++ mt) (ps ++ pt)
without_one amount ws wt ms mt ps pt w p ews ems weighted best =
    let at_weight : remove (ws ++ w ∷ wt) (length ps) ≡ ws ++ wt =
    ap (remove (ws ++ w ∷ wt)) (sym ews) ∙ remove_between ws wt w in
    let at_most : remove (ms ++ 0 ∷ mt) (length ps) ≡ ms ++ mt =
    ap (remove (ms ++ 0 ∷ mt)) (sym ems) ∙ remove_between ms mt 0 in
    let none : get_or (ms ++ 0 ∷ mt) (length ps) 0 ≡ 0 =
    ap (λ k. get_or (ms ++ 0 ∷ mt) k 0) (sym ems) ∙ between_at ms mt 0 in
    let within : get_or (ps ++ p ∷ pt) (length ps) 0 ≤ get_or (ms ++ 0 ∷ mt) (length ps) 0 =
    best.split.within (length ps) (between_in ps pt p) in
    let whole : amount - get_or (ps ++ p ∷ pt) (length ps) 0 ≡ amount =
    omega (arith, within, none) in
    rw (whole, at_weight, at_most, remove_between ps pt p) at
    (rest_stays amount (ws ++ w ∷ wt) (ms ++ 0 ∷ mt) (ps ++ p ∷ pt) (length ps) weighted
    (between_in ps pt p) best)

-- So it is with a child that may be there or not.
pub split_between : (b : Bool) (amount : ℕ) (ws wt ms mt ps pt : List ℕ) (w m p : ℕ)
    → (b ≡ false) ⊎ (m ≡ 0) → length ws ≡ length ps → length ms ≡ length ps
    → AreWeighted (ws ++ (cond b (w ∷ []) [] ++ wt)) (ms ++ (cond b (m ∷ []) [] ++ mt))
    → IsBestSplit amount (ws ++ (cond b (w ∷ []) [] ++ wt)) (ms ++ (cond b (m ∷ []) [] ++ mt))
    (ps ++ (cond b (p ∷ []) [] ++ pt))
    → IsBestSplit amount (ws ++ wt) (ms ++ mt) (ps ++ pt)
split_between false amount ws wt ms mt ps pt w m p nothing ews ems weighted best = best
split_between true amount ws wt ms mt ps pt w m p (inl clash) ews ems weighted best =
    absurd (let no_more : true ≡ false = clash in cc)
split_between true amount ws wt ms mt ps pt w m p (inr none) ews ems weighted best =
    without_one amount ws wt ms mt ps pt w p ews ems (rw none at weighted) (rw none at best)

-- A list that has the numbers of another one at their later places, and one number at the place.
pub inserted_whole : (xs ys : List ℕ) (k y : ℕ) → length ys ≡ suc (length xs) → k ≤ length xs
    → ((x : ℕ) → x < length xs → get_or ys (later k x) 0 ≡ get_or xs x 0)
    → get_or ys k 0 ≡ y → ys ≡ insert xs k y
inserted_whole xs ys k y more inside same here =
    ext_get_or 0 ys (insert xs k y) (omega (arith, more, length-insert xs k y inside))
    (λ i below. elim (cases_eq i k) [
      | inl at_place ↦ rw at_place (here ∙ sym (get_or-insert_at xs k y 0 inside))
      | inr beside ↦
          let old : (x : ℕ) × (x < length xs) × (later k x ≡ i) =
          later_back k (length xs) i (omega (arith, below, more)) beside inside in
          ap (λ j. get_or ys j 0) (sym old.2) ∙ same old.0 old.1
          ∙ sym (inserted_old xs k y 0 old.0 inside)
          ∙ ap (λ j. get_or (insert xs k y) j 0) old.2
    ])
