-- Sums, lists, options and tests of numbers: what the other proofs use, and what stands on none of
-- them.
use Rattle.std.proofs.Common.{◌≡◌, ℕ, zero, suc, ◌+◌, ◌*◌, ◌<◌, ◌≤◌, List, [], ◌∷◌, Bool, cond}
use Rattle.std.proofs.Common.{refl, arith, sym, ap, ◌∙◌, inl, inr, ◌-◌, length, add-one}
use Rattle.std.proofs.Common.{get_or, true, false, Option, None, Some, ◌||◌, eqb, ◌++◌, ◌&&◌}
use Rattle.std.proofs.Common.{true≢false, replicate, bytes_eq}
use Rattle.std.proofs.lemmas.Bool.{cases_eq, cond_both, eq-eqb, eqb-true, or_cases, or_right}
use Rattle.std.proofs.lemmas.Bool.{false_from_ne_true, cases_Bool, or_left, false≢true}
use Rattle.std.specs.Prelude.{sum, sum_by, filter, map}
use Rattle.std.specs.List.{range_with_len, list_any}
use Rattle.std.proofs.lemmas.List.Sums.{sum_by-cons}
use Rattle.std.proofs.Math.Nat.{le_of_mul-le-mul_left}
use Rattle.std.proofs.lemmas.List.Folds.{list_any_at}
use Rattle.std.proofs.lemmas.Slice.Eq.{bytes_eq-Decides}

-- f 0 + f 1 + .. + f (n - 1)
abbrev pub sum_below : ℕ → (ℕ → ℕ) → ℕ
sum_below zero f = 0
sum_below (suc n) f = sum_below n f + f n

pub sum-cons : (x : ℕ) (xs : List ℕ) → sum (x ∷ xs) ≡ x + sum xs
sum-cons x xs = sum_by-cons (λ y. y) x xs

-- the last term apart
pub sum_below-more : (n : ℕ) (f : ℕ → ℕ) → sum_below (n + 1) f ≡ sum_below n f + f n
sum_below-more n f = rw add-one refl

-- the first term apart
pub sum_below-front : (n : ℕ) (f : ℕ → ℕ) → sum_below (suc n) f ≡ f 0 + sum_below n (λ k. f (suc k))
sum_below-front zero f = omega arith
sum_below-front (suc n) f = omega (arith, sum_below-front n f)

-- the sum of a list as the sum over its places
pub sum-is : (xs : List ℕ) → sum xs ≡ sum_below (length xs) (λ k. get_or xs k 0)
sum-is [] = refl
sum-is (x ∷ xs) = sum-cons x xs
    ∙ omega (arith, sum-is xs, sum_below-front (length xs) (λ k. get_or (x ∷ xs) k 0))

-- equal terms have equal sums
pub sum_below-ap : (n : ℕ) (f g : ℕ → ℕ) → ((k : ℕ) → k < n → f k ≡ g k)
    → sum_below n f ≡ sum_below n g
sum_below-ap zero f g e = refl
sum_below-ap (suc n) f g e =
    omega (arith, sum_below-ap n f g (λ k h. e k (omega arith)), e n (omega arith))

pub sum_below-le : (n : ℕ) (f g : ℕ → ℕ) → ((k : ℕ) → k < n → f k ≤ g k)
    → sum_below n f ≤ sum_below n g
sum_below-le zero f g e = omega arith
sum_below-le (suc n) f g e =
    omega (arith, sum_below-le n f g (λ k h. e k (omega arith)), e n (omega arith))

pub sum_below-scaled : (w n : ℕ) (f : ℕ → ℕ) → sum_below n (λ k. w * f k) ≡ w * sum_below n f
sum_below-scaled w zero f = omega arith
sum_below-scaled w (suc n) f = omega (arith, sum_below-scaled w n f)

pub sum_below-zero : (n : ℕ) (f : ℕ → ℕ) → ((k : ℕ) → k < n → f k ≡ 0) → sum_below n f ≡ 0
sum_below-zero zero f e = refl
sum_below-zero (suc n) f e =
    omega (arith, sum_below-zero n f (λ k h. e k (omega arith)), e n (omega arith))

pub sum_below-add : (n : ℕ) (f g : ℕ → ℕ)
    → sum_below n (λ k. f k + g k) ≡ sum_below n f + sum_below n g
sum_below-add zero f g = omega arith
sum_below-add (suc n) f g = omega (arith, sum_below-add n f g)

-- the order of two sums is free
pub sum_below-swap : (m n : ℕ) (f : ℕ → ℕ → ℕ) →
    sum_below m (λ i. sum_below n (λ j. f i j)) ≡ sum_below n (λ j. sum_below m (λ i. f i j))
sum_below-swap zero n f = sym (sum_below-zero n (λ _. 0) (λ _ _. refl))
sum_below-swap (suc m) n f =
    omega (
      arith,
      sum_below-swap m n f,
      sum_below-add n (λ j. sum_below m (λ i. f i j)) (λ j. f m j),
    )

-- one term that is not 0
pub sum_below-one : (n i : ℕ) (f : ℕ → ℕ) → i < n → ((k : ℕ) → k < n → (k ≡ i → ⊥) → f k ≡ 0)
    → sum_below n f ≡ f i
sum_below-one zero i f h e = absurd (omega arith)
sum_below-one (suc n) i f h e = elim (cases_eq n i) [
  | inl same ↦
      let front : sum_below n f ≡ 0 =
      sum_below-zero n f (λ k below. e k (omega arith) (λ eq. omega arith)) in
      rw (← same) (omega (arith, front))
  | inr other ↦
      let front : sum_below n f ≡ f i =
      sum_below-one n i f (omega (arith, other)) (λ k below. e k (omega arith)) in
      let last : f n ≡ 0 = e n (omega arith) other in
      omega (arith, front, last)
]

pub shifted : (f : ℕ → ℕ) (a n : ℕ)
    → sum_below (suc n) (λ k. f (a + k)) ≡ f a + sum_below n (λ k. f (a + 1 + k))
shifted f a n =
    let first : f (a + 0) ≡ f a = ap f (omega arith) in
    omega (
      arith,
      sum_below-front n (λ k. f (a + k)),
      first,
      sum_below-ap n (λ k. f (a + suc k)) (λ k. f (a + 1 + k)) (λ k _. ap f (omega arith)),
    )

sum_by-from : (f : ℕ → ℕ) (a n : ℕ) → sum_by f (range_with_len a n) ≡ sum_below n (λ k. f (a + k))
sum_by-from f a zero = refl
sum_by-from f a (suc n) =
    omega (
      arith,
      sum_by-cons f a (range_with_len (a + 1) n),
      sum_by-from f (a + 1) n,
      shifted f a n,
    )

sum_by-filter : (p : ℕ → Bool) (f : ℕ → ℕ) (xs : List ℕ)
    → sum_by f (filter p xs) ≡ sum_by (λ x. cond (p x) (f x) 0) xs
sum_by-filter p f [] = refl
sum_by-filter p f (x ∷ xs) =
    rw (sum_by-cons (λ y. cond (p y) (f y) 0) x xs)
    (cond_both (p x) (x ∷ filter p xs) (filter p xs)
    (λ v. sum_by f v ≡ cond (p x) (f x) 0 + sum_by (λ y. cond (p y) (f y) 0) xs)
    (λ e. rw e (omega (arith, sum_by-cons f x (filter p xs), sum_by-filter p f xs)))
    (λ e. rw e (omega (arith, sum_by-filter p f xs))))

-- a sum over the numbers below n
pub sum_by-range : (f : ℕ → ℕ) (n : ℕ) → sum_by f (range_with_len 0 n) ≡ sum_below n f
sum_by-range f n = sum_by-from f 0 n ∙ sum_below-ap n (λ k. f (0 + k)) f (λ k _. ap f (omega arith))

-- a sum over those numbers below n that pass the test
pub sum_by-filter_range : (p : ℕ → Bool) (f : ℕ → ℕ) (n : ℕ) →
    sum_by f (filter p (range_with_len 0 n)) ≡ sum_below n (λ k. cond (p k) (f k) 0)
sum_by-filter_range p f n = sum_by-filter p f (range_with_len 0 n)
    ∙ sum_by-range (λ k. cond (p k) (f k) 0) n

-- sums that differ in one term
pub sum_below-change : (n g : ℕ) (f h : ℕ → ℕ) → g < n → ((k : ℕ) → (k ≡ g → ⊥) → f k ≡ h k)
    → sum_below n h + f g ≡ sum_below n f + h g
sum_below-change zero g f h below same = absurd (omega arith)
sum_below-change (suc n) g f h below same = elim (cases_eq n g) [
  | inl last ↦
      let front : sum_below n f ≡ sum_below n h =
      sum_below-ap n f h (λ k b. same k (λ e. omega (arith, e, b, last))) in
      let one : f n ≡ f g = ap f last in
      let two : h n ≡ h g = ap h last in
      omega (arith, front, one, two)
  | inr other ↦
      let rest = sum_below-change n g f h (omega (arith, other)) same in
      let here : f n ≡ h n = same n other in
      omega (arith, rest, here)
]

-- terms that are no more, of which one is less by so much
pub sum_below-left : (n g : ℕ) (f h : ℕ → ℕ) → g < n → ((k : ℕ) → f k ≤ h k)
    → sum_below n f + (h g - f g) ≤ sum_below n h
sum_below-left zero g f h below le = absurd (omega arith)
sum_below-left (suc n) g f h below le = elim (cases_eq n g) [
  | inl last ↦
      let front = sum_below-le n f h (λ k _. le k) in
      let one : f n ≡ f g = ap f last in
      let two : h n ≡ h g = ap h last in
      omega (arith, front, one, two, le g)
  | inr other ↦
      let rest = sum_below-left n g f h (omega (arith, other)) le in
      omega (arith, rest, le n)
]

pub sum_below-term : (n g : ℕ) (f : ℕ → ℕ) → g < n → f g ≤ sum_below n f
sum_below-term zero g f below = absurd (omega arith)
sum_below-term (suc n) g f below = elim (cases_eq n g) [
  | inl last ↦ let one : f n ≡ f g = ap f last in omega (arith, one)
  | inr other ↦ omega (arith, sum_below-term n g f (omega (arith, other)))
]

pub picked_le : (b : Bool) (x y : ℕ) → (b ≡ true → x ≤ y) → cond b x 0 ≤ cond b y 0
picked_le true x y h = h refl
picked_le false x y h = omega arith

pub cond_ap : (b : Bool) (x y : ℕ) → (b ≡ true → x ≡ y) → cond b x 0 ≡ cond b y 0
cond_ap true x y h = h refl
cond_ap false x y h = refl

pub picked_apart : (b c : Bool) (x : ℕ) → (b ≡ true → c ≡ true → ⊥) → cond b (cond c x 0) 0 ≡ 0
picked_apart false c x clash = refl
picked_apart true false x clash = refl
picked_apart true true x clash = absurd (clash refl refl)

pub picked_zero : (b c : Bool) (x : ℕ) → (b ≡ true → x ≡ 0) → cond b (cond c x 0) 0 ≡ 0
picked_zero false c x none = refl
picked_zero true false x none = refl
picked_zero true true x none = none refl

pub picked_same : (b c d : Bool) (x : ℕ) → (b ≡ true → c ≡ d)
    → cond b (cond c x 0) 0 ≡ cond b (cond d x 0) 0
picked_same false c d x e = refl
picked_same true c d x e = rw (e refl) refl

pub cond_zero : (b : Bool) → ◌≡◌ {A = ℕ} (cond b 1 0) 0 → b ≡ false
cond_zero true e = absurd (omega arith)
cond_zero false e = refl

pub cond_one : (b : Bool) → ◌≡◌ {A = ℕ} (cond b 1 0) 1 → b ≡ true
cond_one true e = refl
cond_one false e = absurd (omega arith)

pub cond_same : (b : Bool) → ◌≡◌ {A = ℕ} (cond b 0 0) 0
cond_same true = refl
cond_same false = refl

pub and_yes : (b : Bool) → (b && true) ≡ b
and_yes true = refl
and_yes false = refl

pub and_no : (b : Bool) → (b && false) ≡ false
and_no true = refl
and_no false = refl

pub or_false : (b : Bool) → (b || false) ≡ b
or_false true = refl
or_false false = refl

-- a test that refuses has failed where nothing is refused
pub passed : {F : Type 0} (b : Bool) (f : F) (r : Option F) → cond b (Some f) r ≡ None
    → (b ≡ false) × (r ≡ None)
passed true f r h = cc
passed false f r h = (refl, h)

pub goes_on : {F : Type 0} (b : Bool) (f : F) (r : Option F) → b ≡ false → r ≡ None
    → cond b (Some f) r ≡ None
goes_on true f r h e = absurd (true≢false h)
goes_on false f r h e = e

-- a row whose parent is no number has none
pub no_parent : (o : Option ℕ) → ((x : ℕ) → o ≡ Some x → ⊥) → o ≡ None
no_parent None h = refl
no_parent (Some x) h = absurd (h x refl)

pub cancel_le : (k m n : ℕ) → 0 < k → k * m ≤ k * n → m ≤ n
cancel_le k m n pos h = le_of_mul-le-mul_left h pos

-- a claim that holds at a number where it holds below, holds everywhere
pub strong : (P : ℕ → Type 0) → ((l : ℕ) → ((p : ℕ) → p < l → P p) → P l) → (l : ℕ) → P l
strong P step l = go (suc l) l (omega arith)
  where
    go : (steps m : ℕ) → m < steps → P m
    go zero m h = absurd (omega arith)
    go (suc steps) m h = step m (λ p below. go steps p (omega arith))

-- a claim that holds at a group where it holds at all later ones, holds at all
pub from_the_last : (n : ℕ) (P : ℕ → Type 0) →
    ((g : ℕ) → g < n → ((c : ℕ) → g < c → c < n → P c) → P g) → (g : ℕ) → g < n → P g
from_the_last n P step g h = go n g h (omega arith)
  where
    go : (steps m : ℕ) → m < n → n ≤ m + steps → P m
    go zero m below far = absurd (omega arith)
    go (suc steps) m below far = step m below (λ c after within. go steps c within (omega arith))

-- a test that some number of a range passes
pub list_any-range : (p : ℕ → Bool) (a n k : ℕ) → k < n → p (a + k) ≡ true
    → list_any p (range_with_len a n) ≡ true
list_any-range p a zero k h e = absurd (omega arith)
list_any-range p a (suc n) zero h e =
    let here : p a ≡ true = ap p (omega arith) ∙ e in
    or_left (p a) (list_any p (range_with_len (a + 1) n)) here
list_any-range p a (suc n) (suc k) h e =
    or_right (p a) (list_any p (range_with_len (a + 1) n))
    (list_any-range p (a + 1) n k (omega arith) (ap p (omega arith) ∙ e))

pub some_in_range : (p : ℕ → Bool) (a n : ℕ) → list_any p (range_with_len a n) ≡ true
    → (k : ℕ) × (k < n) × (p (a + k) ≡ true)
some_in_range p a zero e = absurd (false≢true e)
some_in_range p a (suc n) e = elim (or_cases (p a) (list_any p (range_with_len (a + 1) n)) e) [
  | inl h ↦ (0, omega arith, ap p (omega arith) ∙ h)
  | inr h ↦ let more : (k : ℕ) × (k < n) × (p (a + 1 + k) ≡ true) = some_in_range p (a + 1) n h in
      (suc more.0, omega (arith, more.1), ap p (omega arith) ∙ more.2)
]

pub any_from : (t : ℕ → Bool) (xs : List ℕ) (h : ℕ) → list_any (λ x. eqb x h) xs ≡ true → t h ≡ true
    → list_any t xs ≡ true
any_from t [] h e p = e
any_from t (x ∷ xs) h e p = elim (or_cases (eqb x h) (list_any (λ y. eqb y h) xs) e) [
  | inl here ↦ or_left (t x) (list_any t xs) (ap t (eqb-true x h here) ∙ p)
  | inr later ↦ or_right (t x) (list_any t xs) (any_from t xs h later p)
]

pub any_find : (t : ℕ → Bool) (xs : List ℕ) → list_any t xs ≡ true
    → (h : ℕ) × (t h ≡ true) × (list_any (λ x. eqb x h) xs ≡ true)
any_find t [] e = absurd (false≢true e)
any_find t (x ∷ xs) e = elim (or_cases (t x) (list_any t xs) e) [
  | inl here ↦ (x, here, or_left (eqb x x) _ (eq-eqb x x refl))
  | inr later ↦ let r : (h : ℕ) × (t h ≡ true)
      × (list_any (λ x. eqb x h) xs ≡ true) = any_find t xs later in
      (r.0, r.1, or_right (eqb x r.0) _ r.2)
]

pub any-filter : (p q : ℕ → Bool) (xs : List ℕ)
    → list_any q (filter p xs) ≡ list_any (λ x. p x && q x) xs
any-filter p q [] = refl
any-filter p q (x ∷ xs) = elim (cases_Bool (p x)) [
  | inl e ↦ rw e (ap (λ (b : Bool). q x || b) (any-filter p q xs))
  | inr e ↦ rw e (any-filter p q xs)
]

pub same_map : (f h : ℕ → ℕ) (xs : List ℕ)
    → ((k : ℕ) → k < length xs → f (get_or xs k 0) ≡ h (get_or xs k 0)) → map f xs ≡ map h xs
same_map f h [] e = refl
same_map f h (x ∷ xs) e = let head : f x ≡ h x = e 0 (omega arith) in
    let rest : map f xs ≡ map h xs = same_map f h xs (λ k below. e (suc k) (omega arith)) in cc

pub filter_none : (p : ℕ → Bool) (xs : List ℕ)
    → ((k : ℕ) → k < length xs → p (get_or xs k 0) ≡ false) → filter p xs ≡ []
filter_none p [] e = refl
filter_none p (x ∷ xs) e =
    rw (e 0 (omega arith)) (filter_none p xs (λ k h. e (suc k) (omega arith)))

pub range_more : (a n : ℕ) → range_with_len a (n + 1) ≡ range_with_len a n ++ (a + n) ∷ []
range_more a zero = let e : a ≡ a + 0 = omega arith in ap (λ (k : ℕ). k ∷ []) e
range_more a (suc n) =
    let e : suc n + 1 ≡ suc (n + 1) = omega arith in
    ap (λ (k : ℕ). range_with_len a k) e
    ∙ ap (λ xs. a ∷ xs)
    (range_more (a + 1) n ∙ (let same : a + 1 + n ≡ a + suc n =
    omega arith in ap (λ (k : ℕ). range_with_len (a + 1) n ++ k ∷ []) same))

-- a number of a range that passes stands in the filtered range
pub listed : (p : ℕ → Bool) (a n i : ℕ) → i < n → p (a + i) ≡ true →
    (k : ℕ) × (k < length (filter p (range_with_len a n)))
    × (get_or (filter p (range_with_len a n)) k 0 ≡ a + i)
listed p a zero i h e = absurd (omega arith)
listed p a (suc n) zero h e =
    let here : p a ≡ true = ap p (omega arith) ∙ e in
    rw here (0, omega arith, omega arith)
listed p a (suc n) (suc i) h e =
    let r : (k : ℕ) × (k < length (filter p (range_with_len (a + 1) n)))
    × (get_or (filter p (range_with_len (a + 1) n)) k 0 ≡ a + 1 + i) =
    listed p (a + 1) n i (omega arith) (ap p (omega arith) ∙ e) in
    elim (cases_Bool (p a)) [
      | inl yes' ↦ rw yes' (suc r.0, omega (arith, r.1), r.2 ∙ omega arith)
      | inr no' ↦ rw no' (r.0, r.1, r.2 ∙ omega arith)
    ]

-- no element passes, and so each one fails
pub none_at : {X : Type 0} (t : X → Bool) (xs : List X) (i : ℕ) (d : X) → list_any t xs ≡ false
    → i < length xs → t (get_or xs i d) ≡ false
none_at t xs i d none within =
    false_from_ne_true _ (λ e. true≢false (sym (list_any_at t xs i d within e) ∙ none))

-- of the numbers that are all 0
pub zeros : (n k : ℕ) → ◌≡◌ {A = ℕ} (get_or (replicate n 0) k 0) 0
zeros zero k = refl
zeros (suc n) zero = refl
zeros (suc n) (suc k) = zeros n k

pub sum_zeros : (n : ℕ) → sum (replicate n 0) ≡ 0
sum_zeros zero = refl
sum_zeros (suc n) = sum-cons 0 (replicate n 0) ∙ omega (arith, sum_zeros n)

pub sum_none : (xs : List ℕ) → ((k : ℕ) → k < length xs → get_or xs k 0 ≡ 0)
    → ◌≡◌ {A = ℕ} (sum xs) 0
sum_none [] h = refl
sum_none (x ∷ xs) h =
    let head : x ≡ 0 = h 0 (omega arith) in
    let rest : sum xs ≡ 0 = sum_none xs (λ k below. h (suc k) (omega arith)) in
    omega (arith, sum-cons x xs, head, rest)

-- the default is not read within a list
pub get_or_within : (xs : List ℕ) (i d : ℕ) → i < length xs → get_or xs i d ≡ get_or xs i 0
get_or_within [] i d h = absurd (omega arith)
get_or_within (x ∷ xs) zero d h = refl
get_or_within (x ∷ xs) (suc i) d h = get_or_within xs i d (omega arith)

-- two texts that compare equal are one, and a text compares equal to itself
pub bytes_eq-true : (xs ys : List ℕ) → bytes_eq xs ys ≡ true → xs ≡ ys
bytes_eq-true xs ys e = (bytes_eq-Decides xs ys).0 e

pub bytes_eq-self : (xs : List ℕ) → bytes_eq xs xs ≡ true
bytes_eq-self xs = (bytes_eq-Decides xs xs).1 refl

-- what two equal options hold
pub inside : {A : Type 0} {a b : A} → Some a ≡ Some b → a ≡ b
inside e = cc
