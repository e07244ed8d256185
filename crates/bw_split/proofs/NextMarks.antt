-- The heap that has the next mark of each child with room, and the slices given by it.
use Rattle.std.proofs.Common.{◌≡◌, ℕ, suc, ◌+◌, ◌*◌, ◌<◌, ◌≤◌, List, [], ◌∷◌, false, cond, eqb}
use Rattle.std.proofs.Common.{length, get_or, set, replicate, refl, sym, ap, subst, ◌∙◌}
use Rattle.std.proofs.Common.{arith, inl, inr}
use Rattle.std.specs.Prelude.{sum_by}
use Rattle.std.specs.List.{All}
use Rattle.std.specs.List.Sorted.{IsPermutation}
use Rattle.std.specs.Ordering.{is_lt}
use Rattle.std.specs.BinaryHeap.{IsUpperBound}
use Rattle.std.specs.declared.cmp.Reverse.{Reverse}
use Rattle.std.specs.declared.cmp.Ordering.TheVariants.{Less}
use Rattle.std.specs.declared.cmp.Ordering.{Ordering}
use Rattle.bw_model.specs.MarkOrder.{mark_cmp}
use Rattle.std.proofs.lemmas.Bool.{cases_eq, cases_lt, eq-eqb, ne_eqb}
use Rattle.std.proofs.lemmas.List.{get_or-set_same, get_or-set_other, length-replicate}
use Rattle.std.proofs.lemmas.List.Elements.{All-cons, All-head, All-tail, All-nil, All-weaker}
use Rattle.std.proofs.lemmas.List.Elements.{All-from_recursion}
use Rattle.std.proofs.lemmas.List.Sorted.{All-permutation, sum_by_popped, sum_by_pushed}
use Rattle.std.proofs.lemmas.List.Sums.{sum_by-cons}
use Rattle.std.proofs.Math.ListN.{length-set}
use Rattle.bw_model.specs.declared.mark.Mark.{Mark}
use Rattle.bw_model.specs.Marks.{MarkValue, price_of, next_mark, IsBelow}
use Rattle.bw_model.specs.Split.{IsCheapest}
use Rattle.bw_model.proofs.CallerLemmas.{below_less, zeros, IsBelow-cases}

module _ {X : Type 0} (mark_of : X → Mark) where
  -- 1 for an item of this place
  unfoldable pub at_place : ℕ → X → ℕ
  at_place k x = cond (eqb (mark_of x).place k) 1 0

  at_same : (k : ℕ) (x : X) → (mark_of x).place ≡ k → at_place k x ≡ 1
  unfolding at_place
  at_same k x e = rw (eq-eqb (mark_of x).place k e) refl

  at_other : (k : ℕ) (x : X) → ((mark_of x).place ≡ k → ⊥) → at_place k x ≡ 0
  unfolding at_place
  at_other k x e = rw (ne_eqb (mark_of x).place k e) refl

  -- an item of a place that is counted
  found : (P : X → Type 0) (k : ℕ) (xs : List X) → All P xs → 0 < sum_by (at_place k) xs
      → (x : X) × P x × ((mark_of x).place ≡ k)
  found P k [] all h = absurd (omega arith)
  found P k (x ∷ xs) all h = elim (cases_eq (mark_of x).place k) [
    | inl e ↦ (x, All-head P x xs all, e)
    | inr e ↦ found P k xs (All-tail P x xs all)
        (omega (arith, sum_by-cons (at_place k) x xs, at_other k x e, h))
  ]

  -- no item of a place that is not
  absent : (k : ℕ) (xs : List X) → sum_by (at_place k) xs ≡ 0
      → All (λ x. (mark_of x).place ≡ k → ⊥) xs
  absent k [] z = All-nil (λ x. (mark_of x).place ≡ k → ⊥)
  absent k (x ∷ xs) z = elim (cases_eq (mark_of x).place k) [
    | inl e ↦ absurd (omega (arith, sum_by-cons (at_place k) x xs, at_same k x e, z))
    | inr e ↦ All-cons (λ x. (mark_of x).place ≡ k → ⊥) x xs e
        (absent k xs (omega (arith, sum_by-cons (at_place k) x xs, z)))
  ]

  -- the next mark of a child that has room
  pub record IsNextOf (weights most parts : List ℕ) (x : X) : Type 0 where
    pub within : (mark_of x).place < length parts
    pub room : get_or parts (mark_of x).place 0 < get_or most (mark_of x).place 0
    pub num : (mark_of x).num ≡ 2 * get_or parts (mark_of x).place 0 + 1
    pub den : (mark_of x).den ≡ get_or weights (mark_of x).place 0

  -- the next marks of the first n children, once each where there is room
  pub record IsLined (n : ℕ) (weights most parts : List ℕ) (xs : List X) : Type 0 where
    pub right : All (IsNextOf weights most parts) xs
    pub early : All (λ x. (mark_of x).place < n) xs
    pub once : (k : ℕ) → k < n → get_or parts k 0 < get_or most k 0 → sum_by (at_place k) xs ≡ 1

  pub lined-none : (weights most parts : List ℕ) → IsLined 0 weights most parts []
  lined-none weights most parts = record {
    right = All-nil (IsNextOf weights most parts);
    early = All-nil (λ x. (mark_of x).place < 0);
    once = λ k below. absurd (omega arith);
  }

  none_at : (n : ℕ) (xs : List X) → All (λ x. (mark_of x).place < n) xs → sum_by (at_place n) xs ≡ 0
  none_at n xs early = elim (cases_eq (sum_by (at_place n) xs) 0) [
    | inl z ↦ z
    | inr some ↦ let f = found (λ x. (mark_of x).place < n) n xs early (omega arith) in
        absurd (omega (arith, f.1, f.2))
  ]

  -- one more child without room
  pub lined-full : (n : ℕ) (weights most parts : List ℕ) (xs : List X)
      → IsLined n weights most parts xs →
      get_or most n 0 ≤ get_or parts n 0 → IsLined (n + 1) weights most parts xs
  lined-full n weights most parts xs lined full = record {
    right = lined.right;
    early = All-weaker (λ x. (mark_of x).place < n) (λ x. (mark_of x).place < n + 1)
        (λ x h. omega (arith, h)) xs lined.early;
    once = λ k below room. elim (cases_eq k n) [
      | inl e ↦ absurd
          (let r : get_or parts n 0 < get_or most n 0 = rw e at room in omega (arith, r, full))
      | inr e ↦ lined.once k (omega (arith, e)) room
    ];
  }

  -- one more child with room
  pub lined-more : (n : ℕ) (weights most parts : List ℕ) (xs ys : List X) (x : X)
      → IsLined n weights most parts xs →
      IsNextOf weights most parts x → (mark_of x).place ≡ n → IsPermutation (x ∷ xs) ys
      → IsLined (n + 1) weights most parts ys
  lined-more n weights most parts xs ys x lined next place perm = record {
    right = All-permutation (IsNextOf weights most parts) (x ∷ xs) ys perm
        (All-cons (IsNextOf weights most parts) x xs next lined.right);
    early = All-permutation (λ x. (mark_of x).place < n + 1) (x ∷ xs) ys perm
        (All-cons (λ x. (mark_of x).place < n + 1) x xs (omega (arith, place))
        (All-weaker (λ x. (mark_of x).place < n) (λ x. (mark_of x).place < n + 1)
        (λ x h. omega (arith, h)) xs lined.early));
    once = λ k below room. elim (cases_eq k n) [
      | inl e ↦ rw e
          (omega (
            arith,
            sum_by_pushed (at_place n) x xs ys perm,
            at_same n x place,
            none_at n xs lined.early,
          ))
      | inr e ↦ omega (
        arith,
        sum_by_pushed (at_place k) x xs ys perm,
        at_other k x (λ same. e (sym same ∙ place)),
        lined.once k (omega (arith, e)) room,
      )
    ];
  }

  price-is : (m : Mark) (p w k : ℕ) → m.num ≡ 2 * p + 1 → m.den ≡ w → m.place ≡ k
      → price_of m ≡ next_mark p w k
  price-is m p w k a b c = rw (a, b, c) refl

  module _ (n : ℕ) (weights most parts : List ℕ) (old rest : List X) (x : X)
      (lined : IsLined n weights most parts old)
      (whole : length parts ≡ n) (popped : IsPermutation old (x ∷ rest)) where
    top : IsNextOf weights most parts x
    top = All-head (IsNextOf weights most parts) x rest
        (All-permutation (IsNextOf weights most parts) old (x ∷ rest) popped lined.right)

    pub popped-IsNextOf : IsNextOf weights most parts x
    popped-IsNextOf = top

    -- the least one is of the cheapest child
    pub popped-IsCheapest : All (λ y. IsBelow (price_of (mark_of y)) (price_of (mark_of x)) → ⊥) old
        →
        IsCheapest weights most parts (mark_of x).place
    popped-IsCheapest least = record {
      within = top.within;
      room = top.room;
      least = λ k below apart room.
          let f : (y : X)
          × (IsNextOf weights most parts y
          × (IsBelow (price_of (mark_of y)) (price_of (mark_of x)) → ⊥))
          × ((mark_of y).place ≡ k) =
          found (λ y. IsNextOf weights most parts y
          × (IsBelow (price_of (mark_of y)) (price_of (mark_of x)) → ⊥)) k old
          (λ j d j_in. (lined.right j d j_in, least j d j_in))
          (omega (arith, lined.once k (omega (arith, below, whole)) room)) in
          let y : X = f.0 in
          let next : IsNextOf weights most parts y = f.1.0 in
          let is_x : price_of (mark_of x) ≡ next_mark (get_or parts (mark_of x).place 0)
          (get_or weights (mark_of x).place 0) (mark_of x).place =
          price-is (mark_of x) (get_or parts (mark_of x).place 0)
          (get_or weights (mark_of x).place 0) (mark_of x).place top.num top.den refl in
          let is_y : price_of (mark_of y) ≡ next_mark (get_or parts k 0) (get_or weights k 0) k =
          price-is (mark_of y) (get_or parts k 0) (get_or weights k 0) k
          (next.num ∙ ap (λ (p : ℕ). 2 * get_or parts p 0 + 1) f.2)
          (next.den ∙ ap (λ (p : ℕ). get_or weights p 0) f.2) f.2 in
          elim (IsBelow-cases (price_of (mark_of x)) (price_of (mark_of y))) [
            | inl under ↦
                subst (λ (p : MarkValue). IsBelow p
                (next_mark (get_or parts k 0) (get_or weights k 0) k)) is_x
                (subst (λ (p : MarkValue). IsBelow (price_of (mark_of x)) p) is_y under)
            | inr (inl over) ↦ absurd (f.1.1 over)
            | inr (inr same) ↦ absurd (apart (sym f.2 ∙ sym same.1))
          ];
    }

    gone : sum_by (at_place (mark_of x).place) rest ≡ 0
    gone = omega (
      arith,
      sum_by_popped (at_place (mark_of x).place) x old rest popped,
      at_same (mark_of x).place x refl,
      lined.once (mark_of x).place (omega (arith, top.within, whole)) top.room,
    )

    module _ (v : ℕ) where
      now_right : All (IsNextOf weights most (set parts (mark_of x).place v)) rest
      now_right = λ j d j_in.
          let y : X = get_or rest j d in
          let next : IsNextOf weights most parts y =
          All-tail (IsNextOf weights most parts) x rest
          (All-permutation (IsNextOf weights most parts) old (x ∷ rest) popped lined.right) j d
          j_in in
          let other : (mark_of y).place ≡ (mark_of x).place → ⊥ =
          absent (mark_of x).place rest gone j d j_in in
          let same : get_or (set parts (mark_of x).place v) (mark_of y).place 0
          ≡ get_or parts (mark_of y).place 0 =
          get_or-set_other parts (mark_of x).place (mark_of y).place v 0 other in
          record {
            within = omega (arith, next.within, length-set parts (mark_of x).place v);
            room = rw same next.room;
            num = rw same next.num;
            den = next.den;
          }

      now_early : All (λ y. (mark_of y).place < n) rest
      now_early = All-tail (λ y. (mark_of y).place < n) x rest
          (All-permutation (λ y. (mark_of y).place < n) old (x ∷ rest) popped lined.early)

      now_once : (k : ℕ) → k < n → (k ≡ (mark_of x).place → ⊥)
          → get_or (set parts (mark_of x).place v) k 0 < get_or most k 0 →
          sum_by (at_place k) rest ≡ 1
      now_once k below other room = omega (
        arith,
        sum_by_popped (at_place k) x old rest popped,
        at_other k x (λ same. other (sym same)),
        lined.once k below (rw (get_or-set_other parts (mark_of x).place k v 0 other) at room),
      )

      -- the child is full now
      pub given-full : get_or most (mark_of x).place 0 ≤ v
          → IsLined n weights most (set parts (mark_of x).place v) rest
      given-full full = record {
        right = now_right;
        early = now_early;
        once = λ k below room. elim (cases_eq k (mark_of x).place) [
          | inl e ↦ absurd (
              let r : v < get_or most (mark_of x).place 0 =
              rw (e, get_or-set_same parts (mark_of x).place v 0 top.within) at room in
              omega (arith, r, full)
              )
          | inr other ↦ now_once k below other room
        ];
      }

      -- its next mark goes back
      pub given-room : (z : X) (ys : List X) → v ≡ suc (get_or parts (mark_of x).place 0)
          → v < get_or most (mark_of x).place 0 →
          (mark_of z).num ≡ (mark_of x).num + 2 → (mark_of z).den ≡ (mark_of x).den
          → (mark_of z).place ≡ (mark_of x).place →
          IsPermutation (z ∷ rest) ys → IsLined n weights most (set parts (mark_of x).place v) ys
      given-room z ys is room num den place pushed =
          let at_z : get_or (set parts (mark_of x).place v) (mark_of z).place 0 ≡ v =
          ap (λ (p : ℕ). get_or (set parts (mark_of x).place v) p 0) place
          ∙ get_or-set_same parts (mark_of x).place v 0 top.within in
          let next : IsNextOf weights most (set parts (mark_of x).place v) z = record {
            within = omega (arith, top.within, place, length-set parts (mark_of x).place v);
            room = rw (at_z, place) room;
            num = omega (arith, at_z, num, top.num, is);
            den = rw (den, place) top.den;
          } in
          record {
            right = All-permutation (IsNextOf weights most (set parts (mark_of x).place v))
                (z ∷ rest) ys pushed
                (All-cons (IsNextOf weights most (set parts (mark_of x).place v)) z rest next
                now_right);
            early = All-permutation (λ y. (mark_of y).place < n) (z ∷ rest) ys pushed
                (All-cons (λ y. (mark_of y).place < n) z rest
                (omega (arith, place, top.within, whole)) now_early);
            once = λ k below free. elim (cases_eq k (mark_of x).place) [
              | inl e ↦ rw e
                  (omega (
                    arith,
                    sum_by_pushed (at_place (mark_of x).place) z rest ys pushed,
                    at_same (mark_of x).place z place,
                    gone,
                  ))
              | inr other ↦ omega (
                arith,
                sum_by_pushed (at_place k) z rest ys pushed,
                at_other k z (λ same. other (sym same ∙ place)),
                now_once k below other free,
              )
            ];
          }

-- the mark in an item of the heap, and the heap's order
abbrev pub mark_in : Reverse Mark → Mark
mark_in r = r.0

abbrev pub by_mark : Reverse Mark → Reverse Mark → Ordering
by_mark x y = mark_cmp y.0 x.0

not_below : (m n : Mark) → is_lt (mark_cmp m n) ≡ false → IsBelow (price_of m) (price_of n) → ⊥
not_below m n e h = let less : is_lt (mark_cmp m n) ≡ is_lt Less = ap is_lt (below_less m n h) in cc

-- what the heap says of its greatest item
pub least_of : (x : Reverse Mark) (xs : List (Reverse Mark)) → IsUpperBound by_mark x xs →
    All (λ y. IsBelow (price_of (mark_in y)) (price_of (mark_in x)) → ⊥) xs
least_of x xs h = All-weaker (λ y. is_lt (mark_cmp y.0 x.0) ≡ false)
    (λ y. IsBelow (price_of (mark_in y)) (price_of (mark_in x)) → ⊥)
    (λ y e. not_below y.0 x.0 e) xs
    (All-from_recursion (λ y. is_lt (mark_cmp y.0 x.0) ≡ false) xs h)

-- an empty heap is of children that are full
pub empty-full : (n : ℕ) (weights most parts : List ℕ) (xs : List (Reverse Mark)) → length xs ≡ 0
    → IsLined mark_in n weights most parts xs →
    (k : ℕ) → k < n → get_or most k 0 ≤ get_or parts k 0
empty-full n weights most parts [] e lined k below =
    elim (cases_lt (get_or parts k 0) (get_or most k 0)) [
      | inl room ↦ absurd (omega (arith, lined.once k below room))
      | inr full ↦ full
    ]
empty-full n weights most parts (x ∷ xs) e lined k below = absurd (omega arith)

-- the first mark of one more child
pub first-lined : (n : ℕ) (weights most : List ℕ) (size : ℕ) (xs ys : List (Reverse Mark))
    (x : Reverse Mark) → IsPermutation (x ∷ xs) ys →
    IsLined mark_in n weights most (replicate size 0) xs → n < size → 0 < get_or most n 0 →
    x.0.num ≡ 1 → x.0.den ≡ get_or weights n 0 → x.0.place ≡ n
    → IsLined mark_in (n + 1) weights most (replicate size 0) ys
first-lined n weights most size xs ys x perm lined below room num den place =
    let z : ◌≡◌ {A = ℕ} (get_or (replicate size 0) x.0.place 0) 0 = zeros size x.0.place in
    lined-more mark_in n weights most (replicate size 0) xs ys x lined
    (record {
      within = omega (arith, place, below, length-replicate {A = ℕ} size 0);
      room = let r : 0 < get_or most x.0.place 0 = rw place room in omega (arith, z, r);
      num = omega (arith, z, num);
      den = rw place den;
    })
    place perm

-- the next mark of a child that was given a slice
pub back-lined : (n : ℕ) (weights most parts : List ℕ) (old rest ys : List (Reverse Mark))
    (x z : Reverse Mark) → IsPermutation (z ∷ rest) ys →
    IsPermutation old (x ∷ rest) → IsLined mark_in n weights most parts old → length parts ≡ n →
    (v : ℕ) → v ≡ suc (get_or parts x.0.place 0) → v < get_or most x.0.place 0 →
    z.0.num ≡ x.0.num + 2 → z.0.den ≡ x.0.den → z.0.place ≡ x.0.place
    → IsLined mark_in n weights most (set parts x.0.place v) ys
back-lined n weights most parts old rest ys x z pushed popped lined whole v is room num den place =
    given-room mark_in n weights most parts old rest x lined whole popped v z ys is room num den
    place pushed
