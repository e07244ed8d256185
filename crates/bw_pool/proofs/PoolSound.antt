-- Each call keeps what holds of every pool, and raises no ceiling.
use Rattle.std.proofs.Common.{◌≡◌, ◌≢◌, ℕ, zero, suc, ◌+◌, ◌-◌, ◌*◌, ◌<◌, ◌≤◌, inl, inr, min, List}
use Rattle.std.proofs.Common.{length, replicate, Bool, true, false, cond, Option, None}
use Rattle.std.proofs.Common.{Some, get_or, set, refl, sym, ap, ◌∙◌, subst, arith, eqb, ltb, ne_eqb}
use Rattle.std.proofs.Common.{length-set, get_or-set_same, get_or-set_other}
use Rattle.std.proofs.lemmas.Bool.{ltb-true}
use Rattle.std.proofs.lemmas.Bool.Decides.{eqb_tells}
use Rattle.std.proofs.Math.Nat.{mul-le-mul_right}
use Rattle.std.specs.List.{AllByRecursion}
use Rattle.bw_model.specs.declared.limits.TheConstants.{MAX_GROUPS, MAX_PROCESSORS}
use Rattle.bw_model.specs.declared.limits.TheConstants.{MAX_PER_PROCESSOR}
use Rattle.bw_model.specs.declared.row.Row.{Row}
use Rattle.bw_model.specs.Groups.{AreTreeRows, is_leaf, path_up, sum_of_children}
use Rattle.bw_model.proofs.CallerLemmas.{child_le_sum, sum_below-term, path_up-way_up}
use Rattle.bw_model.proofs.CallerLemmas.{parent_not_leaf, zeros, sum_below-zero}
use Rattle.bw_pool.specs.declared.calls.PoolCall.TheVariants.{Draw}
use Rattle.bw_pool.specs.declared.calls.Refusal.{Refusal}
use Rattle.bw_pool.specs.declared.calls.Refusal.TheVariants.{NoProcessor, NoGroup, NotLeaf, ZeroAsk}
use Rattle.bw_pool.specs.Pool.{PoolState, IsSound, new_pool, left_at, held_place, held_of_seat}
use Rattle.bw_pool.specs.Pool.{held_of_leaf, least, raised, lowered, got_of, drew, gave_back}
use Rattle.bw_pool.specs.Pool.{lowered_ceiling, refusal, leaf_refusal, group_refusal}
use Rattle.bw_pool.proofs.Trees.{Rising, parent_below, length-raised, length-lowered, least_le}
use Rattle.bw_pool.proofs.Trees.{least_all, least_rising, raised_within, raised_balanced}
use Rattle.bw_pool.proofs.Trees.{lowered_balanced, raised_leaf, lowered_leaf, raised_own}
use Rattle.bw_pool.proofs.Trees.{lowered_own, get_or-set, by_path}
use Rattle.bw_pool.proofs.Lists.{sum_of_children-zeros, lowered_le}
use Rattle.bw_pool.proofs.Holdings.{seat_sum, leaf_sum, seat_other, leaf_other, seat_own, leaf_own}

pub length_zeros : (n : ℕ) → length (replicate {A = ℕ} n 0) ≡ n
length_zeros zero = refl
length_zeros (suc n) = omega (arith, length_zeros n)

-- a value that changes at one place stays below, where the new one is
pub set_below : (xs ys : List ℕ) (i v : ℕ) → i < length xs → v ≤ get_or ys i 0
    → ((k : ℕ) → get_or xs k 0 ≤ get_or ys k 0) → (k : ℕ) →
    get_or (set xs i v) k 0 ≤ get_or ys k 0
set_below xs ys i v lt le all k = let w = get_or-set xs i v k lt in elim (eqb_tells i k) [
  | inl q ↦ let w' = rw q.0 at w in
      let e : get_or ys i 0 ≡ get_or ys k 0 = ap (λ j. get_or ys j 0) q.1 in omega arith
  | inr q ↦ let w' = rw q.0 at w in omega (arith, all k)
]

pub set_above : (xs ys : List ℕ) (i v : ℕ) → i < length ys → get_or xs i 0 ≤ v
    → ((k : ℕ) → get_or xs k 0 ≤ get_or ys k 0) → (k : ℕ) →
    get_or xs k 0 ≤ get_or (set ys i v) k 0
set_above xs ys i v lt le all k = let w = get_or-set ys i v k lt in elim (eqb_tells i k) [
  | inl q ↦ let w' = rw q.0 at w in
      let e : get_or xs i 0 ≡ get_or xs k 0 = ap (λ j. get_or xs j 0) q.1 in omega arith
  | inr q ↦ let w' = rw q.0 at w in omega (arith, all k)
]

pub set_capped : (xs : List ℕ) (i v m : ℕ) → i < length xs → v ≤ m → ((k : ℕ) → get_or xs k 0 ≤ m)
    → (k : ℕ) → get_or (set xs i v) k 0 ≤ m
set_capped xs i v m lt le all k = let w = get_or-set xs i v k lt in elim (eqb_tells i k) [
  | inl q ↦ let w' = rw q.0 at w in omega arith
  | inr q ↦ let w' = rw q.0 at w in omega (arith, all k)
]

pub place_in : (s : PoolState) (seat leaf : ℕ) → IsSound s → seat < s.processors
    → leaf < length s.rows → held_place s seat leaf < length s.held
place_in s seat leaf ok lt ltl =
    let m = mul-le-mul_right {m = suc seat} {n = s.processors} (length s.rows) lt in
    let e : suc seat * length s.rows ≡ seat * length s.rows + length s.rows = grind arith in
    omega (arith, ok.held)

pub sound_new : (P S : ℕ) (ps : List Row) (amounts : List ℕ) → AreTreeRows ps
    → length ps ≤ MAX_GROUPS → P ≤ MAX_PROCESSORS → S ≤ MAX_PER_PROCESSOR →
    length amounts ≡ length ps → IsSound (new_pool P S ps amounts)
sound_new P S ps amounts t few fp fs len = record {
  tree = t;
  few_rows = few;
  few_processors = fp;
  few_slices = fs;
  drawn = length_zeros (length ps);
  ceiling = len;
  by_processor = length_zeros P;
  held = length_zeros (P * length ps);
  within = λ g. omega (arith, zeros (length ps) g);
  cap = λ p. omega (arith, zeros P p);
  by_seat = λ p lt. zeros P p ∙ sym (seat_sum (new_pool P S ps amounts) p
      ∙ sum_below-zero (length ps)
      (λ l. get_or (replicate {A = ℕ} (P * length ps) 0) (p * length ps + l) 0)
      (λ l _. zeros (P * length ps) (p * length ps + l)));
  by_leaf = λ l lt leaf. zeros (length ps) l
      ∙ sym (leaf_sum (new_pool P S ps amounts) l
      ∙ sum_below-zero P (λ p. get_or (replicate {A = ℕ} (P * length ps) 0) (p * length ps + l) 0)
      (λ p _. zeros (P * length ps) (p * length ps + l)));
  inner = λ g lt inner. sum_of_children-zeros g ps (length ps) ∙ sym (zeros (length ps) g);
}

-- what is drawn is no less above a row than at it
pub drawn_rises : (s : PoolState) → IsSound s → Rising s.rows (λ g. get_or s.drawn g 0)
drawn_rises s ok g p lt is =
    omega (
      arith,
      child_le_sum s.rows s.drawn p g is,
      ok.inner p (parent_below s.rows ok.tree g p lt is) (parent_not_leaf s.rows p g lt is),
    )

-- a leaf is no inner row
leaf_apart : (rows : List Row) (l h : ℕ) → is_leaf rows l ≡ true → is_leaf rows h ≡ false → l ≢ h
leaf_apart rows l h leaf inner e = let clash : is_leaf rows h ≡ true = ap (is_leaf rows) (sym e)
    ∙ leaf in absurd (cc (clash, inner))

module _ (s : PoolState) (seat leaf n : ℕ) (ok : IsSound s) (lt : seat < s.processors)
    (ltl : leaf < length s.rows) (is : is_leaf s.rows leaf ≡ true) where
  abbrev at : ℕ
  at = held_place s seat leaf

  at_in : at < length s.held
  at_in = place_in s seat leaf ok lt ltl

  in_by : seat < length s.by_processor
  in_by = omega (arith, ok.by_processor)

  -- a sum with one holding changed, where what it is the sum of changes as much
  seat_changed : (d : List ℕ) (by held : ℕ)
      → by + get_or s.held at 0 ≡ get_or s.by_processor seat 0 + held
      → (p : ℕ) → p < s.processors → get_or (set s.by_processor seat by) p 0 ≡ held_of_seat
      (record s { drawn = d; by_processor = set s.by_processor seat by; held = set s.held at held })
      p
  seat_changed d by held same p ltp =
      let s' : PoolState =
      record s {
        drawn = d;
        by_processor = set s.by_processor seat by;
        held = set s.held at held;
      } in
      elim (eqb_tells seat p) [
        | inl e ↦
            let own : get_or (set s.by_processor seat by) seat 0 ≡ held_of_seat s' seat =
            omega (
              arith,
              get_or-set_same s.by_processor seat by 0 in_by,
              seat_sum s' seat,
              seat_sum s seat,
              seat_own (length s.rows) s.held seat leaf held
                  ltl at_in,
              ok.by_seat seat lt,
              same,
            ) in
            subst (λ i. get_or (set s.by_processor seat by) i 0 ≡ held_of_seat s' i) e.1 own
        | inr e ↦
            let ne : p ≢ seat = λ q. e.1 (sym q) in
            get_or-set_other s.by_processor seat p by 0 ne
            ∙ (ok.by_seat p ltp
            ∙ (seat_sum s p
            ∙ (sym (seat_other (length s.rows) s.held seat leaf held ltl p ne)
            ∙ sym (seat_sum s' p))))
      ]

  leaf_changed : (d by : List ℕ) (held : ℕ)
      → get_or d leaf 0 + get_or s.held at 0 ≡ get_or s.drawn leaf 0 + held
      → ((l : ℕ) → is_leaf s.rows l ≡ true → l ≢ leaf → get_or d l 0 ≡ get_or s.drawn l 0)
      → (l : ℕ) → l < length s.rows → is_leaf s.rows l ≡ true →
      get_or d l 0 ≡ held_of_leaf
      (record s { drawn = d; by_processor = by; held = set s.held at held }) l
  leaf_changed d by held same others l lt' lf =
      let s' : PoolState = record s { drawn = d; by_processor = by; held = set s.held at held } in
      elim (eqb_tells leaf l) [
        | inl e ↦
            let own : get_or d leaf 0 ≡ held_of_leaf s' leaf =
            omega (
              arith,
              leaf_sum s' leaf,
              leaf_sum s leaf,
              leaf_own (length s.rows) s.held seat leaf held ltl at_in s.processors lt,
              ok.by_leaf leaf ltl
                  is,
              same,
            ) in
            subst (λ i. get_or d i 0 ≡ held_of_leaf s' i) e.1 own
        | inr e ↦
            let ne : l ≢ leaf = λ q. e.1 (sym q) in
            others l lf ne
            ∙ (ok.by_leaf l lt' lf
            ∙ (leaf_sum s l
            ∙ (sym (leaf_other (length s.rows) s.held seat leaf held ltl s.processors l lt' ne)
            ∙ sym (leaf_sum s' l))))
      ]

  -- a holding is drawn at the leaf, and at the processor
  pub held_le_leaf : get_or s.held at 0 ≤ get_or s.drawn leaf 0
  held_le_leaf =
      omega (
        arith,
        ok.by_leaf leaf ltl is,
        leaf_sum s leaf,
        sum_below-term s.processors seat (λ p. get_or s.held (p * length s.rows + leaf) 0) lt,
      )

  pub held_le_processor : get_or s.held at 0 ≤ get_or s.by_processor seat 0
  held_le_processor = omega (
    arith,
    ok.by_seat seat lt,
    seat_sum s seat,
    sum_below-term (length s.rows) leaf
        (λ l. get_or s.held (seat * length s.rows + l) 0) ltl,
  )

  -- and at each group above
  pub held_le_path : n ≤ get_or s.held at 0
      → AllByRecursion (λ g. n ≤ get_or s.drawn g 0) (path_up s.rows leaf)
  held_le_path has =
      let first : n ≤ get_or s.drawn leaf 0 = omega (arith, held_le_leaf) in
      let least_is : least (λ g. get_or s.drawn g 0) (path_up s.rows leaf) n ≡ n =
      by_path (λ gs. least (λ g. get_or s.drawn g 0) gs n ≡ n) s.rows leaf
      (least_rising s.rows ok.tree (λ g. get_or s.drawn g 0) (drawn_rises s ok) (suc leaf)
      (Some leaf) n (omega arith) (λ g e. let q : leaf ≡ g = cc e in
      subst (λ i. n ≤ get_or s.drawn i 0) q first)) in
      least_all (λ g. get_or s.drawn g 0) (path_up s.rows leaf) n n (omega (arith, least_is))

  other_leaf : (l : ℕ) → l ≢ leaf → Some leaf ≢ Some l
  other_leaf l ne e = ne (let q : leaf ≡ l = cc e in sym q)

  pub sound_gave_back : n ≤ get_or s.held at 0 → IsSound (gave_back s seat leaf n)
  sound_gave_back has =
      let v = get_or s.held at 0 - n in
      let by = get_or s.by_processor seat 0 - n in
      let drawn' = lowered (path_up s.rows leaf) n s.drawn in
      let here : n ≤ get_or s.drawn leaf 0 = omega (arith, held_le_leaf) in
      record {
        tree = ok.tree;
        few_rows = ok.few_rows;
        few_processors = ok.few_processors;
        few_slices = ok.few_slices;
        drawn = length-lowered (path_up s.rows leaf) n s.drawn ∙ ok.drawn;
        ceiling = ok.ceiling;
        by_processor = length-set s.by_processor seat by ∙ ok.by_processor;
        held = length-set s.held at v ∙ ok.held;
        within = λ g. omega (arith, lowered_le (path_up s.rows leaf) n s.drawn g, ok.within g);
        cap = set_capped s.by_processor seat by s.per_processor in_by (omega (arith, ok.cap seat))
            ok.cap;
        by_seat = seat_changed drawn' by v (omega (arith, held_le_processor, has));
        by_leaf = leaf_changed drawn' (set s.by_processor seat by) v
            (omega (
              arith,
              lowered_own s.rows n ok.tree leaf s.drawn is ltl ok.drawn,
              held_le_leaf,
              has,
            ))
            (λ l lf ne. by_path (λ gs. get_or (lowered gs n s.drawn) l 0 ≡ get_or s.drawn l 0)
            s.rows leaf
            (lowered_leaf s.rows n ok.tree l lf (suc leaf) (Some leaf) s.drawn (omega arith)
            (other_leaf l ne)));
        inner = by_path (λ gs. (h : ℕ) → h < length s.rows → is_leaf s.rows h ≡ false →
            sum_of_children s.rows (lowered gs n s.drawn) h ≡ get_or (lowered gs n s.drawn) h 0)
            s.rows leaf
            (lowered_balanced s.rows n ok.tree s.drawn (drawn_rises s ok) (suc leaf) (Some leaf)
            s.drawn (omega arith) (omega arith) ok.drawn (λ g l. refl)
            (λ g e. let q : leaf ≡ g = cc e in subst (λ i. n ≤ get_or s.drawn i 0) q here)
            (λ h lth inner. let none : cond {A = ℕ} (eqb leaf h) n 0 ≡ 0 =
            ap (λ (b : Bool). cond {A = ℕ} b n 0)
            (ne_eqb leaf h (leaf_apart s.rows leaf h is inner)) in
            omega (arith, none, ok.inner h lth inner)));
      }

module _ (s : PoolState) (seat leaf ask : ℕ) (ok : IsSound s) (lt : seat < s.processors)
    (ltl : leaf < length s.rows) (is : is_leaf s.rows leaf ≡ true) where
  pub sound_drew : IsSound (drew s seat leaf (got_of s seat leaf ask))
  sound_drew =
      let n = got_of s seat leaf ask in
      let bound = min ask (s.per_processor - get_or s.by_processor seat 0) in
      let small : n ≤ bound = least_le (left_at s) (path_up s.rows leaf) bound in
      let at = held_place s seat leaf in
      let v = get_or s.held at 0 + n in
      let by = get_or s.by_processor seat 0 + n in
      let in_by : seat < length s.by_processor = omega (arith, ok.by_processor) in
      let drawn' = raised (path_up s.rows leaf) n s.drawn in
      record {
        tree = ok.tree;
        few_rows = ok.few_rows;
        few_processors = ok.few_processors;
        few_slices = ok.few_slices;
        drawn = length-raised (path_up s.rows leaf) n s.drawn ∙ ok.drawn;
        ceiling = ok.ceiling;
        by_processor = length-set s.by_processor seat by ∙ ok.by_processor;
        held = length-set s.held at v ∙ ok.held;
        within = by_path (λ gs. (h : ℕ) → get_or (raised gs n s.drawn) h 0 ≤ get_or s.ceiling h 0)
            s.rows leaf
            (raised_within s.rows n ok.tree s.drawn s.ceiling (suc leaf) (Some leaf) bound s.drawn
            ltl ok.drawn
            (subst (λ gs. n ≤ least (left_at s) gs bound) (path_up-way_up s.rows leaf)
            (omega arith)) (λ g l. refl) ok.within);
        cap = set_capped s.by_processor seat by s.per_processor in_by (omega (arith, ok.cap seat))
            ok.cap;
        by_seat = seat_changed s seat leaf n ok lt ltl is drawn' by v (omega arith);
        by_leaf = leaf_changed s seat leaf n ok lt ltl is drawn' (set s.by_processor seat by) v
            (omega (arith, raised_own s.rows n ok.tree leaf s.drawn is ltl ok.drawn))
            (λ l lf ne. by_path (λ gs. get_or (raised gs n s.drawn) l 0 ≡ get_or s.drawn l 0) s.rows
            leaf
            (raised_leaf s.rows n ok.tree l lf (suc leaf) (Some leaf) s.drawn (omega arith)
            (other_leaf s seat leaf n ok lt ltl is l ne)));
        inner = by_path (λ gs. (h : ℕ) → h < length s.rows → is_leaf s.rows h ≡ false →
            sum_of_children s.rows (raised gs n s.drawn) h ≡ get_or (raised gs n s.drawn) h 0)
            s.rows leaf
            (raised_balanced s.rows n ok.tree (suc leaf) (Some leaf) s.drawn (omega arith)
            (omega arith) ok.drawn
            (λ h lth inner. let none : cond {A = ℕ} (eqb leaf h) n 0 ≡ 0 =
            ap (λ (b : Bool). cond {A = ℕ} b n 0)
            (ne_eqb leaf h (leaf_apart s.rows leaf h is inner)) in
            omega (arith, none, ok.inner h lth inner)));
      }

pub sound_lowered : (s : PoolState) (g to : ℕ) → IsSound s → g < length s.rows
    → IsSound (record s { ceiling = set s.ceiling g (lowered_ceiling s g to) })
sound_lowered s g to ok lt = record {
  tree = ok.tree;
  few_rows = ok.few_rows;
  few_processors = ok.few_processors;
  few_slices = ok.few_slices;
  drawn = ok.drawn;
  ceiling = length-set s.ceiling g (lowered_ceiling s g to) ∙ ok.ceiling;
  by_processor = ok.by_processor;
  held = ok.held;
  within = set_above s.drawn s.ceiling g (lowered_ceiling s g to) (omega (arith, ok.ceiling))
      (omega (arith, ok.within g)) ok.within;
  cap = ok.cap;
  by_seat = ok.by_seat;
  by_leaf = ok.by_leaf;
  inner = ok.inner;
}

-- what a call that isn't refused has told
abbrev pub refused_by : Bool → Option Refusal → Refusal → Option Refusal
refused_by b rest r = cond b rest (Some r)

pub passed : (b : Bool) (rest : Option Refusal) (r : Refusal) → cond b rest (Some r) ≡ None
    → (b ≡ true) × (rest ≡ None)
passed true rest r e = (refl, e)
passed false rest r e = absurd (cc e)

pub leaf_passed : (s : PoolState) (leaf n : ℕ) → leaf_refusal s leaf n ≡ None
    → (leaf < length s.rows) × (is_leaf s.rows leaf ≡ true)
leaf_passed s leaf n e =
    let a = passed (ltb leaf (length s.rows))
    (cond (is_leaf s.rows leaf) (cond (eqb n 0) (Some ZeroAsk) None) (Some NotLeaf)) NoGroup
    e in
    let b = passed (is_leaf s.rows leaf) (cond (eqb n 0) (Some ZeroAsk) None) NotLeaf a.1 in
    (ltb-true leaf (length s.rows) a.0, b.0)

pub group_passed : (s : PoolState) (g : ℕ) → group_refusal s g ≡ None → g < length s.rows
group_passed s g e = ltb-true g (length s.rows) (passed (ltb g (length s.rows)) None NoGroup e).0

pub draw_passed : (s : PoolState) (seat leaf ask : ℕ) → refusal s seat (Draw leaf ask) ≡ None
    → (seat < s.processors) × (leaf < length s.rows)
    × (is_leaf s.rows leaf ≡ true)
draw_passed s seat leaf ask e =
    let a = passed (ltb seat s.processors) (leaf_refusal s leaf ask) NoProcessor e in
    let b = leaf_passed s leaf ask a.1 in
    (ltb-true seat s.processors a.0, b.0, b.1)
