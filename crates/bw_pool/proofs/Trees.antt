-- Laws of trees: sums over children, and what a change along a path does to them.
use Rattle.std.proofs.Common.{◌≡◌, ◌≢◌, ℕ, zero, suc, ◌+◌, ◌-◌, ◌<◌, ◌≤◌, ◌==◌, inl, inr, min, List}
use Rattle.std.proofs.Common.{[], ◌∷◌, length, Bool, true, false, cond, Option, None}
use Rattle.std.proofs.Common.{Some, get_or, set, refl, sym, ap, ◌∙◌, subst, arith, eqb, ne_eqb}
use Rattle.std.proofs.Common.{eq-eqb, length-set, get_or-set_same, get_or-set_other}
use Rattle.std.proofs.lemmas.Bool.Decides.{eqb_tells}
use Rattle.std.specs.List.{AllByRecursion}
use Rattle.std.specs.Option.{option_map_or}
use Rattle.bw_model.specs.declared.row.Row.{Row}
use Rattle.bw_model.specs.Groups.{AreTreeRows, parent_of, is_leaf, path_up, sum_of_children}
use Rattle.bw_model.proofs.CallerLemmas.{sum_of_children-set, reach, reach_parent, way_up}
use Rattle.bw_model.proofs.CallerLemmas.{path_up-way_up, parent_not_leaf}
use Rattle.bw_pool.specs.Pool.{least, raised, lowered}

cond_add : (b : Bool) (x n : ℕ) → cond b (x + n) 0 ≡ cond b x 0 + cond b n 0
cond_add true x n = refl
cond_add false x n = omega arith

pub get_or-set : (xs : List ℕ) (g v h : ℕ) → g < length xs
    → get_or (set xs g v) h 0 ≡ cond (eqb g h) v (get_or xs h 0)
get_or-set (x ∷ xs) zero v zero lt = refl
get_or-set (x ∷ xs) zero v (suc h) lt = rw (ne_eqb zero (suc h) (λ e. absurd (omega arith))) refl
get_or-set (x ∷ xs) (suc g) v zero lt = rw (ne_eqb (suc g) zero (λ e. absurd (omega arith))) refl
get_or-set (x ∷ xs) (suc g) v (suc h) lt = elim (eqb_tells g h) [
  | inl w ↦ rw (eq-eqb (suc g) (suc h) (ap suc w.1))
      (get_or-set xs g v h (omega arith) ∙ rw w.0 refl)
  | inr w ↦ rw (ne_eqb (suc g) (suc h) (λ e. w.1 (omega arith)))
      (get_or-set xs g v h (omega arith) ∙ rw w.0 refl)
]
get_or-set [] g v h lt = absurd (omega arith)

-- whether this row is g
abbrev pub is_some_at : ℕ → Option ℕ → Bool
is_some_at g at = option_map_or (λ p. p == g) at false

-- where the sums lack n at one row, and that row gains n, they lack n at its parent
pub balance_step : (h : ℕ) (ps : List Row) (xs : List ℕ) (g n : ℕ) → g < length xs
    → sum_of_children ps xs h ≡ get_or xs h 0 + cond (eqb g h) n 0
    → sum_of_children ps (set xs g (get_or xs g 0 + n)) h
    ≡ get_or (set xs g (get_or xs g 0 + n)) h 0 + cond (is_some_at h (parent_of ps g)) n 0
balance_step h ps xs g n lt e =
    let s = sum_of_children-set ps xs h g (get_or xs g 0 + n) lt in
    let a = cond_add (is_some_at h (parent_of ps g)) (get_or xs g 0) n in
    let v = get_or-set xs g (get_or xs g 0 + n) h lt in
    elim (eqb_tells g h) [
      | inl w ↦ let e' = rw w.0 at e in let v' = rw w.0 at v in
          let same : get_or xs g 0 ≡ get_or xs h 0 = ap (λ k. get_or xs k 0) w.1 in omega arith
      | inr w ↦ let e' = rw w.0 at e in let v' = rw w.0 at v in omega arith
    ]

-- what holds of the way up holds of the path
pub by_path : (P : List ℕ → Type 0) (rows : List Row) (g : ℕ) → P (way_up (suc g) rows (Some g))
    → P (path_up rows g)
by_path P rows g p = subst P (sym (path_up-way_up rows g)) p

-- n more at a row and at each ancestor keeps the sums
pub raised_balanced : (ps : List Row) (n : ℕ) (t : AreTreeRows ps) (k : ℕ) (at : Option ℕ)
    (xs : List ℕ) → reach at ≤ k → reach at ≤ length ps →
    length xs ≡ length ps
    → ((h : ℕ) → h < length ps → is_leaf ps h ≡ false
    → sum_of_children ps xs h ≡ get_or xs h 0 + cond (is_some_at h at) n 0)
    → (h : ℕ) → h < length ps → is_leaf ps h ≡ false → sum_of_children ps
    (raised (way_up k ps at) n xs) h ≡ get_or (raised (way_up k ps at) n xs) h 0
raised_balanced ps n t zero None xs fuel ok len inv h lt inner = omega (arith, inv h lt inner)
raised_balanced ps n t zero (Some g) xs fuel ok len inv h lt inner = absurd (omega arith)
raised_balanced ps n t (suc k) None xs fuel ok len inv h lt inner = omega (arith, inv h lt inner)
raised_balanced ps n t (suc k) (Some g) xs fuel ok len inv h lt inner =
    let up = reach_parent ps t g in
    raised_balanced ps n t k (parent_of ps g) (set xs g (get_or xs g 0 + n)) (omega arith)
    (omega arith) (length-set xs g (get_or xs g 0 + n) ∙ len)
    (λ h' lt' inner'. balance_step h' ps xs g n (omega arith) (inv h' lt' inner')) h lt inner

pub length-raised : (gs : List ℕ) (n : ℕ) (xs : List ℕ) → length (raised gs n xs) ≡ length xs
length-raised [] n xs = refl
length-raised (g ∷ gs) n xs = length-raised gs n (set xs g (get_or xs g 0 + n))
    ∙ length-set xs g (get_or xs g 0 + n)

pub length-lowered : (gs : List ℕ) (n : ℕ) (xs : List ℕ) → length (lowered gs n xs) ≡ length xs
length-lowered [] n xs = refl
length-lowered (g ∷ gs) n xs =
    length-lowered gs n (set xs g (get_or xs g 0 - n)) ∙ length-set xs g (get_or xs g 0 - n)

cond_sub : (b : Bool) (x n : ℕ) → n ≤ x → cond b (x - n) 0 + cond b n 0 ≡ cond b x 0
cond_sub true x n le = omega arith
cond_sub false x n le = omega arith

pub unbalance_step : (h : ℕ) (ps : List Row) (xs : List ℕ) (g n : ℕ) → g < length xs
    → n ≤ get_or xs g 0
    → sum_of_children ps xs h + cond (eqb g h) n 0 ≡ get_or xs h 0
    → sum_of_children ps (set xs g (get_or xs g 0 - n)) h + cond (is_some_at h (parent_of ps g)) n 0
    ≡ get_or (set xs g (get_or xs g 0 - n)) h 0
unbalance_step h ps xs g n lt le e =
    let s = sum_of_children-set ps xs h g (get_or xs g 0 - n) lt in
    let a = cond_sub (is_some_at h (parent_of ps g)) (get_or xs g 0) n le in
    let v = get_or-set xs g (get_or xs g 0 - n) h lt in
    elim (eqb_tells g h) [
      | inl w ↦ let e' = rw w.0 at e in let v' = rw w.0 at v in
          let same : get_or xs g 0 ≡ get_or xs h 0 = ap (λ k. get_or xs k 0) w.1 in omega arith
      | inr w ↦ let e' = rw w.0 at e in let v' = rw w.0 at v in omega arith
    ]

-- a parent is a row
pub parent_below : (ps : List Row) (t : AreTreeRows ps) (g p : ℕ) → g < length ps
    → parent_of ps g ≡ Some p → p < length ps
parent_below ps t g p lt is = let r = reach_parent ps t g in
    let e : reach (parent_of ps g) ≡ suc p = ap reach is in omega arith

-- values that are no more at a row than at its parent
abbrev pub Rising : List Row → (ℕ → ℕ) → Type 0
Rising ps f = (g p : ℕ) → g < length ps → parent_of ps g ≡ Some p → f g ≤ f p

-- n less at a row and at each ancestor keeps the sums, where each has n
pub lowered_balanced : (ps : List Row) (n : ℕ) (t : AreTreeRows ps) (xs : List ℕ)
    → Rising ps (λ g. get_or xs g 0)
    → (k : ℕ) (at : Option ℕ) (zs : List ℕ) → reach at ≤ k → reach at ≤ length ps
    → length zs ≡ length ps
    → ((g : ℕ) → g < reach at → get_or zs g 0 ≡ get_or xs g 0)
    → ((g : ℕ) → at ≡ Some g → n ≤ get_or xs g 0)
    → ((h : ℕ) → h < length ps → is_leaf ps h ≡ false
    → sum_of_children ps zs h + cond (is_some_at h at) n 0 ≡ get_or zs h 0)
    → (h : ℕ) → h < length ps → is_leaf ps h ≡ false → sum_of_children ps
    (lowered (way_up k ps at) n zs) h ≡ get_or (lowered (way_up k ps at) n zs) h 0
lowered_balanced ps n t xs rises zero None zs fuel ok len agree has inv h lt inner =
    omega (arith, inv h lt inner)
lowered_balanced ps n t xs rises zero (Some g) zs fuel ok len agree has inv h lt inner =
    absurd (omega arith)
lowered_balanced ps n t xs rises (suc k) None zs fuel ok len agree has inv h lt inner =
    omega (arith, inv h lt inner)
lowered_balanced ps n t xs rises (suc k) (Some g) zs fuel ok len agree has inv h lt inner =
    let up = reach_parent ps t g in
    let here = has g refl in
    let same = agree g (omega arith) in
    let v = get_or zs g 0 - n in
    lowered_balanced ps n t xs rises k (parent_of ps g) (set zs g v) (omega arith) (omega arith)
    (length-set zs g v ∙ len)
    (λ j lt'. let ne : j ≢ g = λ e. absurd (omega arith) in
    get_or-set_other zs g j v 0 ne ∙ agree j (omega arith))
    (λ p is. omega (arith, rises g p (omega arith) is))
    (λ h' lt' inner'. unbalance_step h' ps zs g n (omega arith) (omega arith) (inv h' lt' inner')) h
    lt inner

pub way_up_none : (k : ℕ) (ps : List Row) → way_up k ps None ≡ []
way_up_none zero ps = refl
way_up_none (suc k) ps = refl

-- the root gains n too
pub raised_root : (ps : List Row) (n : ℕ) (t : AreTreeRows ps) (k g : ℕ) (zs : List ℕ) → suc g ≤ k
    → g < length ps → length zs ≡ length ps
    → get_or (raised (way_up k ps (Some g)) n zs) 0 0 ≡ get_or zs 0 0 + n
raised_root ps n t zero g zs fuel lt len = absurd (omega arith)
raised_root ps n t (suc k) zero zs fuel lt len =
    rw (t.root_on_top, way_up_none k ps) (get_or-set_same zs 0 (get_or zs 0 0 + n) 0 (omega arith))
raised_root ps n t (suc k) (suc g) zs fuel lt len =
    let q = t.parent_before (suc g) (omega arith) lt in
    let v = get_or zs (suc g) 0 + n in
    let ne : zero ≢ suc g = λ e. absurd (omega arith) in
    rw q.1 (raised_root ps n t k q.0 (set zs (suc g) v) (omega (arith, q.2)) (omega (arith, q.2))
    (length-set zs (suc g) v ∙ len)
    ∙ ap (λ x. x + n) (get_or-set_other zs (suc g) 0 v 0 ne))

pub lowered_root : (ps : List Row) (n : ℕ) (t : AreTreeRows ps) (k g : ℕ) (zs : List ℕ) → suc g ≤ k
    → g < length ps → length zs ≡ length ps
    → get_or (lowered (way_up k ps (Some g)) n zs) 0 0 ≡ get_or zs 0 0 - n
lowered_root ps n t zero g zs fuel lt len = absurd (omega arith)
lowered_root ps n t (suc k) zero zs fuel lt len =
    rw (t.root_on_top, way_up_none k ps) (get_or-set_same zs 0 (get_or zs 0 0 - n) 0 (omega arith))
lowered_root ps n t (suc k) (suc g) zs fuel lt len =
    let q = t.parent_before (suc g) (omega arith) lt in
    let v = get_or zs (suc g) 0 - n in
    let ne : zero ≢ suc g = λ e. absurd (omega arith) in
    rw q.1 (lowered_root ps n t k q.0 (set zs (suc g) v) (omega (arith, q.2)) (omega (arith, q.2))
    (length-set zs (suc g) v ∙ len)
    ∙ ap (λ x. x - n) (get_or-set_other zs (suc g) 0 v 0 ne))

parent_not : (ps : List Row) (g l : ℕ) → g < length ps → is_leaf ps l ≡ true
    → parent_of ps g ≢ Some l
parent_not ps g l lt leaf e = let f = parent_not_leaf ps l g lt e in absurd (cc (f, leaf))

-- a leaf that doesn't start the way keeps its value
pub raised_leaf : (ps : List Row) (n : ℕ) (t : AreTreeRows ps) (l : ℕ) → is_leaf ps l ≡ true
    → (k : ℕ) (at : Option ℕ) (zs : List ℕ) → reach at ≤ length ps →
    at ≢ Some l
    → get_or (raised (way_up k ps at) n zs) l 0 ≡ get_or zs l 0
raised_leaf ps n t l leaf zero at zs ok ne = refl
raised_leaf ps n t l leaf (suc k) None zs ok ne = refl
raised_leaf ps n t l leaf (suc k) (Some g) zs ok ne =
    let up = reach_parent ps t g in
    let v = get_or zs g 0 + n in
    let other : l ≢ g = λ e. ne (ap Some (sym e)) in
    raised_leaf ps n t l leaf k (parent_of ps g) (set zs g v) (omega arith)
    (parent_not ps g l (omega arith) leaf) ∙ get_or-set_other zs g l v 0 other

pub lowered_leaf : (ps : List Row) (n : ℕ) (t : AreTreeRows ps) (l : ℕ) → is_leaf ps l ≡ true
    → (k : ℕ) (at : Option ℕ) (zs : List ℕ) → reach at ≤ length ps →
    at ≢ Some l
    → get_or (lowered (way_up k ps at) n zs) l 0 ≡ get_or zs l 0
lowered_leaf ps n t l leaf zero at zs ok ne = refl
lowered_leaf ps n t l leaf (suc k) None zs ok ne = refl
lowered_leaf ps n t l leaf (suc k) (Some g) zs ok ne =
    let up = reach_parent ps t g in
    let v = get_or zs g 0 - n in
    let other : l ≢ g = λ e. ne (ap Some (sym e)) in
    lowered_leaf ps n t l leaf k (parent_of ps g) (set zs g v) (omega arith)
    (parent_not ps g l (omega arith) leaf) ∙ get_or-set_other zs g l v 0 other

-- the leaf that starts it gains n, or loses it
pub raised_own : (ps : List Row) (n : ℕ) (t : AreTreeRows ps) (l : ℕ) (zs : List ℕ)
    → is_leaf ps l ≡ true → l < length ps → length zs ≡ length ps
    → get_or (raised (path_up ps l) n zs) l 0 ≡ get_or zs l 0 + n
raised_own ps n t l zs leaf lt len =
    let up = reach_parent ps t l in
    by_path (λ gs. get_or (raised gs n zs) l 0 ≡ get_or zs l 0 + n) ps l
    (raised_leaf ps n t l leaf l (parent_of ps l) (set zs l (get_or zs l 0 + n)) (omega arith)
    (parent_not ps l l lt leaf)
    ∙ get_or-set_same zs l (get_or zs l 0 + n) 0 (omega arith))

pub lowered_own : (ps : List Row) (n : ℕ) (t : AreTreeRows ps) (l : ℕ) (zs : List ℕ)
    → is_leaf ps l ≡ true → l < length ps → length zs ≡ length ps
    → get_or (lowered (path_up ps l) n zs) l 0 ≡ get_or zs l 0 - n
lowered_own ps n t l zs leaf lt len =
    let up = reach_parent ps t l in
    by_path (λ gs. get_or (lowered gs n zs) l 0 ≡ get_or zs l 0 - n) ps l
    (lowered_leaf ps n t l leaf l (parent_of ps l) (set zs l (get_or zs l 0 - n)) (omega arith)
    (parent_not ps l l lt leaf)
    ∙ get_or-set_same zs l (get_or zs l 0 - n) 0 (omega arith))

pub least_le : (f : ℕ → ℕ) (gs : List ℕ) (b : ℕ) → least f gs b ≤ b
least_le f [] b = omega arith
least_le f (g ∷ gs) b = let ih = least_le f gs (min b (f g)) in omega arith

-- what is no more than the least is no more than each
pub least_all : (f : ℕ → ℕ) (gs : List ℕ) (b n : ℕ) → n ≤ least f gs b
    → AllByRecursion (λ g. n ≤ f g) gs
least_all f [] b n le = tt
least_all f (g ∷ gs) b n le = let m = least_le f gs (min b (f g)) in
    (omega arith, least_all f gs (min b (f g)) n le)

-- where f rises on the way up, its first value decides
pub least_rising : (ps : List Row) (t : AreTreeRows ps) (f : ℕ → ℕ) → Rising ps f
    → (k : ℕ) (at : Option ℕ) (b : ℕ) → reach at ≤ length ps
    → ((g : ℕ) → at ≡ Some g → b ≤ f g) → least f (way_up k ps at) b ≡ b
least_rising ps t f rises zero at b ok le = refl
least_rising ps t f rises (suc k) None b ok le = refl
least_rising ps t f rises (suc k) (Some g) b ok le =
    let up = reach_parent ps t g in
    let here = le g refl in
    let m : min b (f g) ≡ b = omega arith in
    ap (λ x. least f (way_up k ps (parent_of ps g)) x) m
    ∙ least_rising ps t f rises k (parent_of ps g) b (omega arith)
    (λ p is. omega (arith, rises g p (omega arith) is))

-- a rise by no more than is left on the way stays within
pub raised_within : (ps : List Row) (n : ℕ) (t : AreTreeRows ps) (xs ys : List ℕ) (k : ℕ)
    (at : Option ℕ) (b : ℕ) (zs : List ℕ)
    → reach at ≤ length ps → length zs ≡ length ps
    → n ≤ least (λ g. get_or ys g 0 - get_or xs g 0) (way_up k ps at) b
    → ((g : ℕ) → g < reach at → get_or zs g 0 ≡ get_or xs g 0)
    → ((h : ℕ) → get_or zs h 0 ≤ get_or ys h 0)
    → (h : ℕ) → get_or (raised (way_up k ps at) n zs) h 0 ≤ get_or ys h 0
raised_within ps n t xs ys zero at b zs ok len fits agree le h = le h
raised_within ps n t xs ys (suc k) None b zs ok len fits agree le h = le h
raised_within ps n t xs ys (suc k) (Some g) b zs ok len fits agree le h =
    let up = reach_parent ps t g in
    let v = get_or zs g 0 + n in
    let m = least_le (λ j. get_or ys j 0 - get_or xs j 0) (way_up k ps (parent_of ps g))
    (min b (get_or ys g 0 - get_or xs g 0)) in
    let same = agree g (omega arith) in
    let was = le g in
    raised_within ps n t xs ys k (parent_of ps g) (min b (get_or ys g 0 - get_or xs g 0))
    (set zs g v) (omega arith) (length-set zs g v ∙ len) fits
    (λ j lt'. let ne : j ≢ g = λ e. absurd (omega arith) in
    get_or-set_other zs g j v 0 ne ∙ agree j (omega arith))
    (λ j. let w = get_or-set zs g v j (omega arith) in elim (eqb_tells g j) [
      | inl q ↦ let w' = rw q.0 at w in
          let e : get_or ys g 0 ≡ get_or ys j 0 = ap (λ i. get_or ys i 0) q.1 in omega arith
      | inr q ↦ let w' = rw q.0 at w in omega (arith, le j)
    ]) h
