-- Places that are lowered, where a group is taken out.
use Rattle.std.proofs.Common.{◌≡◌, ◌≢◌, ◌⊎◌, inl, inr, ℕ, zero, suc, ◌-◌, ◌<◌, ◌≤◌, Bool}
use Rattle.std.proofs.Common.{cond, List, [], ◌∷◌, ◌++◌, length, get_or, position, Some, ltb}
use Rattle.std.proofs.Common.{refl, sym, ap, subst, ◌∙◌, arith, eqb}
use Rattle.std.specs.Prelude.{slice_set}
use Rattle.std.proofs.lemmas.Bool.{cases_order, lt-ltb, le-ltb, eqb-true}
use Rattle.std.proofs.lemmas.List.{get_or-map, length-map}
use Rattle.std.specs.List.{AllZip, remove}
use Rattle.std.specs.Map.{keys_of, remove_entry}
use Rattle.bw_tree.specs.declared.node.Node.{Node}
use Rattle.bw_tree.specs.Groups.{GroupFields, AllAfter, AreRising}
use Rattle.bw_tree.specs.Nodes.{lowered, lowered_from}
use Rattle.bw_tree.specs.Tree.{root_group}
use Rattle.bw_tree.proofs.PlaceLemmas.{StandsAt, stands_at, stands_later, key_there}
use Rattle.bw_tree.proofs.RemoveLemmas.{rising_removed}
use Rattle.bw_tree.proofs.SnapshotLemmas.{after_at, place_read, rising_at}

-- ---- one node after another

-- the next node is lowered
pub lower_step : (place : ℕ) (ns : List Node) (i : ℕ) (x : Node) → i < length ns → x ≡ get_or ns i x
    → lowered_from place (suc i) (slice_set ns i (lowered place x)) ≡ lowered_from place i ns
lower_step place [] i x lt is = absurd (omega (arith, lt))
lower_step place (n ∷ ns) zero x lt is =
    ap (λ (y : Node). lowered place y ∷ lowered_from place zero ns) is
lower_step place (n ∷ ns) (suc i) x lt is =
    ap (λ (ys : List Node). n ∷ ys) (lower_step place ns i x (omega (arith, lt)) is)

-- past the last node none is lowered
pub lower_end : (place : ℕ) (ns : List Node) (n : ℕ) → length ns ≤ n
    → lowered_from place n ns ≡ ns
lower_end place [] n le = refl
lower_end place (x ∷ xs) zero le = absurd (omega (arith, le))
lower_end place (x ∷ xs) (suc n) le =
    ap (λ (ys : List Node). x ∷ ys) (lower_end place xs n (omega (arith, le)))

-- ---- ids and their places

-- groups in order of creation, each with its id
abbrev pub Groups : Type 0
Groups = List (ℕ × GroupFields)

-- groups that come last leave the ids before them
key_pushed : (gs more : Groups) (i : ℕ) → i < length gs
    → get_or (keys_of (gs ++ more)) i 0 ≡ get_or (keys_of gs) i 0
key_pushed [] more i lt = absurd (omega (arith, lt))
key_pushed (e ∷ es) more zero lt = refl
key_pushed (e ∷ es) more (suc i) lt = key_pushed es more i (omega (arith, lt))

long_pushed : (gs more : Groups) → length gs ≤ length (keys_of (gs ++ more))
long_pushed [] more = omega arith
long_pushed (e ∷ es) more = omega (arith, long_pushed es more)

-- and so their places
pub place_pushed : (gs more : Groups) (id i : ℕ) → AreRising (gs ++ more)
    → position (eqb id) (keys_of gs) ≡ Some i → position (eqb id) (keys_of (gs ++ more)) ≡ Some i
place_pushed gs more id i up place =
    let at = stands_at gs id i place in
    let key : get_or (keys_of gs) i 0 ≡ id = sym (eqb-true id (get_or (keys_of gs) i 0) at.here) in
    place_read (gs ++ more) i id up (omega (arith, at.within, long_pushed gs more))
    (key_pushed gs more i at.within ∙ key)

-- the ids that are left, where one is taken out
key_before : (gs : Groups) (id i k : ℕ) → StandsAt gs id i → k < i
    → get_or (keys_of (remove_entry (eqb id) gs)) k 0 ≡ get_or (keys_of gs) k 0
key_before [] id i k at lt = absurd (omega (arith, at.within))
key_before (e ∷ es) id zero k at lt = absurd (omega (arith, lt))
key_before (e ∷ es) id (suc i) k at lt =
    ap (λ (b : Bool). get_or (keys_of (cond b es (e ∷ remove_entry (eqb id) es))) k 0)
    (at.before 0 (omega arith))
    ∙ by k lt (λ k. key_before es id i k (stands_later e es id i at))
  where
    by : (k : ℕ) → k < suc i → ((k : ℕ) → k < i
        → get_or (keys_of (remove_entry (eqb id) es)) k 0 ≡ get_or (keys_of es) k 0)
        → get_or (keys_of (e ∷ remove_entry (eqb id) es)) k 0 ≡ get_or (keys_of (e ∷ es)) k 0
    by zero lt rest = refl
    by (suc k) lt rest = rest k (omega (arith, lt))

key_behind : (gs : Groups) (id i k : ℕ) → StandsAt gs id i → i ≤ k
    → get_or (keys_of (remove_entry (eqb id) gs)) k 0 ≡ get_or (keys_of gs) (suc k) 0
key_behind [] id i k at le = absurd (omega (arith, at.within))
key_behind (e ∷ es) id zero k at le =
    ap (λ (b : Bool). get_or (keys_of (cond b es (e ∷ remove_entry (eqb id) es))) k 0) at.here
key_behind (e ∷ es) id (suc i) zero at le = absurd (omega (arith, le))
key_behind (e ∷ es) id (suc i) (suc k) at le =
    ap (λ (b : Bool). get_or (keys_of (cond b es (e ∷ remove_entry (eqb id) es))) (suc k) 0)
    (at.before 0 (omega arith))
    ∙ key_behind es id i k (stands_later e es id i at) (omega (arith, le))

long_removed : (gs : Groups) (id i : ℕ) → StandsAt gs id i
    → suc (length (keys_of (remove_entry (eqb id) gs))) ≡ length gs
long_removed [] id i at = absurd (omega (arith, at.within))
long_removed (e ∷ es) id zero at =
    ap (λ (b : Bool). suc (length (keys_of (cond b es (e ∷ remove_entry (eqb id) es))))) at.here
    ∙ ap suc (length-map es (λ (e : ℕ × GroupFields). e.0))
long_removed (e ∷ es) id (suc i) at =
    ap (λ (b : Bool). suc (length (keys_of (cond b es (e ∷ remove_entry (eqb id) es)))))
    (at.before 0 (omega arith))
    ∙ ap suc (long_removed es id i (stands_later e es id i at))

module _ (gs : Groups) (id i : ℕ) (up : AreRising gs) (at : StandsAt gs id i) where
  -- the groups that are left
  abbrev pub hs : Groups
  hs = remove_entry (eqb id) gs

  -- ids rise from place to place
  key_rise : (j k : ℕ) → j < k → k < length gs
      → get_or (keys_of gs) j 0 < get_or (keys_of gs) k 0
  key_rise j k lt within =
      let d : ℕ × GroupFields = (0, root_group) in
      omega (
        arith,
        rising_at gs j k d up lt within,
        get_or-map (λ (e : ℕ × GroupFields). e.0) gs j d 0 (omega (arith, lt, within)),
        get_or-map (λ (e : ℕ × GroupFields). e.0) gs k d 0 within,
      )

  key_at : (q j : ℕ) → position (eqb q) (keys_of gs) ≡ Some j → get_or (keys_of gs) j 0 ≡ q
  key_at q j place =
      sym (eqb-true q (get_or (keys_of gs) j 0) (stands_at gs q j place).here)

  own_key : get_or (keys_of gs) i 0 ≡ id
  own_key = sym (eqb-true id (get_or (keys_of gs) i 0) at.here)

  -- another group moves up by one, if it stood behind
  pub place_left : (q j : ℕ) → position (eqb q) (keys_of gs) ≡ Some j → q ≢ id
      → position (eqb q) (keys_of hs) ≡ Some (cond (ltb i j) (j - 1) j)
  place_left q j place apart = by (cases_order i j)
    where
      within : j < length gs
      within = (stands_at gs q j place).within

      long : suc (length (keys_of hs)) ≡ length gs
      long = long_removed gs id i at

      up_left : AreRising hs
      up_left = rising_removed id gs up

      by : (i ≡ j) ⊎ ((i < j) ⊎ (j < i))
          → position (eqb q) (keys_of hs) ≡ Some (cond (ltb i j) (j - 1) j)
      by (inl same) = absurd (apart (sym (key_at q j place)
          ∙ ap (λ (k : ℕ). get_or (keys_of gs) k 0) (sym same) ∙ own_key))
      by (inr (inl before)) =
          let next : suc (j - 1) ≡ j = omega (arith, before) in
          place_read hs (j - 1) q up_left (omega (arith, within, long, before))
          (key_behind gs id i (j - 1) at (omega (arith, before))
          ∙ ap (λ (k : ℕ). get_or (keys_of gs) k 0) next ∙ key_at q j place)
          ∙ sym (ap (λ (b : Bool). Some (cond b (j - 1) j)) (lt-ltb i j before))
      by (inr (inr behind)) =
          place_read hs j q up_left (omega (arith, at.within, long, behind))
          (key_before gs id i j at behind ∙ key_at q j place)
          ∙ sym (ap (λ (b : Bool). Some (cond b (j - 1) j)) (le-ltb i j (omega (arith, behind))))

  -- a lower id stood before
  pub place_low : (q j : ℕ) → position (eqb q) (keys_of gs) ≡ Some j → q < id
      → position (eqb q) (keys_of hs) ≡ Some j
  place_low q j place low = by (cases_order i j)
    where
      by : (i ≡ j) ⊎ ((i < j) ⊎ (j < i)) → position (eqb q) (keys_of hs) ≡ Some j
      by (inl same) =
          let e : get_or (keys_of gs) i 0 ≡ get_or (keys_of gs) j 0 =
          ap (λ (k : ℕ). get_or (keys_of gs) k 0) same in
          absurd (omega (arith, e, own_key, key_at q j place, low))
      by (inr (inl before)) =
          absurd (omega (
            arith,
            key_rise i j before (stands_at gs q j place).within,
            own_key,
            key_at q j place,
            low,
          ))
      by (inr (inr behind)) =
          place_left q j place (λ same. omega (arith, low, same))
          ∙ ap (λ (b : Bool). Some (cond b (j - 1) j)) (le-ltb i j (omega (arith, behind)))

-- ---- the nodes that are left

-- a fact of each group's id and its node
abbrev pub Facts : (ℕ → Node → Type 0) → Groups → List Node → Type 0
Facts P gs ns = AllZip (λ e n. P e.0 n) gs ns

-- nodes behind the one that is taken out are lowered
module _ (P Q : ℕ → Node → Type 0) (id place : ℕ)
    (first : (k : ℕ) (n : Node) → k < id → P k n → Q k n)
    (later : (k : ℕ) (n : Node) → id < k → P k n → Q k (lowered place n)) where
  all_later : (gs : Groups) (ns : List Node) → AllAfter id gs → Facts P gs ns
      → Facts Q gs (lowered_from place zero ns)
  all_later [] [] after all = tt
  all_later [] (n ∷ ns) after all = absurd all
  all_later (e ∷ es) [] after all = absurd all
  all_later (e ∷ es) (n ∷ ns) after all =
      (later e.0 n after.0 all.0, all_later es ns after.1 all.1)

  pub nodes_lowered : (gs : Groups) (ns : List Node) (i : ℕ) → AreRising gs → StandsAt gs id i
      → Facts P gs ns → Facts Q (remove_entry (eqb id) gs) (lowered_from place i (remove ns i))
  nodes_lowered [] ns i up at all = absurd (omega (arith, at.within))
  nodes_lowered (e ∷ es) [] i up at all = absurd all
  nodes_lowered (e ∷ es) (n ∷ ns) zero up at all =
      subst (λ (b : Bool). Facts Q (cond b es (e ∷ remove_entry (eqb id) es))
      (lowered_from place zero ns)) (sym at.here)
      (all_later es ns (subst (λ k. AllAfter k es) (sym (eqb-true id e.0 at.here)) up.0) all.1)
  nodes_lowered (e ∷ es) (n ∷ ns) (suc i) up at all =
      let rest = stands_later e es id i at in
      let d : ℕ × GroupFields = (0, root_group) in
      let low : e.0 < id =
      omega (arith, after_at es e.0 i d up.0 rest.within, key_there es id i d rest) in
      subst (λ (b : Bool). Facts Q (cond b es (e ∷ remove_entry (eqb id) es))
      (n ∷ lowered_from place i (remove ns i))) (sym (at.before 0 (omega arith)))
      (first e.0 n low all.0, nodes_lowered es ns i up.1 rest all.1)
