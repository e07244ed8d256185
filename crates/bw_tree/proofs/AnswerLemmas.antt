-- What the index of children answers, after a child is put in or taken out.
use Rattle.std.proofs.Common.{◌≡◌, ◌≢◌, ◌⊎◌, inl, inr, ℕ, Bool, true, false, cond, ◌&&◌, List}
use Rattle.std.proofs.Common.{Option, Some, None, is_some, refl, sym, ap, ◌∙◌, eqb}
use Rattle.std.proofs.lemmas.Bool.{and_parts, eq-eqb, eqb-true}
use Rattle.std.proofs.lemmas.Bool.Decides.{eqb_tells}
use Rattle.std.specs.HashMap.{get}
use Rattle.std.specs.Str.{bytes_eq}
use Rattle.std.specs.Cmp.Lexicographic.{bytes_decides}
use Rattle.bw_model.proofs.CallerLemmas.{and_no}
use Rattle.bw_tree.specs.declared.child_index.ChildIndex.{ChildIndex}
use Rattle.bw_tree.specs.Keys.{text_at, first_of, without}
use Rattle.bw_tree.specs.Children.{child_among, child_at, AnswersAs, IsAdded, IsTaken}
use Rattle.bw_tree.specs.Groups.{GroupFields, is_child_at}

-- where each group is the same child, the same is answered
pub at_same : (gs hs : List (ℕ × GroupFields)) (index : ChildIndex) (k p : ℕ) (n : List ℕ)
    → ((q : ℕ) → is_child_at hs q p n ≡ is_child_at gs q p n)
    → child_at hs index k p n ≡ child_at gs index k p n
at_same gs hs index k p n same = by (get eqb index.first k)
  where
    by : (o : Option ℕ) → child_among hs o (text_at index.others p n) p n
        ≡ child_among gs o (text_at index.others p n) p n
    by None = refl
    by (Some q) = ap (λ b. cond b (Some q) (text_at index.others p n)) (same q)

-- an index that answers as another finds the same children
pub alike : (gs : List (ℕ × GroupFields)) (old new : ChildIndex) → AnswersAs old new
    → (k p : ℕ) (n : List ℕ) → child_at gs new k p n ≡ child_at gs old k p n
alike gs old new same k p n =
    ap (λ o. child_among gs o (text_at new.others p n) p n) (same.first k)
    ∙ ap (λ o. child_among gs (get eqb old.first k) o p n) (same.others p n)

-- the key of a parent and a name is one
key_apart : (keys : ℕ → List ℕ → ℕ) (parent p : ℕ) (name n : List ℕ)
    → (eqb parent p && bytes_eq name n) ≡ true
    → eqb (keys parent name) (keys p n) ≡ true
key_apart keys parent p name n same =
    let both = and_parts (eqb parent p) (bytes_eq name n) same in
    eq-eqb (keys parent name) (keys p n)
    (ap (λ k. keys k name) (eqb-true parent p both.0)
    ∙ ap (keys p) ((bytes_decides name n).0 both.1))

-- what is said of a parent and a name is said of the same parent and name
said_of : (gs : List (ℕ × GroupFields)) (q parent p : ℕ) (name n : List ℕ)
    → (eqb parent p && bytes_eq name n) ≡ true
    → is_child_at gs q parent name ≡ is_child_at gs q p n
said_of gs q parent p name n same =
    let both = and_parts (eqb parent p) (bytes_eq name n) same in
    ap (λ k. is_child_at gs q k name) (eqb-true parent p both.0)
    ∙ ap (is_child_at gs q p) ((bytes_decides name n).0 both.1)

-- a child that was put in is found by its parent and name, and every other as before
pub added_at : (gs : List (ℕ × GroupFields)) (keys : ℕ → List ℕ → ℕ) (old new : ChildIndex)
    (parent id : ℕ) (name : List ℕ) → IsAdded old new (keys parent name) parent name id
    → (p : ℕ) (n : List ℕ) → is_child_at gs id p n ≡ (eqb parent p && bytes_eq name n)
    → ((q : ℕ) → get eqb old.first (keys parent name) ≡ Some q
    → is_child_at gs q parent name ≡ true
    → q ≡ id)
    → child_at gs new (keys p n) p n
    ≡ cond (eqb parent p && bytes_eq name n) (Some id) (child_at gs old (keys p n) p n)
added_at gs keys old new parent id name added p n mine only =
    by (eqb (keys parent name) (keys p n))
    refl (get eqb old.first (keys p n)) refl
    (eqb parent p && bytes_eq name n) refl
  where
    moved : (b : Bool) → eqb (keys parent name) (keys p n) ≡ b → (o : Option ℕ)
        → get eqb old.first (keys p n) ≡ o
        → (h : Bool) → (eqb parent p && bytes_eq name n) ≡ h
        → child_at gs new (keys p n) p n
        ≡ child_among gs (cond b (first_of o id) o)
        (cond (is_some (get eqb old.first (keys parent name)) && h) (Some id)
        (text_at old.others p n)) p n
    moved b is_b o is_o h is_h =
        ap (λ k. child_among gs k (text_at new.others p n) p n) (added.first (keys p n))
        ∙ ap (λ k. child_among gs
        (cond (eqb (keys parent name) (keys p n))
        (first_of (get eqb old.first (keys p n)) id)
        (get eqb old.first (keys p n))) k p n)
        (added.others p n)
        ∙ ap (λ c. child_among gs
        (cond c (first_of (get eqb old.first (keys p n)) id)
        (get eqb old.first (keys p n)))
        (cond (is_some (get eqb old.first (keys parent name))
        && (eqb parent p && bytes_eq name n))
        (Some id) (text_at old.others p n)) p n) is_b
        ∙ ap (λ k. child_among gs (cond b (first_of k id) k)
        (cond (is_some (get eqb old.first (keys parent name))
        && (eqb parent p && bytes_eq name n))
        (Some id) (text_at old.others p n)) p n) is_o
        ∙ ap (λ c. child_among gs (cond b (first_of o id) o)
        (cond (is_some (get eqb old.first (keys parent name)) && c) (Some id)
        (text_at old.others p n)) p n) is_h

    -- the slot of the name's own key
    slot : eqb (keys parent name) (keys p n) ≡ true → (o : Option ℕ)
        → get eqb old.first (keys p n) ≡ o
        → get eqb old.first (keys parent name) ≡ o
    slot is_b o is_o = ap (get eqb old.first)
        (eqb-true (keys parent name) (keys p n) is_b) ∙ is_o

    first_or : (q : ℕ) → get eqb old.first (keys parent name) ≡ Some q
        → (eqb parent p && bytes_eq name n) ≡ true
        → (c : Bool) → is_child_at gs q p n ≡ c → cond c (Some q) (Some id) ≡ Some id
    first_or q at is_h true is_c = ap Some (only q at (said_of gs q parent p name n is_h ∙ is_c))
    first_or q at is_h false is_c = refl

    by : (b : Bool) → eqb (keys parent name) (keys p n) ≡ b → (o : Option ℕ)
        → get eqb old.first (keys p n) ≡ o
        → (h : Bool) → (eqb parent p && bytes_eq name n) ≡ h
        → child_at gs new (keys p n) p n ≡ cond (eqb parent p && bytes_eq name n) (Some id)
        (child_at gs old (keys p n) p n)
    by true is_b None is_o h is_h =
        moved true is_b None is_o h is_h
        ∙ ap (λ k. cond (is_child_at gs id p n) (Some id)
        (cond (is_some k && h) (Some id) (text_at old.others p n))) (slot is_b None is_o)
        ∙ ap (λ c. cond c (Some id) (text_at old.others p n)) mine
        ∙ ap (λ k. cond (eqb parent p && bytes_eq name n) (Some id)
        (child_among gs k (text_at old.others p n) p n)) (sym is_o)
    by true is_b (Some q) is_o true is_h =
        moved true is_b (Some q) is_o true is_h
        ∙ ap (λ k. cond (is_child_at gs q p n) (Some q)
        (cond (is_some k && true) (Some id) (text_at old.others p n))) (slot is_b (Some q) is_o)
        ∙ first_or q (slot is_b (Some q) is_o) is_h (is_child_at gs q p n) refl
        ∙ ap (λ c. cond c (Some id) (child_at gs old (keys p n) p n)) (sym is_h)
    by true is_b (Some q) is_o false is_h =
        moved true is_b (Some q) is_o false is_h
        ∙ ap (λ k. cond (is_child_at gs q p n) (Some q)
        (cond (is_some k && false) (Some id) (text_at old.others p n)))
        (slot is_b (Some q) is_o)
        ∙ ap (λ k. child_among gs k (text_at old.others p n) p n) (sym is_o)
        ∙ ap (λ c. cond c (Some id) (child_at gs old (keys p n) p n)) (sym is_h)
    by false is_b o is_o true is_h =
        let wrong : true ≡ false = sym (key_apart keys parent p name n is_h) ∙ is_b
        in absurd (cc)
    by false is_b o is_o false is_h =
        moved false is_b o is_o false is_h
        ∙ ap (λ c. child_among gs o (cond c (Some id) (text_at old.others p n)) p n)
        (and_no (is_some (get eqb old.first (keys parent name))))
        ∙ ap (λ k. child_among gs k (text_at old.others p n) p n) (sym is_o)
        ∙ ap (λ c. cond c (Some id) (child_at gs old (keys p n) p n)) (sym is_h)

-- a child that was taken out is found no more, and every other as before
pub taken_at : (gs hs : List (ℕ × GroupFields)) (keys : ℕ → List ℕ → ℕ) (old new : ChildIndex)
    (parent id : ℕ) (name : List ℕ) → IsTaken old new (keys parent name) parent name id
    → (p : ℕ) (n : List ℕ) → is_child_at gs id p n ≡ (eqb parent p && bytes_eq name n)
    → is_child_at hs id p n ≡ false
    → ((q : ℕ) → eqb q id ≡ false → is_child_at hs q p n ≡ is_child_at gs q p n)
    → ((q : ℕ) → is_child_at hs q parent name ≡ false)
    → child_at hs new (keys p n) p n
    ≡ cond (eqb parent p && bytes_eq name n) None (child_at gs old (keys p n) p n)
taken_at gs hs keys old new parent id name taken p n mine gone there alone =
    by (eqb (keys parent name) (keys p n))
    refl (get eqb old.first (keys p n)) refl
    (eqb parent p && bytes_eq name n) refl
  where
    moved : (b : Bool) → eqb (keys parent name) (keys p n) ≡ b → (o : Option ℕ)
        → get eqb old.first (keys p n) ≡ o
        → (h : Bool) → (eqb parent p && bytes_eq name n) ≡ h
        → child_at hs new (keys p n) p n ≡ child_among hs (cond b (without id o) o)
        (cond h None (text_at old.others p n)) p n
    moved b is_b o is_o h is_h =
        ap (λ k. child_among hs k (text_at new.others p n) p n) (taken.first (keys p n))
        ∙ ap (λ k. child_among hs
        (cond (eqb (keys parent name) (keys p n))
        (without id (get eqb old.first (keys p n)))
        (get eqb old.first (keys p n))) k p n)
        (taken.others p n)
        ∙ ap (λ c. child_among hs
        (cond c (without id (get eqb old.first (keys p n)))
        (get eqb old.first (keys p n)))
        (cond (eqb parent p && bytes_eq name n) None (text_at old.others p n)) p n) is_b
        ∙ ap (λ k. child_among hs (cond b (without id k) k)
        (cond (eqb parent p && bytes_eq name n) None (text_at old.others p n)) p n) is_o
        ∙ ap (λ c. child_among hs (cond b (without id o) o) (cond c None (text_at old.others p n)) p
        n) is_h

    -- the old answer
    was : (o : Option ℕ) → get eqb old.first (keys p n) ≡ o → (h : Bool)
        → (eqb parent p && bytes_eq name n) ≡ h
        → cond h None (child_among gs o (text_at old.others p n) p n)
        ≡ cond (eqb parent p && bytes_eq name n) None (child_at gs old (keys p n) p n)
    was o is_o h is_h =
        ap (λ c. cond c None (child_among gs o (text_at old.others p n) p n)) (sym is_h)
        ∙ ap (λ k. cond (eqb parent p && bytes_eq name n) None
        (child_among gs k (text_at old.others p n) p n)) (sym is_o)

    -- elsewhere each group is the same child
    same : (eqb parent p && bytes_eq name n) ≡ false → (q : ℕ)
        → is_child_at hs q p n ≡ is_child_at gs q p n
    same is_h q = onto (eqb_tells q id)
      where
        onto : ((eqb q id ≡ true) × (q ≡ id)) ⊎ ((eqb q id ≡ false) × (q ≢ id))
            → is_child_at hs q p n ≡ is_child_at gs q p n
        onto (inl is) = ap (λ k. is_child_at hs k p n) is.1 ∙ gone
            ∙ sym (ap (λ k. is_child_at gs k p n) is.1 ∙ mine ∙ is_h)
        onto (inr apart) = there q apart.0

    kept : (q : ℕ) → (eqb parent p && bytes_eq name n) ≡ false
        → child_among hs (Some q) (text_at old.others p n) p n
        ≡ child_among gs (Some q) (text_at old.others p n) p n
    kept q is_h = ap (λ c. cond c (Some q) (text_at old.others p n)) (same is_h q)

    slot_of : (q : ℕ) (c : Bool) → eqb q id ≡ c → (h : Bool) → (eqb parent p && bytes_eq name n) ≡ h
        → child_among hs (cond c None (Some q)) (cond h None (text_at old.others p n)) p n
        ≡ cond h None (child_among gs (Some q) (text_at old.others p n) p n)
    slot_of q true is_c true is_h = refl
    slot_of q true is_c false is_h =
        ap (λ c. cond c (Some q) (text_at old.others p n))
        (sym (ap (λ k. is_child_at gs k p n) (eqb-true q id is_c) ∙ mine ∙ is_h))
    slot_of q false is_c true is_h =
        ap (λ c. cond c (Some q) None) (sym (said_of hs q parent p name n is_h) ∙ alone q)
    slot_of q false is_c false is_h = kept q is_h

    by : (b : Bool) → eqb (keys parent name) (keys p n) ≡ b → (o : Option ℕ)
        → get eqb old.first (keys p n) ≡ o
        → (h : Bool) → (eqb parent p && bytes_eq name n) ≡ h
        → child_at hs new (keys p n) p n
        ≡ cond (eqb parent p && bytes_eq name n) None (child_at gs old (keys p n) p n)
    by true is_b None is_o h is_h = moved true is_b None is_o h is_h ∙ was None is_o h is_h
    by true is_b (Some q) is_o h is_h = moved true is_b (Some q) is_o h is_h
        ∙ slot_of q (eqb q id) refl h is_h ∙ was (Some q) is_o h is_h
    by false is_b o is_o true is_h =
        let wrong : true ≡ false = sym (key_apart keys parent p name n is_h) ∙ is_b
        in absurd (cc)
    by false is_b None is_o false is_h =
        moved false is_b None is_o false is_h ∙ was None is_o false is_h
    by false is_b (Some q) is_o false is_h =
        moved false is_b (Some q) is_o false is_h ∙ kept q is_h ∙ was (Some q) is_o false is_h
