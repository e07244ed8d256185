-- What is kept beside each group, after each change of the groups.
use Rattle.std.proofs.Common.{◌≡◌, ◌≢◌, ℕ, suc, zero, ◌<◌, Bool, true, false, cond}
use Rattle.std.proofs.Common.{◌||◌, List, [], ◌∷◌, ◌++◌, length, get_or, position, Some, None}
use Rattle.std.proofs.Common.{refl, sym, ap, subst, ◌∙◌, arith, eqb}
use Rattle.std.specs.Prelude.{slice_set}
use Rattle.std.proofs.lemmas.Bool.{eq-eqb, ne_eqb, eqb-true}
use Rattle.std.proofs.lemmas.List.{get_or_default}
use Rattle.std.proofs.lemmas.Slice.Zip.{AllZip-long}
use Rattle.std.specs.List.{AllZip, remove}
use Rattle.std.specs.Map.{keys_of, remove_entry, set_value}
use Rattle.bw_tree.specs.declared.node.Node.{Node}
use Rattle.bw_tree.specs.declared.path_hash.PathHash.{PathHash}
use Rattle.bw_tree.specs.declared.tail.Tail.{Tail}
use Rattle.bw_tree.specs.Groups.{GroupFields, TreeState, group_at, has_group, has_children}
use Rattle.bw_tree.specs.Groups.{is_parent, children_count, IsTree, AllAfter, AllBefore}
use Rattle.bw_tree.specs.Groups.{AreRising}
use Rattle.bw_tree.specs.Nodes.{root_node, leaf_below, node_at, one_child_more, one_child_less}
use Rattle.bw_tree.specs.Nodes.{lowered, lowered_from}
use Rattle.bw_tree.specs.Nodes.{IsNodeOf, AreNodesOf}
use Rattle.bw_tree.specs.Tails.{IsTailOf, no_tail}
use Rattle.bw_tree.specs.Tree.{changed, changed_at}
use Rattle.bw_tree.proofs.CountLemmas.{count_push, count_removed, count_set, count_has}
use Rattle.bw_tree.proofs.GroupLemmas.{not_positive}
use Rattle.bw_tree.proofs.IndexLemmas.{at_more}
use Rattle.bw_tree.proofs.LowerLemmas.{nodes_lowered, place_left, place_low, place_pushed}
use Rattle.bw_tree.proofs.PlaceLemmas.{StandsAt, stands_at, stands_later}
use Rattle.bw_tree.specs.Groups.{above, parent_of}
use Rattle.bw_tree.proofs.GroupLemmas.{above_here, above_more, look_push_other, look_push_same}
use Rattle.bw_tree.proofs.GroupLemmas.{parent_found, child_push_old}
use Rattle.bw_tree.proofs.RemoveLemmas.{children_found, look_removed_other}
use Rattle.bw_tree.proofs.SetLemmas.{look_set_other, look_set_same, child_set}
use Rattle.bw_tree.proofs.TailLemmas.{tail_kept, tail_left}
use Rattle.std.proofs.Common.{◌⊎◌, inl, inr, Option, leb, ◌≤◌, ◌+◌, ◌-◌, is_some}
use Rattle.std.proofs.lemmas.Bool.{cases_lt, le-leb, lt-leb}
use Rattle.std.proofs.lemmas.Bool.Decides.{eqb_tells}
use Rattle.bw_model.proofs.CallerLemmas.{inside}

-- a list of groups, each with its id
abbrev pub Groups : Type 0
Groups = List (ℕ × GroupFields)

module _ (P : ℕ → Node → Type 0) where
  -- a fact of each group's id and its node
  abbrev pub Beside : Groups → List Node → Type 0
  Beside gs ns = AllZip (λ e n. P e.0 n) gs ns

  -- the node of a group
  pub node_read : (gs : Groups) (ns : List Node) (id i : ℕ) → StandsAt gs id i → Beside gs ns
      → P id (node_at ns i)
  node_read [] ns id i at all = absurd (omega (arith, at.within))
  node_read (e ∷ es) [] id i at all = absurd all
  node_read (e ∷ es) (n ∷ ns) id zero at all =
      subst (λ k. P k n) (sym (eqb-true id e.0 at.here)) all.0
  node_read (e ∷ es) (n ∷ ns) id (suc i) at all =
      node_read es ns id i (stands_later e es id i at) all.1

  -- a group more, with its node
  pub node_push : (gs : Groups) (ns : List Node) (e : ℕ × GroupFields) (n : Node) → Beside gs ns
      → P e.0 n → Beside (gs ++ e ∷ []) (ns ++ n ∷ [])
  node_push [] [] e n all new = (new, tt)
  node_push [] (x ∷ ns) e n all new = absurd all
  node_push (y ∷ gs) [] e n all new = absurd all
  node_push (y ∷ gs) (x ∷ ns) e n all new = (all.0, node_push gs ns e n all.1 new)

-- there are as many nodes as groups
pub as_many : (gs : Groups) (fronts : ℕ → PathHash) (ns : List Node) → AreNodesOf gs fronts ns
    → length ns ≡ length gs
as_many gs fronts ns =
    AllZip-long (λ (e : ℕ × GroupFields) (n : Node). IsNodeOf gs fronts e.0 n) gs ns

-- beside the place of a group there is a node
pub node_within : (gs : Groups) (fronts : ℕ → PathHash) (ns : List Node) (id i : ℕ)
    → AreNodesOf gs fronts ns → position (eqb id) (keys_of gs) ≡ Some i → i < length ns
node_within gs fronts ns id i all place =
    omega (arith, (stands_at gs id i place).within, as_many gs fronts ns all)

-- what is read at the place of a group is its node
pub node_found : (gs : Groups) (fronts : ℕ → PathHash) (ns : List Node) (id i : ℕ) (node : Node)
    → AreNodesOf gs fronts ns → position (eqb id) (keys_of gs) ≡ Some i
    → node ≡ get_or ns i node → IsNodeOf gs fronts id node
node_found gs fronts ns id i node all place is =
    let within = node_within gs fronts ns id i all place in
    subst (IsNodeOf gs fronts id) (sym (is ∙ get_or_default ns i node (root_node no_tail) within))
    (node_read (IsNodeOf gs fronts) gs ns id i (stands_at gs id i place) all)

module _ (P Q : ℕ → Node → Type 0) where
  -- other groups with the same ids
  pub nodes_alike : (gs hs : Groups) (ns : List Node) → keys_of hs ≡ keys_of gs
      → ((id : ℕ) (n : Node) → P id n → Q id n) → Beside P gs ns → Beside Q hs ns
  nodes_alike [] [] [] same other all = tt
  nodes_alike [] [] (n ∷ ns) same other all = all
  nodes_alike [] (h ∷ hs) ns same other all = cc
  nodes_alike (e ∷ gs) [] ns same other all = cc
  nodes_alike (e ∷ gs) (h ∷ hs) [] same other all = all
  nodes_alike (e ∷ gs) (h ∷ hs) (n ∷ ns) same other all =
      let first : h.0 ≡ e.0 = cc in
      let rest : keys_of hs ≡ keys_of gs = cc in
      (subst (λ k. Q k n) (sym first) (other e.0 n all.0), nodes_alike gs hs ns rest other all.1)

  module _ (id : ℕ) (other : (k : ℕ) (n : Node) → k ≢ id → P k n → Q k n) where
    nodes_after : (gs : Groups) (ns : List Node) → AllAfter id gs → Beside P gs ns → Beside Q gs ns
    nodes_after [] [] after all = tt
    nodes_after [] (n ∷ ns) after all = all
    nodes_after (e ∷ es) [] after all = all
    nodes_after (e ∷ es) (n ∷ ns) after all = (
      other e.0 n (λ same. omega (arith, after.0, same)) all.0,
      nodes_after es ns after.1 all.1,
    )

    pub nodes_before : (gs : Groups) (ns : List Node) → AllBefore id gs → Beside P gs ns
        → Beside Q gs ns
    nodes_before [] [] before all = tt
    nodes_before [] (n ∷ ns) before all = all
    nodes_before (e ∷ es) [] before all = all
    nodes_before (e ∷ es) (n ∷ ns) before all = (
      other e.0 n (λ same. omega (arith, before.0, same)) all.0,
      nodes_before es ns before.1 all.1,
    )

    -- the node of one group changes
    pub node_set : (gs : Groups) (ns : List Node) (i : ℕ) (new : Node) → AreRising gs
        → StandsAt gs id i → (P id (node_at ns i) → Q id new) → Beside P gs ns
        → Beside Q gs (slice_set ns i new)
    node_set [] ns i new up at own all = absurd (omega (arith, at.within))
    node_set (e ∷ es) [] i new up at own all = absurd all
    node_set (e ∷ es) (n ∷ ns) zero new up at own all =
        let same : id ≡ e.0 = eqb-true id e.0 at.here in (
          subst (λ k. Q k new) same (own (subst (λ k. P k n) (sym same) all.0)),
          nodes_after es ns (subst (λ k. AllAfter k es) (sym same) up.0) all.1,
        )
    node_set (e ∷ es) (n ∷ ns) (suc i) new up at own all =
        let apart : eqb id e.0 ≡ false = at.before 0 (omega arith) in (
          other e.0 n
              (λ same. let clash : true ≡ false = sym (eq-eqb id e.0 (sym same)) ∙ apart in
              absurd (cc)) all.0,
          node_set es ns i new up.1 (stands_later e es id i at) own all.1,
        )

-- where there is a child, there is a group that is one
child_there : (gs : Groups) (p : ℕ) → AreRising gs → has_children gs p ≡ true
    → (q : ℕ) × (h : GroupFields) × (group_at gs q ≡ Some h) × (h.parent ≡ Some p)
child_there [] p up has = cc
child_there (e ∷ es) p up has = by (is_parent e.1.parent p) refl has (child_there es p up.1)
  where
    parent_is : (o : _) → is_parent o p ≡ true → o ≡ Some p
    parent_is None is = cc
    parent_is (Some q) is = ap Some (eqb-true q p is)

    by : (b : Bool) → is_parent e.1.parent p ≡ b → (b || has_children es p) ≡ true
        → (has_children es p ≡ true
        → (q : ℕ) × (h : GroupFields) × (group_at es q ≡ Some h) × (h.parent ≡ Some p))
        → (q : ℕ) × (h : GroupFields) × (group_at (e ∷ es) q ≡ Some h) × (h.parent ≡ Some p)
    by true is has rest = (
      e.0,
      e.1,
      ap (λ b. cond b (Some e.1) (group_at es e.0)) (eq-eqb e.0 e.0 refl),
      parent_is e.1.parent is,
    )
    by false is has rest = let h = rest has in
        (h.0, h.1, at_more e es h.0 h.1 up.0 h.2, h.3)

-- no group has a parent that is none
pub childless : (t : TreeState) → IsTree t → (p : ℕ) → has_group t.groups p ≡ false
    → has_children t.groups p ≡ false
childless t ok p none = by (has_children t.groups p) refl
  where
    by : (b : Bool) → has_children t.groups p ≡ b → has_children t.groups p ≡ false
    by false is = is
    by true is =
        let h = child_there t.groups p ok.rising is in
        let clash : true ≡ false = sym (ok.parents h.0 p h.1 h.2 h.3).1 ∙ none in
        absurd (cc)

pub none_counted : (gs : Groups) (p : ℕ) → has_children gs p ≡ false → children_count gs p ≡ 0
none_counted gs p none = not_positive (children_count gs p) (count_has gs p ∙ none)

-- a count of which one group is told
counted_by : (b : Bool) (gs : Groups) (p k : ℕ) (g : GroupFields) → is_parent g.parent p ≡ b
    → children_count (gs ++ (k, g) ∷ []) p
    ≡ cond b (suc (children_count gs p)) (children_count gs p)
counted_by b gs p k g is =
    count_push gs k p g
    ∙ ap (λ (x : Bool). cond x (suc (children_count gs p)) (children_count gs p)) is

left_by : (b : Bool) (gs : Groups) (id p : ℕ) (g : GroupFields) → group_at gs id ≡ Some g
    → is_parent g.parent p ≡ b
    → children_count gs p ≡ cond b (suc (children_count (remove_entry (eqb id) gs) p))
    (children_count (remove_entry (eqb id) gs) p)
left_by b gs id p g at is =
    count_removed id g gs p at
    ∙ ap (λ (x : Bool). cond x (suc (children_count (remove_entry (eqb id) gs) p))
    (children_count (remove_entry (eqb id) gs) p)) is

-- a way up stays where its steps stay
pub above_kept : (gs hs : Groups) (W : ℕ → Type 0)
    → ((q p : ℕ) → W q → parent_of (group_at gs q) ≡ Some p
    → (parent_of (group_at hs q) ≡ Some p) × W p)
    → (steps id top : ℕ) → W id → above gs steps id ≡ Some top → above hs steps id ≡ Some top
above_kept gs hs W step zero id top w at = above_here hs id ∙ sym (above_here gs id) ∙ at
above_kept gs hs W step (suc steps) id top w at =
    by (parent_of (group_at gs id)) refl (λ p. above_kept gs hs W step steps p top)
  where
    by : (o : Option ℕ) → parent_of (group_at gs id) ≡ o
        → ((p : ℕ) → W p → above gs steps p ≡ Some top → above hs steps p ≡ Some top)
        → above hs (suc steps) id ≡ Some top
    by None up higher =
        let wrong : None ≡ Some top = sym (above_more gs steps id None up) ∙ at in absurd (cc)
    by (Some p) up higher =
        let next = step id p w up in
        above_more hs steps id (Some p) next.0
        ∙ higher p next.1 (sym (above_more gs steps id (Some p) up) ∙ at)

-- above the end of a way nothing lies
above_ends : (gs : Groups) (steps more id : ℕ) → above gs steps id ≡ None
    → above gs (steps + more) id ≡ None
above_ends gs zero more id none = let wrong : Some id ≡ None = sym (above_here gs id) ∙ none in
    absurd (cc)
above_ends gs (suc steps) more id none =
    let e : suc steps + more ≡ suc (steps + more) = omega arith in
    ap (λ n. above gs n id) e
    ∙ by (parent_of (group_at gs id)) refl (λ p. above_ends gs steps more p)
  where
    by : (o : Option ℕ) → parent_of (group_at gs id) ≡ o
        → ((p : ℕ) → above gs steps p ≡ None → above gs (steps + more) p ≡ None)
        → above gs (suc (steps + more)) id ≡ None
    by None up higher = above_more gs (steps + more) id None up
    by (Some p) up higher = above_more gs (steps + more) id (Some p) up
        ∙ higher p (sym (above_more gs steps id (Some p) up) ∙ none)

-- nor above one that has no parent
above_top : (gs : Groups) (steps more id top : ℕ) → above gs steps id ≡ Some top
    → parent_of (group_at gs top) ≡ None → above gs (steps + suc more) id ≡ None
above_top gs zero more id top at none =
    let same : id ≡ top = inside (sym (above_here gs id) ∙ at) in
    let e : zero + suc more ≡ suc more = omega arith in
    ap (λ n. above gs n id) e
    ∙ above_more gs more id None (ap (λ k. parent_of (group_at gs k)) same ∙ none)
above_top gs (suc steps) more id top at none =
    let e : suc steps + suc more ≡ suc (steps + suc more) = omega arith in
    ap (λ n. above gs n id) e
    ∙ by (parent_of (group_at gs id)) refl (λ p is. above_top gs steps more p top is none)
  where
    by : (o : Option ℕ) → parent_of (group_at gs id) ≡ o
        → ((p : ℕ) → above gs steps p ≡ Some top → above gs (steps + suc more) p ≡ None)
        → above gs (suc (steps + suc more)) id ≡ None
    by None up higher =
        let wrong : None ≡ Some top = sym (above_more gs steps id None up) ∙ at in absurd (cc)
    by (Some p) up higher = above_more gs (steps + suc more) id (Some p) up
        ∙ higher p (sym (above_more gs steps id (Some p) up) ∙ at)

-- a depth is below each number of steps that leads nowhere
pub depth_below : (gs : Groups) (depth steps id top : ℕ) → above gs depth id ≡ Some top
    → above gs steps id ≡ None → depth < steps
depth_below gs depth steps id top at none = by (cases_lt depth steps)
  where
    by : (depth < steps) ⊎ (steps ≤ depth) → depth < steps
    by (inl lt) = lt
    by (inr le) =
        let e : depth ≡ steps + (depth - steps) = omega (arith, le) in
        let wrong : Some top ≡ None = sym at ∙ ap (λ n. above gs n id) e
        ∙ above_ends gs steps (depth - steps) id none in
        absurd (cc)

-- a group lies so deep where so many steps lead to a group
pub deep_enough : (gs : Groups) (depth steps id top : ℕ) → above gs depth id ≡ Some top
    → parent_of (group_at gs top) ≡ None
    → leb steps depth ≡ is_some (above gs steps id)
deep_enough gs depth steps id top at none = by (above gs steps id) refl
  where
    by : (o : Option ℕ) → above gs steps id ≡ o → leb steps depth ≡ is_some o
    by None is = let lt = depth_below gs depth steps id top at is in
        lt-leb steps depth lt
    by (Some k) is = onto (cases_lt depth steps)
      where
        onto : (depth < steps) ⊎ (steps ≤ depth) → leb steps depth ≡ true
        onto (inr le) = le-leb steps depth le
        onto (inl lt) =
            let e : steps ≡ depth + suc (steps - depth - 1) = omega (arith, lt) in
            let wrong : Some k ≡ None = sym is ∙ ap (λ n. above gs n id) e
            ∙ above_top gs depth (steps - depth - 1) id top at none in
            absurd (cc)

-- the fronts, with one that is set
abbrev pub set_front : (ℕ → PathHash) → ℕ → PathHash → ℕ → PathHash
set_front fronts k front q = cond (eqb q k) front (fronts q)

-- it is the front of that group alone
pub front_of_other : (fronts : ℕ → PathHash) (k : ℕ) (front : PathHash) (q : ℕ) → q ≢ k
    → set_front fronts k front q ≡ fronts q
front_of_other fronts k front q apart = ap (λ b. cond b front (fronts q)) (ne_eqb q k apart)

-- the nodes say nothing of the front of a group that is to come
pub fronted : (gs : Groups) (fronts : ℕ → PathHash) (k : ℕ) (front : PathHash) (ns : List Node)
    → AllBefore k gs → AreNodesOf gs fronts ns → AreNodesOf gs (set_front fronts k front) ns
fronted gs fronts k front ns =
    nodes_before (IsNodeOf gs fronts) (IsNodeOf gs (set_front fronts k front)) k
    (λ q n apart is. record {
      children = is.children;
      depth = is.depth;
      place = is.place;
      front = is.front ∙ sym (front_of_other fronts k front q apart);
      tail = is.tail;
    })
    gs ns

-- one group more
module _ (gs : Groups) (fronts : ℕ → PathHash) (k parent i : ℕ) (g : GroupFields)
    (up : g.parent ≡ Some parent) (rising : AreRising gs) (absent : group_at gs k ≡ None)
    (apart : parent ≢ k)
    (none : has_children gs k ≡ false) (up_more : AreRising (gs ++ (k, g) ∷ []))
    (before : AllBefore k gs) (place : position (eqb parent) (keys_of gs) ≡ Some i) where
  stands : StandsAt gs parent i
  stands = stands_at gs parent i place

  old_way : (steps id top : ℕ) → above gs steps id ≡ Some top
      → above (gs ++ (k, g) ∷ []) steps id ≡ Some top
  old_way steps id top is =
      above_kept gs (gs ++ (k, g) ∷ []) (λ _. Unit {0}) step steps id top tt is
    where
      step : (q p : ℕ) → Unit {0} → parent_of (group_at gs q) ≡ Some p
          → (parent_of (group_at (gs ++ (k, g) ∷ []) q) ≡ Some p) × Unit {0}
      step q p w above_it =
          let found = parent_found (group_at gs q) p above_it in (
            ap parent_of (look_push_other gs k q g (ne_eqb q k (λ same.
                let wrong : Some found.0 ≡ None = sym found.1 ∙ ap (group_at gs) same ∙ absent in
                absurd (cc)))) ∙ above_it,
            tt,
          )

  old_tail : (tail : Tail) (id : ℕ) → IsTailOf gs tail id → IsTailOf (gs ++ (k, g) ∷ []) tail id
  old_tail = tail_kept gs (gs ++ (k, g) ∷ []) (λ p q n. child_push_old gs k p q n g)

  pub nodes_pushed : (ns : List Node) (tail : Tail)
      → (IsTailOf (gs ++ (k, g) ∷ []) (node_at ns i).tail parent
      → IsTailOf (gs ++ (k, g) ∷ []) tail k)
      → AreNodesOf gs fronts ns
      → AreNodesOf (gs ++ (k, g) ∷ []) fronts
      (slice_set ns i (one_child_more (node_at ns i))
      ++ leaf_below (node_at ns i) i (fronts k) tail ∷ [])
  nodes_pushed ns tail goes_on all =
      node_push (IsNodeOf hs fronts) gs _ (k, g) (leaf_below (node_at ns i) i (fronts k) tail)
      (node_set Old (IsNodeOf hs fronts) parent other gs ns i (one_child_more (node_at ns i))
      rising stands own
      (nodes_before (IsNodeOf gs fronts) Old k (λ q n old is. (old, is)) gs ns before all))
      (record {
        children = sym (counted_by false gs k k g
            (ap (λ o. is_parent o k) up ∙ ne_eqb parent k apart) ∙ none_counted gs k none);
        depth = lowest;
        place = λ p upward. ap (λ q. position (eqb q) (keys_of hs))
            (inside {a = p} {b = parent} (sym upward ∙ ap parent_of (look_push_same gs k g absent) ∙ up))
            ∙ place_pushed gs ((k, g) ∷ []) parent i up_more place;
        front = refl;
        tail = goes_on (old_tail (node_at ns i).tail parent
            (node_read (IsNodeOf gs fronts) gs ns parent i stands all).tail);
      })
    where
      hs : Groups
      hs = gs ++ (k, g) ∷ []

      -- the node of a group that was there
      Old : ℕ → Node → Type 0
      Old q n = (q ≢ k) × IsNodeOf gs fronts q n

      -- its parent stays where it stood
      old_place : (q a p : ℕ) → q ≢ k
          → ((p : ℕ) → parent_of (group_at gs q) ≡ Some p → position (eqb p) (keys_of gs) ≡ Some a)
          → parent_of (group_at hs q) ≡ Some p → position (eqb p) (keys_of hs) ≡ Some a
      old_place q a p old was upward =
          place_pushed gs ((k, g) ∷ []) p a up_more
          (was p (sym (ap parent_of (look_push_other gs k q g (ne_eqb q k old))) ∙ upward))

      other : (id : ℕ) (n : Node) → id ≢ parent → Old id n → IsNodeOf hs fronts id n
      other id n else_where old = let is = old.1 in record {
        children = is.children ∙ sym (counted_by false gs id k g
            (ap (λ o. is_parent o id) up ∙ ne_eqb parent id (λ same. else_where (sym same))));
        depth = old_way n.depth id 0 is.depth;
        place = λ p. old_place id n.above p old.0 is.place;
        front = is.front;
        tail = old_tail n.tail id is.tail;
      }

      own : Old parent (node_at ns i) → IsNodeOf hs fronts parent (one_child_more (node_at ns i))
      own old =
          let is = old.1 in
          let more = counted_by true gs parent k g
          (ap (λ o. is_parent o parent) up ∙ eq-eqb parent parent refl) in
          record {
            children = omega (arith, is.children, more);
            depth = old_way (node_at ns i).depth parent 0 is.depth;
            place = λ p. old_place parent (node_at ns i).above p old.0 is.place;
            front = is.front;
            tail = old_tail (node_at ns i).tail parent is.tail;
          }

      lowest : above hs ((node_at ns i).depth + 1) k ≡ Some 0
      lowest =
          let is = node_read (IsNodeOf gs fronts) gs ns parent i stands all in
          let e : (node_at ns i).depth + 1 ≡ suc (node_at ns i).depth = omega arith in
          ap (λ n. above hs n k) e
          ∙ above_more hs (node_at ns i).depth k (Some parent)
          (ap parent_of (look_push_same gs k g absent) ∙ up)
          ∙ old_way (node_at ns i).depth parent 0 is.depth

-- one group less
module _ (gs : Groups) (fronts : ℕ → PathHash) (id parent i j : ℕ) (g : GroupFields)
    (at : group_at gs id ≡ Some g) (up : g.parent ≡ Some parent) (whole : AreRising gs)
    (lone : has_children gs id ≡ false)
    (lower : (q p : ℕ) (h : GroupFields) → group_at gs q ≡ Some h → h.parent ≡ Some p → p < q)
    (place : StandsAt gs id i) (higher : StandsAt gs parent j) where
  -- the node of a group, whose children are those that are left
  record IsLeft (q : ℕ) (n : Node) : Type 0 where
    pub children : n.children ≡ children_count (remove_entry (eqb id) gs) q
    pub depth : above gs n.depth q ≡ Some 0
    pub stands : (p : ℕ) → parent_of (group_at gs q) ≡ Some p
        → position (eqb p) (keys_of gs) ≡ Some n.above
    pub front : n.front ≡ fronts q
    pub tail : IsTailOf gs n.tail q

  pub nodes_taken : (ns : List Node) → AreNodesOf gs fronts ns
      → AreNodesOf (remove_entry (eqb id) gs) fronts
      (lowered_from i i (remove (slice_set ns j (one_child_less (node_at ns j))) i))
  nodes_taken ns all =
      nodes_lowered IsLeft (IsNodeOf hs fronts) id i first later gs
      (slice_set ns j (one_child_less (node_at ns j))) i whole place
      (node_set (IsNodeOf gs fronts) IsLeft parent other gs ns j (one_child_less (node_at ns j))
      whole higher own all)
    where
      hs : Groups
      hs = remove_entry (eqb id) gs

      other : (q : ℕ) (n : Node) → q ≢ parent → IsNodeOf gs fronts q n → IsLeft q n
      other q n else_where is = record {
        children = is.children ∙ left_by false gs id q g at
            (ap (λ o. is_parent o q) up ∙ ne_eqb parent q (λ same. else_where (sym same)));
        depth = is.depth;
        stands = is.place;
        front = is.front;
        tail = is.tail;
      }

      own : IsNodeOf gs fronts parent (node_at ns j) → IsLeft parent (one_child_less (node_at ns j))
      own is =
          let less = left_by true gs id parent g at
          (ap (λ o. is_parent o parent) up ∙ eq-eqb parent parent refl) in
          record {
            children = omega (arith, is.children, less);
            depth = is.depth;
            stands = is.place;
            front = is.front;
            tail = is.tail;
          }

      step : (q p : ℕ) → q ≢ id → parent_of (group_at gs q) ≡ Some p
          → (parent_of (group_at hs q) ≡ Some p) × (p ≢ id)
      step q p w above_it =
          let found = parent_found (group_at gs q) p above_it in (
            ap parent_of (look_removed_other id gs q (ne_eqb q id w)) ∙ above_it,
            λ same. let wrong : true ≡ false =
                sym (children_found gs q p found.0 found.1 found.2) ∙ ap (has_children gs) same
                ∙ lone in
                absurd (cc),
          )

      -- its parent was the same
      same_parent : (q p : ℕ) → q ≢ id → parent_of (group_at hs q) ≡ Some p
          → parent_of (group_at gs q) ≡ Some p
      same_parent q p w upward =
          sym (ap parent_of (look_removed_other id gs q (ne_eqb q id w))) ∙ upward

      below : (q p : ℕ) → parent_of (group_at gs q) ≡ Some p → p < q
      below q p upward =
          let found = parent_found (group_at gs q) p upward in
          lower q p found.0 found.1 found.2

      way : (n : Node) (q : ℕ) → q ≢ id → IsLeft q n → above hs n.depth q ≡ Some 0
      way n q w is = above_kept gs hs (λ k. k ≢ id) step n.depth q 0 w is.depth

      first : (q : ℕ) (n : Node) → q < id → IsLeft q n → IsNodeOf hs fronts q n
      first q n low is =
          let w : q ≢ id = λ same. omega (arith, low, same) in
          record {
            children = is.children;
            depth = way n q w is;
            place = λ p upward. let was = same_parent q p w upward in
                place_low gs id i whole place p n.above (is.stands p was)
                (omega (arith, low, below q p was));
            front = is.front;
            tail = tail_left gs id lone n.tail q w is.tail;
          }

      later : (q : ℕ) (n : Node) → id < q → IsLeft q n → IsNodeOf hs fronts q (lowered i n)
      later q n high is =
          let w : q ≢ id = λ same. omega (arith, high, same) in
          record {
            children = is.children;
            depth = way n q w is;
            place = λ p upward. let was = same_parent q p w upward in
                place_left gs id i whole place p n.above (is.stands p was) (step q p w was).1;
            front = is.front;
            tail = tail_left gs id lone n.tail q w is.tail;
          }

  -- the parent of the group that is removed has a child
  pub some_child : (ns : List Node) → AreNodesOf gs fronts ns → 0 < (node_at ns j).children
  some_child ns all =
      let own = node_read (IsNodeOf gs fronts) gs ns parent j higher all in
      let less = left_by true gs id parent g at
      (ap (λ o. is_parent o parent) up ∙ eq-eqb parent parent refl) in
      omega (arith, own.children, less)

keys_changed : (f : GroupFields → GroupFields) (id : ℕ) (g : GroupFields) (gs : Groups)
    → keys_of (set_value (eqb id) gs g) ≡ keys_of gs
keys_changed f id g [] = refl
keys_changed f id g (e ∷ es) = onto (eqb id e.0) (keys_changed f id g es)
  where
    onto : (b : Bool) → keys_of (set_value (eqb id) es g) ≡ keys_of es
        → keys_of (cond b ((e.0, g) ∷ es) (e ∷ set_value (eqb id) es g)) ≡ e.0 ∷ keys_of es
    onto true rest = refl
    onto false rest = ap (λ (ks : List ℕ). e.0 ∷ ks) rest

-- a group that is changed, and keeps its parent and its name
pub nodes_set : (f : GroupFields → GroupFields) (gs : Groups) (fronts : ℕ → PathHash) (id : ℕ)
    (ns : List Node) → ((g : GroupFields) → (f g).parent ≡ g.parent)
    → ((g : GroupFields) → (f g).name ≡ g.name) → AreNodesOf gs fronts ns
    → AreNodesOf (changed_at f gs id) fronts ns
nodes_set f gs fronts id ns same named all = by (group_at gs id) refl
  where
    by : (o : _) → group_at gs id ≡ o → AreNodesOf (changed f gs id o) fronts ns
    by None at = all
    by (Some g) at =
        nodes_alike (IsNodeOf gs fronts) (IsNodeOf (set_value (eqb id) gs (f g)) fronts) gs
        (set_value (eqb id) gs (f g)) ns (keys_changed f id (f g) gs)
        (λ p n is. record {
          children = is.children ∙ sym (count_set id (f g) g (same g) gs p at);
          depth = above_kept gs (set_value (eqb id) gs (f g)) (λ _. Unit {0})
              (λ q k w up. (stays g at q ∙ up, tt)) n.depth p 0 tt is.depth;
          place = λ q up. ap (position (eqb q)) (keys_changed f id (f g) gs)
              ∙ is.place q (sym (stays g at p) ∙ up);
          front = is.front;
          tail = tail_kept gs (set_value (eqb id) gs (f g))
              (λ q k m found. child_set id (f g) g (same g) (named g) gs q m at ∙ found)
              n.tail p is.tail;
        })
        all
      where
        stays : (g : GroupFields) → group_at gs id ≡ Some g → (q : ℕ)
            → parent_of (group_at (set_value (eqb id) gs (f g)) q) ≡ parent_of (group_at gs q)
        stays g at q = onto (eqb_tells q id)
          where
            onto : ((eqb q id ≡ true) × (q ≡ id)) ⊎ ((eqb q id ≡ false) × (q ≢ id))
                → parent_of (group_at (set_value (eqb id) gs (f g)) q)
                ≡ parent_of (group_at gs q)
            onto (inl here) =
                ap (λ k. parent_of (group_at (set_value (eqb id) gs (f g)) k)) here.1
                ∙ ap parent_of (look_set_same id (f g) gs g at) ∙ same g
                ∙ sym (ap parent_of at) ∙ ap (λ k. parent_of (group_at gs k)) (sym here.1)
            onto (inr apart) = ap parent_of (look_set_other id (f g) gs q apart.0)
