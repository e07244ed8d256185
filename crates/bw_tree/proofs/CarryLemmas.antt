-- What a period leaves over changes no group's place, and nothing else of it.
use Rattle.std.proofs.Common.{◌≡◌, ℕ, zero, suc, ◌<◌, Bool, true, false, cond, ◌||◌, List, [], ◌∷◌}
use Rattle.std.proofs.Common.{length, get_or, take, position, Option, Some, None, is_some, refl}
use Rattle.std.proofs.Common.{sym, ap, subst, ◌∙◌, arith, eqb}
use Rattle.std.specs.Prelude.{slice_set}
use Rattle.std.specs.Map.{keys_of}
use Rattle.bw_model.specs.declared.row.Row.{Row}
use Rattle.bw_model.specs.declared.limits.TheConstants.{MAX_PATH}
use Rattle.bw_tree.specs.declared.child_index.ChildIndex.{ChildIndex}
use Rattle.bw_tree.specs.Children.{IsIndexOf}
use Rattle.bw_tree.specs.Groups.{GroupFields, TreeState, group_at, has_group, has_children}
use Rattle.bw_tree.specs.Groups.{is_parent, is_child_named, is_child_of, children_count, demand_of}
use Rattle.bw_tree.specs.Groups.{child_of, parent_of, is_name}
use Rattle.bw_tree.specs.Groups.{IsTree, AllBefore, AllAfter, AreRising, IsSound}
use Rattle.bw_tree.specs.Tree.{set_carry}
use Rattle.bw_tree.specs.Snapshot.{carried, carried_at, left_of, left_over}
use Rattle.bw_tree.proofs.GroupLemmas.{above_same}
use Rattle.bw_tree.specs.declared.node.Node.{Node}
use Rattle.bw_tree.specs.Nodes.{IsNodeOf, AreNodesOf}
use Rattle.bw_tree.specs.declared.path_hash.PathHash.{PathHash}
use Rattle.bw_tree.proofs.IndexLemmas.{index_alike}
use Rattle.bw_tree.proofs.NodeLemmas.{above_kept, nodes_alike}
use Rattle.bw_tree.proofs.TailLemmas.{tail_kept}

pub length_carried : (gs : List (ℕ × GroupFields)) (cs : List ℕ)
    → length (carried gs cs) ≡ length gs
length_carried gs [] = refl
length_carried [] (c ∷ cs) = refl
length_carried (e ∷ es) (c ∷ cs) = ap suc (length_carried es cs)

pub keys_carried : (gs : List (ℕ × GroupFields)) (cs : List ℕ)
    → keys_of (carried gs cs) ≡ keys_of gs
keys_carried gs [] = refl
keys_carried [] (c ∷ cs) = refl
keys_carried (e ∷ es) (c ∷ cs) = ap (λ (xs : List ℕ). e.0 ∷ xs) (keys_carried es cs)

before_carried : (gs : List (ℕ × GroupFields)) (cs : List ℕ) (next : ℕ) → AllBefore next gs
    → AllBefore next (carried gs cs)
before_carried gs [] next all = all
before_carried [] (c ∷ cs) next all = tt
before_carried (e ∷ es) (c ∷ cs) next all = (all.0, before_carried es cs next all.1)

after_carried : (gs : List (ℕ × GroupFields)) (cs : List ℕ) (low : ℕ) → AllAfter low gs
    → AllAfter low (carried gs cs)
after_carried gs [] low all = all
after_carried [] (c ∷ cs) low all = tt
after_carried (e ∷ es) (c ∷ cs) low all = (all.0, after_carried es cs low all.1)

rising_carried : (gs : List (ℕ × GroupFields)) (cs : List ℕ) → AreRising gs
    → AreRising (carried gs cs)
rising_carried gs [] up = up
rising_carried [] (c ∷ cs) up = tt
rising_carried (e ∷ es) (c ∷ cs) up = (after_carried es cs e.0 up.0, rising_carried es cs up.1)

pub child_carried : (gs : List (ℕ × GroupFields)) (cs : List ℕ) (p : ℕ) (n : List ℕ)
    → child_of (carried gs cs) p n ≡ child_of gs p n
child_carried gs [] p n = refl
child_carried [] (c ∷ cs) p n = refl
child_carried (e ∷ es) (c ∷ cs) p n =
    ap (λ o. cond (is_child_named e.1 p n) (Some e.0) o) (child_carried es cs p n)

pub children_carried : (gs : List (ℕ × GroupFields)) (cs : List ℕ) (p : ℕ)
    → has_children (carried gs cs) p ≡ has_children gs p
children_carried gs [] p = refl
children_carried [] (c ∷ cs) p = refl
children_carried (e ∷ es) (c ∷ cs) p =
    ap (λ b. is_parent e.1.parent p || b) (children_carried es cs p)

count_carried : (gs : List (ℕ × GroupFields)) (cs : List ℕ) (p : ℕ)
    → children_count (carried gs cs) p ≡ children_count gs p
count_carried gs [] p = refl
count_carried [] (c ∷ cs) p = refl
count_carried (e ∷ es) (c ∷ cs) p =
    ap (λ n. cond (is_parent e.1.parent p) (suc n) n) (count_carried es cs p)

-- a group that is found is the old one, but for what it left over
abbrev pub IsKept : Option GroupFields → Option GroupFields → Type 0
IsKept None None = Unit {0}
IsKept None (Some g) = ⊥
IsKept (Some h) None = ⊥
IsKept (Some h) (Some g) = (carry : ℕ) × (h ≡ set_carry carry g)

kept_same : (o : Option GroupFields) → IsKept o o
kept_same None = tt
kept_same (Some g) = (g.carry, refl)

pub look_carried : (gs : List (ℕ × GroupFields)) (cs : List ℕ) (q : ℕ)
    → IsKept (group_at (carried gs cs) q) (group_at gs q)
look_carried gs [] q = kept_same (group_at gs q)
look_carried [] (c ∷ cs) q = tt
look_carried (e ∷ es) (c ∷ cs) q = onto (eqb q e.0) (look_carried es cs q)
  where
    onto : (b : Bool) → IsKept (group_at (carried es cs) q) (group_at es q)
        → IsKept (cond b (Some (set_carry c e.1)) (group_at (carried es cs) q))
        (cond b (Some e.1) (group_at es q))
    onto true rest = (c, refl)
    onto false rest = rest

there_kept : (o p : Option GroupFields) → IsKept o p → is_some o ≡ is_some p
there_kept None None k = refl
there_kept None (Some g) k = absurd k
there_kept (Some h) None k = absurd k
there_kept (Some h) (Some g) k = refl

child_kept : (p : ℕ) (n : List ℕ) (o r : Option GroupFields) → IsKept o r
    → is_child_of o p n ≡ is_child_of r p n
child_kept p n None None k = refl
child_kept p n None (Some g) k = absurd k
child_kept p n (Some h) None k = absurd k
child_kept p n (Some h) (Some g) k = ap (λ (x : GroupFields). is_child_named x p n) k.1

parent_kept : (o p : Option GroupFields) → IsKept o p → parent_of o ≡ parent_of p
parent_kept None None k = refl
parent_kept None (Some g) k = absurd k
parent_kept (Some h) None k = absurd k
parent_kept (Some h) (Some g) k = ap (λ (x : GroupFields). x.parent) k.1

demand_kept : (o p : Option GroupFields) → IsKept o p → demand_of o ≡ demand_of p
demand_kept None None k = refl
demand_kept None (Some g) k = absurd k
demand_kept (Some h) None k = absurd k
demand_kept (Some h) (Some g) k = ap (λ (x : GroupFields). x.demand) k.1

-- the old group of one that is found
pub record WasGroup (gs : List (ℕ × GroupFields)) (q : ℕ) (h : GroupFields) : Type 0 where
  pub g : GroupFields
  pub carry : ℕ
  pub at : group_at gs q ≡ Some g
  pub is : h ≡ set_carry carry g

pub was_group : (gs : List (ℕ × GroupFields)) (cs : List ℕ) (q : ℕ) (h : GroupFields)
    → group_at (carried gs cs) q ≡ Some h → WasGroup gs q h
was_group gs cs q h found =
    by (group_at gs q) refl (subst (λ o. IsKept o (group_at gs q)) found (look_carried gs cs q))
  where
    by : (o : Option GroupFields) → group_at gs q ≡ o → IsKept (Some h) o → WasGroup gs q h
    by None at k = absurd k
    by (Some g) at k = record { g = g; carry = k.0; at = at; is = k.1 }

-- the tree stays a tree
module _ (t : TreeState) (cs : List ℕ) (ok : IsTree t) where
  there_stays : (q : ℕ) → has_group (carried t.groups cs) q ≡ has_group t.groups q
  there_stays q = there_kept (group_at (carried t.groups cs) q) (group_at t.groups q)
      (look_carried t.groups cs q)

  new_root : (r : GroupFields) → group_at t.groups 0 ≡ Some r
      → (h : GroupFields) × (group_at (carried t.groups cs) 0 ≡ Some h) × (carry : ℕ)
      × (h ≡ set_carry carry r)
  new_root r at = by (group_at (carried t.groups cs) 0) refl
      (subst (λ o. IsKept (group_at (carried t.groups cs) 0) o) at (look_carried t.groups cs 0))
    where
      by : (o : Option GroupFields) → group_at (carried t.groups cs) 0 ≡ o → IsKept o (Some r)
          → (h : GroupFields) × (group_at (carried t.groups cs) 0 ≡ Some h) × (carry : ℕ)
          × (h ≡ set_carry carry r)
      by None found k = absurd k
      by (Some h) found k = (h, found, k.0, k.1)

  pub carried_IsTree : IsTree (record { groups = carried t.groups cs; next = t.next })
  carried_IsTree =
      let root = new_root ok.root.0 ok.root.1 in
      record {
        count = omega (arith, length_carried t.groups cs, ok.count);
        rising = rising_carried t.groups cs ok.rising;
        below_next = before_carried t.groups cs t.next ok.below_next;
        root = (
          root.0,
          root.1,
          ap (λ (x : GroupFields). x.parent) root.3 ∙ ok.root.2,
          ap (λ (x : GroupFields). x.quota) root.3 ∙ ok.root.3,
        );
        one_root = λ q h found lacks. let was = was_group t.groups cs q h found in
            ok.one_root q was.g was.at (sym (ap (λ (x : GroupFields). x.parent) was.is) ∙ lacks);
        parents = λ q p h found up.
            let was = was_group t.groups cs q h found in
            let old = ok.parents q p was.g was.at
            (sym (ap (λ (x : GroupFields). x.parent) was.is) ∙ up) in
            (old.0, there_stays p ∙ old.1);
        named = λ q p h found up.
            let was = was_group t.groups cs q h found in
            child_carried t.groups cs p h.name
            ∙ ap (child_of t.groups p) (ap (λ (x : GroupFields). x.name) was.is)
            ∙ ok.named q p was.g was.at (sym (ap (λ (x : GroupFields). x.parent) was.is) ∙ up);
        spelled = λ q p h found up.
            let was = was_group t.groups cs q h found in
            ap is_name (ap (λ (x : GroupFields). x.name) was.is) ∙ ok.spelled q p was.g was.at
            (sym (ap (λ (x : GroupFields). x.parent) was.is) ∙ up);
        shallow = λ q there.
            above_same t.groups (carried t.groups cs) (λ _. Unit {0})
            (λ k _. parent_kept (group_at (carried t.groups cs) k) (group_at t.groups k)
            (look_carried t.groups cs k)) (λ _ _ _ _. tt) MAX_PATH q tt
            ∙ ok.shallow q (sym (there_stays q) ∙ there);
        leaves =
            λ q some. children_carried t.groups cs q
            ∙ ok.leaves q
            (omega (
              arith,
              some,
              demand_kept (group_at (carried t.groups cs) q)
                  (group_at t.groups q) (look_carried t.groups cs q),
            ));
        sound = λ q h found.
            let was = was_group t.groups cs q h found in
            let old = ok.sound q was.g was.at in
            subst IsSound (sym was.is)
            (record {
              some_weight = old.some_weight;
              weight = old.weight;
              quota = old.quota;
              long_period = old.long_period;
              short_period = old.short_period;
              burst = old.burst;
              demand = old.demand;
            });
      }

-- the index stays theirs
pub index_carried : (gs : List (ℕ × GroupFields)) (cs : List ℕ) (keys : ℕ → List ℕ → ℕ)
    (index : ChildIndex) → IsIndexOf gs keys index → IsIndexOf (carried gs cs) keys index
index_carried gs cs keys index is =
    index_alike gs (carried gs cs) keys index
    (λ q p n. child_kept p n (group_at (carried gs cs) q) (group_at gs q)
    (look_carried gs cs q))
    (child_carried gs cs) is

-- and so do the nodes
pub nodes_carried : (gs : List (ℕ × GroupFields)) (cs : List ℕ) (fronts : ℕ → PathHash)
    (nodes : List Node) → AreNodesOf gs fronts nodes → AreNodesOf (carried gs cs) fronts nodes
nodes_carried gs cs fronts nodes =
    nodes_alike (IsNodeOf gs fronts) (IsNodeOf (carried gs cs) fronts) gs (carried gs cs) nodes
    (keys_carried gs cs)
    (λ p n is. record {
      children = is.children ∙ sym (count_carried gs cs p);
      depth = above_kept gs (carried gs cs) (λ _. Unit {0})
          (λ q k w up. (
            parent_kept (group_at (carried gs cs) q) (group_at gs q)
                (look_carried gs cs q) ∙ up,
            tt,
          )) n.depth p 0 tt is.depth;
      place = λ q up. ap (position (eqb q)) (keys_carried gs cs)
          ∙ is.place q (sym (parent_kept (group_at (carried gs cs) p) (group_at gs p)
          (look_carried gs cs p)) ∙ up);
      front = is.front;
      tail = tail_kept gs (carried gs cs) (λ q k m found. child_carried gs cs q m ∙ found)
          n.tail p is.tail;
    })

-- ---- one group after another

-- a group that is written at a place
pub written_at : (gs : List (ℕ × GroupFields)) (i carry : ℕ) (x : ℕ × GroupFields)
    → x ≡ get_or gs i x
    → slice_set gs i (x.0, set_carry carry x.1) ≡ carried_at gs i carry
written_at [] i carry x is = refl
written_at (e ∷ es) zero carry x is =
    ap (λ (y : ℕ × GroupFields). (y.0, set_carry carry y.1) ∷ es) is
written_at (e ∷ es) (suc i) carry x is =
    ap (λ (xs : List (ℕ × GroupFields)). e ∷ xs) (written_at es i carry x is)

-- the next group keeps what it left over
pub carry_next : (gs : List (ℕ × GroupFields)) (cs : List ℕ) (i : ℕ) → i < length gs → i < length cs
    → carried_at (carried gs (take i cs)) i (get_or cs i 0) ≡ carried gs (take (suc i) cs)
carry_next [] cs i lt within = absurd (omega (arith, lt))
carry_next (e ∷ es) [] i lt within = absurd (omega (arith, within))
carry_next (e ∷ es) (c ∷ cs) zero lt within = refl
carry_next (e ∷ es) (c ∷ cs) (suc i) lt within =
    ap (λ (xs : List (ℕ × GroupFields)). (e.0, set_carry c e.1) ∷ xs)
    (carry_next es cs i (omega (arith, lt)) (omega (arith, within)))

pub length_left_over : (rows : List Row) (drawn : List ℕ) → length drawn ≡ length rows
    → length (left_over rows drawn) ≡ length rows
length_left_over [] drawn same = refl
length_left_over (row ∷ rows) [] same = absurd (omega (arith, same))
length_left_over (row ∷ rows) (d ∷ ds) same =
    ap suc (length_left_over rows ds (omega (arith, same)))

pub left_over_at : (rows : List Row) (drawn : List ℕ) (i : ℕ) (r : Row) → i < length rows
    → length drawn ≡ length rows
    → get_or (left_over rows drawn) i 0 ≡ left_of (get_or rows i r).limit (get_or drawn i 0)
left_over_at [] drawn i r lt same = absurd (omega (arith, lt))
left_over_at (row ∷ rows) [] i r lt same = absurd (omega (arith, same))
left_over_at (row ∷ rows) (d ∷ ds) zero r lt same = refl
left_over_at (row ∷ rows) (d ∷ ds) (suc i) r lt same =
    left_over_at rows ds i r (omega (arith, lt)) (omega (arith, same))
