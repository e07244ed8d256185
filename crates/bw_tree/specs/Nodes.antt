-- The nodes of a tree: beside each group the number of its children, its depth, the place of its
-- parent, a hash of what the paths of its children begin with, and the end of its own.
use Rattle.std.specs.Prelude.{◌≡◌, ℕ, zero, suc, ◌+◌, ◌-◌, if◌then◌else◌, nat_lt, nat_eq}
use Rattle.std.specs.Prelude.{List, [], ◌∷◌, Some, position}
use Rattle.std.specs.List.{AllZip, slice_index_or}
use Rattle.std.specs.Map.{keys_of}
use Rattle.bw_tree.specs.declared.node.Node.{Node}
use Rattle.bw_tree.specs.declared.path_hash.PathHash.{PathHash}
use Rattle.bw_tree.specs.declared.tail.Tail.{Tail}
use Rattle.bw_tree.specs.Groups.{GroupFields, children_count, above, group_at, parent_of}
use Rattle.bw_tree.specs.Tails.{IsTailOf, no_tail}

-- the hash of no text
abbrev pub no_text_hash : PathHash
no_text_hash = record { value = 1; waiting = 1 }

-- the node of a root without children, with a tail
abbrev pub root_node : Tail → Node
root_node tail =
    record { children = 0; depth = 0; above = 0; front = no_text_hash; tail = tail }

-- the node of a group without children below another, which stands at a place; its children's paths
-- begin so
abbrev pub leaf_below : Node → ℕ → PathHash → Tail → Node
leaf_below node place front tail =
    record { children = 0; depth = node.depth + 1; above = place; front = front; tail = tail }

-- the node at a place
abbrev pub node_at : List Node → ℕ → Node
node_at nodes place = slice_index_or nodes place (root_node no_tail)

-- a node with one child more
abbrev pub one_child_more : Node → Node
one_child_more node = record node { children = node.children + 1 }

-- a node with one child less
abbrev pub one_child_less : Node → Node
one_child_less node = record node { children = node.children - 1 }

-- a node whose parent stands one place lower, if it stood behind a place
abbrev pub lowered : ℕ → Node → Node
lowered place node =
    record node { above = if nat_lt place node.above then node.above - 1 else node.above }

-- the nodes, lowered from the n-th on
abbrev pub lowered_from : ℕ → ℕ → List Node → List Node
lowered_from place n [] = []
lowered_from place zero (node ∷ nodes) = lowered place node ∷ lowered_from place zero nodes
lowered_from place (suc n) (node ∷ nodes) = node ∷ lowered_from place n nodes

-- a node is that of a group: it has the number of the group's children, its depth below the root,
-- whose id is 0, the place of its parent, its front and its tail
pub record IsNodeOf (groups : List (ℕ × GroupFields)) (fronts : ℕ → PathHash) (id : ℕ) (node : Node)
    : Type 0 where
  pub children : node.children ≡ children_count groups id
  pub depth : above groups node.depth id ≡ Some 0
  pub place : (parent : ℕ) → parent_of (group_at groups id) ≡ Some parent
      → position (nat_eq parent) (keys_of groups) ≡ Some node.above
  pub front : node.front ≡ fronts id
  pub tail : IsTailOf groups node.tail id

-- each group has its node, in the same order
abbrev pub AreNodesOf : List (ℕ × GroupFields) → (ℕ → PathHash) → List Node → Type 0
AreNodesOf groups fronts nodes = AllZip (λ e node. IsNodeOf groups fronts e.0 node) groups nodes
