-- What is given back was drawn at each group above its leaf, and a pool is left.
use Rattle.std.proofs.Common.{◌≡◌, ◌+◌, ◌-◌, ◌*◌, ◌<◌, ◌≤◌, length, get_or, set, true, None, subst, sym, ap, ◌∙◌}
use Rattle.std.proofs.Common.{arith}
use Rattle.bw_pool.specs.Parents.{bare_rows}
use Rattle.bw_pool.specs.Pool.{PoolState, IsSound, leaf_refusal, gave_back, held_place, held_by}
use Rattle.bw_pool.specs.Pools.{pool_of}
use Rattle.std.specs.Vec.{with_items}
use Rattle.std.proofs.lemmas.List.{with_items_is}
use Rattle.bw_model.specs.Groups.{path_up, is_leaf}
use Rattle.bw_pool.proofs.Trees.{length-lowered}
use Rattle.bw_pool.proofs.BareRows.{as_many, path_bare, tree_bare}
use Rattle.bw_pool.proofs.PoolSound.{sound_gave_back, held_le_processor, held_le_path}
use Rattle.bw_pool.proofs.Places.{counted_in, place_by, holding_in}
use Rattle.bw_pool.proofs.GiveBackComputed.{back_passed, gave_from, enough_from}
use Rattle.bw_pool.proofs.pool.SlicePool.take_back.Goals as goal
use Rattle.bw_pool.proofs.pool.SlicePool.take_back.Goals.{After-deref, After-index_mut-2}

-- the leaf is one, and the seat holds so many slices of it
passed_of : (c : After-deref) → (c.args.seat < (pool_of c.self.inside).processors)
    × (c.args.leaf < length (pool_of c.self.inside).rows)
    × (is_leaf (pool_of c.self.inside).rows c.args.leaf ≡ true)
    × (c.args.n ≤ get_or (pool_of c.self.inside).held
    (held_place (pool_of c.self.inside) c.args.seat c.args.leaf) 0)
passed_of c =
    let pass = subst (λ (v : PoolState). leaf_refusal v c.args.leaf c.args.n ≡ None)
    (sym c.self.view_is) c.requires.may in
    let has = subst (λ (v : PoolState). c.args.n ≤ held_by v c.args.seat c.args.leaf)
    (sym c.self.view_is) c.requires.held in
    back_passed (pool_of c.self.inside) c.args.seat c.args.leaf c.args.n pass has

way_is : (c : After-deref) → path_up (bare_rows c.deref.result.now) c.args.leaf
    ≡ path_up (pool_of c.self.inside).rows c.args.leaf
way_is c = path_bare (pool_of c.self.inside).rows c.deref.result.now
    (c.deref.ensures.value ∙ c.self.invariant.parents) c.args.leaf

-- the pool afterwards
state_is : (c : After-index_mut-2) → c.args.seat < (pool_of c.self.inside).processors
    → c.args.leaf < length (pool_of c.self.inside).rows
    → path_up (bare_rows c.deref.result.now) c.args.leaf
    ≡ path_up (pool_of c.self.inside).rows c.args.leaf
    → record (pool_of c.self.inside) {
      drawn = (with_items c.self.inside.drawn c.lower.new.drawn).items;
      by_processor = set c.self.inside.by_processor.items c.args.seat
          (c.index_mut.result.now - c.args.n);
      held = set c.self.inside.held.items (c.args.seat * c.len.result + c.args.leaf)
          (c.index_mut-2.result.now - c.args.n);
    } ≡ gave_back (pool_of c.self.inside) c.args.seat c.args.leaf c.args.n
state_is c lt below up =
    let s = pool_of c.self.inside in
    let ok = c.self.invariant.sound in
    let size = ap length c.lower.ensures
    ∙ (length-lowered (path_up (bare_rows c.deref.result.now) c.args.leaf) c.args.n
    c.deref_mut.result.now
    ∙ (ap length c.deref_mut.ensures.value ∙ sym c.self.inside.drawn.ok.0)) in
    let by = counted_in s c.args.seat c.index_mut.result.now ok lt c.index_mut.ensures.value in
    let place = place_by s c.args.seat c.args.leaf c.len.result
    (c.len.ensures ∙ c.self.inside.parents.ok.0
    ∙ as_many s.rows c.self.inside.parents.items c.self.invariant.parents) in
    let held = holding_in s c.args.seat c.args.leaf (c.args.seat * c.len.result + c.args.leaf)
    c.index_mut-2.result.now ok lt below place c.index_mut-2.ensures.value in
    gave_from s c.args.seat c.args.leaf c.args.n
    (path_up (bare_rows c.deref.result.now) c.args.leaf) c.deref_mut.result.now
    (with_items c.self.inside.drawn c.lower.new.drawn).items (c.index_mut.result.now - c.args.n)
    c.index_mut-2.result.now (c.args.seat * c.len.result + c.args.leaf)
    up c.deref_mut.ensures.value
    (with_items_is c.self.inside.drawn c.lower.new.drawn size ∙ c.lower.ensures)
    (ap (λ k. k - c.args.n) by) place held

pub lower-requires-clause-tree : goal.lower-requires-clause-tree
lower-requires-clause-tree c =
    tree_bare c.self.inside.groups.value.rows c.deref.result.now
    (c.deref.ensures.value ∙ c.self.invariant.parents) c.self.invariant.sound.tree

pub lower-requires-clause-enough : goal.lower-requires-clause-enough
lower-requires-clause-enough c =
    let s = pool_of c.self.inside in
    let here = passed_of (goal.at.lower-requires-clause-enough c).After-deref in
    let up = way_is (goal.at.lower-requires-clause-enough c).After-deref in
    enough_from (path_up s.rows c.args.leaf) (path_up (bare_rows c.deref.result.now) c.args.leaf)
    s.drawn c.deref_mut.result.now c.args.n (sym up) (sym c.deref_mut.ensures.value)
    (held_le_path s c.args.seat c.args.leaf c.args.n c.self.invariant.sound here.0 here.1 here.2
    here.3)

pub overflow_sub-index_mut : goal.overflow_sub-index_mut
overflow_sub-index_mut c =
    let s = pool_of c.self.inside in
    let ok = c.self.invariant.sound in
    let here = passed_of (goal.at.overflow_sub-index_mut c).After-deref in
    let by = counted_in s c.args.seat c.index_mut.result.now ok here.0 c.index_mut.ensures.value in
    let most = held_le_processor s c.args.seat c.args.leaf c.args.n ok here.0 here.1 here.2 in
    omega (arith, by, here.3, most)

pub invariant_of-self : goal.invariant_of-self
invariant_of-self c =
    let s = pool_of c.self.inside in
    let ok = c.self.invariant.sound in
    let here = passed_of (goal.at.invariant_of-self c).After-deref in
    let state = state_is (goal.at.invariant_of-self c).After-index_mut-2 here.0 here.1
    (way_is (goal.at.invariant_of-self c).After-deref) in
    record {
      sound = subst IsSound (sym state)
          (sound_gave_back s c.args.seat c.args.leaf c.args.n ok here.0 here.1 here.2 here.3);
      parents = c.self.invariant.parents;
      flags = c.self.invariant.flags;
      leaf = c.self.invariant.leaf;
    }

pub returns : goal.returns
returns c =
    let here = passed_of (goal.at.returns c).After-deref in
    state_is (goal.at.returns c).After-index_mut-2 here.0 here.1
    (way_is (goal.at.returns c).After-deref)
    ∙ ap (λ (v : PoolState). gave_back v c.args.seat c.args.leaf c.args.n) c.self.view_is
