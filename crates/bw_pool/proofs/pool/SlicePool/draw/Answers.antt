-- A draw has room at each group above its leaf, and leaves a pool.
use Rattle.std.proofs.Common.{◌≡◌, ℕ, ◌+◌, ◌*◌, List, length, set, Option, None, subst, sym, ap}
use Rattle.std.proofs.Common.{◌∙◌, arith}
use Rattle.std.specs.Vec.{with_items}
use Rattle.std.proofs.lemmas.List.{with_items_is}
use Rattle.bw_pool.proofs.Trees.{length-raised}
use Rattle.bw_model.specs.Groups.{path_up}
use Rattle.bw_pool.specs.declared.calls.PoolCall.TheVariants.{Draw}
use Rattle.bw_pool.specs.Parents.{bare_rows}
use Rattle.bw_pool.specs.Pool.{PoolState, IsSound, refusal, held_place, drew, got_of, short_of}
use Rattle.bw_pool.specs.Pools.{pool_of}
use Rattle.bw_pool.proofs.BareRows.{as_many, path_bare, tree_bare}
use Rattle.bw_pool.proofs.PoolSound.{draw_passed, sound_drew}
use Rattle.bw_pool.proofs.DrawComputed.{got_from, got_small, held_small, drew_from, room_from}
use Rattle.bw_pool.proofs.DrawComputed.{short_none, short_some}
use Rattle.bw_pool.proofs.Places.{counted_in, place_by, holding_in}
use Rattle.bw_pool.specs.declared.calls.PoolReply.TheVariants.{Granted}
use Rattle.bw_pool.proofs.pool.SlicePool.draw.Goals as goal
use Rattle.bw_pool.proofs.pool.SlicePool.draw.Goals.{then-got-ask, else-got-ask}
use Rattle.bw_pool.proofs.pool.SlicePool.draw.Goals.{After-index, After-least_left-got}
use Rattle.bw_pool.proofs.pool.SlicePool.draw.Goals.{After-index_mut-2}

-- the tests of the call were passed
passed_of : (c : After-index) → refusal (pool_of c.self.inside) c.args.seat
    (Draw c.args.leaf c.args.ask) ≡ None
passed_of c =
    subst (λ (v : PoolState). refusal v c.args.seat (Draw c.args.leaf c.args.ask) ≡ None)
    (sym c.self.view_is) c.requires

-- what is drawn is the most that the groups, the processor and the call allow
got_is : (c : After-least_left-got) → refusal (pool_of c.self.inside) c.args.seat
    (Draw c.args.leaf c.args.ask) ≡ None
    → c.least_left-got.result ≡ got_of (pool_of c.self.inside) c.args.seat c.args.leaf c.args.ask
got_is c pass =
    let s = pool_of c.self.inside in
    let up = path_bare s.rows c.deref.result.now (c.deref.ensures.value ∙ c.self.invariant.parents)
    c.args.leaf in
    got_from s c.args.seat c.args.leaf c.args.ask
    (path_up (bare_rows c.deref.result.now) c.args.leaf)
    c.deref-2.result.now c.deref-3.result.now c.index.result.now c.min-bound.result
    c.least_left-got.result c.self.invariant.sound pass up c.deref-2.ensures.value
    c.deref-3.ensures.value c.index.ensures c.min-bound.ensures c.least_left-got.ensures.value

place_is : (c : After-index_mut-2) → c.args.seat * c.len.result + c.args.leaf
    ≡ held_place (pool_of c.self.inside) c.args.seat c.args.leaf
place_is c =
    let s = pool_of c.self.inside in
    place_by s c.args.seat c.args.leaf c.len.result (c.len.ensures ∙ c.self.inside.parents.ok.0
    ∙ as_many s.rows c.self.inside.parents.items c.self.invariant.parents)

-- the pool after the draw
state_is : (c : After-index_mut-2) → refusal (pool_of c.self.inside) c.args.seat
    (Draw c.args.leaf c.args.ask) ≡ None
    → c.least_left-got.result ≡ got_of (pool_of c.self.inside) c.args.seat c.args.leaf c.args.ask
    → record (pool_of c.self.inside) {
      drawn = (with_items c.self.inside.drawn c.raise.new.drawn).items;
      by_processor = set c.self.inside.by_processor.items c.args.seat
          (c.index_mut.result.now + c.least_left-got.result);
      held = set c.self.inside.held.items (c.args.seat * c.len.result + c.args.leaf)
          (c.index_mut-2.result.now + c.least_left-got.result);
    } ≡ drew (pool_of c.self.inside) c.args.seat c.args.leaf
    (got_of (pool_of c.self.inside) c.args.seat c.args.leaf c.args.ask)
state_is c pass got =
    let s = pool_of c.self.inside in
    let ok = c.self.invariant.sound in
    let here = draw_passed s c.args.seat c.args.leaf c.args.ask pass in
    let size = ap length c.raise.ensures
    ∙ (length-raised (path_up (bare_rows c.deref-4.result.now) c.args.leaf)
    c.least_left-got.result c.deref_mut.result.now
    ∙ (ap length c.deref_mut.ensures.value ∙ sym c.self.inside.drawn.ok.0)) in
    let up = path_bare s.rows c.deref-4.result.now
    (c.deref-4.ensures.value ∙ c.self.invariant.parents) c.args.leaf in
    let by = counted_in s c.args.seat c.index_mut.result.now ok here.0 c.index_mut.ensures.value in
    let place = place_is c in
    let held = holding_in s c.args.seat c.args.leaf (c.args.seat * c.len.result + c.args.leaf)
    c.index_mut-2.result.now ok here.0 here.1 place c.index_mut-2.ensures.value in
    drew_from s c.args.seat c.args.leaf c.args.ask
    (path_up (bare_rows c.deref-4.result.now) c.args.leaf) c.deref_mut.result.now
    (with_items c.self.inside.drawn c.raise.new.drawn).items c.least_left-got.result
    c.index_mut.result.now c.index_mut-2.result.now
    (c.args.seat * c.len.result + c.args.leaf) got up c.deref_mut.ensures.value
    (with_items_is c.self.inside.drawn c.raise.new.drawn size ∙ c.raise.ensures) by place held

pub least_left-got-requires-clause-tree : goal.least_left-got-requires-clause-tree
least_left-got-requires-clause-tree c =
    tree_bare c.self.inside.groups.value.rows c.deref.result.now
    (c.deref.ensures.value ∙ c.self.invariant.parents) c.self.invariant.sound.tree

pub nearest_with-requires-clause-tree : goal.nearest_with-requires-clause-tree
nearest_with-requires-clause-tree c =
    tree_bare c.self.inside.groups.value.rows c.deref-else-got-ask.result.now
    (c.deref-else-got-ask.ensures.value ∙ c.self.invariant.parents)
    c.self.invariant.sound.tree

pub raise-requires-clause-tree : goal.raise-requires-clause-tree
raise-requires-clause-tree c =
    tree_bare c.self.inside.groups.value.rows c.deref-4.result.now
    (c.deref-4.ensures.value ∙ c.self.invariant.parents) c.self.invariant.sound.tree

pub raise-requires-clause-room : goal.raise-requires-clause-room
raise-requires-clause-room c =
    let way : List (Option ℕ) → List ℕ = λ parents. path_up (bare_rows parents) c.args.leaf in
    room_from (way c.deref.result.now) (way c.deref-4.result.now) c.deref-2.result.now
    c.deref_mut.result.now c.deref-3.result.now c.deref-5.result.now
    c.least_left-got.result
    (ap way (c.deref.ensures.value ∙ sym c.deref-4.ensures.value))
    (c.deref-2.ensures.value ∙ sym c.deref_mut.ensures.value)
    (c.deref-3.ensures.value ∙ sym c.deref-5.ensures.value) c.least_left-got.ensures.room

pub overflow_sub-self-inside : goal.overflow_sub-self-inside
overflow_sub-self-inside c =
    let s = pool_of c.self.inside in
    let ok = c.self.invariant.sound in
    let pass = passed_of (goal.at.overflow_sub-self-inside c).After-index in
    let here = draw_passed s c.args.seat c.args.leaf c.args.ask pass in
    let by = counted_in s c.args.seat c.index.result.now ok here.0 c.index.ensures in
    omega (arith, by, ok.cap c.args.seat)

pub overflow_add-index_mut : goal.overflow_add-index_mut
overflow_add-index_mut c =
    let s = pool_of c.self.inside in
    let ok = c.self.invariant.sound in
    let pass = passed_of (goal.at.overflow_add-index_mut c).After-index in
    let here = draw_passed s c.args.seat c.args.leaf c.args.ask pass in
    let got = got_is (goal.at.overflow_add-index_mut c).After-least_left-got pass in
    let by = counted_in s c.args.seat c.index_mut.result.now ok here.0 c.index_mut.ensures.value in
    let small = got_small s c.args.seat c.args.leaf c.args.ask in
    omega (arith, got, small, by, ok.cap c.args.seat, ok.few_slices)

pub overflow_add-index_mut-2 : goal.overflow_add-index_mut-2
overflow_add-index_mut-2 c =
    let s = pool_of c.self.inside in
    let ok = c.self.invariant.sound in
    let pass = passed_of (goal.at.overflow_add-index_mut-2 c).After-index in
    let here = draw_passed s c.args.seat c.args.leaf c.args.ask pass in
    let got = got_is (goal.at.overflow_add-index_mut-2 c).After-least_left-got pass in
    let held = holding_in s c.args.seat c.args.leaf (c.args.seat * c.len.result + c.args.leaf)
    c.index_mut-2.result.now ok here.0 here.1
    (place_is (goal.at.overflow_add-index_mut-2 c).After-index_mut-2)
    c.index_mut-2.ensures.value in
    let small = got_small s c.args.seat c.args.leaf c.args.ask in
    let few = held_small s c.args.seat c.args.leaf ok here.0 here.1 here.2 in
    omega (arith, got, small, held, few, ok.few_slices)

pub invariant_of-self : goal.invariant_of-self
invariant_of-self c =
    let s = pool_of c.self.inside in
    let ok = c.self.invariant.sound in
    let pass = passed_of (goal.at.invariant_of-self c).After-index in
    let here = draw_passed s c.args.seat c.args.leaf c.args.ask pass in
    let got = got_is (goal.at.invariant_of-self c).After-least_left-got pass in
    let state = state_is (goal.at.invariant_of-self c).After-index_mut-2 pass got in
    record {
      sound = subst IsSound (sym state)
          (sound_drew s c.args.seat c.args.leaf c.args.ask ok here.0 here.1 here.2);
      parents = c.self.invariant.parents;
      flags = c.self.invariant.flags;
      leaf = c.self.invariant.leaf;
    }

pub returns-clause-state : goal.returns-clause-state
returns-clause-state c =
    let pass = passed_of (goal.at.returns-clause-state c).After-index in
    let got = got_is (goal.at.returns-clause-state c).After-least_left-got pass in
    state_is (goal.at.returns-clause-state c).After-index_mut-2 pass got
    ∙ ap (λ (v : PoolState).
    drew v c.args.seat c.args.leaf (got_of v c.args.seat c.args.leaf c.args.ask)) c.self.view_is

pub returns-clause-reply : goal.returns-clause-reply
returns-clause-reply c =
    let s = pool_of c.self.inside in
    let pass = passed_of (goal.at.returns-clause-reply c).After-index in
    let got = got_is (goal.at.returns-clause-reply c).After-least_left-got pass in
    let short : c.if-got-ask.short ≡ short_of s c.args.leaf c.args.ask c.least_left-got.result =
    elim c.if-got-ask.branch [
      | then-got-ask w ↦
          w.short-is ∙ short_none s c.args.leaf c.args.ask c.least_left-got.result w.if-got-ask.true
      | else-got-ask w ↦ w.short-is
          ∙ short_some s c.args.leaf c.args.ask c.least_left-got.result w.nearest_with.result
          (path_up (bare_rows w.deref-else-got-ask.result.now) c.args.leaf)
          w.deref-else-got-ask-2.result.now w.deref-else-got-ask-3.result.now w.if-got-ask.false
          (path_bare s.rows w.deref-else-got-ask.result.now
          (w.deref-else-got-ask.ensures.value ∙ c.self.invariant.parents) c.args.leaf)
          w.deref-else-got-ask-2.ensures.value w.deref-else-got-ask-3.ensures.value
          w.nearest_with.ensures
    ] in
    ap (λ x. Granted c.least_left-got.result x) short
    ∙ (ap (λ n. Granted n (short_of s c.args.leaf c.args.ask n)) got
    ∙ ap (λ (v : PoolState). Granted (got_of v c.args.seat c.args.leaf c.args.ask)
    (short_of v c.args.leaf c.args.ask (got_of v c.args.seat c.args.leaf c.args.ask)))
    c.self.view_is)
