-- A new pool is one.
use Rattle.std.proofs.Common.{rules, ◌≡◌, sym, subst, arith}
use Rattle.bw_model.specs.Host.{slices_per_processor}
use Rattle.bw_pool.specs.Pool.{PoolState, IsSound, new_pool}
use Rattle.bw_pool.proofs.PoolSound.{sound_new}
use Rattle.bw_pool.proofs.pool.SlicePool.new.Goals as goal

pub invariant_of-result : goal.invariant_of-result
invariant_of-result c =
    let instance = c.args.instance.now in
    let known = c.rows-groups.ensures.valid in
    let host = known.host in
    let slices : c.per_processor.result ≡ slices_per_processor instance.shape = search rules in
    let s : PoolState = record {
      processors = c.processors-processors.result;
      per_processor = c.per_processor.result;
      rows = c.of.result.value.rows;
      drawn = c.in_ok-drawn.drawn.items;
      ceiling = c.in_ok-ceiling.ceiling.items;
      by_processor = c.in_ok-by_processor.by_processor.items;
      held = c.in_ok-held.held.items;
    } in
    let opened : s ≡ new_pool instance.shape.processors (slices_per_processor instance.shape)
    instance.rows c.args.amounts.now = search rules in
    record {
      sound = subst IsSound (sym opened)
          (sound_new instance.shape.processors (slices_per_processor instance.shape) instance.rows
          c.args.amounts.now
          known.tree known.few host.few_processors
          (omega (arith, slices, c.per_processor.ensures.bound)) c.requires);
      parents = search rules;
      flags = search rules;
      leaf = search rules;
    }
