-- The goals of `gather_depths` that are answered by hand.
use Rattle.std.proofs.Common.{◌≡◌, ◌≤◌, ◌+◌, ◌-◌, ℕ, length, get_or, refl, sym, ap, ◌∙◌, subst}
use Rattle.std.proofs.Common.{arith}
use Rattle.std.proofs.lemmas.Option.{slice_get_read}
use Rattle.bw_demand.specs.Demands.{Demands}
use Rattle.bw_demand.specs.ByDepth.{rows_of_depth}
use Rattle.bw_demand.proofs.ByDepth.{IsListed, is_listed, depth_is}
use Rattle.bw_demand.proofs.Seen.{seen_from, seen_at, none_seen, all_seen, first_seen, last_seen}
use Rattle.bw_demand.proofs.Seen.{next_seen, fresh, parent_unseen}
use Rattle.bw_demand.proofs.WantsGathered.{IsGathering, same_seen, nothing_gathered, row_can}
use Rattle.bw_demand.proofs.WantsGathered.{row_gathered, all_gathered}
use Rattle.bw_demand.proofs.by_depth.gather_depths.Goals as goal

pub loop-depth-init : goal.loop-depth-init
loop-depth-init c =
    nothing_gathered c.args.instance.now c.rows-rows.ensures.valid
    (seen_from c.args.instance.now.rows (length c.args.depths.now))
    (none_seen c.args.instance.now.rows c.args.depths.now (length c.args.depths.now)
    c.requires.depths refl)
    (length c.rows-rows.result.now) (rw c.rows-rows.ensures.rows)
    c.in_ok-gathered.gathered.want.items c.in_ok-gathered.gathered.most.items
    c.in_ok-gathered.gathered.tight.items
    (ap (λ (d : Demands). d.want) c.in_ok-gathered.ensures ∙ rw c.rows-rows.ensures.rows)
    (ap (λ (d : Demands). d.most) c.in_ok-gathered.ensures)
    (ap (λ (d : Demands). d.tight) c.in_ok-gathered.ensures)

pub loop-k-init : goal.loop-k-init
loop-k-init c =
    let next : c.loop-depth.depth - 1 + 1 ≡ c.loop-depth.depth =
    omega (arith, c.loop-depth-test.true) in
    record {
      groups = depth_is c.args.instance.now.rows c.args.depths.now (c.loop-depth.depth - 1)
          c.index-depths-depth.result c.as_slice-groups.result.now
          c.requires.depths
          (slice_get_read c.args.depths.now (length c.args.depths.now) (c.loop-depth.depth - 1)
          c.index-depths-depth.result refl
          (omega (arith, c.loop-depth-test.true, c.loop-depth.auto.depth)) c.index-depths-depth.is)
          c.as_slice-groups.ensures.value;
      gathering = same_seen c.args.instance.now
          (seen_from c.args.instance.now.rows c.loop-depth.depth)
          (seen_at c.args.instance.now.rows (c.loop-depth.depth - 1) 0)
          c.loop-depth.gathered.want.items c.loop-depth.gathered.most.items
          c.loop-depth.gathered.tight.items
          (λ r _. first_seen c.args.instance.now.rows (c.loop-depth.depth - 1) r
          ∙ ap (λ (d : ℕ). seen_from c.args.instance.now.rows d r) next)
          c.loop-depth.invariant;
    }

pub loop-depth-preserved : goal.loop-depth-preserved
loop-depth-preserved c =
    let whole : length (rows_of_depth c.args.instance.now.rows (c.loop-depth.depth - 1))
    ≤ c.loop-k.k =
    omega (arith, c.loop-k-test.false, ap (length {A = ℕ}) c.loop-k.invariant.groups) in
    same_seen c.args.instance.now
    (seen_at c.args.instance.now.rows (c.loop-depth.depth - 1) c.loop-k.k)
    (seen_from c.args.instance.now.rows (c.loop-depth.depth - 1))
    c.loop-k.gathered.want.items c.loop-k.gathered.most.items c.loop-k.gathered.tight.items
    (λ r below. last_seen c.args.instance.now.rows (c.loop-depth.depth - 1) c.loop-k.k r below
    whole)
    c.loop-k.invariant.gathering

pub gather_row-requires : goal.gather_row-requires
gather_row-requires c =
    let groups = c.args.instance.now in
    let rows = groups.rows in
    let d = c.loop-depth.depth - 1 in
    let g = get_or c.as_slice-groups.result.now c.loop-k.k 0 in
    let so_far = c.loop-k.invariant.gathering in
    let tree = c.rows-rows.ensures.valid.tree in
    let at : IsListed rows d c.loop-k.k g =
    is_listed rows d c.loop-k.k c.as_slice-groups.result.now c.loop-k.invariant.groups
    c.loop-k-test.true in
    row_can groups tree (seen_at rows d c.loop-k.k) (seen_at rows d (c.loop-k.k + 1)) g at.inside
    (fresh rows d c.loop-k.k g at.here at.is) (λ r _. next_seen rows d c.loop-k.k g r at.here at.is)
    (λ p f. parent_unseen rows tree d c.loop-k.k g p at.here at.is f)
    c.loop-k.gathered.want.items c.loop-k.gathered.most.items c.loop-k.gathered.tight.items so_far

pub loop-k-preserved : goal.loop-k-preserved
loop-k-preserved c =
    let groups = c.args.instance.now in
    let rows = groups.rows in
    let d = c.loop-depth.depth - 1 in
    let g = get_or c.as_slice-groups.result.now c.loop-k.k 0 in
    let so_far = c.loop-k.invariant.gathering in
    let tree = c.rows-rows.ensures.valid.tree in
    let at : IsListed rows d c.loop-k.k g =
    is_listed rows d c.loop-k.k c.as_slice-groups.result.now c.loop-k.invariant.groups
    c.loop-k-test.true in
    record {
      groups = c.loop-k.invariant.groups;
      gathering = subst
          (λ (e : Demands). IsGathering groups (seen_at rows d (c.loop-k.k + 1)) e.want e.most
          e.tight) (sym c.gather_row.ensures)
          (row_gathered groups tree (seen_at rows d c.loop-k.k) (seen_at rows d (c.loop-k.k + 1)) g
          at.inside (fresh rows d c.loop-k.k g at.here at.is)
          (λ r _. next_seen rows d c.loop-k.k g r at.here at.is)
          (λ p f. parent_unseen rows tree d c.loop-k.k g p at.here at.is f)
          c.loop-k.gathered.want.items c.loop-k.gathered.most.items c.loop-k.gathered.tight.items
          so_far);
    }

pub returns : goal.returns
returns c =
    let all : c.loop-depth.depth ≡ 0 = omega (arith, c.loop-depth-test.false) in
    all_gathered c.args.instance.now c.rows-rows.ensures.valid
    (seen_from c.args.instance.now.rows c.loop-depth.depth)
    (λ r _. all_seen c.args.instance.now.rows c.loop-depth.depth r all)
    c.loop-depth.gathered.want.items c.loop-depth.gathered.most.items
    c.loop-depth.gathered.tight.items c.loop-depth.invariant
