-- The goals of `gather_rows` that are answered by hand.
use Rattle.std.proofs.Common.{◌≡◌, ◌<◌, ◌≤◌, ◌+◌, ◌-◌, ℕ, Bool, List, length, sym, ap, ◌∙◌, subst, arith}
use Rattle.bw_model.specs.declared.row.Row.{Row}
use Rattle.bw_model.specs.Groups.{Groups}
use Rattle.bw_demand.specs.Demands.{Demands}
use Rattle.bw_demand.proofs.Seen.{rows_from, no_rows, all_rows, next_row, fresh_row}
use Rattle.bw_demand.proofs.Seen.{parent_row_unseen}
use Rattle.bw_demand.proofs.WantsGathered.{IsGathering, nothing_gathered, row_can, row_gathered}
use Rattle.bw_demand.proofs.WantsGathered.{all_gathered}
use Rattle.bw_demand.proofs.by_rows.gather_rows.Goals as goal

row_below : (rows listed : List Row) (g : ℕ) → listed ≡ rows → 0 < g → g ≤ length listed
    → g - 1 < length rows
row_below rows listed g same some le =
    let long : length listed ≡ length rows = ap (length {A = Row}) same in
    omega (arith, long)

gathered_so_far : (groups : Groups) (g : ℕ) (want most : List ℕ) (tight : List Bool) → 0 < g
    → IsGathering groups (rows_from g) want most tight
    → IsGathering groups (rows_from (g - 1 + 1)) want most tight
gathered_so_far groups g want most tight some so_far =
    subst (λ (n : ℕ). IsGathering groups (rows_from n) want most tight) (omega arith) so_far

pub loop-g-init : goal.loop-g-init
loop-g-init c =
    nothing_gathered c.args.instance.now c.rows-rows.ensures.valid
    (rows_from (length c.rows-rows.result.now))
    (λ r below. no_rows (length c.rows-rows.result.now) r
    (omega (arith, below, ap (length {A = Row}) c.rows-rows.ensures.rows)))
    (length c.rows-rows.result.now) (rw c.rows-rows.ensures.rows)
    c.in_ok-gathered.gathered.want.items c.in_ok-gathered.gathered.most.items
    c.in_ok-gathered.gathered.tight.items
    (ap (λ (d : Demands). d.want) c.in_ok-gathered.ensures ∙ rw c.rows-rows.ensures.rows)
    (ap (λ (d : Demands). d.most) c.in_ok-gathered.ensures)
    (ap (λ (d : Demands). d.tight) c.in_ok-gathered.ensures)

pub gather_row-requires : goal.gather_row-requires
gather_row-requires c =
    let groups = c.args.instance.now in
    let below : c.loop-g.g - 1 < length groups.rows =
    row_below groups.rows c.rows-rows.result.now c.loop-g.g c.rows-rows.ensures.rows
    c.loop-g-test.true c.loop-g.auto.g in
    let so_far : IsGathering groups (rows_from (c.loop-g.g - 1 + 1)) c.loop-g.gathered.want.items
    c.loop-g.gathered.most.items c.loop-g.gathered.tight.items =
    gathered_so_far groups c.loop-g.g c.loop-g.gathered.want.items c.loop-g.gathered.most.items
    c.loop-g.gathered.tight.items c.loop-g-test.true c.loop-g.invariant in
    row_can groups c.rows-rows.ensures.valid.tree (rows_from (c.loop-g.g - 1 + 1))
    (rows_from (c.loop-g.g - 1)) (c.loop-g.g - 1)
    below (fresh_row (c.loop-g.g - 1)) (λ r _. next_row (c.loop-g.g - 1) r)
    (λ p f. parent_row_unseen groups.rows c.rows-rows.ensures.valid.tree (c.loop-g.g - 1) p f)
    c.loop-g.gathered.want.items c.loop-g.gathered.most.items c.loop-g.gathered.tight.items so_far

pub loop-g-preserved : goal.loop-g-preserved
loop-g-preserved c =
    let groups = c.args.instance.now in
    let below : c.loop-g.g - 1 < length groups.rows =
    row_below groups.rows c.rows-rows.result.now c.loop-g.g c.rows-rows.ensures.rows
    c.loop-g-test.true c.loop-g.auto.g in
    let so_far : IsGathering groups (rows_from (c.loop-g.g - 1 + 1)) c.loop-g.gathered.want.items
    c.loop-g.gathered.most.items c.loop-g.gathered.tight.items =
    gathered_so_far groups c.loop-g.g c.loop-g.gathered.want.items c.loop-g.gathered.most.items
    c.loop-g.gathered.tight.items c.loop-g-test.true c.loop-g.invariant in
    subst (λ (d : Demands). IsGathering groups (rows_from (c.loop-g.g - 1)) d.want d.most d.tight)
    (sym c.gather_row.ensures)
    (row_gathered groups c.rows-rows.ensures.valid.tree (rows_from (c.loop-g.g - 1 + 1))
    (rows_from (c.loop-g.g - 1)) (c.loop-g.g - 1)
    below (fresh_row (c.loop-g.g - 1)) (λ r _. next_row (c.loop-g.g - 1) r)
    (λ p f. parent_row_unseen groups.rows c.rows-rows.ensures.valid.tree (c.loop-g.g - 1) p f)
    c.loop-g.gathered.want.items c.loop-g.gathered.most.items c.loop-g.gathered.tight.items so_far)

pub returns : goal.returns
returns c =
    let all : c.loop-g.g ≡ 0 = omega arith in
    all_gathered c.args.instance.now c.rows-rows.ensures.valid (rows_from c.loop-g.g)
    (λ r _. all_rows c.loop-g.g r all)
    c.loop-g.gathered.want.items c.loop-g.gathered.most.items c.loop-g.gathered.tight.items
    c.loop-g.invariant
