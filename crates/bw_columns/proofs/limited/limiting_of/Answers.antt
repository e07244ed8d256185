-- The goals of `limiting_of` that are answered by hand.
use Rattle.std.proofs.Common.{arith, ◌≤◌, length}
use Rattle.bw_model.specs.declared.limits.TheConstants.{MAX_GROUPS}
use Rattle.bw_columns.specs.Asked.{shape_of, table_of}
use Rattle.bw_columns.specs.Requests.{row_count}
use Rattle.bw_columns.proofs.Asked.{limiting_short, few_rows}
use Rattle.bw_columns.proofs.limited.limiting_of.Goals as goal

pub returns-clause-short : goal.returns-clause-short
returns-clause-short c =
    let most = c.in_ok-gathered.gathered.most.items in
    rw c.in_ok-limiting.ensures.groups
    (rw c.in_ok-instance.ensures.groups
    (limiting_short (shape_of c.args.request.now.host) (table_of c.args.request.now.columns) most))

pub returns-clause-few : goal.returns-clause-few
returns-clause-few c =
    let short : length c.in_ok-limiting.field-0.groups.items
    ≤ row_count c.args.request.now = returns-clause-short c in
    let few : row_count c.args.request.now ≤ MAX_GROUPS =
    few_rows c.in_ok-instance.instance (shape_of c.args.request.now.host)
    (table_of c.args.request.now.columns) c.in_ok-instance.ensures.groups c.in_ok-instance.ensures.valid in
    omega (arith, short, few)
