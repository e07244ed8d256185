-- The goals of `refused_row` that are answered by hand.
use Rattle.std.proofs.Common.{◌≡◌, ◌<◌, ◌≤◌, arith, length, refl}
use Rattle.bw_model.specs.declared.limits.TheConstants.{MAX_GROUPS}
use Rattle.bw_columns.specs.Asked.{table_of, rows_in}
use Rattle.bw_columns.proofs.Asked.{rows_length}
use Rattle.bw_columns.proofs.RefusedRow.{ArePlaced, some_of, first_many, tree_of}
use Rattle.bw_columns.proofs.RefusedRow.{refused_many, refused_parent, refused_weight, refused_deep}
use Rattle.bw_columns.proofs.RefusedRow.{refused_demand, refused_large, refused_root, refused_none}
use Rattle.bw_columns.proofs.first_row.refused_row.Goals as goal

pub returns-then-len-gt-MAX_GROUPS-clause-fault : goal.returns-then-len-gt-MAX_GROUPS-clause-fault
returns-then-len-gt-MAX_GROUPS-clause-fault c =
    let table = table_of c.args.columns.now in
    let long : length (rows_in table) ≡ length table.parents = rows_length table in
    let many : MAX_GROUPS < length (rows_in table) =
    omega (arith, long, c.if-len-gt-MAX_GROUPS.true, c.len.ensures) in
    refused_many (rows_in table) many

pub returns-then-len-gt-MAX_GROUPS-clause-row : goal.returns-then-len-gt-MAX_GROUPS-clause-row
returns-then-len-gt-MAX_GROUPS-clause-row c =
    let table = table_of c.args.columns.now in
    let long : length (rows_in table) ≡ length table.parents = rows_length table in
    let many : MAX_GROUPS < length (rows_in table) =
    omega (arith, long, c.if-len-gt-MAX_GROUPS.true, c.len.ensures) in
    (MAX_GROUPS, first_many (rows_in table) many, refl)

pub returns-in-Some-clause-fault : goal.returns-in-Some-clause-fault
returns-in-Some-clause-fault c =
    let table = table_of c.args.columns.now in
    let few : length table.parents ≤ MAX_GROUPS =
    omega (arith, c.if-len-gt-MAX_GROUPS.false, c.len.ensures) in
    refused_parent (rows_in table) c.in-Some.g (some_of table c.requires.some few)
    c.in-Some.ensures.some

pub returns-in-Some-first_row-clause-fault : goal.returns-in-Some-first_row-clause-fault
returns-in-Some-first_row-clause-fault c =
    let table = table_of c.args.columns.now in
    let few : length table.parents ≤ MAX_GROUPS =
    omega (arith, c.if-len-gt-MAX_GROUPS.false, c.len.ensures) in
    refused_weight (rows_in table) c.in-Some-first_row.g (some_of table c.requires.some few)
    c.in_default.ensures.none c.in-Some-first_row.ensures.some

pub first_row-requires-3-clause-tree : goal.first_row-requires-3-clause-tree
first_row-requires-3-clause-tree c = λ deep.
    let table = table_of c.args.columns.now in
    let few : length table.parents ≤ MAX_GROUPS =
    omega (arith, c.if-len-gt-MAX_GROUPS.false, c.len.ensures) in
    tree_of (rows_in table) (some_of table c.requires.some few) c.in_default.ensures.none

pub returns-in-Some-first_row-2-clause-fault : goal.returns-in-Some-first_row-2-clause-fault
returns-in-Some-first_row-2-clause-fault c =
    let table = table_of c.args.columns.now in
    let few : length table.parents ≤ MAX_GROUPS =
    omega (arith, c.if-len-gt-MAX_GROUPS.false, c.len.ensures) in
    let placed : ArePlaced (rows_in table) = record {
      held = some_of table c.requires.some few;
      parents = c.in_default.ensures.none;
      weights = c.in_default-first_row.ensures.none;
    } in
    refused_deep (rows_in table) c.in-Some-first_row-2.g placed c.in-Some-first_row-2.ensures.some

pub row_at-requires-clause-within : goal.row_at-requires-clause-within
row_at-requires-clause-within c =
    let table = table_of c.args.columns.now in
    let long : length (rows_in table) ≡ length table.parents = rows_length table in
    omega (arith, long, c.in-Some-first_row-3.ensures.some.within)

pub returns-in-Some-first_row-3-clause-fault : goal.returns-in-Some-first_row-3-clause-fault
returns-in-Some-first_row-3-clause-fault c =
    let table = table_of c.args.columns.now in
    let few : length table.parents ≤ MAX_GROUPS =
    omega (arith, c.if-len-gt-MAX_GROUPS.false, c.len.ensures) in
    let placed : ArePlaced (rows_in table) = record {
      held = some_of table c.requires.some few;
      parents = c.in_default.ensures.none;
      weights = c.in_default-first_row.ensures.none;
    } in
    refused_demand (rows_in table) c.in-Some-first_row-3.g placed
    c.in_default-first_row-2.ensures.none c.in-Some-first_row-3.ensures.some

pub returns-in-Some-first_row-4-clause-fault : goal.returns-in-Some-first_row-4-clause-fault
returns-in-Some-first_row-4-clause-fault c =
    let table = table_of c.args.columns.now in
    let few : length table.parents ≤ MAX_GROUPS =
    omega (arith, c.if-len-gt-MAX_GROUPS.false, c.len.ensures) in
    let placed : ArePlaced (rows_in table) = record {
      held = some_of table c.requires.some few;
      parents = c.in_default.ensures.none;
      weights = c.in_default-first_row.ensures.none;
    } in
    refused_large (rows_in table) c.in-Some-first_row-4.g placed
    c.in_default-first_row-2.ensures.none c.in_default-first_row-3.ensures.none
    c.in-Some-first_row-4.ensures.some

pub returns-in-Some-first_row-5-clause-fault : goal.returns-in-Some-first_row-5-clause-fault
returns-in-Some-first_row-5-clause-fault c =
    let table = table_of c.args.columns.now in
    let few : length table.parents ≤ MAX_GROUPS =
    omega (arith, c.if-len-gt-MAX_GROUPS.false, c.len.ensures) in
    let placed : ArePlaced (rows_in table) = record {
      held = some_of table c.requires.some few;
      parents = c.in_default.ensures.none;
      weights = c.in_default-first_row.ensures.none;
    } in
    refused_root (rows_in table) c.in-Some-first_row-5.g placed
    c.in_default-first_row-2.ensures.none c.in_default-first_row-3.ensures.none
    c.in_default-first_row-4.ensures.none c.in-Some-first_row-5.ensures.some

pub returns-clause-none : goal.returns-clause-none
returns-clause-none c =
    let table = table_of c.args.columns.now in
    let few : length table.parents ≤ MAX_GROUPS =
    omega (arith, c.if-len-gt-MAX_GROUPS.false, c.len.ensures) in
    let placed : ArePlaced (rows_in table) = record {
      held = some_of table c.requires.some few;
      parents = c.in_default.ensures.none;
      weights = c.in_default-first_row.ensures.none;
    } in
    refused_none (rows_in table) placed c.in_default-first_row-2.ensures.none
    c.in_default-first_row-3.ensures.none c.in_default-first_row-4.ensures.none
    c.in_default-first_row-5.ensures.none
