-- The goals of `instance_of` that are answered by hand.
use Rattle.std.proofs.Common.{rules, ◌≡◌, true, false, List, sym, subst, inl}
use Rattle.bw_model.specs.declared.row.Row.{Row}
use Rattle.bw_model.specs.Host.{Shape, IsHost}
use Rattle.bw_model.specs.Groups.{IsInstance}
use Rattle.bw_model.specs.Refusal.{refusal, IsRefused}
use Rattle.bw_columns.specs.Asked.{shape_of, table_of, rows_in, are_even, asked_number}
use Rattle.bw_columns.specs.Asked.{IsAfterMemory}
use Rattle.bw_columns.proofs.Asked.{asked_uneven, host_refused, asked_none, rows_refused}
use Rattle.bw_columns.proofs.Asked.{host_accepted}
use Rattle.bw_columns.proofs.asked_instance.instance_of.Goals as goal

pub returns-then-not-are_even-clause-err : goal.returns-then-not-are_even-clause-err
returns-then-not-are_even-clause-err c =
    let e : are_even (table_of c.args.columns.now) ≡ false = search rules in
    inl (sym (asked_uneven (shape_of c.args.host) (table_of c.args.columns.now) e))

pub returns-in-Err-clause-err : goal.returns-in-Err-clause-err
returns-in-Err-clause-err c =
    let e : are_even (table_of c.args.columns.now) ≡ true = search rules in
    inl (sym (host_refused (shape_of c.args.host) (table_of c.args.columns.now) c.in-Err.fault e
    c.in-Err.ensures.err))

pub returns-in-Ok-new-clause-none : goal.returns-in-Ok-new-clause-none
returns-in-Ok-new-clause-none c =
    let e : are_even (table_of c.args.columns.now) ≡ true = search rules in
    let host : IsHost (shape_of c.args.host) =
    subst IsHost c.in-Ok.ensures.ok c.in-Ok.ensures.valid in
    let of_rows : IsInstance
    (record { shape = c.in-Ok.shape; rows = rows_in (table_of c.args.columns.now) }) =
    subst (λ (rows : List Row). IsInstance (record { shape = c.in-Ok.shape; rows = rows }))
    c.in_ok-rows.ensures
    (subst IsInstance c.in-Ok-new.ensures.groups c.in-Ok-new.ensures.valid) in
    asked_none (shape_of c.args.host) (table_of c.args.columns.now) e host
    (subst (λ (shape : Shape). IsInstance
    (record { shape = shape; rows = rows_in (table_of c.args.columns.now) })) c.in-Ok.ensures.ok
    of_rows)

pub returns-in-Err-new-clause-err : goal.returns-in-Err-new-clause-err
returns-in-Err-new-clause-err c =
    let e : are_even (table_of c.args.columns.now) ≡ true = search rules in
    rows_refused (shape_of c.args.host) (table_of c.args.columns.now) c.in-Err-new.fault e
    (subst IsHost c.in-Ok.ensures.ok c.in-Ok.ensures.valid)
    (subst (λ (rows : List Row). IsRefused (refusal rows) c.in-Err-new.fault) c.in_ok-rows.ensures
    c.in-Err-new.ensures.err)

pub returns-in_err-rows-clause-err : goal.returns-in_err-rows-clause-err
returns-in_err-rows-clause-err c =
    let e : are_even (table_of c.args.columns.now) ≡ true = search rules in
    let late : IsAfterMemory
    (asked_number (shape_of c.args.host) (table_of c.args.columns.now)) =
    host_accepted (shape_of c.args.host) (table_of c.args.columns.now) e
    (subst IsHost c.in-Ok.ensures.ok c.in-Ok.ensures.valid) in
    search (late, rules)
