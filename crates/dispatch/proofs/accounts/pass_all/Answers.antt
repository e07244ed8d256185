-- The goals of `pass_all` that are answered by hand.
use Rattle.std.proofs.Common.{◌<◌, arith, length, ap, ◌∙◌}
use Rattle.dispatch.specs.Reservation.{passed_in, no_account}
use Rattle.dispatch.specs.Steps.{owed_fits}
use Rattle.dispatch.proofs.Mapped.{as_it_was, one_more, passes}
use Rattle.dispatch.proofs.accounts.pass_all.Goals as goal

pub passed-requires : goal.passed-requires
passed-requires c =
    let known : c.loop-account.account-index < length c.args.accounts.now = omega arith in
    ap (owed_fits c.args.terms c.args.ns)
    (as_it_was (passed_in c.args.terms c.args.ns) c.args.accounts.now c.loop-account.accounts
    c.loop-account.account-index no_account c.loop-account.invariant known)
    ∙ passes (owed_fits c.args.terms c.args.ns) c.args.accounts.now c.loop-account.account-index
    no_account known c.requires

pub loop-account-preserved : goal.loop-account-preserved
loop-account-preserved c =
    let known : c.loop-account.account-index < length c.args.accounts.now = omega arith in
    one_more (passed_in c.args.terms c.args.ns) c.args.accounts.now c.loop-account.accounts
    c.loop-account.account-index no_account c.passed.result c.loop-account.invariant known
    c.passed.ensures
