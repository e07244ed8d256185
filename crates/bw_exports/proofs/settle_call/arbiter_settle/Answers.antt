-- The goal of `arbiter_settle` that is answered by hand.
use Rattle.std.proofs.Common.{length, ap, sym, ◌∙◌}
use Rattle.bw_exports.proofs.settle_call.arbiter_settle.Goals as goal

pub copy_from_slice-requires : goal.copy_from_slice-requires
copy_from_slice-requires c =
    sym (c.are_fit-fit.ensures.owners c.in-Ok.ensures.fit) ∙ sym c.in-Ok.ensures.as_many
    ∙ ap length (sym c.as_slice.ensures.value)
