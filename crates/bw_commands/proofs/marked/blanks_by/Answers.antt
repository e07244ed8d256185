-- The goals of `blanks_by` that are answered by hand.
use Rattle.std.proofs.Common.{◌-◌, ◌*◌, arith, length, refl}
use Rattle.bw_commands.specs.Word.{is_blank}
use Rattle.bw_commands.proofs.Marks.{mask_of_two}
use Rattle.bw_commands.proofs.marked.blanks_by.Goals as goal

pub returns : goal.returns
returns g c =
    let len = length c.args.text.now in
    let n = g.row.N in
    rw (c.blanks_at-front.ensures, c.blanks_at-last.ensures) (mask_of_two is_blank c.args.text.now n
    len (len - n) (2 * n - len) refl (omega arith) (omega arith) (omega arith) (omega arith))
