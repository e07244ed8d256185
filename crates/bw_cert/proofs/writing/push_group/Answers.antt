-- The goal of `push_group` that is answered by hand.
use Rattle.std.proofs.Common.{◌-◌, drop, take_all, length-drop, arith}
use Rattle.std.specs.Option.{option_map}
use Rattle.bw_model.specs.Marks.{price_of}
use Rattle.bw_cert.proofs.AsciiLine.{group_ascii}
use Rattle.bw_cert.proofs.writing.push_group.Goals as goal

pub push_ascii-requires : goal.push_ascii-requires
push_ascii-requires c =
    let start = c.write_group-start.result in
    let bytes = drop start c.write_group-start.new.buffer in
    let small = c.write_group-start.ensures in
    rw (
      take_all (170 - start) bytes
          (omega (arith, length-drop start c.write_group-start.new.buffer)),
      small.written,
    )
    (group_ascii c.args.row c.args.amount c.args.flag (option_map price_of c.args.level)
    small.small_row small.small_amount small.small_level)
