-- What stands at each turn of the loop in `write_certified`.
use Rattle.std.proofs.Common.{◌≡◌, ◌++◌}
use Rattle.std.specs.Prelude.{string_bytes}
use Rattle.bw_cert.specs.Spelling.{certified_value, spelling}
use Rattle.bw_cert.proofs.Written.{rest_text, AreSmall}
use Rattle.bw_cert.proofs.writing.write_certified.Given as goal

abbrev pub invariant-loop-i : goal.invariant-loop-i
invariant-loop-i l =
    (string_bytes l.out ++ rest_text l.instance.rows l.amounts l.certificate.tight.items
    l.certificate.levels.items l.i
    ≡ spelling (certified_value l.instance l.amounts l.certificate))
    × AreSmall l.instance.rows l.amounts l.certificate.levels.items l.i
