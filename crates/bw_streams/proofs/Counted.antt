-- Read calls counted along a loop that reads to the end.
use Rattle.std.proofs.Common.{ℕ, ◌≤◌, ◌<◌, ◌+◌, ◌++◌, [], List, length, length-append, Option}
use Rattle.std.proofs.Common.{arith}
use Rattle.std.specs.Io.KnownBytes.{Consumes}
use Rattle.bw_streams.specs.Reading.{EachReadGives, EndIsReadOnce}
use Rattle.bw_streams.proofs.Known.{Consumes-nil, Consumes-trans}

-- before the first call
pub none_read : (a : Option (List ℕ)) → EachReadGives a a 0
none_read a = ([], Consumes-nil a, omega arith)

-- after a call that goes on
pub one_more_read : (a b d : Option (List ℕ)) (calls : ℕ) (bytes : List ℕ) → EachReadGives a b calls
    → Consumes b d bytes → 0 < length bytes → EachReadGives a d (calls + 1)
one_more_read a b d calls bytes before read some =
    let sum = length-append before.0 bytes in (
      before.0 ++ bytes,
      Consumes-trans a b d before.0 bytes before.1 read,
      omega (arith, sum, some, before.2),
    )

-- after one call more at most, which may be the last
pub last_read : (a b d : Option (List ℕ)) (calls all : ℕ) (bytes : List ℕ) → EachReadGives a b calls
    → Consumes b d bytes → all ≤ calls + 1 → EndIsReadOnce a d all
last_read a b d calls all bytes before read one_more =
    let sum = length-append before.0 bytes in (
      before.0 ++ bytes,
      Consumes-trans a b d before.0 bytes before.1 read,
      omega (arith, sum, one_more, before.2),
    )
