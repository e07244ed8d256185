-- The parts of a watched reader or writer that contracts see.
use Rattle.std.specs.Prelude.{ℕ, Bool, true, false, ◌&&◌, ◌==◌, ◌≡◌, List, length, Option, is_some}
use Rattle.std.specs.Prelude.{Result, Ok, Err, nat_lt, ◌||◌, is_err, IfSome}
use Rattle.std.specs.declared.io.Error.{Error}
use Rattle.bw_streams.specs.declared.watched.Watched.{Watched}

-- the reader or writer inside
abbrev pub inner_of : {T : Type 0} → Watched T → T
inner_of w = w.inner

-- the error of the first call that failed
abbrev pub first_error : {T : Type 0} → Watched T → Option Error
first_error w = w.error

-- whether a call has failed
abbrev pub has_failed : {T : Type 0} → Watched T → Bool
has_failed w = is_some (first_error w)

-- whether a write of some bytes took none
abbrev pub has_stalled : {T : Type 0} → Watched T → Bool
has_stalled w = w.stalled

-- the number of reads so far
abbrev pub read_calls : {T : Type 0} → Watched T → ℕ
read_calls w = w.reads

-- whether no write has gone well since the last flush that did
abbrev pub is_flushed : {T : Type 0} → Watched T → Bool
is_flushed w = w.flushed

-- no call was made, or none that is remembered
pub record IsFresh {T : Type 0} (w : Watched T) : Type 0 where
  pub not_failed : has_failed w ≡ false
  pub not_stalled : has_stalled w ≡ false
  pub no_reads : read_calls w ≡ 0
  pub flushed : is_flushed w ≡ true

-- a write of some bytes that took none
abbrev pub takes_none : {E : Type 0} → List ℕ → Result ℕ E → Bool
takes_none bytes (Ok n) = nat_lt 0 (length bytes) && (n == 0)
takes_none bytes (Err e) = false

-- no call has failed or taken no bytes
pub record HasNoFault {T : Type 0} (w : Watched T) : Type 0 where
  pub not_failed : has_failed w ≡ false
  pub not_stalled : has_stalled w ≡ false

-- After a fault a call answers an error, the first one if a call has failed, and what is inside
-- stays as it was.
pub record StopsAtFault {T A : Type 0} (old new : Watched T) (result : Result A Error)
    : Type 0 where
  pub kept : (has_failed old || has_stalled old) ≡ true → inner_of new ≡ inner_of old
  pub error : IfSome (first_error old) (λ e. result ≡ Err e)
  pub stalled : has_stalled old ≡ true → is_err result ≡ true
