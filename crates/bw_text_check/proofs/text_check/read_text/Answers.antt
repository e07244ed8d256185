-- The goals of `read_text` that are answered by hand.
use Rattle.std.proofs.Common.{◌⊎◌, ◌<◌, ◌+◌, ◌++◌, ℕ, List, Bool, Option, length, length-append}
use Rattle.std.proofs.Common.{inl, inr, arith}
use Rattle.std.specs.Io.KnownBytes.{Consumes}
use Rattle.bw_text_check.specs.Reads.{ReadsTooMuch}
use Rattle.bw_streams.specs.declared.fault.RunFault.TheVariants.{Read}
use Rattle.bw_text_check.specs.declared.text_check.TheConstants.{TEXT_BYTES}
use Rattle.bw_streams.proofs.CallerLemmas.{Consumes-trans, moves_err, last_read}
use Rattle.bw_text_check.proofs.text_check.read_text.Goals as goal

-- a text so far, and a read that makes it too long
reads_too_much : (a b d : Option (List ℕ)) (text : List ℕ) → Consumes a b text
    → (bytes : List ℕ) × Consumes b d bytes × (TEXT_BYTES < length text + length bytes)
    → ReadsTooMuch a d
reads_too_much a b d text p q =
    let sum = length-append text q.0 in
    (text ++ q.0, Consumes-trans a b d text q.0 p q.1, omega (arith, sum, q.2))

-- the third of three causes from the second of two
third : {A B C D : Type 0} → (C → D) → A ⊎ C → A ⊎ B ⊎ D
third f (inl a) = inl a
third f (inr d) = inr (inr (f d))

pub returns-in-Err-clause-reads : goal.returns-in-Err-clause-reads
returns-in-Err-clause-reads g c = record {
  end = tt;
  quiet = tt;
  calls = omega (arith, c.loop-turn.invariant.calls, c.in-Err.ensures.reads);
  when = λ h.
      third (λ q. reads_too_much _ _ _ c.loop-turn.text.items c.loop-turn.invariant.read q)
      (c.in-Err.ensures.read_when (moves_err {U = Bool} c.in-Err.fault Read h));
}

pub returns-in-Err-clause-few_err : goal.returns-in-Err-clause-few_err
returns-in-Err-clause-few_err g c =
    last_read _ _ _ _ _ _
    (c.loop-turn.text.items, c.loop-turn.invariant.read, c.loop-turn.invariant.few)
    c.in-Err.ensures.consumed.1
    (omega (arith, c.loop-turn.invariant.calls, c.in-Err.ensures.reads))
