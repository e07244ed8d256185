-- What a refused call on the hierarchy means for its line.
use Rattle.std.proofs.Common.{◌≡◌, ◌≢◌, ◌⊎◌, ℕ, Bool, true, false, List, Result, Ok, Err, IfErr}
use Rattle.std.proofs.Common.{refl, inl, inr, sym, ap, subst}
use denote.Enum.Bare.{sameb, same_true, same_false}
use Rattle.bw_tree.specs.contracts.fault.TreeFault.{the_type}
use Rattle.bw_tree.specs.declared.fault.TreeFault.{TreeFault}
use Rattle.bw_tree.specs.declared.fault.TreeFault.TheVariants.{OutOfMemory}
use Rattle.bw_hierarchy.specs.Faults.{IsRefusal, IsMemoryLast}
use Rattle.bw_hierarchy.specs.declared.fault.Fault.{Fault}
use Rattle.bw_hierarchy.specs.declared.fault.Fault.TheVariants.{Tree, File, NoSuchFile, ReadOnly}
use Rattle.bw_hierarchy.specs.declared.fault.Fault.TheVariants.{BurstAboveQuota}
use Rattle.bw_commands.specs.State.{State}
use Rattle.bw_commands.specs.Faults.{error_line}
use Rattle.bw_commands.specs.Script.{IsOutcome, call_outcome}
use Rattle.bw_commands.specs.declared.fault.ScriptFault.TheVariants as fault

-- the refusal itself is an answer
pub call_outcome-refused : {A : Type 0} (s : State) (text : A → List ℕ) (after : A → State)
    (r : Result A Fault) (f : Fault) → r ≡ Err f
    → IsOutcome s (call_outcome s text after r) (error_line (fault.Call f)) s
call_outcome-refused s text after r f e =
    subst (λ o. IsOutcome s (call_outcome s text after o) (error_line (fault.Call f)) s) (sym e)
    (inl (refl, refl))

-- and so is `OutOfMemory` where nothing else refuses the call
pub call_outcome-memory : {A : Type 0} (s : State) (text : A → List ℕ) (after : A → State)
    (r : Result A Fault) → IfErr r (λ other. ⊥)
    → IsOutcome s (call_outcome s text after r) (error_line fault.OutOfMemory) s
call_outcome-memory s text after (Ok x) h = inr (refl, refl)
call_outcome-memory s text after (Err f) h = absurd h

-- a fault of the tree is `OutOfMemory`, or another one
memory_or_other : (f : TreeFault) → (f ≡ OutOfMemory) ⊎ (f ≢ OutOfMemory)
memory_or_other f = by (sameb the_type f OutOfMemory) refl
  where
    by : (b : Bool) → sameb the_type f OutOfMemory ≡ b → (f ≡ OutOfMemory) ⊎ (f ≢ OutOfMemory)
    by true is = inl (same_true the_type tt f OutOfMemory is)
    by false is = inr (same_false the_type f OutOfMemory is)

-- a call that grows something
pub call_outcome-IsRefusal : {A : Type 0} (s : State) (text : A → List ℕ) (after : A → State)
    (r : Result A Fault) (f : Fault) → IsRefusal r f
    → IsMemoryLast r f → IsOutcome s (call_outcome s text after r) (error_line (fault.Call f)) s
unfolding error_line
call_outcome-IsRefusal s text after r (Tree f) h last = elim (memory_or_other f) [
  | inl is ↦ subst
      (λ g. IsOutcome s (call_outcome s text after r) (error_line (fault.Call (Tree g))) s) (sym is)
      (call_outcome-memory s text after r (last (ap Tree is)))
  | inr other ↦ call_outcome-refused s text after r (Tree f)
      (h (λ e. other (let is : f ≡ OutOfMemory = cc in is)))
]
call_outcome-IsRefusal s text after r (File f) h last =
    call_outcome-refused s text after r _ (h (λ e. cc))
call_outcome-IsRefusal s text after r NoSuchFile h last =
    call_outcome-refused s text after r _ (h (λ e. cc))
call_outcome-IsRefusal s text after r ReadOnly h last =
    call_outcome-refused s text after r _ (h (λ e. cc))
call_outcome-IsRefusal s text after r BurstAboveQuota h last =
    call_outcome-refused s text after r _ (h (λ e. cc))
