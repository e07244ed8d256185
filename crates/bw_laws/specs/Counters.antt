-- A group that is made has no counters, whatever group had its name before.
use Rattle.std.specs.Prelude.{◌≡◌, ℕ, true, false, List, [], ◌∷◌, None}
use Rattle.bw_model.specs.Host.{Shape}
use Rattle.bw_stat.specs.Books.{stat_at}
use Rattle.bw_hierarchy.specs.CallLists.{Call, after_calls}
use Rattle.bw_laws.specs.Ids.{has_id, ran}

-- After any calls on a new hierarchy, a group that one more call makes has no counters.
abbrev pub NewGroupsCountNothing : Type 0
NewGroupsCountNothing = (shape : Shape) (calls : List Call) (call : Call) (id : ℕ)
    → has_id (ran shape calls) id ≡ false
    → has_id (after_calls (ran shape calls) (call ∷ [])) id ≡ true
    → stat_at (after_calls (ran shape calls) (call ∷ [])).books id ≡ None
