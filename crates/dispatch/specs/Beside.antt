-- Shares beside guarantees: how far a leaf gets ahead, by its clock, of one that waits throughout.
use Rattle.std.specs.Prelude.{◌≡◌, ◌≢◌, ℕ, ◌+◌, ◌-◌, ◌*◌, ◌<◌, ◌≤◌, ◌==◌, ◌&&◌, List, [], ◌∷◌}
use Rattle.std.specs.Prelude.{length, None, if◌then◌else◌}
use Rattle.std.specs.List.{AllByRecursion}
use Rattle.dispatch.specs.declared.reservation.Step.{Step}
use Rattle.dispatch.specs.declared.reservation.Step.TheVariants.{Wake, Pick, End, Give}
use Rattle.dispatch.specs.Groups.{used_in}
use Rattle.dispatch.specs.Reservation.{Reservations, account_at, after, terms_of, Allows, Waits}
use Rattle.dispatch.specs.Runs.{most_ahead}
use Rattle.dispatch.specs.Steps.{is_due}

-- 1 if the leaf is picked while it is due
abbrev pub due_pick : ℕ → Reservations → Step → ℕ
due_pick i s (Pick p k) = if k == i && is_due (terms_of s) (account_at s k) then 1 else 0
due_pick i s _ = 0

abbrev pub due_picks : ℕ → Reservations → List Step → ℕ
due_picks i s [] = 0
due_picks i s (e ∷ es) = due_pick i s e + due_picks i (after s e) es

-- The leaf j waits at each pick, and no wake lifts it. No plan gives i or j anything, and no run
-- uses more than a quantum.
abbrev pub WaitsBeside : ℕ → ℕ → Reservations → Step → Type 0
WaitsBeside i j s (Pick p k) = Waits s j
WaitsBeside i j s (Wake k tasks) =
    (account_at (after s (Wake k tasks)) j).share.charged ≡ (account_at s j).share.charged
WaitsBeside i j s (End p used remains) = used ≤ s.quantum
WaitsBeside i j s (Give k amount guarantee) = (k ≢ i) × (k ≢ j)
WaitsBeside i j s _ = Unit {0}

-- the rule allows each event, and j waits beside i
abbrev pub IsRunBeside : ℕ → ℕ → Reservations → List Step → Type 0
IsRunBeside i j s [] = Unit {0}
IsRunBeside i j s (e ∷ es) =
    Allows s e × WaitsBeside i j s e × IsRunBeside i j (after s e) es

-- No leaf i gets further ahead of one that waits throughout than where none has a guarantee, but
-- for a quantum for each pick at which i was due. So what is no guarantee is divided by the
-- amounts. At first no processor runs a task, and i is not ahead.
abbrev pub LeadIsDue : Type 0
LeadIsDue = (s : Reservations) (i j : ℕ) (events : List Step)
    → AllByRecursion (λ q. q ≡ None) s.processors → s.slice ≤ s.quantum → i ≢ j
    → i < length s.accounts → j < length s.accounts →
    let a = (account_at s i).share in
    let b = (account_at s j).share in
    a.charged * b.amount ≤ b.charged * a.amount → IsRunBeside i j s events
    → (a.charged + used_in (λ k. k == i) s events) * b.amount
    ≤ (b.charged + used_in (λ k. k == j) s events) * a.amount
    + (most_ahead s.slice (s.quantum - s.slice) (length s.processors) a.amount b.amount
    + due_picks i s events * s.quantum * b.amount)
