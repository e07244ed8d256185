-- Amounts of pods: the most that their containers take at once.
use Rattle.std.specs.Prelude.{◌≡◌, ℕ, ◌+◌, ◌^◌, ◌<◌, ◌≤◌, ◌⊎◌, ◌==◌, List, length, sum_by}
use Rattle.std.specs.Prelude.{slice_index, slice_set, if◌then◌else◌}
use Rattle.std.specs.List.{range_with_len}
use Rattle.bw_owned.specs.declared.pod.TheConstants.{INIT_CONTAINER, SIDECAR}

-- the amount of a sidecar, and 0 of a part of another kind
abbrev pub of_sidecar : ℕ → ℕ → ℕ
of_sidecar kind amount = if kind == SIDECAR then amount else 0

-- the amount of an init container, and 0 of a part of another kind
abbrev pub of_init : ℕ → ℕ → ℕ
of_init kind amount = if kind == INIT_CONTAINER then amount else 0

-- the amount of a sidecar or container, which lasts, and 0 of an init container
abbrev pub of_lasting : ℕ → ℕ → ℕ
of_lasting kind amount = if kind == INIT_CONTAINER then 0 else amount

-- a number of a part, by its kind and amount
abbrev pub of_part : (ℕ → ℕ → ℕ) → List ℕ → List ℕ → ℕ → ℕ
of_part each kinds amounts k = each (slice_index kinds k) (slice_index amounts k)

-- the amounts of the sidecars before a part
abbrev pub sidecars_before : List ℕ → List ℕ → ℕ → ℕ
sidecars_before kinds amounts k = sum_by (of_part of_sidecar kinds amounts) (range_with_len 0 k)

-- The amount that a pod takes while a part starts: that of an init container, and of the sidecars
-- before it, which run on (Kubernetes, "Sidecar Containers", "Resource sharing within containers").
abbrev pub while_starting : List ℕ → List ℕ → ℕ → ℕ
while_starting kinds amounts k =
    sidecars_before kinds amounts k + of_part of_init kinds amounts k

-- the amount that a pod takes once it has started: of all its containers and sidecars
abbrev pub once_started : List ℕ → List ℕ → ℕ
once_started kinds amounts =
    sum_by (of_part of_lasting kinds amounts) (range_with_len 0 (length amounts))

-- The amount of a pod, by the kinds and amounts of its parts in their order: the most that it takes
-- at any time.
pub record IsPodAmount (kinds amounts : List ℕ) (amount : ℕ) : Type 0 where
  pub starting : (k : ℕ) → k < length amounts → while_starting kinds amounts k ≤ amount
  pub started : once_started kinds amounts ≤ amount
  pub reached : (amount ≡ once_started kinds amounts)
      ⊎ ((k : ℕ) × (k < length amounts) × (amount ≡ while_starting kinds amounts k))

-- With an amount of one part a pod takes more than some room.
abbrev pub NeedsMore : List ℕ → List ℕ → ℕ → ℕ → ℕ → Type 0
NeedsMore kinds amounts part room own =
    (amount : ℕ) → IsPodAmount kinds (slice_set amounts part own) amount → room < amount

-- the greatest amount of one part, of 64 bits, with which a pod takes no more than some room
pub record IsGreatestPart (kinds amounts : List ℕ) (part room own : ℕ) : Type 0 where
  pub fits : (amount : ℕ) × IsPodAmount kinds (slice_set amounts part own) amount
      × (amount ≤ room)
  pub greatest : (more : ℕ) → own < more → more < 2 ^ 64
      → NeedsMore kinds amounts part room more

-- the other parts alone take more than some room
abbrev pub HasNoRoom : List ℕ → List ℕ → ℕ → ℕ → Type 0
HasNoRoom kinds amounts part room = NeedsMore kinds amounts part room 0
