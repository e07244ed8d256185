-- The invariant of lent seats: what holds at the start, and after each event if it held before.
use Rattle.std.proofs.Common.{◌≡◌, ◌≢◌, ℕ, ◌%◌, ◌<◌, ◌≤◌}
use Rattle.std.proofs.Common.{Some}
use Rattle.bw_lend.specs.Crowd.{Stage, Drawn, Hinting, Reading, Looking, Retracting, Parking}
use Rattle.bw_lend.specs.Crowd.{Asleep, Fetching, Entering, Inside}
use Rattle.bw_lend.specs.Crowd.{Errand, Peeking, Claiming, EnteringFor, Helping, Giving}
use Rattle.bw_lend.specs.Crowd.{GivingLast, Returning}
use Rattle.bw_lend.specs.Crowd.{Phase, Has, Leaves, Wakes, Place, Away, Posted, Claimed, Done, Back}
use Rattle.bw_lend.specs.Crowd.{Crowd, own_loads}
use Rattle.bw_lend.specs.CrowdLaws.{Notes, WakesFirst, Holds, SomeoneComes}

-- it has not the ticket x without its hint stored
abbrev pub NotEarly : ℕ → Phase → Type 0
NotEarly x (Has t Drawn) = t ≢ x
NotEarly x (Has t Hinting) = t ≢ x
NotEarly x _ = Unit {0}

-- the seat j drew the ticket x, and did not take it without a hint
abbrev pub Hinted : Crowd → ℕ → ℕ → Type 0
Hinted s x j = (x < s.next) × (s.owner x ≡ j) × NotEarly x (s.phase j)

-- the hint of the ticket t stands, and it names the seat i
abbrev pub Stands : Crowd → ℕ → ℕ → Type 0
Stands s t i = s.hint (t % s.words) ≡ Some (record { ticket = t; seat = i })

-- a seat that is with its owner, with the ticket t where v is served
abbrev pub HomeAt : Stage → ℕ → ℕ → Type 0
HomeAt Drawn v t = v ≤ t
HomeAt Entering v t = t ≡ v
HomeAt Inside v t = t ≡ v
HomeAt _ v t = ⊥

-- a seat that is lent and not claimed: if it may sleep while its ticket is served, someone comes
abbrev pub WaitsAt : Crowd → ℕ → ℕ → Stage → Type 0
WaitsAt s i t Hinting = Unit {0}
WaitsAt s i t Reading = Stands s t i
WaitsAt s i t Looking = Stands s t i
WaitsAt s i t Retracting = Stands s t i × (t ≡ s.serving)
WaitsAt s i t Parking = Stands s t i × (t ≡ s.serving → SomeoneComes s t i)
WaitsAt s i t Asleep = Stands s t i × (t ≡ s.serving → SomeoneComes s t i)
WaitsAt s i t _ = ⊥

-- a stage in which the seat is lent and its hint stored
abbrev pub IsLent : Stage → Type 0
IsLent Drawn = ⊥
IsLent Hinting = ⊥
IsLent Fetching = ⊥
IsLent Entering = ⊥
IsLent Inside = ⊥
IsLent _ = Unit {0}

-- the same, or it is about to be taken back
abbrev pub IsAwaited : Stage → Type 0
IsAwaited Drawn = ⊥
IsAwaited Hinting = ⊥
IsAwaited Entering = ⊥
IsAwaited Inside = ⊥
IsAwaited _ = Unit {0}

-- if it sleeps
abbrev pub IfAsleep : Stage → Type 0 → Type 0
IfAsleep Asleep A = A
IfAsleep _ A = Unit {0}

-- the stage of the seat i with the ticket t, and the word of its place
abbrev pub OkPlace : Crowd → ℕ → ℕ → Stage → Place → Type 0
OkPlace s i t w Away = HomeAt w s.serving t
OkPlace s i t w (Posted u) = (u ≡ t) × (s.serving ≤ t) × WaitsAt s i t w
OkPlace s i t w (Claimed u h) = (u ≡ t) × IsLent w × Holds s.serving (s.phase h) t i
OkPlace s i t w (Done u h) =
    (u ≡ t) × (t < s.serving) × IsAwaited w × IfAsleep w (Notes (s.phase h) i)
OkPlace s i t w (Back u h) =
    (u ≡ t) × (t ≡ s.serving) × IsAwaited w × IfAsleep w (WakesFirst (s.phase h) i)

-- what the seat i has to do, with the ticket x
abbrev pub OkErrand : Crowd → ℕ → ℕ → Errand → Type 0
OkErrand s i x (Peeking k) = (x ≤ s.serving) × (k ≤ own_loads)
OkErrand s i x (Claiming j) = (x ≤ s.serving) × Hinted s x j
OkErrand s i x (EnteringFor j) = s.place j ≡ Claimed x i
OkErrand s i x (Helping j) = s.place j ≡ Claimed x i
OkErrand s i x (Giving j k) = (s.place j ≡ Claimed x i) × (k ≤ own_loads)
OkErrand s i x (GivingLast j) = s.place j ≡ Claimed x i
OkErrand s i x (Returning j) = s.place j ≡ Claimed x i

-- the phase of the seat i and the word of its place
abbrev pub Ok : Crowd → ℕ → Phase → Place → Type 0
Ok s i (Has t w) q = (t < s.next) × (s.owner t ≡ i) × (i < s.seats) × OkPlace s i t w q
Ok s i (Leaves x js e) q = (q ≡ Away) × OkErrand s i x e
Ok s i (Wakes js) q = q ≡ Away

pub record Sound (s : Crowd) : Type 0 where
  -- no ticket is served beyond the next one
  pub drawn : s.serving ≤ s.next
  -- there is a hint word for each seat
  pub room : s.seats ≤ s.words
  -- each seat is where the word of its place says
  pub each : (i : ℕ) → Ok s i (s.phase i) (s.place i)
  -- each ticket that is drawn and not left is with the seat that drew it
  pub held : (t : ℕ) → s.serving ≤ t → t < s.next
      → (w : Stage) × (s.phase (s.owner t) ≡ Has t w)
  -- each hint is of a seat that drew its ticket
  pub hints : (b x j : ℕ) → s.hint b ≡ Some (record { ticket = x; seat = j }) → Hinted s x j
