-- Where the owner of a place is while its seat is lent, by what it has read and found since it last
-- slept, and what it may do there.
use Rattle.std.specs.Prelude.{◌≡◌, ◌≢◌, ℕ, zero, suc, ◌%◌, ◌≤◌, ◌==◌, ◌⊎◌, if◌then◌else◌}
use Rattle.std.specs.Prelude.{Option, None, Some}
use Rattle.bw_lend.specs.Crowd.{Stage, Reading, Looking, Retracting, Parking, ParkingHeld, Fetching}

-- nobody had claimed the seat when the state was read
abbrev pub IsPosted : Option ℕ → Type 0
IsPosted None = ⊥
IsPosted (Some state) = state % 8 ≡ 3

-- this ticket was found served
abbrev pub IsOwn : Option ℕ → ℕ → Type 0
IsOwn None ticket = ⊥
IsOwn (Some found) ticket = found ≡ ticket

-- another ticket than this was found served
abbrev pub IsPassedOver : Option ℕ → ℕ → Type 0
IsPassedOver None ticket = ⊥
IsPassedOver (Some found) ticket = found ≢ ticket

-- An owner with this ticket may take its place back that has read this state and has then found
-- this ticket served. Either the seat is back, or nobody had claimed it, and its ticket was served.
abbrev pub MayTakeBack : Option ℕ → Option ℕ → ℕ → Type 0
MayTakeBack None found ticket = ⊥
MayTakeBack (Some state) found ticket =
    (4 ≤ state % 8) ⊎ ((state % 8 ≡ 3) × IsOwn found ticket)

-- An owner with this ticket may sleep that has read this state and has then found this ticket
-- served. Either its seat was claimed, or nobody had claimed it, and another ticket was served.
abbrev pub MaySleep : Option ℕ → Option ℕ → ℕ → Type 0
MaySleep None found ticket = ⊥
MaySleep (Some state) found ticket =
    (state % 8 ≤ 2) ⊎ ((state % 8 ≡ 3) × IsPassedOver found ticket)

-- the stage of an owner with this ticket whose seat nobody had claimed, by what it found served
abbrev pub after_look : Option ℕ → ℕ → Stage
after_look None ticket = Looking
after_look (Some found) ticket = if ticket == found then Retracting else Parking

-- its stage by the code of the state that it has read, and by what it found served
abbrev pub after_read : ℕ → Option ℕ → ℕ → Stage
after_read (suc (suc (suc zero))) found ticket = after_look found ticket
after_read (suc (suc (suc (suc n)))) found ticket = Fetching
after_read _ found ticket = ParkingHeld

-- the stage of an owner with this ticket, by the state that it has read and what it found served
abbrev pub stage_of : Option ℕ → Option ℕ → ℕ → Stage
stage_of None found ticket = Reading
stage_of (Some state) found ticket = after_read (state % 8) found ticket
