-- Limits at a level, and limits that are raised to a level.
use Rattle.std.proofs.Common.{◌≡◌, ℕ, ◌<◌, ◌≤◌, List, Bool, false, Option, None}
use Rattle.std.proofs.Common.{length, get_or, refl, arith, inl, inr}
use Rattle.std.proofs.lemmas.Bool.{cases_Bool}
use Rattle.std.proofs.lemmas.List.FromFn.{get_or-map-range_with_len, length-map-range_with_len}
use Rattle.bw_model.specs.Groups.{Groups, IsInstance}
use Rattle.bw_model.specs.Host.{capacity_of}
use Rattle.bw_plan.specs.Laws.{ThereIsOnePlan}
use Rattle.bw_questions.specs.changes.Room.{OthersRoomGivesNothing}
use Rattle.bw_questions.specs.OtherLimits.{AreCuts, AreLimitsFrom, CanBeMet, IsGreatestLevel}
use Rattle.bw_questions.specs.OtherLimits.{IsGreatestRaise, at_level, full_limit, is_free, is_raised}
use Rattle.bw_questions.specs.OtherLimits.{limit_at, raised_limit, raised_limits}
use Rattle.bw_questions.specs.declared.from_root.measure.Measure.{Measure}
use Rattle.bw_questions.proofs.LowerLimits.{met_with_lower}

module _ (groups : Groups) (goals : List ℕ) where
  module _ (limits : List ℕ) (only : Option ℕ) where
    pub raised_at : (level h : ℕ) → h < length groups.rows
        → get_or (raised_limits groups limits only level) h 0
        ≡ raised_limit groups limits only level h
    raised_at level h below =
        get_or-map-range_with_len (raised_limit groups limits only level) 0 (length groups.rows) h
        h 0 below (omega arith)

    pub raised_cuts : AreCuts groups goals limits → (level : ℕ)
        → AreCuts groups goals (raised_limits groups limits only level)
    raised_cuts cuts level = record {
      one_each =
          length-map-range_with_len (raised_limit groups limits only level) 0 (length groups.rows);
      no_higher = λ h below. rw (raised_at level h below) (no_higher h below);
      kept = λ h below stays. rw (raised_at level h below) (kept h below stays);
    }
      where
        no_higher : (h : ℕ) → h < length groups.rows
            → raised_limit groups limits only level h ≤ full_limit groups h
        no_higher h below = elim (cases_Bool (is_raised only h)) [
          | inl one ↦ rw one (omega arith)
          | inr other ↦ rw other (cuts.no_higher h below)
        ]

        kept : (h : ℕ) → h < length groups.rows → is_free groups.rows goals h ≡ false
            → raised_limit groups limits only level h ≡ full_limit groups h
        kept h below stays = elim (cases_Bool (is_raised only h)) [
          | inl one ↦ rw one (omega (arith, cuts.kept h below stays))
          | inr other ↦ rw other (cuts.kept h below stays)
        ]

    raised_less : (level more h : ℕ) → level ≤ more → h < length groups.rows
        → get_or (raised_limits groups limits only level) h 0
        ≤ get_or (raised_limits groups limits only more) h 0
    raised_less level more h up below =
        rw (raised_at level h below, raised_at more h below)
        (elim (cases_Bool (is_raised only h)) [
          | inl one ↦ rw one (omega (arith, up))
          | inr other ↦ rw other (omega arith)
        ])

  module _ (valid : IsInstance groups) (one : ThereIsOnePlan) (room : OthersRoomGivesNothing)
      (may : List Bool) (measure : Measure) where
    -- A level above one that will not do will not do.
    pub none_above : (limits : List ℕ) → AreCuts groups goals limits → (only : Option ℕ)
        → (level more : ℕ) → level ≤ more
        → ¬ CanBeMet measure groups goals may (raised_limits groups limits only level)
        → ¬ CanBeMet measure groups goals may (raised_limits groups limits only more)
    none_above limits cuts only level more up fails can =
        fails (met_with_lower groups valid goals one room may
        (raised_limits groups limits only more) (raised_limits groups limits only level)
        (raised_cuts limits only cuts more) (raised_cuts limits only cuts level)
        (λ h below. raised_less limits only level more h up below) measure can)

  -- Limits at a level.
  module _ (lowest : List ℕ) where
    pub level_at : (level h : ℕ) → h < length groups.rows
        → get_or (at_level groups goals lowest level) h 0 ≡ limit_at groups goals lowest level h
    level_at level h below =
        get_or-map-range_with_len (limit_at groups goals lowest level) 0 (length groups.rows) h h 0
        below (omega arith)

    at_most : (level h : ℕ) → limit_at groups goals lowest level h ≤ full_limit groups h
    at_most level h = elim (cases_Bool (is_free groups.rows goals h)) [
      | inl free ↦ rw free (omega arith)
      | inr stays ↦ rw stays (omega arith)
    ]

    pub level_limits : (level : ℕ)
        → AreLimitsFrom groups goals lowest level (at_level groups goals lowest level)
    level_limits level = record {
      one_each =
          length-map-range_with_len (limit_at groups goals lowest level) 0 (length groups.rows);
      no_lower = λ h below. omega (arith, level_at level h below);
      no_higher = λ h below. omega (arith, level_at level h below, at_most level h);
    }

    -- Rows that are not free have the limit in force.
    pub from_cuts : (level : ℕ) (limits : List ℕ) → AreLimitsFrom groups goals lowest level limits
        → AreCuts groups goals limits
    from_cuts level limits from = record {
      one_each = from.one_each;
      no_higher = from.no_higher;
      kept = λ h below stays.
          let full : limit_at groups goals lowest level h ≡ full_limit groups h = rw stays refl in
          omega (arith, full, from.no_lower h below, from.no_higher h below);
    }

    -- The lowest limits raised to a level are the limits at that level.
    pub raised_level : (level h : ℕ) → h < length groups.rows
        → get_or (raised_limits groups (at_level groups goals lowest 0) None level) h 0
        ≡ limit_at groups goals lowest level h
    raised_level level h below =
        rw (raised_at (at_level groups goals lowest 0) None level h below, level_at 0 h below)
        (elim (cases_Bool (is_free groups.rows goals h)) [
          | inl free ↦ rw free (omega arith)
          | inr stays ↦ rw stays (omega arith)
        ])

    pub lowest_cuts : AreCuts groups goals (at_level groups goals lowest 0)
    lowest_cuts = from_cuts 0 (at_level groups goals lowest 0) (level_limits 0)

    module _ (valid : IsInstance groups) (one : ThereIsOnePlan) (room : OthersRoomGivesNothing)
        (may : List Bool) (measure : Measure) where
      -- If the lowest limits will not do, none will.
      pub none_met : ¬ CanBeMet measure groups goals may (at_level groups goals lowest 0)
          → (limits : List ℕ) → AreLimitsFrom groups goals lowest 0 limits
          → ¬ CanBeMet measure groups goals may limits
      none_met fails limits from can =
          fails (met_with_lower groups valid goals one room may limits
          (at_level groups goals lowest 0) (from_cuts 0 limits from) lowest_cuts
          (λ h below. omega (arith, level_at 0 h below, from.no_lower h below)) measure can)

      -- The lowest limits are those that are raised to no level.
      pub met_at_first : CanBeMet measure groups goals may (at_level groups goals lowest 0)
          → CanBeMet measure groups goals may
          (raised_limits groups (at_level groups goals lowest 0) None 0)
      met_at_first can =
          met_with_lower groups valid goals one room may (at_level groups goals lowest 0)
          (raised_limits groups (at_level groups goals lowest 0) None 0) lowest_cuts
          (raised_cuts (at_level groups goals lowest 0) None lowest_cuts 0)
          (λ h below. omega (arith, raised_level 0 h below, level_at 0 h below)) measure can

      to_level : (level : ℕ) → CanBeMet measure groups goals may
          (raised_limits groups (at_level groups goals lowest 0) None level)
          → CanBeMet measure groups goals may (at_level groups goals lowest level)
      to_level level can =
          met_with_lower groups valid goals one room may
          (raised_limits groups (at_level groups goals lowest 0) None level)
          (at_level groups goals lowest level)
          (raised_cuts (at_level groups goals lowest 0) None lowest_cuts level)
          (from_cuts level (at_level groups goals lowest level) (level_limits level))
          (λ h below. omega (arith, raised_level level h below, level_at level h below)) measure
          can

      from_level : (level : ℕ)
          → CanBeMet measure groups goals may (at_level groups goals lowest level)
          → CanBeMet measure groups goals may
          (raised_limits groups (at_level groups goals lowest 0) None level)
      from_level level can =
          met_with_lower groups valid goals one room may (at_level groups goals lowest level)
          (raised_limits groups (at_level groups goals lowest 0) None level)
          (from_cuts level (at_level groups goals lowest level) (level_limits level))
          (raised_cuts (at_level groups goals lowest 0) None lowest_cuts level)
          (λ h below. omega (arith, raised_level level h below, level_at level h below)) measure
          can

      -- The greatest raise of all lowest limits is the greatest level.
      pub greatest_level : (high level : ℕ) → high ≡ capacity_of groups.shape
          → IsGreatestRaise measure groups goals may (at_level groups goals lowest 0) None 0 high
          level → IsGreatestLevel measure groups goals may lowest level
      greatest_level high level all raise = record {
        within = omega (arith, all, raise.no_higher);
        met = to_level level raise.met;
        greatest = λ higher above within can.
            raise.greatest higher above (omega (arith, all, within)) (from_level higher can);
      }
