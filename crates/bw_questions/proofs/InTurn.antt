-- Limits that are raised in turn, and the law that they are one.
use Rattle.std.proofs.Common.{◌≡◌, ◌≢◌, ℕ, ◌<◌, ◌≤◌, ◌+◌, List, Bool, None, Some, length, get_or}
use Rattle.std.proofs.Common.{refl, sym, ◌∙◌, subst, arith, inl, inr}
use Rattle.std.proofs.lemmas.Bool.{cases_eq, cases_lt, eq-eqb, ne_eqb}
use Rattle.bw_model.specs.Groups.{Groups, IsInstance}
use Rattle.bw_model.proofs.CallerLemmas.{strong}
use Rattle.bw_plan.specs.Laws.{ThereIsOnePlan}
use Rattle.bw_questions.specs.changes.Room.{OthersRoomGivesNothing}
use Rattle.bw_questions.specs.OtherLimits.{AreCuts, AreLimitsFrom, CanBeMet}
use Rattle.bw_questions.specs.OtherLimits.{IsGreatestLevel, IsGreatestRaise, IsRaisedInTurn}
use Rattle.bw_questions.specs.OtherLimits.{LimitsAreOne, at_level, full_limit, limit_at}
use Rattle.bw_questions.specs.OtherLimits.{raised_limit, raised_limits}
use Rattle.bw_questions.specs.declared.from_root.measure.Measure.{Measure}
use Rattle.bw_questions.proofs.LowerLimits.{met_with_lower}
use Rattle.bw_questions.proofs.RaisedLimits.{from_cuts, lowest_cuts, raised_at, raised_cuts}
use Rattle.bw_questions.proofs.RaisedLimits.{raised_level}

-- Limits from a level on, of which those before a row are raised in turn, and the others are at the
-- level.
pub record AreRaisedBefore (measure : Measure) (groups : Groups) (goals : List ℕ)
    (may : List Bool) (lowest : List ℕ) (level : ℕ) (limits : List ℕ) (row : ℕ) : Type 0 where
  pub from_level : AreLimitsFrom groups goals lowest level limits
  pub met : CanBeMet measure groups goals may limits
  pub rest : (h : ℕ) → row ≤ h → h < length groups.rows
      → get_or limits h 0 ≡ limit_at groups goals lowest level h
  pub so_far : (others : List ℕ) → AreLimitsFrom groups goals lowest level others
      → CanBeMet measure groups goals may others → (h : ℕ) → h < row → h < length groups.rows
      → ((g : ℕ) → g < h → get_or others g 0 ≡ get_or limits g 0)
      → get_or others h 0 ≤ get_or limits h 0

-- limits from the greatest level on, of which those before a row are raised in turn
pub record AreLimitedBefore (measure : Measure) (groups : Groups) (goals : List ℕ)
    (may : List Bool) (lowest limits : List ℕ) (row : ℕ) : Type 0 where
  pub level : ℕ
  pub greatest : IsGreatestLevel measure groups goals may lowest level
  pub before : AreRaisedBefore measure groups goals may lowest level limits row

module _ (measure : Measure) (groups : Groups) (goals : List ℕ) (may : List Bool)
    (lowest : List ℕ) (level : ℕ) where
  -- All limits are at the level.
  pub at_first : (high : ℕ)
      → IsGreatestRaise measure groups goals may (at_level groups goals lowest 0) None 0 high level
      → AreRaisedBefore measure groups goals may lowest level
      (raised_limits groups (at_level groups goals lowest 0) None level) 0
  at_first high raise =
      let cuts : AreCuts groups goals
      (raised_limits groups (at_level groups goals lowest 0) None level) =
      raised_cuts groups goals (at_level groups goals lowest 0) None
      (lowest_cuts groups goals lowest) level in
      record {
        from_level = record {
          one_each = cuts.one_each;
          no_lower = λ h below. omega (arith, raised_level groups goals lowest level h below);
          no_higher = cuts.no_higher;
        };
        met = raise.met;
        rest = λ h from below. raised_level groups goals lowest level h below;
        so_far = λ others from can h before.
            let clash : ⊥ = omega (arith, before) in absurd clash;
      }

  -- After the last row the limits are raised in turn.
  pub at_last : (limits : List ℕ) (row : ℕ) → length groups.rows ≤ row
      → AreRaisedBefore measure groups goals may lowest level limits row
      → IsRaisedInTurn measure groups goals may lowest level limits
  at_last limits row past before = record {
    from_level = before.from_level;
    met = before.met;
    greatest = λ others from can h below same.
        before.so_far others from can h (omega (arith, past, below)) below same;
  }

  module _ (limits : List ℕ) (row : ℕ)
      (before : AreRaisedBefore measure groups goals may lowest level limits row) where
    -- A row that has the limit in force is not raised.
    pub full_row : full_limit groups row ≤ get_or limits row 0
        → AreRaisedBefore measure groups goals may lowest level limits (row + 1)
    full_row full = record {
      from_level = before.from_level;
      met = before.met;
      rest = λ h from below. before.rest h (omega (arith, from)) below;
      so_far = λ others from can h upto below same. elim (cases_lt h row) [
        | inl early ↦ before.so_far others from can h early below same
        | inr late ↦
            let here : h ≡ row = omega (arith, upto, late) in
            let most : full_limit groups h ≤ get_or limits h 0 =
            subst (λ (g : ℕ). full_limit groups g ≤ get_or limits g 0) (sym here) full in
            omega (arith, from.no_higher h below, most)
      ];
    }

    module _ (value : ℕ) (inside : row < length groups.rows)
        (raise : IsGreatestRaise measure groups goals may limits (Some row) (get_or limits row 0)
        (full_limit groups row) value) where
      -- The row, raised to a level from its limit on.
      at_row : (more : ℕ) → get_or (raised_limits groups limits (Some row) more) row 0
          ≡ raised_limit groups limits None more row
      at_row more =
          raised_at groups goals limits (Some row) more row inside
          ∙ rw (eq-eqb row row refl) refl

      elsewhere : (more h : ℕ) → h < length groups.rows → h ≢ row
          → get_or (raised_limits groups limits (Some row) more) h 0 ≡ get_or limits h 0
      elsewhere more h below apart =
          raised_at groups goals limits (Some row) more h below
          ∙ rw (ne_eqb row h (λ e. apart (sym e))) refl

      raised_here : get_or (raised_limits groups limits (Some row) value) row 0 ≡ value
      raised_here = omega (arith, at_row value, raise.no_lower, raise.no_higher)

      from_cuts_before : AreCuts groups goals limits
      from_cuts_before = from_cuts groups goals lowest level limits before.from_level

      raised_from : AreLimitsFrom groups goals lowest level
          (raised_limits groups limits (Some row) value)
      raised_from = record {
        one_each = (raised_cuts groups goals limits (Some row) from_cuts_before value).one_each;
        no_lower = λ h below. elim (cases_eq h row) [
          | inl here ↦ rw here (omega (
            arith,
            raised_here,
            raise.no_lower,
            before.from_level.no_lower row inside,
          ))
          | inr other ↦ omega (
            arith,
            elsewhere value h below other,
            before.from_level.no_lower h below,
          )
        ];
        no_higher = (raised_cuts groups goals limits (Some row) from_cuts_before value).no_higher;
      }

      module _ (valid : IsInstance groups) (one : ThereIsOnePlan) (room : OthersRoomGivesNothing)
        where
          -- Other limits that are equal before the row have no more there.
          no_more : (others : List ℕ) → AreLimitsFrom groups goals lowest level others
              → CanBeMet measure groups goals may others
              → ((g : ℕ) → g < row → get_or others g 0 ≡ get_or limits g 0)
              → get_or others row 0 ≤ value
          no_more others from can same = elim (cases_lt value (get_or others row 0)) [
            | inr within ↦ within
            | inl above ↦ absurd (raise.greatest (get_or others row 0) above
                (from.no_higher row inside)
                (met_with_lower groups valid goals one room may others
                (raised_limits groups limits (Some row) (get_or others row 0))
                (from_cuts groups goals lowest level others from)
                (raised_cuts groups goals limits (Some row) from_cuts_before (get_or others row 0))
                lower measure can))
          ]
            where
              lower : (h : ℕ) → h < length groups.rows
                  → get_or (raised_limits groups limits (Some row) (get_or others row 0)) h 0
                  ≤ get_or others h 0
              lower h below = elim (cases_eq h row) [
                | inl here ↦ rw here (omega (
                  arith,
                  at_row (get_or others row 0),
                  before.rest row (omega arith) inside,
                  from.no_lower row inside,
                ))
                | inr other ↦ elim (cases_lt h row) [
                  | inl early ↦
                      omega (arith, elsewhere (get_or others row 0) h below other, same h early)
                  | inr late ↦
                      omega (
                        arith,
                        elsewhere (get_or others row 0) h below other,
                        before.rest h late below,
                        from.no_lower h below,
                      )
                ]
              ]

          -- One row more is raised.
          pub raised_row : AreRaisedBefore measure groups goals may lowest level
              (raised_limits groups limits (Some row) value) (row + 1)
          raised_row = record {
            from_level = raised_from;
            met = raise.met;
            rest = λ h from below.
                elsewhere value h below (λ e. let clash : ⊥ = omega (arith, from, e) in clash)
                ∙ before.rest h (omega (arith, from)) below;
            so_far = so_far;
          }
            where
              so_far : (others : List ℕ) → AreLimitsFrom groups goals lowest level others
                  → CanBeMet measure groups goals may others → (h : ℕ) → h < row + 1
                  → h < length groups.rows → ((g : ℕ) → g < h → get_or others g 0
                  ≡ get_or (raised_limits groups limits (Some row) value) g 0)
                  → get_or others h 0
                  ≤ get_or (raised_limits groups limits (Some row) value) h 0
              so_far others from can h upto below same = elim (cases_eq h row) [
                | inl here ↦ rw here (omega (
                  arith,
                  raised_here,
                  no_more others from can (λ g early.
                      same g (omega (arith, early, here))
                      ∙ elsewhere value g (omega (arith, early, inside))
                      (λ e. let clash : ⊥ = omega (arith, early, e) in clash)),
                ))
                | inr other ↦ omega (
                  arith,
                  elsewhere value h below other,
                  before.so_far others from can h (omega (arith, upto, other)) below (λ g early.
                      same g early
                      ∙ elsewhere value g (omega (arith, early, below))
                      (λ e. let clash : ⊥ = omega (arith, early, e, upto) in clash)),
                )
              ]

-- Limits that are raised to what one of them is do as they did.
pub met_as_is : (measure : Measure) (groups : Groups) (goals : List ℕ) (may : List Bool)
    → IsInstance groups → ThereIsOnePlan → OthersRoomGivesNothing → (limits : List ℕ)
    → AreCuts groups goals limits → (row : ℕ) → CanBeMet measure groups goals may limits
    → CanBeMet measure groups goals may
    (raised_limits groups limits (Some row) (get_or limits row 0))
met_as_is measure groups goals may valid one room limits cuts row can =
    met_with_lower groups valid goals one room may limits
    (raised_limits groups limits (Some row) (get_or limits row 0)) cuts
    (raised_cuts groups goals limits (Some row) cuts (get_or limits row 0)) lower measure can
  where
    lower : (h : ℕ) → h < length groups.rows
        → get_or (raised_limits groups limits (Some row) (get_or limits row 0)) h 0
        ≤ get_or limits h 0
    lower h below =
        rw (raised_at groups goals limits (Some row) (get_or limits row 0) h below)
        (elim (cases_eq row h) [
          | inl here ↦ rw (eq-eqb row h here, here) (omega arith)
          | inr other ↦ rw (ne_eqb row h other) (omega arith)
        ])

-- A row that has the limit in force stays.
pub step_full : (measure : Measure) (groups : Groups) (goals : List ℕ) (may : List Bool)
    (lowest limits : List ℕ) (row limit full : ℕ)
    → AreLimitedBefore measure groups goals may lowest limits row
    → limit ≡ get_or limits row 0 → full ≡ full_limit groups row → full ≤ limit
    → AreLimitedBefore measure groups goals may lowest limits (row + 1)
step_full measure groups goals may lowest limits row limit full so_far is most past = record {
  level = so_far.level;
  greatest = so_far.greatest;
  before =
      full_row measure groups goals may lowest so_far.level limits row so_far.before
      (omega (arith, is, most, past));
}

-- A row is raised from its limit.
pub step_raised : (measure : Measure) (groups : Groups) (goals : List ℕ) (may : List Bool)
    (lowest limits : List ℕ) (row limit full value : ℕ) → IsInstance groups → ThereIsOnePlan
    → OthersRoomGivesNothing → row < length groups.rows
    → AreLimitedBefore measure groups goals may lowest limits row
    → limit ≡ get_or limits row 0 → full ≡ full_limit groups row
    → IsGreatestRaise measure groups goals may limits (Some row) limit full value
    → AreLimitedBefore measure groups goals may lowest
    (raised_limits groups limits (Some row) value) (row + 1)
step_raised measure groups goals may lowest limits row limit full value valid one room inside
    so_far is most raise =
    let raised : IsGreatestRaise measure groups goals may limits (Some row) (get_or limits row 0)
    (full_limit groups row) value =
    subst (λ (l : ℕ). IsGreatestRaise measure groups goals may limits (Some row) l
    (full_limit groups row) value) is
    (subst (λ (f : ℕ). IsGreatestRaise measure groups goals may limits (Some row) limit f value)
    most raise) in
    record {
      level = so_far.level;
      greatest = so_far.greatest;
      before =
          raised_row measure groups goals may lowest so_far.level limits row so_far.before value
          inside raised valid one room;
    }

-- There is one greatest level.
one_level : (measure : Measure) (groups : Groups) (goals : List ℕ) (may : List Bool)
    (lowest : List ℕ) (a b : ℕ) → IsGreatestLevel measure groups goals may lowest a
    → IsGreatestLevel measure groups goals may lowest b → a ≡ b
one_level measure groups goals may lowest a b one two = elim (cases_lt a b) [
  | inl less ↦ absurd (one.greatest b less two.within two.met)
  | inr no_less ↦ elim (cases_lt b a) [
    | inl more ↦ absurd (two.greatest a more one.within one.met)
    | inr no_more ↦ omega (arith, no_less, no_more)
  ]
]

pub limits_one : LimitsAreOne
limits_one measure groups goals may lowest one two a b =
    let same : b.level ≡ a.level =
    one_level measure groups goals may lowest b.level a.level b.greatest a.greatest in
    let other : IsRaisedInTurn measure groups goals may lowest a.level two =
    subst (λ (l : ℕ). IsRaisedInTurn measure groups goals may lowest l two) same b.raised in
    strong (λ h. h < length groups.rows → get_or two h 0 ≡ get_or one h 0)
    (λ h so_far below.
    omega (
      arith,
      a.raised.greatest two other.from_level other.met h below
          (λ g early. so_far g early (omega (arith, early, below))),
      other.greatest one a.raised.from_level a.raised.met h below
          (λ g early. sym (so_far g early (omega (arith, early, below)))),
    ))
