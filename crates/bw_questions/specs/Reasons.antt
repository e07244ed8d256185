-- Why a group gets what it gets.
use Rattle.std.specs.Prelude.{◌≡◌, ◌≢◌, ℕ, ◌<◌, List, length, slice_index, slice_index_or, IsTrue}
use Rattle.bw_model.specs.Groups.{Groups, is_under}
use Rattle.bw_demand.specs.Demands.{Demands}
use Rattle.bw_questions.specs.declared.why.reason.Reason.{Reason}
use Rattle.bw_questions.specs.declared.why.reason.Reason.TheVariants.{NothingAsked, AllWanted}
use Rattle.bw_questions.specs.declared.why.reason.Reason.TheVariants.{OwnLimit}
use Rattle.bw_questions.specs.declared.why.reason.Reason.TheVariants.{LimitAbove, HostFull}

-- The group to blame for another one's amount: from that one up, it is the first that gets all that
-- it can be given.
pub record IsBlamed (groups : Groups) (most amounts : List ℕ) (group blamed : ℕ) : Type 0 where
  pub above : IsTrue (is_under groups.rows blamed group)
  pub full : slice_index amounts blamed ≡ slice_index most blamed
  pub between : (h : ℕ) → IsTrue (is_under groups.rows blamed h)
      → IsTrue (is_under groups.rows h group) → h ≢ blamed
      → slice_index amounts h < slice_index most h

-- one group to blame for each group
pub record AreBlamed (groups : Groups) (most amounts blamed : List ℕ) : Type 0 where
  pub one_each : length blamed ≡ length groups.rows
  pub each : (g : ℕ) → g < length groups.rows
      → IsBlamed groups most amounts g (slice_index blamed g)

-- the reason that a want, an amount and the group to blame give a group
abbrev pub FitsReason : ℕ → ℕ → ℕ → ℕ → Reason → Type 0
FitsReason g want amount blamed NothingAsked = want ≡ 0
FitsReason g want amount blamed AllWanted = (0 < want) × (amount ≡ want)
FitsReason g want amount blamed OwnLimit = (amount < want) × (blamed ≡ g) × (g ≢ 0)
FitsReason g want amount blamed (LimitAbove h) =
    (amount < want) × (blamed ≡ h) × (h ≢ g) × (h ≢ 0)
FitsReason g want amount blamed HostFull = (amount < want) × (blamed ≡ 0)

-- a reason of a group, with a group to blame where it wants more than it gets
abbrev pub HasReason : Groups → Demands → List ℕ → ℕ → Reason → Type 0
HasReason groups demands amounts g reason =
    (blamed : ℕ) × IsBlamed groups demands.most amounts g blamed
    × FitsReason g (slice_index demands.want g) (slice_index amounts g) blamed reason

-- one reason for each group
pub record AreReasons (groups : Groups) (demands : Demands) (amounts : List ℕ)
    (reasons : List Reason) : Type 0 where
  pub one_each : length reasons ≡ length groups.rows
  pub each : (g : ℕ) → g < length groups.rows
      → HasReason groups demands amounts g (slice_index_or reasons g NothingAsked)
