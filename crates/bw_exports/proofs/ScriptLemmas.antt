-- The answer to a script, case by case.
use Rattle.std.proofs.Common.{◌≡◌, ◌≢◌, ℕ, Bool, true, false, cond, List, length}
use Rattle.std.proofs.Common.{Option, Some, refl, sym, ap, ◌∙◌, arith, inl, inr}
use Rattle.std.specs.Option.{option_map_or}
use Rattle.bw_model.specs.declared.host.HostFault.{HostFault}
use Rattle.bw_model.specs.declared.host.HostFault.TheVariants.{BadProcessors, BadPeriod, BadSlice}
use Rattle.bw_model.specs.Host.{Shape, IsHost, host_refusal}
use Rattle.bw_model.specs.Faults.{host_fault_number}
use Rattle.bw_model.proofs.CallerLemmas.{IsHost-accepted}
use Rattle.bw_hierarchy.specs.State.{HierarchyState}
use Rattle.bw_commands.specs.Reading.{IsRead}
use Rattle.bw_commands.specs.declared.reading.RefusedLine.{RefusedLine}
use Rattle.bw_columns.specs.Groups.{Told, told_of, on_columns, on_front}
use Rattle.bw_exports.specs.Script.{Room, is_even, early_number, with_told, written, fits}
use Rattle.bw_exports.specs.Script.{has_room, line_numbers, fault_numbers, room_of, IsScriptAnswer}

-- ---- the number that refuses a call before the script is read

pub early_uneven : (shape : Shape) (room : Room) → is_even room ≡ false
    → early_number shape room ≡ 50
unfolding early_number
early_uneven shape room e =
    ap (λ (b : Bool). cond b (option_map_or host_fault_number (host_refusal shape) 0) 50) e

early_even : (shape : Shape) (room : Room) → is_even room ≡ true
    → early_number shape room ≡ option_map_or host_fault_number (host_refusal shape) 0
unfolding early_number
early_even shape room e =
    ap (λ (b : Bool). cond b (option_map_or host_fault_number (host_refusal shape) 0) 50) e

pub early_host : (shape : Shape) (room : Room) (fault : HostFault) → is_even room ≡ true
    → host_refusal shape ≡ Some fault → early_number shape room ≡ host_fault_number fault
early_host shape room fault e h =
    early_even shape room e
    ∙ ap (λ (o : Option HostFault). option_map_or host_fault_number o 0) h

pub early_none : (shape : Shape) (room : Room) → is_even room ≡ true → IsHost shape
    → early_number shape room ≡ 0
early_none shape room e host =
    early_even shape room e
    ∙ ap (λ (o : Option HostFault). option_map_or host_fault_number o 0)
    (IsHost-accepted shape host)

-- ---- answers

pub uneven : (shape : Shape) (text : List ℕ) (before : Room) (number : ℕ)
    → is_even before ≡ false → number ≡ 50 → IsScriptAnswer shape text before before number
uneven shape text before number e is =
    let early = early_uneven shape before e in
    inl (λ zero. omega (arith, early, zero), is ∙ sym early, refl)

host_number-positive : (fault : HostFault) → host_fault_number fault ≢ 0
host_number-positive BadProcessors e = omega (arith, e)
host_number-positive BadPeriod e = omega (arith, e)
host_number-positive BadSlice e = omega (arith, e)

pub no_host : (shape : Shape) (text : List ℕ) (before : Room) (number : ℕ) (fault : HostFault)
    → is_even before ≡ true → host_refusal shape ≡ Some fault
    → number ≡ host_fault_number fault → IsScriptAnswer shape text before before number
no_host shape text before number fault e h is =
    let early = early_host shape before fault e h in
    inl (λ zero. host_number-positive fault (sym early ∙ zero), is ∙ sym early, refl)

pub no_memory : (shape : Shape) (text : List ℕ) (before : Room) (number : ℕ)
    → is_even before ≡ true → IsHost shape → number ≡ 71
    → IsScriptAnswer shape text before before number
no_memory shape text before number e host is = inr (inl (early_none shape before e host, is, refl))

-- these columns are those of a hierarchy and of refused lines
pub record AreThose (h : HierarchyState) (refused : List RefusedLine) (told : Told)
    (lines faults : List ℕ) : Type 0 where
  pub groups : told ≡ told_of h
  pub lines_are : lines ≡ line_numbers refused
  pub faults_are : faults ≡ fault_numbers refused

room_is : (h : HierarchyState) (refused : List RefusedLine) (told : Told)
    (lines faults : List ℕ) (before : Room) → AreThose h refused told lines faults
    → fits told lines before ≡ has_room h refused before
room_is h refused told lines faults before those =
    ap (λ t. fits t lines before) those.groups
    ∙ ap (λ l. fits (told_of h) l before) those.lines_are

told_is : (h : HierarchyState) (refused : List RefusedLine) (told : Told)
    (lines faults : List ℕ) (before : Room) → AreThose h refused told lines faults
    → with_told told lines faults before ≡ written h refused before
told_is h refused told lines faults before those =
    ap (λ t. with_told t lines faults before) those.groups
    ∙ ap (λ l. with_told (told_of h) l faults before) those.lines_are
    ∙ ap (λ f. with_told (told_of h) (line_numbers refused) f before) those.faults_are

pub no_room : (shape : Shape) (text : List ℕ) (before : Room) (number : ℕ) (h : HierarchyState)
    (refused : List RefusedLine) (told : Told) (lines faults : List ℕ) → is_even before ≡ true
    → IsHost shape → IsRead shape text refused h → AreThose h refused told lines faults
    → fits told lines before ≡ false → number ≡ 50
    → IsScriptAnswer shape text before before number
no_room shape text before number h refused told lines faults e host read those unfit is =
    let none = sym (room_is h refused told lines faults before those) ∙ unfit in
    inr (inr (
      early_none shape before e host,
      record {
        last = h;
        refused = refused;
        read = read;
        number_is = rw none is;
        after_is = rw none refl;
      },
    ))

pub all_told : (shape : Shape) (text : List ℕ) (before after : Room) (number : ℕ)
    (h : HierarchyState) (refused : List RefusedLine) (told : Told) (lines faults : List ℕ)
    → is_even before ≡ true → IsHost shape → IsRead shape text refused h
    → AreThose h refused told lines faults → fits told lines before ≡ true → number ≡ 0
    → after ≡ with_told told lines faults before
    → IsScriptAnswer shape text before after number
all_told shape text before after number h refused told lines faults e host read those fit is told_as =
    let room = sym (room_is h refused told lines faults before those) ∙ fit in
    inr (inr (
      early_none shape before e host,
      record {
        last = h;
        refused = refused;
        read = read;
        number_is = rw room is;
        after_is = rw room (told_as ∙ told_is h refused told lines faults before those);
      },
    ))

-- ---- what is written

-- all that is written
pub room_by : (told : Told) (lines faults : List ℕ) (before : Room) (columns : Told)
    (line_column fault_column : List ℕ) (count names_count refused_count : ℕ)
    → columns ≡ on_columns told before.columns → line_column ≡ on_front lines before.lines
    → fault_column ≡ on_front faults before.faults → count ≡ length told.parents
    → names_count ≡ length told.names → refused_count ≡ length lines
    → room_of columns line_column fault_column count names_count refused_count
    ≡ with_told told lines faults before
room_by told lines faults before columns line_column fault_column count names_count refused_count
    c l f x y z = rw (c, l, f, x, y, z) refl
