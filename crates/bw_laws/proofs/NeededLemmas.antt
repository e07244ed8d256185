-- Amounts that keep all conditions but one, and what follows from all but the flags'.
use Rattle.std.proofs.Common.{◌≡◌, ℕ, ◌<◌, List, [], ◌∷◌, Bool, true, false, cond, ◌&&◌, Option, None}
use Rattle.std.proofs.Common.{Some, length, refl, sym, subst, ◌∙◌, lit<, arith}
use Rattle.std.specs.Prelude.{map, is_some, unwrap_or}
use Rattle.std.specs.List.{range_with_len}
use Rattle.std.specs.Str.{bytes_eq}
use Rattle.std.proofs.lemmas.Bool.{and_parts, both_ways, false_from_ne_true}
use Rattle.std.proofs.lemmas.List.FromFn.{length-map-range_with_len, get_or-map-range_with_len}
use Rattle.bw_model.specs.declared.mark.Mark.{Mark}
use Rattle.bw_model.specs.Host.{host_refusal}
use Rattle.bw_model.specs.Groups.{Groups, AreTreeRows, IsInstance, limit_of, demand_of, is_leaf}
use Rattle.bw_model.specs.Groups.{children_of, sum_of_children, depth_of, path_up, path_up_within}
use Rattle.bw_model.specs.Refusal.{refusal}
use Rattle.bw_model.specs.Certificate.{Certified, AreBounds, IsCertified, is_flagged, sibling_place}
use Rattle.bw_model.proofs.CallerLemmas.{accepted-IsInstance, certified-IsPlan, IsPlan-unique}
use Rattle.bw_model.proofs.CallerLemmas.{bytes_eq-self}
use Rattle.bw_check.specs.declared.fault.CheckFault.{CheckFault}
use Rattle.bw_check.specs.declared.fault.CheckFault.TheVariants.{WrongLength, OverLimit, OverDemand}
use Rattle.bw_check.specs.declared.fault.CheckFault.TheVariants.{SumDiffers, FlagWithoutLimit}
use Rattle.bw_check.specs.declared.fault.CheckFault.TheVariants.{NotGreatest, LevelMissing}
use Rattle.bw_check.specs.declared.fault.CheckFault.TheVariants.{LastMarkAbove, NextMarkNotAbove}
use Rattle.bw_check.specs.Verdict.{AreFree, IsFree}
use Rattle.bw_laws.specs.Needed.{KeepOthers, IsNeeded, IsNotNeeded}
use Rattle.bw_laws.proofs.ConditionTests.{is_fault, is_fault-true, are_bounds, are_bounds-true}
use Rattle.bw_laws.proofs.ConditionTests.{are_free, are_free-true}

-- amounts without a fault are certified
free-IsCertified : (groups : Groups) (amounts : List ℕ) (certificate : Certified) (bounds : List ℕ)
    → AreTreeRows groups.rows → AreBounds groups certificate bounds
    → AreFree groups amounts certificate bounds → IsCertified groups amounts certificate bounds
free-IsCertified groups amounts certificate bounds tree are free =
    let lengths = free WrongLength 0 tree.has_root in
    record {
      amounts_each = lengths.0;
      flags_each = lengths.1;
      levels_each = lengths.2;
      within_limit = λ g limit below e. free OverLimit g below limit e;
      within_demand = λ l below leaf. free OverDemand l below leaf;
      sums = λ g below inner. free SumDiffers g below inner;
      flags_limited = λ g below flagged. free FlagWithoutLimit g below flagged;
      bounded = are;
      greatest = free NotGreatest 0 tree.has_root;
      level_given = λ g below inner some. free LevelMissing g below inner some;
      last_at_most = λ g c level _ below up some is part.
          free LastMarkAbove c below g level up some is part;
      next_above = λ g c level _ below up some is room.
          free NextMarkNotAbove c below g level up some is room;
    }

needed_by : (fault : CheckFault) (groups : Groups) (amounts : List ℕ) (certificate : Certified)
    (bounds plan : List ℕ) (shown : Certified) (over : List ℕ)
    → host_refusal groups.shape ≡ None → refusal groups.rows ≡ None
    → are_bounds groups certificate bounds ≡ true
    → are_free groups amounts certificate bounds (is_fault fault) ≡ true
    → are_bounds groups shown over ≡ true
    → are_free groups plan shown over (λ _. false) ≡ true
    → bytes_eq amounts plan ≡ false → IsNeeded fault
needed_by fault groups amounts certificate bounds plan shown over host rows bounded others above
    free differ =
    let instance : IsInstance groups = accepted-IsInstance groups host rows in
    record {
      groups = groups;
      amounts = amounts;
      certificate = certificate;
      kept = record {
        instance = instance;
        bounds = bounds;
        bounded = are_bounds-true groups certificate bounds bounded;
        others = λ other g ne below.
            are_free-true groups amounts certificate bounds (is_fault fault) others other g
            (false_from_ne_true _ (λ e. ne (is_fault-true fault other e))) below;
      };
      not_the_plan = λ is_plan.
          let over_are : AreBounds groups shown over = are_bounds-true groups shown over above in
          let same : amounts ≡ plan = IsPlan-unique groups amounts plan instance.tree is_plan
          (certified-IsPlan groups plan shown over instance
          (free-IsCertified groups plan shown over instance.tree over_are
          (λ f g below. are_free-true groups plan shown over (λ _. false) free f g refl below))) in
          both_ways (bytes_eq amounts plan) differ
          (subst (λ (xs : List ℕ). bytes_eq amounts xs ≡ true) same (bytes_eq-self amounts));
    }

-- three slices, and two groups of weight 1
abbrev two : Option ℕ → ℕ → Groups
two limit demand = record {
  shape = record { processors = 1; period_us = 3000; slice_us = 1000 };
  rows = record { parent = None; weight = 1; limit = None; demand = 0 }
      ∷ record { parent = Some 0; weight = 1; limit = limit; demand = demand }
      ∷ record { parent = Some 0; weight = 1; limit = None; demand = 5 } ∷ [];
}

-- flags at the root and perhaps at the first group, and perhaps a level at the root
abbrev flagged : Bool → Option Mark → Certified
flagged first level =
    record { tight = true ∷ first ∷ false ∷ []; levels = level ∷ None ∷ None ∷ [] }

-- the cost of an amount over a weight of 1
abbrev level_of : (num place : ℕ) → 0 < num → Option Mark
level_of num place positive = Some (record {
  num = num;
  den = 1;
  place = place;
  num_positive = positive;
  den_positive = lit< tt;
})

pub limits : IsNeeded OverLimit
unfolding is_leaf children_of sibling_place depth_of path_up path_up_within
limits = needed_by OverLimit (two (Some 1) 5) (3 ∷ 2 ∷ 1 ∷ [])
    (flagged false (level_of 3 0 (lit< tt))) (3 ∷ 5 ∷ 5 ∷ []) (3 ∷ 1 ∷ 2 ∷ [])
    (flagged true (level_of 3 1 (lit< tt))) (3 ∷ 1 ∷ 5 ∷ []) refl refl refl refl refl refl refl

pub demands : IsNeeded OverDemand
unfolding is_leaf children_of sibling_place depth_of path_up path_up_within
demands = needed_by OverDemand (two (Some 4) 1) (3 ∷ 2 ∷ 1 ∷ [])
    (flagged true (level_of 3 0 (lit< tt))) (3 ∷ 4 ∷ 5 ∷ []) (3 ∷ 1 ∷ 2 ∷ [])
    (flagged false (level_of 3 1 (lit< tt))) (3 ∷ 1 ∷ 5 ∷ []) refl refl refl refl refl refl refl

-- Without a limit, and with demands of 5, the plan is 2 and 1: a tie goes to the first group.
other_than_two_one : (fault : CheckFault) (amounts : List ℕ) (level : Option Mark)
    → are_free (two None 5) amounts (flagged false level) (3 ∷ 5 ∷ 5 ∷ []) (is_fault fault) ≡ true
    → bytes_eq amounts (3 ∷ 2 ∷ 1 ∷ []) ≡ false → IsNeeded fault
unfolding is_leaf children_of sibling_place depth_of path_up path_up_within
other_than_two_one fault amounts level others differ =
    needed_by fault (two None 5) amounts (flagged false level) (3 ∷ 5 ∷ 5 ∷ []) (3 ∷ 2 ∷ 1 ∷ [])
    (flagged false (level_of 3 0 (lit< tt))) (3 ∷ 5 ∷ 5 ∷ []) refl refl refl others refl refl
    differ

pub lengths : IsNeeded WrongLength
unfolding is_leaf children_of sibling_place
lengths =
    other_than_two_one WrongLength (3 ∷ 2 ∷ 1 ∷ 0 ∷ []) (level_of 3 0 (lit< tt)) refl refl

pub sums : IsNeeded SumDiffers
unfolding is_leaf children_of sibling_place
sums =
    other_than_two_one SumDiffers (3 ∷ 1 ∷ 1 ∷ []) (level_of 1 1 (lit< tt)) refl refl

pub greatest_total : IsNeeded NotGreatest
unfolding is_leaf children_of sibling_place
greatest_total = other_than_two_one NotGreatest (0 ∷ 0 ∷ 0 ∷ []) None refl refl

pub levels : IsNeeded LevelMissing
unfolding is_leaf children_of sibling_place
levels = other_than_two_one LevelMissing (3 ∷ 1 ∷ 2 ∷ []) None refl refl

pub last_marks : IsNeeded LastMarkAbove
unfolding is_leaf children_of sibling_place
last_marks =
    other_than_two_one LastMarkAbove (3 ∷ 1 ∷ 2 ∷ []) (level_of 1 0 (lit< tt)) refl refl

pub next_marks : IsNeeded NextMarkNotAbove
unfolding is_leaf children_of sibling_place
next_marks =
    other_than_two_one NextMarkNotAbove (3 ∷ 1 ∷ 2 ∷ []) (level_of 9 0 (lit< tt)) refl refl

-- The flags without those at groups that have no limit.
abbrev is_cutting : Groups → Certified → ℕ → Bool
is_cutting groups certificate g = is_flagged certificate g && is_some (limit_of groups g)

abbrev cleared : Groups → Certified → Certified
cleared groups certificate = record {
  tight = map (is_cutting groups certificate) (range_with_len 0 (length groups.rows));
  levels = certificate.levels;
}

cleared-is : (groups : Groups) (certificate : Certified) (g : ℕ) → g < length groups.rows
    → is_flagged (cleared groups certificate) g ≡ is_cutting groups certificate g
cleared-is groups certificate g below = get_or-map-range_with_len (is_cutting groups certificate) 0
    (length groups.rows) g g false below (omega arith)

-- such a flag changes no bound
same_bound : (flag : Bool) (limit : Option ℕ) (want : ℕ)
    → unwrap_or (cond flag limit None) want
    ≡ unwrap_or (cond (flag && is_some limit) limit None) want
same_bound true None want = refl
same_bound true (Some m) want = refl
same_bound false limit want = refl

-- with them amounts that keep all else have no fault
cleared-IsFree : (groups : Groups) (amounts : List ℕ) (certificate : Certified)
    (kept : KeepOthers FlagWithoutLimit groups amounts certificate) (fault : CheckFault) (g : ℕ)
    → g < length groups.rows
    → IsFree groups amounts (cleared groups certificate) kept.bounds fault g
cleared-IsFree groups amounts certificate kept WrongLength g below =
    let one_each = kept.others WrongLength g (λ e. cc) below in (
      one_each.0,
      length-map-range_with_len (is_cutting groups certificate) 0 (length groups.rows),
      one_each.2,
    )
cleared-IsFree groups amounts certificate kept FlagWithoutLimit g below =
    λ flagged. (and_parts _ _ (sym (cleared-is groups certificate g below) ∙ flagged)).1
cleared-IsFree groups amounts certificate kept OverLimit g below =
    kept.others OverLimit g (λ e. cc) below
cleared-IsFree groups amounts certificate kept OverDemand g below =
    kept.others OverDemand g (λ e. cc) below
cleared-IsFree groups amounts certificate kept SumDiffers g below =
    kept.others SumDiffers g (λ e. cc) below
cleared-IsFree groups amounts certificate kept NotGreatest g below =
    kept.others NotGreatest g (λ e. cc) below
cleared-IsFree groups amounts certificate kept LevelMissing g below =
    kept.others LevelMissing g (λ e. cc) below
cleared-IsFree groups amounts certificate kept LastMarkAbove g below =
    kept.others LastMarkAbove g (λ e. cc) below
cleared-IsFree groups amounts certificate kept NextMarkNotAbove g below =
    kept.others NextMarkNotAbove g (λ e. cc) below

pub limits_at_flags : IsNotNeeded FlagWithoutLimit
limits_at_flags groups amounts certificate kept =
    let c : Certified = cleared groups certificate in
    let bounded : AreBounds groups c kept.bounds = record {
      one_each = kept.bounded.one_each;
      each = λ g below. kept.bounded.each g below
          ∙ rw (cleared-is groups certificate g below)
          (same_bound (is_flagged certificate g) (limit_of groups g)
          (cond (is_leaf groups.rows g) (demand_of groups.rows g)
          (sum_of_children groups.rows kept.bounds g)));
    } in
    certified-IsPlan groups amounts c kept.bounds kept.instance
    (free-IsCertified groups amounts c kept.bounds kept.instance.tree bounded
    (cleared-IsFree groups amounts certificate kept))
