-- The conditions of a certificate as tests.
use Rattle.std.proofs.Common.{◌≡◌, ℕ, zero, suc, ◌-◌, ◌*◌, ◌<◌, List, [], ◌∷◌, Bool, true, false}
use Rattle.std.proofs.Common.{◌||◌, ◌&&◌, not, length, get_or, eqb, ltb, leb, refl, ap, sym}
use Rattle.std.proofs.Common.{◌∙◌, arith, lit<}
use Rattle.std.specs.Prelude.{is_some}
use Rattle.std.specs.List.{list_all}
use Rattle.std.specs.Option.{option_map_or}
use Rattle.std.proofs.lemmas.Bool.{and_parts, and_from, or_cases, or_left, or_right, eqb-true}
use Rattle.std.proofs.lemmas.Bool.{ltb-true, leb-true, lt-ltb, eq-eqb, not-true, both_ways}
use Rattle.std.proofs.lemmas.Bool.{not_from_true}
use Rattle.bw_model.specs.Marks.{price_of, last_mark, next_mark}
use Rattle.bw_model.specs.Groups.{Groups, parent_of, weight_of, sum_of_children, is_leaf, limit_of}
use Rattle.bw_model.specs.Groups.{demand_of}
use Rattle.bw_model.specs.Certificate.{Certified, AreBounds, bound_at, is_flagged, level_at}
use Rattle.bw_model.specs.Certificate.{sibling_place}
use Rattle.bw_model.proofs.CallerLemmas.{each_below, at_each, is_below, is_below-true}
use Rattle.bw_model.proofs.CallerLemmas.{is_below-from}
use Rattle.bw_check.specs.declared.fault.CheckFault.{CheckFault}
use Rattle.bw_check.specs.declared.fault.CheckFault.TheVariants.{WrongLength, OverLimit, OverDemand}
use Rattle.bw_check.specs.declared.fault.CheckFault.TheVariants.{SumDiffers, FlagWithoutLimit}
use Rattle.bw_check.specs.declared.fault.CheckFault.TheVariants.{NotGreatest, LevelMissing}
use Rattle.bw_check.specs.declared.fault.CheckFault.TheVariants.{LastMarkAbove, NextMarkNotAbove}
use Rattle.bw_check.specs.Faults.{check_fault_number}
use Rattle.bw_check.specs.Verdict.{IsFree}

-- what passes for each element passes for the one at k
list_all-get_or : {X : Type 0} (t : X → Bool) (xs : List X) (k : ℕ) (d : X)
    → list_all t xs ≡ true → k < length xs → t (get_or xs k d) ≡ true
list_all-get_or t [] k d all h = absurd (omega arith)
list_all-get_or t (x ∷ xs) zero d all h = (and_parts (t x) (list_all t xs) all).0
list_all-get_or t (x ∷ xs) (suc k) d all h =
    list_all-get_or t xs k d (and_parts (t x) (list_all t xs) all).1 (omega arith)

-- the faults, at their numbers from 50 on
abbrev faults : List CheckFault
faults = WrongLength ∷ OverLimit ∷ OverDemand ∷ SumDiffers ∷ FlagWithoutLimit ∷ NotGreatest
    ∷ LevelMissing ∷ LastMarkAbove ∷ NextMarkNotAbove ∷ []

abbrev fault_at : ℕ → CheckFault
fault_at number = get_or faults (number - 50) WrongLength

numbered : (f : CheckFault) → (check_fault_number f - 50 < 9)
    × (fault_at (check_fault_number f) ≡ f)
numbered WrongLength = (lit< tt, refl)
numbered OverLimit = (lit< tt, refl)
numbered OverDemand = (lit< tt, refl)
numbered SumDiffers = (lit< tt, refl)
numbered FlagWithoutLimit = (lit< tt, refl)
numbered NotGreatest = (lit< tt, refl)
numbered LevelMissing = (lit< tt, refl)
numbered LastMarkAbove = (lit< tt, refl)
numbered NextMarkNotAbove = (lit< tt, refl)

-- whether the fault is this one
abbrev pub is_fault : CheckFault → CheckFault → Bool
is_fault fault other = eqb (check_fault_number other) (check_fault_number fault)

pub is_fault-true : (fault other : CheckFault) → is_fault fault other ≡ true → other ≡ fault
is_fault-true fault other e = sym (numbered other).1 ∙ ap fault_at (eqb-true _ _ e)
    ∙ (numbered fault).1

otherwise : (b c : Bool) → (b || c) ≡ true → b ≡ false → c ≡ true
otherwise true c e h = absurd (both_ways true h refl)
otherwise false c e h = e

-- the bounds as a test
abbrev pub are_bounds : Groups → Certified → List ℕ → Bool
are_bounds groups certificate bounds =
    eqb (length bounds) (length groups.rows)
    && each_below (length groups.rows)
    (λ g. eqb (get_or bounds g 0) (bound_at groups certificate bounds g))

pub are_bounds-true : (groups : Groups) (certificate : Certified) (bounds : List ℕ)
    → are_bounds groups certificate bounds ≡ true → AreBounds groups certificate bounds
are_bounds-true groups certificate bounds e =
    let both = and_parts _ _ e in
    record {
      one_each = eqb-true _ _ both.0;
      each = λ g below. eqb-true _ _ (at_each (length groups.rows)
          (λ g. eqb (get_or bounds g 0) (bound_at groups certificate bounds g)) g both.1 below);
    }

module _ (groups : Groups) (amounts : List ℕ) (certificate : Certified) (bounds : List ℕ) where
  -- the condition of each fault as a test
  abbrev is_free : CheckFault → ℕ → Bool
  is_free WrongLength g = eqb (length amounts) (length groups.rows)
      && (eqb (length certificate.tight) (length groups.rows)
      && eqb (length certificate.levels) (length groups.rows))
  is_free OverLimit g =
      option_map_or (λ limit. leb (get_or amounts g 0) limit) (limit_of groups g) true
  is_free OverDemand g =
      not (is_leaf groups.rows g) || leb (get_or amounts g 0) (demand_of groups.rows g)
  is_free SumDiffers g =
      is_leaf groups.rows g || eqb (get_or amounts g 0) (sum_of_children groups.rows amounts g)
  is_free FlagWithoutLimit g = not (is_flagged certificate g) || is_some (limit_of groups g)
  is_free NotGreatest g = eqb (get_or amounts 0 0) (get_or bounds 0 0)
  is_free LevelMissing g = is_leaf groups.rows g
      || (not (ltb 0 (get_or amounts g 0)) || is_some (level_at certificate g))
  is_free LastMarkAbove c = option_map_or (λ g. not (ltb 0 (get_or amounts g 0))
      || option_map_or (λ level. not (ltb 0 (get_or amounts c 0))
      || not (is_below (price_of level)
      (last_mark (get_or amounts c 0) (weight_of groups.rows c) (sibling_place groups.rows g c))))
      (level_at certificate g) true)
      (parent_of groups.rows c) true
  is_free NextMarkNotAbove c = option_map_or (λ g. not (ltb 0 (get_or amounts g 0))
      || option_map_or (λ level. not (ltb (get_or amounts c 0) (get_or bounds c 0))
      || is_below (price_of level)
      (next_mark (get_or amounts c 0) (weight_of groups.rows c) (sibling_place groups.rows g c)))
      (level_at certificate g) true)
      (parent_of groups.rows c) true

  is_free-true : (fault : CheckFault) (g : ℕ) → is_free fault g ≡ true
      → IsFree groups amounts certificate bounds fault g
  is_free-true WrongLength g e =
      let one = and_parts _ _ e in
      let two = and_parts _ _ one.1 in
      (eqb-true _ _ one.0, eqb-true _ _ two.0, eqb-true _ _ two.1)
  is_free-true OverLimit g e = λ limit is. leb-true _ _ (rw is at e)
  is_free-true OverDemand g e = λ leaf. leb-true _ _ (otherwise _ _ e (not_from_true _ leaf))
  is_free-true SumDiffers g e = λ inner. eqb-true _ _ (otherwise _ _ e inner)
  is_free-true FlagWithoutLimit g e = λ flagged. otherwise _ _ e (not_from_true _ flagged)
  is_free-true NotGreatest g e = eqb-true _ _ e
  is_free-true LevelMissing g e =
      λ inner some. otherwise _ _ (otherwise _ _ e inner) (not_from_true _ (lt-ltb _ _ some))
  is_free-true LastMarkAbove c e = λ g level up some is part above.
      let v = rw is at (otherwise _ _ (rw up at e) (not_from_true _ (lt-ltb _ _ some))) in
      let less = not_from_true _ (lt-ltb _ _ part) in
      both_ways _ (not-true _ (otherwise _ _ v less)) (is_below-from _ _ above)
  is_free-true NextMarkNotAbove c e = λ g level up some is room.
      let v = rw is at (otherwise _ _ (rw up at e) (not_from_true _ (lt-ltb _ _ some))) in
      is_below-true _ _ (otherwise _ _ v (not_from_true _ (lt-ltb _ _ room)))

  -- the conditions of all faults, but those that are left out
  abbrev pub are_free : (CheckFault → Bool) → Bool
  are_free is_left_out =
      list_all (λ fault. is_left_out fault || each_below (length groups.rows) (is_free fault)) faults

  pub are_free-true : (is_left_out : CheckFault → Bool) → are_free is_left_out ≡ true
      → (fault : CheckFault) (g : ℕ) → is_left_out fault ≡ false → g < length groups.rows
      → IsFree groups amounts certificate bounds fault g
  are_free-true is_left_out e fault g kept below =
      let t : CheckFault → Bool =
      λ f. is_left_out f || each_below (length groups.rows) (is_free f) in
      let at : t fault ≡ true = ap t (sym (numbered fault).1)
      ∙ list_all-get_or t faults (check_fault_number fault - 50) WrongLength e (numbered fault).0 in
      is_free-true fault g (at_each (length groups.rows) (is_free fault) g
      (otherwise _ _ at kept) below)
