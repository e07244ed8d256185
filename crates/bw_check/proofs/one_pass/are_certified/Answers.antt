-- The goals of `are_certified` that are answered by hand.
use Rattle.std.proofs.Common.{◌≡◌, ℕ, suc, ◌-◌, ◌<◌, Some, length, get_or, replicate, ap, subst, sym}
use Rattle.std.proofs.Common.{◌∙◌, arith, rules}
use Rattle.std.specs.Prelude.{slice_index}
use Rattle.std.proofs.lemmas.Grind.{get_or_default_zero}
use Rattle.bw_model.specs.Groups.{Groups, parent_of}
use Rattle.bw_model.specs.Certificate.{certified_of}
use Rattle.bw_check.specs.Counts.{bound_over}
use Rattle.bw_check.proofs.Bounding.{bounds_exist}
use Rattle.bw_check.proofs.Upward.{AreFreeFrom, up_none, up_top, up_child, up_here, free_none}
use Rattle.bw_check.proofs.Upward.{free_top, free_child, free_all}
use Rattle.bw_check.proofs.Verdicts.{free-IsCertified}
use Rattle.bw_check.proofs.one_pass.are_certified.Goals as goal
use Rattle.bw_check.proofs.one_pass.are_certified.Goals.{After-free_bound}

pub loop-g-init : goal.loop-g-init
loop-g-init c =
    let groups : Groups = record { shape = c.args.shape; rows = c.args.rows.now } in
    let amounts_are : c.in_ok-amounts_below.amounts_below.items
    ≡ replicate (length c.args.rows.now) 0 = search rules in
    let bounds_are : c.in_ok-bounds_below.bounds_below.items
    ≡ replicate (length c.args.rows.now) 0 = search rules in
    record {
      summed = up_none c.args.rows.now (slice_index c.args.amounts.now)
          c.in_ok-amounts_below.amounts_below.items amounts_are;
      free = free_none groups c.args.amounts.now (certified_of c.args.certificate.now)
          c.in_ok-bounds_below.bounds_below.items bounds_are;
      visited = omega (arith, c.in_ok-siblings.ensures.whole);
    }

pub free_bound-requires-clause-amounts_below : goal.free_bound-requires-clause-amounts_below
free_bound-requires-clause-amounts_below c =
    let table = c.loop-g.amounts_below.items in
    let next : c.loop-g.g ≡ suc (c.loop-g.g - 1) = omega (arith, c.loop-g-test.true) in
    let within : c.loop-g.g - 1 < length c.args.rows.now =
    omega (arith, c.loop-g-test.true, c.loop-g.auto.g) in
    c.index.ensures
    ∙ get_or_default_zero table (c.loop-g.g - 1) c.index.result.now
    (omega (arith, within, c.loop-g.invariant.summed.one_each))
    ∙ up_here c.args.rows.now (slice_index c.args.amounts.now) c.loop-g.g (c.loop-g.g - 1) table
    next within c.loop-g.invariant.summed c.requires.valid.tree

within_of : (c : After-free_bound) → c.loop-g.g - 1 < length c.args.rows.now
within_of c = omega (arith, c.loop-g-test.true, c.loop-g.auto.g)

-- the sum of the bounds that was read
read_of : (c : After-free_bound)
    → c.index-in-loop-g.result.now ≡ get_or c.loop-g.bounds_below.items (c.loop-g.g - 1) 0
read_of c =
    c.index-in-loop-g.ensures
    ∙ get_or_default_zero c.loop-g.bounds_below.items (c.loop-g.g - 1)
    c.index-in-loop-g.result.now
    (omega (arith, within_of c, c.loop-g.invariant.free.one_each))

pub loop-g-preserved-else-not-is_added-2 : goal.loop-g-preserved-else-not-is_added-2
loop-g-preserved-else-not-is_added-2 c =
    let rows = c.args.rows.now in
    let groups : Groups = record { shape = c.args.shape; rows = c.args.rows.now } in
    let certificate = certified_of c.args.certificate.now in
    let table = c.loop-g.bounds_below.items in
    let g = c.loop-g.g - 1 in
    let parent = c.in-Some-parent.parent in
    let next : c.loop-g.g ≡ suc (c.loop-g.g - 1) = omega (arith, c.loop-g-test.true) in
    let within = within_of (goal.at.loop-g-preserved-else-not-is_added-2 c).After-free_bound in
    let read = read_of (goal.at.loop-g-preserved-else-not-is_added-2 c).After-free_bound in
    let up : parent_of rows g ≡ Some parent = sym c.parent.ensures.value ∙ c.in-Some-parent.is in
    let before : parent < g = c.in-Some-parent.ensures.before in
    let there : parent < length rows = omega (arith, before, within) in
    let bound_is : c.in-Some.bound ≡ bound_over groups certificate (get_or table g 0) g =
    c.in-Some.ensures.bound ∙ ap (λ (x : ℕ). bound_over groups certificate x g) read in
    record {
      summed = rw (c.is_added.ensures c.if-not-is_added.false)
          (up_child rows (slice_index c.args.amounts.now) c.loop-g.g g
          c.loop-g.amounts_below.items next within c.loop-g.invariant.summed parent up there);
      free = rw (c.is_added-in-Some-parent.ensures c.if-not-is_added-2.false)
          (free_child groups c.args.amounts.now certificate c.requires.valid.tree c.loop-g.g g
          c.in-Some.bound table next within c.loop-g.invariant.free bound_is
          c.in-Some.ensures.free parent up there);
      visited = omega (arith, c.one_more.ensures, c.loop-g.invariant.visited, c.loop-g-test.true);
    }

pub loop-g-preserved : goal.loop-g-preserved
loop-g-preserved c =
    let rows = c.args.rows.now in
    let groups : Groups = record { shape = c.args.shape; rows = c.args.rows.now } in
    let certificate = certified_of c.args.certificate.now in
    let table = c.loop-g.bounds_below.items in
    let g = c.loop-g.g - 1 in
    let next : c.loop-g.g ≡ suc (c.loop-g.g - 1) = omega (arith, c.loop-g-test.true) in
    let within = within_of (goal.at.loop-g-preserved c).After-free_bound in
    let read = read_of (goal.at.loop-g-preserved c).After-free_bound in
    let none = sym c.parent.ensures.value ∙ c.in_default-parent.is in
    let bound_is : c.in-Some.bound ≡ bound_over groups certificate (get_or table g 0) g =
    c.in-Some.ensures.bound ∙ ap (λ (x : ℕ). bound_over groups certificate x g) read in
    record {
      summed = up_top rows (slice_index c.args.amounts.now) c.loop-g.g g
          c.loop-g.amounts_below.items next within c.loop-g.invariant.summed none;
      free = free_top groups c.args.amounts.now certificate c.requires.valid.tree c.loop-g.g g
          c.in-Some.bound table next within c.loop-g.invariant.free bound_is
          c.in-Some.ensures.free none;
      visited = omega (arith, c.one_more.ensures, c.loop-g.invariant.visited, c.loop-g-test.true);
    }

pub returns-clause-shown : goal.returns-clause-shown
returns-clause-shown c _ =
    let groups : Groups = record { shape = c.args.shape; rows = c.args.rows.now } in
    let certificate = certified_of c.args.certificate.now in
    let tree = c.requires.valid.tree in
    let done : c.loop-g.g ≡ 0 = omega (arith, c.loop-g-test.false) in
    let b = bounds_exist groups certificate tree in
    let free = subst (λ (g : ℕ). AreFreeFrom groups c.args.amounts.now certificate g
    c.loop-g.bounds_below.items) done c.loop-g.invariant.free in
    record {
      bounds = b.0;
      certified = free-IsCertified groups c.args.amounts.now certificate b.0 tree b.1
          (free_all groups c.args.amounts.now certificate tree c.requires.one_per_row
          c.loop-g.bounds_below.items free b.0 b.1);
    }
