-- The goals of `least_now` that are answered by hand.
use Rattle.std.proofs.Common.{◌≡◌, ℕ, ◌<◌, List, length, get_or, set, sym, ◌∙◌, arith, subst}
use Rattle.std.proofs.lemmas.Result.{IfOk-weaker}
use Rattle.bw_model.specs.declared.row.Row.{Row}
use Rattle.bw_settings.specs.Columns.{AreBases, AreFormulas}
use Rattle.bw_settings.specs.Following.{Follows, follows_of, IsNumbered, number_at}
use Rattle.bw_settings.specs.Settings.{IsLeastSetting}
use Rattle.bw_settings.specs.Several.{Aims, aims_of, IsLeastNow}
use Rattle.bw_settings.proofs.Open.{based, opened, least_beside, open_on_path}
use Rattle.bw_settings.proofs.beside.least_now.Goals as goal

-- Bases as a slice has them, beside numbers as a slice has them.
as_slices : (rows : List Row) (follows : Follows) (aims : Aims) (others numbers : List ℕ) (to : ℕ)
    (bases those : List ℕ) → others ≡ numbers → those ≡ bases
    → AreBases rows follows aims others to bases → AreBases rows follows aims numbers to those
as_slices rows follows aims others numbers to bases those same alike are =
    subst (λ (ns : List ℕ). AreBases rows follows aims ns to those) same
    (subst (λ (bs : List ℕ). AreBases rows follows aims others to bs) (sym alike) are)

pub least_near-requires-clause-path : goal.least_near-requires-clause-path
least_near-requires-clause-path c =
    let follows : Follows = follows_of c.args.following.now in
    let aims : Aims = aims_of c.args.goals.now in
    let k_in : c.args.k < length c.args.goals.now.owners.now =
    omega (arith, c.requires.goal, c.requires.numbers) in
    let stands : IsNumbered c.args.instance.now c.args.following.now.formulas.now
    (number_at (based follows c.as_slice-bases.result.now) 0) c.in-Made.standing =
    rw c.in-Made.is at c.in_ok-instance_at.ensures in
    open_on_path c.weights_grow.ensures.grow c.args.instance.now follows aims c.args.numbers.now
    c.args.k k_in c.requires.goal c.as_slice-bases.result.now c.as_slice-2.result.now
    (as_slices c.args.instance.now.rows follows aims c.as_slice.result.now
    (set c.args.numbers.now c.args.k 0) (length c.args.instance.now.rows)
    c.in_ok-beside.beside.items c.as_slice-bases.result.now
    (c.as_slice.ensures.value ∙ c.in_ok-others.ensures) c.as_slice-bases.ensures.value
    c.in_ok-beside.ensures)
    (subst (λ (fs : List ℕ). AreFormulas c.args.instance.now.rows
    c.args.following.now.formulas.now aims c.args.k (length c.args.instance.now.rows) fs)
    (sym c.as_slice-2.ensures.value) c.in_ok-those.ensures)
    c.in-Made.standing stands c.rows-rows.ensures.valid (c.requires.goals.ways c.args.k k_in)

pub returns : goal.returns
returns c =
    let follows : Follows = follows_of c.args.following.now in
    let aims : Aims = aims_of c.args.goals.now in
    let k_in : c.args.k < length c.args.goals.now.owners.now =
    omega (arith, c.requires.goal, c.requires.numbers) in
    let stands : IsNumbered c.args.instance.now c.args.following.now.formulas.now
    (number_at (based follows c.as_slice-bases.result.now) 0) c.in-Made.standing =
    rw c.in-Made.is at c.in_ok-instance_at.ensures in
    IfOk-weaker c.least_near.result
    (IsLeastSetting c.args.goals.now.measure c.in-Made.standing
    (opened follows c.as_slice-bases.result.now c.as_slice-2.result.now)
    (get_or aims.groups c.args.k 0) (get_or aims.amounts c.args.k 0)
    (get_or aims.firsts c.args.k 0) (get_or aims.lasts c.args.k 0))
    (IsLeastNow c.args.instance.now follows aims c.args.numbers.now c.args.k)
    (least_beside c.weights_grow.ensures.grow c.args.instance.now follows aims c.args.numbers.now
    c.args.k k_in c.requires.goal c.as_slice-bases.result.now c.as_slice-2.result.now
    (as_slices c.args.instance.now.rows follows aims c.as_slice.result.now
    (set c.args.numbers.now c.args.k 0) (length c.args.instance.now.rows)
    c.in_ok-beside.beside.items c.as_slice-bases.result.now
    (c.as_slice.ensures.value ∙ c.in_ok-others.ensures) c.as_slice-bases.ensures.value
    c.in_ok-beside.ensures)
    (subst (λ (fs : List ℕ). AreFormulas c.args.instance.now.rows
    c.args.following.now.formulas.now aims c.args.k (length c.args.instance.now.rows) fs)
    (sym c.as_slice-2.ensures.value) c.in_ok-those.ensures)
    c.in-Made.standing stands)
    c.least_near.ensures
