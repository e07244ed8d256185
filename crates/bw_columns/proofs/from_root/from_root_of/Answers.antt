-- The goals of `from_root_of` that are answered by hand.
use Rattle.std.proofs.Common.{◌≡◌, ℕ, List, Bool, length, ap, sym, ◌∙◌, inl, inr}
use Rattle.std.proofs.lemmas.List.{length-map}
use Rattle.std.proofs.lemmas.List.FromFn.{length-map-range_with_len}
use Rattle.bw_model.specs.declared.row.Row.{Row}
use Rattle.bw_model.specs.Groups.{Groups}
use Rattle.bw_questions.specs.declared.from_root.least.Tuned.{Tuned}
use Rattle.bw_questions.specs.declared.from_root.least.Tuned.TheVariants.{Met, Unmet}
use Rattle.bw_questions.specs.declared.from_root.measure.Measure.{Measure}
use Rattle.bw_questions.specs.FromRoot.{IsTunedFromRoot, weighed_row}
use Rattle.bw_questions.specs.Lowered.{IsTuned, level_weights, lowered, own_rows}
use Rattle.bw_columns.specs.Requests.{groups_for}
use Rattle.bw_columns.specs.Certificates.{flags_in}
use Rattle.bw_columns.specs.FromRoot.{IsFromRootTold, IsToldOfRoot}
use Rattle.bw_columns.proofs.Asked.{moved}
use Rattle.bw_columns.proofs.from_root.from_root_of.Goals as goal

-- one row for each row
tuned_long : (measure : Measure) (groups : Groups) (goals : List ℕ) (may : List Bool)
    (tuned : Groups) → IsTunedFromRoot measure groups goals may (Met tuned)
    → length tuned.rows ≡ length groups.rows
tuned_long measure groups goals may tuned (inl raised) = raised.reweighted.tree.as_many
tuned_long measure groups goals may tuned (inr all) = all.reweighted.tree.as_many

-- one weight for each row
weights_long : (measure : Measure) (groups : Groups) (goals : List ℕ) (may : List Bool)
    (tuned : Tuned) (weights : List ℕ) (unmet : ℕ) → IsTuned measure groups goals may tuned
    → IsToldOfRoot groups tuned weights unmet → length weights ≡ length groups.rows
weights_long measure groups goals may (Met tuned) weights unmet held told =
    ap (length {A = ℕ}) told.0 ∙ length-map tuned.rows (λ (r : Row). r.weight)
    ∙ tuned_long measure (lowered groups goals may held.level) goals
    (own_rows groups.rows goals may) tuned held.own
    ∙ length-map-range_with_len
    (weighed_row groups.rows (level_weights groups.rows goals may held.level)) 0
    (length groups.rows)
weights_long measure groups goals may (Unmet top) weights unmet held told =
    ap (length {A = ℕ}) told.0 ∙ length-map groups.rows (λ (r : Row). r.weight)

pub tune-requires-clause-may : goal.tune-requires-clause-may
tune-requires-clause-may c =
    ap (length {A = Bool}) (c.as_slice.ensures.value ∙ c.in_ok-flags.ensures)
    ∙ length-map c.args.may.now _
    ∙ c.requires.may c.in_ok-instance.ensures.reply.0 ∙ sym c.in_ok-instance.ensures.rows

told_here : (measure : Measure) (groups asked : Groups) (goals : List ℕ) (may flags : List Bool)
    (tuned : Tuned) (weights : List ℕ) (unmet : ℕ) → groups ≡ asked → may ≡ flags
    → IsTuned measure groups goals may tuned → IsToldOfRoot groups tuned weights unmet
    → IsFromRootTold measure asked goals flags weights unmet
told_here measure groups asked goals may flags tuned weights unmet same_groups same_flags held
    told =
    moved (λ (g : Groups) (some : List Bool). IsFromRootTold measure g goals some weights unmet)
    groups asked may flags same_groups same_flags
    (record { tuned = tuned; held = held; told = told })

pub returns-clause-told : goal.returns-clause-told
returns-clause-told c =
    let told = c.in_ok-told.told in
    told_here c.args.measure c.in_ok-instance.instance (groups_for c.args.request.now)
    c.args.goals.now c.as_slice.result.now (flags_in c.args.may.now) c.in_ok-tuned.tuned
    told.weights.items told.unmet c.in_ok-instance.ensures.groups
    (c.as_slice.ensures.value ∙ c.in_ok-flags.ensures) c.in_ok-tuned.ensures
    c.in_ok-told.ensures

pub returns-clause-weights : goal.returns-clause-weights
returns-clause-weights c =
    let told = c.in_ok-told.told in
    weights_long c.args.measure c.in_ok-instance.instance c.args.goals.now c.as_slice.result.now
    c.in_ok-tuned.tuned told.weights.items told.unmet c.in_ok-tuned.ensures c.in_ok-told.ensures
    ∙ c.in_ok-instance.ensures.rows
