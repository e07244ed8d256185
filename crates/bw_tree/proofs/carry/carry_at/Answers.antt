-- The goals of `carry_at` that are answered by hand.
use Rattle.std.proofs.Common.{◌≡◌, ℕ, false, not, List, Option, None, Some, is_some, refl, sym, ap}
use Rattle.std.proofs.Common.{◌∙◌, arith}
use Rattle.bw_model.specs.declared.row.Row.{Row}
use Rattle.bw_model.specs.Groups.{row_of}
use Rattle.bw_model.specs.OneRow.{with_limit}
use Rattle.bw_tree.specs.Groups.{GroupFields}
use Rattle.bw_tree.specs.declared.snapshot.Snapshot.{Snapshot}
use Rattle.bw_tree.specs.Snapshot.{period_limit}
use Rattle.bw_tree.proofs.KeptLemmas.{still_within, carrying, carry_sound, sound_there, carry_step}
use Rattle.bw_tree.proofs.KeptLemmas.{limit_steady, unlimited_step}
use Rattle.bw_tree.proofs.carry.carry_at.Goals as goal

none_of : (o : Option ℕ) → is_some o ≡ false → o ≡ None
none_of None no_limit = refl
none_of (Some limit) no_limit = absurd (let wrong : ⊥ = cc in wrong)

pub returns-then-is_none-clause-step : goal.returns-then-is_none-clause-step
returns-then-is_none-clause-step c =
    let i = c.args.place in
    let lacks : is_some (row_of c.rows.result.now i).limit ≡ false =
    c.is_none.ensures ∙ ap not c.if-is_none.true in
    let none : (row_of c.args.snapshot.now.instance.rows i).limit ≡ None =
    ap (λ (rows : List Row). (row_of rows i).limit) (sym c.rows.ensures.rows)
    ∙ none_of (row_of c.rows.result.now i).limit lacks in
    unlimited_step c.args.groups.now.entries i c.left_of.result c.requires.within
    c.write_carry.new.groups.entries c.write_carry.ensures c.args.shape
    c.args.snapshot.now.instance c.requires.step none

pub returns-then-is_none-clause-sound : goal.returns-then-is_none-clause-sound
returns-then-is_none-clause-sound c =
    carry_sound c.args.groups.now.entries c.args.place c.left_of.result c.requires.within
    c.write_carry.new.groups.entries c.write_carry.ensures c.requires.sound

pub entry_at-requires : goal.entry_at-requires
entry_at-requires c =
    omega (
      arith,
      still_within c.args.groups.now.entries c.args.place c.left_of.result c.requires.within
          c.write_carry.new.groups.entries c.write_carry.ensures,
    )

pub renew_limit-requires-clause-sound : goal.renew_limit-requires-clause-sound
renew_limit-requires-clause-sound c =
    sound_there c.args.groups.now.entries c.args.place c.left_of.result c.requires.within
    c.write_carry.new.groups.entries c.write_carry.ensures c.requires.sound (c.entry_at.result.0, c.entry_at.result.1.now)
    c.entry_at.ensures

pub renew_limit-requires-clause-steady : goal.renew_limit-requires-clause-steady
renew_limit-requires-clause-steady c none =
    let gs = c.args.groups.now.entries in
    let i = c.args.place in
    let carry = c.left_of.result in
    let is = carrying gs i carry c.requires.within c.write_carry.new.groups.entries
    c.write_carry.ensures (c.entry_at.result.0, c.entry_at.result.1.now) c.entry_at.ensures in
    limit_steady gs i carry c.requires.within c.args.shape c.args.snapshot.now.instance
    c.requires.step (sym (ap (λ (g : GroupFields). g.burst) is) ∙ none)
    ∙ sym (ap (period_limit c.args.shape) is)

pub returns-clause-step : goal.returns-clause-step
returns-clause-step c =
    let gs = c.args.groups.now.entries in
    let i = c.args.place in
    let carry = c.left_of.result in
    let new = c.write_carry.new.groups.entries in
    let is = carrying gs i carry c.requires.within new c.write_carry.ensures
    (c.entry_at.result.0, c.entry_at.result.1.now) c.entry_at.ensures in
    ap (λ (s : Snapshot). s.instance) c.renew_limit.ensures
    ∙ ap (λ g. with_limit c.args.snapshot.now.instance i (period_limit c.args.shape g)) is
    ∙ carry_step gs i carry c.requires.within new c.write_carry.ensures c.args.shape
    c.args.snapshot.now.instance c.requires.step

pub returns-clause-sound : goal.returns-clause-sound
returns-clause-sound c =
    carry_sound c.args.groups.now.entries c.args.place c.left_of.result c.requires.within
    c.write_carry.new.groups.entries c.write_carry.ensures c.requires.sound
