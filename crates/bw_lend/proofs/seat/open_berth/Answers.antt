-- The place that is handed out is the first of the rest.
use Rattle.std.proofs.Common.{arith, ◌+◌, ◌-◌, ℕ, [], ◌∷◌, ap, ◌∙◌, sym}
use Rattle.std.specs.Arc.{arc_value}
use Rattle.bw_lend.specs.declared.stake.Part.TheVariants.{Fresh}
use Rattle.bw_lend.specs.Plays.{others, first_one}
use Rattle.bw_lend.specs.Rule.{stake}
use Rattle.bw_lend.proofs.Handed.{first_place, other_places}
use Rattle.bw_lend.proofs.Kept.{may_split}
use Rattle.bw_lend.proofs.seat.open_berth.Goals as goal

pub split_seat-token-requires : goal.split_seat-token-requires
split_seat-token-requires g c = (
  c.requires.table.0 ∙ sym (ap (λ t. t.shared.table_id) c.deref.ensures),
  let same = ap (λ t. t.shared.table_id.words) c.deref.ensures in
      let e = ap (λ i. i.words) c.requires.table.0 in omega (arith, c.requires.table.1.0),
  may_split _ _ _,
)

pub open_place-requires-clause-fresh : goal.open_place-requires-clause-fresh
open_place-requires-clause-fresh g c κs within =
    let k : ℕ = c.args.place in
    let lock = (arc_value c.args.places.now).shared.key.value.lock_id in
    let key = ap (λ t. t.shared.key.value.lock_id) c.deref-2.ensures in
    c.split_seat-token.ensures.4 ∙ (ap (λ m. (first_one m.0, [])) c.requires.parts
    ∙ (ap (λ l. (l, [])) (first_place _ lock k (64 - k) (omega (arith, c.requires.place)))
    ∙ ap (λ id. (stake id k Fresh ∷ [], [])) (sym key)))

pub returns-clause-parts : goal.returns-clause-parts
returns-clause-parts g c =
    let k : ℕ = c.args.place in
    let lock = (arc_value c.args.places.now).shared.key.value.lock_id in
    c.split_seat-token.ensures.2
    ∙ (ap (λ m. (others m.0, m.1)) c.requires.parts ∙ ap (λ l. (l, []))
    (other_places _ lock k (64 - k) (64 - (k + 1)) (omega (arith, c.requires.place))))

pub returns-in_err-places-clause-parts : goal.returns-in_err-places-clause-parts
returns-in_err-places-clause-parts g c =
    let k : ℕ = c.args.place in
    let lock = (arc_value c.args.places.now).shared.key.value.lock_id in
    c.split_seat-token.ensures.2
    ∙ (ap (λ m. (others m.0, m.1)) c.requires.parts ∙ ap (λ l. (l, []))
    (other_places _ lock k (64 - k) (64 - (k + 1)) (omega (arith, c.requires.place))))
