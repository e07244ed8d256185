-- One more berth.
use Rattle.std.proofs.Common.{rules, ◌≡◌, [], sym, ap, ◌∙◌, subst}
use Rattle.bw_lend.specs.Parts.{IsTable}
use Rattle.bw_lend.specs.Rule.{Each, stakes_from}
use Rattle.bw_lend.proofs.Handed.{each_snoc}
use Rattle.bw_lend.proofs.seat.open_berths.Goals as goal

pub loop-place-init : goal.loop-place-init
loop-place-init g c =
    let t = c.in_ok-places.ensures.table in
    let held = c.in_ok-places-2.ensures.ok in
    let key = ap (λ p. p.shared.key.value.lock_id) held ∙ ap (λ l. l.lock_id) t.2 in
    let empty : c.in_ok-berths.berths.items ≡ [] = search rules in
    record {
      table = t.1 ∙ sym (ap (λ p. p.shared.table_id) held);
      sized = subst IsTable (sym t.1) t.0;
      key = key;
      parts = c.in_ok-places.ensures.fresh ∙ ap (λ id. (stakes_from id 0 64, [])) (sym key);
      count = search rules;
      room = search rules;
      berths = subst (Each (λ b. b ≡ c.args.lock.now.lock_id)) (sym empty) tt;
    }

pub loop-place-preserved : goal.loop-place-preserved
loop-place-preserved g c =
    let was = c.loop-place.invariant in
    record {
      table = c.open_berth.ensures.table ∙ was.table;
      sized = subst IsTable (sym c.open_berth.ensures.table) was.sized;
      key = was.key;
      parts = c.open_berth.ensures.parts;
      count = search rules;
      room = search rules;
      berths = subst (Each (λ b. b ≡ c.args.lock.now.lock_id)) (sym c.push_reserved.ensures.items)
          (each_snoc (λ b. b ≡ c.args.lock.now.lock_id) c.loop-place.berths.items c.in_ok-berth.berth
          was.berths (c.in_ok-berth.ensures.lock ∙ was.key));
    }
