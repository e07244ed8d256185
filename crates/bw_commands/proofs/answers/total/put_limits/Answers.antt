-- The goals of `put_limits` that are answered by hand.
use Rattle.std.proofs.Common.{◌∙◌, ◌<◌, ◌++◌, [], ◌∷◌, length, take, get_or, arith, sym, ap}
use Rattle.std.proofs.Common.{append-nil, append_assoc}
use Rattle.std.proofs.lemmas.List.{take_more}
use Rattle.bw_commands.specs.Total.{limit_line, limit_lines}
use Rattle.bw_commands.proofs.Totals.{ArePathsOf-push, ArePathsOf-length, group_lines-push}
use Rattle.bw_commands.proofs.answers.total.put_limits.Goals as goal

pub loop-g-init : goal.loop-g-init
loop-g-init c =
    record { taken = ([], tt, sym (append-nil c.args.answer.now.items)); room = omega arith }

pub loop-g-preserved : goal.loop-g-preserved
loop-g-preserved c =
    let t = c.loop-g.invariant.taken in
    let s = c.in_ok-put_limit.ensures.ok in
    let tree = c.args.tree.now in
    let groups = c.args.instance.now in
    let gs = c.args.groups.now in
    let i = c.loop-g.g-index in
    let lt : i < length gs = omega arith in
    let line = limit_line groups (get_or gs i 0) s.0 in
    record {
      taken = (
        t.0 ++ s.0 ∷ [],
        rw (take_more gs i 0 lt) (ArePathsOf-push tree (take i gs) t.0 (get_or gs i 0) s.0 t.1 s.1),
        rw (
          take_more gs i 0 lt,
          group_lines-push (limit_line groups) (take i gs) t.0
              (get_or gs i 0) s.0 (ArePathsOf-length tree (take i gs) t.0 t.1),
        )
            (s.2 ∙ ap (λ l. l ++ line) t.2
            ∙ append_assoc c.args.answer.now.items (limit_lines groups (take i gs) t.0) line),
      );
      room = omega (arith, c.loop-g.invariant.room, c.in_ok-put_limit.ensures.room);
    }
