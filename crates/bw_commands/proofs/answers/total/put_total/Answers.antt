-- The goals of `put_total` that are answered by hand.
use Rattle.std.proofs.Common.{◌≡◌, ◌∙◌, ◌<◌, ℕ, List, ◌++◌, length, get_or, refl, ap, sym, subst}
use Rattle.std.proofs.Common.{append_assoc, arith}
use Rattle.std.specs.Prelude.{codes}
use Rattle.bw_model.specs.Groups.{Groups}
use Rattle.bw_model.specs.Demand.{AreMaxTotals, limiting_groups, limited_total, demand_outside}
use Rattle.bw_streams.specs.Answers.{number_line}
use Rattle.bw_tree.specs.Snapshot.{instance_of}
use Rattle.bw_commands.specs.GroupLines.{ArePathsOf}
use Rattle.bw_commands.specs.Total.{limit_lines, total_text}
use Rattle.bw_tree.specs.Kept.{IsSnapshotOf}
use Rattle.bw_hierarchy.specs.State.{HierarchyState}
use Rattle.bw_commands.proofs.Totals.{groups_are_rows, limiting_groups-lt}
use Rattle.bw_commands.proofs.answers.total.put_total.Goals as goal

pub put_limits-requires-clause-each : goal.put_limits-requires-clause-each
put_limits-requires-clause-each c =
    groups_are_rows
    (c.tree.ensures ∙ ap (λ (h : HierarchyState). h.tree) c.take_snapshot.ensures.same)
    c.in_ok-snapshot.ensures.taken.rows

pub put_limits-requires-clause-within : goal.put_limits-requires-clause-within
put_limits-requires-clause-within c =
    let most = c.in_ok-gathered.gathered.most.items in
    let same : c.as_slice-groups.result.now
    ≡ limiting_groups c.in_ok-snapshot.snapshot.instance most =
    c.as_slice-groups.ensures.value ∙ c.in_ok-limits.ensures.groups in
    subst (λ xs. (k : ℕ) → k < length xs
    → get_or xs k 0 < length c.in_ok-snapshot.snapshot.instance.rows) (sym same)
    (limiting_groups-lt c.in_ok-snapshot.snapshot.instance most)

pub keep-requires : goal.keep-requires
keep-requires c =
    subst (λ (h : HierarchyState). IsSnapshotOf c.in_ok-snapshot.snapshot h.tree h.shape)
    (sym c.take_snapshot.ensures.same) c.in_ok-snapshot.ensures.taken

-- three texts behind another
three : (a t l d : List ℕ) → ((a ++ t) ++ l) ++ d ≡ a ++ (t ++ l ++ d)
three a t l d = simp append_assoc refl

pub returns-clause-answers : goal.returns-clause-answers
returns-clause-answers c =
    let old = c.args.hierarchy.now in
    let groups = c.in_ok-snapshot.snapshot.instance in
    let is : groups ≡ instance_of old.tree old.shape = c.in_ok-snapshot.ensures.taken.rows in
    let most = c.in_ok-gathered.gathered.most.items in
    let limiting = limiting_groups groups most in
    let listed : c.as_slice-groups.result.now ≡ limiting =
    c.as_slice-groups.ensures.value ∙ c.in_ok-limits.ensures.groups in
    let tree : c.tree.result.now ≡ old.tree =
    c.tree.ensures ∙ ap (λ (h : HierarchyState). h.tree) c.take_snapshot.ensures.same in
    let put = c.in_ok-put_limits.ensures.ok in
    let paths = put.0 in
    let first = c.in_ok-put_number_line.ensures in
    let last = c.in_ok-put_number_line-2.ensures in
    let before = c.args.answer.now.items in
    let total = number_line (codes "total ") (limited_total groups most) in
    let lines = limit_lines groups limiting paths in
    let rest : c.in_ok-limits.limits.rest ≡ demand_outside groups.rows limiting =
    c.in_ok-limits.ensures.rest ∙ ap (demand_outside groups.rows) c.in_ok-limits.ensures.groups in
    let told = first.ok
    ∙ ap (λ n. before ++ number_line (codes "total ") n) c.total_of-total.ensures in
    let limited = put.2
    ∙ ap (λ gs. c.put_number_line.new.answer.items ++ limit_lines groups gs paths) listed
    ∙ ap (λ (xs : List ℕ). xs ++ lines) told in
    let all = last.ok
    ∙ ap (λ n. c.put_limits.new.answer.items ++ number_line (codes "demand ") n) rest
    ∙ ap (λ (xs : List ℕ). xs
    ++ number_line (codes "demand ") (demand_outside groups.rows limiting)) limited
    ∙ three before total lines
    (number_line (codes "demand ") (demand_outside groups.rows limiting)) in
    let same_tree : ArePathsOf old.tree limiting paths =
    subst (λ t. ArePathsOf t limiting paths) tree
    (subst (λ gs. ArePathsOf c.tree.result.now gs paths) listed put.1) in
    record {
      ok = (
        total_text groups most paths,
        record {
          most = most;
          paths = paths;
          mosts = subst (λ (g : Groups). AreMaxTotals g most) is c.in_ok-gathered.ensures.mosts;
          named = subst (λ (g : Groups). ArePathsOf old.tree (limiting_groups g most) paths) is
              same_tree;
          is = ap (λ (g : Groups). total_text g most paths) is;
        },
        all,
      );
      err = tt;
      room = omega (arith, first.room, c.in_ok-put_limits.ensures.room, last.room);
    }
