-- One more row keeps the list that of the leaves.
use Rattle.std.proofs.Common.{rules, arith, ◌≡◌, ℕ, List, [], ◌∷◌, ◌++◌, length, vec_capacity}
use Rattle.std.proofs.Common.{sym, ap, ◌∙◌, length-append}
use Rattle.bw_workers.proofs.Rows.{more_leaf, more_inner}
use Rattle.bw_workers.proofs.serving.leaves_of.Goals.{then-is_leaf, else-is_leaf}
use Rattle.bw_workers.proofs.serving.leaves_of.Goals as goal

pub loop-row-preserved : goal.loop-row-preserved
loop-row-preserved c = let was = c.loop-row.invariant in let tree = c.args.instance.now.rows in
    let row = c.loop-row.row in
    elim c.if-is_leaf.branch [
      | then-is_leaf w ↦
          let items : c.if-is_leaf.leaves.items ≡ c.loop-row.leaves.items ++ row ∷ [] =
          search rules in
          let room : vec_capacity c.if-is_leaf.leaves ≡ vec_capacity c.loop-row.leaves =
          search rules in
          record {
            rows = was.rows;
            few = was.few;
            so_far = omega (
              arith,
              was.so_far,
              ap length items,
              length-append c.loop-row.leaves.items (row ∷ []),
            );
            room = omega (arith, was.room, room);
            leaves = items ∙ ap (λ (l : List ℕ). l ++ row ∷ []) was.leaves
                ∙ sym (more_leaf tree row (search rules));
          }
      | else-is_leaf w ↦
          let items : c.if-is_leaf.leaves.items ≡ c.loop-row.leaves.items = search rules in
          let room : vec_capacity c.if-is_leaf.leaves ≡ vec_capacity c.loop-row.leaves =
          search rules in
          record {
            rows = was.rows;
            few = was.few;
            so_far = omega (arith, was.so_far, ap length items);
            room = omega (arith, was.room, room);
            leaves = items ∙ was.leaves ∙ sym (more_inner tree row (search rules));
          }
    ]
