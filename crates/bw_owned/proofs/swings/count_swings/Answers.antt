-- The goal of `count_swings` that is answered by hand.
use Rattle.std.proofs.Common.{ℕ, ◌≡◌, ◌∙◌, Bool, get_or, arith, ap, rules}
use Rattle.bw_owned.specs.Swings.{went_back, has_turned, in_a_row}
use Rattle.bw_owned.proofs.Written.{written_more, kept_behind}
use Rattle.bw_owned.proofs.swings.count_swings.Goals as goal

pub loop-k-preserved : goal.loop-k-preserved
loop-k-preserved c =
    let kept = c.loop-k.invariant in
    let backs = c.loop-k.backs in
    let turns = c.loop-k.turns in
    let k = c.loop-k.k in
    let was = c.args.backs.now in
    let had = c.args.turns.now in
    let back : ℕ → Bool = λ (j : ℕ). went_back (get_or c.args.now.now j 0)
    (get_or c.args.last.now j 0) (get_or c.args.before.now j 0) in
    let turn : ℕ → Bool = λ (j : ℕ). has_turned (get_or c.args.now.now j 0)
    (get_or c.args.last.now j 0) (get_or c.args.before.now j 0) in
    let one : c.in_a_row.result ≡ in_a_row (back k) (get_or was k 0) =
    c.in_a_row.ensures
    ∙ ap (λ (b : Bool). in_a_row b (get_or backs k 0)) c.went_back.ensures
    ∙ ap (in_a_row (back k)) (kept.backs_after k (omega arith)) in
    let other : c.in_a_row-in-loop-k.result ≡ in_a_row (turn k) (get_or had k 0) =
    c.in_a_row-in-loop-k.ensures
    ∙ ap (λ (b : Bool). in_a_row b (get_or turns k 0)) c.has_turned.ensures
    ∙ ap (in_a_row (turn k)) (kept.turns_after k (omega arith)) in
    record {
      backs_long = search rules;
      turns_long = search rules;
      backs_are = written_more backs k c.in_a_row.result (search rules)
          (λ (j : ℕ). in_a_row (back j) (get_or was j 0)) one kept.backs_are;
      turns_are = written_more turns k c.in_a_row-in-loop-k.result (search rules)
          (λ (j : ℕ). in_a_row (turn j) (get_or had j 0)) other kept.turns_are;
      backs_after = kept_behind backs k c.in_a_row.result (search rules)
          (λ (j : ℕ). get_or was j 0) kept.backs_after;
      turns_after = kept_behind turns k c.in_a_row-in-loop-k.result (search rules)
          (λ (j : ℕ). get_or had j 0) kept.turns_after;
    }
