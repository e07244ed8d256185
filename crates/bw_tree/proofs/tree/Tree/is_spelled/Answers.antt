-- The goals of `Tree::is_spelled` that are answered by hand.
use Rattle.std.proofs.Common.{◌≡◌, List, ℕ, ◌++◌, ◌∷◌, [], Some, sym, ap, ◌∙◌}
use Rattle.std.proofs.Common.{append_assoc}
use Rattle.std.proofs.lemmas.Bool.{eqb-true}
use Rattle.std.proofs.lemmas.List.{nil_from_length}
use Rattle.bw_tree.proofs.SpelledLemmas.{way_low, way_first, way_below}
use Rattle.bw_tree.proofs.tree.Tree.is_spelled.Goals as goal

pub returns-in_default-split_last : goal.returns-in_default-split_last
returns-in_default-split_last c first =
    let cut = c.in-Some.ensures.cut in
    let tree = c.in-Some.ensures.valid in
    let t = c.args.self.now in
    let at = c.loop-top.at in
    let none = nil_from_length c.in-Some.front.now c.in_default-split_last.ensures.cases in
    let text : cut.0 ≡ c.loop-top.left.now = sym (cut.2 ∙ ap (λ (f : List ℕ). f ++ cut.0) none) in
    c.loop-top.invariant (way_low t tree cut.0 c.in-Some.top at cut.1)
    (way_first t tree cut.0 c.in-Some.top at cut.1 (eqb-true c.in-Some.top 0 first) ∙ ap Some text)

pub loop-top-preserved : goal.loop-top-preserved
loop-top-preserved c inner path_is =
    let cut = c.in-Some.ensures.cut in
    let tree = c.in-Some.ensures.valid in
    let t = c.args.self.now in
    let at = c.loop-top.at in
    let above = c.in-Some-split_last.above.now in
    let ends : c.in-Some.front.now ≡ above ++ 47 ∷ [] =
    c.in-Some-split_last.ensures.cases.0 ∙ ap (λ b. above ++ b ∷ []) c.if-slash-ne47.false in
    let text : above ++ (47 ∷ cut.0) ≡ c.loop-top.left.now =
    sym (cut.2 ∙ ap (λ (f : List ℕ). f ++ cut.0) ends ∙ append_assoc above (47 ∷ []) cut.0) in
    c.loop-top.invariant (way_low t tree cut.0 c.in-Some.top at cut.1)
    (way_below t tree cut.0 above c.in-Some.top at cut.1 inner path_is ∙ ap Some text)
