-- The goals of `Tail::of_child` that are answered by hand.
use Rattle.std.proofs.Common.{◌≡◌, ◌<◌, ℕ, ◌++◌, ◌∷◌, [], List, length, ap, ◌∙◌, append_assoc}
use Rattle.std.proofs.Common.{arith, refl, rules}
use Rattle.bw_tree.proofs.TailLemmas.{tail_of_child}
use Rattle.bw_tree.proofs.tail.Tail.of_child.Goals as goal

pub returns-then-is_empty : goal.returns-then-is_empty
returns-then-is_empty c = λ groups id child is found some.
    let none : length c.none.result.text.bytes ≡ 0 = ap length c.none.ensures in
    absurd (omega (arith, some, none))

pub returns : goal.returns
returns c = λ groups id child is found.
    let above = c.args.self.now in
    let name = c.args.name.now in
    let some : 0 < length above.text.bytes = search rules in
    let text = c.push_str-2.ensures.bytes ∙ ap (λ (b : List ℕ). b ++ name) c.push_str.ensures.bytes
    ∙ append_assoc above.text.bytes (47 ∷ []) name in
    tail_of_child groups id child name above
    (record { text = c.push_str-2.new.self; top = above.top }) refl text some is found
