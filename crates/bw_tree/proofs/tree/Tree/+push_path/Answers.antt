-- The goals of `Tree::push_path` that are answered by hand.
use Rattle.std.proofs.Common.{◌≡◌, [], ◌∷◌, ◌++◌, ℕ, List, cond, Some, sym, ap, ◌∙◌, arith}
use Rattle.std.proofs.Common.{append_assoc}
use Rattle.std.specs.List.{join_with_byte}
use Rattle.std.specs.String.{string_bytes}
use Rattle.std.proofs.lemmas.List.{append-nil}
use Rattle.std.specs.Prelude.{Result, Ok, Err, OnOk, is_ok}
use Rattle.bw_model.proofs.CallerLemmas.{no_parent}
use Rattle.bw_tree.specs.Groups.{IsTree, group_at}
use Rattle.bw_tree.specs.Paths.{names_to}
use Rattle.bw_tree.proofs.WayLemmas.{joined_below, joined_first, joined_none}
use Rattle.bw_tree.proofs.tree.Tree.+push_path.Goals as goal
use Rattle.bw_tree.proofs.tree.Tree.+push_path.Goals.{then-parent-ne0+in_ok-push_path+in_ok-push}
use Rattle.bw_tree.proofs.tree.Tree.+push_path.Goals.{else-parent-ne0}

pub returns-in_default-parent : goal.returns-in_default-parent
returns-in_default-parent t c =
    let tree : IsTree c.args.self.now = c.group.ensures.valid in
    let at : group_at c.args.self.now.groups c.args.id ≡ Some c.in-Some.group.now =
    sym c.in-Some.ensures.group in
    let up = sym (ap (λ g. g.parent) c.group-2.view_is)
    ∙ no_parent _ c.in_default-parent.not-Some in
    sym (ap (λ n. string_bytes c.args.path.now ++ n)
    (joined_none c.args.self.now tree c.args.id c.in-Some.group.now at up)
    ∙ append-nil (string_bytes c.args.path.now))

pub push_path-requires : goal.push_path-requires
push_path-requires t c =
    let tree : IsTree c.args.self.now = c.group.ensures.valid in
    let at : group_at c.args.self.now.groups c.args.id ≡ Some c.in-Some.group.now =
    sym c.in-Some.ensures.group in
    let up = sym (ap (λ g. g.parent) c.group-2.view_is) ∙ c.in-Some-parent.is in
    let above_it = tree.parents c.args.id c.in-Some-parent.parent c.in-Some.group.now at up in
    (omega (arith, above_it.0, c.decreases), above_it.1)

-- what was written, where it was
on_ok_bytes : {T E : Type 0} (r : Result T E) (new written kept wanted : List ℕ)
    → new ≡ cond (is_ok r) written kept → written ≡ wanted → OnOk r (new ≡ wanted)
on_ok_bytes (Ok x) new written kept wanted e same = e ∙ same
on_ok_bytes (Err x) new written kept wanted e same = tt

pub returns : goal.returns
unfolding lib.Utf8.encode
returns t c =
    let tree : IsTree c.args.self.now = c.group.ensures.valid in
    let at : group_at c.args.self.now.groups c.args.id ≡ Some c.in-Some.group.now =
    sym c.in-Some.ensures.group in
    let up = sym (ap (λ g. g.parent) c.group-2.view_is) ∙ c.in-Some-parent.is in
    let name = c.as_str.ensures.value ∙ ap (λ g. g.name) c.group-2.view_is in
    let old = string_bytes c.args.path.now in
    let above_it = join_with_byte 47 (names_to c.args.self.now.groups c.in-Some-parent.parent) in
    let own = c.as_str.result.now in
    let wanted = old ++ join_with_byte 47 (names_to c.args.self.now.groups c.args.id) in
    on_ok_bytes c.push_str.result _ _ _ wanted c.push_str.ensures.bytes
    (elim c.if-parent-ne0.branch [
      | then-parent-ne0+in_ok-push_path+in_ok-push w ↦
          let below = joined_below c.args.self.now tree c.args.id c.in-Some-parent.parent
          c.in-Some.group.now at up w.if-parent-ne0.true in
          ap (λ p. string_bytes p ++ own) w.path-is ∙ ap (λ bs. bs ++ own)
          (w.in_ok-push.ensures.bytes ∙ ap (λ bs. bs ++ 47 ∷ []) w.in_ok-push_path.ensures)
          ∙ append_assoc (old ++ above_it) (47 ∷ []) own ∙ append_assoc old above_it (47 ∷ own)
          ∙ ap (λ n. old ++ (above_it ++ 47 ∷ n)) name
          ∙ ap (λ x. old ++ x) (sym below)
      | else-parent-ne0 w ↦
          let first = joined_first c.args.self.now tree c.args.id c.in-Some-parent.parent
          c.in-Some.group.now at up w.if-parent-ne0.false in
          ap (λ p. string_bytes p ++ own) w.path-is ∙ ap (λ n. old ++ n) (name ∙ sym first)
    ])
