-- The goals of `index_of` that are answered by hand.
use Rattle.std.proofs.Common.{◌≡◌, ◌<◌, ◌≤◌, ℕ, suc, ◌+◌, List, ◌∷◌, length, get_or, drop, Some}
use Rattle.std.proofs.Common.{None}
use Rattle.std.proofs.Common.{sym, ap, subst, ◌∙◌, arith, rules}
use Rattle.std.proofs.Math.Seq.{drop-cons}
use Rattle.std.proofs.lemmas.List.{drop_all}
use Rattle.bw_tree.specs.Groups.{GroupFields}
use Rattle.bw_tree.specs.declared.path_hash.PathHash.{PathHash}
use Rattle.bw_tree.specs.Children.{AreNamed, IsAdded}
use Rattle.bw_tree.specs.Keys.{child_key, number, with_bytes}
use Rattle.bw_tree.specs.Nodes.{IsNodeOf}
use Rattle.bw_tree.proofs.IndexLemmas.{IsPartIndex, part_start, part_end, part_skip, part_step}
use Rattle.bw_tree.proofs.NodeLemmas.{node_read}
use Rattle.bw_tree.proofs.PlaceLemmas.{stands_at}
use Rattle.bw_tree.proofs.tree.index_of.Goals as goal
use Rattle.bw_tree.proofs.tree.index_of.Goals.{in-Some+in_ok-insert, in_default}

pub loop-place-init : goal.loop-place-init
loop-place-init c = record {
  left = c.requires.named;
  part = λ fronts _. part_start c.args.groups.now.entries (child_key c.args.seed fronts)
      c.new-children.result c.new-children.ensures.first c.new-children.ensures.others
      c.new-children.ensures.none_empty;
}

pub unwrap-above-requires : goal.unwrap-above-requires
unwrap-above-requires c =
    let gs = c.args.groups.now.entries in
    let i = c.loop-place.place in
    let x : ℕ × GroupFields = (c.entry_at-id.result.0, c.entry_at-id.result.1.now) in
    let rest : List (ℕ × GroupFields) = drop (suc i) gs in
    let lt : i < length gs = search rules in
    let is : x ≡ get_or gs i x = c.entry_at-id.ensures in
    let named = subst (λ (es : List (ℕ × GroupFields)). AreNamed gs es)
    (drop-cons gs i x lt ∙ ap (λ (y : ℕ × GroupFields). y ∷ rest) (sym is))
    c.loop-place.invariant.left in
    let up : x.1.parent ≡ Some c.in-Some.parent =
    sym (ap (λ (g : GroupFields). g.parent) c.group.view_is) ∙ c.in-Some.is in
    c.place_of.ensures.found ∙ (named.0 c.in-Some.parent up).there

pub path_below-path-requires : goal.path_below-path-requires
path_below-path-requires c =
    let stands = stands_at c.args.groups.now.entries c.in-Some.parent c.unwrap-above.result
    (sym c.place_of.ensures.place ∙ c.unwrap-above.ensures) in
    omega (arith, stands.within, c.requires.long)

pub loop-place-preserved : goal.loop-place-preserved
loop-place-preserved c =
    let gs = c.args.groups.now.entries in
    let seed = c.args.seed in
    let i = c.loop-place.place in
    let x : ℕ × GroupFields = (c.entry_at-id.result.0, c.entry_at-id.result.1.now) in
    let rest : List (ℕ × GroupFields) = drop (suc i) gs in
    let lt : i < length gs = search rules in
    let is : x ≡ get_or gs i x = c.entry_at-id.ensures in
    let first : drop i gs ≡ x ∷ rest =
    drop-cons gs i x lt ∙ ap (λ (y : ℕ × GroupFields). y ∷ rest) (sym is) in
    let named = subst (λ (es : List (ℕ × GroupFields)). AreNamed gs es) first
    c.loop-place.invariant.left in
    let next : suc i ≡ i + 1 = omega arith in
    record {
      left = subst (λ (n : ℕ). AreNamed gs (drop n gs)) next named.1;
      part =
          λ fronts nodes. let was : IsPartIndex gs (x ∷ rest) (child_key seed fronts)
          c.loop-place.children =
          subst (λ (es : List (ℕ × GroupFields)). IsPartIndex gs es (child_key seed fronts)
          c.loop-place.children) first (c.loop-place.invariant.part fronts nodes) in
          subst (λ (n : ℕ). IsPartIndex gs (drop n gs) (child_key seed fronts)
          c.match-group.children) next
          (elim c.match-group.branch [
            | in-Some+in_ok-insert w ↦
                let parent = w.in-Some.parent in
                let up : x.1.parent ≡ Some parent =
                sym (ap (λ (g : GroupFields). g.parent) c.group.view_is) ∙ w.in-Some.is in
                let name = w.as_str-name.ensures.value
                ∙ ap (λ (g : GroupFields). g.name) c.group.view_is in
                let own = node_read (IsNodeOf gs fronts) gs c.args.nodes.now.items parent
                w.unwrap-above.result
                (stands_at gs parent w.unwrap-above.result
                (sym w.place_of.ensures.place ∙ w.unwrap-above.ensures)) nodes in
                let is_key : w.number.result ≡ child_key seed fronts parent x.1.name =
                w.number.ensures ∙ ap (number seed) (w.path_below-path.ensures
                ∙ ap (λ (h : PathHash). with_bytes seed h w.as_str-name.result.now) own.front)
                ∙ ap (child_key seed fronts parent) name in
                let added = subst
                (λ (n : List ℕ). IsAdded c.loop-place.children w.insert.new.self w.number.result parent
                n x.0) name w.in_ok-insert.ensures.added in
                subst (IsPartIndex gs rest (child_key seed fronts)) (sym w.children-is)
                (part_step gs (child_key seed fronts) x rest parent c.loop-place.children
                w.insert.new.self up (named.0 parent up) was
                (subst (λ (k : ℕ). IsAdded c.loop-place.children w.insert.new.self k parent x.1.name
                x.0) is_key added))
            | in_default w ↦
                let top : x.1.parent ≡ None =
                sym (ap (λ (g : GroupFields). g.parent) c.group.view_is) ∙ w.in_default.is in
                subst (IsPartIndex gs rest (child_key seed fronts)) (sym w.children-is)
                (part_skip gs (child_key seed fronts) x rest c.loop-place.children top was)
          ]);
    }

pub returns : goal.returns
returns c =
    let gs = c.args.groups.now.entries in
    let past : length gs ≤ c.loop-place.place = search rules in
    record {
      index =
          λ fronts nodes. part_end gs (child_key c.args.seed fronts) c.loop-place.children
          (subst (λ (es : List (ℕ × GroupFields)). IsPartIndex gs es (child_key c.args.seed fronts)
          c.loop-place.children)
          (drop_all c.loop-place.place gs past) (c.loop-place.invariant.part fronts nodes));
    }
