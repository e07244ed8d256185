-- The goals of `give` that are answered by hand.
use Rattle.std.proofs.Common.{◌≡◌, ◌<◌, ℕ, false, List, length, get_or, ap, sym, ◌∙◌, arith}
use Rattle.std.specs.Prelude.{map, slice_index}
use Rattle.std.proofs.lemmas.Bool.{both_ways}
use Rattle.std.proofs.lemmas.List.{get_or-set_same, get_or-set_other, length-set}
use Rattle.bw_model.specs.declared.row.Row.{Row}
use Rattle.bw_model.specs.Groups.{is_child, children_of}
use Rattle.bw_model.proofs.CallerLemmas.{child_at, is_child_from_parent, get_or_within}
use Rattle.bw_plan.proofs.Shares.{children_within, children_apart, map_is}
use Rattle.bw_plan.proofs.share.give.Goals as goal

apart : (rows : List Row) (g : ℕ) (children : List ℕ) → children ≡ children_of rows g →
    (j k : ℕ) → j < k → k < length children → get_or children j 0 ≡ get_or children k 0 → ⊥
apart rows g children e = rw e (children_apart rows g)

not_listed : (rows : List Row) (g i : ℕ) (children : List ℕ) → children ≡ children_of rows g
    → ◌≡◌ (is_child rows g i) false →
    (k : ℕ) → k < length children → get_or children k 0 ≡ i → ⊥
not_listed rows g i children e no' = rw e (λ k below same.
    both_ways (is_child rows g i) no'
    (is_child_from_parent rows g i (rw same at (child_at rows g k below).parent)))

pub index_mut-requires : goal.index_mut-requires
index_mut-requires c =
    let inside = children_within c.args.instance.now.rows c.args.g c.children.result.now
    c.children.ensures 0 (omega (arith, c.in-len1.len_at_least)) in
    omega (arith, inside, c.requires.amount_each)

pub write_parts-requires-clause-within : goal.write_parts-requires-clause-within
write_parts-requires-clause-within c =
    rw c.requires.amount_each
    (children_within c.args.instance.now.rows c.args.g c.children.result.now c.children.ensures)

pub write_parts-requires-clause-apart : goal.write_parts-requires-clause-apart
write_parts-requires-clause-apart c =
    apart c.args.instance.now.rows c.args.g c.children.result.now c.children.ensures

pub returns-in-len1 : goal.returns-in-len1
returns-in-len1 c =
    let rows = c.args.instance.now.rows in
    let before = c.args.amounts.now.items in
    let here : c.args.g < length before = omega (arith, c.requires.row, c.requires.amount_each) in
    let read : c.index-amount.result.now ≡ get_or before c.args.g 0 =
    c.index-amount.ensures ∙ get_or_within before c.args.g c.index-amount.result.now here in
    let first : 0 < length c.children.result.now = omega (arith, c.in-len1.len_at_least) in
    let inside : get_or c.children.result.now 0 0 < length before =
    let at = children_within rows c.args.g c.children.result.now c.children.ensures 0 first in
    omega (arith, at, c.requires.amount_each) in
    record {
      one_each = length-set before (get_or c.children.result.now 0 0) c.index-amount.result.now;
      nothing = λ e. absurd (c.if-amount-eq0.false (read ∙ e));
      only = λ _ child list.
          let same : get_or c.children.result.now 0 0 ≡ child =
          ap (λ (xs : List ℕ). get_or xs 0 0) (c.children.ensures ∙ list) in
          rw (← same) (get_or-set_same before (get_or c.children.result.now 0 0)
          c.index-amount.result.now 0 inside ∙ read);
      among = λ _ two. absurd (let e = ap (length {A = ℕ}) c.children.ensures in
          omega (arith, e, two, c.in-len1.len_below));
      others = λ i no'. get_or-set_other before (get_or c.children.result.now 0 0) i
          c.index-amount.result.now 0
          (λ same. not_listed rows c.args.g i c.children.result.now c.children.ensures no' 0 first
          (sym same));
    }

pub returns-in_default : goal.returns-in_default
returns-in_default c =
    let rows = c.args.instance.now.rows in
    let before = c.args.amounts.now.items in
    let here : c.args.g < length before = omega (arith, c.requires.row, c.requires.amount_each) in
    let read : c.index-amount.result.now ≡ get_or before c.args.g 0 =
    c.index-amount.ensures ∙ get_or_within before c.args.g c.index-amount.result.now here in
    let long : length c.children.result.now ≡ length (children_of rows c.args.g) =
    ap (length {A = ℕ}) c.children.ensures in
    record {
      one_each = c.write_parts.ensures.len;
      nothing = λ e. absurd (c.if-amount-eq0.false (read ∙ e));
      only = λ _ child list. absurd
          (let one : length (children_of rows c.args.g) ≡ 1 =
          ap (length {A = ℕ}) list in omega (arith, one, long, c.in_default.len_at_least));
      among = λ has two.
          ap (map (slice_index c.write_parts.new.amounts.items)) (sym c.children.ensures)
          ∙ map_is (slice_index c.write_parts.new.amounts.items) c.children.result.now
          c.args.parts.now
          (c.requires.part_each has two ∙ sym long) c.write_parts.ensures.written;
      others = λ i no'. c.write_parts.ensures.others i
          (not_listed rows c.args.g i c.children.result.now c.children.ensures no');
    }
