-- The goal of `served_limit` that is answered by hand.
use Rattle.std.proofs.Common.{◌≡◌, ℕ, ◌<◌, List, Bool, true, false, length, get_or, refl, sym, ◌∙◌}
use Rattle.std.proofs.Common.{arith}
use Rattle.std.proofs.lemmas.List.{get_or_default}
use Rattle.bw_model.specs.declared.row.Row.{Row}
use Rattle.bw_model.specs.Groups.{row_of, is_leaf}
use Rattle.bw_model.proofs.CallerLemmas.{get_or_within}
use Rattle.bw_questions.specs.HeldRule.{is_hungry, leaf_limit}
use Rattle.bw_questions.proofs.held.served.served_limit.Goals as goal

-- The limit of a leaf by its entries in three lists.
held_read : (row other : Row) (hungry : List Bool) (floors planned : List ℕ) (g : ℕ) (d : Bool)
    (f a : ℕ) → row ≡ other → g < length hungry → g < length floors → g < length planned
    → leaf_limit row (get_or hungry g d) (get_or floors g f) (get_or planned g a)
    ≡ leaf_limit other (is_hungry hungry g) (get_or floors g 0) (get_or planned g 0)
held_read row other hungry floors planned g d f a same flag floor amount =
    rw (
      same,
      get_or_default hungry g d false flag,
      get_or_within floors g f floor,
      get_or_within planned g a amount,
    ) refl

pub returns : goal.returns
returns c =
    let rows = c.args.reading.now.rows in
    let hungry = c.args.hungry.now in
    let floors = c.args.floors.now in
    let planned = c.args.planned.now in
    let g = c.args.g in
    let leaf : is_leaf rows g ≡ true = sym c.is_leaf.ensures ∙ c.if-not-is_leaf.false in
    let held : c.leaf_limit-held.result ≡ leaf_limit (row_of rows g) (is_hungry hungry g)
    (get_or floors g 0) (get_or planned g 0) =
    c.leaf_limit-held.ensures
    ∙ held_read c.row-row.result (row_of rows g) hungry floors planned g _ _ _ c.row-row.ensures
    (omega (arith, c.requires.row, c.requires.flags))
    (omega (arith, c.requires.row, c.requires.floors))
    (omega (arith, c.requires.row, c.requires.planned)) in
    record {
      of_leaf = λ is. rw held at c.least_part.ensures;
      of_others = λ is. absurd (let clash : true ≡ false = sym leaf ∙ is in cc);
    }
