-- What the code of a give-back computes, in the pool's own terms.
use Rattle.std.proofs.Common.{◌≡◌, ◌≢◌, ℕ, ◌-◌, ◌<◌, ◌≤◌, ◌&&◌, inl, inr, List, length, Bool, true}
use Rattle.std.proofs.Common.{cond, None, Some, get_or, set, ap, ◌∙◌, subst, arith, eqb}
use Rattle.std.proofs.Common.{eq-eqb, ltb}
use Rattle.std.proofs.lemmas.Bool.{lt-ltb, le-ltb, cases_lt}
use Rattle.std.specs.List.{AllByRecursion}
use Rattle.bw_model.specs.Groups.{path_up, is_leaf}
use Rattle.bw_pool.specs.declared.calls.Refusal.TheVariants.{NoGroup, NotLeaf, ZeroAsk}
use Rattle.bw_pool.specs.Pool.{PoolState, lowered, gave_back, held_place, held_by, leaf_refusal}
use Rattle.bw_pool.proofs.PoolSound.{passed, leaf_passed}

not_zero : (s : PoolState) (leaf n : ℕ) → leaf_refusal s leaf n ≡ None → n ≢ 0
not_zero s leaf n e z =
    let a = passed (ltb leaf (length s.rows))
    (cond (is_leaf s.rows leaf) (cond (eqb n 0) (Some ZeroAsk) None) (Some NotLeaf)) NoGroup
    e in
    let b = passed (is_leaf s.rows leaf) (cond (eqb n 0) (Some ZeroAsk) None) NotLeaf a.1 in
    let c = ap (λ (v : Bool). cond v (Some ZeroAsk) None) (eq-eqb n 0 z) in absurd (cc (c, b.1))

held_here : (s : PoolState) (seat leaf : ℕ) → seat < s.processors → leaf < length s.rows
    → held_by s seat leaf ≡ get_or s.held (held_place s seat leaf) 0
held_here s seat leaf lt ltl =
    ap (λ (b : Bool). cond (b && ltb leaf (length s.rows))
    (get_or s.held (held_place s seat leaf) 0) 0) (lt-ltb seat s.processors lt)
    ∙ ap (λ (b : Bool). cond b (get_or s.held (held_place s seat leaf) 0) 0)
    (lt-ltb leaf (length s.rows) ltl)

held_beyond : (s : PoolState) (seat leaf : ℕ) → s.processors ≤ seat → held_by s seat leaf ≡ 0
held_beyond s seat leaf le =
    ap (λ (b : Bool). cond (b && ltb leaf (length s.rows))
    (get_or s.held (held_place s seat leaf) 0) 0) (le-ltb seat s.processors le)

-- a give-back that isn't refused, of no more than is held
pub back_passed : (s : PoolState) (seat leaf n : ℕ) → leaf_refusal s leaf n ≡ None
    → n ≤ held_by s seat leaf
    → (seat < s.processors) × (leaf < length s.rows) × (is_leaf s.rows leaf ≡ true)
    × (n ≤ get_or s.held (held_place s seat leaf) 0)
back_passed s seat leaf n e has =
    let told = leaf_passed s leaf n e in
    let ltl = told.0 in
    elim (cases_lt seat s.processors) [
      | inl lt ↦ (lt, ltl, told.1, omega (arith, held_here s seat leaf lt ltl))
      | inr le ↦ absurd (not_zero s leaf n e (omega (arith, held_beyond s seat leaf le)))
    ]

pub gave_from : (s : PoolState) (seat leaf n : ℕ) (way d d' : List ℕ) (by held place : ℕ)
    → way ≡ path_up s.rows leaf → d ≡ s.drawn → d' ≡ lowered way n d
    → by ≡ get_or s.by_processor seat 0 - n
    → place ≡ held_place s seat leaf → held ≡ get_or s.held (held_place s seat leaf) 0
    → record s {
      drawn = d';
      by_processor = set s.by_processor seat by;
      held = set s.held place (held - n);
    } ≡ gave_back s seat leaf n
gave_from s seat leaf n way d d' by held place ep ed er eb epl eh =
    let drawn' : d' ≡ lowered (path_up s.rows leaf) n s.drawn =
    er ∙ (ap (λ x. lowered x n d) ep ∙ ap (λ x. lowered (path_up s.rows leaf) n x) ed) in
    let by' : set s.by_processor seat by ≡ set s.by_processor seat
    (get_or s.by_processor seat 0 - n) = ap (λ x. set s.by_processor seat x) eb in
    let held' : set s.held place (held - n)
    ≡ set s.held (held_place s seat leaf) (get_or s.held (held_place s seat leaf) 0 - n) =
    ap (λ x. set s.held x (held - n)) epl
    ∙ ap (λ x. set s.held (held_place s seat leaf) (x - n)) eh in
    ap (λ x. record s {
      drawn = x;
      by_processor = set s.by_processor seat by;
      held = set s.held place (held - n);
    }) drawn'
    ∙ (ap (λ x. record s {
      drawn = lowered (path_up s.rows leaf) n s.drawn;
      by_processor = x;
      held = set s.held place (held - n);
    }) by'
    ∙ ap (λ x. record s {
      drawn = lowered (path_up s.rows leaf) n s.drawn;
      by_processor =
          set s.by_processor seat (get_or s.by_processor seat 0 - n);
      held = x;
    }) held')

pub enough_from : (way way' d d' : List ℕ) (n : ℕ) → way ≡ way' → d ≡ d'
    → AllByRecursion (λ g. n ≤ get_or d g 0) way → AllByRecursion (λ g. n ≤ get_or d' g 0) way'
enough_from way way' d d' n p q all =
    subst (λ x. AllByRecursion (λ g. n ≤ get_or x g 0) way') q
    (subst (λ x. AllByRecursion (λ g. n ≤ get_or d g 0) x) p all)
