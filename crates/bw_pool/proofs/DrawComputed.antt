-- What the code of a draw computes, in the pool's own terms.
use Rattle.std.proofs.Common.{◌≡◌, ◌≢◌, ℕ, ◌+◌, ◌-◌, ◌<◌, ◌≤◌, min, List, length, Bool, true, cond}
use Rattle.std.proofs.Common.{None, Some, get_or, set, sym, ap, ◌∙◌, subst, arith, eq-eqb}
use Rattle.std.proofs.Common.{ne_eqb}
use Rattle.std.specs.List.{AllByRecursion}
use Rattle.bw_model.specs.declared.limits.TheConstants.{MAX_PER_PROCESSOR}
use Rattle.bw_model.specs.Groups.{path_up, is_leaf}
use Rattle.bw_pool.specs.declared.calls.PoolCall.TheVariants.{Draw}
use Rattle.bw_pool.specs.Pool.{PoolState, IsSound, least, got_of, drew, held_place, refusal}
use Rattle.bw_pool.specs.Pool.{left_at, raised, first_with, short_of}
use Rattle.bw_pool.specs.declared.calls.Short.{Short}
use Rattle.bw_pool.proofs.Trees.{least_le}
use Rattle.bw_pool.proofs.PoolSound.{draw_passed, held_le_processor}
use Rattle.bw_model.proofs.CallerLemmas.{get_or_within}

least_same : (way way' d d' ce ce' : List ℕ) (b b' : ℕ) → way ≡ way' → d ≡ d' → ce ≡ ce' → b ≡ b'
    → least (λ g. get_or ce g 0 - get_or d g 0) way b
    ≡ least (λ g. get_or ce' g 0 - get_or d' g 0) way' b'
least_same way way' d d' ce ce' b b' p q r e =
    ap (λ x. least (λ g. get_or ce g 0 - get_or d g 0) x b) p
    ∙ (ap (λ x. least (λ g. get_or ce g 0 - get_or x g 0) way' b) q
    ∙ (ap (λ x. least (λ g. get_or x g 0 - get_or d' g 0) way' b) r
    ∙ ap (λ x. least (λ g. get_or ce' g 0 - get_or d' g 0) way' x) e))

pub got_from : (s : PoolState) (seat leaf ask : ℕ) (way d ce : List ℕ) (i b r : ℕ) → IsSound s
    → refusal s seat (Draw leaf ask) ≡ None
    → way ≡ path_up s.rows leaf → d ≡ s.drawn → ce ≡ s.ceiling → i ≡ get_or s.by_processor seat i
    → b ≡ min ask (s.per_processor - i)
    → r ≡ least (λ g. get_or ce g 0 - get_or d g 0) way b → r ≡ got_of s seat leaf ask
got_from s seat leaf ask way d ce i b r ok pass ep ed ec ei eb er =
    let lt = (draw_passed s seat leaf ask pass).0 in
    let own : i ≡ get_or s.by_processor seat 0 =
    ei ∙ get_or_within s.by_processor seat i (omega (arith, ok.by_processor)) in
    let bound : b ≡ min ask (s.per_processor - get_or s.by_processor seat 0) = omega arith in
    er ∙ least_same way (path_up s.rows leaf) d s.drawn ce s.ceiling b
    (min ask (s.per_processor - get_or s.by_processor seat 0)) ep ed ec bound

pub got_small : (s : PoolState) (seat leaf ask : ℕ)
    → got_of s seat leaf ask ≤ s.per_processor - get_or s.by_processor seat 0
got_small s seat leaf ask = let m = least_le (left_at s) (path_up s.rows leaf)
    (min ask (s.per_processor - get_or s.by_processor seat 0)) in omega arith

-- a holding is no more than what its processor has
pub held_small : (s : PoolState) (seat leaf : ℕ) → IsSound s → seat < s.processors
    → leaf < length s.rows → is_leaf s.rows leaf ≡ true →
    get_or s.held (held_place s seat leaf) 0 ≤ MAX_PER_PROCESSOR
held_small s seat leaf ok lt ltl is =
    omega (arith, held_le_processor s seat leaf 0 ok lt ltl is, ok.cap seat, ok.few_slices)

pub room_from : (way way' d d' ce ce' : List ℕ) (n : ℕ) → way ≡ way' → d ≡ d' → ce ≡ ce'
    → AllByRecursion (λ g. n ≤ get_or ce g 0 - get_or d g 0) way
    → AllByRecursion (λ g. n ≤ get_or ce' g 0 - get_or d' g 0) way'
room_from way way' d d' ce ce' n p q r all =
    subst (λ x. AllByRecursion (λ g. n ≤ get_or x g 0 - get_or d' g 0) way') r
    (subst (λ x. AllByRecursion (λ g. n ≤ get_or ce g 0 - get_or x g 0) way') q
    (subst (λ x. AllByRecursion (λ g. n ≤ get_or ce g 0 - get_or d g 0) x) p all))

pub drew_from : (s : PoolState) (seat leaf ask : ℕ) (way d d' : List ℕ) (n by held place : ℕ)
    → n ≡ got_of s seat leaf ask → way ≡ path_up s.rows leaf → d ≡ s.drawn → d' ≡ raised way n d
    → by ≡ get_or s.by_processor seat 0
    → place ≡ held_place s seat leaf → held ≡ get_or s.held (held_place s seat leaf) 0
    → record s {
      drawn = d';
      by_processor = set s.by_processor seat (by + n);
      held = set s.held place (held + n);
    } ≡ drew s seat leaf (got_of s seat leaf ask)
drew_from s seat leaf ask way d d' n by held place en ep ed er eb epl eh =
    let drawn' : d' ≡ raised (path_up s.rows leaf) (got_of s seat leaf ask) s.drawn =
    er ∙ (ap (λ x. raised x n d) ep
    ∙ (ap (λ x. raised (path_up s.rows leaf) x d) en
    ∙ ap (λ x. raised (path_up s.rows leaf) (got_of s seat leaf ask) x) ed)) in
    let by' : set s.by_processor seat (by + n)
    ≡ set s.by_processor seat (get_or s.by_processor seat 0 + got_of s seat leaf ask) =
    ap (λ x. set s.by_processor seat (x + n)) eb
    ∙ ap (λ x. set s.by_processor seat (get_or s.by_processor seat 0 + x)) en in
    let held' : set s.held place (held + n) ≡ set s.held (held_place s seat leaf)
    (get_or s.held (held_place s seat leaf) 0 + got_of s seat leaf ask) =
    ap (λ x. set s.held x (held + n)) epl
    ∙ (ap (λ x. set s.held (held_place s seat leaf) (x + n)) eh
    ∙ ap (λ x. set s.held (held_place s seat leaf) (get_or s.held (held_place s seat leaf) 0 + x))
    en) in
    ap (λ x. record s {
      drawn = x;
      by_processor = set s.by_processor seat (by + n);
      held = set s.held place (held + n);
    }) drawn'
    ∙ (ap (λ x. record s {
      drawn = raised (path_up s.rows leaf) (got_of s seat leaf ask) s.drawn;
      by_processor = x;
      held = set s.held place (held + n);
    }) by'
    ∙ ap (λ x. record s {
      drawn = raised (path_up s.rows leaf) (got_of s seat leaf ask) s.drawn;
      by_processor =
          set s.by_processor seat (get_or s.by_processor seat 0 + got_of s seat leaf ask);
      held = x;
    }) held')

pub short_none : (s : PoolState) (leaf ask got : ℕ) → got ≡ ask → None ≡ short_of s leaf ask got
short_none s leaf ask got e =
    sym (ap (λ (b : Bool). cond b None (Some (first_with (left_at s) got (path_up s.rows leaf))))
    (eq-eqb got ask e))

first_same : (way way' d d' ce ce' : List ℕ) (got : ℕ) → way ≡ way' → d ≡ d' → ce ≡ ce'
    → first_with (λ g. get_or ce g 0 - get_or d g 0) got way
    ≡ first_with (λ g. get_or ce' g 0 - get_or d' g 0) got way'
first_same way way' d d' ce ce' got p q r =
    ap (λ x. first_with (λ g. get_or ce g 0 - get_or d g 0) got x) p
    ∙ (ap (λ x. first_with (λ g. get_or ce g 0 - get_or x g 0) got way') q
    ∙ ap (λ x. first_with (λ g. get_or x g 0 - get_or d' g 0) got way') r)

pub short_some : (s : PoolState) (leaf ask got : ℕ) (r : Short) (way d ce : List ℕ) → got ≢ ask
    → way ≡ path_up s.rows leaf → d ≡ s.drawn → ce ≡ s.ceiling
    → r ≡ first_with (λ g. get_or ce g 0 - get_or d g 0) got way → Some r ≡ short_of s leaf ask got
short_some s leaf ask got r way d ce ne ep ed ec e =
    ap Some (e ∙ first_same way (path_up s.rows leaf) d s.drawn ce s.ceiling got ep ed ec)
    ∙ sym (ap (λ (b : Bool). cond b None (Some (first_with (left_at s) got (path_up s.rows leaf))))
    (ne_eqb got ask ne))
