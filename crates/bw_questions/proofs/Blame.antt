-- The group to blame: there is one for each group, and it gets its limit.
use Rattle.std.proofs.Common.{◌≡◌, ℕ, ◌<◌, ◌≤◌, List, Option, true, false, None, Some}
use Rattle.std.proofs.Common.{length, get_or, refl, ap, sym, ◌∙◌, arith, inl, inr}
use Rattle.std.specs.Prelude.{map, sum, slice_index}
use Rattle.std.proofs.lemmas.Bool.{cases_eq, cases_lt}
use Rattle.std.proofs.lemmas.List.Sums.{sum-map}
use Rattle.bw_model.specs.Groups.{Groups, IsInstance, parent_of, children_of, is_leaf, is_under}
use Rattle.bw_model.specs.Groups.{limit_of, sum_of_children}
use Rattle.bw_model.specs.Demand.{want_of}
use Rattle.bw_model.specs.Plan.{IsPlan}
use Rattle.bw_model.specs.Split.{IsBestSplit}
use Rattle.bw_model.proofs.CallerLemmas.{capped, capped_le_want, AreMaxTotals-capped, parent_lt}
use Rattle.bw_model.proofs.CallerLemmas.{parent_not_leaf, listed_child, get_or-map, is_under-self}
use Rattle.bw_demand.specs.Demands.{Demands, IsGathered}
use Rattle.bw_plan.specs.Shared.{IsPlanning}
use Rattle.bw_plan.proofs.CallerLemmas.{plan-IsPlanning, at_most}
use Rattle.bw_questions.proofs.changes.Lists.{find_greater}
use Rattle.bw_questions.specs.Reasons.{IsBlamed}
use Rattle.bw_questions.specs.Laws.{BlamedHasItsLimit}
use Rattle.bw_questions.proofs.Paths.{above_cases, above_le, above_parent, one_line, child_above}

-- A want that is cut is cut at the limit.
cut_at : (limit : Option ℕ) (want most : ℕ) → most ≡ capped limit want → most < want
    → limit ≡ Some most
cut_at None want most e less = absurd (omega (arith, e, less))
cut_at (Some l) want most e less =
    let same : l ≡ most = omega (arith, e, less) in ap Some same

-- Of parts within their maxima, one of which could be more, the sum could be more.
less_in_all : (parts most : List ℕ) → length parts ≡ length most
    → ((k : ℕ) → k < length parts → get_or parts k 0 ≤ get_or most k 0) → (k : ℕ)
    → get_or parts k 0 < get_or most k 0 → sum parts < sum most
less_in_all parts most long within k room = elim (cases_lt (sum parts) (sum most)) [
  | inl less ↦ less
  | inr rest ↦ elim (find_greater most parts (sym long) rest) [
    | inl found ↦ absurd
        (let fits : get_or parts found.0 0 ≤ get_or most found.0 0 =
        within found.0 (omega (arith, found.1, long)) in
        omega (arith, fits, found.2))
    | inr same ↦ absurd
        (let e : get_or most k 0 ≡ get_or parts k 0 = ap (λ xs. get_or xs k 0) same in
        omega (arith, e, room))
  ]
]

module _ (groups : Groups) (demands : Demands) (amounts : List ℕ) (valid : IsInstance groups)
    (gathered : IsGathered groups demands) (is_plan : IsPlan groups amounts) where
  rule : (g : ℕ) → g < length groups.rows
      → get_or demands.most g 0 ≡ capped (limit_of groups g) (want_of groups demands.most g)
  rule = AreMaxTotals-capped groups valid.tree demands.most gathered.mosts

  planning : IsPlanning groups demands.most (λ _. true) amounts
  planning = plan-IsPlanning groups valid demands.most rule amounts is_plan

  pub within_most : (g : ℕ) → g < length groups.rows → get_or amounts g 0 ≤ get_or demands.most g 0
  within_most g below =
      at_most groups valid demands.most rule (λ _. true) g amounts planning (λ p e. refl) below

  pub within_want : (g : ℕ) → g < length groups.rows → get_or amounts g 0 ≤ get_or demands.want g 0
  within_want g below =
      let cut : capped (limit_of groups g) (want_of groups demands.most g)
      ≤ want_of groups demands.most g =
      capped_le_want (limit_of groups g) (want_of groups demands.most g) in
      omega (arith, within_most g below, rule g below, cut, gathered.wants g below)

  -- A group that gets all that it can be given is itself to blame.
  pub blamed_here : (g : ℕ) → get_or amounts g 0 ≡ get_or demands.most g 0
      → IsBlamed groups demands.most amounts g g
  blamed_here g full = record {
    above = is_under-self groups.rows valid.tree g;
    full = full;
    between = λ h under over other. absurd
        (other
        (let up : g ≤ h = above_le groups.rows valid.tree g h under in
        let down : h ≤ g = above_le groups.rows valid.tree h g over in
        omega (arith, up, down)));
  }

  -- For another group the one to blame is that of its parent.
  pub blamed_up : (g p blamed : ℕ) → parent_of groups.rows g ≡ Some p
      → get_or amounts g 0 < get_or demands.most g 0
      → IsBlamed groups demands.most amounts p blamed
      → IsBlamed groups demands.most amounts g blamed
  blamed_up g p blamed e lacks up = record {
    above = above_parent groups.rows valid.tree blamed g p e up.above;
    full = up.full;
    between = λ h under over other. elim (above_cases groups.rows valid.tree h g p e over) [
      | inl here ↦ rw (sym here) lacks
      | inr high ↦ up.between h under high other
    ];
  }

  pub root_full : get_or amounts 0 0 ≡ get_or demands.most 0 0
  root_full = planning.top

  -- One group alone is to blame.
  pub one_blamed : (g b d : ℕ) → IsBlamed groups demands.most amounts g b
      → IsBlamed groups demands.most amounts g d → b ≡ d
  one_blamed g b d one two = elim (cases_eq b d) [
    | inl same ↦ same
    | inr apart ↦ elim (one_line groups.rows valid.tree b d g one.above two.above) [
      | inl under ↦ absurd
          (let lacks : get_or amounts d 0 < get_or demands.most d 0 =
          one.between d under two.above (λ e. apart (sym e)) in
          omega (arith, lacks, two.full))
      | inr under ↦ absurd
          (let lacks : get_or amounts b 0 < get_or demands.most b 0 =
          two.between b under one.above apart in
          omega (arith, lacks, one.full))
    ]
  ]

  -- A group of which a child lacks something wants more than it gets.
  wants_more : (b c : ℕ) → b < length groups.rows → c < length groups.rows
      → parent_of groups.rows c ≡ Some b → get_or amounts c 0 < get_or demands.most c 0
      → get_or amounts b 0 < get_or demands.want b 0
  wants_more b c b_in c_in e lacks =
      let inner : is_leaf groups.rows b ≡ false = parent_not_leaf groups.rows b c c_in e in
      let split : IsBestSplit (get_or amounts b 0)
      (map (λ d. (get_or groups.rows d _).weight) (children_of groups.rows b))
      (map (slice_index demands.most) (children_of groups.rows b))
      (map (slice_index amounts) (children_of groups.rows b)) =
      planning.splits b b_in refl inner in
      let place : (k : ℕ) × (k < length (children_of groups.rows b))
      × (get_or (children_of groups.rows b) k 0 ≡ c) = listed_child groups.rows b c c_in e in
      let room : get_or (map (slice_index amounts) (children_of groups.rows b)) place.0 0
      < get_or (map (slice_index demands.most) (children_of groups.rows b)) place.0 0 =
      rw (
        get_or-map (slice_index amounts) (children_of groups.rows b) place.0 place.1,
        get_or-map (slice_index demands.most) (children_of groups.rows b) place.0 place.1,
        place.2,
      ) lacks in
      let less : sum (map (slice_index amounts) (children_of groups.rows b))
      < sum (map (slice_index demands.most) (children_of groups.rows b)) =
      less_in_all (map (slice_index amounts) (children_of groups.rows b))
      (map (slice_index demands.most) (children_of groups.rows b)) split.split.lengths
      split.split.within place.0 room in
      let want : want_of groups demands.most b ≡ sum_of_children groups.rows demands.most b =
      rw inner refl in
      omega (
        arith,
        less,
        split.split.whole,
        sum-map (slice_index demands.most) (children_of groups.rows b),
        want,
        gathered.wants b b_in,
      )

  pub at_its_limit : (g blamed : ℕ) → g < length groups.rows
      → get_or amounts g 0 < get_or demands.want g 0
      → IsBlamed groups demands.most amounts g blamed
      → (limit_of groups blamed ≡ Some (get_or amounts blamed 0))
      × (get_or amounts blamed 0 < get_or demands.want blamed 0)
  at_its_limit g blamed below lacks is_blamed =
      let b_in : blamed < length groups.rows =
      (let up : blamed ≤ g = above_le groups.rows valid.tree blamed g is_blamed.above in
      omega (arith, up, below)) in
      let more : get_or amounts blamed 0 < get_or demands.want blamed 0 =
      elim (cases_eq g blamed) [
        | inl here ↦ rw (sym here) lacks
        | inr other ↦
            let child : (c : ℕ) × (c < length groups.rows)
            × (parent_of groups.rows c ≡ Some blamed) × (is_under groups.rows c g ≡ true) =
            child_above groups.rows valid.tree blamed g below is_blamed.above other in
            let less : blamed < child.0 =
            parent_lt groups.rows valid.tree child.0 blamed child.2 in
            wants_more blamed child.0 b_in child.1 child.2
            (is_blamed.between child.0
            (above_parent groups.rows valid.tree blamed child.0 blamed child.2
            (is_under-self groups.rows valid.tree blamed))
            child.3 (λ same. omega (arith, same, less)))
      ] in (
        cut_at (limit_of groups blamed) (want_of groups demands.most blamed)
            (get_or amounts blamed 0) (is_blamed.full ∙ rule blamed b_in)
            (omega (arith, more, gathered.wants blamed b_in)),
        more,
      )

pub limit_is_blamed : BlamedHasItsLimit
limit_is_blamed groups demands amounts valid gathered is_plan g blamed below lacks is_blamed =
    at_its_limit groups demands amounts valid gathered is_plan g blamed below lacks is_blamed
