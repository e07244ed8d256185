-- Each question of a script has one answer.
use Rattle.std.proofs.Common.{◌≡◌, ◌<◌, ℕ, Bool, true, false, cond, List, [], ◌∷◌, ◌++◌, Option, None}
use Rattle.std.proofs.Common.{Some, length, get_or, refl, sym, ap, subst, ◌∙◌, arith, inl, inr}
use Rattle.std.specs.Prelude.{map, codes}
use Rattle.std.specs.List.{range_with_len}
use Rattle.std.specs.Map.{keys_of}
use Rattle.std.specs.Option.{option_map}
use Rattle.std.proofs.lemmas.List.{ext_get_or, length-map}
use Rattle.std.proofs.Math.ListN.{get_or-map}
use Rattle.bw_model.specs.declared.mark.Mark.{Mark}
use Rattle.bw_model.specs.declared.row.Row.{Row}
use Rattle.bw_model.specs.Certificate.{level_at}
use Rattle.bw_model.specs.Demand.{AreMaxTotals, want_of, is_tight, limiting_groups}
use Rattle.bw_model.specs.Groups.{Groups, AreTreeRows, is_leaf, is_child, no_row}
use Rattle.bw_model.specs.Marks.{MarkValue, price_of, last_mark, IsBelow}
use Rattle.bw_model.specs.Split.{IsGreatestLast}
use Rattle.bw_model.proofs.CallerLemmas.{IsMost-unique, IsPlan-unique, IsBelow-cases, inside}
use Rattle.bw_model.proofs.CallerLemmas.{from_the_last, parent_lt, parent_from_is_child}
use Rattle.bw_model.proofs.CallerLemmas.{sum_below-ap, sum_of_children-below}
use Rattle.bw_demand.specs.Demands.{Demands, IsGathered}
use Rattle.bw_pool.specs.Drained.{IsDrawnOut}
use Rattle.bw_tree.specs.Groups.{TreeState, IsTree}
use Rattle.bw_tree.specs.Snapshot.{instance_of, base_of}
use Rattle.bw_tree.specs.Tree.{root_group}
use Rattle.bw_tree.proofs.CallerLemmas.{found_path, rows_tree}
use Rattle.bw_cert.specs.Levels.{IsLevelAt}
use Rattle.bw_cert.specs.Spelling.{Value, spelling}
use Rattle.bw_hierarchy.specs.State.{HierarchyState, booked_period}
use Rattle.bw_commands.specs.CertifiedPlan.{IsCertifiedPlan}
use Rattle.bw_commands.specs.GroupLines.{ArePathsOf, group_lines}
use Rattle.bw_commands.specs.Period.{IsPeriod}
use Rattle.bw_commands.specs.Planned.{IsPlanText, amount_line}
use Rattle.bw_commands.specs.Reported.{IsReport, counter_line}
use Rattle.bw_commands.specs.Total.{IsTotal, total_text}
use Rattle.bw_stat.specs.Report.{report_head}
use Rattle.bw_streams.specs.Answers.{number_line}

-- ---- lists

-- the rows of a tree are of one tree
pub tree_rows : (h : HierarchyState) → IsTree h.tree
    → AreTreeRows (instance_of h.tree h.shape).rows
tree_rows h ok = rows_tree h.tree ok h.shape (0, root_group) no_row

paths_same : (t : TreeState) → IsTree t → (gs : List ℕ) (ps qs : List (List ℕ))
    → ArePathsOf t gs ps → ArePathsOf t gs qs → ps ≡ qs
paths_same t ok [] [] [] a b = refl
paths_same t ok [] [] (q ∷ qs) a b = absurd b
paths_same t ok [] (p ∷ ps) qs a b = absurd a
paths_same t ok (g ∷ gs) [] qs a b = absurd a
paths_same t ok (g ∷ gs) (p ∷ ps) [] a b = absurd b
paths_same t ok (g ∷ gs) (p ∷ ps) (q ∷ qs) a b =
    let one : p ≡ q = inside (sym (found_path t ok p _ a.0) ∙ found_path t ok q _ b.0) in
    ap (λ x. x ∷ ps) one ∙ ap (λ xs. q ∷ xs) (paths_same t ok gs ps qs a.1 b.1)

mosts_same : (groups : Groups) (one two : List ℕ) → AreMaxTotals groups one
    → AreMaxTotals groups two → one ≡ two
mosts_same groups one two a b = ext_get_or 0 one two (a.one_each ∙ sym b.one_each) (λ g lt.
    let below : g < length groups.rows = omega (arith, lt, a.one_each) in
    IsMost-unique groups g (get_or one g 0) (get_or two g 0) (a.each g below) (b.each g below))

wants_same : (groups : Groups) (one two : Demands) → IsGathered groups one → IsGathered groups two
    → one.want ≡ two.want
wants_same groups one two a b =
    let mosts = mosts_same groups one.most two.most a.mosts b.mosts in
    ext_get_or 0 one.want two.want (a.wants_each ∙ sym b.wants_each) (λ g lt.
    let below : g < length groups.rows = omega (arith, lt, a.wants_each) in
    a.wants g below ∙ ap (λ m. want_of groups m g) mosts ∙ sym (b.wants g below))

-- ---- total, plan and report

pub total_same : (h : HierarchyState) (one two : List ℕ) → IsTree h.tree → IsTotal h one
    → IsTotal h two → one ≡ two
total_same h one two ok a b =
    let groups : Groups = instance_of h.tree h.shape in
    let mosts = mosts_same groups a.most b.most a.mosts b.mosts in
    let named : ArePathsOf h.tree (limiting_groups groups a.most) b.paths =
    subst (λ m. ArePathsOf h.tree (limiting_groups groups m) b.paths) (sym mosts) b.named in
    a.is ∙ ap (λ m. total_text groups m a.paths) mosts
    ∙ ap (total_text groups b.most)
    (paths_same h.tree ok (limiting_groups groups a.most) a.paths b.paths a.named named)
    ∙ sym b.is

pub plan_same : (h : HierarchyState) (one two : List ℕ) → IsTree h.tree → IsPlanText h one
    → IsPlanText h two → one ≡ two
plan_same h one two ok a b =
    let groups : Groups = instance_of h.tree h.shape in
    let gs : List ℕ = range_with_len 0 (length groups.rows) in
    a.is
    ∙ ap (λ amounts. group_lines (amount_line amounts) gs a.paths)
    (IsPlan-unique groups a.amounts b.amounts (tree_rows h ok) a.plan b.plan)
    ∙ ap (group_lines (amount_line b.amounts) gs)
    (paths_same h.tree ok gs a.paths b.paths a.named b.named)
    ∙ sym b.is

pub report_same : (h : HierarchyState) (one two : List ℕ) → IsTree h.tree → IsReport h one
    → IsReport h two → one ≡ two
report_same h one two ok a b =
    let gs : List ℕ = range_with_len 0 (length (keys_of h.tree.groups)) in
    a.is
    ∙ ap (λ paths. report_head ++ group_lines (counter_line h.books (keys_of h.tree.groups)) gs
    paths) (paths_same h.tree ok gs a.paths b.paths a.named b.named)
    ∙ sym b.is

-- ---- certified text

greatest_same : (weights parts : List ℕ) (a b : MarkValue) → IsGreatestLast weights parts a
    → IsGreatestLast weights parts b → a ≡ b
greatest_same weights parts a b p q = elim (IsBelow-cases a b) [
  | inl below ↦ absurd (p.others q.of_one.0 q.of_one.1 q.of_one.2
      (subst (λ (m : MarkValue). IsBelow a m) q.of_one.3 below))
  | inr (inl above) ↦ absurd (q.others p.of_one.0 p.of_one.1 p.of_one.2
      (subst (λ (m : MarkValue). IsBelow b m) p.of_one.3 above))
  | inr (inr tie) ↦
      let one : p.of_one.0 ≡ q.of_one.0 =
      sym (ap (λ (m : MarkValue). m.place) p.of_one.3) ∙ tie.1
      ∙ ap (λ (m : MarkValue). m.place) q.of_one.3 in
      p.of_one.3 ∙ ap (λ k. last_mark (get_or parts k 0) (get_or weights k 0) k) one
      ∙ sym q.of_one.3
]

level_same : (groups : Groups) (amounts : List ℕ) (g : ℕ) (x y : Option Mark)
    → IsLevelAt groups amounts g x → IsLevelAt groups amounts g y
    → option_map price_of x ≡ option_map price_of y
level_same groups amounts g None None a b = refl
level_same groups amounts g None (Some n) a b = absurd (omega (arith, a b.0, b.1))
level_same groups amounts g (Some m) None a b = absurd (omega (arith, b a.0, a.1))
level_same groups amounts g (Some m) (Some n) a b =
    ap Some (greatest_same _ _ (price_of m) (price_of n) a.2 b.2)

-- the value by its parts
abbrev value_by : Groups → List ℕ → List Bool → List (Option MarkValue) → Value
value_by groups amounts flags levels = record {
  shape = groups.shape;
  groups = record { rows = groups.rows; amounts = amounts; flags = flags; levels = levels };
}

abbrev prices : List (Option Mark) → List (Option MarkValue)
prices levels = map (option_map price_of) levels

module _ (h : HierarchyState) (one two : List ℕ) (ok : IsTree h.tree) (a : IsCertifiedPlan h one)
    (b : IsCertifiedPlan h two) where
  abbrev groups : Groups
  groups = instance_of h.tree h.shape

  amounts_same : a.amounts ≡ b.amounts
  amounts_same = IsPlan-unique groups a.amounts b.amounts (tree_rows h ok) a.plan b.plan

  flags_same : a.certificate.tight ≡ b.certificate.tight
  flags_same =
      let mosts = mosts_same groups a.flags.most b.flags.most a.flags.mosts b.flags.mosts in
      ext_get_or false a.certificate.tight b.certificate.tight
      (a.accepted.certified.flags_each ∙ sym b.accepted.certified.flags_each) (λ g lt.
      let below : g < length groups.rows = omega (arith, lt, a.accepted.certified.flags_each) in
      a.flags.each g below ∙ ap (λ m. is_tight groups m g) mosts ∙ sym (b.flags.each g below))

  levels_same : prices a.certificate.levels ≡ prices b.certificate.levels
  levels_same = ext_get_or None (prices a.certificate.levels) (prices b.certificate.levels)
      (length-map a.certificate.levels (option_map price_of)
      ∙ a.accepted.certified.levels_each ∙ sym b.accepted.certified.levels_each
      ∙ sym (length-map b.certificate.levels (option_map price_of))) (λ g lt.
      let below : g < length groups.rows = omega (
        arith,
        lt,
        length-map a.certificate.levels (option_map price_of),
        a.accepted.certified.levels_each,
      ) in
      get_or-map (option_map price_of) a.certificate.levels g None
      ∙ level_same groups b.amounts g (level_at a.certificate g) (level_at b.certificate g)
      (subst (λ xs. IsLevelAt groups xs g (level_at a.certificate g)) amounts_same
      (a.levels g below)) (b.levels g below)
      ∙ sym (get_or-map (option_map price_of) b.certificate.levels g None))

  pub cert_same : one ≡ two
  cert_same =
      a.is
      ∙ ap (λ x. spelling (value_by groups x a.certificate.tight
      (prices a.certificate.levels))) amounts_same
      ∙ ap (λ x. spelling (value_by groups b.amounts x (prices a.certificate.levels))) flags_same
      ∙ ap (λ x. spelling (value_by groups b.amounts b.certificate.tight x)) levels_same
      ∙ sym b.is

-- ---- period

module _ (rows : List Row) (tree : AreTreeRows rows) (uses : ℕ → Bool) (amounts one two : List ℕ)
    (a : IsDrawnOut uses rows amounts one) (b : IsDrawnOut uses rows amounts two) where
  abbrev IsSameAt : ℕ → Type 0
  IsSameAt g = get_or one g 0 ≡ get_or two g 0

  child_same : (g c : ℕ) → (g < c → IsSameAt c) → (is : Bool) → is_child rows g c ≡ is
      → cond is (get_or one c 0) 0 ≡ cond is (get_or two c 0) 0
  child_same g c later true is = later (parent_lt rows tree c g (parent_from_is_child rows g c is))
  child_same g c later false is = refl

  by_kind : (g : ℕ) → g < length rows → ((c : ℕ) → g < c → c < length rows → IsSameAt c)
      → (leaf : Bool) → is_leaf rows g ≡ leaf → (used : Bool) → uses g ≡ used → IsSameAt g
  by_kind g lt later true leaf true used = a.used g lt leaf used ∙ sym (b.used g lt leaf used)
  by_kind g lt later true leaf false used = a.unused g lt leaf used ∙ sym (b.unused g lt leaf used)
  by_kind g lt later false leaf used is =
      a.inner g lt leaf ∙ sum_of_children-below rows one g
      ∙ sum_below-ap (length rows) (λ c. cond (is_child rows g c) (get_or one c 0) 0)
      (λ c. cond (is_child rows g c) (get_or two c 0) 0)
      (λ c below. child_same g c (λ after. later c after below) (is_child rows g c) refl)
      ∙ sym (sum_of_children-below rows two g) ∙ sym (b.inner g lt leaf)

  drawn_same : one ≡ two
  drawn_same = ext_get_or 0 one two (a.one_each ∙ sym b.one_each) (λ g lt.
      from_the_last (length rows) IsSameAt
      (λ g lt later. by_kind g lt later (is_leaf rows g) refl (uses g) refl)
      g (omega (arith, lt, a.one_each)))

pub period_same : (h : HierarchyState) (uses : ℕ → Bool) (one two : List ℕ)
    (s t : HierarchyState) → IsTree h.tree → IsPeriod h uses one s → IsPeriod h uses two t
    → (one ≡ two) × (s ≡ t)
period_same h uses one two s t ok a b =
    let groups : Groups = instance_of h.tree h.shape in
    let base = base_of h.tree.groups h.shape in
    let amounts = IsPlan-unique groups a.amounts b.amounts (tree_rows h ok) a.plan b.plan in
    let drawn = drawn_same groups.rows (tree_rows h ok) uses b.amounts a.drawn b.drawn
    (subst (λ xs. IsDrawnOut uses groups.rows xs a.drawn) amounts a.drawn_out) b.drawn_out in
    let wants = wants_same groups a.demands b.demands a.gathered b.gathered in (
      a.is ∙ ap (λ xs. number_line (codes "served ") (get_or xs 0 0)) drawn ∙ sym b.is,
      a.state ∙ ap (λ w. booked_period h groups.rows base w a.drawn) wants
          ∙ ap (booked_period h groups.rows base b.demands.want) drawn ∙ sym b.state,
    )
