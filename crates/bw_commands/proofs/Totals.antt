-- The lines of the limiting groups.
use Rattle.std.proofs.Common.{◌≡◌, ◌∙◌, ◌<◌, ◌+◌, ℕ, zero, suc, List, [], ◌∷◌, ◌++◌, Bool, length}
use Rattle.std.proofs.Common.{refl, sym, ap, arith, append_assoc, append-nil, get_or, cond}
use Rattle.std.proofs.Common.{true, false}
use Rattle.std.specs.Prelude.{filter}
use Rattle.std.specs.List.{range_with_len}
use Rattle.std.specs.Map.{keys_of, values_of}
use Rattle.std.proofs.lemmas.List.{length-map}
use Rattle.bw_model.specs.Host.{Shape}
use Rattle.bw_model.specs.Groups.{Groups}
use Rattle.bw_model.specs.Demand.{limiting_groups}
use Rattle.bw_model.proofs.CallerLemmas.{range_more}
use Rattle.bw_tree.specs.Groups.{TreeState, GroupFields}
use Rattle.bw_tree.specs.Snapshot.{instance_of, row_of}
use Rattle.bw_commands.specs.GroupLines.{IsPathOf, ArePathsOf, group_lines}

-- one row more
pub ArePathsOf-push : (tree : TreeState) (gs : List ℕ) (paths : List (List ℕ)) (g : ℕ)
    (path : List ℕ) → ArePathsOf tree gs paths → IsPathOf tree g path
    → ArePathsOf tree (gs ++ g ∷ []) (paths ++ path ∷ [])
ArePathsOf-push tree [] [] g path all one = (one, tt)
ArePathsOf-push tree [] (p ∷ ps) g path all one = absurd all
ArePathsOf-push tree (h ∷ gs) [] g path all one = absurd all
ArePathsOf-push tree (h ∷ gs) (p ∷ ps) g path all one =
    (all.0, ArePathsOf-push tree gs ps g path all.1 one)

pub ArePathsOf-length : (tree : TreeState) (gs : List ℕ) (paths : List (List ℕ))
    → ArePathsOf tree gs paths → length gs ≡ length paths
ArePathsOf-length tree [] [] all = refl
ArePathsOf-length tree [] (p ∷ ps) all = absurd all
ArePathsOf-length tree (h ∷ gs) [] all = absurd all
ArePathsOf-length tree (h ∷ gs) (p ∷ ps) all = ap suc (ArePathsOf-length tree gs ps all.1)

pub group_lines-push : (line : ℕ → List ℕ → List ℕ) (gs : List ℕ) (paths : List (List ℕ)) (g : ℕ)
    (path : List ℕ) → length gs ≡ length paths
    → group_lines line (gs ++ g ∷ []) (paths ++ path ∷ []) ≡ group_lines line gs paths
    ++ line g path
group_lines-push line [] [] g path same = append-nil (line g path)
group_lines-push line [] (p ∷ ps) g path same = absurd (omega (arith, same))
group_lines-push line (h ∷ gs) [] g path same = absurd (omega (arith, same))
group_lines-push line (h ∷ gs) (p ∷ ps) g path same =
    ap (λ l. line h p ++ l) (group_lines-push line gs ps g path (omega (arith, same)))
    ∙ sym (append_assoc (line h p) (group_lines line gs ps) (line g path))

-- a tree has as many groups as its instance has rows
pub groups_are_rows : {tree same : TreeState} {groups : Groups} {shape : Shape} → tree ≡ same
    → groups ≡ instance_of same shape → length (keys_of tree.groups) ≡ length groups.rows
groups_are_rows {same = same} {shape = shape} equal are =
    ap (λ (t : TreeState). length (keys_of t.groups)) equal
    ∙ length-map same.groups (λ (e : ℕ × GroupFields). e.0)
    ∙ sym (ap (λ (x : Groups). length x.rows) are
    ∙ length-map (values_of same.groups) (row_of same.groups shape)
    ∙ length-map same.groups (λ (e : ℕ × GroupFields). e.1))

-- as many rows as were asked for
pub rows-length : (a n : ℕ) → length (range_with_len a n) ≡ n
rows-length a zero = refl
rows-length a (suc n) = ap suc (rows-length (a + 1) n)

-- the rows up to one and that one
pub rows-more : (n : ℕ) → range_with_len 0 (n + 1) ≡ range_with_len 0 n ++ n ∷ []
rows-more n = range_more 0 n
    ∙ (let same : 0 + n ≡ n = omega arith in ap (λ (k : ℕ). range_with_len 0 n ++ k ∷ []) same)

-- what is kept of a range is within it
kept-lt : (p : ℕ → Bool) (a n : ℕ) (b : Bool)
    → ((k : ℕ) → k < length (filter p (range_with_len (a + 1) n))
    → get_or (filter p (range_with_len (a + 1) n)) k 0 < a + 1 + n)
    → (k : ℕ) → k < length
    (cond b (a ∷ filter p (range_with_len (a + 1) n)) (filter p (range_with_len (a + 1) n)))
    → get_or (cond b (a ∷ filter p (range_with_len (a + 1) n))
    (filter p (range_with_len (a + 1) n))) k 0 < a + suc n
kept-lt p a n true more zero lt = omega arith
kept-lt p a n true more (suc k) lt = let h = more k (omega (arith, lt)) in omega (arith, h)
kept-lt p a n false more k lt = let h = more k lt in omega (arith, h)

filter-lt : (p : ℕ → Bool) (a n k : ℕ) → k < length (filter p (range_with_len a n))
    → get_or (filter p (range_with_len a n)) k 0 < a + n
filter-lt p a zero k lt = absurd (omega (arith, lt))
filter-lt p a (suc n) k lt = kept-lt p a n (p a) (filter-lt p (a + 1) n) k lt

pub limiting_groups-lt : (groups : Groups) (most : List ℕ) (k : ℕ)
    → k < length (limiting_groups groups most)
    → get_or (limiting_groups groups most) k 0 < length groups.rows
unfolding limiting_groups
limiting_groups-lt groups most k lt =
    let h = filter-lt _ 0 (length groups.rows) k lt in omega (arith, h)
