-- Paths that stand one after another in one text.
use Rattle.std.proofs.Common.{◌≡◌, ◌≤◌, ◌<◌, ◌+◌, ◌-◌, subst, ℕ, Bool, true, false, cond, eqb}
use Rattle.std.proofs.Common.{Option, Some, None, zero, suc, List, [], ◌∷◌, ◌++◌}
use Rattle.std.proofs.Common.{length, get_or, take, drop, refl, sym, ap, ◌∙◌, arith, append_assoc}
use Rattle.std.specs.List.{range_with_len}
use Rattle.std.specs.Prelude.{IfSome}
use Rattle.std.specs.Map.{keys_of}
use Rattle.std.proofs.lemmas.Bool.{eq-eqb, eqb-true}
use Rattle.std.proofs.lemmas.List.{take-append-le, drop-append-le, length-drop, length-append}
use Rattle.bw_tree.specs.Groups.{TreeState, GroupFields, IsTree, group_at}
use Rattle.bw_tree.specs.Paths.{path_at}
use Rattle.bw_tree.specs.Snapshot.{row_above}
use Rattle.bw_tree.proofs.CallerLemmas.{root_path, first_path, below_path}
use Rattle.bw_commands.specs.declared.span.Span.{Span}
use Rattle.bw_commands.specs.GroupLines.{IsPathOf, ArePathsOf}
use Rattle.bw_commands.specs.PathList.{cut, cuts, AreWithin, path_below}

-- a span of a list of them lies in the text
pub within_at : (bytes : ℕ) (spans : List Span) (g : ℕ) (d : Span) → AreWithin bytes spans
    → g < length spans
    → ((get_or spans g d).start ≤ (get_or spans g d).end) × ((get_or spans g d).end ≤ bytes)
within_at bytes [] g d all lt = absurd (omega (arith, lt))
within_at bytes (span ∷ spans) zero d all lt = (all.0, all.1)
within_at bytes (span ∷ spans) (suc g) d all lt =
    within_at bytes spans g d all.2 (omega (arith, lt))

-- a longer text
pub within_more : (bytes more : ℕ) (spans : List Span) → AreWithin bytes spans → bytes ≤ more
    → AreWithin more spans
within_more bytes more [] all le = tt
within_more bytes more (s ∷ spans) all le =
    (all.0, omega (arith, all.1, le), within_more bytes more spans all.2 le)

-- a longer text, and one span more
pub within_push : (bytes more : ℕ) (spans : List Span) (span : Span) → AreWithin bytes spans
    → bytes ≤ more → span.start ≤ span.end → span.end ≤ more
    → AreWithin more (spans ++ span ∷ [])
within_push bytes more [] span all le up fits = (up, fits, tt)
within_push bytes more (s ∷ spans) span all le up fits =
    (all.0, omega (arith, all.1, le), within_push bytes more spans span all.2 le up fits)

-- what is cut out of a text stands in a longer one at the same place
cut-append : (text more : List ℕ) (span : Span) → span.start ≤ span.end → span.end ≤ length text
    → cut (text ++ more) span ≡ cut text span
cut-append text more span up fits =
    ap (λ xs. take (span.end - span.start) xs)
    (drop-append-le span.start text more (omega (arith, up, fits)))
    ∙ take-append-le (span.end - span.start) (drop span.start text) more
    (omega (arith, up, fits, length-drop span.start text))

pub cuts-append : (text more : List ℕ) (spans : List Span) → AreWithin (length text) spans
    → cuts (text ++ more) spans ≡ cuts text spans
cuts-append text more [] all = refl
cuts-append text more (s ∷ spans) all =
    ap (λ path. path ∷ cuts (text ++ more) spans) (cut-append text more s all.0 all.1)
    ∙ ap (λ paths. cut text s ∷ paths) (cuts-append text more spans all.2)

-- the last span of a text
cut-last : (text more : List ℕ) (span : Span) → span.start ≡ length text
    → span.end ≡ length (text ++ more) → cut (text ++ more) span ≡ more
cut-last text more span from to =
    ap (λ a. take (span.end - span.start) (drop a (text ++ more))) from
    ∙ ap (λ xs. take (span.end - span.start) xs) (behind text)
    ∙ whole more (span.end - span.start) (omega (arith, from, to, length-append text more))
  where
    behind : (xs : List ℕ) → drop (length xs) (xs ++ more) ≡ more
    behind [] = refl
    behind (x ∷ xs) = behind xs

    whole : (xs : List ℕ) (n : ℕ) → n ≡ length xs → take n xs ≡ xs
    whole [] n same = nothing n
      where
        nothing : (n : ℕ) → take {A = ℕ} n [] ≡ []
        nothing zero = refl
        nothing (suc n) = refl
    whole (x ∷ xs) zero same = absurd (omega (arith, same))
    whole (x ∷ xs) (suc n) same = ap (λ ys. x ∷ ys) (whole xs n (omega (arith, same)))

-- three parts behind a text, or one
pub parts-append : (text head path tail : List ℕ)
    → text ++ head ++ path ++ tail ≡ text ++ (head ++ path ++ tail)
parts-append text head path tail =
    ap (λ x. x ++ tail) (append_assoc text head path) ∙ append_assoc text (head ++ path) tail

-- the path of a line behind a text
cut-line : (text head path tail : List ℕ) (span : Span) → span.start ≡ length (text ++ head)
    → span.end ≡ length (text ++ head ++ path) → cut (text ++ head ++ path ++ tail) span ≡ path
cut-line text head path tail span from to =
    cut-append (text ++ head ++ path) tail span
    (omega (arith, from, to, length-append (text ++ head) path)) (omega (arith, to))
    ∙ cut-last (text ++ head) path span from to

-- what stands at the spans of a text, and at that of the path of a line behind it
pub cuts-line : (text head path tail : List ℕ) (spans : List Span) (span : Span)
    → AreWithin (length text) spans → span.start ≡ length (text ++ head)
    → span.end ≡ length (text ++ head ++ path)
    → cuts (text ++ head ++ path ++ tail) (spans ++ span ∷ []) ≡ cuts text spans ++ path ∷ []
cuts-line text head path tail [] span all from to =
    ap (λ p. p ∷ []) (cut-line text head path tail span from to)
cuts-line text head path tail (s ∷ spans) span all from to =
    ap (λ t. cut t s ∷ cuts (text ++ head ++ path ++ tail) (spans ++ span ∷ []))
    (parts-append text head path tail)
    ∙ ap (λ p. p ∷ cuts (text ++ head ++ path ++ tail) (spans ++ span ∷ []))
    (cut-append text (head ++ path ++ tail) s all.0 all.1)
    ∙ ap (λ paths. cut text s ∷ paths)
    (cuts-line text head path tail spans span all.2 from to)

-- paths of rows from one on, by what holds of each
paths_from : (tree : TreeState) (paths : List (List ℕ)) (a n : ℕ) → length paths ≡ n
    → ((k : ℕ) → k < n → IsPathOf tree (a + k) (get_or paths k []))
    → ArePathsOf tree (range_with_len a n) paths
paths_from tree [] a zero long each = tt
paths_from tree [] a (suc n) long each = absurd (omega (arith, long))
paths_from tree (p ∷ ps) a zero long each = absurd (omega (arith, long))
paths_from tree (p ∷ ps) a (suc n) long each = (
  let same : a + 0 ≡ a = omega arith in subst (λ k. IsPathOf tree k p) same (each 0 (omega arith)),
  paths_from tree ps (a + 1) n (omega (arith, long))
      (λ k lt. let same : a + suc k ≡ a + 1 + k = omega arith in
      subst (λ j. IsPathOf tree j (get_or ps k [])) same (each (suc k) (omega (arith, lt)))),
)

pub paths_of_rows : (tree : TreeState) (paths : List (List ℕ)) (n : ℕ) → length paths ≡ n
    → ((k : ℕ) → k < n → IsPathOf tree k (get_or paths k []))
    → ArePathsOf tree (range_with_len 0 n) paths
paths_of_rows tree paths n long each =
    paths_from tree paths 0 n long (λ k lt. let same : k ≡ 0 + k =
    omega arith in subst (λ j. IsPathOf tree j (get_or paths k [])) same (each k lt))

-- what holds of each element, and of one more
pub each_push : {X : Type 0} (holds : ℕ → X → Type 0) (xs : List X) (x d : X)
    → ((k : ℕ) → k < length xs → holds k (get_or xs k d)) → holds (length xs) x
    → (k : ℕ) → k < length xs + 1 → holds k (get_or (xs ++ x ∷ []) k d)
each_push holds [] x d each last zero lt = last
each_push holds [] x d each last (suc k) lt = absurd (omega (arith, lt))
each_push holds (y ∷ ys) x d each last zero lt = each 0 (omega arith)
each_push holds (y ∷ ys) x d each last (suc k) lt =
    each_push (λ j. holds (suc j)) ys x d (λ j l. each (suc j) (omega (arith, l))) last k
    (omega (arith, lt))

module _ (t : TreeState) (ok : IsTree t) (paths : List (List ℕ)) (g : ℕ) (f : GroupFields)
    (within : g < length t.groups)
    (at : group_at t.groups (get_or (keys_of t.groups) g 0) ≡ Some f) where
  -- the path of a row, where the paths of all rows before it stand
  pub step_path : (parent : Option ℕ) → row_above t.groups f.parent ≡ parent
      → IfSome parent (λ p. p < g)
      → ((k : ℕ) → k < g → path_at t.groups (get_or (keys_of t.groups) k 0)
      ≡ Some (get_or paths k []))
      → path_at t.groups (get_or (keys_of t.groups) g 0) ≡ Some (path_below paths parent f.name)
  step_path None up before each = root_path t ok g f within at up
  step_path (Some p) up before each = by (eqb p 0) refl
    where
      by : (b : Bool) → eqb p 0 ≡ b → path_at t.groups (get_or (keys_of t.groups) g 0)
          ≡ Some (cond b f.name (get_or paths p [] ++ 47 ∷ f.name))
      by true top = first_path t ok g p f within at up (eqb-true p 0 top)
      by false low = below_path t ok g p f (get_or paths p []) within at up
          (λ top. let clash : true ≡ false = sym (eq-eqb p 0 top) ∙ low in absurd (cc))
          (each p before)
