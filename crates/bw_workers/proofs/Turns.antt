-- What a worker knows between two turns, and what a turn makes of it.
use Rattle.bw_model.specs.declared.row.Row.{Row}
use Rattle.std.proofs.Common.{◌≡◌, ℕ, ◌+◌, ◌<◌, ◌≤◌, ◌⊎◌, ◌==◌, inl, inr, List, [], ◌∷◌, ◌++◌}
use Rattle.std.proofs.Common.{length, Bool, true, false, cond, None, refl, sym, ap, ◌∙◌, subst}
use Rattle.std.proofs.Common.{arith, append-nil, append_assoc}
use Rattle.std.specs.Prelude.{nat_lt}
use Rattle.std.proofs.lemmas.Bool.{and_parts, and_from, ltb-true, lt-ltb, eq-eqb, or_from, or_left}
use Rattle.std.proofs.lemmas.Bool.{or_right, true≢false}
use Rattle.std.proofs.lemmas.Bool.Decides.{eqb_tells}
use Rattle.bw_machine.specs.History.{entry}
use Rattle.bw_model.specs.Groups.{is_leaf}
use Rattle.bw_pool.specs.declared.calls.PoolCall.TheVariants.{Draw, GiveBack}
use Rattle.bw_pool.specs.declared.calls.PoolReply.{PoolReply}
use Rattle.bw_pool.specs.Drained.{PoolEntry, Worker, fresh, among, got_one, drawn_one, returned_one}
use Rattle.bw_pool.specs.Drained.{MayCall, Drains}
use Rattle.bw_workers.specs.Rounds.{InRounds, owed_after, asked_after}
use Rattle.bw_workers.specs.Working.{PoolSeat, calls_of, Keeps, DropsLeaf}
use Rattle.bw_workers.proofs.Rows.{times, is_leaf_row}

pub record IsWorking (uses : ℕ → Bool) (tree : List Row) (slices : ℕ) (calls : List PoolEntry)
    (rows : List ℕ) (kept : ℕ) : Type 0 where
  pub worker : Worker
  pub has : worker.kept ≡ kept
  pub none_owed : worker.owes ≡ None
  pub goes_on : (rest : List PoolEntry) → Drains uses tree slices worker rest
      → Drains uses tree slices fresh (calls ++ rest)
  pub once : (row : ℕ) → times row rows ≤ 1
  pub still : (row : ℕ) → times row rows ≡ 1
      → (row < length tree) × (is_leaf tree row ≡ true) × (among row worker.returned ≡ false)
  pub closed : (row : ℕ) → row < length tree → is_leaf tree row ≡ true → times row rows ≡ 0 →
      (among row worker.short ≡ true) ⊎ (among row worker.returned ≡ true)

one_if_le : (b : Bool) → cond {A = ℕ} b 1 0 ≤ 1
one_if_le true = omega arith
one_if_le false = omega arith

one_if_true : (b : Bool) → cond {A = ℕ} b 1 0 ≡ 1 → b ≡ true
one_if_true true h = refl
one_if_true false h = absurd (omega arith)

one_if_not : (b : Bool) → b ≡ true → cond {A = ℕ} b 1 0 ≡ 0 → ⊥
one_if_not true e h = omega arith
one_if_not false e h = true≢false (sym e)

pub begins : (uses : ℕ → Bool) (tree : List Row) (slices : ℕ) (calls : List PoolEntry)
    (leaves : List ℕ) → calls ≡ []
    → ((g : ℕ) → times g leaves ≡ cond {A = ℕ} (is_leaf_row tree g) 1 0) →
    IsWorking uses tree slices calls leaves 0
begins uses tree slices calls leaves e h = record {
  worker = fresh;
  has = refl;
  none_owed = refl;
  goes_on = λ rest d. subst (λ l. Drains uses tree slices fresh (l ++ rest)) (sym e) d;
  once = λ row. subst (λ (n : ℕ). n ≤ 1) (sym (h row)) (one_if_le (is_leaf_row tree row));
  still = λ row one. let b = and_parts (nat_lt row (length tree)) (is_leaf tree row)
      (one_if_true (is_leaf_row tree row) (sym (h row) ∙ one)) in
      (ltb-true row (length tree) b.0, b.1, refl);
  closed = λ row lt leaf none. absurd (one_if_not (is_leaf_row tree row)
      (and_from (nat_lt row (length tree)) (is_leaf tree row) (lt-ltb row (length tree) lt) leaf)
      (sym (h row) ∙ none));
}

-- the leaf that stands first
first_off : (a b : ℕ) → a + b ≡ b + a
first_off a b = omega arith

pub stands : (leaf : ℕ) (rest : List ℕ) → 1 ≤ times leaf (leaf ∷ rest)
stands leaf rest = let one : cond {A = ℕ} (leaf == leaf) 1 0
    ≡ 1 = ap (λ b. cond {A = ℕ} b 1 0) (eq-eqb leaf leaf refl) in omega (arith, one)

past : (a b t u : ℕ) → u ≡ b + t → a + u ≡ b + (a + t)
past a b t u h = omega arith

-- it goes behind the others
pub goes_last : (leaf : ℕ) (rest : List ℕ) (row : ℕ)
    → times row (rest ++ leaf ∷ []) ≡ times row (leaf ∷ rest)
goes_last leaf [] row = refl
goes_last leaf (x ∷ xs) row = past (cond {A = ℕ} (x == row) 1 0) (cond {A = ℕ} (leaf == row) 1 0)
    (times row xs) (times row (xs ++ leaf ∷ []))
    (goes_last leaf xs row)

-- rows that are left after the leaf went
abbrev pub Without : ℕ → List ℕ → List ℕ → Type 0
Without leaf rows rows' = (row : ℕ)
    → times row rows ≡ times row rows' + cond {A = ℕ} (leaf == row) 1 0

pub goes : (leaf : ℕ) (rest : List ℕ) → Without leaf (leaf ∷ rest) rest
goes leaf rest row = first_off (cond {A = ℕ} (leaf == row) 1 0) (times row rest)

more_le : (t t' c : ℕ) → t ≤ 1 → t ≡ t' + c → t' ≤ 1
more_le t t' c h e = omega arith

was_one : (t t' c : ℕ) → t ≤ 1 → t ≡ t' + c → t' ≡ 1 → (t ≡ 1) × (c ≡ 0)
was_one t t' c h e one = (omega arith, omega arith)

not_one : (b : Bool) → cond {A = ℕ} b 1 0 ≡ 0 → b ≡ false
not_one true h = absurd (omega arith)
not_one false h = refl

not_self : (leaf row : ℕ) → (leaf == row) ≡ false → cond {A = ℕ} (leaf == row) 1 0 ≡ 0
not_self leaf row e = ap (λ b. cond {A = ℕ} b 1 0) e

module _ (uses : ℕ → Bool) (tree : List Row) (slices : ℕ) where
  -- a draw of a leaf that is still asked comes next
  drawn_next : (w : Worker) (number leaf : ℕ) (reply : PoolReply) (rest : List PoolEntry)
      → w.owes ≡ None → leaf < length tree → is_leaf tree leaf ≡ true →
      among leaf w.returned ≡ false
      → Drains uses tree slices (drawn_one w leaf (uses leaf) (got_one reply)) rest
      → Drains uses tree slices w (entry number (Draw leaf 1) reply ∷ rest)
  drawn_next w number leaf reply rest none lt is back d =
      (subst (λ o. MayCall tree w o (Draw leaf 1)) (sym none) (refl, lt, is, back), d)

  pub keeps_slice : (calls calls' : List PoolEntry) (rows : List ℕ) (kept number leaf : ℕ)
      (reply : PoolReply) → IsWorking uses tree slices calls rows kept
      → 1 ≤ times leaf rows
      → uses leaf ≡ true → got_one reply ≡ true → calls' ≡ calls ++ entry number (Draw leaf 1) reply
      ∷ [] → IsWorking uses tree slices calls' rows (kept + 1)
  keeps_slice calls calls' rows kept number leaf reply w some used got e =
      let one = w.once leaf in let s = w.still leaf (omega arith) in record {
        worker = drawn_one w.worker leaf true true;
        has = ap (λ (n : ℕ). n + 1) w.has;
        none_owed = refl;
        goes_on = λ rest d. subst (Drains uses tree slices fresh)
            (sym (ap (λ l. l ++ rest) e
            ∙ append_assoc calls (entry number (Draw leaf 1) reply ∷ []) rest))
            (w.goes_on (entry number (Draw leaf 1) reply ∷ rest)
            (drawn_next w.worker number leaf reply rest w.none_owed s.0 s.1 s.2
            (subst (λ v. Drains uses tree slices v rest)
            (λ i. drawn_one w.worker leaf (sym used i) (sym got i)) d)));
        once = w.once;
        still = w.still;
        closed = w.closed;
      }

  pub had_none : (calls calls' : List PoolEntry) (rows rows' : List ℕ) (kept number leaf : ℕ)
      (reply : PoolReply) →
      IsWorking uses tree slices calls rows kept → 1 ≤ times leaf rows → Without leaf rows rows'
      → got_one reply ≡ false → calls' ≡ calls ++ entry number (Draw leaf 1) reply ∷ []
      → IsWorking uses tree slices calls' rows' kept
  had_none calls calls' rows rows' kept number leaf reply w some off got e =
      let one = w.once leaf in let s = w.still leaf (omega arith) in record {
        worker = drawn_one w.worker leaf (uses leaf) false;
        has = w.has;
        none_owed = w.none_owed;
        goes_on = λ rest d. subst (Drains uses tree slices fresh)
            (sym (ap (λ l. l ++ rest) e
            ∙ append_assoc calls (entry number (Draw leaf 1) reply ∷ []) rest))
            (w.goes_on (entry number (Draw leaf 1) reply ∷ rest)
            (drawn_next w.worker number leaf reply rest w.none_owed s.0 s.1 s.2
            (subst (λ v. Drains uses tree slices v rest)
            (λ i. drawn_one w.worker leaf (uses leaf) (sym got i)) d)));
        once = λ row. more_le (times row rows) (times row rows') (cond {A = ℕ} (leaf == row) 1 0)
            (w.once row) (off row);
        still = λ row is.
            w.still row (was_one (times row rows) (times row rows') (cond {A = ℕ} (leaf == row) 1 0)
            (w.once row) (off row) is).0;
        closed = λ row lt is none. elim (eqb_tells leaf row) [
          | inl h ↦ inl (or_left (leaf == row) (among row w.worker.short) h.0)
          | inr h ↦ elim (w.closed row lt is
              (off row ∙ omega (arith, none, not_self leaf row h.0))) [
                | inl a ↦ inl (or_right (leaf == row) (among row w.worker.short) a)
                | inr a ↦ inr a
              ]
        ];
      }

  pub gave_back : (calls calls' : List PoolEntry) (rows rows' : List ℕ) (kept number leaf : ℕ)
      (reply back : PoolReply) →
      IsWorking uses tree slices calls rows kept → 1 ≤ times leaf rows → Without leaf rows rows'
      → uses leaf ≡ false → got_one reply ≡ true → calls' ≡ calls
      ++ entry number (Draw leaf 1) reply ∷ entry number (GiveBack leaf 1) back ∷ [] →
      IsWorking uses tree slices calls' rows' kept
  gave_back calls calls' rows rows' kept number leaf reply back w some off unused got e =
      let one = w.once leaf in let s = w.still leaf (omega arith) in
      record {
        worker = returned_one (drawn_one w.worker leaf false true) leaf;
        has = let h = w.has in omega arith;
        none_owed = refl;
        goes_on = λ rest d. subst (Drains uses tree slices fresh)
            (sym (ap (λ l. l ++ rest) e ∙ append_assoc calls
            (entry number (Draw leaf 1) reply ∷ entry number (GiveBack leaf 1) back ∷ []) rest))
            (w.goes_on (entry number (Draw leaf 1) reply ∷ entry number (GiveBack leaf 1) back
            ∷ rest)
            (drawn_next w.worker number leaf reply (entry number (GiveBack leaf 1) back ∷ rest)
            w.none_owed s.0 s.1 s.2
            (subst (λ v. Drains uses tree slices v (entry number (GiveBack leaf 1) back ∷ rest))
            (λ i. drawn_one w.worker leaf (sym unused i) (sym got i))
            ((refl, refl), d))));
        once = λ row. more_le (times row rows) (times row rows') (cond {A = ℕ} (leaf == row) 1 0)
            (w.once row) (off row);
        still = λ row is. let h = was_one (times row rows) (times row rows')
            (cond {A = ℕ} (leaf == row) 1 0) (w.once row) (off row) is in let a =
            w.still row h.0 in (
              a.0,
              a.1,
              or_from (leaf == row) (among row w.worker.returned)
                  (not_one (leaf == row) h.1) a.2,
            );
        closed = λ row lt is none. elim (eqb_tells leaf row) [
          | inl h ↦ inr (or_left (leaf == row) (among row w.worker.returned) h.0)
          | inr h ↦ elim (w.closed row lt is
              (off row ∙ omega (arith, none, not_self leaf row h.0))) [
                | inl a ↦ inl a
                | inr a ↦ inr (or_right (leaf == row) (among row w.worker.returned) a)
              ]
        ];
      }

  -- the same for a turn, as the seat shows it
  pub kept_turn : (old new : PoolSeat) (rows : List ℕ) (kept leaf : ℕ)
      → IsWorking uses tree slices (calls_of old) rows kept → 1 ≤ times leaf rows →
      Keeps uses leaf old new
      → IsWorking uses tree slices (calls_of new) rows (kept + 1)
  kept_turn old new rows kept leaf w some k =
      keeps_slice (calls_of old) (calls_of new) rows kept old.number leaf k.reply w some k.used
      k.got k.calls

  pub left_turn : (old new : PoolSeat) (rows rows' : List ℕ) (kept leaf : ℕ)
      → IsWorking uses tree slices (calls_of old) rows kept → 1 ≤ times leaf rows →
      Without leaf rows rows' → DropsLeaf uses leaf old new
      → IsWorking uses tree slices (calls_of new) rows' kept
  left_turn old new rows rows' kept leaf w some off k = elim k.calls [
    | inl h ↦ had_none (calls_of old) (calls_of new) rows rows' kept old.number leaf k.reply w some
        off h.0 h.1
    | inr h ↦ gave_back (calls_of old) (calls_of new) rows rows' kept old.number leaf k.reply h.2 w
        some off h.0 h.1 h.3
  ]

  -- the leaves that are still asked, in another order
  pub reordered : (calls : List PoolEntry) (rows rows' : List ℕ) (kept : ℕ)
      → ((row : ℕ) → times row rows' ≡ times row rows) →
      IsWorking uses tree slices calls rows kept → IsWorking uses tree slices calls rows' kept
  reordered calls rows rows' kept same w = record {
    worker = w.worker;
    has = w.has;
    none_owed = w.none_owed;
    goes_on = w.goes_on;
    once = λ row. subst (λ (n : ℕ). n ≤ 1) (sym (same row)) (w.once row);
    still = λ row is. w.still row (sym (same row) ∙ is);
    closed = λ row lt is none. w.closed row lt is (sym (same row) ∙ none);
  }

  pub ends : (calls : List PoolEntry) (rows : List ℕ) (kept : ℕ)
      → IsWorking uses tree slices calls rows kept → (kept ≡ slices) ⊎ (rows ≡ []) →
      Drains uses tree slices fresh calls
  ends calls rows kept w h = subst (Drains uses tree slices fresh) (append-nil calls)
      (w.goes_on [] (record { none_owed = w.none_owed; spent_or_no_leaf = why h })) where
        why : (kept ≡ slices) ⊎ (rows ≡ []) → (w.worker.kept ≡ slices)
            ⊎ ((leaf : ℕ) → leaf < length tree → is_leaf tree leaf ≡ true
            → (among leaf w.worker.short ≡ true) ⊎ (among leaf w.worker.returned ≡ true))
        why (inl e) = inl (w.has ∙ e)
        why (inr e) = inr (λ leaf lt is. w.closed leaf lt is (ap (times leaf) e))

-- the calls go round the leaves, and after them those that are still asked are next
abbrev pub GoesRound : (ℕ → Bool) → List ℕ → List PoolEntry → List ℕ → Type 0
GoesRound uses leaves calls asked = (rest : List PoolEntry) → InRounds uses None asked rest
    → InRounds uses None leaves (calls ++ rest)

module _ (uses : ℕ → Bool) (leaves : List ℕ) where
  pub round_begins : (calls : List PoolEntry) → calls ≡ [] → GoesRound uses leaves calls leaves
  round_begins calls e rest d = subst (λ l. InRounds uses None leaves (l ++ rest)) (sym e) d

  after_draw : (leaf : ℕ) (reply : PoolReply) (others : List ℕ) (rest : List PoolEntry)
      (used got : Bool) → uses leaf ≡ used → got_one reply ≡ got
      → InRounds uses (owed_after used got leaf) (asked_after used got leaf others) rest
      → InRounds uses (owed_after (uses leaf) (got_one reply) leaf)
      (asked_after (uses leaf) (got_one reply) leaf others) rest
  after_draw leaf reply others rest used got u h d =
      subst (λ b. InRounds uses (owed_after b (got_one reply) leaf)
      (asked_after b (got_one reply) leaf others) rest) (sym u)
      (subst (λ b. InRounds uses (owed_after used b leaf) (asked_after used b leaf others) rest)
      (sym h) d)

  -- the calls of one turn, in front of the rest
  in_front : (calls calls' turn rest : List PoolEntry) → calls' ≡ calls ++ turn
      → InRounds uses None leaves (calls ++ (turn ++ rest))
      → InRounds uses None leaves (calls' ++ rest)
  in_front calls calls' turn rest e d = subst (InRounds uses None leaves)
      (sym (ap (λ l. l ++ rest) e ∙ append_assoc calls turn rest)) d

  pub round_kept : (old new : PoolSeat) (leaf : ℕ) (others : List ℕ)
      → GoesRound uses leaves (calls_of old) (leaf ∷ others) → Keeps uses leaf old new
      → GoesRound uses leaves (calls_of new) (others ++ leaf ∷ [])
  round_kept old new leaf others go k rest d =
      in_front (calls_of old) (calls_of new) (entry old.number (Draw leaf 1) k.reply ∷ []) rest
      k.calls (go (entry old.number (Draw leaf 1) k.reply ∷ rest)
      (refl, after_draw leaf k.reply others rest true true k.used k.got d))

  pub round_left : (old new : PoolSeat) (leaf : ℕ) (others : List ℕ)
      → GoesRound uses leaves (calls_of old) (leaf ∷ others) → DropsLeaf uses leaf old new
      → GoesRound uses leaves (calls_of new) others
  round_left old new leaf others go k rest d = elim k.calls [
    | inl h ↦ in_front (calls_of old) (calls_of new) (entry old.number (Draw leaf 1) k.reply ∷ [])
        rest h.1 (go (entry old.number (Draw leaf 1) k.reply ∷ rest)
        (refl, after_draw leaf k.reply others rest (uses leaf) false refl h.0 d))
    | inr h ↦ in_front (calls_of old) (calls_of new)
        (entry old.number (Draw leaf 1) k.reply ∷ entry old.number (GiveBack leaf 1) h.2 ∷ []) rest
        h.3 (go
        (entry old.number (Draw leaf 1) k.reply ∷ entry old.number (GiveBack leaf 1) h.2 ∷ rest) (
          refl,
          after_draw leaf k.reply others (entry old.number (GiveBack leaf 1) h.2 ∷ rest) false
              true h.0 h.1 (refl, d),
        ))
  ]

  pub round_ends : (calls : List PoolEntry) (asked : List ℕ) → GoesRound uses leaves calls asked
      → InRounds uses None leaves calls
  round_ends calls asked go = subst (InRounds uses None leaves) (append-nil calls) (go [] tt)
