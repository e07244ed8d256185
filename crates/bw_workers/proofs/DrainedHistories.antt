-- The history of a lock whose seats are those of drained workers.
use Rattle.bw_model.specs.declared.row.Row.{Row}
use Rattle.std.proofs.Common.{◌≡◌, ℕ, zero, suc, ◌+◌, ◌<◌, ◌≤◌, List, [], ◌∷◌, ◌++◌, length, get_or}
use Rattle.std.proofs.Common.{map, Bool, true, false, if◌then◌else◌, Option, None, Some}
use Rattle.std.proofs.Common.{refl, sym, ap, ◌∙◌, subst, arith, ne_eqb}
use Rattle.std.specs.List.{All}
use Rattle.std.proofs.lemmas.Bool.{true≢false}
use Rattle.atomic_table.specs.Seated.{TableId}
use Rattle.bw_machine.specs.History.{own, own_from, entry_of}
use Rattle.bw_machine.proofs.CallerLemmas.{own_entries}
use Rattle.bw_ticket.specs.Holder.{fresh_seat, fresh_seats}
use Rattle.bw_pool.specs.declared.calls.PoolCall.{PoolCall}
use Rattle.bw_pool.specs.declared.calls.PoolCall.TheVariants.{Draw, GiveBack}
use Rattle.bw_pool.specs.Drained.{PoolEntry, Worker, fresh, is_look, without_looks, MayCall}
use Rattle.bw_pool.specs.Drained.{worker_after, Drains, AreDrained}
use Rattle.bw_workers.specs.Working.{PoolSeat, calls_of}
use Rattle.bw_workers.specs.Serving.{IsReady, AreReady, AreBack}

-- a drained worker looks at nothing
no_look : (tree : List Row) (w : Worker) (owes : Option ℕ) (call : PoolCall)
    → MayCall tree w owes call → is_look call ≡ false
no_look tree w None (Draw leaf ask) h = refl
no_look tree w (Some owed) (GiveBack leaf n) h = refl
no_look tree w _ _ h = absurd h

kept_all : (b : Bool) (e : PoolEntry) (es es' : List PoolEntry) → b ≡ false → es' ≡ es
    → (if b then es' else (e ∷ es')) ≡ e ∷ es
kept_all true e es es' h k = absurd (true≢false h)
kept_all false e es es' h k = ap (λ l. e ∷ l) k

pub none_looks : (uses : ℕ → Bool) (tree : List Row) (slices : ℕ) (w : Worker) (es : List PoolEntry)
    → Drains uses tree slices w es → without_looks es ≡ es
none_looks uses tree slices w [] d = refl
none_looks uses tree slices w (e ∷ es) d =
    kept_all (is_look e.call) e es (without_looks es) (no_look tree w w.owes e.call d.0)
    (none_looks uses tree slices (worker_after uses w e.call e.reply) es d.1)

-- a seat that nobody had makes no call
own_else : (n p : ℕ) (es : List PoolEntry) → n ≤ p → All (λ e. e.seat < n) es → own p es ≡ []
own_else n p [] le all = refl
own_else n p (e ∷ es) le all = let lt = all 0 e (omega arith) in
    ap (λ b. if b then e ∷ own p es else own p es)
    (ne_eqb e.seat p (λ (q : e.seat ≡ p). omega (arith, lt, le, q)))
    ∙ own_else n p es le (λ k d l. all (suc k) d (omega arith))

pub drained_history : (uses : ℕ → Bool) (processors slices : ℕ) (tree : List Row)
    (lock_id : TableId) (seats : List PoolSeat) (history : List PoolEntry) →
    length seats ≡ processors
    → AreBack uses tree slices lock_id seats → All (λ s. s.own ≡ own_from 0 s.number history) seats
    → All (λ e. e.seat < processors) history →
    AreDrained uses processors slices tree history
drained_history uses processors slices tree lock_id seats history long back owns callers = record {
  workers = λ p lt. works p (omega (arith, long));
  others = λ p le. ap without_looks (own_else processors p history le callers);
} where
  some_seat : PoolSeat
  some_seat = fresh_seat lock_id 0 0

  works : (p : ℕ) → p < length seats → Drains uses tree slices fresh (without_looks (own p history))
  works p lt = let seat = get_or seats p some_seat in let b = back p some_seat lt in
      let is_own : calls_of seat ≡ own p history =
      ap (map (entry_of seat.number)) (owns p some_seat lt)
      ∙ (own_entries 0 seat.number history ∙ ap (λ (n : ℕ). own n history) b.number) in
      let d = subst (Drains uses tree slices fresh) is_own b.drained in
      subst (Drains uses tree slices fresh)
      (sym (none_looks uses tree slices fresh (own p history) d)) d

-- seats as they are handed out are ready
ready_from : (id : TableId) (calls k n i : ℕ) (d : PoolSeat) → i < n
    → IsReady id calls (k + i) (get_or (fresh_seats id calls k n) i d)
ready_from id calls k zero i d lt = absurd (omega arith)
ready_from id calls k (suc n) zero d lt =
    record { lock = refl; number = omega arith; idle = refl; own = refl; left = omega arith }
ready_from id calls k (suc n) (suc i) d lt = let e : (k + 1) + i ≡ k + suc i = omega arith in
    subst (λ (m : ℕ). IsReady id calls m (get_or (fresh_seats id calls (k + 1) n) i d)) e
    (ready_from id calls (k + 1) n i d (omega arith))

pub seats_ready : (id : TableId) (least calls n : ℕ) (seats : List PoolSeat)
    → seats ≡ fresh_seats id calls 0 n → length seats ≡ n → least ≤ calls →
    AreReady id least seats
seats_ready id least calls n seats e long le i d lt =
    subst (λ (l : List PoolSeat). IsReady id least i (get_or l i d)) (sym e)
    (fewer (get_or (fresh_seats id calls 0 n) i d) (let z : 0 + i ≡ i = omega arith in
    subst (λ (m : ℕ). IsReady id calls m (get_or (fresh_seats id calls 0 n) i d)) z
    (ready_from id calls 0 n i d (omega (arith, long))))) where
      fewer : (seat : PoolSeat) → IsReady id calls i seat → IsReady id least i seat
      fewer seat r =
          record {
            lock = r.lock;
            number = r.number;
            idle = r.idle;
            own = r.own;
            left = omega (arith, r.left, le);
          }

-- what holds of each place of a list, and of the one that is pushed
module _ {X : Type 0} where
  each_snoc : (xs : List X) (x : X) (P : ℕ → X → Type 0)
      → ((k : ℕ) (d : X) → k < length xs → P k (get_or xs k d)) → P (length xs) x → (k : ℕ) (d : X)
      →
      k < length (xs ++ x ∷ []) → P k (get_or (xs ++ x ∷ []) k d)
  each_snoc [] x P h p zero d lt = p
  each_snoc [] x P h p (suc k) d lt = absurd (omega arith)
  each_snoc (y ∷ xs) x P h p zero d lt = h 0 d (omega arith)
  each_snoc (y ∷ xs) x P h p (suc k) d lt =
      each_snoc xs x (λ j z. P (suc j) z) (λ j e l. h (suc j) e (omega arith)) p k d (omega arith)

  pub each_pushed : (xs ys : List X) (x : X) (n m : ℕ) → ys ≡ xs ++ x ∷ [] → n ≡ length xs
      → m ≡ length ys → (P : ℕ → X → Type 0) →
      ((k : ℕ) (d : X) → k < n → P k (get_or xs k d)) → P n x
      → (k : ℕ) (d : X) → k < m → P k (get_or ys k d)
  each_pushed xs ys x n m is long longer P h p k d lt =
      subst (λ (l : List X). P k (get_or l k d)) (sym is)
      (each_snoc xs x P (λ j e l. h j e (omega (arith, long))) (subst (λ (i : ℕ). P i x) long p) k d
      (omega (arith, longer, ap length is)))
