-- In every schedule drained workers leave the plan's amounts: an induction on the history, call by
-- call.
use Rattle.std.proofs.Common.{◌≡◌, ℕ, ◌+◌, ◌-◌, ◌*◌, ◌<◌, ◌≤◌, ◌⊎◌, inl, inr, min, List, [], ◌∷◌}
use Rattle.std.proofs.Common.{length, replicate, Bool, true, false, cond, Option, None}
use Rattle.std.proofs.Common.{Some, get_or, set, refl, sym, ap, ◌∙◌, subst, arith, eqb, ne_eqb}
use Rattle.std.proofs.Common.{eq-eqb}
use Rattle.std.proofs.lemmas.Bool.{cases_lt}
use Rattle.bw_machine.specs.History.{replay, IsLegal, own, entry}
use Rattle.bw_model.specs.declared.row.Row.{Row}
use Rattle.bw_model.specs.Groups.{is_leaf, path_up}
use Rattle.bw_pool.specs.declared.calls.PoolCall.{PoolCall}
use Rattle.bw_pool.specs.declared.calls.PoolCall.TheVariants.{Draw, GiveBack, Lower, Look}
use Rattle.bw_pool.specs.declared.calls.PoolReply.{PoolReply}
use Rattle.bw_pool.specs.declared.calls.PoolReply.TheVariants.{Granted}
use Rattle.bw_pool.specs.declared.calls.Refusal.{Refusal}
use Rattle.bw_pool.specs.Pool.{PoolState, raised, got_of, group_refusal, reply_to, unless_refused}
use Rattle.bw_pool.specs.Pool.{or_refused, after, answer, short_of}
use Rattle.bw_pool.specs.Drained.{PoolEntry, Worker, fresh, is_look, without_looks, got_one}
use Rattle.bw_pool.specs.Drained.{drawn_one, returned_one, MayCall, worker_after, Drains, IsPlanned}
use Rattle.bw_pool.specs.Drained.{IsDrawnOut, DrainedWorkersDrawTheAmounts}
use Rattle.bw_pool.proofs.Lists.{raised_zero, set_plus_zero, put, put_all}
use Rattle.bw_pool.proofs.Workers.{pool, IsRun, run_starts, run_ends}
use Rattle.bw_pool.proofs.DrawTurn.{draw_not_refused, draw_state, got_is, draw_none_keeps}
use Rattle.bw_pool.proofs.DrawTurn.{draw_one_keeps}
use Rattle.bw_pool.proofs.GiveBackTurn.{back_state, back_keeps}

-- a call that must be a draw, or a give-back
may_draw : (ps : List Row) (w : Worker) (o : Option ℕ) (l a : ℕ) → MayCall ps w o (Draw l a)
    → (o ≡ None) × (a ≡ 1) × (l < length ps) × (is_leaf ps l ≡ true)
may_draw ps w None l a m = (refl, m.0, m.1, m.2)
may_draw ps w (Some x) l a m = absurd m

may_return : (ps : List Row) (w : Worker) (o : Option ℕ) (l n : ℕ) → MayCall ps w o (GiveBack l n)
    → (o ≡ Some l) × (n ≡ 1)
may_return ps w None l n m = absurd m
may_return ps w (Some x) l n m = (ap Some (sym m.1), m.0)

may_not_lower : (ps : List Row) (w : Worker) (o : Option ℕ) (g to : ℕ) → MayCall ps w o (Lower g to)
    → ⊥
may_not_lower ps w None g to m = m
may_not_lower ps w (Some x) g to m = m

look_same : (r : Option Refusal) (s : PoolState) → unless_refused r s s ≡ s
look_same None s = refl
look_same (Some r) s = refl

-- one's own entries, without looks, where an entry comes first
own_look : (b : Bool) (e : PoolEntry) (es : List PoolEntry) → is_look e.call ≡ true
    → without_looks (cond b (e ∷ es) es) ≡ without_looks es
own_look true e es is = ap (λ v. cond v (without_looks es) (e ∷ without_looks es)) is
own_look false e es is = refl

own_yes : (b : Bool) (e : PoolEntry) (es : List PoolEntry) → b ≡ true → is_look e.call ≡ false
    → without_looks (cond b (e ∷ es) es) ≡ e ∷ without_looks es
own_yes true e es is not_look = ap (λ v. cond v (without_looks es) (e ∷ without_looks es)) not_look
own_yes false e es is not_look = absurd (cc is)

own_no : (b : Bool) (e : PoolEntry) (es : List PoolEntry) → b ≡ false
    → without_looks (cond b (e ∷ es) es) ≡ without_looks es
own_no true e es is = absurd (cc is)
own_no false e es is = refl

module _ (uses : ℕ → Bool) (P S : ℕ) (ps : List Row) (amounts : List ℕ)
    (plan : IsPlanned P S ps amounts) where
  -- what has to be shown of a history that goes on from a run
  abbrev Ends : List PoolEntry → Type 0
  Ends h = (drawn by held : List ℕ) (k : ℕ → Worker) → IsRun uses P S ps amounts drawn by held k
      → IsLegal after answer (pool P S ps amounts drawn by held) h
      → ((p : ℕ) → p < P → Drains uses ps S (k p) (without_looks (own p h)))
      → ((p : ℕ) → P ≤ p → without_looks (own p h) ≡ [])
      → IsDrawnOut uses ps amounts (replay after (pool P S ps amounts drawn by held) h).drawn

  -- the rest, from the pool that a call left
  goes_on : (es : List PoolEntry) → Ends es → (s : PoolState) (drawn by held : List ℕ)
      (k : ℕ → Worker) → s ≡ pool P S ps amounts drawn by held
      → IsRun uses P S ps amounts drawn by held k → IsLegal after answer s es
      → ((p : ℕ) → p < P → Drains uses ps S (k p) (without_looks (own p es)))
      → ((p : ℕ) → P ≤ p → without_looks (own p es) ≡ [])
      → IsDrawnOut uses ps amounts (replay after s es).drawn
  goes_on es ih s drawn by held k is run legal mine others =
      let T : PoolState → Type 0 = λ v. IsLegal after answer v es
      → IsDrawnOut uses ps amounts (replay after v es).drawn in
      subst T (sym is) (λ lg. ih drawn by held k run lg mine others) legal

  -- a call that is no look belongs to a worker, which goes on from it
  worker_goes : (seat : ℕ) (call : PoolCall) (reply : PoolReply) (es : List PoolEntry)
      (k : ℕ → Worker) → is_look call ≡ false
      → ((p : ℕ) → p < P
      → Drains uses ps S (k p) (without_looks (own p (entry seat call reply ∷ es))))
      → ((p : ℕ) → P ≤ p → without_looks (own p (entry seat call reply ∷ es)) ≡ [])
      → (seat < P) × MayCall ps (k seat) (k seat).owes call
      × ((p : ℕ) → p < P → Drains uses ps S (put k seat (worker_after uses (k seat) call reply) p)
      (without_looks (own p es)))
      × ((p : ℕ) → P ≤ p → without_looks (own p es) ≡ [])
  worker_goes seat call reply es k not_look mine others =
      let e = entry seat call reply in
      let head = own_yes (eqb seat seat) e (own seat es) (eq-eqb seat seat refl) not_look in
      elim (cases_lt seat P) [
        | inl lt ↦
            let here : Drains uses ps S (k seat) (e ∷ without_looks (own seat es)) =
            subst (λ xs. Drains uses ps S (k seat) xs) head (mine seat lt) in (
              lt,
              here.0,
              put_all (λ p w. p < P → Drains uses ps S w (without_looks (own p es))) k seat
                  (worker_after uses (k seat) call reply)
                  (λ ltp. here.1)
                  (λ p ne ltp. subst (λ xs. Drains uses ps S (k p) xs)
                  (own_no (eqb seat p) e (own p es) (ne_eqb seat p (λ s. ne (sym s))))
                  (mine p ltp)),
              λ p le. let ne : eqb seat p ≡ false = ne_eqb seat p (λ s. absurd (omega arith)) in
                  sym (own_no (eqb seat p) e (own p es) ne) ∙ others p le,
            )
        | inr le ↦ absurd (cc (head, others seat le))
      ]

  look_ends : (seat g : ℕ) (reply : PoolReply) (es : List PoolEntry) → Ends es
      → Ends (entry seat (Look g) reply ∷ es)
  look_ends seat g reply es ih drawn by held k run legal mine others =
      let s = pool P S ps amounts drawn by held in
      let e = entry seat (Look g) reply in
      goes_on es ih (after s seat (Look g)) drawn by held k (look_same (group_refusal s g) s) run
      legal.1
      (λ p lt. subst (λ xs. Drains uses ps S (k p) xs) (own_look (eqb seat p) e (own p es) refl)
      (mine p lt))
      (λ p le. sym (own_look (eqb seat p) e (own p es) refl) ∙ others p le)

  lower_ends : (seat g to : ℕ) (reply : PoolReply) (es : List PoolEntry) → Ends es
      → Ends (entry seat (Lower g to) reply ∷ es)
  lower_ends seat g to reply es ih drawn by held k run legal mine others =
      let w = worker_goes seat (Lower g to) reply es k refl mine others in
      absurd (may_not_lower ps (k seat) (k seat).owes g to w.1)

  back_ends : (seat l n : ℕ) (reply : PoolReply) (es : List PoolEntry) → Ends es
      → Ends (entry seat (GiveBack l n) reply ∷ es)
  back_ends seat l n reply es ih drawn by held k run legal mine others =
      let s = pool P S ps amounts drawn by held in
      let w = worker_goes seat (GiveBack l n) reply es k refl mine others in
      let m = may_return ps (k seat) (k seat).owes l n w.1 in
      let o = (run.workers seat w.0).owed l m.0 in
      goes_on es ih (after s seat (GiveBack l n)) _ _ _ (put k seat (returned_one (k seat) l))
      (ap (λ i. after s seat (GiveBack l i)) m.1
      ∙ back_state uses P S ps amounts drawn by held seat l w.0 o.2 o.3 o.1)
      (back_keeps uses P S ps amounts drawn by held seat l w.0 o.2 o.3 k m.0 plan run) legal.1 w.2
      w.3

  -- a draw got one slice or none
  draw_cases : (seat l : ℕ) (drawn by held : List ℕ) (k : ℕ → Worker) → seat < P → l < length ps
      → is_leaf ps l ≡ true →
      IsRun uses P S ps amounts drawn by held k
      → (got_of (pool P S ps amounts drawn by held) seat l 1 ≡ 1) × (1 ≤ S - get_or by seat 0)
      ⊎ (got_of (pool P S ps amounts drawn by held) seat l 1 ≡ 0)
      × ((get_or drawn l 0 ≡ get_or amounts l 0) ⊎ (get_or by seat 0 ≡ S))
  draw_cases seat l drawn by held k lt ltl leaf run =
      let g = got_is uses P S ps amounts drawn by held seat l lt ltl leaf k plan run in
      let mine = run.workers seat lt in
      elim (cases_lt (get_or by seat 0) S) [
        | inr le ↦ inr (omega arith, inr (omega (arith, mine.kept, mine.cap)))
        | inl room ↦ elim (cases_lt (get_or drawn l 0) (get_or amounts l 0)) [
          | inl some_left ↦ inl (omega arith, omega arith)
          | inr full ↦ inr (omega arith, inl (omega (arith, run.within l)))
        ]
      ]

  nothing : (seat l : ℕ) (drawn by held : List ℕ)
      → pool P S ps amounts (raised (path_up ps l) 0 drawn) (set by seat (get_or by seat 0 + 0))
      (set held (seat * length ps + l) (get_or held (seat * length ps + l) 0 + 0))
      ≡ pool P S ps amounts drawn by held
  nothing seat l drawn by held =
      let a = raised_zero (path_up ps l) drawn in
      let b = set_plus_zero by seat in
      let c = set_plus_zero held (seat * length ps + l) in
      ap (λ x. pool P S ps amounts x (set by seat (get_or by seat 0 + 0))
      (set held (seat * length ps + l) (get_or held (seat * length ps + l) 0 + 0))) a
      ∙ (ap (λ x. pool P S ps amounts drawn x
      (set held (seat * length ps + l) (get_or held (seat * length ps + l) 0 + 0))) b
      ∙ ap (λ x. pool P S ps amounts drawn by x) c)

  draw_ends : (seat l a : ℕ) (reply : PoolReply) (es : List PoolEntry) → Ends es
      → Ends (entry seat (Draw l a) reply ∷ es)
  draw_ends seat l a reply es ih drawn by held k run legal mine others =
      let s = pool P S ps amounts drawn by held in
      let w = worker_goes seat (Draw l a) reply es k refl mine others in
      let m = may_draw ps (k seat) (k seat).owes l a w.1 in
      let got = got_of s seat l 1 in
      let answered : reply ≡ Granted got (short_of s l 1 got) =
      legal.0 ∙ (ap (λ i. answer s seat (Draw l i)) m.1
      ∙ ap (λ r. or_refused r (reply_to s seat (Draw l 1)))
      (draw_not_refused uses P S ps amounts drawn by held seat l w.0 m.2 m.3)) in
      let told : got_one reply ≡ eqb got 1 = ap got_one answered in
      let goes : after s seat (Draw l a) ≡ after s seat (Draw l 1) =
      ap (λ i. after s seat (Draw l i)) m.1 in
      let T : Bool → Type 0 = λ b. (p : ℕ) → p < P → Drains uses ps S
      (put k seat (drawn_one (k seat) l (uses l) b) p) (without_looks (own p es)) in
      elim (draw_cases seat l drawn by held k w.0 m.2 m.3 run) [
        | inl one ↦
            goes_on es ih (after s seat (Draw l a)) _ _ _
            (put k seat (drawn_one (k seat) l (uses l) true))
            (goes ∙ draw_state uses P S ps amounts drawn by held seat l w.0 m.2 m.3 1 one.0)
            (draw_one_keeps uses P S ps amounts drawn by held seat l w.0 m.2 m.3 k m.0 plan run
            (min 1 (S - get_or by seat 0)) (omega (arith, one.0)) one.1)
            legal.1 (subst T (told ∙ ap (λ n. eqb n 1) one.0) w.2) w.3
        | inr none ↦
            goes_on es ih (after s seat (Draw l a)) drawn by held
            (put k seat (drawn_one (k seat) l (uses l) false))
            (goes ∙ (draw_state uses P S ps amounts drawn by held seat l w.0 m.2 m.3 0 none.0
            ∙ nothing seat l drawn by held))
            (draw_none_keeps uses P S ps amounts drawn by held seat l w.0 m.2 m.3 k m.0 run none.1)
            legal.1 (subst T (told ∙ ap (λ n. eqb n 1) none.0) w.2) w.3
      ]

  step_ends : (seat : ℕ) (call : PoolCall) (reply : PoolReply) (es : List PoolEntry) → Ends es
      → Ends (entry seat call reply ∷ es)
  step_ends seat (Draw l a) reply es ih = draw_ends seat l a reply es ih
  step_ends seat (GiveBack l n) reply es ih = back_ends seat l n reply es ih
  step_ends seat (Lower g to) reply es ih = lower_ends seat g to reply es ih
  step_ends seat (Look g) reply es ih = look_ends seat g reply es ih

  pub all_end : (h : List PoolEntry) → Ends h
  all_end [] = λ drawn by held k run legal mine others.
      run_ends uses P S ps amounts drawn by held k plan run mine
  all_end (e ∷ es) = step_ends e.seat e.call e.reply es (all_end es)

pub drained_workers_draw_the_amounts : DrainedWorkersDrawTheAmounts
drained_workers_draw_the_amounts uses P S ps amounts h plan legal drained =
    all_end uses P S ps amounts plan h (replicate (length ps) 0) (replicate P 0)
    (replicate (P * length ps) 0) (λ p. fresh)
    (run_starts uses P S ps amounts) legal drained.workers drained.others
