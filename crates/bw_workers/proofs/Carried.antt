-- The headline, phrase by phrase, from the plan and from what the lock gives back.
use Rattle.std.proofs.Common.{◌≡◌, ℕ, zero, suc, ◌*◌, ◌<◌, ◌≤◌, List, [], ◌∷◌, length, get_or, map}
use Rattle.std.proofs.Common.{take, Bool, true}
use Rattle.std.proofs.Common.{refl, sym, ap, ◌∙◌, subst, arith, zero-add}
use Rattle.std.specs.List.{All, range_with_len}
use Rattle.std.proofs.Math.Nat.{div-le_of_le-mul}
use Rattle.std.proofs.lemmas.List.FromFn.{length-map-range_with_len, get_or-map-range_with_len}
use Rattle.atomic_table.specs.Seated.{TableId}
use Rattle.bw_machine.specs.declared.history.Made.{Made}
use Rattle.bw_model.specs.declared.limits.TheConstants.{MAX_PER_PROCESSOR}
use Rattle.bw_model.specs.Allocation.{total, IsMost, IsGreatestTotal}
use Rattle.bw_model.specs.Demand.{AreMaxTotals}
use Rattle.bw_model.specs.Groups.{Groups, IsInstance}
use Rattle.bw_machine.specs.History.{IsLegal, replay, own, own_from, entry_of}
use Rattle.bw_model.specs.Host.{slices_per_processor}
use Rattle.bw_model.specs.Plan.{child_weights, IsPlan}
use Rattle.bw_machine.proofs.CallerLemmas.{own_entries}
use Rattle.bw_model.proofs.CallerLemmas.{limited_total-is, mosts, mosts-capped, AreMaxTotals-capped}
use Rattle.bw_model.proofs.CallerLemmas.{capped-IsMost}
use Rattle.bw_split.proofs.CallerLemmas.{best_is_unmoved}
use Rattle.bw_plan.specs.Shared.{IsPlanning}
use Rattle.bw_plan.proofs.CallerLemmas.{plan-IsPlanning}
use Rattle.bw_pool.specs.declared.calls.PoolCall.{PoolCall}
use Rattle.bw_pool.specs.declared.calls.PoolReply.{PoolReply}
use Rattle.bw_pool.specs.Pool.{IsSound, after, answer}
use Rattle.bw_pool.specs.Drained.{PoolEntry, Drains, fresh, opening, IsDrawnOut}
use Rattle.bw_pool.proofs.CallerLemmas.{plan_is_planned, never_past_the_plan, sound_new}
use Rattle.bw_ticket.specs.Holder.{fresh_seat}
use Rattle.bw_workers.specs.Headline.{of_children, Headline}
use Rattle.bw_workers.specs.Serving.{AreBack, calls_by}
use Rattle.bw_workers.specs.Working.{PoolSeat, IsDrainedSeat}

-- what each group can be given at most
module _ (groups : Groups) (valid : IsInstance groups) where
  at_row : ℕ → ℕ
  at_row g = get_or (mosts groups valid.tree) g 0

  pub all_mosts : List ℕ
  all_mosts = map at_row (range_with_len 0 (length groups.rows))

  pub are_mosts : AreMaxTotals groups all_mosts
  unfolding all_mosts at_row
  are_mosts = record {
    one_each = length-map-range_with_len at_row 0 (length groups.rows);
    each = λ g below.
        subst (IsMost groups g)
        (sym (get_or-map-range_with_len at_row 0 (length groups.rows) g g 0 below (zero-add g)))
        (capped-IsMost groups valid.tree (mosts groups valid.tree) (mosts-capped groups valid.tree)
        g below);
  }

-- the plan's phrases
module _ (groups : Groups) (valid : IsInstance groups) (amounts : List ℕ)
    (is_plan : IsPlan groups amounts)
    (most : List ℕ) (known : AreMaxTotals groups most) where
  pub planning : IsPlanning groups most (λ _. true) amounts
  planning = plan-IsPlanning groups valid most (AreMaxTotals-capped groups valid.tree most known)
      amounts is_plan

  pub top_total : total groups.rows is_plan.allocation 0 ≡ get_or amounts 0 0
  top_total = sym (ap (λ (xs : List ℕ). get_or xs 0 0) is_plan.amounts_are
      ∙ get_or-map-range_with_len (total groups.rows is_plan.allocation) 0 (length groups.rows) 0 0
      0 valid.tree.has_root (zero-add 0))

-- a new pool of a plan is one of which its laws speak
opening_sound : (groups : Groups) (amounts : List ℕ) → IsInstance groups → IsPlan groups amounts
    → IsSound (opening groups amounts)
opening_sound groups amounts valid is_plan =
    let host = valid.host in
    let fit : groups.shape.period_us ≤ groups.shape.slice_us * MAX_PER_PROCESSOR =
    omega (arith, host.short_period, host.long_slice) in
    let few : slices_per_processor groups.shape ≤ MAX_PER_PROCESSOR =
    div-le_of_le-mul groups.shape.slice_us fit in
    sound_new groups.shape.processors (slices_per_processor groups.shape) groups.rows amounts
    valid.tree valid.few host.few_processors few
    (plan_is_planned groups amounts valid is_plan).one_each

pub stays_within : (groups : Groups) (amounts : List ℕ) → IsInstance groups → IsPlan groups amounts
    → (draws : List PoolEntry) (g : ℕ) →
    get_or (replay after (opening groups amounts) draws).drawn g 0 ≤ get_or amounts g 0
stays_within groups amounts valid is_plan draws g =
    let w = never_past_the_plan (opening groups amounts) draws
    (opening_sound groups amounts valid is_plan) g in
    omega (arith, w.0, w.1)

-- the calls at a place are those of the seat there
own_at : (seats : List PoolSeat) (k : ℕ) (d : PoolSeat) → k < length seats
    → calls_by seats k ≡ (get_or seats k d).own
own_at [] k d lt = absurd (omega arith)
own_at (s ∷ ss) zero d lt = refl
own_at (s ∷ ss) (suc k) d lt = own_at ss k d (omega arith)

-- what the seats of a closed lock had, each the calls of a drained worker
module _ (uses : ℕ → Bool) (groups : Groups) (lock_id : TableId) (seats : List PoolSeat)
    (history : List PoolEntry)
    (long : length seats ≡ groups.shape.processors)
    (back : AreBack uses groups.rows (slices_per_processor groups.shape) lock_id seats)
    (owns : All (λ s. s.own ≡ own_from 0 s.number history) seats) where
  some_seat : PoolSeat
  some_seat = fresh_seat lock_id 0 0

  seat_of : ℕ → PoolSeat
  seat_of caller = get_or seats caller some_seat

  back_of : (caller : ℕ) → caller < groups.shape.processors → IsDrainedSeat uses groups.rows
      (slices_per_processor groups.shape) lock_id caller (seat_of caller)
  unfolding seat_of
  back_of caller below = back caller some_seat (omega (arith, long, below))

  pub made_is : (caller : ℕ) → caller < groups.shape.processors
      → calls_by seats caller ≡ own_from 0 caller history
  unfolding seat_of
  made_is caller below = own_at seats caller some_seat (omega (arith, long, below))
      ∙ owns caller some_seat (omega (arith, long, below))
      ∙ ap (λ (n : ℕ). own_from 0 n history) (back_of caller below).number

  pub once : (caller : ℕ) → caller < groups.shape.processors
      → map (entry_of caller) (calls_by seats caller) ≡ own caller history
  once caller below = ap (map (entry_of caller)) (made_is caller below)
      ∙ own_entries 0 caller history

  pub drains : (caller : ℕ) → caller < groups.shape.processors →
      Drains uses groups.rows (slices_per_processor groups.shape) fresh
      (map (entry_of caller) (calls_by seats caller))
  unfolding seat_of
  drains caller below =
      let b = back_of caller below in
      subst (λ (l : List (Made PoolCall PoolReply)). Drains uses groups.rows
      (slices_per_processor groups.shape) fresh (map (entry_of caller) l))
      (sym (own_at seats caller some_seat (omega (arith, long, below))))
      (subst (λ (n : ℕ). Drains uses groups.rows (slices_per_processor groups.shape) fresh
      (map (entry_of n) (seat_of caller).own)) b.number b.drained)

-- The headline of a period.
pub carried : (uses : ℕ → Bool) (groups : Groups) (amounts : List ℕ) (lock_id : TableId)
    (seats : List PoolSeat) (history : List PoolEntry) (drawn : List ℕ) →
    IsInstance groups → IsPlan groups amounts → length seats ≡ groups.shape.processors →
    AreBack uses groups.rows (slices_per_processor groups.shape) lock_id seats →
    All (λ s. s.own ≡ own_from 0 s.number history) seats
    → All (λ e. e.seat < groups.shape.processors) history →
    IsLegal after answer (opening groups amounts) history
    → drawn ≡ (replay after (opening groups amounts) history).drawn →
    IsDrawnOut uses groups.rows amounts drawn →
    Headline uses groups amounts (calls_by seats) history drawn
carried uses groups amounts lock_id seats history drawn valid is_plan long back owns callers legal
    replayed out =
    let most : List ℕ = all_mosts groups valid in
    let known : AreMaxTotals groups most = are_mosts groups valid in
    let down : IsPlanning groups most (λ _. true) amounts =
    planning groups valid amounts is_plan most known in
    record {
      allocation = is_plan.allocation;
      plan = is_plan.amounts_are;
      serves = subst (IsGreatestTotal groups) (top_total groups valid amounts is_plan most known)
          is_plan.best.greatest;
      within = is_plan.best.within;
      most = most;
      mosts = known;
      limiting_groups = limited_total-is groups valid.tree most
          (AreMaxTotals-capped groups valid.tree most known) ∙ sym down.top;
      least_cost = λ g below inner. down.splits g below refl inner;
      no_gainful_move = λ g below inner.
          best_is_unmoved (get_or amounts g 0) (child_weights groups.rows g)
          (of_children groups.rows most g) (of_children groups.rows amounts g)
          (down.splits g below refl inner);
      one_thread = legal;
      ticket_order = made_is uses groups lock_id seats history long back owns;
      calls_once = once uses groups lock_id seats history long back owns;
      callers = callers;
      never_past = λ draws g. stays_within groups amounts valid is_plan (take draws history) g;
      drained = drains uses groups lock_id seats history long back owns;
      replayed = replayed;
      drawn_out = out;
    }
