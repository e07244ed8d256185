-- Each turn keeps what is known of the worker, which has drained in the end.
use Rattle.bw_model.specs.Host.{slices_per_processor}
use Rattle.std.proofs.Common.{rules, arith, ◌≡◌, ℕ, ◌+◌, inl, inr, length, List, [], ◌∷◌, ◌++◌}
use Rattle.std.proofs.Common.{refl, sym, ap, ◌∙◌, subst, map, None}
use Rattle.std.specs.Prelude.{MatchBool}
use Rattle.std.proofs.lemmas.Bool.{MatchBool-at_true, MatchBool-at_false}
use Rattle.std.proofs.lemmas.List.{length_push, nil_from_length}
use Rattle.bw_machine.specs.History.{entry_of}
use Rattle.bw_workers.specs.Rounds.{InRounds}
use Rattle.bw_workers.specs.Working.{calls_of, Keeps, DropsLeaf, IsDrainedSeat}
use Rattle.bw_workers.proofs.Rows.{times, leaves_once}
use Rattle.bw_workers.proofs.Turns.{IsWorking, begins, kept_turn, left_turn, reordered}
use Rattle.bw_workers.proofs.Turns.{stands, goes, goes_last, ends, GoesRound, round_begins}
use Rattle.bw_workers.proofs.Turns.{round_kept, round_left, round_ends}
use Rattle.bw_workers.proofs.worker.work.Goals.{then-loop-kept-test+else-not-is_empty}
use Rattle.bw_workers.proofs.worker.work.Goals.{else-loop-kept-test}
use Rattle.bw_workers.proofs.worker.work.Goals.{After-take_turn}
use Rattle.bw_workers.proofs.worker.work.Given as given
use Rattle.bw_workers.proofs.worker.work.Goals as goal

pub loop-kept-init : goal.loop-kept-init
loop-kept-init g c =
    let same = c.new-draws.ensures.seat in
    let none_made : calls_of c.new-draws.result.seat ≡ [] =
    ap calls_of same ∙ ap (map (entry_of c.args.seat.number)) c.requires.fresh in record {
      lock = ap (λ s. s.lock_id) same ∙ c.requires.lock;
      number = refl;
      idle = ap (λ s. s.pending) same ∙ c.requires.idle;
      gate = c.new-draws.ensures.gate;
      counted = c.new-draws.ensures.counted;
      works = begins (g.G.Gate.used c.args.gate.now) c.args.instance.now.rows
          (slices_per_processor c.args.instance.now.shape) (calls_of c.new-draws.result.seat)
          c.from_vec-leaves.result.items none_made
          (λ row. ap (times row) (c.from_vec-leaves.ensures.items ∙ c.requires.leaves)
          ∙ leaves_once c.args.instance.now.rows row);
      rounds = round_begins (g.G.Gate.used c.args.gate.now) c.from_vec-leaves.result.items
          (calls_of c.new-draws.result.seat) none_made;
      slices = search rules;
      few_slices = c.per_processor-slices.ensures.bound;
      kept = omega arith;
      leaves = omega arith;
      nth = omega arith;
      calls = omega arith;
    }

-- what was known of the worker, with the leaf that it asks first
works_of : (g : given.Over) (c : After-take_turn g) → IsWorking (g.G.Gate.used c.args.gate.now)
    c.args.instance.now.rows (slices_per_processor c.args.instance.now.shape)
    (calls_of c.loop-kept.draws.seat) (c.in-Some.leaf ∷ c.pop_front.new.self.items)
    c.loop-kept.kept
works_of g c = subst
    (λ (l : List ℕ). IsWorking (g.G.Gate.used c.args.gate.now) c.args.instance.now.rows
    (slices_per_processor c.args.instance.now.shape)
    (calls_of c.loop-kept.draws.seat) l c.loop-kept.kept) c.in-Some.ensures.items
    c.loop-kept.invariant.works

went_of : (g : given.Over) (c : After-take_turn g) → GoesRound (g.G.Gate.used c.args.gate.now)
    c.from_vec-leaves.result.items (calls_of c.loop-kept.draws.seat)
    (c.in-Some.leaf ∷ c.pop_front.new.self.items)
went_of g c = subst (λ (l : List ℕ). GoesRound (g.G.Gate.used c.args.gate.now)
    c.from_vec-leaves.result.items (calls_of c.loop-kept.draws.seat) l) c.in-Some.ensures.items
    c.loop-kept.invariant.rounds

told_of : (g : given.Over) (c : After-take_turn g) → MatchBool c.take_turn.result
    (Keeps (g.G.Gate.used c.args.gate.now) c.in-Some.leaf c.loop-kept.draws.seat
    c.take_turn.new.draws.seat)
    (DropsLeaf (g.G.Gate.used c.args.gate.now) c.in-Some.leaf c.loop-kept.draws.seat
    c.take_turn.new.draws.seat)
told_of g c = subst (λ gate. MatchBool c.take_turn.result
    (Keeps (g.G.Gate.used gate) c.in-Some.leaf c.loop-kept.draws.seat c.take_turn.new.draws.seat)
    (DropsLeaf (g.G.Gate.used gate) c.in-Some.leaf c.loop-kept.draws.seat
    c.take_turn.new.draws.seat))
    c.loop-kept.invariant.gate c.take_turn.ensures.turn

pub loop-kept-preserved-then-take_turn : goal.loop-kept-preserved-then-take_turn
loop-kept-preserved-then-take_turn g c =
    let was = c.loop-kept.invariant in
    let leaf = c.in-Some.leaf in
    let rest = c.pop_front.new.self.items in
    let works = works_of g (goal.at.loop-kept-preserved-then-take_turn g c).After-take_turn in
    let went = went_of g (goal.at.loop-kept-preserved-then-take_turn g c).After-take_turn in
    let told = told_of g (goal.at.loop-kept-preserved-then-take_turn g c).After-take_turn in
    let long : length c.loop-kept.leaves.items ≡ length rest + 1 = search rules in
    let turn = MatchBool-at_true _ _ c.if-take_turn.true told in
    let rows_are : c.put_last.new.leaves.items ≡ rest ++ leaf ∷ [] = search rules in
    let same_long : length c.put_last.new.leaves.items ≡ length rest + 1 =
    ap (length {A = ℕ}) rows_are ∙ length_push rest leaf in
    record {
      lock = turn.lock ∙ was.lock;
      number = turn.number ∙ was.number;
      idle = turn.idle;
      gate = c.take_turn.ensures.gate ∙ was.gate;
      counted = c.take_turn.ensures.counted;
      works = subst (λ (l : List ℕ). IsWorking (g.G.Gate.used c.args.gate.now)
          c.args.instance.now.rows (slices_per_processor c.args.instance.now.shape)
          (calls_of c.take_turn.new.draws.seat) l (c.loop-kept.kept + 1)) (sym rows_are)
          (reordered (g.G.Gate.used c.args.gate.now) c.args.instance.now.rows
          (slices_per_processor c.args.instance.now.shape)
          (calls_of c.take_turn.new.draws.seat) (leaf ∷ rest) (rest ++ leaf ∷ [])
          (c.loop-kept.kept + 1) (goes_last leaf rest)
          (kept_turn (g.G.Gate.used c.args.gate.now) c.args.instance.now.rows
          (slices_per_processor c.args.instance.now.shape) c.loop-kept.draws.seat
          c.take_turn.new.draws.seat (leaf ∷ rest) c.loop-kept.kept leaf works (stands leaf rest)
          turn));
      rounds = subst (λ (l : List ℕ). GoesRound (g.G.Gate.used c.args.gate.now)
          c.from_vec-leaves.result.items (calls_of c.take_turn.new.draws.seat) l) (sym rows_are)
          (round_kept (g.G.Gate.used c.args.gate.now) c.from_vec-leaves.result.items
          c.loop-kept.draws.seat c.take_turn.new.draws.seat leaf rest went turn);
      slices = was.slices;
      few_slices = was.few_slices;
      kept = omega (arith, c.loop-kept-test.true);
      leaves = omega (arith, long, same_long, was.leaves);
      nth = omega (arith, long, same_long, was.nth, c.take_turn.ensures.nth);
      calls = omega (arith, long, same_long, was.calls, turn.left);
    }

pub loop-kept-preserved : goal.loop-kept-preserved
loop-kept-preserved g c =
    let was = c.loop-kept.invariant in
    let leaf = c.in-Some.leaf in
    let rest = c.pop_front.new.self.items in
    let works = works_of g (goal.at.loop-kept-preserved g c).After-take_turn in
    let went = went_of g (goal.at.loop-kept-preserved g c).After-take_turn in
    let told = told_of g (goal.at.loop-kept-preserved g c).After-take_turn in
    let long : length c.loop-kept.leaves.items ≡ length rest + 1 = search rules in
    let turn = MatchBool-at_false _ _ c.if-take_turn.false told in
    record {
      lock = turn.lock ∙ was.lock;
      number = turn.number ∙ was.number;
      idle = turn.idle;
      gate = c.take_turn.ensures.gate ∙ was.gate;
      counted = c.take_turn.ensures.counted;
      works = left_turn (g.G.Gate.used c.args.gate.now) c.args.instance.now.rows
          (slices_per_processor c.args.instance.now.shape) c.loop-kept.draws.seat
          c.take_turn.new.draws.seat (leaf ∷ rest) rest c.loop-kept.kept leaf
          works (stands leaf rest) (goes leaf rest) turn;
      rounds = round_left (g.G.Gate.used c.args.gate.now) c.from_vec-leaves.result.items
          c.loop-kept.draws.seat c.take_turn.new.draws.seat leaf rest went turn;
      slices = was.slices;
      few_slices = was.few_slices;
      kept = omega (arith, c.loop-kept-test.true);
      leaves = omega (arith, long, was.leaves);
      nth = omega (arith, long, was.nth, c.take_turn.ensures.nth);
      calls = omega (arith, long, was.calls, turn.left);
    }

pub returns-clause-drained : goal.returns-clause-drained
returns-clause-drained g c = let was = c.loop-kept.invariant in
    let handed = c.into_seat.ensures in
    subst (IsDrainedSeat (g.G.Gate.used c.args.gate.now) c.args.instance.now.rows
    (slices_per_processor c.args.instance.now.shape) c.args.lock.now.lock_id c.args.seat.number)
    (sym handed) (record {
      lock = was.lock;
      number = was.number ∙ ap (λ s. s.number) c.new-draws.ensures.seat;
      idle = was.idle;
      rounds = subst (λ (l : List ℕ). InRounds (g.G.Gate.used c.args.gate.now) None l
          (calls_of c.loop-kept.draws.seat)) (c.from_vec-leaves.ensures.items ∙ c.requires.leaves)
          (round_ends (g.G.Gate.used c.args.gate.now) c.from_vec-leaves.result.items
          (calls_of c.loop-kept.draws.seat) c.loop-kept.leaves.items was.rounds);
      drained = ends (g.G.Gate.used c.args.gate.now) c.args.instance.now.rows
          (slices_per_processor c.args.instance.now.shape) (calls_of c.loop-kept.draws.seat)
          c.loop-kept.leaves.items c.loop-kept.kept was.works
          (elim c.loop-kept-test.branch [
            | then-loop-kept-test+else-not-is_empty w ↦
                inr (nil_from_length c.loop-kept.leaves.items (search rules))
            | else-loop-kept-test w ↦
                inl (omega (arith, was.kept, was.slices, w.loop-kept-test.false))
          ]);
    })
