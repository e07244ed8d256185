-- In every history each group has drawn at most its ceiling, and no ceiling is above the opening
-- amount.
use Rattle.std.proofs.Common.{◌≡◌, ℕ, ◌≤◌, List, [], ◌∷◌, Bool, true, false, cond, Option, None}
use Rattle.std.proofs.Common.{Some, get_or, refl, arith, leb}
use Rattle.std.proofs.lemmas.Bool.{leb-true}
use Rattle.bw_machine.specs.History.{replay}
use Rattle.bw_pool.specs.declared.calls.PoolCall.{PoolCall}
use Rattle.bw_pool.specs.declared.calls.PoolCall.TheVariants.{Draw, GiveBack, Lower, Look}
use Rattle.bw_pool.specs.declared.calls.Refusal.{Refusal}
use Rattle.bw_pool.specs.Drained.{PoolEntry}
use Rattle.bw_pool.specs.Pool.{PoolState, IsSound, refusal, state_after, unless_refused, after}
use Rattle.bw_pool.specs.Pool.{held_by, gave_back, lowered_ceiling, leaf_refusal}
use Rattle.bw_pool.specs.Pool.{NeverPastThePlan, StaysSound, CutsNothing}
use Rattle.bw_pool.proofs.PoolSound.{sound_drew, sound_gave_back, sound_lowered, draw_passed}
use Rattle.bw_pool.proofs.PoolSound.{group_passed, set_below, held_le_processor, held_le_path}
use Rattle.bw_pool.proofs.GiveBackComputed.{back_passed}

pub record IsBelow (old new : PoolState) : Type 0 where
  pub sound : IsSound new
  pub lower : (g : ℕ) → get_or new.ceiling g 0 ≤ get_or old.ceiling g 0

same : (s : PoolState) → IsSound s → IsBelow s s
same s ok = record { sound = ok; lower = λ g. omega arith }

back_found : (s : PoolState) (seat leaf n : ℕ) → IsSound s → leaf_refusal s leaf n ≡ None
    → (b : Bool) → leb n (held_by s seat leaf) ≡ b →
    IsBelow s (cond b (gave_back s seat leaf n) s)
back_found s seat leaf n ok pass true e =
    let here = back_passed s seat leaf n pass (leb-true n (held_by s seat leaf) e) in
    record {
      sound = sound_gave_back s seat leaf n ok here.0 here.1 here.2 here.3;
      lower = λ g. omega arith;
    }
back_found s seat leaf n ok pass false e = same s ok

served_below : (s : PoolState) (seat : ℕ) (call : PoolCall) → IsSound s → refusal s seat call ≡ None
    → IsBelow s (state_after s seat call)
served_below s seat (Draw leaf ask) ok pass = let here = draw_passed s seat leaf ask pass in
    record { sound = sound_drew s seat leaf ask ok here.0 here.1 here.2; lower = λ g. omega arith }
served_below s seat (GiveBack leaf n) ok pass =
    back_found s seat leaf n ok pass (leb n (held_by s seat leaf)) refl
served_below s seat (Lower g to) ok pass =
    let lt = group_passed s g pass in
    record {
      sound = sound_lowered s g to ok lt;
      lower =
          set_below s.ceiling s.ceiling g (lowered_ceiling s g to) (omega (arith, ok.ceiling))
          (omega arith) (λ k. omega arith);
    }
served_below s seat (Look g) ok pass = same s ok

after_found : (s : PoolState) (seat : ℕ) (call : PoolCall) → IsSound s → (o : Option Refusal)
    → refusal s seat call ≡ o →
    IsBelow s (unless_refused o (state_after s seat call) s)
after_found s seat call ok None e = served_below s seat call ok e
after_found s seat call ok (Some r) e = same s ok

pub after_below : (s : PoolState) (seat : ℕ) (call : PoolCall) → IsSound s
    → IsBelow s (after s seat call)
after_below s seat call ok = after_found s seat call ok (refusal s seat call) refl

pub replay_below : (h : List PoolEntry) (s : PoolState) → IsSound s → IsBelow s (replay after s h)
replay_below [] s ok = same s ok
replay_below (e ∷ es) s ok =
    let one = after_below s e.seat e.call ok in
    let rest = replay_below es (after s e.seat e.call) one.sound in
    record { sound = rest.sound; lower = λ g. omega (arith, one.lower g, rest.lower g) }

pub never_past_the_plan : NeverPastThePlan
never_past_the_plan s h ok g =
    let b = replay_below h s ok in let w = b.sound in (w.within g, b.lower g)

pub stays_sound : StaysSound
stays_sound s h ok = (replay_below h s ok).sound

pub cuts_nothing : CutsNothing
cuts_nothing s seat leaf n ok pass has =
    let here = back_passed s seat leaf n pass has in (
      omega (arith, here.3, held_le_processor s seat leaf n ok here.0 here.1 here.2),
      held_le_path s seat leaf n ok here.0 here.1 here.2 here.3,
    )
