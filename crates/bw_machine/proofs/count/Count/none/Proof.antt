-- `none` makes the empty struct, with the count that its clause names. Assumes `Logic`.
use Rattle.std.proofs.Common.{[], ◌∷◌, refl}
use Rattle.std.proofs.raw_atomic.Walks.{proved}
use base.Fml.{ftrue}
use types.Kit.{‵, raw, ◌⊛◌, ◌$◌, ◌∵◌, !, qed, done, move, keep, split, fjoin, suffices}
use types.Part.{agg}
use types.Run.{enter, returns, no_more}
use types.ByLocal.{alloc_all, pass_all, free_all, look_at, sets}
use denote.Steps.{nothing}
use denote.Triple.Entry.{alive}
use denote.Triple.Walked.{Stays, walk_of, says, ends_at}
use Rattle.bw_machine.proofs.EmptyStruct.{empty, empty_made}
use Rattle.bw_machine.specs.contracts.count.Count as Count
use Rattle.bw_machine.specs.contracts.count.Count.none as F
use Rattle.bw_machine.proofs.count.Count.none.Statement.{statement}
use Rattle.bw_machine.proofs.count.Count.none.Code as code

abbrev stayed : Stays F.ended.signature.params F.ended.kept
stayed = tt

pub none_spec : {M : Type 1} → statement M
none_spec 𝓤 𝓛 𝓜 𝓡 wired =
    let c = F.clauses 𝓛 𝓜.mem 𝓡.returns in let W = walk_of 𝓛 F.ended stayed c in
    proved 𝓛 F.ended stayed c 𝓜 𝓡 tt
    F.Key.name code.function (code.unfolded 𝓤 𝓛.H 𝓜 𝓡 wired)
    (λ κs. tt) (λ κs. tt) (λ κs qs bounds a g are.
    let y : W.Ghost = ((κs, qs, bounds, a, tt), g) in
    let made : Count.the_row.Denot = record { steps = 0 } in
    qed 𝓛 ((raw (alive 𝓛 F.ended.signature κs qs) ⊛ ‵ ftrue) ∷ ‵ ftrue ∷ []) ∵ keep ! (0 ∷ []) $
    split ! $ keep ! (0 ∷ []) $
    enter ! _ _ _ _ _ $ alloc_all ! (λ l. pass_all ! refl tt $
    sets ! (agg ! (no_more !)) refl (tt, tt) $
    nothing ! $ empty_made ! $ fjoin ! $
    returns ! (look_at ! 0 refl) $ free_all ! refl $
    suffices ! _ (ends_at 𝓛 F.ended stayed c y empty made tt tt) $ says ! refl $
    nothing ! $ move ! (2 ∷ 0 ∷ 1 ∷ []) $ done !))
