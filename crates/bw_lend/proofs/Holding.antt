-- A helper that has claimed a place, and has it back where it was when it has given it back.
use Rattle.std.proofs.Common.{◌≡◌, ◌∙◌, ℕ, Bool, true, false, MatchBool, ap, sym, subst, drop}
use Rattle.atomic_table.specs.Seated.{TableId}
use Rattle.bw_lend.specs.Parts.{IsHelper}
use Rattle.bw_lend.specs.Plays.{Mine}

module _ {C R : Type 0} (lock : TableId) (k t : ℕ) (me mid now : Mine C R) where
  -- the call of a place that was claimed is made
  pub helped : (u : ℕ) (won : Bool)
      → MatchBool won (IsHelper lock k t false me mid) (mid ≡ me) → won ≡ true → u ≡ t
      → ((before : Mine C R) → IsHelper lock k u false before mid
      → IsHelper lock k u true before now) → IsHelper lock k t true me now
  helped u won claimed is same made =
      let held : IsHelper lock k t false me mid =
      subst (λ (w : Bool). MatchBool w (IsHelper lock k t false me mid) (mid ≡ me)) is claimed in
      subst (λ (x : ℕ). IsHelper lock k x true me now) same
      (made me (subst (λ (x : ℕ). IsHelper lock k x false me mid) (sym same) held))

  pub had_back : (made : Bool) (back : Mine C R) → IsHelper lock k t made me now
      → back ≡ (drop 1 now.0, drop 1 now.1) → back ≡ me
  had_back made back h is = is ∙ ap (λ (m : Mine C R). (drop 1 m.0, drop 1 m.1)) h.2
