-- The level above a group that has one.
use Rattle.std.proofs.Common.{◌≡◌, ℕ, ◌<◌, List, true, false, cond, Option, None, Some, length}
use Rattle.std.proofs.Common.{get_or, eqb, refl, subst, sym, ◌∙◌, arith, inl, inr}
use Rattle.std.proofs.lemmas.Bool.{cases_Bool, ne_eqb}
use Rattle.bw_model.specs.declared.mark.Mark.{Mark}
use Rattle.bw_model.specs.declared.row.Row.{Row}
use Rattle.bw_model.specs.Groups.{parent_of}
use Rattle.bw_model.specs.Certificate.{Certified, level_at, sibling_place}
use Rattle.bw_check.specs.Counts.{ArePlaces}
use Rattle.bw_check.specs.Levels.{level_above}

module _ (rows : List Row) (amounts : List ℕ) (certificate : Certified) (c : ℕ) where
  -- a group above that shares something out, and its level
  pub record IsAbove (g : ℕ) (level : Mark) : Type 0 where
    pub parent : parent_of rows c ≡ Some g
    pub shares : 0 < get_or amounts g 0
    pub level_is : level_at certificate g ≡ Some level

  shared_level : ℕ → Option Mark
  shared_level g = cond (eqb (get_or amounts g 0) 0) None (level_at certificate g)

  above_from : (g : ℕ) (level : Mark) → IsAbove g level
      → level_above rows amounts certificate c ≡ Some level
  above_from g level a =
      let some : eqb (get_or amounts g 0) 0 ≡ false =
      ne_eqb (get_or amounts g 0) 0 (λ e. let h : 0 < get_or amounts g 0 =
      a.shares in omega (arith, e, h)) in
      rw (a.parent, some) a.level_is

  some_level : (level : Mark) → level_above rows amounts certificate c ≡ Some level
      → (g : ℕ) × IsAbove g level
  some_level level e =
      (elim (parent_of rows c) as
      (λ o. parent_of rows c ≡ o → (g : ℕ) × IsAbove g level) [
        | None ↦ λ up. absurd (let clash : None ≡ Some level = rw up at e in cc)
        | Some g ↦ λ up. elim (cases_Bool (eqb (get_or amounts g 0) 0)) [
          | inl empty ↦ absurd (let clash : None ≡ Some level = rw (up, empty) at e in cc)
          | inr shares ↦ (
            g,
            record {
              parent = up;
              shares = omega (arith, (λ (z : get_or amounts g 0 ≡ 0). differ g z shares));
              level_is = rw (up, shares) at e;
            },
          )
        ]
      ]) refl
    where
      differ : (g : ℕ) → get_or amounts g 0 ≡ 0 → eqb (get_or amounts g 0) 0 ≡ false → ⊥
      differ g z e = let clash : true ≡ false = sym (rw z refl) ∙ e in cc

  module _ (places : List ℕ) (placed : ArePlaces rows (length rows) places)
      (below : c < length rows) (claim : Mark → ℕ → Type 0) (level : Mark)
      (is : level_above rows amounts certificate c ≡ Some level) where
    -- what holds of the level above and the place in the table holds of each such group, and the
    -- other way round
    pub each_above : claim level (get_or places c 0) →
        (g : ℕ) (other : Mark) → parent_of rows c ≡ Some g → 0 < get_or amounts g 0
        → level_at certificate g ≡ Some other →
        claim other (sibling_place rows g c)
    each_above holds g other up shares level_is =
        let same : Some level ≡ Some other = sym is
        ∙ above_from g other (record { parent = up; shares = shares; level_is = level_is }) in
        let level_same : level ≡ other = cc in
        subst (λ (mark : Mark). claim mark (sibling_place rows g c)) level_same
        (subst (λ (place : ℕ). claim level place) (placed.each c g below up) holds)

    pub from_above :
        ((g : ℕ) (other : Mark) → parent_of rows c ≡ Some g → 0 < get_or amounts g 0
        → level_at certificate g ≡ Some other →
        claim other (sibling_place rows g c)) → claim level (get_or places c 0)
    from_above holds =
        let a = some_level level is in
        subst (λ (place : ℕ). claim level place) (sym (placed.each c a.0 below a.1.parent))
        (holds a.0 level a.1.parent a.1.shares a.1.level_is)
