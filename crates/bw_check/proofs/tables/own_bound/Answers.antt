-- The goals of `own_bound` that are answered by hand.
use Rattle.std.proofs.Common.{◌≡◌, ℕ, ◌<◌, Bool, true, false, cond, Option, None, length, refl}
use Rattle.std.proofs.Common.{sym, ◌∙◌, arith}
use Rattle.std.proofs.lemmas.List.{get_or_default}
use Rattle.bw_model.specs.Groups.{Groups, is_leaf, limit_of, demand_of}
use Rattle.bw_model.specs.Certificate.{Certified, certified_of, is_flagged}
use Rattle.bw_check.specs.Counts.{bound_over}
use Rattle.bw_check.proofs.tables.own_bound.Goals as goal
use Rattle.bw_check.proofs.tables.own_bound.Goals.{then-index+in_default, else-index}
use Rattle.bw_check.proofs.tables.own_bound.Goals.{Joined-index}

no_limit : (b : Bool) (limit : Option ℕ) → limit ≡ None → cond b limit None ≡ None
no_limit true limit e = e
no_limit false limit e = refl

no_flag : (b : Bool) (limit : Option ℕ) → b ≡ false → cond b limit None ≡ None
no_flag b limit e = rw e refl

module _ (groups : Groups) (certificate : Certified) (below g : ℕ)
    (none : cond (is_flagged certificate g) (limit_of groups g) None ≡ None) where
  at_leaf : is_leaf groups.rows g ≡ true
      → bound_over groups certificate below g ≡ demand_of groups.rows g
  at_leaf leaf = rw (none, leaf) refl

  at_inner : is_leaf groups.rows g ≡ false → bound_over groups certificate below g ≡ below
  at_inner inner = rw (none, inner) refl

-- the group has no limit that is flagged
none_of : (c : Joined-index) → cond (is_flagged (certified_of c.args.certificate.now) c.args.g)
    (limit_of (record { shape = c.args.shape; rows = c.args.rows.now }) c.args.g) None ≡ None
none_of c =
    let groups : Groups = record { shape = c.args.shape; rows = c.args.rows.now } in
    let certificate = certified_of c.args.certificate.now in
    let tight = c.args.certificate.now.tight.items in
    let there : c.args.g < length tight = omega (arith, c.requires.within, c.requires.flags_each) in
    let flag : c.index.result.now ≡ is_flagged certificate c.args.g =
    c.index.ensures ∙ get_or_default tight c.args.g c.index.result.now false there in
    elim c.if-index.branch [
      | then-index+in_default w ↦ no_limit (is_flagged certificate c.args.g)
          (limit_of groups c.args.g) (sym w.limit.ensures ∙ w.in_default.is)
      | else-index w ↦ no_flag (is_flagged certificate c.args.g) (limit_of groups c.args.g)
          (sym flag ∙ w.if-index.false)
    ]

pub returns-then-leaf : goal.returns-then-leaf
returns-then-leaf c below =
    let groups : Groups = record { shape = c.args.shape; rows = c.args.rows.now } in
    let leaf : is_leaf c.args.rows.now c.args.g ≡ true = sym c.requires.leaf ∙ c.if-leaf.true in
    at_leaf groups (certified_of c.args.certificate.now) below c.args.g
    (none_of (goal.at.returns-then-leaf c).Joined-index) leaf ∙ sym c.demand.ensures

pub returns-else-leaf : goal.returns-else-leaf
returns-else-leaf c below =
    let groups : Groups = record { shape = c.args.shape; rows = c.args.rows.now } in
    let inner : is_leaf c.args.rows.now c.args.g ≡ false = sym c.requires.leaf ∙ c.if-leaf.false in
    at_inner groups (certified_of c.args.certificate.now) below c.args.g
    (none_of (goal.at.returns-else-leaf c).Joined-index) inner
