-- A limit that is raised by a slice gives the slice, or is no longer what holds the group.
use Rattle.std.proofs.Common.{◌≡◌, ◌+◌, ◌<◌, ◌≤◌, length, get_or, ap, ◌∙◌}
use Rattle.std.proofs.Common.{arith, inl, inr}
use Rattle.std.specs.Prelude.{min}
use Rattle.std.proofs.lemmas.Bool.{cases_lt}
use Rattle.bw_model.specs.Demand.{want_of}
use Rattle.bw_model.proofs.CallerLemmas.{capped, AreMaxTotals-capped}
use Rattle.bw_questions.specs.changes.Cut.{LimitGivesOrLetsGo}
use Rattle.bw_questions.proofs.changes.HostLaws.{mosts_less, wants_less}
use Rattle.bw_questions.proofs.changes.Lacking.{within_most, most_is}
use Rattle.bw_questions.proofs.changes.RoomLaw.{more_room_takes}

pub gives_or_lets_go : LimitGivesOrLetsGo
gives_or_lets_go a b group limit most other_most xs ys va vb more here there mosts_are others_are
    is_plan is_other below full wants =
    let b_in : group < length b.rows = omega (arith, below, more.no_less.tree.as_many) in
    let keeps : get_or xs group 0 ≤ get_or ys group 0 =
    (more_room_takes a b group xs ys va vb more below is_plan is_other).gains in
    let wanted : want_of a most group ≤ want_of b other_most group =
    wants_less a b va vb more.no_less most other_most group
    (λ c c_in e. omega (
      arith,
      most_is a va most mosts_are c c_in,
      most_is b vb other_most others_are c (omega (arith, c_in, more.no_less.tree.as_many)),
      mosts_less a b va vb more.no_less c c_in,
    )) in
    let rule : get_or other_most group 0 ≡ min (want_of b other_most group) (limit + 1) =
    AreMaxTotals-capped b vb.tree other_most others_are group b_in
    ∙ ap (λ l. capped l (want_of b other_most group)) there in
    let fits : get_or ys group 0 ≤ get_or other_most group 0 =
    omega (
      arith,
      within_most b vb ys is_other group b_in,
      most_is b vb other_most others_are group b_in,
    ) in
    elim (cases_lt limit (get_or ys group 0)) [
      | inl more_given ↦ inl (omega (arith, more_given, fits, rule))
      | inr no_more ↦ inr (
        omega (arith, no_more, keeps, full),
        omega (arith, rule, wanted, wants),
      )
    ]
