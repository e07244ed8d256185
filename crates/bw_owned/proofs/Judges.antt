-- Judged rounds: where slices are told lost, rounds were harmed.
use Rattle.std.proofs.Common.{◌+◌, ◌*◌, ◌<◌, ◌≤◌, ◌≡◌, length, arith, refl, inl, inr}
use Rattle.std.specs.Prelude.{sum}
use Rattle.std.proofs.lemmas.Bool.{cases_lt}
use Rattle.bw_owned.specs.Harm.{with_more, IsLost}
use Rattle.bw_owned.specs.Judged.{last_rounds, last_slices}
use Rattle.bw_owned.specs.Laws.{LostIsHarm, HalfIsLost}
use Rattle.bw_owned.proofs.Losses.{harm_is_harm}

pub lost_is_harm : LostIsHarm
lost_is_harm free_used free_planned held_used held_planned sure guesses lost more judged some plan =
    elim (cases_lt (length held_used) 60) [
      | inl few ↦
          let none : lost ≡ 0 = (judged.few few).0 in
          absurd (omega (arith, none, some))
      | inr no_less ↦
          let enough : 60 ≤ length held_used = omega (arith, no_less) in
          let free = last_slices free_used free_planned in
          let held = last_slices held_used held_planned in
          let less : (sum (last_rounds held_used) + 0) * sum (last_rounds free_planned)
          < sum (last_rounds free_used) * sum (last_rounds held_planned) =
          harm_is_harm free (with_more held 0) plan ((judged.lost_is enough).least 0 some) in
          (enough, omega (arith, less))
    ]

half_lost : IsLost (record { used = 600; planned = 600 }) (record { used = 300; planned = 600 }) 270
half_lost = record {
  enough = λ harmed. let clash : ⊥ = omega (arith, harmed) in clash;
  least = λ fewer less. omega (arith, less);
}

pub half_is_lost : HalfIsLost
half_is_lost = record {
  few = λ few. absurd (omega (arith, few));
  lost_is = λ enough. half_lost;
  guessed_is = λ enough. refl;
}
