-- The goals of `amount_with` that are answered by hand.
use Rattle.std.proofs.Common.{◌≡◌, length, arith, rules, sym, ap, ◌∙◌}
use Rattle.std.specs.Prelude.{slice_index, slice_set}
use Rattle.std.proofs.lemmas.List.{length-set}
use Rattle.bw_owned.specs.Pods.{of_part, of_init, of_sidecar, of_lasting}
use Rattle.bw_model.proofs.CallerLemmas.{sum_below-more}
use Rattle.bw_owned.proofs.PodSums.{starting_more, reached_more, amount_is}
use Rattle.bw_owned.proofs.pod.amount_with.Goals as goal

pub loop-k-preserved : goal.loop-k-preserved
loop-k-preserved c =
    let kept = c.loop-k.invariant in
    let kinds = c.args.kinds.now in
    let amounts = slice_set c.args.amounts.now c.args.part c.args.own in
    let k = c.loop-k.k in
    let own : c.amount_at-amount.result ≡ slice_index amounts k = c.amount_at-amount.ensures in
    let init : c.of_init.result ≡ of_part of_init kinds amounts k =
    c.of_init.ensures ∙ ap (of_init (slice_index kinds k)) own in
    let sidecar : c.of_sidecar.result ≡ of_part of_sidecar kinds amounts k =
    c.of_sidecar.ensures ∙ ap (of_sidecar (slice_index kinds k)) own in
    let last : c.of_lasting.result ≡ of_part of_lasting kinds amounts k =
    c.of_lasting.ensures ∙ ap (of_lasting (slice_index kinds k)) own in
    let sidecars = sum_below-more k (of_part of_sidecar kinds amounts) in
    let lasting = sum_below-more k (of_part of_lasting kinds amounts) in
    let one = c.from-sidecars.ensures in
    let other = c.from-lasting.ensures in
    record {
      sidecars_are = omega (arith, kept.sidecars_are, sidecars, one, sidecar);
      lasting_is = omega (arith, kept.lasting_is, lasting, other, last);
      starting = starting_more kinds amounts k c.loop-k.most c.max-most.result c.loop-k.sidecars
          c.of_init.result kept.starting kept.sidecars_are init (search rules);
      reached = reached_more kinds amounts k c.loop-k.most c.max-most.result c.loop-k.sidecars
          c.of_init.result kept.reached kept.sidecars_are init (search rules);
      sidecars_fit = search rules;
      lasting_fits = search rules;
      most_fits = search rules;
    }

pub returns : goal.returns
returns c =
    let kept = c.loop-k.invariant in
    let amounts = slice_set c.args.amounts.now c.args.part c.args.own in
    let here : c.loop-k.k ≡ length c.args.amounts.now = omega arith in
    let all : c.loop-k.k ≡ length amounts =
    here ∙ sym (length-set c.args.amounts.now c.args.part c.args.own) in
    record {
      amount = amount_is c.args.kinds.now amounts c.loop-k.k c.loop-k.most
          c.loop-k.lasting c.max.result all kept.starting kept.reached kept.lasting_is
          (search rules);
    }
