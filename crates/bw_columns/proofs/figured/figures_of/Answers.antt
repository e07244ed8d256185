-- The goals of `figures_of` that are answered by hand.
use Rattle.std.proofs.Common.{List, Bool, map, ap, ◌∙◌}
use Rattle.bw_columns.specs.Requests.{row_count}
use Rattle.bw_columns.specs.Certificates.{flag_number}
use Rattle.bw_columns.proofs.Spelling.{long_by}
use Rattle.bw_columns.proofs.figured.figures_of.Goals as goal

pub returns-clause-long : goal.returns-clause-long
returns-clause-long c =
    let rows = c.in_ok-instance.ensures.rows in
    record {
      wants = c.in_ok-gathered.ensures.wants_each ∙ rows;
      mosts = c.in_ok-gathered.ensures.mosts.one_each ∙ rows;
      tights = long_by flag_number c.in_ok-gathered.gathered.tight.items
          c.in_ok-flag_numbers.field-0.items (row_count c.args.request.now)
          (c.in_ok-flag_numbers.ensures
          ∙ ap (λ (l : List Bool). map flag_number l) c.as_slice.ensures.value)
          (c.in_ok-gathered.ensures.flags_each ∙ rows);
      active = c.in_ok-figures.ensures.active_each ∙ rows;
      weights = c.in_ok-figures.ensures.weights_each ∙ rows;
      withheld = c.in_ok-figures.ensures.withheld_each ∙ rows;
    }
