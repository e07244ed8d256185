-- The goals of `certificate_columns` that are answered by hand.
use Rattle.std.proofs.Common.{List, Bool, Option, map, ap, ◌∙◌}
use Rattle.bw_model.specs.declared.mark.Mark.{Mark}
use Rattle.bw_model.specs.Certificate.{certified_of}
use Rattle.bw_columns.specs.Certificates.{flag_number, num_of, den_of, place_of_level}
use Rattle.bw_columns.proofs.Spelling.{columns_by}
use Rattle.bw_columns.proofs.certificate.certificate_columns.Goals as goal

pub returns : goal.returns
returns c =
    columns_by (certified_of c.args.certificate.now) c.in_ok-flag_numbers.field-0.items
    c.in_ok-nums.field-0.items c.in_ok-dens.field-0.items c.in_ok-places.field-0.items
    (c.in_ok-flag_numbers.ensures
    ∙ ap (λ (l : List Bool). map flag_number l) c.as_slice.ensures.value)
    (c.in_ok-nums.ensures
    ∙ ap (λ (l : List (Option Mark)). map num_of l) c.as_slice-levels.ensures.value)
    (c.in_ok-dens.ensures
    ∙ ap (λ (l : List (Option Mark)). map den_of l) c.as_slice-levels.ensures.value)
    (c.in_ok-places.ensures
    ∙ ap (λ (l : List (Option Mark)). map place_of_level l) c.as_slice-levels.ensures.value)
