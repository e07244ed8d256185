-- The goals of `held_of` that are answered by hand.
use Rattle.std.proofs.Common.{◌≡◌, ℕ, List, Bool, Option, length, map, ap, sym, ◌∙◌}
use Rattle.std.proofs.lemmas.List.{length-map}
use Rattle.std.proofs.lemmas.List.FromFn.{length-map-range_with_len}
use Rattle.bw_model.specs.declared.row.Row.{Row}
use Rattle.bw_model.specs.Groups.{Groups}
use Rattle.bw_model.specs.Certificate.{Certified, certified_of, IsAccepted}
use Rattle.bw_cert.specs.Levels.{AreTightFlags, AreLevels}
use Rattle.bw_questions.specs.HeldRule.{IsRound, round_of, round_limit, row_asking, demand_where}
use Rattle.bw_questions.specs.HeldRule.{is_hungry}
use Rattle.bw_columns.specs.Asked.{table_of, limit_number}
use Rattle.bw_columns.specs.Requests.{groups_for, row_count}
use Rattle.bw_columns.specs.Certificates.{columns_in, flags_in}
use Rattle.bw_columns.proofs.Asked.{rows_length, moved}
use Rattle.bw_columns.proofs.Spelling.{columns_are_spelled, columns_long, long_by}
use Rattle.bw_columns.proofs.held.held_of.Goals as goal

-- The rows of a round are as many as those that it is of.
round_rows : (used : Groups) (hungry : List Bool)
    → length (round_of used hungry).rows ≡ length used.rows
round_rows used hungry =
    length-map-range_with_len
    (row_asking used.rows (λ g. demand_where used.rows (is_hungry hungry g) g)) 0
    (length used.rows)

limit_each : (used : Groups) (hungry : List Bool) (demands amounts : List ℕ)
    (limits : List (Option ℕ)) → IsRound used hungry demands amounts limits
    → length limits ≡ length used.rows
limit_each used hungry demands amounts limits round =
    ap (length {A = Option ℕ}) round.limits_are
    ∙ length-map-range_with_len (round_limit used round.calm hungry round.floors amounts) 0
    (length used.rows)

demand_each : (used : Groups) (hungry : List Bool) (demands amounts : List ℕ)
    (limits : List (Option ℕ)) → IsRound used hungry demands amounts limits
    → length demands ≡ length used.rows
demand_each used hungry demands amounts limits round =
    ap (length {A = ℕ}) round.demands_are
    ∙ length-map (round_of used hungry).rows (λ (r : Row). r.demand)
    ∙ round_rows used hungry

pub hold-requires : goal.hold-requires
hold-requires c =
    ap (length {A = Bool}) (c.as_slice.ensures.value ∙ c.in_ok-tested.ensures)
    ∙ length-map c.args.hungry.now _
    ∙ c.requires c.in_ok-instance.ensures.reply.0 ∙ sym c.in_ok-instance.ensures.rows

pub returns-clause-held : goal.returns-clause-held
returns-clause-held c =
    let held = c.in_ok-held.held in
    let asked : Groups = groups_for c.args.request.now in
    let hungry : List Bool = flags_in c.args.hungry.now in
    let certificate : Certified = certified_of held.certificate in
    let groups = c.in_ok-instance.ensures.groups in
    let tested = c.as_slice.ensures.value ∙ c.in_ok-tested.ensures in
    let round : IsRound asked hungry held.demands.items held.amounts.items held.limits.items =
    moved
    (λ g h. IsRound g h held.demands.items held.amounts.items held.limits.items)
    c.in_ok-instance.instance asked c.as_slice.result.now hungry groups tested
    c.in_ok-held.ensures.round in
    record {
      limit_of_each = held.limits.items;
      round = round;
      limits_are = c.in_ok-limit_numbers.ensures
          ∙ ap (λ (l : List (Option ℕ)). map limit_number l) c.as_slice-2.ensures.value;
      certified = record {
        plan = round.amounts_are;
        certificate = certificate;
        columns = c.in_ok-certificate_columns.ensures;
        spelled = columns_are_spelled certificate (columns_in c.in_ok-certificate_columns.field-0)
            c.in_ok-certificate_columns.ensures;
        accepted = moved
            (λ g h. IsAccepted (round_of g h) held.amounts.items certificate)
            c.in_ok-instance.instance asked c.as_slice.result.now hungry groups tested
            c.in_ok-held.ensures.certified;
        flags = moved
            (λ g h. AreTightFlags (round_of g h) certificate)
            c.in_ok-instance.instance asked c.as_slice.result.now hungry groups tested
            c.in_ok-held.ensures.flags;
        levels = moved
            (λ g h. AreLevels (round_of g h) held.amounts.items certificate)
            c.in_ok-instance.instance asked c.as_slice.result.now hungry groups tested
            c.in_ok-held.ensures.levels;
      };
    }

pub returns-clause-long : goal.returns-clause-long
returns-clause-long c =
    let held = c.in_ok-held.held in
    let count : ℕ = row_count c.args.request.now in
    let asked : Groups = groups_for c.args.request.now in
    let hungry : List Bool = flags_in c.args.hungry.now in
    let certificate : Certified = certified_of held.certificate in
    let groups = c.in_ok-instance.ensures.groups in
    let tested = c.as_slice.ensures.value ∙ c.in_ok-tested.ensures in
    let round : IsRound asked hungry held.demands.items held.amounts.items held.limits.items =
    moved
    (λ g h. IsRound g h held.demands.items held.amounts.items held.limits.items)
    c.in_ok-instance.instance asked c.as_slice.result.now hungry groups tested
    c.in_ok-held.ensures.round in
    let accepted : IsAccepted (round_of asked hungry) held.amounts.items certificate =
    moved (λ g h. IsAccepted (round_of g h) held.amounts.items certificate)
    c.in_ok-instance.instance asked c.as_slice.result.now hungry groups tested
    c.in_ok-held.ensures.certified in
    let asked_rows : length asked.rows ≡ count =
    rows_length (table_of c.args.request.now.columns) in
    let rows : length (round_of asked hungry).rows ≡ count =
    round_rows asked hungry ∙ asked_rows in
    record {
      limits = long_by limit_number held.limits.items c.in_ok-limit_numbers.field-0.items count
          (c.in_ok-limit_numbers.ensures ∙ ap (λ (l : List (Option ℕ)). map limit_number l)
          c.as_slice-2.ensures.value)
          (limit_each asked hungry held.demands.items held.amounts.items held.limits.items round
          ∙ asked_rows);
      demands = demand_each asked hungry held.demands.items held.amounts.items held.limits.items
          round ∙ asked_rows;
      amounts = accepted.certified.amounts_each ∙ rows;
      certificate = columns_long certificate (columns_in c.in_ok-certificate_columns.field-0) count
          c.in_ok-certificate_columns.ensures (accepted.certified.flags_each ∙ rows)
          (accepted.certified.levels_each ∙ rows);
    }
