-- The demands before the first row is gathered, and the change that one row makes: its most, its
-- flag, and the want of its parent.
use Rattle.std.specs.Prelude.{◌≡◌, ℕ, ◌+◌, ◌^◌, ◌<◌, List, Option, Some, None, Bool, false, nat_lt}
use Rattle.std.specs.Prelude.{min, map, length, replicate, slice_index, slice_set, IfSome}
use Rattle.std.specs.Option.{option_map_or}
use Rattle.bw_model.specs.declared.row.Row.{Row}
use Rattle.bw_model.specs.Groups.{Groups, parent_of, limit_of}
use Rattle.bw_demand.specs.Demands.{Demands}

-- each wants its own demand, and nothing is given
abbrev pub ungathered : List Row → Demands
ungathered rows =
    record {
      want = map (λ row. row.demand) rows;
      most = replicate (length rows) 0;
      tight = replicate (length rows) false;
    }

-- a row's want, cut to its limit, in slices per period
abbrev pub given_to : Groups → List ℕ → ℕ → ℕ
given_to groups want g =
    option_map_or (min (slice_index want g)) (limit_of groups g) (slice_index want g)

-- whether its limit is below its want
abbrev pub is_cut : Groups → List ℕ → ℕ → Bool
is_cut groups want g =
    option_map_or (λ limit. nat_lt limit (slice_index want g)) (limit_of groups g) false

-- the wants, with so much more at the parent
abbrev pub added_above : Option ℕ → List ℕ → ℕ → List ℕ
added_above None want given = want
added_above (Some parent) want given = slice_set want parent (slice_index want parent + given)

-- the demands with one row more
abbrev pub with_row : Groups → Demands → ℕ → Demands
with_row groups demands g = record {
  want = added_above (parent_of groups.rows g) demands.want (given_to groups demands.want g);
  most = slice_set demands.most g (given_to groups demands.want g);
  tight = slice_set demands.tight g (is_cut groups demands.want g);
}

-- there is one want, most and flag for each row, and what is added to the want of the row's parent
-- fits
pub record CanGather (groups : Groups) (demands : Demands) (g : ℕ) : Type 0 where
  pub within : g < length groups.rows
  pub wants_each : length demands.want ≡ length groups.rows
  pub mosts_each : length demands.most ≡ length groups.rows
  pub flags_each : length demands.tight ≡ length groups.rows
  pub fits : IfSome (parent_of groups.rows g)
      (λ p. slice_index demands.want p + given_to groups demands.want g < 2 ^ 64)
