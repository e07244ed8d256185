-- Groups with one setting changed.
use Rattle.std.specs.Prelude.{ℕ, Option, slice_set}
use Rattle.bw_model.specs.declared.limits.TheConstants.{MAX_PROCESSORS, MAX_WEIGHT}
use Rattle.bw_model.specs.declared.row.Row.{Row}
use Rattle.bw_model.specs.Groups.{Groups, row_of}
use Rattle.bw_questions.specs.declared.least.setting.Setting.{Setting}
use Rattle.bw_questions.specs.declared.least.setting.Setting.TheVariants.{Weight, Processors}

-- the groups with another row of one group
abbrev pub with_row : Groups → ℕ → Row → Groups
with_row groups group row =
    record { shape = groups.shape; rows = slice_set groups.rows group row }

-- the groups with another weight of one group
abbrev pub with_weight : Groups → ℕ → ℕ → Groups
with_weight groups group weight =
    with_row groups group (record (row_of groups.rows group) { weight = weight })

-- the groups with another limit of one group, or none
abbrev pub with_limit : Groups → ℕ → Option ℕ → Groups
with_limit groups group limit =
    with_row groups group (record (row_of groups.rows group) { limit = limit })

-- the groups on a host of the same period and slice with another number of processors
abbrev pub with_processors : Groups → ℕ → Groups
with_processors groups processors = record {
  shape = record groups.shape { processors = processors };
  rows = groups.rows;
}

-- the groups with another value of one setting
abbrev pub changed : Groups → Setting → ℕ → ℕ → Groups
changed groups Weight group value = with_weight groups group value
changed groups Processors group value = with_processors groups value

-- the greatest value of a setting
abbrev pub greatest_of : Setting → ℕ
greatest_of Weight = MAX_WEIGHT
greatest_of Processors = MAX_PROCESSORS
