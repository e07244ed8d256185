-- The figures of the groups, in columns of numbers.
use Rattle.std.specs.Prelude.{◌≡◌, ℕ, List, map, length}
use Rattle.bw_model.specs.Groups.{Groups}
use Rattle.bw_demand.specs.Demands.{Demands, IsGathered}
use Rattle.bw_demand.specs.Figures.{AreFigures}
use Rattle.bw_columns.specs.Certificates.{flag_number}
use Rattle.bw_columns.specs.declared.figured.FigureColumns.{FigureColumns}

-- the wants, the mosts and the tight groups of the gathered demands, and the figures of these
pub record AreFigureColumns (groups : Groups) (wants mosts tights active active_weight withheld
    : List ℕ) : Type 0 where
  pub demands : Demands
  pub gathered : IsGathered groups demands
  pub wants_are : wants ≡ demands.want
  pub mosts_are : mosts ≡ demands.most
  pub tights_are : tights ≡ map flag_number demands.tight
  pub figures : AreFigures groups demands.most active active_weight withheld

-- the program's figures are those of the groups
abbrev pub AreFigured : Groups → FigureColumns → Type 0
AreFigured groups found = AreFigureColumns groups found.wants.items
    found.mosts.items found.tights.items found.figures.active.items
    found.figures.active_weight.items found.figures.withheld.items

-- one entry for each row in each column
pub record AreFiguresLong (found : FigureColumns) (count : ℕ) : Type 0 where
  pub wants : length found.wants.items ≡ count
  pub mosts : length found.mosts.items ≡ count
  pub tights : length found.tights.items ≡ count
  pub active : length found.figures.active.items ≡ count
  pub weights : length found.figures.active_weight.items ≡ count
  pub withheld : length found.figures.withheld.items ≡ count
