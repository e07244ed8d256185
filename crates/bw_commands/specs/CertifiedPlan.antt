-- The answer to `cert`: the certified text of the plan.
use Rattle.std.specs.Prelude.{◌≡◌, ℕ, List, map}
use Rattle.std.specs.Option.{option_map}
use Rattle.bw_model.specs.Groups.{Groups}
use Rattle.bw_model.specs.Marks.{price_of}
use Rattle.bw_model.specs.Plan.{IsPlan}
use Rattle.bw_model.specs.Certificate.{Certified, IsAccepted}
use Rattle.bw_cert.specs.Levels.{AreLevels, AreTightFlags}
use Rattle.bw_cert.specs.Spelling.{Value, IsValue, spelling}
use Rattle.bw_tree.specs.Snapshot.{instance_of}
use Rattle.bw_hierarchy.specs.State.{HierarchyState}

-- the value that a text spells, of an instance, its amounts and their certificate
abbrev pub value_with : Groups → List ℕ → Certified → Value
value_with groups amounts certificate = record {
  shape = groups.shape;
  groups = record {
    rows = groups.rows;
    amounts = amounts;
    flags = certificate.tight;
    levels = map (option_map price_of) certificate.levels;
  };
}

-- The text is the one spelling of the plan of all groups with its certificate: exactly the tight
-- groups are flagged, and
-- a level stands at each group that shares something out. It is read again, and accepted.
pub record IsCertifiedPlan (h : HierarchyState) (text : List ℕ) : Type 0 where
  pub amounts : List ℕ
  pub certificate : Certified
  pub plan : IsPlan (instance_of h.tree h.shape) amounts
  pub flags : AreTightFlags (instance_of h.tree h.shape) certificate
  pub levels : AreLevels (instance_of h.tree h.shape) amounts certificate
  pub accepted : IsAccepted (instance_of h.tree h.shape) amounts certificate
  pub valid : IsValue (value_with (instance_of h.tree h.shape) amounts certificate)
  pub is : text ≡ spelling (value_with (instance_of h.tree h.shape) amounts certificate)
