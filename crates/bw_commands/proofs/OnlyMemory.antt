-- The path of a group that is there fails only when out of memory.
use Rattle.std.proofs.Common.{◌≡◌, Option, Some, None, refl, sym, ◌∙◌}
use Rattle.bw_tree.specs.Tree.{IsRefused}
use Rattle.bw_tree.specs.declared.fault.TreeFault.{TreeFault}
use Rattle.bw_tree.specs.declared.fault.TreeFault.TheVariants.{NotFound, Exists, BadName}
use Rattle.bw_tree.specs.declared.fault.TreeFault.TheVariants.{HasChildren, HasDemand}
use Rattle.bw_tree.specs.declared.fault.TreeFault.TheVariants.{ParentHasDemand, RootFixed, TreeFull}
use Rattle.bw_tree.specs.declared.fault.TreeFault.TheVariants.{IdsSpent, TooDeep, InnerDemand}
use Rattle.bw_tree.specs.declared.fault.TreeFault.TheVariants.{DemandTooLarge, OutOfMemory}

clash : (r : Option TreeFault) (e : TreeFault) → r ≡ None → r ≡ Some e → e ≡ OutOfMemory
clash r e none some = let wrong : None ≡ Some e = sym none ∙ some in absurd (cc)

pub only_memory : (r : Option TreeFault) (e : TreeFault) → r ≡ None → IsRefused r e
    → e ≡ OutOfMemory
only_memory r OutOfMemory none h = refl
only_memory r NotFound none h = clash r NotFound none h
only_memory r Exists none h = clash r Exists none h
only_memory r BadName none h = clash r BadName none h
only_memory r HasChildren none h = clash r HasChildren none h
only_memory r HasDemand none h = clash r HasDemand none h
only_memory r ParentHasDemand none h = clash r ParentHasDemand none h
only_memory r RootFixed none h = clash r RootFixed none h
only_memory r TreeFull none h = clash r TreeFull none h
only_memory r IdsSpent none h = clash r IdsSpent none h
only_memory r TooDeep none h = clash r TooDeep none h
only_memory r InnerDemand none h = clash r InnerDemand none h
only_memory r DemandTooLarge none h = clash r DemandTooLarge none h
