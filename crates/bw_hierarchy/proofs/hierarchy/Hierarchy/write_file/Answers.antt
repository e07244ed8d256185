-- The goal of `Hierarchy::write_file` that is answered by hand.
use Rattle.bw_hierarchy.proofs.Unwritten.{write_IsBehind}
use Rattle.bw_hierarchy.proofs.hierarchy.Hierarchy.write_file.Goals as goal

pub renew_row-requires : goal.renew_row-requires
renew_row-requires c =
    write_IsBehind c.self.inside.kept c.self.inside.tree c.write.new.tree c.self.inside.shape
    c.args.path.now c.args.file.now c.args.text.now c.in_ok-id.id c.self.invariant
    c.in_ok-id.ensures.found c.in_ok-id.ensures.set
