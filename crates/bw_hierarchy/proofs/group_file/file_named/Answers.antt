-- The goals of `file_named` that are answered by hand.
use Rattle.std.proofs.Common.{ap, ◌∙◌}
use Rattle.bw_hierarchy.specs.GroupFiles.{file_named}
use Rattle.bw_hierarchy.proofs.FileNames.{found_name, named_again}
use Rattle.bw_hierarchy.proofs.group_file.file_named.Goals as goal

pub returns-clause-found : goal.returns-clause-found
returns-clause-found c = found_name c.args.name.now c.look_up.result c.look_up.ensures

pub returns-clause-only : goal.returns-clause-only
returns-clause-only c = λ file same. c.look_up.ensures ∙ ap file_named same ∙ named_again file
