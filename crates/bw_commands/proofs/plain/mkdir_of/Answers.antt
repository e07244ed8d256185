-- The goals of `mkdir_of` that are answered by hand.
use Rattle.std.proofs.Common.{rules, ◌∙◌, ℕ, List, Ok, sym, ap}
use Rattle.bw_commands.specs.Command as command
use Rattle.bw_commands.specs.Plain.{IsWord}
use Rattle.bw_commands.proofs.PlainLines.{mkdir_line}
use Rattle.bw_commands.proofs.plain.mkdir_of.Goals as goal

pub returns-clause-known : goal.returns-clause-known
returns-clause-known c =
    let path = c.args.path.text.now in
    let is_word : IsWord path = search rules in
    mkdir_line path is_word ∙ ap (λ (l : List ℕ). Ok (command.Mkdir l)) (sym c.text.ensures)
